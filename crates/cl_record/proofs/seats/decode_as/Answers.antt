use Rattle.std.proofs.Common.{subst, sym}
use Rattle.cl_rank.specs.Roomy.{IsRoomy}
use Rattle.cl_record.proofs.seats.decode_as.Goals as goal

pub invariant_of-rank-clause-room : goal.invariant_of-rank-clause-room
invariant_of-rank-clause-room c =
    let rank = c.args.rank.now in
    subst (λ state. IsRoomy state rank.roomy rank.again) (sym c.decode_text.ensures) rank.room
