-- The turns of a running rank that do one instruction.
use Rattle.std.proofs.Common.{◌≡◌, ℕ, ◌<◌, ◌+◌, ◌^◌, List, None, refl, subst, arith}
use Rattle.std.specs.Prelude.{vec_len}
use Rattle.part_channel.specs.Receiving.{RecvView}
use Rattle.part_channel.specs.Sending.{SendView}
use Rattle.cl_state.specs.declared.asking.Answer.TheVariants as answer
use Rattle.cl_state.specs.declared.asking.Ask.TheVariants as ask
use Rattle.cl_state.specs.declared.state.RankState.{RankState}
use Rattle.cl_state.specs.Asked.{asked}
use Rattle.cl_state.specs.Rank.{Rank}
use Rattle.cl_state.specs.Room.{rank_of}
use Rattle.cl_state.specs.Told.{told}
use Rattle.cl_rank.specs.declared.ranks.Rank.{Rank as Running}
use Rattle.cl_deeds.specs.Deeds.{Act}
use Rattle.cl_rank.specs.Fitting.{RequestsFit}
use Rattle.cl_sides.specs.Sides.{AreSides, sides_in}
use Rattle.cl_sides.specs.Steps.{begun_at, begun_receiver, begun_sender}
use Rattle.cl_rank.proofs.Moves.{Moved, alone_moved, fits_at, row_at, started_at}
use Rattle.cl_rank.proofs.Rows.{RowFits}
use Rattle.cl_rank.proofs.Went.{Went}

-- an instruction begins no phase
plain_starts : (r : Rank) (hart : ℕ) → asked r hart ≡ ask.Plain → started_at r hart ≡ None
plain_starts r hart asks =
    (subst (λ a. RowFits r.site.version r.requests r.phases (started_at r hart) a (row_at r hart)) asks (fits_at r hart)).0

-- what an instruction makes of a rank: no side changes
pub plain_moved : (old new : Rank) (hart : ℕ) (sends : List (ℕ × SendView)) (recvs : List (ℕ × RecvView))
    → AreSides old.site.version old.phases old.clock (sides_in sends recvs) → RequestsFit old.requests old.phases
    → asked old hart ≡ ask.Plain → new ≡ told old hart answer.Alone (old.clock + 1)
    → Moved old new (sides_in sends recvs) (sides_in sends recvs) (old.clock + 1) Act.Plain
plain_moved old new hart sends recvs sides fit asks is =
    subst (λ o. Moved old new (sides_in sends recvs) (sides_in (begun_at o begun_sender sends)
    (begun_at o begun_receiver recvs)) (old.clock + 1) Act.Plain)
    (plain_starts old hart asks)
    (alone_moved old new hart (old.clock + 1) Act.Plain sends recvs sides fit asks refl refl (omega arith) is)

-- a turn that does one instruction
pub went_plain : (r : Running) (hart : ℕ) (new : RankState) → hart < vec_len r.state.harts → r.state.clock + 1 < 2 ^ 62
    → asked (rank_of r.state) hart ≡ ask.Plain
    → rank_of new ≡ told (rank_of r.state) hart answer.Alone (r.state.clock + 1)
    → Went r hart (r.state.clock + 1) Act.Plain new (sides_in r.sends.items r.recvs.items)
went_plain r hart new there low asks is = record {
  there = there;
  low = low;
  answers = asks;
  stamps = refl;
  tells = is;
  moved = plain_moved (rank_of r.state) (rank_of new) hart r.sends.items r.recvs.items r.sides r.fit asks is;
}
