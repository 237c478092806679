use Rattle.std.proofs.Common.{refl}
use Rattle.cl_rank.proofs.QuickSends.{sends_so}
use Rattle.cl_rank.proofs.quick_sends.sent.Goals as goal

pub returns : goal.returns
returns c =
    sends_so c.args.state.now c.args.hart c.index-at.result.now c.of-sending.result c.request_of.result
    c.index-at.ensures c.requires (c.if-not-is_at.ensures.running refl) (c.if-not-is_at.ensures.ecall refl)
    (c.if-not-is_at.ensures.number refl) c.of-sending.ensures (c.if-not-is_short.ensures refl)
    c.request_of.ensures
