use Rattle.std.proofs.Common.{refl}
use Rattle.cl_rank.proofs.QuickReceives.{receives_so}
use Rattle.cl_rank.proofs.quick_receives.received.Goals as goal

pub returns : goal.returns
returns c =
    receives_so c.args.state.now c.args.hart c.index-at.result.now c.of-receiving.result _
    c.index-at.ensures c.requires (c.if-not-is_at_recv.ensures.running refl) (c.if-not-is_at_recv.ensures.ecall refl)
    (c.if-not-is_at_recv.ensures.number refl) (c.if-not-is_at_recv.ensures.status refl) c.of-receiving.ensures
    (c.if-not-is_roomy.ensures refl) refl
