use Rattle.std.proofs.Common.{◌∙◌, ap, arith, sym}
use Rattle.std.specs.Prelude.{length}
use Rattle.mp_request.proofs.Filled.{filled_up}
use Rattle.mp_request.proofs.kept.KeptRequests.live.Goals as goal

pub returns : goal.returns
returns c =
    let xs = c.self.inside.slots.items in
    filled_up xs c.extend_from_slice.new.self.items c.resize.new.self.items _ c.self.invariant
    (cc (c.in_ok-extend_from_slice.ensures.items, c.in_ok-slots.ensures.items, c.as_slice.ensures.value))
    (omega (arith, c.in_ok-extend_from_slice.ensures.len, c.in_ok-slots.ensures.len, ap length c.as_slice.ensures.value))
    c.in_ok-resize.ensures.items
    ∙ c.self.view_is
