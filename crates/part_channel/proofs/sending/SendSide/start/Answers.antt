-- Between phases a phase may begin, and no partition is ready.
use Rattle.std.proofs.Common.{◌≡◌, ◌≤◌, sym, ap, ◌∙◌, arith}
use Rattle.part_channel.specs.Sending.{SendView, phase_of, none_marked, begun}
use Rattle.part_channel.proofs.Sent.{keeps_start, idle_unmarked}
use Rattle.part_channel.proofs.sending.SendSide.start.Goals as goal

pub invariant_of-self : goal.invariant_of-self
invariant_of-self c =
    let side = c.self.inside in
    let within : side.freed ≤ side.parts = c.self.invariant.kept.within in
    record {
      shape = c.self.invariant.shape;
      kept = keeps_start side.keys.items side.parts side.freed side.ready c.self.invariant.kept (omega arith);
    }

pub returns-clause-begun : goal.returns-clause-begun
returns-clause-begun c =
    let side = c.self.inside in
    let within : side.freed ≤ side.parts = c.self.invariant.kept.within in
    let ended : side.freed ≡ side.parts = omega arith in
    let none : side.ready ≡ none_marked =
    idle_unmarked side.keys.items side.parts side.freed side.ready c.self.invariant.kept ended in (
      sym (ap (λ (s : SendView). s.freed) c.self.view_is) ∙ (ended ∙ ap (λ (s : SendView). s.parts) c.self.view_is),
      (λ i. record {
        keys = side.keys.items;
        parts = side.parts;
        size = side.size;
        phase = phase_of side.keys.items side.ready;
        ready = none i;
        freed = 0;
      }) ∙ ap begun c.self.view_is,
    )
