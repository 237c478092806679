-- A side with a shape has nothing made yet.
use Rattle.std.proofs.Common.{◌≡◌, ap, ◌∙◌, subst}
use Rattle.part_channel.specs.Sending.{SendView, AreSendLanes}
use Rattle.part_channel.proofs.Sent.{keeps_shape}
use Rattle.part_channel.proofs.sending.SendSide.shape.Goals as goal

pub invariant_of-self : goal.invariant_of-self
invariant_of-self c =
    let side = c.self.inside in
    let unshaped : side.parts ≡ 0 = ap (λ (s : SendView). s.parts) c.self.view_is ∙ c.requires.once in
    record {
      shape = record { most = c.requires.parts.1; largest = c.requires.size.1; whole = c.requires.size.2 };
      kept = keeps_shape side.keys.items c.args.parts side.freed side.ready
          (subst (λ n. AreSendLanes side.keys.items n side.freed side.ready) unshaped c.self.invariant.kept)
          c.requires.parts.1;
    }
