-- A side that learns its cut has got nothing yet.
use Rattle.std.proofs.Common.{◌≡◌, ◌*◌, sym, ap, ◌∙◌, subst}
use Rattle.part_channel.specs.Receiving.{RecvView, AreRecvLanes}
use Rattle.part_channel.proofs.Received.{keeps_cut}
use Rattle.part_channel.proofs.receiving.RecvSide.cut.Goals as goal

pub invariant_of-self : goal.invariant_of-self
invariant_of-self c =
    let side = c.self.inside in
    let unknown : side.boxes ≡ 0 = ap (λ (s : RecvView). s.boxes) c.self.view_is ∙ c.requires.once in
    record {
      shape = c.self.invariant.shape;
      cut = record {
        shape = record { most = c.requires.parts.1; largest = c.requires.size.1; whole = c.requires.size.2 };
        total = λ _. c.requires.total ∙ ap (λ (s : RecvView). s.parts * s.size) (sym c.self.view_is);
      };
      kept = keeps_cut side.keys.items c.args.parts side.active side.taken
          (subst (λ n. AreRecvLanes side.keys.items n side.active side.taken) unknown c.self.invariant.kept)
          c.requires.parts.1;
    }
