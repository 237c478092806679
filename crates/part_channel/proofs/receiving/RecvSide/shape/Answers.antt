-- A side whose cut isn't known has no total to keep.
use Rattle.std.proofs.Common.{◌≡◌, ap, ◌∙◌, arith}
use Rattle.part_channel.specs.Receiving.{RecvView}
use Rattle.part_channel.proofs.receiving.RecvSide.shape.Goals as goal

pub invariant_of-self : goal.invariant_of-self
invariant_of-self c =
    let unknown : c.self.inside.boxes ≡ 0 = ap (λ (s : RecvView). s.boxes) c.self.view_is ∙ c.requires.once.1 in
    record {
      shape = record { most = c.requires.parts.1; largest = c.requires.size.1; whole = c.requires.size.2 };
      cut = record { shape = c.self.invariant.cut.shape; total = λ some. absurd (omega (arith, some, unknown)) };
      kept = c.self.invariant.kept;
    }
