-- Texts that stand in others.
use Rattle.std.specs.Prelude.{ℕ, List, [], ◌++◌}
use Rattle.std.proofs.Common.{sym, ap, ◌∙◌}
use Rattle.std.proofs.lemmas.List.{append_assoc, append-nil}
use Rattle.test_program.specs.Texts.{StandsIn}

pub itself : (piece : List ℕ) → StandsIn piece piece
itself piece = record { front = []; behind = []; is = sym (append-nil piece) }

-- with something before it
pub put_before : (piece other whole : List ℕ) → StandsIn piece whole → StandsIn piece (other ++ whole)
put_before piece other whole h = record {
  front = other ++ h.front;
  behind = h.behind;
  is = ap (λ text. other ++ text) h.is ∙ sym (append_assoc other h.front (piece ++ h.behind));
}

-- with something behind it
pub put_behind : (piece whole other : List ℕ) → StandsIn piece whole → StandsIn piece (whole ++ other)
put_behind piece whole other h = record {
  front = h.front;
  behind = h.behind ++ other;
  is = ap (λ text. text ++ other) h.is
      ∙ append_assoc h.front (piece ++ h.behind) other
      ∙ ap (λ text. h.front ++ text) (append_assoc piece h.behind other);
}
