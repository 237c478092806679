-- Walks along lists.
use Rattle.std.specs.Prelude.{ℕ, List, [], ◌∷◌, Option, Some, None, if◌then◌else◌}
use Rattle.std.specs.Str.{bytes_eq}
use Rattle.rv_asm_tokens.specs.Fault.{if_some}

-- the first that f gives
abbrev pub first_given : {A B : Type 0} → (A → Option B) → List A → Option B
first_given f [] = None
first_given f (x ∷ xs) = if_some (f x) (first_given f xs) Some

-- all that f gives, if it gives each
abbrev pub all_given : {A B : Type 0} → (A → Option B) → List A → Option (List B)
all_given f [] = Some []
all_given f (x ∷ xs) = if_some (f x) None (λ y. if_some (all_given f xs) None (λ ys. Some (y ∷ ys)))

-- what stands beside a name in a row, if the row is the name's
abbrev pub beside : {A : Type 0} → List ℕ → List ℕ × A → Option A
beside w row = if bytes_eq row.0 w then Some row.1 else None
