-- What a hint leaves on standard error where nothing else is told.
use Rattle.std.specs.Prelude.{◌≡◌, ◌==◌, ℕ, false, List, ◌∷◌, [], ◌++◌, Option, codes}
use Rattle.std.specs.Io.{StartsWith}
use Rattle.std.specs.Io.KnownBytes.{Appends}
use Rattle.std.specs.List.{list_any}

-- `hint: `, a text, and a line break
abbrev pub hint_line : List ℕ → List ℕ
hint_line text = codes "hint: " ++ (text ++ 10 ∷ [])

-- no line break stands in a text
abbrev pub IsOneLine : List ℕ → Type 0
IsOneLine text = list_any (λ byte. byte == 10) text ≡ false

-- nothing, or one such line, or as much of it as could be written
pub record IsHint (bytes : List ℕ) : Type 0 where
  pub text : List ℕ
  pub one_line : IsOneLine text
  pub begins : StartsWith (hint_line text) bytes

-- what was there stays, and behind it stands that alone
abbrev pub AppendsHint : Option (List ℕ) → Option (List ℕ) → Type 0
AppendsHint old new = (bytes : List ℕ) × IsHint bytes × Appends old new bytes
