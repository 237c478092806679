-- Lines byte by byte, as they come.
use Rattle.std.specs.Prelude.{◌≡◌, ℕ, ◌==◌, Bool, true, false, List, [], ◌∷◌, ◌++◌}
use Rattle.cl_debug.specs.Debugging.{Debugging}
use Rattle.rvmc_gdb.specs.Following.{Follows}
use Rattle.rvmc_serve.specs.Lines.{AnswersLine, IsBegun, typed_byte}
use Rattle.rvmc_serve.specs.Sessions.{Reading}

-- the debugger, and what there is of a line
pub record Typed : Type 0 where
  pub debugging : Debugging
  pub line : List ℕ

abbrev pub begun : Debugging → Typed
begun debugging = record { debugging = debugging; line = [] }

-- a line ends, and is answered
pub record EndsLine (old new : Typed) (text : List ℕ) : Type 0 where
  pub answers : AnswersLine old.debugging old.line new.debugging text
  pub empty : new.line ≡ []

-- a byte of a line, or the newline behind one
abbrev pub TakesAs : Bool → Typed → ℕ → Typed → List ℕ → Type 0
TakesAs true old byte new text = EndsLine old new text
TakesAs false old byte new text = (new ≡ record { debugging = old.debugging; line = old.line ++ byte ∷ [] }) × (text ≡ [])

abbrev pub Takes : Typed → ℕ → Typed → List ℕ → Type 0
Takes old byte new text = TakesAs (typed_byte byte == 10) old (typed_byte byte) new text

abbrev pub TakesAll : Typed → List ℕ → Typed → List ℕ → Type 0
TakesAll old bytes new text = Follows Takes old bytes new text

-- of these bytes some are taken; or all are, and the last line ends
abbrev pub HearsSome : Typed → List ℕ → List ℕ → Type 0
HearsSome old bytes text =
    (heard : List ℕ) × (unheard : List ℕ) × (bytes ≡ heard ++ unheard) × (new : Typed) × TakesAll old heard new text

pub record HearsAll (old : Typed) (bytes text : List ℕ) : Type 0 where
  pub last : Typed
  pub new : Typed
  pub one : List ℕ
  pub other : List ℕ
  pub takes : TakesAll old bytes last one
  pub ends : EndsLine last new other
  pub is : text ≡ one ++ other

-- a record was opened, and nothing is typed yet
abbrev pub IsBegunAs : Reading → Typed → Type 0
IsBegunAs read typed = (debugging : Debugging) × IsBegun read debugging × (typed ≡ begun debugging)
