-- How lines are put together, one after another.
use Rattle.std.specs.Prelude.{ℕ, ◌≤◌, ◌+◌, ◌&&◌, if◌then◌else◌, Bool, true, false, List, [], ◌∷◌, ◌++◌, IfSome}
use Rattle.std.specs.Prelude.{Option, Some, None}
use Rattle.cl_machine.specs.declared.steps.Step.{Step}
use Rattle.rvmc_list.specs.Folding.{Line, folded_at_front, is_vain, is_wanted, lines_text, folded_text}
use Rattle.rvmc_list.specs.declared.folding.Wanted.{Wanted}

-- a line is begun into which others may be folded, behind which stands a number: so many more came up to now. What stands behind the
-- text with such a line, or without one, where these lines follow
abbrev pub behind : Option ℕ → List Line → List ℕ
behind None lines = lines_text false lines
behind (Some more) lines = folded_text (more + folded_at_front lines) ++ (10 ∷ lines_text true lines)

-- what a begun line gets where no other of its kind follows
abbrev pub closing : Option ℕ → List ℕ
closing None = []
closing (Some more) = folded_text more ++ 10 ∷ []

-- what a line adds, and the line that is begun behind it
abbrev pub piece : Option ℕ → Bool → List ℕ → List ℕ
piece None true text = text
piece (Some more) true text = []
piece begun false text = closing begun ++ (text ++ 10 ∷ [])

abbrev pub opened : Option ℕ → Bool → Option ℕ
opened None true = Some 0
opened (Some more) true = Some (more + 1)
opened begun false = None

abbrev pub is_folded : Wanted → Step → Bool
is_folded wanted e = wanted.calls && is_vain e.kind

-- what a sight adds
abbrev pub piece_of : Option ℕ → Line → Bool → List ℕ
piece_of begun line told = if told then piece begun line.folded line.text else []

abbrev pub opened_by : Wanted → Option ℕ → Step → Option ℕ
opened_by wanted begun e = if is_wanted wanted e then opened begun (is_folded wanted e) else begun

-- the begun line's number is at most the place
abbrev pub IsWithin : ℕ → Option ℕ → Type 0
IsWithin place begun = IfSome begun (λ more. more ≤ place)
