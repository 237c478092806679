-- What the text of a start and the text of all of them have in common.
use Rattle.std.specs.Prelude.{ℕ, Bool, List, [], ◌++◌, ◌==◌, codes, if◌then◌else◌}
use Rattle.std.specs.Fmt.{decimal}

-- `1 end`, `2 ends`
abbrev pub count_text : ℕ → List ℕ → List ℕ
count_text count word =
    if (count == 1) then codes "1 " ++ word else (decimal count ++ (codes " " ++ (word ++ codes "s")))

-- `2 outcomes of 20 states`
abbrev pub summary : ℕ → ℕ → List ℕ
summary ends states = count_text ends (codes "outcome") ++ (codes " of " ++ count_text states (codes "state"))

-- where some runs go on for ever
abbrev pub unending_line : Bool → List ℕ
unending_line unending = if unending then codes "some runs go on for ever\n" else []
