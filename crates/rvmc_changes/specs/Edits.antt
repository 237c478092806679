-- The places in which two lists differ, and what stands there.
use Rattle.std.specs.Prelude.{ℕ, ◌+◌, ◌==◌, if◌then◌else◌, List, [], ◌∷◌}
use Rattle.rvmc_changes.specs.declared.edits.Edit.{Edit}

-- of two lists whose first items stand at this place; in order
abbrev pub edits_from : ℕ → List ℕ → List ℕ → List Edit
edits_from place [] news = []
edits_from place (o ∷ olds) [] = []
edits_from place (o ∷ olds) (n ∷ news) =
    if o == n then edits_from (place + 1) olds news
    else record { place = place; old = o; new = n } ∷ edits_from (place + 1) olds news
