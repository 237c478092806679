-- The names that the items of a source give.
use Rattle.std.specs.Prelude.{ℕ, List, Option, Some, None, Bool, false, not}
use Rattle.std.specs.List.{filter_map}
use Rattle.rv_asm_lines.specs.Item.{Item}
use Rattle.rv_asm_lines.specs.Globals.{global_of, is_global}

-- the names that items give, in the order of their lines
abbrev pub globals_in : List Item → List (List ℕ)
globals_in items = filter_map (λ i. global_of i.statement) items

-- whether a statement gives a name that isn't there, for which memory is taken
abbrev pub gives_new : Option (List ℕ) → List (List ℕ) → Bool
gives_new None names = false
gives_new (Some w) names = not (is_global w names)
