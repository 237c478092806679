-- Where watched bytes stand.
use Rattle.std.specs.Prelude.{ℕ, ◌≤◌, List, take}
use Rattle.rvmc_motions.specs.declared.watching.Held.{Held}
use Rattle.rvmc_motions.specs.declared.watching.Held.TheVariants.{Few, Many}

-- bytes, wherever they stand: the first of eight, or those of a list
abbrev pub held_bytes : Held → List ℕ
held_bytes (Few bytes count) = take count bytes
held_bytes (Many bytes) = bytes.items

abbrev pub IsHeld : Held → Type 0
IsHeld (Few bytes count) = count ≤ 8
IsHeld (Many bytes) = Unit {0}
