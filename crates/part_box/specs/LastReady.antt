-- The stamp of the last thing that was made ready.
use Rattle.std.specs.Prelude.{ℕ, List, [], ◌∷◌}
use Rattle.part_box.specs.declared.view.Made.{Made}

-- the stamp of the last thing that was made ready, 0 at first
abbrev pub last_ready : List Made → ℕ
last_ready [] = 0
last_ready (m ∷ []) = m.stamp
last_ready (m ∷ n ∷ made) = last_ready (n ∷ made)
