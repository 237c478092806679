-- What each step changed, as text: a line for each.
use Rattle.std.specs.Prelude.{ℕ, List, [], ◌∷◌, ◌++◌, codes}
use Rattle.std.specs.Fmt.{decimal}
use Rattle.std.specs.List.{flat_map}
use Rattle.rvmc_changes.specs.Changes.{Difference}
use Rattle.rvmc_changes.specs.declared.edits.Edit.{Edit}
use Rattle.rvmc_picture.specs.Below.{newline}
use Rattle.rvmc_page.specs.Escaped.{hex_pairs}
use Rattle.rvmc_page.specs.Starts.{hex, stand_text}

-- a register, as ` x10.0.1f`: its number, old and new
unfoldable pub changed_register : Edit → List ℕ
changed_register e = codes " x" ++ (decimal e.place ++ (codes "." ++ (hex e.old ++ (codes "." ++ hex e.new))))

-- a byte of the memory, as ` m1fa0.0.68`: its address, old and new
unfoldable pub changed_byte : Edit → List ℕ
changed_byte e = codes " m" ++ (hex e.place ++ (codes "." ++ (hex e.old ++ (codes "." ++ hex e.new))))

-- what was put out, as ` o6869`
abbrev pub put_text : List ℕ → List ℕ
put_text [] = []
put_text (b ∷ bytes) = codes " o" ++ hex_pairs (b ∷ bytes)

-- a step's rank and hart, and where the hart stood and stands, as `0 1 1a4 1a8`
abbrev pub change_head : Difference → List ℕ
change_head c =
    decimal c.rank
    ++ (codes " " ++ (decimal c.hart ++ (codes " " ++ (stand_text c.old ++ (codes " " ++ stand_text c.new)))))

-- and behind it what else the step changed, as `0 1 1a4 1a8 x10.0.1f`
unfoldable pub change_text : Difference → List ℕ
change_text c =
    change_head c
    ++ (flat_map changed_register c.registers ++ (flat_map changed_byte c.bytes ++ (put_text c.put ++ newline)))

abbrev pub changes_text : List Difference → List ℕ
changes_text changes = flat_map change_text changes
