use Rattle.std.proofs.Common.{◌≡◌, length}
use Rattle.rv_asm_lines.specs.Data.{items_bytes}
use Rattle.rv_asm_lines.specs.Appending.{appended}
use Rattle.rv_asm_lines.specs.LayoutView.{addresses_view}
use Rattle.rv_asm_lines.proofs.data.put_items.Given as goal

-- what is there and the items that are left come to what all come to
abbrev pub invariant-loop-rest : goal.invariant-loop-rest
invariant-loop-rest l = appended l.bytes.items (items_bytes (addresses_view l.layout) l.width l.rest) ≡ appended l.initial.bytes.items (items_bytes (addresses_view l.layout) l.width l.items)

abbrev pub decreases-loop-rest : goal.decreases-loop-rest
decreases-loop-rest l = length l.rest
