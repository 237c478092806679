-- What directives come to in the second pass: bytes, communicators and links.
use Rattle.std.specs.Prelude.{ℕ, ◌-◌, ◌*◌, ◌^◌, ℤ, pos, negsuc, neg_ℤ, List, [], ◌∷◌, ◌++◌, length, replicate, take}
use Rattle.std.specs.Prelude.{Result, Ok, Err, if◌then◌else◌}
use Rattle.std.specs.Int.{w128, to_le_bytes, cast_unsigned}
use Rattle.rv_image_types.specs.declared.images.Link.{Link}
use Rattle.rv_image_types.specs.Limits.{most_ranks}
use Rattle.rv_image.specs.Reading.{is_within, is_new_rank}
use Rattle.rv_asm_tokens.specs.declared.fault.AsmFaultKind.{AsmFaultKind}
use Rattle.rv_asm_tokens.specs.declared.fault.AsmFaultKind.TheVariants as kinds
use Rattle.rv_asm_tokens.specs.Fault.{◌>>=◌}
use Rattle.rv_asm_statements.specs.declared.directives.Directive.{Directive}
use Rattle.rv_asm_statements.specs.declared.directives.Directive.TheVariants as directive
use Rattle.rv_asm_statements.specs.declared.directives.Width.{Width}
use Rattle.rv_asm_statements.specs.declared.filled.Target.{Target as Goal}
use Rattle.rv_asm_lines.specs.Parts.{width_bytes, alignment_bytes, padding}
use Rattle.rv_asm_lines.specs.Resolved.{ranged, goal_offset}

-- ---- bytes

-- an integer that so many bytes hold, signed or unsigned
abbrev pub item_ranged : ℕ → ℤ → Result ℤ AsmFaultKind
item_ranged n z = ranged (neg_ℤ (pos (2 ^ (8 * n - 1)))) (pos (2 ^ (8 * n) - 1)) z

-- the low bytes of an integer in two's complement, the lowest first
unfoldable pub low_bytes : ℕ → ℤ → List ℕ
low_bytes n z = take n (to_le_bytes w128 (cast_unsigned w128 z))

-- an item: its number, or the address of its label
unfoldable pub item_bytes : List (List ℕ × ℕ) → Width → Goal → Result (List ℕ) AsmFaultKind
item_bytes labels width item =
    goal_offset labels 0 item >>= λ z. item_ranged (width_bytes width) z >>= λ y. Ok (low_bytes (width_bytes width) y)

-- items, from left to right
unfoldable pub items_bytes : List (List ℕ × ℕ) → Width → List Goal → Result (List ℕ) AsmFaultKind
items_bytes labels width [] = Ok []
items_bytes labels width (item ∷ items) =
    item_bytes labels width item >>= λ bytes. items_bytes labels width items >>= λ more. Ok (bytes ++ more)

-- the bytes of a directive at a place of its part
unfoldable pub directive_bytes : List (List ℕ × ℕ) → ℕ → Directive → Result (List ℕ) AsmFaultKind
directive_bytes labels at (directive.Items width items) = items_bytes labels width items
directive_bytes labels at (directive.Bytes bytes) = Ok bytes
directive_bytes labels at (directive.Zero n) = Ok (replicate n 0)
directive_bytes labels at (directive.Align n) = Ok (replicate (padding (alignment_bytes n) at) 0)
directive_bytes labels at _ = Ok []

-- ---- communicators and links

-- a rank of the image that was not named before
abbrev pub new_rank : ℕ → List ℕ → ℤ → Result ℕ AsmFaultKind
new_rank ranks named (pos n) = if is_new_rank ranks named n then Ok n else Err kinds.Directive
new_rank ranks named (negsuc n) = Err kinds.Directive

-- the members that are left, each new
unfoldable pub members_from : ℕ → List ℕ → List ℤ → Result (List ℕ) AsmFaultKind
members_from ranks named [] = Ok named
members_from ranks named (z ∷ zs) = new_rank ranks named z >>= λ rank. members_from ranks (named ++ rank ∷ []) zs

-- a communicator: 1 to 8 ranks
unfoldable pub members_of : ℕ → List ℤ → Result (List ℕ) AsmFaultKind
members_of ranks zs = if is_within 1 most_ranks (length zs) then members_from ranks [] zs else Err kinds.Directive

-- a link: two ranks, one not the other
unfoldable pub link_between : ℕ → ℤ → ℤ → Result Link AsmFaultKind
link_between ranks a b =
    new_rank ranks [] a >>= λ from. new_rank ranks (from ∷ []) b >>= λ to. Ok (record { from = from; to = to })
