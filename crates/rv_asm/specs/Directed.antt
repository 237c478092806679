-- What the statements of a source say of its image: how long its parts are, and what its directives come to.
use Rattle.std.specs.Prelude.{◌≡◌, ℕ, ◌+◌, ◌*◌, ◌%◌, ◌<◌, ℤ, pos, List, [], ◌∷◌, map, codes, length, Option, Some}
use Rattle.std.specs.Prelude.{None, Ok, unwrap_or}
use Rattle.std.specs.List.{filter_map}
use Rattle.rv_decode.specs.declared.instruction.Instr.{Instr}
use Rattle.rv_image_types.specs.declared.images.ImageParts.{ImageParts}
use Rattle.rv_image_types.specs.declared.images.Link.{Link}
use Rattle.rv_asm_statements.specs.declared.directives.Alignment.TheVariants.{One, Two, Four, Eight, Sixteen}
use Rattle.rv_asm_statements.specs.declared.directives.Directive.{Directive}
use Rattle.rv_asm_statements.specs.declared.directives.Directive.TheVariants as directive
use Rattle.rv_asm_statements.specs.declared.directives.Width.TheVariants.{Byte, Half, Word, Double}
use Rattle.rv_asm_statements.specs.declared.statements.Statement.{Statement}
use Rattle.rv_asm_statements.specs.declared.statements.Statement.TheVariants.{Label, Instruction, Directive as Directed}
use Rattle.rv_asm_lines.specs.Item.{Item}
use Rattle.rv_asm_lines.specs.declared.parts.Part.TheVariants.{Text, Data}
use Rattle.rv_asm_lines.specs.Layout.{Layout, addresses}
use Rattle.rv_asm_lines.specs.Parts.{length_of}
use Rattle.rv_asm_lines.specs.Places.{total}
use Rattle.rv_asm_lines.specs.Resolved.{address_in, instrs_of}

-- ---- lengths

-- the bytes that are missing to a multiple of n
pub record IsPadding (n at bytes : ℕ) : Type 0 where
  pub few : bytes < n
  pub whole : (at + bytes) % n ≡ 0

-- how many bytes a directive takes at a place of its part
abbrev pub DirectiveTakes : ℕ → Directive → ℕ → Type 0
DirectiveTakes at (directive.Items Byte items) bytes = bytes ≡ length items
DirectiveTakes at (directive.Items Half items) bytes = bytes ≡ 2 * length items
DirectiveTakes at (directive.Items Word items) bytes = bytes ≡ 4 * length items
DirectiveTakes at (directive.Items Double items) bytes = bytes ≡ 8 * length items
DirectiveTakes at (directive.Bytes text) bytes = bytes ≡ length text
DirectiveTakes at (directive.Zero n) bytes = bytes ≡ n
DirectiveTakes at (directive.Align One) bytes = bytes ≡ 0
DirectiveTakes at (directive.Align Two) bytes = IsPadding 2 at bytes
DirectiveTakes at (directive.Align Four) bytes = IsPadding 4 at bytes
DirectiveTakes at (directive.Align Eight) bytes = IsPadding 8 at bytes
DirectiveTakes at (directive.Align Sixteen) bytes = IsPadding 16 at bytes
DirectiveTakes at d bytes = bytes ≡ 0

-- how many bytes a statement takes: an instruction four for each that it stands for
abbrev pub Takes : List (List ℕ × ℕ) → ℕ → Statement → ℕ → Type 0
Takes labels at (Label w) bytes = bytes ≡ 0
Takes labels at (Instruction u) bytes =
    (is : List Instr) → instrs_of labels at u.template u.filled ≡ Ok is → bytes ≡ 4 * length is
Takes labels at (Directed d) bytes = DirectiveTakes at d bytes

-- text and data have the bytes of their statements, and no more
pub record PartsAddUp (s : Layout) (image : ImageParts) : Type 0 where
  pub text : length image.text ≡ total Text s.items
  pub init : length image.init ≡ total Data s.items
  pub lengths : (at : ℕ) (stated : Statement) → Takes (addresses s.text s.labels) at stated (length_of at stated)

-- ---- directives

abbrev pub if_directed : {A : Type 0} → (Directive → Option A) → Statement → Option A
if_directed f (Directed d) = f d
if_directed f _ = None

-- what the directives of a kind say, in the order of their lines
abbrev pub said_by : {A : Type 0} → (Directive → Option A) → List Item → List A
said_by f items = filter_map (λ i. if_directed f i.statement) items

abbrev pub ranks_said : Directive → Option ℕ
ranks_said (directive.Ranks n) = Some n
ranks_said _ = None

abbrev pub harts_said : Directive → Option ℕ
harts_said (directive.Harts n) = Some n
harts_said _ = None

abbrev pub memory_said : Directive → Option ℕ
memory_said (directive.Memory n) = Some n
memory_said _ = None

abbrev pub entry_said : Directive → Option (List ℕ)
entry_said (directive.Entry w) = Some w
entry_said _ = None

abbrev pub comm_said : Directive → Option (List ℤ)
comm_said (directive.Comm ranks) = Some ranks
comm_said _ = None

abbrev pub link_said : Directive → Option (ℤ × ℤ)
link_said (directive.Link from to) = Some (from, to)
link_said _ = None

-- a number that is said once at most, or else is this one
abbrev pub IsSaid : List ℕ → ℕ → ℕ → Type 0
IsSaid [] otherwise n = n ≡ otherwise
IsSaid (m ∷ []) otherwise n = n ≡ m
IsSaid (m ∷ _) otherwise n = ⊥

-- harts begin at the label of `.entry`, which is said once at most; else at `_start` where it is a label, else at 0
abbrev pub BeginsAt : List (List ℕ) → List (List ℕ × ℕ) → ℕ → Type 0
BeginsAt [] labels at = at ≡ unwrap_or (address_in (codes "_start") labels) 0
BeginsAt (w ∷ []) labels at = address_in w labels ≡ Some at
BeginsAt (w ∷ _) labels at = ⊥

abbrev pub ends_of : Link → ℤ × ℤ
ends_of link = (pos link.from, pos link.to)

-- the image is what the directives say, each communicator and link in the order of its line
pub record IsDirected (s : Layout) (image : ImageParts) : Type 0 where
  pub ranks : IsSaid (said_by ranks_said s.items) 1 image.ranks
  pub harts : IsSaid (said_by harts_said s.items) 1 image.harts
  pub memory : IsSaid (said_by memory_said s.items) 65536 image.memory
  pub entry : BeginsAt (said_by entry_said s.items) (addresses s.text s.labels) image.entry
  pub comms : map (map pos) image.comms ≡ said_by comm_said s.items
  pub links : map ends_of image.links ≡ said_by link_said s.items
