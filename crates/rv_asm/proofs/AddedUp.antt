-- Text and data have the bytes of their statements.
use Rattle.std.proofs.Common.{◌≡◌, ℕ, ◌*◌, length, List, Ok, refl, sym, ap, subst, ◌∙◌, arith}
use Rattle.rv_image_types.specs.declared.images.ImageParts.{ImageParts}
use Rattle.rv_asm_statements.specs.declared.directives.Alignment.TheVariants.{One, Two, Four, Eight, Sixteen}
use Rattle.rv_asm_statements.specs.declared.directives.Directive.{Directive}
use Rattle.rv_asm_statements.specs.declared.directives.Directive.TheVariants as directive
use Rattle.rv_asm_statements.specs.declared.directives.Width.TheVariants.{Byte, Half, Word, Double}
use Rattle.rv_asm_statements.specs.declared.statements.Statement.{Statement}
use Rattle.rv_asm_statements.specs.declared.statements.Statement.TheVariants.{Label, Instruction, Directive as Directed}
use Rattle.rv_asm_lines.specs.declared.parts.Part.TheVariants.{Text, Data}
use Rattle.rv_asm_lines.specs.Layout.{Layout, layout_of}
use Rattle.rv_asm_lines.specs.Output.{empty_output}
use Rattle.rv_asm_lines.specs.Parts.{directive_length, length_of}
use Rattle.rv_asm_lines.specs.Places.{total}
use Rattle.rv_asm_lines.specs.Resolved.{use_length}
use Rattle.rv_asm.specs.Directed.{DirectiveTakes, PartsAddUp, Takes}
use Rattle.rv_asm.specs.Source.{meaning}
use Rattle.rv_asm.proofs.Grown.{items_from-grows, longer_length}
use Rattle.rv_asm.proofs.Lengths.{instrs_of-length}
use Rattle.rv_asm.proofs.Placed.{layout_in_order}
use Rattle.rv_asm.proofs.Right.{line_ok}
use Rattle.rv_asm.proofs.Wholeness.{passed}

directive_takes : (at : ℕ) (d : Directive) → DirectiveTakes at d (directive_length at d)
directive_takes at (directive.Items Byte xs) = omega arith
directive_takes at (directive.Items Half xs) = refl
directive_takes at (directive.Items Word xs) = refl
directive_takes at (directive.Items Double xs) = refl
directive_takes at (directive.Bytes bs) = refl
directive_takes at (directive.Zero n) = refl
directive_takes at (directive.Align One) = omega arith
directive_takes at (directive.Align Two) = record { few = omega arith; whole = omega arith }
directive_takes at (directive.Align Four) = record { few = omega arith; whole = omega arith }
directive_takes at (directive.Align Eight) = record { few = omega arith; whole = omega arith }
directive_takes at (directive.Align Sixteen) = record { few = omega arith; whole = omega arith }
directive_takes at (directive.Ranks n) = refl
directive_takes at (directive.Harts n) = refl
directive_takes at (directive.Memory n) = refl
directive_takes at (directive.Entry w) = refl
directive_takes at (directive.Comm zs) = refl
directive_takes at (directive.Link from to) = refl
directive_takes at directive.Text = refl
directive_takes at directive.Data = refl
directive_takes at (directive.Global w) = refl

takes : (labels : List (List ℕ × ℕ)) (at : ℕ) (stated : Statement) → Takes labels at stated (length_of at stated)
unfolding use_length
takes labels at (Label w) = refl
takes labels at (Instruction u) = λ is h. ap (λ k. 4 * k) (sym (instrs_of-length labels at u.template u.filled is h))
takes labels at (Directed d) = directive_takes at d

pub parts_add_up : (source : List ℕ) (s : Layout) (p : ImageParts) → layout_of source ≡ Ok s → meaning source ≡ Ok p → PartsAddUp s p
parts_add_up source s p laid h =
    let a = passed source p h in
    let same : a.laid ≡ s = line_ok a.laid s (sym a.first ∙ laid) in
    let order = layout_in_order source a.laid a.first in
    let grown = items_from-grows a.laid empty_output a.output a.laid.items 0 0 order.follow a.second in
    let there : PartsAddUp a.laid p = record {
      text = ap (λ (q : ImageParts). length q.text) (sym a.parts) ∙ longer_length empty_output.text a.output.text (total Text a.laid.items) grown.text ∙ omega arith;
      init = ap (λ (q : ImageParts). length q.init) (sym a.parts) ∙ longer_length empty_output.init a.output.init (total Data a.laid.items) grown.init ∙ omega arith;
      lengths = λ at stated. takes _ at stated;
    } in
    subst (λ (l : Layout). PartsAddUp l p) same there
