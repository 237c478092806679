-- An image is what the directives of its source say.
use Rattle.std.proofs.Common.{◌≡◌, ℕ, List, [], ◌∷◌, Option, Some, None, Ok, option_to_list, unwrap_or, refl, sym, ap, subst, ◌∙◌}
use Rattle.rv_image_types.specs.declared.images.ImageParts.{ImageParts}
use Rattle.rv_asm_lines.specs.Layout.{Layout, addresses, layout_of}
use Rattle.rv_asm_lines.specs.Output.{Output, empty_output, items_from}
use Rattle.rv_asm.specs.Directed.{BeginsAt, IsDirected, IsSaid, entry_said, said_by}
use Rattle.rv_asm.specs.Source.{meaning, parts_of, symbols_in}
use Rattle.rv_asm.proofs.Directing.{Ends, all_made, entry_ends, start_address, start_entry}
use Rattle.rv_asm.proofs.Distinct.{layout_distinct}
use Rattle.rv_asm.proofs.Placed.{layout_in_order}
use Rattle.rv_asm.proofs.Right.{line_ok}
use Rattle.rv_asm.proofs.Said.{Entries, none_yet, one, layout_has_said}
use Rattle.rv_asm.proofs.Wholeness.{passed}

said_or : (o : Option ℕ) (said : List ℕ) (otherwise : ℕ) → option_to_list o ≡ said → IsSaid said otherwise (unwrap_or o otherwise)
said_or None said otherwise h = subst (λ l. IsSaid l otherwise otherwise) h refl
said_or (Some n) said otherwise h = subst (λ l. IsSaid l otherwise n) h refl

begins : (source : List ℕ) (s : Layout) (o : Output) → layout_of source ≡ Ok s → items_from s empty_output s.items ≡ Ok o → Entries s.fields.has_entry (said_by entry_said s.items)
    → BeginsAt (said_by entry_said s.items) (addresses s.text s.labels) (unwrap_or o.entry 0)
begins source s o laid made (none_yet unset none) =
    let entry : o.entry ≡ start_address s = start_entry s o unset none (layout_in_order source s laid).labels (layout_distinct source s laid) made in
    subst (λ ws. BeginsAt ws (addresses s.text s.labels) (unwrap_or o.entry 0)) (sym none) (ap (λ e. unwrap_or e 0) entry)
begins source s o laid made (one w set is) =
    let ends : Ends (addresses s.text s.labels) (w ∷ []) None o.entry = subst (λ ws. Ends (addresses s.text s.labels) ws None o.entry) is (entry_ends s empty_output o s.items set made) in
    subst (λ ws. BeginsAt ws (addresses s.text s.labels) (unwrap_or o.entry 0)) (sym is) (ends.1 ∙ ap (λ e. Some (unwrap_or e 0)) (sym ends.2))

pub images_are_directed : (source : List ℕ) (s : Layout) (p : ImageParts) → layout_of source ≡ Ok s → meaning source ≡ Ok p → IsDirected s p
images_are_directed source s p laid h =
    let a = passed source p h in
    let same : a.laid ≡ s = line_ok a.laid s (sym a.first ∙ laid) in
    let said = layout_has_said source a.laid a.first in
    let made = all_made a.laid empty_output a.output a.laid.items a.second in
    let there : IsDirected a.laid (parts_of a.laid.fields a.output (symbols_in a.laid)) = record {
      ranks = said_or a.laid.fields.ranks _ 1 said.ranks;
      harts = said_or a.laid.fields.harts _ 1 said.harts;
      memory = said_or a.laid.fields.memory _ 65536 said.memory;
      entry = begins source a.laid a.output a.first a.second said.entries;
      comms = made.comms;
      links = made.links;
    } in
    subst (λ (l : Layout). IsDirected l p) same (subst (λ (q : ImageParts). IsDirected a.laid q) a.parts there)
