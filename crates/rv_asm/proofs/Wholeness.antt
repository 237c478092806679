-- What the passes make: whole words, as many as the first pass counted, and an image that holds them.
use Rattle.std.proofs.Common.{◌≡◌, ℕ, ◌%◌, List, [], length, Option, Some, None, Result, Ok, Err, Bool, true, false, refl, sym, ap, subst, ◌∙◌, arith}
use Rattle.std.proofs.lemmas.List.Elements.{All-nil}
use Rattle.std.specs.Prelude.{◌==◌, if◌then◌else◌, IfOk}
use Rattle.std.specs.Str.Lines.{lines}
use Rattle.rv_image_types.specs.declared.images.ImageParts.{ImageParts}
use Rattle.rv_image_types.specs.declared.images.ImageVersion.TheVariants.{Two}
use Rattle.rv_image_types.specs.declared.images.Symbol.{Symbol}
use Rattle.rv_image_types.specs.Image.{IsCommunicator, IsLink}
use Rattle.rv_asm_tokens.specs.declared.fault.AsmFault.{AsmFault}
use Rattle.rv_asm_tokens.specs.declared.fault.AsmFaultKind.TheVariants as kinds
use Rattle.rv_asm_lines.specs.declared.fields.Fields.{Fields}
use Rattle.rv_asm_lines.specs.Fields.{ranks_of}
use Rattle.rv_asm_lines.specs.Layout.{Layout, addresses, empty_layout, layout_of}
use Rattle.rv_asm_lines.specs.Output.{Output, empty_output, items_from}
use Rattle.rv_asm_lines.specs.Places.{AreSound, HoldCode}
use Rattle.rv_asm.specs.Source.{◌>>=◌, at_line_0, finished, fits_memory, meaning, parts_of, symbols_in}
use Rattle.rv_asm.specs.Made.{AreGlobals, EntryIn, IsWhole}
use Rattle.rv_asm.proofs.Counted.{IsCounted, counted_kept}
use Rattle.rv_asm.proofs.Grown.{EntryAt, items_from-grows, longer_length}
use Rattle.rv_asm.proofs.Kept.{lines_from-keeps}
use Rattle.rv_asm.proofs.Placed.{layout_in_order}
use Rattle.rv_asm.proofs.Right.{line_ok}
use Rattle.rv_asm.proofs.Sound.{items_stand}
use Rattle.rv_asm.proofs.Addressed.{whole_symbols}

layout_counted : (source : List ℕ) (s : Layout) → layout_of source ≡ Ok s → IsCounted s
layout_counted source s laid = lines_from-keeps IsCounted counted_kept 1 empty_layout s (lines source) laid (record { whole_words = refl; comms = refl; few_comms = omega arith; links = refl; few_links = omega arith })

entry_in : (bytes : List ℕ) (end : ℕ) (entry : Option ℕ) → length bytes ≡ end → EntryAt end entry → EntryIn bytes entry
entry_in bytes end None same h = tt
entry_in bytes end (Some at) same h = (omega (arith, h.0, same), h.1)

pub whole_output : (source : List ℕ) (s : Layout) (o : Output) → layout_of source ≡ Ok s → items_from s empty_output s.items ≡ Ok o → IsWhole (ranks_of s.fields) o (symbols_in s)
whole_output source s o laid made =
    let counted = layout_counted source s laid in
    let order = layout_in_order source s laid in
    let grown = items_from-grows s empty_output o s.items 0 0 order.follow made in
    let texts : length o.text ≡ s.text = longer_length [] o.text _ grown.text ∙ omega (arith, order.text_end) in
    let inits : length o.init ≡ s.init = longer_length [] o.init _ grown.init ∙ omega (arith, order.data_end) in
    let whole = whole_symbols source s o laid made in
    record {
      whole_words = ap (λ n. n % 4) texts ∙ counted.whole_words;
      entry_in = entry_in o.text s.text o.entry texts (grown.entry tt);
      few_comms = omega (arith, grown.more_comms, counted.comms, counted.few_comms);
      comms = grown.comms (All-nil (IsCommunicator (ranks_of s.fields)));
      few_links = omega (arith, grown.more_links, counted.links, counted.few_links);
      links = grown.links (All-nil (IsLink (ranks_of s.fields)));
      few_symbols = whole.few;
      symbols = rw (texts, inits) whole.symbols;
      rising = whole.rising;
    }

-- ---- the image

if_ok_0 : {A : Type 0} (b : Bool) (e : AsmFault) (r : Result A AsmFault) (y : A) → (if b then Err e else r) ≡ Ok y → r ≡ Ok y
if_ok_0 true e r y h = absurd cc
if_ok_0 false e r y h = h

then_ok_0 : {A : Type 0} (b : Bool) (e : AsmFault) (x y : A) → (if b then Ok x else Err e) ≡ Ok y → x ≡ y
then_ok_0 true e x y h = line_ok x y h
then_ok_0 false e x y h = absurd cc

finished_parts : (f : Fields) (o : Output) (symbols : List Symbol) (p : ImageParts) → finished f o symbols ≡ Ok p → parts_of f o symbols ≡ p
unfolding finished
finished_parts f o symbols p h =
    let inner = if_ok_0 (length o.text == 0) (at_line_0 kinds.Directive) (if fits_memory (parts_of f o symbols) then Ok (parts_of f o symbols) else Err (at_line_0 kinds.Limit)) p h in
    then_ok_0 (fits_memory (parts_of f o symbols)) (at_line_0 kinds.Limit) (parts_of f o symbols) p inner

-- the image holds the instructions and the bytes of the layout
pub image_holds : (source : List ℕ) (r : Result ImageParts AsmFault) (kept : Layout) (o : Output) (symbols : List Symbol) → layout_of source ≡ Ok kept → items_from kept empty_output kept.items ≡ Ok o → AreSound (addresses kept.text kept.labels) kept.items
    → IfOk r (λ image. finished kept.fields o symbols ≡ Ok image) → IfOk r (λ image. (s : Layout) → layout_of source ≡ Ok s → HoldCode (addresses s.text s.labels) image.text image.init s.items)
image_holds source (Err fault) kept o symbols laid made sound h = tt
image_holds source (Ok image) kept o symbols laid made sound h = λ s again.
    let same : kept ≡ s = line_ok kept s (sym laid ∙ again) in
    let held : HoldCode (addresses kept.text kept.labels) o.text o.init kept.items = items_stand kept empty_output o kept.items made (layout_in_order source kept laid).follow sound in
    let there : HoldCode (addresses kept.text kept.labels) image.text image.init kept.items = subst (λ (p : ImageParts). HoldCode (addresses kept.text kept.labels) p.text p.init kept.items) (finished_parts kept.fields o symbols image h) held in
    subst (λ (l : Layout). HoldCode (addresses l.text l.labels) image.text image.init l.items) same there

-- ---- what a meaning comes from

-- what both passes give for a source that means an image
pub record Passed (source : List ℕ) (p : ImageParts) : Type 0 where
  pub laid : Layout
  pub output : Output
  pub first : layout_of source ≡ Ok laid
  pub second : items_from laid empty_output laid.items ≡ Ok output
  pub parts : parts_of laid.fields output (symbols_in laid) ≡ p

pub passed : (source : List ℕ) (p : ImageParts) → meaning source ≡ Ok p → Passed source p
unfolding meaning
passed source p h = go (layout_of source) refl h
  where
    ended : (s : Layout) → layout_of source ≡ Ok s → (r : Result Output AsmFault) → items_from s empty_output s.items ≡ r → (r >>= λ o. finished s.fields o (symbols_in s)) ≡ Ok p → Passed source p
    ended s first (Ok o) second h = record { laid = s; output = o; first = first; second = second; parts = finished_parts s.fields o (symbols_in s) p h }
    ended s first (Err fault) second h = absurd cc

    go : (r : Result Layout AsmFault) → layout_of source ≡ r → (r >>= λ s. items_from s empty_output s.items >>= λ o. finished s.fields o (symbols_in s)) ≡ Ok p → Passed source p
    go (Ok s) first h = ended s first (items_from s empty_output s.items) refl h
    go (Err fault) first h = absurd cc

pub image_version : (source : List ℕ) (p : ImageParts) → meaning source ≡ Ok p → p.version ≡ Two
image_version source p h = sym (ap (λ (q : ImageParts). q.version) (passed source p h).parts)

pub image_symbols : (source : List ℕ) (s : Layout) (p : ImageParts) → layout_of source ≡ Ok s → meaning source ≡ Ok p → AreGlobals s p.symbols
image_symbols source s p laid h =
    let a = passed source p h in
    let same : a.laid ≡ s = line_ok a.laid s (sym a.first ∙ laid) in
    let there : AreGlobals a.laid (symbols_in a.laid) = (whole_symbols source a.laid a.output a.first a.second).globals in
    subst (λ (l : Layout). AreGlobals l p.symbols) same (subst (λ (q : ImageParts). AreGlobals a.laid q.symbols) a.parts there)
