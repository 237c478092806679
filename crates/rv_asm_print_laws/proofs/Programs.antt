-- Whole sources of printed instructions.
use Rattle.std.proofs.Common.{◌≡◌, ℕ, suc, ◌+◌, ◌*◌, ◌<◌, ◌≤◌, List, [], ◌∷◌, ◌++◌, length, map, Bool, true, false, ◌&&◌, None, Result, Ok, Err, nat_le, ◌==◌, if◌then◌else◌, refl, sym, ap, ◌∙◌, subst, arith, tests, append_assoc, append-nil, lit<, lit≤, le-leb, All}
use Rattle.std.specs.Int.{w32, to_le_bytes}
use Rattle.std.specs.List.{flat_map}
use Rattle.std.specs.Str.Lines.{lines}
use Rattle.std.proofs.lemmas.List.Elements.{All-tail}
use Rattle.rv_decode.specs.declared.instruction.Instr.{Instr}
use Rattle.rv_decode.specs.Table.{written_word}
use Rattle.rv_decode.specs.WordOf.{Fits}
use Rattle.rv_decode.specs.Text.{instr_text}
use Rattle.rv_image_types.specs.declared.images.ImageParts.{ImageParts}
use Rattle.rv_image_types.specs.Image.{data_start}
use Rattle.rv_asm_tokens.specs.declared.fault.AsmFault.{AsmFault}
use Rattle.rv_asm_tokens.specs.declared.fault.AsmFaultKind.{AsmFaultKind}
use Rattle.rv_asm_tokens.specs.declared.fault.AsmFaultKind.TheVariants as kinds
use Rattle.rv_asm_tokens.specs.Lexeme.{Lexeme}
use Rattle.rv_asm_tokens.specs.Scan.{tokens_from}
use Rattle.rv_asm_statements.specs.declared.mnemonics.Use.{Use}
use Rattle.rv_asm_statements.specs.declared.statements.Statement.TheVariants.{Instruction}
use Rattle.rv_asm_lines.specs.declared.fields.Fields.{Fields}
use Rattle.rv_asm_lines.specs.Item.{Item}
use Rattle.rv_asm_lines.specs.declared.parts.Part.{Part}
use Rattle.rv_asm_lines.specs.declared.parts.Part.TheVariants.{Text}
use Rattle.rv_asm_lines.specs.Resolved.{use_length}
use Rattle.rv_asm_lines.specs.Fields.{no_fields}
use Rattle.rv_asm_lines.specs.Globals.{symbols_of}
use Rattle.rv_asm_lines.specs.Layout.{Layout, addresses, empty_layout, most_bytes, added, next_place, item_at, with_item, line_step, at_line, lines_from, layout_of}
use Rattle.rv_asm_lines.specs.Output.{Output, empty_output, stated_step, items_from}
use Rattle.rv_asm.specs.Source.{parts_of, fits_memory, finished, meaning, at_line_0, symbols_in}
use Rattle.rv_asm_print_laws.specs.Range.{IsInRange}
use Rattle.rv_asm_print_laws.specs.Read.{StandsAnywhere, printed_lines, image_of}
use Rattle.rv_asm_print_laws.proofs.Branches.{both_hold}
use Rattle.rv_asm_print_laws.proofs.Instructions.{IsLine, begin_statement, printed_line}
use Rattle.rv_asm_print_laws.proofs.Steps.{line_placed, line_written}
use Rattle.rv_asm_print_laws.proofs.Sources.{AllPlain, only_line, lines_of_lines}

pub stands_anywhere : (i : Instr) → IsLine (instr_text i) i → StandsAnywhere (instr_text i) i
stands_anywhere i l = record {
  read = l.read;
  placed = λ n s in_text room. line_placed (instr_text i) i l n s in_text room;
  written = λ s p o. line_written (instr_text i) i l s p o;
}

-- ---- the first pass

abbrev pub AllLines : List Instr → Type 0
AllLines [] = Unit {0}
AllLines (i ∷ is) = IsLine (instr_text i) i × AllLines is

-- the layout with one more instruction
abbrev with_line : ℕ → Layout → (i : Instr) → IsLine (instr_text i) i → Layout
with_line n s i l = with_item n s (Instruction l.read.used) s.fields s.globals

abbrev grown : ℕ → Layout → (is : List Instr) → AllLines is → Layout
grown n s [] all = s
grown n s (i ∷ is) all = grown (n + 1) (with_line n s i all.0) is all.1

four_more : (s : Layout) (u : Use) → s.part ≡ Text → use_length u ≡ 4 → s.text + added Text s.part (use_length u) ≡ s.text + 4
four_more s u in_text four = ap (λ (q : Part). s.text + added Text q (use_length u)) in_text ∙ ap (λ (k : ℕ). s.text + k) four

line_ok : {A B : Type 0} (n : ℕ) (r : Result A AsmFaultKind) (x : A) (f : A → Result B AsmFault) → r ≡ Ok x → at_line n r f ≡ f x
line_ok {A = A} n r x f h = ap (λ (q : Result A AsmFaultKind). at_line n q f) h

room_behind : (s : Layout) (i : Instr) (l : IsLine (instr_text i) i) (k n : ℕ) → s.part ≡ Text → s.text + 4 * suc k ≤ most_bytes → (with_line n s i l).text + 4 * k ≤ most_bytes
room_behind s i l k n in_text room = let e = four_more s l.read.used in_text l.four in omega arith

laid : (n : ℕ) (s : Layout) (is : List Instr) (all : AllLines is) → s.part ≡ Text → s.text + 4 * length is ≤ most_bytes → lines_from n s (map instr_text is) ≡ Ok (grown n s is all)
unfolding lines_from
laid n s [] all in_text room = refl
laid n s (i ∷ is) all in_text room =
    let here : s.text + 4 ≤ most_bytes = omega arith in
    line_ok n (line_step n s (instr_text i)) (with_line n s i all.0) (λ t. lines_from (n + 1) t (map instr_text is)) (line_placed (instr_text i) i all.0 n s in_text here)
    ∙ laid (n + 1) (with_line n s i all.0) is all.1 in_text (room_behind s i all.0 (length is) n in_text room)

-- what the layout gains
abbrev gained : ℕ → Layout → (is : List Instr) → AllLines is → List Item
gained n s [] all = []
gained n s (i ∷ is) all = item_at n (next_place s) (Instruction all.0.read.used) ∷ gained (n + 1) (with_line n s i all.0) is all.1

grown-items : (n : ℕ) (s : Layout) (is : List Instr) (all : AllLines is) → (grown n s is all).items ≡ s.items ++ gained n s is all
grown-items n s [] all = sym (append-nil s.items)
grown-items n s (i ∷ is) all = grown-items (n + 1) (with_line n s i all.0) is all.1 ∙ append_assoc s.items (item_at n (next_place s) (Instruction all.0.read.used) ∷ []) (gained (n + 1) (with_line n s i all.0) is all.1)

grown-fields : (n : ℕ) (s : Layout) (is : List Instr) (all : AllLines is) → (grown n s is all).fields ≡ s.fields
grown-fields n s [] all = refl
grown-fields n s (i ∷ is) all = grown-fields (n + 1) (with_line n s i all.0) is all.1

grown-globals : (n : ℕ) (s : Layout) (is : List Instr) (all : AllLines is) → (grown n s is all).globals ≡ s.globals
grown-globals n s [] all = refl
grown-globals n s (i ∷ is) all = grown-globals (n + 1) (with_line n s i all.0) is all.1

-- ---- the second pass

abbrev words : List Instr → List ℕ
words is = flat_map (λ i. to_le_bytes w32 (written_word i)) is

written : (whole : Layout) (n : ℕ) (s : Layout) (is : List Instr) (all : AllLines is) (o : Output) → items_from whole o (gained n s is all) ≡ Ok (record o { text = o.text ++ words is })
unfolding items_from
written whole n s [] all o = ap (λ (t : List ℕ). Ok (record o { text = t })) (sym (append-nil o.text))
written whole n s (i ∷ is) all o =
    let p : Output = record o { text = o.text ++ to_le_bytes w32 (written_word i) } in
    line_ok n (stated_step whole (next_place s) (Instruction all.0.read.used) o) p (λ q. items_from whole q (gained (n + 1) (with_line n s i all.0) is all.1)) (line_written (instr_text i) i all.0 whole (next_place s) o)
    ∙ written whole (n + 1) (with_line n s i all.0) is all.1 p
    ∙ ap (λ (t : List ℕ). Ok (record o { text = t })) (append_assoc o.text (to_le_bytes w32 (written_word i)) (words is))

-- ---- the whole

length-words : (is : List Instr) → length (words is) ≡ 4 * length is
length-words [] = refl
length-words (i ∷ is) = let e = length-words is in omega arith

abbrev made : List Instr → Output
made is = record { text = words is; init = []; entry = None; comms = []; links = [] }

not_empty : (n : ℕ) → 0 < n → (n == 0) ≡ false
not_empty n h = grind (arith, tests)

in_memory : (n : ℕ) → n ≤ 65536 → (nat_le 4096 65536 && (nat_le n 65536 && nat_le (data_start n + 0) 65536)) ≡ true
in_memory n h =
    let behind : data_start n + 0 ≤ 65536 = omega arith in
    both_hold (nat_le n 65536) (nat_le (data_start n + 0) 65536) (le-leb n 65536 h) (le-leb (data_start n + 0) 65536 behind)

finished_as : (b c : Bool) (p : ImageParts) → b ≡ false → c ≡ true → (if b then Err (at_line_0 kinds.Directive) else (if c then Ok p else Err (at_line_0 kinds.Limit))) ≡ Ok p
finished_as true c p h g = absurd cc
finished_as false true p h g = refl
finished_as false false p h g = absurd cc

finished_made : (is : List Instr) → 0 < length is → length is ≤ 16384 → finished no_fields (made is) [] ≡ Ok (image_of is)
unfolding finished
finished_made is any room =
    let e = length-words is in
    let some : 0 < length (words is) = omega arith in
    let few : length (words is) ≤ 65536 = omega arith in
    finished_as (length (words is) == 0) (fits_memory (parts_of no_fields (made is) [])) (parts_of no_fields (made is) []) (not_empty (length (words is)) some) (in_memory (length (words is)) few)

-- the two passes, one behind the other
passed : (source : List ℕ) (s : Layout) (o : Output) (p : ImageParts) → layout_of source ≡ Ok s → items_from s empty_output s.items ≡ Ok o → finished s.fields o (symbols_in s) ≡ Ok p → meaning source ≡ Ok p
unfolding meaning
passed source s o p laid written whole = rw (laid, written, whole) refl

pub program_read : (source : List ℕ) (is : List Instr) → lines source ≡ map instr_text is → AllLines is → 0 < length is → length is ≤ 16384 → meaning source ≡ Ok (image_of is)
program_read source is same all any room =
    let s = grown 1 empty_layout is all in
    let bytes : empty_layout.text + 4 * length is ≤ most_bytes = omega arith in
    let first : layout_of source ≡ Ok s = ap (lines_from 1 empty_layout) same ∙ laid 1 empty_layout is all refl bytes in
    let second : items_from s empty_output s.items ≡ Ok (made is) = ap (items_from s empty_output) (grown-items 1 empty_layout is all) ∙ written s 1 empty_layout is all empty_output in
    let unnamed : symbols_in s ≡ [] = ap (symbols_of (addresses s.text s.labels)) (grown-globals 1 empty_layout is all) in
    let last : finished s.fields (made is) (symbols_in s) ≡ Ok (image_of is) = ap (finished s.fields (made is)) unnamed ∙ ap (λ (f : Fields). finished f (made is) []) (grown-fields 1 empty_layout is all) ∙ finished_made is any room in
    passed source s (made is) (image_of is) first second last

-- ---- one instruction, and a listing

some_text : (x : List ℕ) (i : Instr) → IsLine x i → 0 < length x
unfolding tokens_from
some_text [] i l =
    let e : l.read.tokens ≡ [] = cc (l.read.scanned) in
    let none : begin_statement [] ≡ true = subst (λ (ts : List Lexeme). begin_statement ts ≡ true) e l.unlabeled in
    absurd cc
some_text (c ∷ cs) i l = omega arith

pub text_read : (i : Instr) → IsLine (instr_text i) i → meaning (instr_text i) ≡ Ok (image_of (i ∷ []))
text_read i l = program_read (instr_text i) (i ∷ []) (only_line (instr_text i) (some_text (instr_text i) i l) l.plain) (l, tt) (lit< tt) (lit≤ tt)

plain_lines : (is : List Instr) → AllLines is → AllPlain (map instr_text is)
plain_lines [] all = tt
plain_lines (i ∷ is) all = (all.0.plain, plain_lines is all.1)

listing_lines : (is : List Instr) → printed_lines is ≡ flat_map (λ x. x ++ 10 ∷ []) (map instr_text is)
listing_lines [] = refl
listing_lines (i ∷ is) = ap (λ (xs : List ℕ). (instr_text i ++ 10 ∷ []) ++ xs) (listing_lines is)

pub listing_read : (is : List Instr) → AllLines is → 0 < length is → length is ≤ 16384 → meaning (printed_lines is) ≡ Ok (image_of is)
listing_read is all any room = program_read (printed_lines is) is (ap lines (listing_lines is) ∙ lines_of_lines (map instr_text is) (plain_lines is all)) all any room

pub all_printed : (is : List Instr) → All IsInRange is → All Fits is → AllLines is
all_printed [] ranges fits = tt
all_printed (i ∷ is) ranges fits =
    let some : 0 < length (i ∷ is) = omega arith in
    (printed_line i (ranges 0 i some) (fits 0 i some), all_printed is (All-tail IsInRange i is ranges) (All-tail Fits i is fits))
