-- Each byte of a page's data is plain.
use Rattle.std.specs.Prelude.{ℕ, zero, suc, ◌≡◌, ◌<◌, ◌+◌, ◌-◌, ◌*◌, ◌/◌, ◌%◌, ◌==◌, if◌then◌else◌, Bool, true, false, List, [], ◌∷◌, ◌++◌, codes, length, nat_eq, Option, Some, None}
use Rattle.std.specs.Fmt.{decimal, digit_glyph, digits, digits_onto}
use Rattle.std.specs.List.{All, ends_with, flat_map, list_all, range_with_len}
use Rattle.std.proofs.Common.{arith, refl, inl, inr}
use Rattle.std.proofs.lemmas.List.Elements.{All-append, All-cons, All-nil, All-replicate}
use Rattle.std.proofs.lemmas.Bool.{and_parts}
use Rattle.rv_hart.specs.declared.state.Mode.{Mode}
use Rattle.rv_hart.specs.declared.state.Mode.TheVariants.{Running, Waiting, Ended, Trapped}
use Rattle.rv_image_types.specs.declared.images.ImageParts.{ImageParts}
use Rattle.rv_image_types.specs.declared.images.Symbol.{Symbol}
use Rattle.rv_memory.specs.Fault.{cause_number}
use Rattle.rvmc_changes.specs.Changes.{Difference}
use Rattle.rvmc_changes.specs.declared.edits.Edit.{Edit}
use Rattle.rvmc_changes.specs.declared.starts.HartStart.{HartStart}
use Rattle.rvmc_changes.specs.declared.starts.RankStart.{RankStart}
use Rattle.rvmc_changes.specs.declared.steps.Stand.{Stand}
use Rattle.rvmc_draw.specs.declared.drawing.Arrow.{Arrow}
use Rattle.rvmc_draw.specs.declared.drawing.Carried.{Carried}
use Rattle.rvmc_draw.specs.declared.drawing.Carried.TheVariants.{Message, Claim, Could, Partition}
use Rattle.rvmc_draw.specs.declared.drawing.Row.{Row}
use Rattle.rvmc_draw.specs.declared.drawing.Spot.{Spot}
use Rattle.rvmc_picture.specs.Below.{listing, newline, padded_hex}
use Rattle.rvmc_page.specs.Escaped.{hex_pairs, spelled_byte, escaped_in_lines, is_unescaped}
use Rattle.rvmc_page.specs.Pages.{awaited_text, data_of, ways_text, told_lines}
use Rattle.rvmc_page.specs.Plain.{IsPlain}
use Rattle.rvmc_page.specs.Starts.{hart_start_text, hex, mode_letter, rank_start_text, row_bytes, row_line, row_text, stand_text}
use Rattle.rvmc_page.specs.Steps.{changed_byte, change_text, changes_text, put_text, changed_register}
use Rattle.rvmc_page.specs.Texts.{source_text}
use Rattle.rvmc_page.specs.Told.{arrow_text, carried_bytes, arrival_text, symbol_entry, wait_entry, way_text}
use Rattle.rvmc_page.specs.declared.pages.Page.{Page}
use Rattle.rvmc_page.specs.declared.pages.Part.{Part}
use Rattle.rvmc_page.specs.declared.pages.Part.TheVariants as part
use Rattle.rvmc_page.specs.declared.pages.Shown.{Shown}
use Rattle.rvmc_page.specs.declared.texts.SourceText.{SourceText}

-- ---- texts

pub record Plain (text : List ℕ) : Type 0 where
  pub all : All IsPlain text

nothing : Plain []
nothing = record { all = All-nil IsPlain }

infixr 5 ◌&◌
◌&◌ : {xs ys : List ℕ} → Plain xs → Plain ys → Plain (xs ++ ys)
◌&◌ {xs = xs} {ys = ys} p q = record { all = All-append IsPlain xs ys p.all q.all }

one : (b : ℕ) (text : List ℕ) → IsPlain b → Plain text → Plain (b ∷ text)
one b text is rest = record { all = All-cons IsPlain b text is rest.all }

-- words of plain bytes
word : (text : List ℕ) → list_all is_unescaped text ≡ true → Plain text
word [] are = nothing
word (b ∷ text) are =
    let both = and_parts (is_unescaped b) (list_all is_unescaped text) are in
    one b text (inl both.0) (word text both.1)

line_end : Plain newline
line_end = one 10 [] (inr (inl refl)) nothing

each : {A : Type 0} (f : A → List ℕ) → ((x : A) → Plain (f x)) → (xs : List A) → Plain (flat_map f xs)
each f is [] = nothing
each f is (x ∷ xs) = is x & each f is xs

either : (test : Bool) (xs ys : List ℕ) → Plain xs → Plain ys → Plain (if test then xs else ys)
either true xs ys p q = p
either false xs ys p q = q

-- ---- digits

glyph : (d : ℕ) → d < 16 → is_unescaped (digit_glyph false d) ≡ true
glyph zero less = refl
glyph (suc zero) less = refl
glyph (suc (suc zero)) less = refl
glyph (suc (suc (suc zero))) less = refl
glyph (suc (suc (suc (suc zero)))) less = refl
glyph (suc (suc (suc (suc (suc zero))))) less = refl
glyph (suc (suc (suc (suc (suc (suc zero)))))) less = refl
glyph (suc (suc (suc (suc (suc (suc (suc zero))))))) less = refl
glyph (suc (suc (suc (suc (suc (suc (suc (suc zero)))))))) less = refl
glyph (suc (suc (suc (suc (suc (suc (suc (suc (suc zero))))))))) less = refl
glyph (suc (suc (suc (suc (suc (suc (suc (suc (suc (suc zero)))))))))) less = refl
glyph (suc (suc (suc (suc (suc (suc (suc (suc (suc (suc (suc zero))))))))))) less = refl
glyph (suc (suc (suc (suc (suc (suc (suc (suc (suc (suc (suc (suc zero)))))))))))) less = refl
glyph (suc (suc (suc (suc (suc (suc (suc (suc (suc (suc (suc (suc (suc zero))))))))))))) less = refl
glyph (suc (suc (suc (suc (suc (suc (suc (suc (suc (suc (suc (suc (suc (suc zero)))))))))))))) less = refl
glyph (suc (suc (suc (suc (suc (suc (suc (suc (suc (suc (suc (suc (suc (suc (suc zero))))))))))))))) less = refl
glyph (suc (suc (suc (suc (suc (suc (suc (suc (suc (suc (suc (suc (suc (suc (suc (suc d)))))))))))))))) less =
    absurd (omega (arith, less))

-- of a base whose digits are below 16
module _ (base : ℕ) (below : (n : ℕ) → n % base < 16) where
  digit : (n : ℕ) (text : List ℕ) → Plain text → Plain (digit_glyph false (n % base) ∷ text)
  digit n text rest = one (digit_glyph false (n % base)) text (inl (glyph (n % base) (below n))) rest

  onto : (k n : ℕ) (text : List ℕ) → Plain text → Plain (digits_onto k base false n text)
  onto zero n text rest = rest
  onto (suc k) n text rest =
      either (n / base == 0) (digit_glyph false (n % base) ∷ text)
      (digits_onto k base false (n / base) (digit_glyph false (n % base) ∷ text)) (digit n text rest)
      (onto k (n / base) (digit_glyph false (n % base) ∷ text) (digit n text rest))

  number : (n : ℕ) → Plain (digits base false n)
  unfolding digits
  number n = onto 64 n [] nothing

below_10 : (n : ℕ) → n % 10 < 16
below_10 n = omega arith

below_16 : (n : ℕ) → n % 16 < 16
below_16 n = omega arith

a_decimal : (n : ℕ) → Plain (decimal n)
a_decimal n = number 10 below_10 n

a_hex : (n : ℕ) → Plain (hex n)
a_hex n = number 16 below_16 n

padded : (b : ℕ) → Plain (padded_hex 2 b)
padded b =
    record { all = All-replicate IsPlain (2 - length (digits 16 false b)) 48 (inl refl) } & a_hex b

some_bytes : (bytes : List ℕ) → Plain (hex_pairs bytes)
some_bytes bytes = each (padded_hex 2) padded bytes

-- ---- escapes

an_escaped : (b : ℕ) → Plain (spelled_byte b)
unfolding spelled_byte
an_escaped b = go (is_unescaped b) refl
  where
    go : (test : Bool) → is_unescaped b ≡ test → Plain (if test then b ∷ [] else 92 ∷ 120 ∷ padded_hex 2 b)
    go true is = one b [] (inl is) nothing
    go false is =
        one 92 (120 ∷ padded_hex 2 b) (inr (inr refl)) (one 120 (padded_hex 2 b) (inl refl) (padded b))

in_lines : (b : ℕ) → Plain (escaped_in_lines b)
unfolding escaped_in_lines
in_lines b = either (b == 10) (10 ∷ []) (spelled_byte b) line_end (an_escaped b)

-- ---- the machine at the first place

a_mode : (mode : Mode) → Plain (mode_letter mode)
a_mode Running = nothing
a_mode (Waiting wait) = word (codes "w") refl
a_mode (Ended code) = word (codes "x") refl & a_decimal code
a_mode (Trapped cause at) =
    word (codes "t") refl & (a_decimal (cause_number cause) & (word (codes ".") refl & a_hex at))

a_stand : (stand : Stand) → Plain (stand_text stand)
a_stand stand = a_hex stand.pc & a_mode stand.mode

blank : Plain (codes " ")
blank = word (codes " ") refl

a_hart : (hart : HartStart) → Plain (hart_start_text hart)
unfolding hart_start_text
a_hart hart =
    word (codes "h ") refl
    & (a_stand (record { pc = hart.pc; mode = hart.mode })
    & (each (λ value. codes " " ++ hex value) (λ value. blank & a_hex value) hart.registers.items & line_end))

a_row : (at : ℕ) (row : List ℕ) → Plain (row_text at row)
a_row at row =
    either (list_all (λ byte. byte == 0) row) [] (codes "m " ++ (hex at ++ (codes " " ++ (hex_pairs row ++ newline))))
    nothing (word (codes "m ") refl & (a_hex at & (blank & (some_bytes row & line_end))))

a_line : (bytes : List ℕ) (n : ℕ) → Plain (row_line bytes n)
unfolding row_line
a_line bytes n = a_row (32 * n) (row_bytes bytes n)

a_rank : (rank : RankStart) → Plain (rank_start_text rank)
unfolding rank_start_text
a_rank rank =
    word (codes "r ") refl
    & (a_decimal (length rank.bytes.items)
    & (line_end
    & (each hart_start_text a_hart rank.harts.items
    & (each (row_line rank.bytes.items) (a_line rank.bytes.items) (range_with_len 0 ((length rank.bytes.items + 31) / 32))
    & (word (codes "o ") refl & (some_bytes rank.out.items & line_end))))))

-- ---- the steps

a_register : (e : Edit) → Plain (changed_register e)
unfolding changed_register
a_register e =
    word (codes " x") refl
    & (a_decimal e.place & (word (codes ".") refl & (a_hex e.old & (word (codes ".") refl & a_hex e.new))))

a_byte : (e : Edit) → Plain (changed_byte e)
unfolding changed_byte
a_byte e =
    word (codes " m") refl
    & (a_hex e.place & (word (codes ".") refl & (a_hex e.old & (word (codes ".") refl & a_hex e.new))))

a_put : (bytes : List ℕ) → Plain (put_text bytes)
a_put [] = nothing
a_put (b ∷ bytes) = word (codes " o") refl & some_bytes (b ∷ bytes)

a_change : (c : Difference) → Plain (change_text c)
unfolding change_text
a_change c =
    (a_decimal c.rank & (blank & (a_decimal c.hart & (blank & (a_stand c.old & (blank & a_stand c.new))))))
    & (each changed_register a_register c.registers
    & (each changed_byte a_byte c.bytes & (a_put c.put & line_end)))

-- ---- what is told

a_name : (symbol : Symbol) → Plain (symbol_entry symbol)
unfolding symbol_entry
a_name symbol = a_hex symbol.address & (blank & (each spelled_byte an_escaped symbol.name & line_end))

a_got : (to : Option Spot) → Plain (arrival_text to)
a_got None = word (codes "-") refl
a_got (Some spot) = a_decimal spot.place

a_way : (a : Arrow) → Plain (way_text a)
a_way a =
    a_decimal a.from.place & (blank & (a_got a.to & (blank & (a_decimal a.from.rank & (blank & a_decimal a.dest)))))

carried : (a : Arrow) (c : Carried) → Plain (carried_bytes a c)
carried a (Message tag count) =
    word (codes "m ") refl & (a_way a & (blank & (a_decimal tag & (blank & (a_decimal count & line_end)))))
carried a (Partition link number phase) =
    word (codes "p ") refl
    & (a_way a & (blank & (a_decimal link & (blank & (a_decimal number & (blank & (a_decimal phase & line_end)))))))
carried a (Claim tag count) = nothing
carried a (Could tag count) = nothing

an_arrow : (a : Arrow) → Plain (arrow_text a)
unfolding arrow_text
an_arrow a = carried a a.carried

a_wait : (row : Row) → Plain (wait_entry row)
unfolding wait_entry
a_wait row =
    a_decimal row.rank
    & (blank
    & (a_decimal row.hart
    & (blank
    & (either row.stuck (codes "s") (codes "w") (word (codes "s") refl) (word (codes "w") refl)
    & (each (λ rank. codes " " ++ decimal rank) (λ rank. blank & a_decimal rank) row.awaited.items & line_end)))))

-- ---- the sources

a_source : (source : SourceText) → Plain (source_text source)
unfolding source_text
a_source source =
    one 92 (codes "file ") (inr (inr refl)) (word (codes "file ") refl)
    & (each spelled_byte an_escaped source.name.now
    & (line_end
    & (each escaped_in_lines in_lines source.bytes.now
    & either (ends_with nat_eq source.bytes.now newline) [] newline nothing line_end)))

-- ---- all parts

all_ways : (shown : Option Shown) → Plain (ways_text shown)
all_ways None = nothing
all_ways (Some shown) = each arrow_text an_arrow shown.drawing.arrows.items

all_awaited : (shown : Option Shown) → Plain (awaited_text shown)
all_awaited None = nothing
all_awaited (Some shown) = each wait_entry a_wait shown.drawing.rows.items

all_told : (shown : Option Shown) → Plain (told_lines shown)
all_told None = nothing
all_told (Some shown) = each escaped_in_lines in_lines shown.drawing.told.items

pub plain_data : (image : ImageParts) (page : Page) (p : Part) → Plain (data_of image page p)
plain_data image page part.First = a_decimal page.from & line_end
plain_data image page part.Start = each rank_start_text a_rank page.start.items
plain_data image page part.Program = each escaped_in_lines in_lines (listing image)
plain_data image page part.Names = each symbol_entry a_name image.symbols
plain_data image page part.Texts = each source_text a_source page.texts.now
plain_data image page part.Ways = all_ways page.shown
plain_data image page part.Waits = all_awaited page.shown
plain_data image page part.Told = all_told page.shown

pub plain_changes : (changes : List Difference) → Plain (changes_text changes)
plain_changes changes = each change_text a_change changes
