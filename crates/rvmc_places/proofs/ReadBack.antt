-- The line that the text of a place tells is read back from it.
use Rattle.std.proofs.Common.{inl, inr, ℕ, zero, suc, ◌≡◌, ◌∙◌, ◌+◌, ◌-◌, ◌/◌, ◌%◌, ◌<◌, ◌≤◌, ◌&&◌, ◌==◌, Bool, true, false, cond, List, [], ◌∷◌, ◌++◌, ap, refl, sym, arith, append-nil}
use Rattle.std.specs.Prelude.{⊤, Option, Some, None, ◌||◌, codes, drop, nat_le, take}
use Rattle.std.proofs.lemmas.Bool.{lt-ltb, le-ltb, le-leb}
use Rattle.std.proofs.lemmas.Bool.Decides.{leb_tells}
use Rattle.std.specs.Fmt.{digit_glyph, digits, digits_onto}
use Rattle.std.specs.List.{AllByRecursion, filter, list_all}
use Rattle.rv_image_types.specs.declared.images.Symbol.{Symbol}
use Rattle.rv_image_types.specs.Names.{is_digit, is_name_byte, is_symbol_name, is_within}
use Rattle.rvmc_places.specs.declared.near.Kind.{Kind}
use Rattle.rvmc_places.specs.declared.near.Kind.TheVariants as kind
use Rattle.rvmc_places.specs.Laws.{OneLineLaw}
use Rattle.rvmc_places.specs.Names.{Line, first_line, is_file, is_number, line_again, line_named, line_parted, parted, parts_at, last_dot}
use Rattle.rvmc_places.specs.Places.{function_text, hex_text, is_inside, is_nearer, is_kind, label_text, line_at, line_within, nearer, nearest_from, nearest_of, place_name, text_by}

-- ---- what is read of a text: the bytes of names at its front, and those behind a colon

abbrev front_of : List ℕ → List ℕ
front_of [] = []
front_of (byte ∷ bytes) = cond (is_name_byte byte) (byte ∷ front_of bytes) []

abbrev behind : List ℕ → List ℕ
behind [] = []
behind (byte ∷ bytes) = cond (is_name_byte byte) (behind bytes) (byte ∷ bytes)

abbrev line_behind : List ℕ → List ℕ → Option Line
line_behind front [] = None
line_behind front (byte ∷ bytes) = cond (byte == 58) (Some (record { file = front; number = front_of bytes })) None

abbrev line_read : List ℕ → Option Line
line_read text = line_behind (front_of text) (behind text)

-- ---- bytes of names

AreNames : List ℕ → Type 0
AreNames text = list_all is_name_byte text ≡ true

Stops : List ℕ → Type 0
Stops [] = ⊤
Stops (byte ∷ bytes) = is_name_byte byte ≡ false

both : (a b : Bool) → (a && b) ≡ true → (a ≡ true) × (b ≡ true)
both true b e = (refl, e)
both false b e = absurd (cc)

front_at : (name rest : List ℕ) → AreNames name → Stops rest → front_of (name ++ rest) ≡ name
unfolding AreNames Stops
front_at [] [] all stops = refl
front_at [] (byte ∷ rest) all stops = ap (λ b. cond b (byte ∷ front_of rest) []) stops
front_at (byte ∷ name) rest all stops =
    let parts = both (is_name_byte byte) (list_all is_name_byte name) all in
    ap (λ b. cond b (byte ∷ front_of (name ++ rest)) []) parts.0 ∙ ap (λ bytes. byte ∷ bytes) (front_at name rest parts.1 stops)

behind_at : (name rest : List ℕ) → AreNames name → Stops rest → behind (name ++ rest) ≡ rest
unfolding AreNames Stops
behind_at [] [] all stops = refl
behind_at [] (byte ∷ rest) all stops = ap (λ b. cond b (behind rest) (byte ∷ rest)) stops
behind_at (byte ∷ name) rest all stops =
    let parts = both (is_name_byte byte) (list_all is_name_byte name) all in
    ap (λ b. cond b (behind (name ++ rest)) (byte ∷ name ++ rest)) parts.0 ∙ behind_at name rest parts.1 stops

taken_ok : (n : ℕ) (text : List ℕ) → AreNames text → AreNames (take n text)
unfolding AreNames
taken_ok zero text all = refl
taken_ok (suc n) [] all = refl
taken_ok (suc n) (byte ∷ text) all =
    let parts = both (is_name_byte byte) (list_all is_name_byte text) all in
    ap (λ b. b && list_all is_name_byte (take n text)) parts.0 ∙ taken_ok n text parts.1

dropped_ok : (n : ℕ) (text : List ℕ) → AreNames text → AreNames (drop n text)
unfolding AreNames
dropped_ok zero text all = all
dropped_ok (suc n) [] all = refl
dropped_ok (suc n) (byte ∷ text) all = dropped_ok n text (both (is_name_byte byte) (list_all is_name_byte text) all).1

-- ---- lines

OkParts : Option (List ℕ × List ℕ) → Type 0
OkParts None = ⊤
OkParts (Some parts) = AreNames parts.0 × AreNames parts.1

OkLine : Option Line → Type 0
OkLine None = ⊤
OkLine (Some line) = AreNames line.file × AreNames line.number

parts_ok : (text : List ℕ) (dot : Option ℕ) → AreNames text → OkParts (parts_at text dot)
unfolding OkParts
parts_ok text None all = tt
parts_ok text (Some dot) all = (taken_ok dot text all, dropped_ok (dot + 1) text all)

if_line : (b : Bool) (line : Option Line) → OkLine line → OkLine (cond b line None)
unfolding OkLine
if_line true line ok = ok
if_line false line ok = tt

line_parted_ok : (parts : Option (List ℕ × List ℕ)) → OkParts parts → OkLine (line_parted parts)
unfolding OkParts OkLine
line_parted_ok None ok = tt
line_parted_ok (Some parts) ok =
    if_line (is_number parts.1 && is_file parts.0) (Some (record { file = parts.0; number = parts.1 })) ok

line_again_ok : (parts : Option (List ℕ × List ℕ)) → OkParts parts → OkLine (line_again parts)
unfolding OkParts OkLine
line_again_ok None ok = tt
line_again_ok (Some parts) ok =
    if_line (is_number parts.1) (line_parted (parted parts.0))
    (line_parted_ok (parted parts.0) (parts_ok parts.0 (last_dot parts.0) ok.0))

first_ok : (one other : Option Line) → OkLine one → OkLine other → OkLine (first_line one other)
unfolding OkLine
first_ok None other is ok = ok
first_ok (Some line) other is ok = is

line_named_ok : (name : List ℕ) → AreNames name → OkLine (line_named name)
unfolding line_named
line_named_ok name all =
    let parts = parts_ok name (last_dot name) all in
    first_ok (line_parted (parted name)) (line_again (parted name)) (line_parted_ok (parted name) parts)
    (line_again_ok (parted name) parts)

-- ---- symbols

Named : Symbol → Type 0
Named symbol = is_symbol_name symbol.name ≡ true

OkSymbol : Option Symbol → Type 0
OkSymbol None = ⊤
OkSymbol (Some symbol) = AreNames symbol.name

named_ok : (symbol : Symbol) → Named symbol → AreNames symbol.name
unfolding Named AreNames
named_ok symbol is =
    (both (list_all is_name_byte symbol.name) _ (both _ _ is).1).0

nearer_ok : (b : Bool) (found : Option Symbol) (symbol : Symbol) → OkSymbol found → AreNames symbol.name
    → OkSymbol (cond b (Some symbol) found)
unfolding OkSymbol
nearer_ok true found symbol ok is = is
nearer_ok false found symbol ok is = ok

chosen_ok : (b : Bool) (at : ℕ) (found : Option Symbol) (one other : List Symbol) → OkSymbol (nearest_from at found one)
    → OkSymbol (nearest_from at found other) → OkSymbol (nearest_from at found (cond b one other))
chosen_ok true at found one other is ok = is
chosen_ok false at found one other is ok = ok

nearest_ok : (wanted : Kind) (at : ℕ) (found : Option Symbol) (symbols : List Symbol) → OkSymbol found
    → AllByRecursion (λ (s : Symbol). is_symbol_name s.name ≡ true) symbols
    → OkSymbol (nearest_from at found (filter (is_kind wanted) symbols))
unfolding Named
nearest_ok wanted at found [] ok all = ok
nearest_ok wanted at found (symbol ∷ symbols) ok all =
    chosen_ok (is_kind wanted symbol) at found (symbol ∷ filter (is_kind wanted) symbols) (filter (is_kind wanted) symbols)
    (nearest_ok wanted at (nearer at found symbol) symbols
    (nearer_ok (is_nearer at found symbol) found symbol ok (named_ok symbol all.0)) all.1)
    (nearest_ok wanted at found symbols ok all.1)

within_ok : (label line : Option Symbol) → OkSymbol line → OkLine (line_within label line)
unfolding OkSymbol OkLine
within_ok label None ok = tt
within_ok label (Some line) ok = if_line (is_inside label line) (line_named line.name) (line_named_ok line.name ok)

-- ---- numbers in hex

between_ok : (low high n : ℕ) → low ≤ n → n ≤ high → is_within low high n ≡ true
between_ok low high n least most = ap (λ b. b && nat_le n high) (le-leb low n least) ∙ le-leb n high most

or_true : (a : Bool) → (a || true) ≡ true
or_true true = refl
or_true false = refl

digit_name : (byte : ℕ) → 48 ≤ byte → byte ≤ 57 → is_name_byte byte ≡ true
digit_name byte least most =
    ap (λ b. is_within 97 122 byte || (is_within 65 90 byte || (b || ((byte == 95) || ((byte == 46) || (byte == 36))))))
    (between_ok 48 57 byte least most)
    ∙ ap (λ b. is_within 97 122 byte || b) (or_true (is_within 65 90 byte)) ∙ or_true (is_within 97 122 byte)

letter_name : (byte : ℕ) → 97 ≤ byte → byte ≤ 122 → is_name_byte byte ≡ true
letter_name byte least most =
    ap (λ b. b || (is_within 65 90 byte || (is_digit byte || ((byte == 95) || ((byte == 46) || (byte == 36))))))
    (between_ok 97 122 byte least most)

glyph_ok : (n : ℕ) → n < 16 → is_name_byte (digit_glyph false n) ≡ true
glyph_ok n less = elim (leb_tells 10 n) [
  | inl high ↦ ap (λ b. is_name_byte (cond b (48 + n) (87 + n))) (le-ltb n 10 high.1)
      ∙ letter_name (87 + n) (omega (arith, high.1)) (omega (arith, less))
  | inr low ↦ ap (λ b. is_name_byte (cond b (48 + n) (87 + n))) (lt-ltb n 10 low.1)
      ∙ digit_name (48 + n) (omega arith) (omega (arith, low.1))
]

either_ok : (b : Bool) (one other : List ℕ) → AreNames one → AreNames other → AreNames (cond b one other)
either_ok true one other is ok = is
either_ok false one other is ok = ok

onto_ok : (k n : ℕ) (behind : List ℕ) → AreNames behind → AreNames (digits_onto k 16 false n behind)
unfolding AreNames
onto_ok zero n behind all = all
onto_ok (suc k) n behind all =
    let more : AreNames (digit_glyph false (n % 16) ∷ behind) =
    ap (λ b. b && list_all is_name_byte behind) (glyph_ok (n % 16) (omega arith)) ∙ all in
    either_ok (n / 16 == 0) _ _ more (onto_ok k (n / 16) (digit_glyph false (n % 16) ∷ behind) more)

hex_ok : (at : ℕ) → AreNames (hex_text at)
unfolding digits AreNames
hex_ok at = onto_ok 64 at [] refl

-- ---- texts

no_line : (text : List ℕ) → AreNames text → line_read text ≡ None
unfolding Stops
no_line text all =
    ap (λ rest. line_behind (front_of text) rest) (ap behind (sym (append-nil text)) ∙ behind_at text [] all tt)

label_read : (label : Option Symbol) (at : ℕ) → OkSymbol label → line_read (label_text label at) ≡ None
unfolding OkSymbol Stops
label_read None at ok = no_line (hex_text at) (hex_ok at)
label_read (Some label) at ok =
    ap (λ rest. line_behind (front_of (label.name ++ (codes "+" ++ hex_text (at - label.address)))) rest)
    (behind_at label.name (codes "+" ++ hex_text (at - label.address)) ok refl)

function_stops : (label : Option Symbol) → Stops (function_text label)
unfolding Stops
function_stops None = tt
function_stops (Some label) = refl

text_read : (label : Option Symbol) (line : Option Line) (at : ℕ) → OkSymbol label → OkLine line
    → line_read (text_by label line at) ≡ line
unfolding OkLine Stops
text_read label None at ok is = label_read label at ok
text_read label (Some line) at ok is =
    let behind_file = codes ":" ++ (line.number ++ function_text label) in
    ap (λ front. line_behind front (behind (line.file ++ behind_file))) (front_at line.file behind_file is.0 refl)
    ∙ ap (λ rest. line_behind line.file rest) (behind_at line.file behind_file is.0 refl)
    ∙ ap (λ (number : List ℕ). Some (record { file = line.file; number = number }))
    (front_at line.number (function_text label) is.1 (function_stops label))

place_read : (symbols : List Symbol) (at : ℕ) → AllByRecursion (λ (s : Symbol). is_symbol_name s.name ≡ true) symbols
    → line_read (place_name symbols at) ≡ line_at symbols at
unfolding place_name line_at nearest_of OkSymbol
place_read symbols at all =
    text_read (nearest_of kind.Label symbols at) (line_at symbols at) at (nearest_ok kind.Label at None symbols tt all)
    (within_ok (nearest_of kind.Label symbols at) (nearest_of kind.Line symbols at) (nearest_ok kind.Line at None symbols tt all))

pub one_line : OneLineLaw
one_line symbols one other all same =
    sym (place_read symbols one all) ∙ ap line_read same ∙ place_read symbols other all
