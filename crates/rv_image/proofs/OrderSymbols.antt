-- The step of a symbol follows the rows of its tests.
use Rattle.std.proofs.Common.{◌≡◌, ℕ, ◌+◌, ◌-◌, ◌<◌, ◌≤◌, Bool, true, false, cond, ◌&&◌, ltb, leb, List, [], ◌∷◌, ◌++◌, length, take, drop, Result, Ok, Err, refl, sym, ap, subst, ◌∙◌, inl, inr, arith, add-one}
use Rattle.std.specs.Int.{w32, from_le_bytes}
use Rattle.std.proofs.lemmas.Bool.{cases_lt, lt-ltb, le-ltb, le-leb, lt-leb}
use Rattle.std.proofs.lemmas.List.{take-take, get_or-take, get_or-drop, drop-drop, length-drop, length_push}
use Rattle.rv_image.specs.declared.faults.ImageFault.{ImageFault}
use Rattle.rv_image.specs.declared.faults.ImageFault.TheVariants as faults
use Rattle.rv_image_types.specs.declared.images.Symbol.{Symbol}
use Rattle.rv_image_types.specs.Names.{is_within, is_symbol_name, name_before}
use Rattle.rv_image.specs.Reading.{byte_at, number_at, next_bytes, last_name, is_next_symbol, named_at, symbol_at, next_symbol}
use Rattle.rv_image.specs.Order.{name_at, symbol_tests, symbol_start, name_ahead}
use Rattle.rv_image.proofs.OrderFollows.{Follows, IsLeft, IsAt, follows_then, follows_map, follows_test}
use Rattle.rv_image.proofs.Rising.{last_name-push}

-- n bytes at the offset, and what is left behind them
record IsPiece (bytes : List ℕ) (offset n : ℕ) (x : List ℕ × List ℕ) : Type 0 where
  is : x.0 ≡ take n (drop offset bytes)
  left : IsLeft bytes (offset + n) x.1

piece_follows : (bytes : List ℕ) (offset n : ℕ) → (length bytes < offset + n → length bytes - offset < n)
    → Follows ((leb (offset + n) (length bytes), faults.Short (length bytes)) ∷ []) (IsPiece bytes offset n) (next_bytes n (length bytes) (drop offset bytes))
piece_follows bytes offset n missing =
    let len = length-drop offset bytes in
    elim (cases_lt (length bytes) (offset + n)) [
      | inl lt ↦
          let few : ltb (length (drop offset bytes)) n ≡ true = lt-ltb (length (drop offset bytes)) n (omega (arith, len, missing lt)) in
          rw (few, lt-leb (offset + n) (length bytes) lt) refl
      | inr le ↦
          let enough : ltb (length (drop offset bytes)) n ≡ false = le-ltb (length (drop offset bytes)) n (omega (arith, len, le)) in
          rw (enough, le-leb (offset + n) (length bytes) le) (refl, record { is = refl; left = record { is = drop-drop n offset bytes; there = le } })
    ]

-- three tests of one fault are rows one after the other
follows_three : {A : Type 0} (a b c : Bool) (fault : ImageFault) (ys : List (Bool × ImageFault)) (Good : A → Type 0) (r : Result A ImageFault)
    → Follows ys Good r → Follows ((a, fault) ∷ (b, fault) ∷ (c, fault) ∷ ys) Good (cond (a && (b && c)) r (Err fault))
follows_three true true true fault ys Good (Ok x) h = h
follows_three true true true fault ys Good (Err d) h = h
follows_three true true false fault ys Good r h = refl
follows_three true false c fault ys Good r h = refl
follows_three false b c fault ys Good r h = refl

-- ---- the front: an address and a length

length_in : (bytes : List ℕ) (start : ℕ) → byte_at 4 (take 5 (drop start bytes)) ≡ byte_at (start + 4) bytes
length_in bytes start = get_or-take 5 (drop start bytes) 4 0 (omega arith) ∙ get_or-drop start bytes 4 0

address_in : (bytes : List ℕ) (start : ℕ) → number_at w32 0 (take 5 (drop start bytes)) ≡ number_at w32 start bytes
address_in bytes start = ap (from_le_bytes w32) (take-take 4 5 (drop start bytes) (omega arith))

-- ---- the name and the symbol as a whole

-- the symbol that begins at `start`, and what is left behind it
record IsSymbolAt (bytes : List ℕ) (start : ℕ) (x : Symbol × List ℕ) : Type 0 where
  name : x.0.name ≡ name_at bytes start
  left : IsLeft bytes (start + 5 + byte_at (start + 4) bytes) x.1

abbrev made : ℕ → List ℕ → Symbol
made address name = record { name = name; address = address }

abbrev last_tests : List ℕ → ℕ → ℕ → List ℕ → ℕ → List (Bool × ImageFault)
last_tests bytes memory n last start =
    (is_symbol_name (name_at bytes start), faults.Symbol n)
    ∷ (name_before last (name_at bytes start), faults.Symbol n)
    ∷ (leb (number_at w32 start bytes) memory, faults.Symbol n)
    ∷ []

named_follows : (bytes : List ℕ) (memory n : ℕ) (last : List ℕ) (start : ℕ) → start + 5 ≤ length bytes
    → Follows ((leb (start + 5 + byte_at (start + 4) bytes) (length bytes), faults.Short (length bytes)) ∷ last_tests bytes memory n last start) (IsSymbolAt bytes start) (named_at (length bytes) memory n last (number_at w32 start bytes) (byte_at (start + 4) bytes) (drop (start + 5) bytes))
named_follows bytes memory n last start there =
    let size : ℕ = byte_at (start + 4) bytes in
    let address : ℕ = number_at w32 start bytes in
    let Good : Symbol × List ℕ → Type 0 = IsSymbolAt bytes start in
    follows_then ((leb (start + 5 + size) (length bytes), faults.Short (length bytes)) ∷ []) (last_tests bytes memory n last start) (IsPiece bytes (start + 5) size) Good (next_bytes size (length bytes) (drop (start + 5) bytes))
    (λ name. cond (is_next_symbol memory last (made address name.0)) (Ok (made address name.0, name.1)) (Err (faults.Symbol n)))
    (piece_follows bytes (start + 5) size (λ lt. omega (arith, lt, there)))
    (λ name at.
    let good : Good (made address name.0, name.1) = record { name = at.is; left = at.left } in
    subst (λ (t : List ℕ). Follows ((is_symbol_name t, faults.Symbol n) ∷ (name_before last t, faults.Symbol n) ∷ (leb address memory, faults.Symbol n) ∷ []) Good (cond (is_next_symbol memory last (made address name.0)) (Ok (made address name.0, name.1)) (Err (faults.Symbol n)))) at.is
    (follows_three (is_symbol_name name.0) (name_before last name.0) (leb address memory) (faults.Symbol n) [] Good (Ok (made address name.0, name.1)) (refl, good)))

symbol_follows : (bytes : List ℕ) (memory n : ℕ) (last : List ℕ) (start : ℕ)
    → Follows (symbol_tests bytes memory n last start) (IsSymbolAt bytes start) (symbol_at (length bytes) memory n last (drop start bytes))
unfolding symbol_at
symbol_follows bytes memory n last start =
    let size : ℕ = byte_at (start + 4) bytes in
    let Good : Symbol × List ℕ → Type 0 = IsSymbolAt bytes start in
    let short = faults.Short (length bytes) in
    let sized : Bool = is_within 1 31 size in
    let behind : List (Bool × ImageFault) = (sized, faults.Symbol n) ∷ (leb (start + 5 + size) (length bytes), short) ∷ last_tests bytes memory n last start in
    let read : ℕ → ℕ → List ℕ → Result (Symbol × List ℕ) ImageFault = λ address size rest. cond (is_within 1 31 size) (named_at (length bytes) memory n last address size rest) (Err (faults.Symbol n)) in
    follows_then ((leb (start + 5) (length bytes), short) ∷ []) behind (IsPiece bytes start 5) Good (next_bytes 5 (length bytes) (drop start bytes))
    (λ front. read (number_at w32 0 front.0) (byte_at 4 front.0) front.1)
    (piece_follows bytes start 5 (λ lt. omega (arith, lt)))
    (λ front at.
    let size_is : byte_at 4 front.0 ≡ size = ap (byte_at 4) at.is ∙ length_in bytes start in
    let address_is : number_at w32 0 front.0 ≡ number_at w32 start bytes = ap (number_at w32 0) at.is ∙ address_in bytes start in
    let named : Follows behind Good (read (number_at w32 start bytes) size (drop (start + 5) bytes)) =
    follows_test sized sized (faults.Symbol n) ((leb (start + 5 + size) (length bytes), short) ∷ last_tests bytes memory n last start) Good (named_at (length bytes) memory n last (number_at w32 start bytes) size (drop (start + 5) bytes)) refl (named_follows bytes memory n last start at.left.there) in
    rw (address_is, size_is, at.left.is) named)

-- ---- one symbol more

-- so many symbols were read, the last one of the name that stands before symbol k
pub record AreSymbols (bytes : List ℕ) (first k : ℕ) (done : List Symbol) : Type 0 where
  pub count : length done ≡ k
  pub last : last_name done ≡ name_ahead bytes first k

pub next_symbol_follows : (bytes : List ℕ) (memory first k : ℕ) (done : List Symbol) → AreSymbols bytes first k done
    → Follows (symbol_tests bytes memory k (name_ahead bytes first k) (symbol_start bytes first k)) (IsAt bytes (symbol_start bytes first) (AreSymbols bytes first) (k + 1)) (next_symbol (length bytes) memory done (drop (symbol_start bytes first k) bytes))
next_symbol_follows bytes memory first k done are =
    let start = symbol_start bytes first k in
    let tests = symbol_tests bytes memory k (name_ahead bytes first k) start in
    let Good : List Symbol × List ℕ → Type 0 = IsAt bytes (symbol_start bytes first) (AreSymbols bytes first) (k + 1) in
    let next : start + 5 + byte_at (start + 4) bytes ≡ symbol_start bytes first (k + 1) = ap (symbol_start bytes first) (sym (add-one k)) in
    let ahead : name_at bytes start ≡ name_ahead bytes first (k + 1) = ap (name_ahead bytes first) (sym (add-one k)) in
    let read : Follows tests (IsSymbolAt bytes start) (symbol_at (length bytes) memory (length done) (last_name done) (drop start bytes)) = rw (are.count, are.last) (symbol_follows bytes memory k (name_ahead bytes first k) start) in
    follows_map tests (IsSymbolAt bytes start) Good (symbol_at (length bytes) memory (length done) (last_name done) (drop start bytes)) (λ symbol. (done ++ symbol.0 ∷ [], symbol.1)) read
    (λ symbol at. record {
      done = record { count = length_push done symbol.0 ∙ ap (λ (m : ℕ). m + 1) are.count; last = last_name-push done symbol.0 ∙ at.name ∙ ahead };
      left = subst (λ (o : ℕ). IsLeft bytes o symbol.1) next at.left;
    })
