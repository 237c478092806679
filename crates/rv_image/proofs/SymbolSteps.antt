-- What the step of a symbol takes from the bytes, and that it reads a symbol's text again.
use Rattle.std.proofs.Common.{◌≡◌, ℕ, ◌^◌, ◌<◌, ◌≤◌, true, cond, ◌&&◌, leb, List, [], ◌∷◌, ◌++◌, length, drop, Ok, Err, refl, sym, ap, subst, ◌∙◌, append_assoc, arith}
use Rattle.std.specs.Int.{w32, to_le_bytes}
use Rattle.std.proofs.Math.ListN.{drop_of_length-le}
use Rattle.std.proofs.lemmas.Bool.{and_parts, and_from, leb-true, le-leb}
use Rattle.std.proofs.lemmas.Nat.{from_le_bytes-to_le_bytes_4}
use Rattle.rv_image.specs.declared.faults.ImageFault.TheVariants as faults
use Rattle.rv_image_types.specs.declared.images.Symbol.{Symbol}
use Rattle.rv_image_types.specs.Image.{IsSymbol}
use Rattle.rv_image_types.specs.Names.{is_within, is_symbol_name, name_before}
use Rattle.rv_image.specs.Text.{symbol_text}
use Rattle.rv_image.specs.Reading.{byte_at, number_at, next_bytes, last_name, is_next_symbol, named_at, symbol_at, next_symbol}
use Rattle.rv_image.proofs.Takes.{IsBytes, bind_ok, want_ok, ok_is, Takes, Takes-then, bytes_take, bytes_front, bytes_again}
use Rattle.rv_image.proofs.Steps.{StepTakes}
use Rattle.rv_image.proofs.Numbers.{IsBytes-take, byte_cut, word_cut}
use Rattle.rv_image.proofs.Rising.{IsNextSymbol}

-- 5 bytes are an address and a length
front_is : (front : List ℕ) → IsBytes front → length front ≡ 5 → front ≡ to_le_bytes w32 (number_at w32 0 front) ++ (byte_at 4 front ∷ [])
front_is front fits five =
    let at_0 = word_cut 0 front (number_at w32 0 front) fits (omega (arith, five)) refl in
    let at_4 = byte_cut 4 front (byte_at 4 front) (omega (arith, five)) refl in
    let all : length front ≤ 5 = omega (arith, five) in
    let nothing : drop 5 front ≡ [] = drop_of_length-le front all in
    at_0 ∙ ap (λ (t : List ℕ). to_le_bytes w32 (number_at w32 0 front) ++ t) (at_4 ∙ ap (λ (t : List ℕ). byte_at 4 front ∷ t) nothing)

abbrev made : ℕ → List ℕ → Symbol
made address name = record { name = name; address = address }

symbol_at_takes : (total memory n : ℕ) (last bytes : List ℕ) (x : Symbol × List ℕ) → IsBytes bytes → symbol_at total memory n last bytes ≡ Ok x
    → Takes bytes (symbol_text x.0) x.1 × (IsSymbol memory x.0 × (name_before last x.0.name ≡ true))
unfolding symbol_at
symbol_at_takes total memory n last bytes x fits e =
    let a = bind_ok (next_bytes 5 total bytes) (λ front. cond (is_within 1 31 (byte_at 4 front.0)) (named_at total memory n last (number_at w32 0 front.0) (byte_at 4 front.0) front.1) (Err (faults.Symbol n))) x e in
    let front : List ℕ = a.0.0 in
    let address : ℕ = number_at w32 0 front in
    let size : ℕ = byte_at 4 front in
    let g = want_ok (is_within 1 31 size) (faults.Symbol n) (named_at total memory n last address size a.0.1) x a.2 in
    let b = bind_ok (next_bytes size total a.0.1) (λ name. cond (is_next_symbol memory last (made address name.0)) (Ok (made address name.0, name.1)) (Err (faults.Symbol n))) x g.1 in
    let name : List ℕ = b.0.0 in
    let f = want_ok (is_next_symbol memory last (made address name)) (faults.Symbol n) (Ok (made address name, b.0.1)) x b.2 in
    let first = bytes_take 5 total bytes front a.0.1 fits a.1 in
    let front_fits : IsBytes front = subst IsBytes (sym (bytes_front 5 total bytes front a.0.1 a.1)) (IsBytes-take 5 bytes fits) in
    let other = bytes_take size total a.0.1 name b.0.1 first.0.rest_fits b.1 in
    let begins : Takes bytes (to_le_bytes w32 address ++ (length name ∷ [])) a.0.1 =
    subst (λ (t : List ℕ). Takes bytes t a.0.1) (front_is front front_fits first.1 ∙ ap (λ (k : ℕ). to_le_bytes w32 address ++ (k ∷ [])) (sym other.1)) first.0 in
    let both = Takes-then bytes (to_le_bytes w32 address ++ (length name ∷ [])) a.0.1 name b.0.1 begins other.0 in
    let p = and_parts (is_symbol_name name) (name_before last name && leb address memory) f.0 in
    let q = and_parts (name_before last name) (leb address memory) p.1 in
    subst (λ (y : Symbol × List ℕ). Takes bytes (symbol_text y.0) y.1 × (IsSymbol memory y.0 × (name_before last y.0.name ≡ true))) (ok_is (made address name, b.0.1) x f.1)
    (subst (λ (t : List ℕ). Takes bytes t b.0.1) (append_assoc (to_le_bytes w32 address) (length name ∷ []) name) both, (record { named = p.0; in_memory = leb-true address memory q.1 }, q.0))

pub symbol_takes : (total memory : ℕ) (done : List Symbol) (bytes : List ℕ) (x : List Symbol × List ℕ) → IsBytes bytes → next_symbol total memory done bytes ≡ Ok x → StepTakes symbol_text (IsNextSymbol memory) done bytes x
symbol_takes total memory done bytes x fits e =
    let a = bind_ok (symbol_at total memory (length done) (last_name done) bytes) (λ symbol. Ok (done ++ symbol.0 ∷ [], symbol.1)) x e in
    let t = symbol_at_takes total memory (length done) (last_name done) bytes a.0 fits a.1 in
    subst (StepTakes symbol_text (IsNextSymbol memory) done bytes) (ok_is (done ++ a.0.0 ∷ [], a.0.1) x a.2) (record { item = a.0.0; is = refl; takes = t.0; right = t.1 })

-- a symbol's name has at least one byte, and at most 31
pub name_length : (name : List ℕ) → is_symbol_name name ≡ true → is_within 1 31 (length name) ≡ true
name_length name named = (and_parts (is_within 1 31 (length name)) _ named).0

symbol_at_again : (total memory n : ℕ) (last : List ℕ) (symbol : Symbol) (rest : List ℕ) → memory < 2 ^ 32 → IsSymbol memory symbol → name_before last symbol.name ≡ true → symbol_at total memory n last (symbol_text symbol ++ rest) ≡ Ok (symbol, rest)
unfolding symbol_at
symbol_at_again total memory n last symbol rest small is behind =
    let front : List ℕ = to_le_bytes w32 symbol.address ++ (length symbol.name ∷ []) in
    let size = name_length symbol.name is.named in
    let address = from_le_bytes-to_le_bytes_4 symbol.address (omega (arith, is.in_memory, small)) in
    let name = bytes_again symbol.name rest total in
    let next : is_next_symbol memory last symbol ≡ true = and_from (is_symbol_name symbol.name) (name_before last symbol.name && leb symbol.address memory) is.named (and_from (name_before last symbol.name) (leb symbol.address memory) behind (le-leb symbol.address memory is.in_memory)) in
    rw (bytes_again front (symbol.name ++ rest) total, size, address, name, next) refl

pub symbol_again : (total memory : ℕ) → memory < 2 ^ 32 → (done : List Symbol) (symbol : Symbol) (rest : List ℕ) → IsNextSymbol memory done symbol → next_symbol total memory done (symbol_text symbol ++ rest) ≡ Ok (done ++ symbol ∷ [], rest)
symbol_again total memory small done symbol rest is = rw (symbol_at_again total memory (length done) (last_name done) symbol rest small is.0 is.1) refl
