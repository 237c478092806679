-- The table of the bytes that may stand in names, against the definition.
use Rattle.std.proofs.Common.{◌≡◌, ℕ, zero, suc, ◌+◌, ◌<◌, Bool, true, false, ◌&&◌, not, List, [], ◌∷◌, length, codes, slice_index_or, nat_eq, refl, sym, ap, ◌∙◌, arith}
use Rattle.rv_asm_tokens.specs.Scan.{is_name_byte}

abbrev table : List ℕ
table = codes "------------------------------------$---------.-0123456789-------ABCDEFGHIJKLMNOPQRSTUVWXYZ----_-abcdefghijklmnopqrstuvwxyz-------------------------------------------------------------------------------------------------------------------------------------"

abbrev named : ℕ → Bool
named x = not (nat_eq x 45)

abbrev same : Bool → Bool → Bool
same true b = b
same false b = not b

same_is : (a b : Bool) → same a b ≡ true → a ≡ b
same_is true true h = refl
same_is true false h = sym h
same_is false true h = h
same_is false false h = refl

-- the bytes from i on are in the table what they are in the definition
abbrev agree : List ℕ → ℕ → Bool
agree [] i = true
agree (x ∷ xs) i = same (named x) (is_name_byte i) && agree xs (suc i)

both : (a b : Bool) → (a && b) ≡ true → (a ≡ true) × (b ≡ true)
both true true h = (refl, refl)
both true false h = absurd cc
both false b h = absurd cc

agree_at : (xs : List ℕ) (i b : ℕ) → agree xs i ≡ true → b < length xs → named (slice_index_or xs b 0) ≡ is_name_byte (b + i)
agree_at [] i b h lt = absurd (omega arith)
agree_at (x ∷ xs) i zero h lt =
    let e : i ≡ 0 + i = omega arith in
    same_is (named x) (is_name_byte i) (both (same (named x) (is_name_byte i)) (agree xs (suc i)) h).0 ∙ ap is_name_byte e
agree_at (x ∷ xs) i (suc b) h lt =
    let e : b + suc i ≡ suc b + i = omega arith in
    agree_at xs (suc i) b (both (same (named x) (is_name_byte i)) (agree xs (suc i)) h).1 (omega arith) ∙ ap is_name_byte e

pub listed : (b : ℕ) → b < 256 → named (slice_index_or table b 0) ≡ is_name_byte b
listed b lt =
    let e : b + 0 ≡ b = omega arith in
    agree_at table 0 b refl lt ∙ ap is_name_byte e
