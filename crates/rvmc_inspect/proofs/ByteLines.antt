-- Lines of bytes.
use Rattle.std.specs.Prelude.{ℕ, ◌+◌, ◌-◌, ◌<◌, ◌≤◌, ◌≡◌, ◌⊎◌, List, [], ◌∷◌, ◌++◌, drop, length, map, min, slice_index, take}
use Rattle.std.specs.List.{flat_map, join_with_byte}
use Rattle.std.proofs.Common.{◌∙◌, ap, append-nil, append_assoc, arith, inl, inr, refl, sym}
use Rattle.std.proofs.lemmas.Bool.{cases_lt}
use Rattle.std.proofs.lemmas.List.{length-drop, take_all}
use Rattle.rvmc_inspect.specs.WordTexts.{bytes_line, padded_hex}

-- pieces with a byte between are the first, and each other behind that byte
pub joined : (c : ℕ) (x : List ℕ) (xs : List (List ℕ)) → join_with_byte c (x ∷ xs) ≡ x ++ flat_map (λ piece. c ∷ piece) xs
joined c x [] = sym (append-nil x)
joined c x (y ∷ ys) = ap (λ rest. x ++ (c ∷ rest)) (joined c y ys)

pub flat_map-map : (f : ℕ → List ℕ) (c : ℕ) (xs : List ℕ) → flat_map (λ piece. c ∷ piece) (map f xs) ≡ flat_map (λ x. c ∷ f x) xs
flat_map-map f c [] = refl
flat_map-map f c (x ∷ xs) = ap (λ rest. c ∷ (f x ++ rest)) (flat_map-map f c xs)

pub line_of_first : (bytes : List ℕ) → 0 < length bytes → bytes_line bytes ≡ (padded_hex 2 (slice_index bytes 0) ++ flat_map (λ b. 32 ∷ padded_hex 2 b) (drop 1 bytes)) ++ 10 ∷ []
line_of_first [] some = absurd (omega (arith, some))
line_of_first (b ∷ bs) some =
    ap (λ line. line ++ 10 ∷ []) (joined 32 (padded_hex 2 b) (map (padded_hex 2) bs) ∙ ap (λ rest. padded_hex 2 b ++ rest) (flat_map-map (padded_hex 2) 32 bs))

-- all bytes of a line are there
pub line_done : (old bytes first text : List ℕ) (n : ℕ) → 0 < length bytes → first ≡ padded_hex 2 (slice_index bytes 0) → length (drop 1 bytes) ≤ n
    → text ≡ old ++ (first ++ flat_map (λ b. 32 ∷ padded_hex 2 b) (take n (drop 1 bytes)))
    → text ++ 10 ∷ [] ≡ old ++ bytes_line bytes
line_done old bytes first text n some head end is =
    let rest = flat_map (λ b. 32 ∷ padded_hex 2 b) (drop 1 bytes) in
    ap (λ t. t ++ 10 ∷ []) (is ∙ ap (λ f. old ++ (f ++ flat_map (λ b. 32 ∷ padded_hex 2 b) (take n (drop 1 bytes)))) head
    ∙ ap (λ bs. old ++ (padded_hex 2 (slice_index bytes 0) ++ flat_map (λ b. 32 ∷ padded_hex 2 b) bs)) (take_all n (drop 1 bytes) end))
    ∙ append_assoc old (padded_hex 2 (slice_index bytes 0) ++ rest) (10 ∷ [])
    ∙ ap (λ line. old ++ line) (sym (line_of_first bytes some))

-- of the bytes behind a place 16, or what is left
pub line_cut : (bytes : List ℕ) (from to : ℕ) → from ≤ length bytes → to ≡ min (length bytes) (from + 16)
    → take (to - from) (drop from bytes) ≡ take 16 (drop from bytes)
line_cut bytes from to inside is = by_order (cases_lt (from + 16) (length bytes))
  where
    rest : length (drop from bytes) ≡ length bytes - from
    rest = length-drop from bytes

    by_order : ((from + 16 < length bytes) ⊎ (length bytes ≤ from + 16))
        → take (to - from) (drop from bytes) ≡ take 16 (drop from bytes)
    by_order (inl more) =
        let whole : to - from ≡ 16 = omega (arith, more, is) in ap (λ n. take n (drop from bytes)) whole
    by_order (inr last) =
        let all : length (drop from bytes) ≤ to - from = omega (arith, rest, last, is, inside) in
        let short : length (drop from bytes) ≤ 16 = omega (arith, rest, last, inside) in
        take_all (to - from) (drop from bytes) all ∙ sym (take_all 16 (drop from bytes) short)
