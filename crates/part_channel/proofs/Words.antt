-- The words of bytes, and the bytes of words.
use Rattle.std.proofs.Common.{◌≡◌, ℕ, zero, suc, ◌+◌, ◌-◌, ◌*◌, ◌%◌, ◌<◌, ◌≤◌, List, [], ◌∷◌, ◌++◌, length, get_or}
use Rattle.std.proofs.Common.{replicate, take, drop, Bool, true, false, refl, sym, ap, ◌∙◌, subst, ⊎_elim, arith}
use Rattle.std.proofs.Common.{length-append, append_assoc}
use Rattle.std.specs.Prelude.{nat_lt, if◌then◌else◌}
use Rattle.std.specs.Int.{w64, from_le_bytes}
use Rattle.std.specs.List.{flat_map}
use Rattle.std.proofs.lemmas.Bool.{cases_lt}
use Rattle.std.proofs.lemmas.Grind.{flat_map-append}
use Rattle.std.proofs.lemmas.List.{append-nil, drop-replicate, get_or-take, get_or-drop, get_or_past, length-take-le}
use Rattle.std.proofs.lemmas.List.{length-drop, replicate-append-replicate, take_all}
use Rattle.std.proofs.lemmas.Nat.{le_bytes_8}
use Rattle.part_channel.specs.Words.{bytes_of_word, bytes_of_words}
use Rattle.part_channel.specs.BoxWords.{word_at, words_of}

pub length-words_of : (bytes : List ℕ) (n : ℕ) → length (words_of bytes n) ≡ n
length-words_of bytes zero = refl
length-words_of bytes (suc n) =
    length-append (words_of bytes n) (word_at bytes n ∷ []) ∙ (ap (λ m. m + 1) (length-words_of bytes n) ∙ omega arith)

pub length-bytes : (words : List ℕ) → length (flat_map bytes_of_word words) ≡ 8 * length words
length-bytes [] = refl
length-bytes (w ∷ ws) =
    length-append (bytes_of_word w) (flat_map bytes_of_word ws) ∙ (ap (λ n. 8 + n) (length-bytes ws) ∙ omega arith)

-- one more word
one_more : (words : List ℕ) (word : ℕ)
    → flat_map bytes_of_word (words ++ word ∷ []) ≡ flat_map bytes_of_word words ++ bytes_of_word word
one_more words word =
    flat_map-append bytes_of_word words (word ∷ [])
    ∙ ap (λ l. flat_map bytes_of_word words ++ l) (append-nil (bytes_of_word word))

take-front : {A : Type 0} (xs ys : List A) (n : ℕ) → length xs ≡ n → take n (xs ++ ys) ≡ xs
take-front [] ys n e = subst (λ m. take m ys ≡ []) e refl
take-front (x ∷ xs) ys n e =
    subst (λ m. take m (x ∷ (xs ++ ys)) ≡ x ∷ xs) e (ap (λ l. x ∷ l) (take-front xs ys (length xs) refl))

drop-front : {A : Type 0} (xs ys : List A) (m n : ℕ) → m ≡ length xs + n → drop m (xs ++ ys) ≡ drop n ys
drop-front [] ys m n e = ap (λ k. drop k ys) (omega (arith, e))
drop-front (x ∷ xs) ys zero n e = absurd (omega (arith, e))
drop-front (x ∷ xs) ys (suc m) n e = drop-front xs ys m n (omega (arith, e))

-- one more word behind the others, in a row of 128 bytes
pub more_bytes : (out out' words : List ℕ) (i word : ℕ) → length words ≡ i → i < 16
    → out ≡ flat_map bytes_of_word words ++ replicate (128 - 8 * i) 0
    → out' ≡ take (8 * i) out ++ (bytes_of_word word ++ drop (8 * i + 8) out)
    → out' ≡ flat_map bytes_of_word (words ++ word ∷ []) ++ replicate (128 - 8 * (i + 1)) 0
more_bytes out out' words i word long low is made =
    let F : List ℕ = flat_map bytes_of_word words in
    let R : List ℕ = replicate (128 - 8 * i) 0 in
    let lf : length F ≡ 8 * i = length-bytes words ∙ ap (λ n. 8 * n) long in
    let front : take (8 * i) out ≡ F = ap (take (8 * i)) is ∙ take-front F R (8 * i) lf in
    let back : drop (8 * i + 8) out ≡ replicate (128 - 8 * (i + 1)) 0 =
    ap (drop (8 * i + 8)) is
    ∙ (drop-front F R (8 * i + 8) 8 (omega (arith, lf))
    ∙ (drop-replicate 8 (128 - 8 * i) 0 ∙ ap (λ n. replicate n 0) (omega arith))) in
    made ∙ (ap (λ l. l ++ (bytes_of_word word ++ drop (8 * i + 8) out)) front
    ∙ (ap (λ l. F ++ (bytes_of_word word ++ l)) back
    ∙ (sym (append_assoc F (bytes_of_word word) (replicate (128 - 8 * (i + 1)) 0))
    ∙ ap (λ l. l ++ replicate (128 - 8 * (i + 1)) 0) (sym (one_more words word)))))

abbrev nothing : List ℕ
nothing = []

take_nothing : (i : ℕ) → take i nothing ≡ nothing
take_nothing zero = refl
take_nothing (suc i) = refl

take-take : (xs : List ℕ) (n m k : ℕ) → k ≡ n + m → take n xs ++ take m (drop n xs) ≡ take k xs
take-take xs zero m k e = let same : m ≡ k = omega (arith, e) in ap (λ j. take j xs) same
take-take [] (suc n) m k e = take_nothing m ∙ sym (take_nothing k)
take-take (x ∷ xs) (suc n) m zero e = absurd (omega (arith, e))
take-take (x ∷ xs) (suc n) m (suc k) e = ap (λ l. x ∷ l) (take-take xs n m k (omega (arith, e)))

module _ (bytes : List ℕ) (small : (i : ℕ) → get_or bytes i 0 < 256) (whole : length bytes % 8 ≡ 0) where
  -- the eight bytes of a word that is there
  back_at : (n : ℕ) → 8 * n < length bytes
      → bytes_of_word (from_le_bytes w64 (take 8 (drop (8 * n) bytes))) ≡ take 8 (drop (8 * n) bytes)
  back_at n low =
      let behind : length (drop (8 * n) bytes) ≡ length bytes - 8 * n = length-drop (8 * n) bytes in
      le_bytes_8 (take 8 (drop (8 * n) bytes)) (from_le_bytes w64 (take 8 (drop (8 * n) bytes)))
      (length-take-le 8 (drop (8 * n) bytes) (omega arith)) bound refl
    where
      bound : (i : ℕ) → get_or (take 8 (drop (8 * n) bytes)) i 0 < 256
      bound i = ⊎_elim
          (λ (inside : i < 8).
          subst (λ x. x < 256) (sym (get_or-take 8 (drop (8 * n) bytes) i 0 inside ∙ get_or-drop (8 * n) bytes i 0))
          (small (8 * n + i)))
          (λ (past : 8 ≤ i).
          let behind : length (drop (8 * n) bytes) ≡ length bytes - 8 * n = length-drop (8 * n) bytes in
          let eight : length (take 8 (drop (8 * n) bytes)) ≡ 8 = length-take-le 8 (drop (8 * n) bytes) (omega arith) in
          subst (λ x. x < 256) (sym (get_or_past (take 8 (drop (8 * n) bytes)) i 0 (omega arith))) (omega arith))
          (cases_lt i 8)

  -- the first words are the first bytes, and 0 behind them
  spelled : (n : ℕ)
      → flat_map bytes_of_word (words_of bytes n) ≡ take (8 * n) bytes ++ replicate (8 * n - length bytes) 0
  spelled zero = let none : 0 ≡ 0 - length bytes = omega arith in ap (λ k. replicate k 0) none
  spelled (suc n) =
      one_more (words_of bytes n) (word_at bytes n)
      ∙ (ap (λ l. l ++ bytes_of_word (word_at bytes n)) (spelled n) ∙ step (nat_lt (8 * n) (length bytes)) refl)
    where
      step : (b : Bool) → nat_lt (8 * n) (length bytes) ≡ b
          → (take (8 * n) bytes ++ replicate (8 * n - length bytes) 0) ++ bytes_of_word (word_at bytes n)
          ≡ take (8 * suc n) bytes ++ replicate (8 * suc n - length bytes) 0
      step true is =
          let low : 8 * n < length bytes = grind (arith, is) in
          let none : 8 * n - length bytes ≡ 0 = omega arith in
          let none' : 0 ≡ 8 * suc n - length bytes = omega arith in
          let word : bytes_of_word (word_at bytes n) ≡ take 8 (drop (8 * n) bytes) =
          ap (λ (b : Bool). bytes_of_word (if b then from_le_bytes w64 (take 8 (drop (8 * n) bytes)) else 0)) is
          ∙ back_at n low in
          let more : 8 * suc n ≡ 8 * n + 8 = omega arith in
          ap (λ k. (take (8 * n) bytes ++ replicate k 0) ++ bytes_of_word (word_at bytes n)) none
          ∙ (ap (λ l. l ++ bytes_of_word (word_at bytes n)) (append-nil (take (8 * n) bytes))
          ∙ (ap (λ l. take (8 * n) bytes ++ l) word
          ∙ (take-take bytes (8 * n) 8 (8 * suc n) more
          ∙ (sym (append-nil (take (8 * suc n) bytes)) ∙ ap (λ k. take (8 * suc n) bytes ++ replicate k 0) none'))))
      step false is =
          let high : length bytes ≤ 8 * n = grind (arith, is) in
          let zeros : 8 * n - length bytes + 8 ≡ 8 * suc n - length bytes = omega arith in
          let word : bytes_of_word (word_at bytes n) ≡ replicate 8 0 =
          ap (λ (b : Bool). bytes_of_word (if b then from_le_bytes w64 (take 8 (drop (8 * n) bytes)) else 0)) is in
          ap (λ l. (take (8 * n) bytes ++ replicate (8 * n - length bytes) 0) ++ l) word
          ∙ (append_assoc (take (8 * n) bytes) (replicate (8 * n - length bytes) 0) (replicate 8 0)
          ∙ (ap (λ l. take (8 * n) bytes ++ l)
          (replicate-append-replicate (8 * n - length bytes) 8 0 ∙ ap (λ k. replicate k 0) zeros)
          ∙ ap (λ l. l ++ replicate (8 * suc n - length bytes) 0)
          (take_all (8 * n) bytes high ∙ sym (take_all (8 * suc n) bytes (omega arith)))))

  -- what went into a box of this width comes out of it
  pub bytes_back : (width : ℕ) → length bytes ≤ 8 * width → width ≤ 16
      → bytes_of_words (words_of bytes width) ≡ bytes ++ replicate (128 - length bytes) 0
  bytes_back width fits wide =
      let count : length (words_of bytes width) ≡ width = length-words_of bytes width in
      let zeros : 8 * width - length bytes + (128 - 8 * width) ≡ 128 - length bytes = omega arith in
      ap (λ n. flat_map bytes_of_word (words_of bytes width) ++ replicate (128 - 8 * n) 0) count
      ∙ (ap (λ l. l ++ replicate (128 - 8 * width) 0) (spelled width)
      ∙ (append_assoc (take (8 * width) bytes) (replicate (8 * width - length bytes) 0) (replicate (128 - 8 * width) 0)
      ∙ (ap (λ l. take (8 * width) bytes ++ l)
      (replicate-append-replicate (8 * width - length bytes) (128 - 8 * width) 0 ∙ ap (λ k. replicate k 0) zeros)
      ∙ ap (λ l. l ++ replicate (128 - length bytes) 0) (take_all (8 * width) bytes fits))))
