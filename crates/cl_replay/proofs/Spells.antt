-- The bytes that are made ready, and the words that stand in their box.
use Rattle.std.specs.Prelude.{ℕ, ◌≡◌, ◌<◌, ◌≤◌, ◌+◌, ◌-◌, ◌*◌, ◌%◌, ◌++◌, List, [], ◌∷◌, drop, length, replicate, take}
use Rattle.std.specs.List.{flat_map}
use Rattle.std.proofs.Common.{zero, suc, refl, sym, ap, ◌∙◌, subst, add-one, arith, get_or}
use Rattle.std.proofs.lemmas.List.{length-take-le, take_all}
use Rattle.rv_image_types.specs.declared.images.ImageVersion.{ImageVersion}
use Rattle.rv_image_types.specs.declared.images.ImageVersion.TheVariants.{One, Two}
use Rattle.part_channel.specs.Words.{bytes_of_words, bytes_of_word}
use Rattle.part_channel.specs.BoxWords.{words_of}
use Rattle.part_channel.proofs.Words.{more_bytes}
use Rattle.part_phase.specs.Limits.{box_bytes}
use Rattle.cl_state.specs.declared.asking.Ask.TheVariants as ask
use Rattle.cl_state.specs.Asked.{asked}
use Rattle.cl_state.specs.Moves.{Known}
use Rattle.cl_state.specs.Rank.{Rank}
use Rattle.cl_state.proofs.Known.{known}
use Rattle.cl_machine.specs.Keys.{bytes_in}

front : (xs ys : List ℕ) (n : ℕ) → length xs ≡ n → take n (xs ++ ys) ≡ xs
front [] ys n e = subst (λ m. take m ys ≡ []) e refl
front (x ∷ xs) ys n e = subst (λ m. take m (x ∷ (xs ++ ys)) ≡ x ∷ xs) e (ap (λ l. x ∷ l) (front xs ys (length xs) refl))

wide : (version : ImageVersion) → (box_bytes version ≤ 128) × (box_bytes version % 8 ≡ 0)
wide One = (omega arith, refl)
wide Two = (omega arith, refl)

module _ (r : Rank) (hart link part : ℕ) (bytes : List ℕ) (asks : asked r hart ≡ ask.Ready link part bytes) where
  -- they are as wide as a box
  width : length bytes ≡ box_bytes r.site.version
  width = (subst (Known r.site r.memory r.phases) asks (known r hart)).width

  pub ready_whole : length bytes % 8 ≡ 0
  ready_whole = ap (λ n. n % 8) width ∙ (wide r.site.version).1

  pub ready_fits : length bytes ≤ 128
  ready_fits = omega (arith, width, (wide r.site.version).0)

  pub ready_spelled : (words now : List ℕ) → now ≡ bytes → bytes_of_words words ≡ now ++ replicate (128 - length now) 0
      → bytes ≡ bytes_in r.site.version words
  ready_spelled words now same is =
      sym (ap (take (box_bytes r.site.version)) is
      ∙ (ap (λ xs. take (box_bytes r.site.version) (xs ++ replicate (128 - length xs) 0)) same
      ∙ front bytes (replicate (128 - length bytes) 0) (box_bytes r.site.version) width))

-- ---- a loop over the words

pub all_words : (words bytes : List ℕ) (i : ℕ) → i ≡ 16 → length words ≡ 16 → take i words ≡ words_of bytes i
    → words ≡ words_of bytes 16
all_words words bytes i end long is =
    sym (take_all 16 words (omega (arith, long)))
    ∙ (ap (λ n. take n words) (sym end) ∙ (is ∙ ap (words_of bytes) end))

pub next_bytes : (words out out' : List ℕ) (i : ℕ) → i < length words → i < 16
    → out ≡ flat_map bytes_of_word (take i words) ++ replicate (128 - 8 * i) 0
    → out' ≡ take (8 * i) out ++ (bytes_of_word (get_or words i 0) ++ drop (8 * i + 8) out)
    → out' ≡ flat_map bytes_of_word (take (i + 1) words) ++ replicate (128 - 8 * (i + 1)) 0
next_bytes words out out' i there low is made =
    subst (λ ws. out' ≡ flat_map bytes_of_word ws ++ replicate (128 - 8 * (i + 1)) 0) (sym (front_next words i there))
    (more_bytes out out' (take i words) i (get_or words i 0) (length-take-le i words (omega (arith, there))) low is
    made)
  where
    front_next : (xs : List ℕ) (k : ℕ) → k < length xs → take (k + 1) xs ≡ take k xs ++ get_or xs k 0 ∷ []
    front_next [] k below = absurd (omega (arith, below))
    front_next (x ∷ xs) zero below = refl
    front_next (x ∷ xs) (suc k) below = rw add-one
        (ap (λ ys. x ∷ ys) (rw add-one at (front_next xs k (omega (arith, below)))))
