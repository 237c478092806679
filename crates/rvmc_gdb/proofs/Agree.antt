-- Each register stands in its place among all registers.
use Rattle.std.specs.Prelude.{ℕ, zero, suc, ◌≡◌, ◌+◌, ◌*◌, ◌<◌, ◌==◌, Bool, true, false, List, ◌++◌, length, take, drop}
use Rattle.std.specs.Prelude.{nat_lt, Some, None, if◌then◌else◌}
use Rattle.std.specs.List.{flat_map, range_with_len}
use Rattle.std.proofs.Common.{refl, sym, ap, subst, ◌∙◌, append_assoc, arith, ltb-true}
use Rattle.std.proofs.Math.Seq.{drop-append_seam, take-append_seam, take-length}
use Rattle.std.proofs.lemmas.Bool.{eqb-true}
use Rattle.std.proofs.lemmas.List.{drop-drop}
use Rattle.std.proofs.lemmas.Option.{same_Some}
use Rattle.std.specs.Int.{w64, to_le_bytes}
use Rattle.hex.proofs.HexLemmas.{length-encode_with}
use Rattle.hex.specs.Hex.{lower_digits}
use Rattle.rv_hart.specs.State.{State, read}
use Rattle.rvmc_protocol.specs.Replies.Digits.{register_text}
use Rattle.rvmc_gdb.specs.Laws.{AgreeLaw}
use Rattle.rvmc_gdb.specs.Shown.{registers_text}

-- each has 16 digits
long : (value : ℕ) → length (register_text value) ≡ 16
long value = length-encode_with lower_digits (to_le_bytes w64 value)

-- behind one text of 16 bytes
behind_one : (one more : List ℕ) (n : ℕ) → length one ≡ 16 → drop (16 * (n + 1)) (one ++ more) ≡ drop (16 * n) more
behind_one one more n long =
    let split : 16 * (n + 1) ≡ 16 + 16 * n = omega arith in
    let first : drop 16 (one ++ more) ≡ more = subst (λ k. drop k (one ++ more) ≡ more) long (drop-append_seam one more) in
    ap (λ k. drop k (one ++ more)) split ∙ sym (drop-drop (16 * n) 16 (one ++ more)) ∙ ap (drop (16 * n)) first

module _ (f : ℕ → List ℕ) (each : (n : ℕ) → length (f n) ≡ 16) (rest : List ℕ) where
  piece : (a k n : ℕ) → n < k → take 16 (drop (16 * n) (flat_map f (range_with_len a k) ++ rest)) ≡ f (a + n)
  piece a zero n below = absurd (omega (arith, below))
  piece a (suc k) zero below =
      let more = flat_map f (range_with_len (a + 1) k) in
      let same : a ≡ a + 0 = omega arith in
      ap (take 16) (append_assoc (f a) more rest)
      ∙ subst (λ m. take m (f a ++ (more ++ rest)) ≡ f a) (each a) (take-append_seam (f a) (more ++ rest)) ∙ ap f same
  piece a (suc k) (suc n) below =
      let more = flat_map f (range_with_len (a + 1) k) in
      let next : suc n ≡ n + 1 = omega arith in
      let same : a + 1 + n ≡ a + suc n = omega arith in
      ap (λ m. take 16 (drop (16 * m) ((f a ++ more) ++ rest))) next
      ∙ ap (λ t. take 16 (drop (16 * (n + 1)) t)) (append_assoc (f a) more rest)
      ∙ ap (take 16) (behind_one (f a) (more ++ rest) n (each a))
      ∙ piece (a + 1) k n (omega (arith, below)) ∙ ap f same

  behind_all : (a k : ℕ) → drop (16 * k) (flat_map f (range_with_len a k) ++ rest) ≡ rest
  behind_all a zero = refl
  behind_all a (suc k) =
      let more = flat_map f (range_with_len (a + 1) k) in
      let next : suc k ≡ k + 1 = omega arith in
      ap (λ m. drop (16 * m) ((f a ++ more) ++ rest)) next
      ∙ ap (drop (16 * (k + 1))) (append_assoc (f a) more rest)
      ∙ behind_one (f a) (more ++ rest) k (each a) ∙ behind_all (a + 1) k

module _ (hart : State) where
  abbrev text_at : ℕ → List ℕ
  text_at number = take 16 (drop (16 * number) (registers_text hart))

  of_x : (number : ℕ) → number < 32 → text_at number ≡ register_text (read hart number)
  of_x number below =
      let same : 0 + number ≡ number = omega arith in
      piece (λ n. register_text (read hart n)) (λ n. long (read hart n)) (register_text hart.pc) 0 32 number below
      ∙ ap (λ n. register_text (read hart n)) same

  of_pc : (number : ℕ) → number ≡ 32 → text_at number ≡ register_text hart.pc
  of_pc number is =
      ap text_at is
      ∙ ap (take 16) (behind_all (λ n. register_text (read hart n)) (λ n. long (read hart n)) (register_text hart.pc) 0 32)
      ∙ subst (λ m. take m (register_text hart.pc) ≡ register_text hart.pc) (long hart.pc) (take-length (register_text hart.pc))

  decided : (number value : ℕ) (low pc : Bool) → nat_lt number 32 ≡ low → (number == 32) ≡ pc
      → (if low then Some (read hart number) else if pc then Some hart.pc else None) ≡ Some value
      → text_at number ≡ register_text value
  decided number value true pc low is told = of_x number (ltb-true number 32 low) ∙ ap register_text (same_Some (read hart number) value told)
  decided number value false true low is told =
      of_pc number (eqb-true number 32 is) ∙ ap register_text (same_Some hart.pc value told)
  decided number value false false low is told = absurd (cc)

pub agree_law : AgreeLaw
agree_law hart number value told = decided hart number value (nat_lt number 32) (number == 32) refl refl told
