-- What is written of a request is read as that request.
use Rattle.std.specs.Prelude.{option_and_then, option_map, ◌==◌}
use Rattle.std.proofs.Common.{◌≡◌, ◌<◌, ℕ, Bool, true, false, refl, ap, arith, List, [], ◌∷◌, ◌++◌, Option, Some}
use Rattle.std.specs.Char.{digit_value}
use Rattle.std.specs.Str.Parse.{AllDigits}
use Rattle.std.proofs.lemmas.Bool.{eqb-true}
use Rattle.std.proofs.lemmas.Fmt.{digits_is_IsNumeral}
use Rattle.rvmc_protocol.specs.Requests.Laws.{IsWord, SpelledLaw, hex, pair, point_number}
use Rattle.rvmc_protocol.specs.Requests.Pieces.{cut, numbers_in}
use Rattle.rvmc_protocol.specs.Requests.Points.{point_of, spot_in}
use Rattle.rvmc_protocol.specs.Requests.{alive_in, asked_in, bytes_in, change_in, description_in, insert_in, lone_question}
use Rattle.rvmc_protocol.specs.Requests.{lone_word, monitor_in, moved_in, plain_in, point_in, raw_bytes_in, read_in}
use Rattle.rvmc_protocol.specs.Requests.{register_in, remove_in, request_in, select_in, select_moved_in, selected_in}
use Rattle.rvmc_protocol.specs.Requests.{supported_in, thread_list_in, thread_text_in}
use Rattle.rvmc_protocol.specs.declared.requests.points.Point.{Point}
use Rattle.rvmc_protocol.specs.declared.requests.points.Point.TheVariants.{Before, HardwareBefore, Written, Read, Touched}
use Rattle.rvmc_protocol.proofs.Numbers.{again}

-- ---- two numbers

-- no comma is a digit
no_comma : (c : ℕ) → digit_value c < 16 → (c == 44) ≡ false
no_comma c small = go (c == 44) refl
  where
    go : (b : Bool) → (c == 44) ≡ b → b ≡ false
    go false e = refl
    go true e =
        let is : c ≡ 44 = eqb-true c 44 e in
        let value : digit_value c ≡ 36 = ap digit_value is in
        absurd (omega (arith, small, value))

cut_digits : (text rest : List ℕ) → AllDigits 16 text → cut 44 (text ++ 44 ∷ rest) ≡ Some (text, rest)
cut_digits [] rest all = refl
cut_digits (c ∷ text) rest all =
    rw (no_comma c all.0)
    (ap (option_map (λ (sides : List ℕ × List ℕ). (c ∷ sides.0, sides.1))) (cut_digits text rest all.1))

hex_digits : (n : ℕ) → IsWord n → AllDigits 16 (hex n)
hex_digits n small = (digits_is_IsNumeral 16 false (omega arith) (omega arith) n (omega arith)).0.1

cut_number : (n : ℕ) (rest : List ℕ) → IsWord n → cut 44 (hex n ++ 44 ∷ rest) ≡ Some (hex n, rest)
cut_number n rest small = cut_digits (hex n) rest (hex_digits n small)

pair_again : (a b : ℕ) → IsWord a → IsWord b → numbers_in (pair a b) ≡ Some (a, b)
pair_again a b fits small = rw (cut_number a (hex b) fits, again a fits, again b small) refl

-- ---- points

spot_again : (point : Point) (address size : ℕ) → IsWord address → IsWord size
    → spot_in (hex (point_number point) ++ 44 ∷ pair address size) ≡ Some (point, address, size)
unfolding spot_in
spot_again point address size fits small =
    rw (cut_number (point_number point) (pair address size) (number_fits point), again (point_number point) (number_fits point))
    (go point (numbers_in (pair address size)) (pair_again address size fits small))
  where
    number_fits : (point : Point) → IsWord (point_number point)
    number_fits Before = omega arith
    number_fits HardwareBefore = omega arith
    number_fits Written = omega arith
    number_fits Read = omega arith
    number_fits Touched = omega arith

    go : (point : Point) (numbers : Option (ℕ × ℕ)) → numbers ≡ Some (address, size)
        → option_and_then {U = Point × ℕ × ℕ} (λ found. option_map (λ numbers. (found, numbers.0, numbers.1)) numbers) (point_of (point_number point))
        ≡ Some (point, address, size)
    go Before numbers e = rw e refl
    go HardwareBefore numbers e = rw e refl
    go Written numbers e = rw e refl
    go Read numbers e = rw e refl
    go Touched numbers e = rw e refl

-- ---- requests

pub spelled_law : SpelledLaw
unfolding request_in plain_in asked_in selected_in read_in point_in lone_question lone_word supported_in description_in thread_list_in thread_text_in alive_in select_in select_moved_in register_in bytes_in raw_bytes_in insert_in remove_in change_in moved_in monitor_in
spelled_law = record {
  description = λ from count fits small. rw (pair_again from count fits small) refl;
  thread_list = λ from count fits small. rw (pair_again from count fits small) refl;
  thread_text = λ thread fits. rw (again thread fits) refl;
  alive = λ thread fits. rw (again thread fits) refl;
  register = λ number fits. rw (again number fits) refl;
  bytes = λ address count fits small. rw (pair_again address count fits small) refl;
  raw_bytes = λ address count fits small. rw (pair_again address count fits small) refl;
  insert = λ point address size fits small. rw (spot_again point address size fits small) refl;
  remove = λ point address size fits small. rw (spot_again point address size fits small) refl;
}
