-- What is told of a start is read back.
use Rattle.std.proofs.Common.{◌≡◌, ◌<◌, ◌≤◌, ◌^◌, ◌∙◌, ◌&&◌, ◌==◌, ℕ, suc, zero, Bool, true, false, refl, sym, ap, arith, List, [], ◌∷◌, ◌++◌, length, not, codes, Some, None, append_assoc, append-nil, nat_lt, nat_le, true≢false, lt-ltb, ltb-true, ltb-false, length-append}
use Rattle.std.specs.Prelude.{position, unwrap_or}
use Rattle.std.proofs.Math.Seq.{drop-append-add, drop-append_seam, take-append_seam}
use Rattle.std.proofs.lemmas.Fmt.{decimal_is_IsNumeral}
use Rattle.std.proofs.lemmas.List.Folds.{list_all-append}
use Rattle.std.specs.Str.Parse.{AllDigits}
use Rattle.std.proofs.lemmas.Bool.{le-leb}
use Rattle.std.proofs.lemmas.List.{append_cancel_left}
use Rattle.rvmc_starts.proofs.Hexes.{both}
use Rattle.rvmc_starts.proofs.Steps.{ends_step, some_none}
use Rattle.rvmc_starts.specs.PartRead.{AreShort, BeginsWithNone, FitsPart}
use Rattle.std.specs.Char.{digit_value}
use Rattle.std.specs.Fmt.{decimal}
use Rattle.std.specs.List.{flat_map, join_with_byte, list_all, position_or_len}
use Rattle.std.specs.Str.{IsAscii, is_utf8}
use Rattle.std.proofs.lemmas.Str.{IsUtf8-from_ascii, is_utf8-from_IsUtf8}
use Rattle.rvmc_words.specs.Number.{number_in}
use Rattle.rvmc_starts.specs.Hex.{hex_word}
use Rattle.rvmc_starts.specs.Parts.{counts_end, counts_line, end_text, image_line, is_line, is_part, lines_below, part_text, split_line}
use Rattle.rvmc_starts.specs.Reading.{counts_in, counts_with, cut_in, end_in, ends_in, image_in, is_newline, place_in, size_in, text_cut_in, told_in}
use Rattle.rvmc_starts.specs.Starts.{AreBytes, numbers_text}
use Rattle.rvmc_starts.specs.Sums.{sum_in, sum_text}
use Rattle.rvmc_starts.specs.declared.parts.EndText.{EndText}
use Rattle.rvmc_starts.specs.declared.parts.Part.{Part}
use Rattle.rvmc_starts.specs.declared.sums.ImageSum.{ImageSum}
use Rattle.rvmc_starts.proofs.Numbers.{any_back, hex_back, hex_word_digits, lacks_decimal, lacks_hex, lacks_numbers, number_back, numbers_back}
use Rattle.rvmc_starts.proofs.Separators.{EachWordLacks, cut, cut_at, cut_none, cut_words, lacks, lacks_both}

-- ---- a sum

pub lacks_sum : (c : ℕ) (sum : ImageSum) → sum.size < 2 ^ 64 → 16 ≤ digit_value c → (45 == c) ≡ false → lacks c (sum_text sum) ≡ true
lacks_sum c sum fits high differs =
    lacks_both c (decimal sum.size) (45 ∷ hex_word sum.digest) (lacks_decimal c sum.size fits (omega (arith, high)))
    (rw (differs, lacks_hex c sum.digest high) refl)

pub sum_back : (sum : ImageSum) → sum.size < 2 ^ 64 → sum.digest < 2 ^ 64 → sum_in (sum_text sum) ≡ Some sum
unfolding sum_in
sum_back sum size digest =
    let parts : cut 45 (sum_text sum) ≡ decimal sum.size ∷ hex_word sum.digest ∷ [] =
    cut_at 45 (decimal sum.size) (hex_word sum.digest) (lacks_decimal 45 sum.size size (omega arith))
    ∙ ap (λ more. decimal sum.size ∷ more) (cut_none 45 (hex_word sum.digest) (lacks_hex 45 sum.digest (omega arith))) in
    rw (parts, any_back sum.size size, hex_back sum.digest digest) refl

-- ---- lines

place_words : (number count split : ℕ) → number < 2 ^ 64 → count < 2 ^ 64
    → cut 32 (split_line number count split) ≡ codes "start" ∷ decimal number ∷ codes "of" ∷ decimal count ∷ codes "of" ∷ codes "split" ∷ hex_word split ∷ []
place_words number count split one two =
    cut_words 32 (codes "start") (decimal number ∷ codes "of" ∷ decimal count ∷ codes "of" ∷ codes "split" ∷ hex_word split ∷ [])
    (refl, (lacks_decimal 32 number one (omega arith), (refl, (lacks_decimal 32 count two (omega arith), (refl, (refl, (lacks_hex 32 split (omega arith), tt)))))))

pub place_back : (number count split : ℕ) → number < 2 ^ 64 → count < 2 ^ 64 → split < 2 ^ 64
    → place_in (split_line number count split) ≡ Some (record { number = number; count = count; split = split })
unfolding place_in
place_back number count split one two three =
    rw (place_words number count split one two, any_back number one, any_back count two, hex_back split three) refl

image_words : (image : ImageSum) (harts : List ℕ) → image.size < 2 ^ 64 → AreBytes harts
    → cut 32 (image_line image harts) ≡ codes "image" ∷ sum_text image ∷ codes "harts" ∷ numbers_text harts ∷ []
image_words image harts one two =
    cut_words 32 (codes "image") (sum_text image ∷ codes "harts" ∷ numbers_text harts ∷ [])
    (refl, (lacks_sum 32 image one (omega arith) refl, (refl, (lacks_numbers 32 harts two (omega arith) refl, tt))))

pub image_back : (image : ImageSum) (harts : List ℕ) → image.size < 2 ^ 64 → image.digest < 2 ^ 64 → 0 < length harts → AreBytes harts
    → image_in (image_line image harts) ≡ Some (record { image = image; harts = harts })
unfolding image_in
image_back image harts size digest some small =
    rw (image_words image harts size small, sum_back image size digest, numbers_back harts some small) refl

-- the last words of the counts
abbrev last_words : ℕ → Bool → List (List ℕ)
last_words status false = decimal status ∷ []
last_words status true = (decimal status ++ 44 ∷ []) ∷ codes "for" ∷ codes "ever" ∷ []

last_back : (status : ℕ) (unending : Bool) → status < 256
    → join_with_byte 32 (last_words status unending) ≡ decimal status ++ counts_end unending
last_back status false small = sym (append-nil (decimal status))
last_back status true small = append_assoc (decimal status) (44 ∷ []) (codes " for ever")

last_lacks : (status : ℕ) (unending : Bool) → status < 256 → EachWordLacks 32 (last_words status unending)
last_lacks status false small = (lacks_decimal 32 status (omega (arith, small)) (omega arith), tt)
last_lacks status true small =
    (lacks_both 32 (decimal status) (44 ∷ []) (lacks_decimal 32 status (omega (arith, small)) (omega arith)) refl, (refl, (refl, tt)))

-- words before some others
more_words : (status : ℕ) (unending : Bool) → join_with_byte 32 (codes "status" ∷ last_words status unending)
    ≡ codes "status " ++ join_with_byte 32 (last_words status unending)
more_words status false = refl
more_words status true = refl

counts_words : (ends : ℕ) (part : Part) → ends < 2 ^ 64 → part.states < 2 ^ 64 → part.left < 2 ^ 64 → part.status < 256
    → cut 32 (counts_line ends part) ≡ decimal ends ∷ codes "outcomes," ∷ decimal part.states ∷ codes "states," ∷ decimal part.left ∷ codes "left," ∷ codes "status" ∷ last_words part.status part.unending
counts_words ends part one two three four =
    ap (λ last. cut 32 (decimal ends ++ (codes " outcomes, " ++ (decimal part.states ++ (codes " states, " ++ (decimal part.left ++ (codes " left, " ++ last)))))))
    (sym (more_words part.status part.unending ∙ ap (λ last. codes "status " ++ last) (last_back part.status part.unending four)))
    ∙ cut_words 32 (decimal ends) (codes "outcomes," ∷ decimal part.states ∷ codes "states," ∷ decimal part.left ∷ codes "left," ∷ codes "status" ∷ last_words part.status part.unending) (
      lacks_decimal 32 ends one (omega arith),
      (
        refl,
        (
          lacks_decimal 32 part.states two (omega arith),
          (
            refl,
            (
              lacks_decimal 32 part.left three (omega arith),
              (refl, (refl, last_lacks part.status part.unending four)),
            ),
          ),
        ),
      ),
    )

pub counts_back : (ends : ℕ) (part : Part) → ends < 2 ^ 64 → part.states < 2 ^ 64 → part.left < 2 ^ 64 → part.status < 256
    → counts_in (counts_line ends part) ≡ Some (record { ends = ends; states = part.states; left = part.left; status = part.status; unending = part.unending })
unfolding counts_in
counts_back ends part one two three four =
    rw (counts_words ends part one two three four) (go part.unending)
  where
    digits : lacks 44 (decimal part.status) ≡ true
    digits = lacks_decimal 44 part.status (omega (arith, four)) (omega arith)

    status : number_in 0 255 (decimal part.status) ≡ Some part.status
    status = number_back 0 255 part.status (omega arith) (omega (arith, four)) (omega (arith, four))

    go : (unending : Bool) → counts_with (decimal ends ∷ codes "outcomes," ∷ decimal part.states ∷ codes "states," ∷ decimal part.left ∷ codes "left," ∷ codes "status" ∷ last_words part.status unending)
        ≡ Some (record { ends = ends; states = part.states; left = part.left; status = part.status; unending = unending })
    go false = rw (cut_none 44 (decimal part.status) digits, status, any_back ends one, any_back part.states two, any_back part.left three) refl
    go true = rw (cut_at 44 (decimal part.status) [] digits, status, any_back ends one, any_back part.states two, any_back part.left three) refl

size_words : (size : ℕ) → size < 2 ^ 64 → cut 32 (decimal size ++ codes " bytes") ≡ decimal size ∷ codes "bytes" ∷ []
size_words size fits =
    cut_words 32 (decimal size) (codes "bytes" ∷ []) (lacks_decimal 32 size fits (omega arith), (refl, tt))

pub size_back : (size : ℕ) → size < 2 ^ 64 → size_in (decimal size ++ codes " bytes") ≡ Some size
unfolding size_in
size_back size fits = rw (size_words size fits, any_back size fits) refl

-- ---- text

-- each byte is ASCII
abbrev ascii : List ℕ → Bool
ascii text = list_all (λ byte. nat_lt byte 128) text

index_ascii : (text : List ℕ) → ascii text ≡ true → IsAscii text
index_ascii [] e i = omega arith
index_ascii (byte ∷ text) e zero = ltb-true byte 128 (both (nat_lt byte 128) (ascii text) e).0
index_ascii (byte ∷ text) e (suc i) = index_ascii text (both (nat_lt byte 128) (ascii text) e).1 i

is_text : (text : List ℕ) → ascii text ≡ true → is_utf8 text ≡ true
is_text text e = is_utf8-from_IsUtf8 text (IsUtf8-from_ascii text (index_ascii text e))

ascii_both : (one two : List ℕ) → ascii one ≡ true → ascii two ≡ true → ascii (one ++ two) ≡ true
ascii_both one two e f = list_all-append (λ byte. nat_lt byte 128) one two ∙ rw (e, f) refl

no_digit : (byte : ℕ) → 128 ≤ byte → digit_value byte ≡ 36
no_digit byte high = grind arith

digit_ascii : (byte : ℕ) → digit_value byte < 36 → nat_lt byte 128 ≡ true
digit_ascii byte small = go _ refl
  where
    go : (b : Bool) → nat_lt byte 128 ≡ b → nat_lt byte 128 ≡ true
    go true is = is
    go false is = absurd (omega (arith, small, no_digit byte (ltb-false byte 128 is)))

ascii_digits : (base : ℕ) (digits : List ℕ) → base ≤ 36 → AllDigits base digits → ascii digits ≡ true
ascii_digits base [] low all = refl
ascii_digits base (digit ∷ digits) low all =
    rw (digit_ascii digit (omega (arith, all.0, low)), ascii_digits base digits low all.1) refl

ascii_decimal : (number : ℕ) → number < 2 ^ 64 → ascii (decimal number) ≡ true
ascii_decimal number fits = ascii_digits 10 (decimal number) (omega arith) (decimal_is_IsNumeral number fits).0.1

ascii_hex : (number : ℕ) → ascii (hex_word number) ≡ true
ascii_hex number = ascii_digits 16 (hex_word number) (omega arith) (hex_word_digits number)

ascii_more : (numbers : List ℕ) → AreBytes numbers → ascii (flat_map (λ n. (44 ∷ []) ++ decimal n) numbers) ≡ true
ascii_more [] small = refl
ascii_more (n ∷ ns) small =
    ascii_both (decimal n) (flat_map (λ n. (44 ∷ []) ++ decimal n) ns) (ascii_decimal n (omega (arith, small.0))) (ascii_more ns small.1)

ascii_numbers : (numbers : List ℕ) → AreBytes numbers → ascii (numbers_text numbers) ≡ true
ascii_numbers [] small = refl
ascii_numbers (n ∷ ns) small =
    ascii_both (decimal n) (flat_map (λ n. (44 ∷ []) ++ decimal n) ns) (ascii_decimal n (omega (arith, small.0))) (ascii_more ns small.1)

ascii_sum : (sum : ImageSum) → sum.size < 2 ^ 64 → ascii (sum_text sum) ≡ true
ascii_sum sum fits = ascii_both (decimal sum.size) (45 ∷ hex_word sum.digest) (ascii_decimal sum.size fits) (ascii_hex sum.digest)

ascii_place : (number count split : ℕ) → number < 2 ^ 64 → count < 2 ^ 64 → ascii (split_line number count split) ≡ true
ascii_place number count split one two =
    ascii_both (decimal number) _ (ascii_decimal number one) (ascii_both (decimal count) (codes " of split " ++ hex_word split) (ascii_decimal count two) (ascii_hex split))

ascii_image : (image : ImageSum) (harts : List ℕ) → image.size < 2 ^ 64 → AreBytes harts → ascii (image_line image harts) ≡ true
ascii_image image harts size small =
    ascii_both (sum_text image) (codes " harts " ++ numbers_text harts) (ascii_sum image size) (ascii_numbers harts small)

ascii_end : (unending : Bool) → ascii (counts_end unending) ≡ true
ascii_end false = refl
ascii_end true = refl

ascii_counts : (ends : ℕ) (part : Part) → ends < 2 ^ 64 → part.states < 2 ^ 64 → part.left < 2 ^ 64 → part.status < 256
    → ascii (counts_line ends part) ≡ true
ascii_counts ends part one two three four =
    ascii_both (decimal ends) _ (ascii_decimal ends one) (ascii_both (decimal part.states) _ (ascii_decimal part.states two)
    (ascii_both (decimal part.left) _ (ascii_decimal part.left three)
    (ascii_both (decimal part.status) (counts_end part.unending) (ascii_decimal part.status (omega (arith, four))) (ascii_end part.unending))))

ascii_size : (size : ℕ) → size < 2 ^ 64 → ascii (decimal size ++ codes " bytes") ≡ true
ascii_size size fits = ascii_both (decimal size) (codes " bytes") (ascii_decimal size fits) refl

-- ---- cutting lines

line_end : (line rest : List ℕ) → lacks 10 line ≡ true → position is_newline (line ++ 10 ∷ rest) ≡ Some (length line)
line_end line rest none =
    let place = place_of_line line rest none in
    let more : length line < length (line ++ 10 ∷ rest) = omega (arith, length-append line (10 ∷ rest)) in
    rw (place, lt-ltb (length line) (length (line ++ 10 ∷ rest)) more) refl
  where
    place_of_line : (line rest : List ℕ) → lacks 10 line ≡ true → position_or_len is_newline (line ++ 10 ∷ rest) ≡ length line
    place_of_line [] rest e = refl
    place_of_line (byte ∷ line) rest e =
        let parts = both (not (byte == 10)) (lacks 10 line) e in
        rw (parts.0, place_of_line line rest parts.1) (omega arith)

pub cut_back : (line rest : List ℕ) → lacks 10 line ≡ true → cut_in (line ++ 10 ∷ rest) ≡ Some (line, rest)
unfolding cut_in
cut_back line rest none =
    rw (line_end line rest none, take-append_seam line (10 ∷ rest), drop-append-add line (10 ∷ rest) 1) refl

pub text_cut_back : (line rest : List ℕ) → lacks 10 line ≡ true → ascii line ≡ true → text_cut_in (line ++ 10 ∷ rest) ≡ Some (line, rest)
unfolding text_cut_in
text_cut_back line rest none text = rw (cut_back line rest none, is_text line text) refl

-- ---- no newline is in a line

lacks_place : (number count split : ℕ) → number < 2 ^ 64 → count < 2 ^ 64 → lacks 10 (split_line number count split) ≡ true
lacks_place number count split one two =
    lacks_both 10 (decimal number) _ (lacks_decimal 10 number one (omega arith))
    (lacks_both 10 (decimal count) (codes " of split " ++ hex_word split) (lacks_decimal 10 count two (omega arith)) (lacks_hex 10 split (omega arith)))

lacks_image : (image : ImageSum) (harts : List ℕ) → image.size < 2 ^ 64 → AreBytes harts → lacks 10 (image_line image harts) ≡ true
lacks_image image harts size small =
    lacks_both 10 (sum_text image) (codes " harts " ++ numbers_text harts) (lacks_sum 10 image size (omega arith) refl)
    (lacks_numbers 10 harts small (omega arith) refl)

lacks_end : (unending : Bool) → lacks 10 (counts_end unending) ≡ true
lacks_end false = refl
lacks_end true = refl

lacks_counts : (ends : ℕ) (part : Part) → ends < 2 ^ 64 → part.states < 2 ^ 64 → part.left < 2 ^ 64 → part.status < 256
    → lacks 10 (counts_line ends part) ≡ true
lacks_counts ends part one two three four =
    lacks_both 10 (decimal ends) _ (lacks_decimal 10 ends one (omega arith)) (lacks_both 10 (decimal part.states) _ (lacks_decimal 10 part.states two (omega arith))
    (lacks_both 10 (decimal part.left) _ (lacks_decimal 10 part.left three (omega arith))
    (lacks_both 10 (decimal part.status) (counts_end part.unending) (lacks_decimal 10 part.status (omega (arith, four)) (omega arith)) (lacks_end part.unending))))

lacks_size : (size : ℕ) → size < 2 ^ 64 → lacks 10 (decimal size ++ codes " bytes") ≡ true
lacks_size size fits = lacks_both 10 (decimal size) (codes " bytes") (lacks_decimal 10 size fits (omega arith)) refl

-- ---- ends

end_shape : (end : EndText) (more : List ℕ) → end_text end ++ more
    ≡ end.head ++ 10 ∷ ((decimal (length end.body) ++ codes " bytes") ++ 10 ∷ (end.body ++ more))
end_shape end more =
    let size = decimal (length end.body) in
    append_assoc end.head (10 ∷ (size ++ (codes " bytes\n" ++ end.body))) more
    ∙ ap (λ rest. end.head ++ 10 ∷ rest)
    (append_assoc size (codes " bytes\n" ++ end.body) more ∙ sym (append_assoc size (codes " bytes") (10 ∷ (end.body ++ more))))

end_back : (end : EndText) (more : List ℕ) → is_line end.head ≡ true → length end.body < 2 ^ 64
    → end_in (end_text end ++ more) ≡ Some (end, more)
end_back end more line fits =
    let size = length end.body in
    let within : size ≤ length (end.body ++ more) = omega (arith, length-append end.body more) in
    rw (
      end_shape end more,
      cut_back end.head ((decimal size ++ codes " bytes") ++ 10 ∷ (end.body ++ more)) line,
      text_cut_back (decimal size ++ codes " bytes") (end.body ++ more) (lacks_size size fits) (ascii_size size fits),
      size_back size fits,
      le-leb size (length (end.body ++ more)) within,
      take-append_seam end.body more,
      drop-append_seam end.body more,
    ) refl

pub ends_back : (ends : List EndText) (more : List ℕ) → list_all (λ end. is_line end.head) ends ≡ true → AreShort ends
    → ends_in (length ends) (flat_map end_text ends ++ more) ≡ Some ends
unfolding ends_in
ends_back [] more lines short = refl
ends_back (end ∷ ends) more lines short =
    let parts = both (is_line end.head) (list_all (λ end. is_line end.head) ends) lines in
    let next : length (end ∷ ends) ≡ suc (length ends) = omega arith in
    ap (ends_in (length (end ∷ ends))) (append_assoc (end_text end) (flat_map end_text ends) more)
    ∙ (ends_step (length (end ∷ ends)) (length ends) _ (flat_map end_text ends ++ more) end next (end_back end (flat_map end_text ends ++ more) parts.0 short.0)
    ∙ rw (ends_back ends more parts.1 short.1) refl)

-- ---- the whole

shape : (a b c x more : List ℕ) → ((a ++ 10 ∷ (b ++ 10 ∷ (c ++ 10 ∷ []))) ++ x) ++ more ≡ a ++ 10 ∷ (b ++ 10 ∷ (c ++ 10 ∷ (x ++ more)))
shape a b c x more =
    append_assoc (a ++ 10 ∷ (b ++ 10 ∷ (c ++ 10 ∷ []))) x more
    ∙ (append_assoc a (10 ∷ (b ++ 10 ∷ (c ++ 10 ∷ []))) (x ++ more) ∙ ap (λ rest. a ++ 10 ∷ rest)
    (append_assoc b (10 ∷ (c ++ 10 ∷ [])) (x ++ more) ∙ ap (λ rest. b ++ 10 ∷ rest) (append_assoc c (10 ∷ []) (x ++ more))))

part_shape : (part : Part) (more : List ℕ) → part_text part ++ more
    ≡ split_line part.number part.count part.split ++ 10 ∷ (image_line part.image part.harts
    ++ 10 ∷ (counts_line (length part.ends) part ++ 10 ∷ (flat_map end_text part.ends ++ (lines_below part ++ more))))
unfolding part_text
part_shape part more =
    shape (split_line part.number part.count part.split) (image_line part.image part.harts) (counts_line (length part.ends) part)
    (flat_map end_text part.ends ++ lines_below part) more
    ∙ ap (λ rest. split_line part.number part.count part.split ++ 10 ∷ (image_line part.image part.harts ++ 10 ∷ (counts_line (length part.ends) part ++ 10 ∷ rest)))
    (append_assoc (flat_map end_text part.ends) (lines_below part) more)

-- what is written of a part is read back, whatever follows
pub told_back : (part : Part) (more : List ℕ) → FitsPart part → is_part part ≡ true → told_in (part_text part ++ more) ≡ Some part
unfolding told_in
told_back part more fits is =
    let halves = both (nat_le 1 part.number && nat_le part.number part.count) (nat_lt 0 (length part.harts) && list_all (λ end. is_line end.head) part.ends) is in
    let lists = both (nat_lt 0 (length part.harts)) (list_all (λ end. is_line end.head) part.ends) halves.1 in
    rw (
      part_shape part more,
      text_cut_back (split_line part.number part.count part.split) _ (lacks_place part.number part.count part.split fits.number fits.count) (ascii_place part.number part.count part.split fits.number fits.count),
      text_cut_back (image_line part.image part.harts) _ (lacks_image part.image part.harts fits.size fits.harts) (ascii_image part.image part.harts fits.size fits.harts),
      text_cut_back (counts_line (length part.ends) part) (flat_map end_text part.ends ++ (lines_below part ++ more)) (lacks_counts (length part.ends) part fits.ends fits.states fits.left fits.status) (ascii_counts (length part.ends) part fits.ends fits.states fits.left fits.status),
      place_back part.number part.count part.split fits.number fits.count fits.split,
      image_back part.image part.harts fits.size fits.digest (ltb-true 0 (length part.harts) lists.0) fits.harts,
      counts_back (length part.ends) part fits.ends fits.states fits.left fits.status,
      ends_back part.ends (lines_below part ++ more) lists.1 fits.bodies,
    ) refl

-- ---- which bytes begin with no part

some_is : {X : Type 0} {x y : X} → Some x ≡ Some y → x ≡ y
some_is {x = x} e = ap (λ found. unwrap_or found x) e

begins : (bytes : List ℕ) (part : Part) (more : List ℕ) → FitsPart part → is_part part ≡ true → bytes ≡ part_text part ++ more → told_in bytes ≡ Some part
begins bytes part more fits is e = ap told_in e ∙ told_back part more fits is

pub none_told : (bytes : List ℕ) → told_in bytes ≡ None → BeginsWithNone bytes
none_told bytes none part more fits is e = some_none (sym (begins bytes part more fits is e) ∙ none)

pub none_is : (bytes : List ℕ) (told : Part) → told_in bytes ≡ Some told → is_part told ≡ false → BeginsWithNone bytes
none_is bytes told found other part more fits is e =
    let same : told ≡ part = some_is (sym found ∙ begins bytes part more fits is e) in
    true≢false (sym is ∙ (ap is_part (sym same) ∙ other))

pub none_text : (bytes : List ℕ) (told : Part) → told_in bytes ≡ Some told → ((more : List ℕ) → ¬ (bytes ≡ part_text told ++ more)) → BeginsWithNone bytes
none_text bytes told found other part more fits is e =
    let same : told ≡ part = some_is (sym found ∙ begins bytes part more fits is e) in
    other more (e ∙ ap (λ part. part_text part ++ more) (sym same))

-- bytes begin with one part at most
pub read_once : (one two : Part) (rest more : List ℕ) → FitsPart one → FitsPart two → is_part one ≡ true → is_part two ≡ true
    → part_text one ++ rest ≡ part_text two ++ more → (one ≡ two) × (rest ≡ more)
read_once one two rest more fits fits_too is is_too e =
    let same : one ≡ two = some_is (sym (told_back one rest fits is) ∙ (ap told_in e ∙ told_back two more fits_too is_too)) in
    (same, append_cancel_left (part_text one) rest more (e ∙ ap (λ part. part_text part ++ more) (sym same)))
