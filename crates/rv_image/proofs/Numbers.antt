-- The header's numbers are those that were written, and what was written is read again.
use Rattle.std.proofs.Common.{◌≡◌, ℕ, suc, ◌+◌, ◌*◌, ◌%◌, ◌^◌, ◌<◌, ◌≤◌, Bool, true, false, cond, ◌&&◌, ltb, leb, eqb, List, [], ◌∷◌, ◌++◌, length, take, drop, Option, Some, None, refl, sym, ap, subst, ◌∙◌, arith, inl, inr}
use Rattle.std.specs.Prelude.{nat_eq, codes}
use Rattle.std.specs.List.{starts_with}
use Rattle.std.specs.Int.{w16, w32, to_le_bytes}
use Rattle.std.proofs.Math.Seq.{drop-cons}
use Rattle.std.proofs.lemmas.Bool.{cases_lt, and_from, le-leb, lt-ltb, eq-eqb}
use Rattle.std.proofs.lemmas.Bool.Decides.{Decides-eqb}
use Rattle.std.proofs.lemmas.List.{take-append-drop, length-take, length-drop, drop-drop, get_or-take, get_or_past}
use Rattle.std.proofs.lemmas.Nat.{le_bytes_2, le_bytes_4, from_le_bytes-to_le_bytes_2, from_le_bytes-to_le_bytes_4}
use Rattle.std.proofs.lemmas.Slice.Eq.{starts_is}
use Rattle.rv_image.specs.declared.faults.ImageFault.{ImageFault}
use Rattle.rv_image.specs.declared.header.Header.{Header}
use Rattle.rv_image_types.specs.declared.images.ImageVersion.{ImageVersion}
use Rattle.rv_image_types.specs.declared.images.ImageVersion.TheVariants.{One, Two}
use Rattle.rv_image_types.specs.declared.images.ImageParts.{ImageParts}
use Rattle.rv_image_types.specs.Image.{IsImage, data_start, most_symbols}
use Rattle.rv_image.specs.Text.{version_number, header_text}
use Rattle.rv_image.specs.Reading.{byte_at, number_at, version_of, header_at, is_within, number_tests, header_tests, first_fault}
use Rattle.rv_image.proofs.Takes.{IsBytes, IsBytes-drop}
use Rattle.rv_image.proofs.Steps.{is_within-true, true-is_within}

-- ---- one number

pub byte_cut : (at : ℕ) (bytes : List ℕ) (n : ℕ) → at < length bytes → n ≡ byte_at at bytes → drop at bytes ≡ n ∷ drop (suc at) bytes
byte_cut at bytes n there is = drop-cons bytes at 0 there ∙ ap (λ (k : ℕ). k ∷ drop (suc at) bytes) (sym is)

pub IsBytes-take : (n : ℕ) (bytes : List ℕ) → IsBytes bytes → IsBytes (take n bytes)
IsBytes-take n bytes fits i =
    elim (cases_lt i n) [
      | inl lt ↦ rw (get_or-take n bytes i 0 lt) (fits i)
      | inr le ↦ rw (get_or_past (take n bytes) i 0 (omega (arith, length-take n bytes))) (omega arith)
    ]

half_cut : (at : ℕ) (bytes : List ℕ) (n : ℕ) → IsBytes bytes → at + 2 ≤ length bytes → n ≡ number_at w16 at bytes → drop at bytes ≡ to_le_bytes w16 n ++ drop (at + 2) bytes
half_cut at bytes n fits there is =
    let piece = take 2 (drop at bytes) in
    let len : length piece ≡ 2 = omega (arith, length-take 2 (drop at bytes), length-drop at bytes) in
    let written : to_le_bytes w16 n ≡ piece = le_bytes_2 piece n len (IsBytes-take 2 (drop at bytes) (IsBytes-drop at bytes fits)) is in
    sym (take-append-drop 2 (drop at bytes)) ∙ ap (λ (t : List ℕ). t ++ drop 2 (drop at bytes)) (sym written) ∙ ap (λ (t : List ℕ). to_le_bytes w16 n ++ t) (drop-drop 2 at bytes)

pub word_cut : (at : ℕ) (bytes : List ℕ) (n : ℕ) → IsBytes bytes → at + 4 ≤ length bytes → n ≡ number_at w32 at bytes → drop at bytes ≡ to_le_bytes w32 n ++ drop (at + 4) bytes
word_cut at bytes n fits there is =
    let piece = take 4 (drop at bytes) in
    let len : length piece ≡ 4 = omega (arith, length-take 4 (drop at bytes), length-drop at bytes) in
    let written : to_le_bytes w32 n ≡ piece = le_bytes_4 piece n len (IsBytes-take 4 (drop at bytes) (IsBytes-drop at bytes fits)) is in
    sym (take-append-drop 4 (drop at bytes)) ∙ ap (λ (t : List ℕ). t ++ drop 4 (drop at bytes)) (sym written) ∙ ap (λ (t : List ℕ). to_le_bytes w32 n ++ t) (drop-drop 4 at bytes)

-- ---- the version

version_again : (version : ImageVersion) → version_of (version_number version) ≡ version
version_again One = refl
version_again Two = refl

version_passes : (version : ImageVersion) → is_within 1 2 (version_number version) ≡ true
version_passes One = refl
version_passes Two = refl

version_small : (version : ImageVersion) → version_number version < 2 ^ 16
version_small One = omega arith
version_small Two = omega arith

-- a number that is a version's
version_is : (number : ℕ) → is_within 1 2 number ≡ true → version_number (version_of number) ≡ number
version_is number e =
    let within = is_within-true 1 2 number e in
    elim (cases_lt number 2) [
      | inl lt ↦ let one : 1 ≡ number = omega (arith, lt, within.0) in subst (λ (n : ℕ). version_number (version_of n) ≡ n) one refl
      | inr le ↦ let two : 2 ≡ number = omega (arith, le, within.1) in subst (λ (n : ℕ). version_number (version_of n) ≡ n) two refl
    ]

-- ---- the header as a whole

-- the header says what the image is made of
pub record IsHeaderOf (image : ImageParts) (h : Header) : Type 0 where
  pub version : image.version ≡ h.version
  pub ranks : image.ranks ≡ h.ranks
  pub harts : image.harts ≡ h.harts
  pub memory : image.memory ≡ h.memory
  pub entry : image.entry ≡ h.entry
  pub text_length : length image.text ≡ h.text_length
  pub init_length : length image.init ≡ h.init_length
  pub comms : length image.comms ≡ h.comms
  pub links : length image.links ≡ h.links
  pub symbols : length image.symbols ≡ h.symbols

pub header_takes : (bytes : List ℕ) (image : ImageParts) → IsBytes bytes → 28 ≤ length bytes → starts_with nat_eq bytes (codes "RVMC") ≡ true → is_within 1 2 (number_at w16 4 bytes) ≡ true → IsHeaderOf image (header_at bytes)
    → bytes ≡ header_text image ++ drop 28 bytes
unfolding header_at header_text
header_takes bytes image fits there magic version is =
    let first : bytes ≡ codes "RVMC" ++ drop 4 bytes = (starts_is Decides-eqb bytes (codes "RVMC") (starts_with nat_eq bytes (codes "RVMC")) refl).0 magic in
    let number : version_number image.version ≡ number_at w16 4 bytes = ap version_number is.version ∙ version_is (number_at w16 4 bytes) version in
    let at_4 = half_cut 4 bytes (version_number image.version) fits (omega (arith, there)) number in
    let at_6 = byte_cut 6 bytes image.ranks (omega (arith, there)) is.ranks in
    let at_7 = byte_cut 7 bytes image.harts (omega (arith, there)) is.harts in
    let at_8 = word_cut 8 bytes image.memory fits (omega (arith, there)) is.memory in
    let at_12 = word_cut 12 bytes image.entry fits (omega (arith, there)) is.entry in
    let at_16 = word_cut 16 bytes (length image.text) fits (omega (arith, there)) is.text_length in
    let at_20 = word_cut 20 bytes (length image.init) fits (omega (arith, there)) is.init_length in
    let at_24 = byte_cut 24 bytes (length image.comms) (omega (arith, there)) is.comms in
    let at_25 = byte_cut 25 bytes (length image.links) (omega (arith, there)) is.links in
    let at_26 = half_cut 26 bytes (length image.symbols) fits (omega (arith, there)) is.symbols in
    let from_24 : drop 24 bytes ≡ length image.comms ∷ length image.links ∷ (to_le_bytes w16 (length image.symbols) ++ drop 28 bytes) = at_24 ∙ ap (λ (t : List ℕ). length image.comms ∷ t) (at_25 ∙ ap (λ (t : List ℕ). length image.links ∷ t) at_26) in
    let from_16 : drop 16 bytes ≡ to_le_bytes w32 (length image.text) ++ (to_le_bytes w32 (length image.init) ++ (length image.comms ∷ length image.links ∷ (to_le_bytes w16 (length image.symbols) ++ drop 28 bytes))) = at_16 ∙ ap (λ (t : List ℕ). to_le_bytes w32 (length image.text) ++ t) (at_20 ∙ ap (λ (t : List ℕ). to_le_bytes w32 (length image.init) ++ t) from_24) in
    let from_8 = at_8 ∙ ap (λ (t : List ℕ). to_le_bytes w32 image.memory ++ t) (at_12 ∙ ap (λ (t : List ℕ). to_le_bytes w32 image.entry ++ t) from_16) in
    let from_6 = at_6 ∙ ap (λ (t : List ℕ). image.ranks ∷ t) (at_7 ∙ ap (λ (t : List ℕ). image.harts ∷ t) from_8) in
    first ∙ ap (λ (t : List ℕ). codes "RVMC" ++ t) (at_4 ∙ ap (λ (t : List ℕ). to_le_bytes w16 (version_number image.version) ++ t) from_6)

abbrev pub header_for : ImageParts → Header
header_for image = record { version = image.version; ranks = image.ranks; harts = image.harts; memory = image.memory; entry = image.entry; text_length = length image.text; init_length = length image.init; comms = length image.comms; links = length image.links; symbols = length image.symbols }

few_enough : (version : ImageVersion) (n : ℕ) → n ≤ most_symbols version → n < 2 ^ 16
few_enough One n few = omega (arith, few)
few_enough Two n few = omega (arith, few)

pub header_again : (image : ImageParts) (rest : List ℕ) → IsImage image → header_at (header_text image ++ rest) ≡ header_for image
unfolding header_at header_text
header_again image rest is =
    same (ap version_of (from_le_bytes-to_le_bytes_2 (version_number image.version) (version_small image.version)) ∙ version_again image.version)
    (from_le_bytes-to_le_bytes_4 image.memory (omega (arith, is.most_memory)))
    (from_le_bytes-to_le_bytes_4 image.entry (omega (arith, is.entry_in_text, is.text_fits, is.most_memory)))
    (from_le_bytes-to_le_bytes_4 (length image.text) (omega (arith, is.text_fits, is.most_memory)))
    (from_le_bytes-to_le_bytes_4 (length image.init) (omega (arith, is.init_fits, is.most_memory)))
    (from_le_bytes-to_le_bytes_2 (length image.symbols) (few_enough image.version (length image.symbols) is.few_symbols))
  where
    same : {version : ImageVersion} {memory entry text_length init_length symbols : ℕ} → version ≡ image.version → memory ≡ image.memory → entry ≡ image.entry → text_length ≡ length image.text → init_length ≡ length image.init → symbols ≡ length image.symbols
        → ◌≡◌ {A = Header} (record { version = version; ranks = image.ranks; harts = image.harts; memory = memory; entry = entry; text_length = text_length; init_length = init_length; comms = length image.comms; links = length image.links; symbols = symbols }) (header_for image)
    same v a b c d e = rw (v, a, b, c, d, e) refl

-- ---- the tests

abbrev AllPass : List (Bool × ImageFault) → Type 0
AllPass [] = Unit {0}
AllPass (test ∷ tests) = (test.0 ≡ true) × AllPass tests

pass_first : (b : Bool) (d : ImageFault) (o : Option ImageFault) → cond b o (Some d) ≡ None → (b ≡ true) × (o ≡ None)
pass_first true d o e = (refl, e)
pass_first false d o e = absurd cc

all_pass : (tests : List (Bool × ImageFault)) → first_fault tests ≡ None → AllPass tests
all_pass [] e = tt
all_pass (test ∷ tests) e =
    let p = pass_first test.0 test.1 (first_fault tests) e in
    (p.0, all_pass tests p.1)

none_fails : (tests : List (Bool × ImageFault)) → AllPass tests → first_fault tests ≡ None
none_fails [] t = refl
none_fails (test ∷ tests) t = rw (t.0) (none_fails tests t.1)

-- the header's tests that hold, by name
pub record IsTested (bytes : List ℕ) (h : Header) : Type 0 where
  pub magic : starts_with nat_eq bytes (codes "RVMC") ≡ true
  pub version : is_within 1 2 (number_at w16 4 bytes) ≡ true
  pub there : leb 28 (length bytes) ≡ true
  pub ranks : is_within 1 8 h.ranks ≡ true
  pub harts : is_within 1 4 h.harts ≡ true
  pub memory : is_within 4096 1048576 h.memory && (eqb (h.memory % 4096) 0 && leb (4096 * h.harts) h.memory) ≡ true
  pub comms : leb h.comms 7 ≡ true
  pub links : leb h.links 32 ≡ true
  pub symbols : leb h.symbols (most_symbols h.version) ≡ true
  pub text : ltb 0 h.text_length && (eqb (h.text_length % 4) 0 && leb h.text_length h.memory) ≡ true
  pub init : leb (data_start h.text_length + h.init_length) h.memory ≡ true
  pub entry : eqb (h.entry % 4) 0 && ltb h.entry h.text_length ≡ true

pub tested : (bytes : List ℕ) → first_fault (header_tests bytes) ≡ None → IsTested bytes (header_at bytes)
tested bytes e =
    let t = all_pass (header_tests bytes) e in
    let n = t.1.1.1.1.1 in
    record { magic = t.1.0; version = t.1.1.1.0; there = t.1.1.1.1.0; ranks = n.0; harts = n.1.0; memory = n.1.1.0; comms = n.1.1.1.0; links = n.1.1.1.1.0; symbols = n.1.1.1.1.1.0; text = n.1.1.1.1.1.1.0; init = n.1.1.1.1.1.1.1.0; entry = n.1.1.1.1.1.1.1.1.0 }

-- an image's numbers pass
numbers_pass : (image : ImageParts) → IsImage image → AllPass (number_tests (header_for image))
numbers_pass image is =
    let memory = image.memory in
    let text = length image.text in (
      true-is_within 1 8 image.ranks is.has_ranks is.few_ranks,
      (
        true-is_within 1 4 image.harts is.has_harts is.few_harts,
        (
          and_from (is_within 4096 1048576 memory) (eqb (memory % 4096) 0 && leb (4096 * image.harts) memory) (true-is_within 4096 1048576 memory is.least_memory is.most_memory)
              (and_from (eqb (memory % 4096) 0) (leb (4096 * image.harts) memory) (eq-eqb (memory % 4096) 0 is.whole_pages) (le-leb (4096 * image.harts) memory is.stacks_fit)),
          (
            le-leb (length image.comms) 7 is.few_comms,
            (
              le-leb (length image.links) 32 is.few_links,
              (
                le-leb (length image.symbols) (most_symbols image.version) is.few_symbols,
                (
                  and_from (ltb 0 text) (eqb (text % 4) 0 && leb text memory) (lt-ltb 0 text is.has_text)
                      (and_from (eqb (text % 4) 0) (leb text memory) (eq-eqb (text % 4) 0 is.whole_words) (le-leb text memory is.text_fits)),
                  (
                    le-leb (data_start text + length image.init) memory is.init_fits,
                    (
                      and_from (eqb (image.entry % 4) 0) (ltb image.entry text) (eq-eqb (image.entry % 4) 0 is.entry_aligned) (lt-ltb image.entry text is.entry_in_text),
                      tt,
                    ),
                  ),
                ),
              ),
            ),
          ),
        ),
      ),
    )

-- the tests before the numbers pass too
marks_pass : (image : ImageParts) (rest : List ℕ) → AllPass (number_tests (header_at (header_text image ++ rest))) → AllPass (header_tests (header_text image ++ rest))
unfolding header_text
marks_pass image rest numbers =
    let long : 28 ≤ length (header_text image ++ rest) = omega arith in
    let at_least : (n : ℕ) → n ≤ 28 → leb n (length (header_text image ++ rest)) ≡ true = λ n few. le-leb n (length (header_text image ++ rest)) (omega (arith, long, few)) in
    let version : is_within 1 2 (number_at w16 4 (header_text image ++ rest)) ≡ true = ap (is_within 1 2) (from_le_bytes-to_le_bytes_2 (version_number image.version) (version_small image.version)) ∙ version_passes image.version in
    (at_least 4 (omega arith), (refl, (at_least 6 (omega arith), (version, (at_least 28 (omega arith), numbers)))))

-- the header of an image passes, whatever follows
pub tests_again : (image : ImageParts) (rest : List ℕ) → IsImage image → first_fault (header_tests (header_text image ++ rest)) ≡ None
tests_again image rest is = none_fails (header_tests (header_text image ++ rest)) (marks_pass image rest (subst (λ (h : Header). AllPass (number_tests h)) (sym (header_again image rest is)) (numbers_pass image is)))
