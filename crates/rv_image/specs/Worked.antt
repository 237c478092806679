-- Worked values of the definitions: the image of the program `hi`, one with a symbol, and inputs that are none.
use Rattle.std.specs.Prelude.{◌≡◌, ℕ, List, [], ◌∷◌, ◌++◌, take, Option, Some, None, Err, true, false, slice_set, codes}
use Rattle.std.specs.Prelude.{map, refl}
use Rattle.std.specs.List.{range_with_len}
use Rattle.rv_image.specs.declared.faults.ImageFault.{ImageFault}
use Rattle.rv_image.specs.declared.faults.ImageFault.TheVariants as faults
use Rattle.rv_image.specs.declared.faults.ImageFault.TheVariants.{Short, Long, Magic, Version, Limit, Comm}
use Rattle.rv_image_types.specs.declared.images.ImageVersion.TheVariants.{One, Two}
use Rattle.rv_image_types.specs.declared.images.Symbol.{Symbol}
use Rattle.rv_image_types.specs.declared.images.ImageParts.{ImageParts}
use Rattle.rv_image_types.specs.Image.{data_start, in_version_two}
use Rattle.rv_image_types.specs.Names.{is_symbol_name, name_before}
use Rattle.rv_image.specs.Text.{header_text, image_text}
use Rattle.rv_image.specs.Reading.{header_at, first_fault, reading}
use Rattle.rv_image.specs.Order.{body_tests, image_tests}

-- ten instructions of 4 bytes
pub data_behind_hi : data_start 40 ≡ 48
data_behind_hi = refl

-- a whole number of 16 bytes leaves no gap
pub data_behind_48 : data_start 48 ≡ 48
data_behind_48 = refl

-- one rank with one hart, 65,536 bytes of memory, the words that GNU as writes for `hi`, and nothing else
abbrev pub hi : ImageParts
hi = record {
  version = One;
  ranks = 1;
  harts = 1;
  memory = 65536;
  entry = 0;
  text =
      0xb7 ∷ 0x72 ∷ 0x0a ∷ 0x00 ∷ 0x93 ∷ 0x82 ∷ 0x82 ∷ 0x96
      ∷ 0x23 ∷ 0x3c ∷ 0x51 ∷ 0xfe ∷ 0x13 ∷ 0x05 ∷ 0x81 ∷ 0xff
      ∷ 0x93 ∷ 0x05 ∷ 0x30 ∷ 0x00 ∷ 0x93 ∷ 0x08 ∷ 0x10 ∷ 0x00
      ∷ 0x73 ∷ 0x00 ∷ 0x00 ∷ 0x00 ∷ 0x13 ∷ 0x05 ∷ 0x00 ∷ 0x00
      ∷ 0x93 ∷ 0x08 ∷ 0x00 ∷ 0x00 ∷ 0x73 ∷ 0x00 ∷ 0x00 ∷ 0x00 ∷ [];
  init = [];
  comms = [];
  links = [];
  symbols = [];
}

pub text_of_hi : image_text hi ≡
    (0x52 ∷ 0x56 ∷ 0x4d ∷ 0x43 ∷ 0x01 ∷ 0x00 ∷ 0x01 ∷ 0x01
    ∷ 0x00 ∷ 0x00 ∷ 0x01 ∷ 0x00 ∷ 0x00 ∷ 0x00 ∷ 0x00 ∷ 0x00
    ∷ 0x28 ∷ 0x00 ∷ 0x00 ∷ 0x00 ∷ 0x00 ∷ 0x00 ∷ 0x00 ∷ 0x00
    ∷ 0x00 ∷ 0x00 ∷ 0x00 ∷ 0x00
    ∷ 0xb7 ∷ 0x72 ∷ 0x0a ∷ 0x00 ∷ 0x93 ∷ 0x82 ∷ 0x82 ∷ 0x96
    ∷ 0x23 ∷ 0x3c ∷ 0x51 ∷ 0xfe ∷ 0x13 ∷ 0x05 ∷ 0x81 ∷ 0xff
    ∷ 0x93 ∷ 0x05 ∷ 0x30 ∷ 0x00 ∷ 0x93 ∷ 0x08 ∷ 0x10 ∷ 0x00
    ∷ 0x73 ∷ 0x00 ∷ 0x00 ∷ 0x00 ∷ 0x13 ∷ 0x05 ∷ 0x00 ∷ 0x00
    ∷ 0x93 ∷ 0x08 ∷ 0x00 ∷ 0x00 ∷ 0x73 ∷ 0x00 ∷ 0x00 ∷ 0x00 ∷ [])
unfolding image_text header_text
text_of_hi = refl

-- ---- what is no image

pub no_bytes_are_short : reading [] ≡ Err (Short 0)
unfolding reading
no_bytes_are_short = refl

-- RVM
pub three_letters_are_short : reading (0x52 ∷ 0x56 ∷ 0x4d ∷ []) ≡ Err (Short 3)
unfolding reading
three_letters_are_short = refl

-- RVMD
pub a_wrong_letter : reading (0x52 ∷ 0x56 ∷ 0x4d ∷ 0x44 ∷ []) ≡ Err Magic
unfolding reading
a_wrong_letter = refl

-- RVMC alone
pub a_magic_alone_is_short : reading (0x52 ∷ 0x56 ∷ 0x4d ∷ 0x43 ∷ []) ≡ Err (Short 4)
unfolding reading
a_magic_alone_is_short = refl

-- RVMC, and version 3
pub a_later_version : reading (0x52 ∷ 0x56 ∷ 0x4d ∷ 0x43 ∷ 3 ∷ 0 ∷ []) ≡ Err Version
unfolding reading
a_later_version = refl

-- ---- the first failing row of the tests

pub all_rows_of_hi_hold : first_fault (image_tests (image_text hi)) ≡ None
unfolding image_tests body_tests header_at image_text header_text
all_rows_of_hi_hold = refl

-- byte 6 is the number of ranks
pub nine_ranks : first_fault (image_tests (slice_set (image_text hi) 6 9)) ≡ Some (Limit 6 9)
unfolding image_tests body_tests header_at image_text header_text
nine_ranks = refl

-- two ranks, and a communicator that has rank 0 twice
pub a_rank_twice : first_fault (image_tests (image_text (record hi { ranks = 2; comms = (0 ∷ 0 ∷ []) ∷ [] })))
    ≡ Some (Comm 1)
unfolding image_tests body_tests header_at image_text header_text
a_rank_twice = refl

-- two ranks, a link from 0 to 1, and one from 1 to 1
pub a_link_to_itself : first_fault (image_tests (image_text (record hi {
  ranks = 2;
  links = record { from = 0; to = 1 }
      ∷ record { from = 1; to = 1 } ∷ [];
}))) ≡ Some (faults.Link 1)
unfolding image_tests body_tests header_at image_text header_text
a_link_to_itself = refl

-- the text of hi, and one byte behind it
pub a_byte_more : first_fault (image_tests (image_text hi ++ 0 ∷ [])) ≡ Some (Long 68)
unfolding image_tests body_tests header_at image_text header_text
a_byte_more = refl

-- ---- the names of symbols

pub names_are_letters_and_more : is_symbol_name (codes "_start.$9Z") ≡ true
names_are_letters_and_more = refl

pub no_name_is_empty : is_symbol_name [] ≡ false
no_name_is_empty = refl

pub a_name_of_31_bytes : is_symbol_name (codes "abcdefghijklmnopqrstuvwxyz01234") ≡ true
a_name_of_31_bytes = refl

pub no_name_has_32_bytes : is_symbol_name (codes "abcdefghijklmnopqrstuvwxyz012345") ≡ false
no_name_has_32_bytes = refl

pub no_name_begins_with_a_digit : is_symbol_name (codes "9a") ≡ false
no_name_begins_with_a_digit = refl

pub no_name_has_a_blank : is_symbol_name (codes "a b") ≡ false
no_name_has_a_blank = refl

-- the bytes are compared before the lengths: `b` is shorter than `aa`, and behind it
pub a_longer_name_before_a_shorter : name_before (codes "aa") (codes "b") ≡ true
a_longer_name_before_a_shorter = refl

pub a_name_before_one_that_goes_on : name_before (codes "go") (codes "go2") ≡ true
a_name_before_one_that_goes_on = refl

pub no_name_before_itself : name_before (codes "go") (codes "go") ≡ false
no_name_before_itself = refl

-- Z is 0x5a and a is 0x61
pub capitals_before_small_letters : name_before (codes "Z") (codes "a") ≡ true
capitals_before_small_letters = refl

-- ---- version 2

-- the source `.globl go`, `go: nop`
abbrev pub go : ImageParts
go = record {
  version = Two;
  ranks = 1;
  harts = 1;
  memory = 65536;
  entry = 0;
  text = 0x13 ∷ 0x00 ∷ 0x00 ∷ 0x00 ∷ [];
  init = [];
  comms = [];
  links = [];
  symbols = record { name = codes "go"; address = 0 } ∷ [];
}

pub text_of_go : image_text go ≡
    (0x52 ∷ 0x56 ∷ 0x4d ∷ 0x43 ∷ 0x02 ∷ 0x00 ∷ 0x01 ∷ 0x01
    ∷ 0x00 ∷ 0x00 ∷ 0x01 ∷ 0x00 ∷ 0x00 ∷ 0x00 ∷ 0x00 ∷ 0x00
    ∷ 0x04 ∷ 0x00 ∷ 0x00 ∷ 0x00 ∷ 0x00 ∷ 0x00 ∷ 0x00 ∷ 0x00
    ∷ 0x00 ∷ 0x00 ∷ 0x01 ∷ 0x00
    ∷ 0x13 ∷ 0x00 ∷ 0x00 ∷ 0x00
    ∷ 0x00 ∷ 0x00 ∷ 0x00 ∷ 0x00 ∷ 0x02 ∷ 0x67 ∷ 0x6f ∷ [])
unfolding image_text header_text
text_of_go = refl

-- version 2 of hi differs from version 1 in byte 4 alone
pub text_of_hi_in_version_2 : image_text (in_version_two hi) ≡ slice_set (image_text hi) 4 2
unfolding image_text header_text
text_of_hi_in_version_2 = refl

-- the fault of the image with these symbols in place of its own
abbrev fault_with : List Symbol → Option ImageFault
fault_with symbols = first_fault (image_tests (image_text (record go { symbols = symbols })))

abbrev symbol : List ℕ → ℕ → Symbol
symbol name address = record { name = name; address = address }

pub all_rows_of_go_hold : first_fault (image_tests (image_text go)) ≡ None
unfolding image_tests body_tests header_at image_text header_text
all_rows_of_go_hold = refl

-- each prefix of it that has the 28 bytes of the header is short
pub prefixes_of_go_are_short : map (λ n. first_fault (image_tests (take n (image_text go)))) (range_with_len 28 11)
    ≡ map (λ n. Some (Short n)) (range_with_len 28 11)
unfolding image_tests body_tests header_at image_text header_text
prefixes_of_go_are_short = refl

pub a_symbol_in_version_1 : first_fault (image_tests (image_text (record go { version = One }))) ≡ Some (Limit 26 1)
unfolding image_tests body_tests header_at image_text header_text
a_symbol_in_version_1 = refl

-- 1,025 is 0x401
pub a_symbol_too_many : first_fault (image_tests (slice_set (slice_set (image_text go) 26 1) 27 4))
    ≡ Some (Limit 26 1025)
unfolding image_tests body_tests header_at image_text header_text
a_symbol_too_many = refl

pub names_in_the_order_of_their_bytes : fault_with (symbol (codes "aa") 0 ∷ symbol (codes "b") 0 ∷ []) ≡ None
unfolding image_tests body_tests header_at image_text header_text
names_in_the_order_of_their_bytes = refl

pub names_in_the_order_of_their_lengths : fault_with (symbol (codes "b") 0 ∷ symbol (codes "aa") 0 ∷ [])
    ≡ Some (faults.Symbol 1)
unfolding image_tests body_tests header_at image_text header_text
names_in_the_order_of_their_lengths = refl

pub a_name_twice : fault_with (symbol (codes "go") 0 ∷ symbol (codes "go") 4 ∷ []) ≡ Some (faults.Symbol 1)
unfolding image_tests body_tests header_at image_text header_text
a_name_twice = refl

pub a_name_of_no_bytes : fault_with (symbol [] 0 ∷ []) ≡ Some (faults.Symbol 0)
unfolding image_tests body_tests header_at image_text header_text
a_name_of_no_bytes = refl

pub a_name_of_32_bytes : fault_with (symbol (codes "abcdefghijklmnopqrstuvwxyz012345") 0 ∷ []) ≡ Some (faults.Symbol 0)
unfolding image_tests body_tests header_at image_text header_text
a_name_of_32_bytes = refl

pub an_address_at_the_end_of_memory : fault_with (symbol (codes "end") 65536 ∷ []) ≡ None
unfolding image_tests body_tests header_at image_text header_text
an_address_at_the_end_of_memory = refl

pub an_address_above_the_memory : fault_with (symbol (codes "end") 65537 ∷ []) ≡ Some (faults.Symbol 0)
unfolding image_tests body_tests header_at image_text header_text
an_address_above_the_memory = refl

-- a length of 0 in the last of 5 bytes is a fault, and one that isn't there is missed
pub a_length_that_is_missed : first_fault (image_tests (take 36 (image_text (record go {
  symbols = symbol [] 0
      ∷ [];
})))) ≡ Some (Short 36)
unfolding image_tests body_tests header_at image_text header_text
a_length_that_is_missed = refl

-- a byte more behind a symbol that is none: the symbol comes first
pub a_symbol_before_a_byte_more : first_fault (image_tests (image_text (record go {
  symbols = symbol (codes "9") 0
      ∷ [];
}) ++ 0 ∷ [])) ≡ Some (faults.Symbol 0)
unfolding image_tests body_tests header_at image_text header_text
a_symbol_before_a_byte_more = refl

pub a_byte_behind_the_last_symbol : first_fault (image_tests (image_text go ++ 0 ∷ [])) ≡ Some (Long 39)
unfolding image_tests body_tests header_at image_text header_text
a_byte_behind_the_last_symbol = refl
