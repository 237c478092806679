-- Worked values: what the definitions give at the edges, computed.
use Rattle.std.specs.Prelude.{◌≡◌, List, [], ◌∷◌, ◌++◌, replicate, Some, None, Bool, true, false, refl}
use Rattle.rv_memory.specs.Access.{load_trap, store_trap, word_at, is_writable}
use Rattle.rv_memory.specs.Present.{is_present}
use Rattle.rv_memory.specs.Memory.{Memory, value_at, bytes_of, init_start, loaded_memory}
use Rattle.rv_memory.specs.Pages.{written_pages}
use Rattle.rv_memory.specs.MorePages.{missing_pages}
use Rattle.rv_memory.specs.declared.fault.Cause.TheVariants.{LoadMisaligned, LoadAccess, StoreAccess}

-- the lowest byte stands first
pub value_of_a_half : value_at (0x81 ∷ 0x82 ∷ []) 0 2 ≡ 0x8281
value_of_a_half = refl

pub bytes_of_a_half : bytes_of 0x8281 2 ≡ 0x81 ∷ 0x82 ∷ []
bytes_of_a_half = refl

-- the initial data stands at a multiple of 16
pub data_behind_eight_bytes : init_start (replicate 8 0) ≡ 16
data_behind_eight_bytes = refl

pub text_zeros_data_zeros : loaded_memory 20 (0x13 ∷ 0 ∷ 0 ∷ 0 ∷ []) (0x81 ∷ 0x82 ∷ [])
    ≡ record { bytes = (0x13 ∷ replicate 15 0) ++ (0x81 ∷ 0x82 ∷ 0 ∷ 0 ∷ []); text = 4; pages = [] }
text_zeros_data_zeros = refl

-- 64 bytes of memory with 8 of text, in a page that is there
abbrev pub small : Memory
small = record { bytes = replicate 64 0; text = 8; pages = true ∷ [] }

pub word_at_the_end_of_the_text : word_at small 4 ≡ Some 0
word_at_the_end_of_the_text = refl

pub no_word_behind_the_text : word_at small 8 ≡ None
no_word_behind_the_text = refl

pub ld_at_the_end : load_trap small 56 8 ≡ None
ld_at_the_end = refl

pub ld_past_the_end : load_trap small 64 8 ≡ Some LoadAccess
ld_past_the_end = refl

pub ld_across_the_end : load_trap small 60 8 ≡ Some LoadMisaligned
ld_across_the_end = refl

pub sd_into_the_text : store_trap small 0 8 ≡ Some StoreAccess
sd_into_the_text = refl

-- no bytes may be written anywhere, a byte of the text may not
pub no_bytes_are_writable_anywhere : is_writable small 1000 0 ≡ true
no_bytes_are_writable_anywhere = refl

pub text_is_not_writable : is_writable small 0 1 ≡ false
text_is_not_writable = refl

-- four pages of which the first is there
abbrev pub four : List Bool
four = true ∷ false ∷ false ∷ false ∷ []

pub last_byte_of_a_page : written_pages four 8191 1 ≡ true ∷ true ∷ false ∷ false ∷ []
last_byte_of_a_page = refl

pub first_byte_of_a_page : written_pages four 8192 1 ≡ true ∷ false ∷ true ∷ false ∷ []
first_byte_of_a_page = refl

pub across_a_border : written_pages four 8191 2 ≡ true ∷ true ∷ true ∷ false ∷ []
across_a_border = refl

pub no_bytes_touch_no_page : written_pages four 8191 0 ≡ four
no_bytes_touch_no_page = refl

pub all_but_the_first_are_missing : missing_pages four 4095 8194 ≡ 3
all_but_the_first_are_missing = refl

-- a page that is there isn't enough for a range beyond the end
pub present_to_the_end : is_present small 56 8 ≡ true
present_to_the_end = refl

pub not_present_beyond_the_end : is_present small 57 8 ≡ false
not_present_beyond_the_end = refl
