-- Worked words of `debug`: each form, and texts that are no word.
use Rattle.std.specs.Prelude.{◌≡◌, List, ℕ, None, Option, Some, codes, refl}
use Rattle.rvmc_words.specs.Debug.{bare_word, debug_word_in, line_spot, spot_in, word_spot, word_with}
use Rattle.rvmc_words.specs.Number.{any_number_in}
use Rattle.rvmc_words.specs.declared.debug.DebugWord.{DebugWord}
use Rattle.rvmc_words.specs.declared.debug.DebugWord.TheVariants.{Back, Break, Bytes, Frames, Go, Output, Place, Regs, Run, Step}
use Rattle.rvmc_words.specs.declared.debug.Spot.TheVariants.{Address, Line, Name}

abbrev Reads : List ℕ → Option DebugWord → Type 0
Reads text word = debug_word_in text ≡ word

-- ---- words that stand alone

pub step : Reads (codes "step") (Some Step)
unfolding debug_word_in bare_word
step = refl

pub back : Reads (codes "back") (Some Back)
unfolding debug_word_in bare_word
back = refl

pub run : Reads (codes "run") (Some Run)
unfolding debug_word_in bare_word
run = refl

pub place : Reads (codes "place") (Some Place)
unfolding debug_word_in bare_word
place = refl

-- ---- words with arguments

pub a_decimal_place : Reads (codes "go=2") (Some (Go 2))
unfolding debug_word_in bare_word word_with spot_in word_spot line_spot any_number_in
a_decimal_place = refl

pub a_hexadecimal_place : Reads (codes "go=0x1F") (Some (Go 31))
unfolding debug_word_in bare_word word_with spot_in word_spot line_spot any_number_in
a_hexadecimal_place = refl

pub hexadecimal_letters_in_lower_case : Reads (codes "go=0xfade") (Some (Go 64222))
unfolding debug_word_in bare_word word_with spot_in word_spot line_spot any_number_in
hexadecimal_letters_in_lower_case = refl

pub zeros_in_front : Reads (codes "go=007") (Some (Go 7))
unfolding debug_word_in bare_word word_with spot_in word_spot line_spot any_number_in
zeros_in_front = refl

pub the_greatest_place : Reads (codes "go=18446744073709551615") (Some (Go 18446744073709551615))
unfolding debug_word_in bare_word word_with spot_in word_spot line_spot any_number_in
the_greatest_place = refl

pub the_greatest_place_in_hexadecimal : Reads (codes "go=0xffffffffffffffff") (Some (Go 18446744073709551615))
unfolding debug_word_in bare_word word_with spot_in word_spot line_spot any_number_in
the_greatest_place_in_hexadecimal = refl

pub a_break_at_an_address : Reads (codes "break=0,0,0x18") (Some (Break 0 0 (Address 24)))
unfolding debug_word_in bare_word word_with spot_in word_spot line_spot any_number_in
a_break_at_an_address = refl

pub a_break_at_a_name : Reads (codes "break=0,1,go") (Some (Break 0 1 (Name (codes "go"))))
unfolding debug_word_in bare_word word_with spot_in word_spot line_spot any_number_in
a_break_at_a_name = refl

pub a_break_at_a_line : Reads (codes "break=0,1,farm.c:46") (Some (Break 0 1 (Line (codes "farm.c") (codes "46"))))
unfolding debug_word_in bare_word word_with spot_in word_spot line_spot any_number_in
a_break_at_a_line = refl

pub the_greatest_rank_and_hart : Reads (codes "regs=255,0xff") (Some (Regs 255 255))
unfolding debug_word_in bare_word word_with spot_in word_spot line_spot any_number_in
the_greatest_rank_and_hart = refl

pub frames_of_a_hart : Reads (codes "frames=0x7,3") (Some (Frames 7 3))
unfolding debug_word_in bare_word word_with spot_in word_spot line_spot any_number_in
frames_of_a_hart = refl

pub output_of_a_rank : Reads (codes "output=7") (Some (Output 7))
unfolding debug_word_in bare_word word_with spot_in word_spot line_spot any_number_in
output_of_a_rank = refl

pub bytes_at_an_address : Reads (codes "bytes=0,0xfff8,4") (Some (Bytes 0 (Address 65528) 4))
unfolding debug_word_in bare_word word_with spot_in word_spot line_spot any_number_in
bytes_at_an_address = refl

pub bytes_at_a_name : Reads (codes "bytes=1,_start.$9Z,0") (Some (Bytes 1 (Name (codes "_start.$9Z")) 0))
unfolding debug_word_in bare_word word_with spot_in word_spot line_spot any_number_in
bytes_at_a_name = refl

pub bytes_at_a_line : Reads (codes "bytes=1,farm.c:46,4") (Some (Bytes 1 (Line (codes "farm.c") (codes "46")) 4))
unfolding debug_word_in bare_word word_with spot_in word_spot line_spot any_number_in
bytes_at_a_line = refl

pub a_name_of_32_bytes : Reads (codes "bytes=0,abcdefghijklmnopqrstuvwxyz012345,1")
    (Some (Bytes 0 (Name (codes "abcdefghijklmnopqrstuvwxyz012345")) 1))
unfolding debug_word_in bare_word word_with spot_in word_spot line_spot any_number_in
a_name_of_32_bytes = refl

pub a_name_like_a_word : Reads (codes "bytes=0,x12,1") (Some (Bytes 0 (Name (codes "x12")) 1))
unfolding debug_word_in bare_word word_with spot_in word_spot line_spot any_number_in
a_name_like_a_word = refl

-- ---- texts that are no word

pub no_text : Reads (codes "") None
unfolding debug_word_in bare_word word_with spot_in word_spot line_spot any_number_in
no_text = refl

pub another_word : Reads (codes "jump") None
unfolding debug_word_in bare_word word_with spot_in word_spot line_spot any_number_in
another_word = refl

pub a_capital : Reads (codes "Step") None
unfolding debug_word_in bare_word word_with spot_in word_spot line_spot any_number_in
a_capital = refl

pub a_blank : Reads (codes " step") None
unfolding debug_word_in bare_word word_with spot_in word_spot line_spot any_number_in
a_blank = refl

pub a_word_alone_with_an_argument : Reads (codes "step=1") None
unfolding debug_word_in bare_word word_with spot_in word_spot line_spot any_number_in
a_word_alone_with_an_argument = refl

pub a_word_alone_with_nothing_behind_its_sign : Reads (codes "place=") None
unfolding debug_word_in bare_word word_with spot_in word_spot line_spot any_number_in
a_word_alone_with_nothing_behind_its_sign = refl

pub a_word_without_its_arguments : Reads (codes "go") None
unfolding debug_word_in bare_word word_with spot_in word_spot line_spot any_number_in
a_word_without_its_arguments = refl

pub no_number : Reads (codes "go=") None
unfolding debug_word_in bare_word word_with spot_in word_spot line_spot any_number_in
no_number = refl

pub a_name_for_a_number : Reads (codes "go=x") None
unfolding debug_word_in bare_word word_with spot_in word_spot line_spot any_number_in
a_name_for_a_number = refl

pub no_digits : Reads (codes "go=0x") None
unfolding debug_word_in bare_word word_with spot_in word_spot line_spot any_number_in
no_digits = refl

pub capital_of_the_prefix : Reads (codes "go=0X1") None
unfolding debug_word_in bare_word word_with spot_in word_spot line_spot any_number_in
capital_of_the_prefix = refl

pub a_plus : Reads (codes "go=+1") None
unfolding debug_word_in bare_word word_with spot_in word_spot line_spot any_number_in
a_plus = refl

pub a_plus_in_hexadecimal : Reads (codes "go=0x+1") None
unfolding debug_word_in bare_word word_with spot_in word_spot line_spot any_number_in
a_plus_in_hexadecimal = refl

pub a_minus : Reads (codes "go=-1") None
unfolding debug_word_in bare_word word_with spot_in word_spot line_spot any_number_in
a_minus = refl

pub two_to_the_64 : Reads (codes "go=18446744073709551616") None
unfolding debug_word_in bare_word word_with spot_in word_spot line_spot any_number_in
two_to_the_64 = refl

pub two_to_the_64_in_hexadecimal : Reads (codes "go=0x10000000000000000") None
unfolding debug_word_in bare_word word_with spot_in word_spot line_spot any_number_in
two_to_the_64_in_hexadecimal = refl

pub two_numbers : Reads (codes "go=1,2") None
unfolding debug_word_in bare_word word_with spot_in word_spot line_spot any_number_in
two_numbers = refl

pub two_signs : Reads (codes "go=1=1") None
unfolding debug_word_in bare_word word_with spot_in word_spot line_spot any_number_in
two_signs = refl

pub no_hart : Reads (codes "regs=0") None
unfolding debug_word_in bare_word word_with spot_in word_spot line_spot any_number_in
no_hart = refl

pub a_hart_of_256 : Reads (codes "regs=0,256") None
unfolding debug_word_in bare_word word_with spot_in word_spot line_spot any_number_in
a_hart_of_256 = refl

pub a_rank_of_256 : Reads (codes "regs=0x100,0") None
unfolding debug_word_in bare_word word_with spot_in word_spot line_spot any_number_in
a_rank_of_256 = refl

pub frames_of_a_rank : Reads (codes "frames=0") None
unfolding debug_word_in bare_word word_with spot_in word_spot line_spot any_number_in
frames_of_a_rank = refl

pub output_of_a_hart : Reads (codes "output=0,0") None
unfolding debug_word_in bare_word word_with spot_in word_spot line_spot any_number_in
output_of_a_hart = refl

pub output_of_rank_256 : Reads (codes "output=256") None
unfolding debug_word_in bare_word word_with spot_in word_spot line_spot any_number_in
output_of_rank_256 = refl

pub three_numbers : Reads (codes "regs=0,0,0") None
unfolding debug_word_in bare_word word_with spot_in word_spot line_spot any_number_in
three_numbers = refl

pub a_comma_behind : Reads (codes "regs=0,0,") None
unfolding debug_word_in bare_word word_with spot_in word_spot line_spot any_number_in
a_comma_behind = refl

pub no_count : Reads (codes "bytes=0,1") None
unfolding debug_word_in bare_word word_with spot_in word_spot line_spot any_number_in
no_count = refl

pub a_name_for_a_count : Reads (codes "bytes=0,1,n") None
unfolding debug_word_in bare_word word_with spot_in word_spot line_spot any_number_in
a_name_for_a_count = refl

pub a_name_that_begins_with_a_digit : Reads (codes "bytes=0,1a,1") None
unfolding debug_word_in bare_word word_with spot_in word_spot line_spot any_number_in
a_name_that_begins_with_a_digit = refl

pub no_spot : Reads (codes "bytes=0,,1") None
unfolding debug_word_in bare_word word_with spot_in word_spot line_spot any_number_in
no_spot = refl

pub a_name_with_a_minus : Reads (codes "bytes=0,a-b,1") None
unfolding debug_word_in bare_word word_with spot_in word_spot line_spot any_number_in
a_name_with_a_minus = refl

pub no_pc : Reads (codes "break=0,0") None
unfolding debug_word_in bare_word word_with spot_in word_spot line_spot any_number_in
no_pc = refl

pub a_name_for_a_rank : Reads (codes "break=a,0,0") None
unfolding debug_word_in bare_word word_with spot_in word_spot line_spot any_number_in
a_name_for_a_rank = refl

pub a_line_of_no_file : Reads (codes "break=0,0,:46") None
unfolding debug_word_in bare_word word_with spot_in word_spot line_spot any_number_in
a_line_of_no_file = refl

pub a_file_without_a_line : Reads (codes "break=0,0,farm.c:") None
unfolding debug_word_in bare_word word_with spot_in word_spot line_spot any_number_in
a_file_without_a_line = refl

pub a_line_in_hexadecimal : Reads (codes "break=0,0,farm.c:0x2e") None
unfolding debug_word_in bare_word word_with spot_in word_spot line_spot any_number_in
a_line_in_hexadecimal = refl

pub a_line_with_a_zero_in_front : Reads (codes "break=0,0,farm.c:046") None
unfolding debug_word_in bare_word word_with spot_in word_spot line_spot any_number_in
a_line_with_a_zero_in_front = refl

pub a_line_and_a_column : Reads (codes "break=0,0,farm.c:46:3") None
unfolding debug_word_in bare_word word_with spot_in word_spot line_spot any_number_in
a_line_and_a_column = refl
