-- The words of the command `debug`: what a text of each form asks for.
use Rattle.std.specs.Prelude.{ℕ, Bool, List, [], ◌∷◌, length, false, Option, Some, None, ◌&&◌, ◌==◌, if◌then◌else◌, not}
use Rattle.std.specs.Prelude.{codes, nat_lt, option_and_then, option_map}
use Rattle.std.specs.List.{list_all, slice_split}
use Rattle.std.specs.Str.{bytes_eq}
use Rattle.rv_image_types.specs.Names.{begins_with_digit, is_digit, is_name_byte}
use Rattle.rvmc_words.specs.Number.{any_number_in}
use Rattle.rvmc_words.specs.declared.debug.DebugWord.{DebugWord}
use Rattle.rvmc_words.specs.declared.debug.DebugWord.TheVariants.{Back, Break, Bytes, Frames, Go, Output, Place, Regs, Run, Step}
use Rattle.rvmc_words.specs.declared.debug.Spot.{Spot}
use Rattle.rvmc_words.specs.declared.debug.Spot.TheVariants.{Address, Line, Name}

-- a name of the source language, however long: letters, digits, `_`, `.` and `$`, of which the first is no digit
abbrev pub is_name : List ℕ → Bool
is_name text = nat_lt 0 (length text) && (list_all is_name_byte text && not (begins_with_digit text))

abbrev pub begins_with_zero : List ℕ → Bool
begins_with_zero [] = false
begins_with_zero (byte ∷ text) = byte == 48

-- ---- what an argument writes

-- the number of a rank or of a hart
abbrev pub small_number_in : List ℕ → Option ℕ
small_number_in text = any_number_in 255 text

-- a number of 64 bits
abbrev pub large_number_in : List ℕ → Option ℕ
large_number_in text = any_number_in 18446744073709551615 text

-- the number of a line, in decimal: digits, of which the first is no 0
abbrev pub is_line_number : List ℕ → Bool
is_line_number text = nat_lt 0 (length text) && (list_all is_digit text && not (begins_with_zero text))

-- a name, or the number of an address
unfoldable pub word_spot : List ℕ → Option Spot
word_spot text = if is_name text then Some (Name text) else option_map Address (large_number_in text)

-- `farm.c` and `46`
unfoldable pub line_spot : List ℕ → List ℕ → Option Spot
line_spot file number = if is_name file && is_line_number number then Some (Line file number) else None

-- what stands before, between and behind the colons: an address alone, or a file and a line of it
abbrev pub spot_named : List (List ℕ) → Option Spot
spot_named (text ∷ []) = word_spot text
spot_named (file ∷ number ∷ []) = line_spot file number
spot_named others = None

-- an address: its number, its name, or `FILE:LINE`
unfoldable pub spot_in : List ℕ → Option Spot
spot_in text = spot_named (slice_split (λ byte. byte == 58) text)

-- ---- each word, by its arguments

-- `go=N`
abbrev pub go_in : List (List ℕ) → Option DebugWord
go_in (n ∷ []) = option_map Go (large_number_in n)
go_in others = None

-- `break=R,H,PC`, `break=R,H,NAME` and `break=R,H,FILE:LINE`
abbrev pub break_in : List (List ℕ) → Option DebugWord
break_in (r ∷ h ∷ at ∷ []) =
    option_and_then (λ rank. option_and_then (λ hart. option_map (λ spot. Break rank hart spot)
    (spot_in at)) (small_number_in h)) (small_number_in r)
break_in others = None

-- `regs=R,H`
abbrev pub regs_in : List (List ℕ) → Option DebugWord
regs_in (r ∷ h ∷ []) =
    option_and_then (λ rank. option_map (λ hart. Regs rank hart) (small_number_in h)) (small_number_in r)
regs_in others = None

-- `frames=R,H`
abbrev pub frames_in : List (List ℕ) → Option DebugWord
frames_in (r ∷ h ∷ []) =
    option_and_then (λ rank. option_map (λ hart. Frames rank hart) (small_number_in h)) (small_number_in r)
frames_in others = None

-- `output=R`
abbrev pub output_in : List (List ℕ) → Option DebugWord
output_in (r ∷ []) = option_map Output (small_number_in r)
output_in others = None

-- `bytes=R,A,N`, `bytes=R,NAME,N` and `bytes=R,FILE:LINE,N`
abbrev pub bytes_word_in : List (List ℕ) → Option DebugWord
bytes_word_in (r ∷ at ∷ n ∷ []) =
    option_and_then (λ rank. option_and_then (λ spot. option_map (λ count. Bytes rank spot count)
    (large_number_in n)) (spot_in at)) (small_number_in r)
bytes_word_in others = None

-- a word that stands alone
unfoldable pub bare_word : List ℕ → Option DebugWord
bare_word name =
    if bytes_eq name (codes "step") then Some Step
    else (if bytes_eq name (codes "back") then Some Back
    else (if bytes_eq name (codes "run") then Some Run
    else (if bytes_eq name (codes "place") then Some Place
    else None)))

-- a word with arguments
unfoldable pub word_with : List ℕ → List (List ℕ) → Option DebugWord
word_with name arguments =
    if bytes_eq name (codes "go") then go_in arguments
    else (if bytes_eq name (codes "break") then break_in arguments
    else (if bytes_eq name (codes "regs") then regs_in arguments
    else (if bytes_eq name (codes "frames") then frames_in arguments
    else (if bytes_eq name (codes "bytes") then bytes_word_in arguments
    else (if bytes_eq name (codes "output") then output_in arguments
    else None)))))

-- what stands before, between and behind the equals signs: a word alone, or a word and its arguments with commas
-- between them
abbrev pub word_of : List (List ℕ) → Option DebugWord
word_of (name ∷ []) = bare_word name
word_of (name ∷ arguments ∷ []) = word_with name (slice_split (λ byte. byte == 44) arguments)
word_of others = None

-- the word that a text writes
unfoldable pub debug_word_in : List ℕ → Option DebugWord
debug_word_in text = word_of (slice_split (λ byte. byte == 61) text)

-- the word of each text, where each writes one
abbrev pub debug_words_in : List (List ℕ) → Option (List DebugWord)
debug_words_in [] = Some []
debug_words_in (text ∷ texts) =
    option_and_then (λ word. option_map (λ words. word ∷ words) (debug_words_in texts)) (debug_word_in text)
