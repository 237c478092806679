-- What is typed behind `monitor`: a word of `debug`, with a blank in place of `=` and of each comma, or another word.
use Rattle.std.specs.Prelude.{ℕ, ◌==◌, List, [], ◌∷◌, ◌++◌, codes, drop, nat_eq, Option, Some, None}
use Rattle.std.specs.Prelude.{if◌then◌else◌, option_and_then, option_map}
use Rattle.std.specs.List.{starts_with}
use Rattle.std.specs.Option.{option_or, unwrap_or}
use Rattle.std.specs.Str.{bytes_eq, is_utf8}
use Rattle.rvmc_words.specs.Debug.{debug_word_in}
use Rattle.rvmc_words.specs.Number.{any_number_in}
use Rattle.rvmc_words.specs.declared.debug.DebugWord.{DebugWord}
use Rattle.rvmc_words.specs.declared.debug.DebugWord.TheVariants.{Back, Break, Bytes, Frames, Go, Output, Place, Regs, Run, Step}
use Rattle.rvmc_protocol.specs.declared.monitor.typed.Typed.{Typed}
use Rattle.rvmc_protocol.specs.declared.monitor.typed.Typed.TheVariants as typed

-- a byte as `debug` has it, where a blank stands for this mark; and what the next blank stands for
abbrev pub marked_byte : ℕ → ℕ → ℕ
marked_byte mark byte = if byte == 32 then mark else byte

abbrev pub next_mark : ℕ → ℕ → ℕ
next_mark mark byte = if byte == 32 then 44 else mark

-- the first blank is the mark, and further ones are commas
abbrev pub debug_spelling : ℕ → List ℕ → List ℕ
debug_spelling mark [] = []
debug_spelling mark (byte ∷ rest) = marked_byte mark byte ∷ debug_spelling (next_mark mark byte) rest

-- `rank=R`
unfoldable pub rank_in : List ℕ → Option Typed
rank_in text =
    if starts_with nat_eq text (codes "rank=") then option_map (λ rank. typed.Rank rank) (any_number_in 255 (drop 5 text)) else None

-- the words of `debug` that `monitor` takes: the others set breaks or go where gdb goes by its own words
abbrev pub taken : DebugWord → Option Typed
taken (Go n) = Some (typed.Go n)
taken Place = Some typed.Place
taken (Regs rank hart) = Some (typed.Regs rank hart)
taken (Bytes rank at count) = Some (typed.Bytes rank at count)
taken Step = None
taken Back = None
taken Run = None
taken (Break rank hart at) = None
taken (Frames rank hart) = None
taken (Output rank) = None

-- `last-write=A`, where A is written as that of `bytes=R,A,N`
abbrev pub number_or_name : Option DebugWord → Option Typed
number_or_name (Some (Bytes rank at count)) = Some (typed.LastWrite at)
number_or_name word = None

unfoldable pub last_write_in : List ℕ → Option Typed
last_write_in text =
    if starts_with nat_eq text (codes "last-write=")
    then number_or_name (debug_word_in (codes "bytes=0," ++ (drop 11 text ++ codes ",0"))) else None

abbrev pub word_alone : List ℕ → Option Typed
word_alone text =
    if bytes_eq text (codes "help") then Some typed.Help
    else if bytes_eq text (codes "why") then Some typed.Why
    else if bytes_eq text (codes "sent") then Some typed.Sent
    else if bytes_eq text (codes "got") then Some typed.Got
    else None

abbrev pub spelled_word : List ℕ → Typed
spelled_word text = unwrap_or (option_and_then taken (debug_word_in text)) typed.Unknown

unfoldable pub word_spelled : List ℕ → Typed
word_spelled text =
    unwrap_or (option_or (word_alone text) (option_or (rank_in text) (last_write_in text))) (spelled_word text)

-- what is no text is no word
abbrev pub word_of_text : List ℕ → Typed
word_of_text text = if is_utf8 text then word_spelled text else typed.Unknown

abbrev pub typed_word : List ℕ → Typed
typed_word bytes = word_of_text (debug_spelling 61 bytes)
