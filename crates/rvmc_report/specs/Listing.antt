-- What the listing of an image tells: a line for each word of its text, behind the names of the word's address.
use Rattle.std.specs.Prelude.{ℕ, ◌-◌, ◌*◌, ◌/◌, ◌==◌, List, [], ◌∷◌, ◌++◌, length, replicate, codes, Option, Some, None}
use Rattle.std.specs.Prelude.{false}
use Rattle.std.specs.Fmt.{digits}
use Rattle.std.specs.List.{filter, flat_map, range_with_len}
use Rattle.rv_decode.specs.Decoded.{decoded}
use Rattle.rv_decode.specs.Text.{instr_text}
use Rattle.rv_decode.specs.declared.instruction.Instr.{Instr}
use Rattle.rv_image_types.specs.declared.images.ImageParts.{ImageParts}
use Rattle.rv_image_types.specs.declared.images.Symbol.{Symbol}
use Rattle.rv_memory.specs.Memory.{value_at}

-- a number below 2^32 as eight hex digits in lower case
abbrev pub hex_8 : ℕ → List ℕ
hex_8 n = replicate (8 - length (digits 16 false n)) 48 ++ digits 16 false n

-- the instruction of a word, or for an illegal word `.word 0x` and its digits
abbrev pub listed_statement : Option Instr → ℕ → List ℕ
listed_statement (Some instr) word = instr_text instr
listed_statement None word = codes ".word 0x" ++ hex_8 word

-- as `00000000: 000a72b7  lui x5, 0xa7`
abbrev pub listing_line : ℕ → ℕ → List ℕ
listing_line address word =
    hex_8 address ++ (codes ": " ++ (hex_8 word ++ (codes "  " ++ (listed_statement (decoded word) word ++ 10 ∷ []))))

-- the line of the word of this number
abbrev pub word_line : List ℕ → ℕ → List ℕ
word_line text number = listing_line (4 * number) (value_at text (4 * number) 4)

-- the line of a symbol, as `go:`
abbrev pub name_line : Symbol → List ℕ
name_line symbol = symbol.name ++ (58 ∷ 10 ∷ [])

-- the symbols at an address, in the order in which they stand
abbrev pub symbols_at : List Symbol → ℕ → List Symbol
symbols_at symbols address = filter (λ symbol. symbol.address == address) symbols

-- the word of this number, and before it the names at its address
abbrev pub word_lines : ImageParts → ℕ → List ℕ
word_lines image number = flat_map name_line (symbols_at image.symbols (4 * number)) ++ word_line image.text number

-- all words in order, of four bytes each
abbrev pub listing : ImageParts → List ℕ
listing image = flat_map (word_lines image) (range_with_len 0 (length image.text / 4))
