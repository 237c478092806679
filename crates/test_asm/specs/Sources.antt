-- Small sources, and what they come to.
use Rattle.std.specs.Prelude.{◌≡◌, ℕ, List, pos, negsuc, [], ◌∷◌, ◌++◌, codes, map, length, replicate, false, Ok, Err}
use Rattle.rv_image_types.specs.declared.images.ImageParts.{ImageParts}
use Rattle.rv_image_types.specs.declared.images.ImageVersion.TheVariants.{Two}
use Rattle.rv_image_types.specs.declared.images.Symbol.{Symbol}
use Rattle.rv_image.specs.Text.{image_text}
use Rattle.rv_asm_tokens.specs.declared.fault.AsmFault.{AsmFault}
use Rattle.rv_asm_tokens.specs.declared.fault.AsmFaultKind.{AsmFaultKind}
use Rattle.rv_asm_tokens.specs.declared.fault.AsmFaultKind.TheVariants as kinds
use Rattle.rv_asm_lines.specs.Globals.{is_global}
use Rattle.rv_asm_lines.specs.Layout.{Layout, line_step}
use Rattle.rv_asm.specs.Source.{meaning}

-- what a source of a text alone comes to
abbrev pub with_text : List ℕ → ImageParts
with_text text = record {
  version = Two;
  ranks = 1;
  harts = 1;
  memory = 65536;
  entry = 0;
  text = text;
  init = [];
  comms = [];
  links = [];
  symbols = [];
}

-- the word of `nop`
abbrev pub nop : List ℕ
nop = 0x13 ∷ 0 ∷ 0 ∷ 0 ∷ []

-- what a source with one word of text, `nop`, and this data comes to
abbrev pub with_data : List ℕ → ImageParts
with_data init = record (with_text nop) { init = init }

-- sources with their text; the words are those of GNU as 2.40
abbrev pub texts : List (List ℕ × List ℕ)
texts =
    -- `li` takes one instruction to 2047, and two from there
    (codes "li x16, 2047", 0x13 ∷ 8 ∷ 0xf0 ∷ 0x7f ∷ [])
    ∷ (codes "li x21, 2048", 0xb7 ∷ 0x1a ∷ 0 ∷ 0 ∷ 0x9b ∷ 0x8a ∷ 0x0a ∷ 0x80 ∷ [])
    ∷ (codes "li x7, -2048", 0x93 ∷ 3 ∷ 0 ∷ 0x80 ∷ [])
    -- the low part's sign is carried into the high part
    ∷ (codes "li a4, 2147481600", 0x37 ∷ 7 ∷ 0 ∷ 0x80 ∷ 0x1b ∷ 7 ∷ 7 ∷ 0x80 ∷ [])
    -- the greatest and the least that fit
    ∷ (codes "lui x1, 1048575", 0xb7 ∷ 0xf0 ∷ 0xff ∷ 0xff ∷ [])
    ∷ (codes "beq x17, t6, -4096", 0x63 ∷ 0x80 ∷ 0xf8 ∷ 0x81 ∷ [])
    ∷ (codes "jal x22, -1048576", 0x6f ∷ 0x0b ∷ 0 ∷ 0x80 ∷ [])
    -- a name of the ABI, swapped operands, and the two forms of `fence`
    ∷ (codes "sub fp, x8, sp", 0x33 ∷ 4 ∷ 0x24 ∷ 0x40 ∷ [])
    ∷ (codes "bgt x21, a4, 16", 0x63 ∷ 0x48 ∷ 0x57 ∷ 1 ∷ [])
    ∷ (codes "fence iorw, iorw", 0x0f ∷ 0 ∷ 0xf0 ∷ 0x0f ∷ [])
    -- a label is as far as it stands, and one on the line of its own jump is at 0
    ∷ (codes "a: nop\nbeq x5, x6, a", 0x13 ∷ 0 ∷ 0 ∷ 0 ∷ 0xe3 ∷ 0x8e ∷ 0x62 ∷ 0xfe ∷ [])
    ∷ (codes "go : j go", 0x6f ∷ 0 ∷ 0 ∷ 0 ∷ [])
    -- a carriage return before a newline is dropped
    ∷ (codes "nop\r\n", 0x13 ∷ 0 ∷ 0 ∷ 0 ∷ [])
    ∷ (codes "j on\r\non: ret # back", 0x6f ∷ 0 ∷ 0x40 ∷ 0 ∷ 0x67 ∷ 0x80 ∷ 0 ∷ 0 ∷ [])
    ∷ []

abbrev pub TextsStand : Type 0
TextsStand = map (λ row. meaning row.0) texts ≡ map (λ row. Ok (with_text row.1)) texts

-- sources with their data
abbrev pub datas : List (List ℕ × List ℕ)
datas =
    -- a label of the data is where it is loaded, and has the address before a padding; one on a line with `.text`
    -- belongs to the part before
    (codes "nop\n.data\nx: .word x, -2", 0x10 ∷ 0 ∷ 0 ∷ 0 ∷ 0xfe ∷ 0xff ∷ 0xff ∷ 0xff ∷ [])
    ∷ (codes "nop\n.data\n.byte 7\nx: .balign 4\n.word x", 7 ∷ 0 ∷ 0 ∷ 0 ∷ 0x11 ∷ 0 ∷ 0 ∷ 0 ∷ [])
    ∷ (codes ".data\n.byte 7\ny: .text\nnop\n.data\n.half 1\n.word y", 7 ∷ 1 ∷ 0 ∷ 0x11 ∷ 0 ∷ 0 ∷ 0 ∷ [])
    -- signed or unsigned, the low byte first
    ∷ (codes "nop\n.data\n.byte -128, 255", 0x80 ∷ 0xff ∷ [])
    ∷ (codes "nop\n.data\n.word 0x12345678", 0x78 ∷ 0x56 ∷ 0x34 ∷ 0x12 ∷ [])
    ∷ (codes "nop\n.data\n.dword -9223372036854775808", 0 ∷ 0 ∷ 0 ∷ 0 ∷ 0 ∷ 0 ∷ 0 ∷ 0x80 ∷ [])
    -- a comment sign in a string is a character, and an escape is its byte
    ∷ (codes "nop\n.data\n.ascii \"a#\\n\"", 0x61 ∷ 0x23 ∷ 0x0a ∷ [])
    ∷ (codes "nop\n.data\n.asciz \"b\"", 0x62 ∷ 0 ∷ [])
    ∷ (codes "nop\n.data\n.zero 3\n.byte 9", 0 ∷ 0 ∷ 0 ∷ 9 ∷ [])
    ∷ []

abbrev pub DataStand : Type 0
DataStand = map (λ row. meaning row.0) datas ≡ map (λ row. Ok (with_data row.1)) datas

-- a source of one word with these symbols
abbrev pub with_symbols : List Symbol → ImageParts
with_symbols symbols = record (with_text nop) { memory = 4096; symbols = symbols }

abbrev pub at : List ℕ → ℕ → Symbol
at name address = record { name = name; address = address }

-- sources with their symbols
abbrev pub named : List (List ℕ × List Symbol)
named =
    -- before its label and behind it, in the text and in the data
    (codes ".memory 4096\n.globl go\ngo: nop", at (codes "go") 0 ∷ [])
    ∷ (codes ".memory 4096\nnop\ngo: .globl go", at (codes "go") 4 ∷ [])
    ∷ (codes ".memory 4096\nnop\n.data\nx: .text\n.globl x", at (codes "x") 16 ∷ [])
    -- once, however often it stands
    ∷ (codes ".memory 4096\n.globl go\ngo: nop\n.globl go\n.data\n.globl go", at (codes "go") 0 ∷ [])
    -- in the order of their bytes, and not in that of the source, of their addresses or of their lengths
    ∷ (codes ".memory 4096\n.globl b\n.globl a\nb: nop\na:", at (codes "a") 4 ∷ at (codes "b") 0 ∷ [])
    ∷ (
      codes ".memory 4096\n.globl b\n.globl ab\n.globl a\n.globl B\na: ab: b: B: nop",
      at (codes "B") 0
          ∷ at (codes "a") 0 ∷ at (codes "ab") 0 ∷ at (codes "b") 0 ∷ [],
    )
    -- 31 bytes
    ∷ (
      codes ".memory 4096\n.globl _.$A567890123456789012345678901\n_.$A567890123456789012345678901: nop",
      at (codes "_.$A567890123456789012345678901") 0 ∷ [],
    )
    -- a label without `.globl` is none
    ∷ (codes ".memory 4096\nleft: nop\n.globl right\nright:", at (codes "right") 4 ∷ [])
    ∷ []

abbrev pub SymbolsStand : Type 0
SymbolsStand = map (λ row. meaning row.0) named ≡ map (λ row. Ok (with_symbols row.1)) named

-- a source, and the line and the kind of its first fault
abbrev pub told : List ℕ → ℕ → AsmFaultKind → List ℕ × AsmFault
told source line kind = (source, record { line = line; kind = kind })

abbrev pub faults : List (List ℕ × AsmFault)
faults =
    -- in the data part an instruction is first looked at as ever
    told (codes ".data\nadd x1") 2 kinds.Operand
    ∷ told (codes ".data\nfoo") 2 kinds.Mnemonic
    ∷ told (codes ".data\nnop") 2 kinds.Directive
    ∷ told (codes ".word 1\n.byte 1") 2 kinds.Directive
    ∷ told (codes ".dword 1") 1 kinds.Directive
    ∷ told (codes "nop\n.ranks 2\n.ranks 2") 3 kinds.Directive
    ∷ told (codes "nop\n.ranks 9") 2 kinds.Directive
    ∷ told (codes "nop\n.data\n.balign 32") 3 kinds.Directive
    ∷ told (codes "nop\n.data\nx: .half x") 3 kinds.Directive
    ∷ told (codes "nop\n.f") 2 kinds.Directive
    ∷ told (codes "nop\n.comm 300") 2 kinds.Directive
    ∷ told (codes ".ranks 2\nnop\n.comm 1, 1") 3 kinds.Directive
    ∷ told (codes "nop\n.link 0, 0") 2 kinds.Directive
    -- numbers that do not fit
    ∷ told (codes "addi x5, x0, 2048") 1 (kinds.Range (pos 2048))
    ∷ told (codes "slliw x5, x5, 32") 1 (kinds.Range (pos 32))
    ∷ told (codes "lui x5, -1") 1 (kinds.Range (negsuc 0))
    ∷ told (codes "jal x0, 3") 1 (kinds.Range (pos 3))
    ∷ told (codes "nop\nbeq x0, x0, 4096") 2 (kinds.Range (pos 4096))
    ∷ told (codes "li x5, 2147483648") 1 (kinds.Range (pos 2147483648))
    ∷ told (codes "nop\n.data\n.byte 256") 3 (kinds.Range (pos 256))
    ∷ told (codes "addi x5, x0, 18446744073709551616") 1 kinds.Token
    -- operands that are none: an empty one at the end, and ones between other signs than commas
    ∷ told (codes "add x5, x6,") 1 kinds.Operand
    ∷ told (codes "add x5 + x6 + x7") 1 kinds.Operand
    ∷ told (codes "mov x5, x6") 1 kinds.Mnemonic
    -- the operands of a line come from left to right
    ∷ told (codes "nop\n.data\n.word 8589934592, x") 3 (kinds.Range (pos 8589934592))
    ∷ told (codes "nop\n.data\n.word x, 8589934592") 3 kinds.LabelMissing
    -- a wrong `_start` comes before its line's own statement
    ∷ told (codes "nop\n.data\n_start: .word 8589934592") 3 kinds.Directive
    -- the end of the text is no entry, also where there is no text
    ∷ told (codes "nop\nend: .entry end") 2 kinds.Directive
    ∷ told (codes "_start:") 1 kinds.Directive
    -- `.globl` takes one plain name, of 31 bytes at most
    ∷ told (codes "nop\n.globl") 2 kinds.Directive
    ∷ told (codes "nop\n.globl 5") 2 kinds.Directive
    ∷ told (codes "nop\n.globl a, b\na: b:") 2 kinds.Directive
    ∷ told (codes "nop\n.globl a+4\na:") 2 kinds.Directive
    ∷ told (codes "nop\n.globl a1234567890123456789012345678901\na1234567890123456789012345678901:") 2 kinds.Directive
    -- its label has to be there: told at its own line, in the second pass
    ∷ told (codes ".globl go\nnop") 1 kinds.LabelMissing
    ∷ told (codes "nop\n.data\na: .globl b\n.word c") 3 kinds.LabelMissing
    ∷ told (codes "j c\n.globl b") 1 kinds.LabelMissing
    ∷ told (codes ".globl go\nnop\n@") 3 kinds.Token
    -- the first pass comes before the second
    ∷ told (codes "j x\n@") 2 kinds.Token
    ∷ told (codes "nop\n.data\n.byte 256\n.zero 1048576") 4 kinds.Limit
    ∷ told (codes ".harts 2\n.memory 4096\nnop") 0 kinds.Limit
    ∷ told (codes "") 0 kinds.Directive
    ∷ []

abbrev pub FaultsAreTold : Type 0
FaultsAreTold = map (λ row. meaning row.0) faults ≡ map (λ row. Err row.1) faults

-- a source of a word that begins at an entry
abbrev pub begun_at : ℕ → List ℕ → ImageParts
begun_at entry text = record (with_text text) { entry = entry }

abbrev pub two_nops : List ℕ
two_nops = 0x13 ∷ 0 ∷ 0 ∷ 0 ∷ 0x13 ∷ 0 ∷ 0 ∷ 0 ∷ []

-- harts begin at `_start`, and with `.entry` there
abbrev pub entries : List (List ℕ × ℕ)
entries = (codes "nop\n_start: nop", 4) ∷ (codes ".entry a\n_start: nop\na: nop", 4) ∷ (codes "nop\nstart: nop", 0) ∷ []

abbrev pub EntriesStand : Type 0
EntriesStand = map (λ row. meaning row.0) entries ≡ map (λ row. Ok (begun_at row.1 two_nops)) entries

-- ---- names of `.globl`

-- two lines, and the bytes of their image
abbrev pub go_means : ImageParts
go_means = record (with_text nop) { symbols = at (codes "go") 0 ∷ [] }

abbrev pub go_bytes : List ℕ
go_bytes =
    codes "RVMC"
    ++ (2 ∷ 0 ∷ 1 ∷ 1 ∷ 0 ∷ 0 ∷ 1 ∷ 0 ∷ 0 ∷ 0 ∷ 0 ∷ 0 ∷ 4 ∷ 0 ∷ 0 ∷ 0 ∷ 0 ∷ 0 ∷ 0 ∷ 0 ∷ 0 ∷ 0 ∷ 1 ∷ 0
    ∷ 0x13 ∷ 0 ∷ 0 ∷ 0 ∷ 0 ∷ 0 ∷ 0 ∷ 0 ∷ 2 ∷ 0x67 ∷ 0x6f ∷ [])

abbrev pub GoHasItsBytes : Type 0
GoHasItsBytes = (meaning (codes ".globl go\ngo: nop\n") ≡ Ok go_means) × (image_text go_means ≡ go_bytes)

-- the end of the memory is an address that a symbol may have
abbrev pub EndIsKept : Type 0
EndIsKept =
    meaning (codes ".memory 4096\nnop\n.data\n.zero 4080\nend: .globl end")
    ≡ Ok (record (with_symbols (at (codes "end") 4096 ∷ [])) { init = replicate 4080 0 })

-- a name of 32 bytes is refused wherever it stands, however many names there are
abbrev pub LongNamesAreRefused : Type 0
LongNamesAreRefused =
    (n : ℕ) (s : Layout) → line_step n s (codes ".globl a1234567890123456789012345678901") ≡ Err kinds.Directive

-- one more name than 1,024 is refused, whatever labels there are
abbrev pub OneMoreIsRefused : Type 0
OneMoreIsRefused =
    (n : ℕ) (s : Layout) → length s.globals ≡ 1024 → is_global (codes "go") s.globals ≡ false
    → line_step n s (codes ".globl go") ≡ Err kinds.Limit
