-- What the words of `debug` print.
use Rattle.std.specs.Prelude.{ℕ, ◌+◌, ◌-◌, ◌*◌, ◌/◌, List, ◌++◌, codes, drop, length, map, replicate, take, false}
use Rattle.std.specs.Fmt.{decimal, digits}
use Rattle.std.specs.List.{flat_map, join_with_byte, range_with_len}
use Rattle.rv_hart.specs.State.{State, read}
use Rattle.rv_image_types.specs.declared.images.Symbol.{Symbol}
use Rattle.rv_memory.specs.Memory.{Memory}
use Rattle.rvmc_places.specs.Callers.{calls_text}
use Rattle.rvmc_places.specs.Frames.{frames}
use Rattle.rvmc_report.specs.Report.{hart_text, newline}

-- a number in hex, in lower case, with zeros before it up to a width
abbrev pub padded_hex : ℕ → ℕ → List ℕ
padded_hex width n = replicate (width - length (digits 16 false n)) 48 ++ digits 16 false n

-- where the debugger stands: `at N of LEN`
abbrev pub place_text : ℕ → ℕ → List ℕ
place_text n len = codes "at " ++ (decimal n ++ (codes " of " ++ (decimal len ++ newline)))

-- what a register reads, as `x5 00000000000a6968`
abbrev pub register_line : ℕ → ℕ → List ℕ
register_line number value = codes "x" ++ (decimal number ++ (codes " " ++ (padded_hex 16 value ++ newline)))

-- the registers x0 to x31, in the order of their numbers
abbrev pub registers_text : State → List ℕ
registers_text hart = flat_map (λ number. register_line number (read hart number)) (range_with_len 0 32)

-- the hart's line of the report, and its registers
abbrev pub regs_text : ℕ → ℕ → State → List ℕ
regs_text rank number hart = hart_text rank number hart ++ registers_text hart

-- the hart's line of the report, and a line for each call that led to where it is, as `called from 0xdc (life.c.41)`
abbrev pub frames_text : List Symbol → ℕ → ℕ → Memory → State → List ℕ
frames_text symbols rank number memory hart =
    hart_text rank number hart ++ calls_text (codes "called from ") newline symbols (frames symbols memory hart)

-- a line of bytes: two digits each, one space between
abbrev pub bytes_line : List ℕ → List ℕ
bytes_line bytes = join_with_byte 32 (map (padded_hex 2) bytes) ++ newline

-- the bytes of the line of this number, from 0: 16, or of the last line what is left
abbrev pub line_bytes : List ℕ → ℕ → List ℕ
line_bytes bytes number = take 16 (drop (16 * number) bytes)

-- as many lines as the bytes fill, the last of them perhaps in part; of no bytes none
abbrev pub bytes_text : List ℕ → List ℕ
bytes_text bytes =
    flat_map (λ number. bytes_line (line_bytes bytes number)) (range_with_len 0 ((length bytes + 15) / 16))
