-- The fields of an instruction word, as numbers (RISC-V Unprivileged ISA 20191213, 2.2 and 2.3).
use Rattle.std.specs.Prelude.{ℕ, ◌+◌, ◌-◌, ◌*◌, ◌/◌, ◌%◌, ◌^◌, ℤ, pos, ◌-ℤ◌}

-- bits `high` down to `low` of a number
abbrev pub bits : ℕ → ℕ → ℕ → ℕ
bits word high low = word / 2 ^ low % 2 ^ (high - low + 1)

-- the signed reading of a number of `count` bits: 2 ^ count less where the highest bit is set
abbrev pub signed : ℕ → ℕ → ℤ
signed count number = pos number -ℤ pos (number / 2 ^ (count - 1) * 2 ^ count)

-- the fields of the formats (2.2)
abbrev pub opcode : ℕ → ℕ
opcode word = bits word 6 0

abbrev pub rd : ℕ → ℕ
rd word = bits word 11 7

abbrev pub funct3 : ℕ → ℕ
funct3 word = bits word 14 12

abbrev pub rs1 : ℕ → ℕ
rs1 word = bits word 19 15

abbrev pub rs2 : ℕ → ℕ
rs2 word = bits word 24 20

abbrev pub funct7 : ℕ → ℕ
funct7 word = bits word 31 25

-- the immediates (2.3), each the signed reading of its bits
abbrev pub imm_i : ℕ → ℤ
imm_i word = signed 12 (bits word 31 20)

abbrev pub imm_s : ℕ → ℤ
imm_s word = signed 12 (bits word 31 25 * 2 ^ 5 + bits word 11 7)

abbrev pub imm_b : ℕ → ℤ
imm_b word =
    signed 13 (bits word 31 31 * 2 ^ 12 + bits word 7 7 * 2 ^ 11 + bits word 30 25 * 2 ^ 5 + bits word 11 8 * 2)

abbrev pub imm_u : ℕ → ℤ
imm_u word = signed 32 (bits word 31 12 * 2 ^ 12)

abbrev pub imm_j : ℕ → ℤ
imm_j word =
    signed 21 (bits word 31 31 * 2 ^ 20 + bits word 19 12 * 2 ^ 12 + bits word 20 20 * 2 ^ 11 + bits word 30 21 * 2)
