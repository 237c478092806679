-- The description of the registers (GDB manual, 'Target Descriptions', 'RISC-V Features'). LLDB reads more of it than GDB does:
-- what DWARF calls a register (RISC-V ELF psABI, 'DWARF Register Numbers'), and what it is for.
use Rattle.std.specs.Prelude.{ℕ, List, [], ◌∷◌, ◌++◌, codes}
use Rattle.std.specs.List.{flat_map}

-- a register's name by the calling convention, its type, its number in DWARF as it is spelled, and what any machine's
-- register for this is called, if there is such a name
pub record Register : Type 0 where
  pub name : List ℕ
  pub shown : List ℕ
  pub number : List ℕ
  pub role : List ℕ

abbrev pub integer : List ℕ → List ℕ → List ℕ → Register
integer name dwarf role = record { name = name; shown = codes "int64"; number = dwarf; role = role }

abbrev pub of_data : List ℕ → List ℕ → List ℕ → Register
of_data name dwarf role = record { name = name; shown = codes "data_ptr"; number = dwarf; role = role }

abbrev pub of_code : List ℕ → List ℕ → List ℕ → Register
of_code name dwarf role = record { name = name; shown = codes "code_ptr"; number = dwarf; role = role }

-- x0 to x31, and the pc, which DWARF calls the alternate return column
abbrev pub registers : List Register
registers =
    integer (codes "zero") (codes "0") [] ∷
    of_data (codes "ra") (codes "1") (codes "ra") ∷
    of_data (codes "sp") (codes "2") (codes "sp") ∷
    of_data (codes "gp") (codes "3") [] ∷
    of_data (codes "tp") (codes "4") [] ∷
    integer (codes "t0") (codes "5") [] ∷
    integer (codes "t1") (codes "6") [] ∷
    integer (codes "t2") (codes "7") [] ∷
    integer (codes "fp") (codes "8") (codes "fp") ∷
    integer (codes "s1") (codes "9") [] ∷
    integer (codes "a0") (codes "10") (codes "arg1") ∷
    integer (codes "a1") (codes "11") (codes "arg2") ∷
    integer (codes "a2") (codes "12") (codes "arg3") ∷
    integer (codes "a3") (codes "13") (codes "arg4") ∷
    integer (codes "a4") (codes "14") (codes "arg5") ∷
    integer (codes "a5") (codes "15") (codes "arg6") ∷
    integer (codes "a6") (codes "16") (codes "arg7") ∷
    integer (codes "a7") (codes "17") (codes "arg8") ∷
    integer (codes "s2") (codes "18") [] ∷
    integer (codes "s3") (codes "19") [] ∷
    integer (codes "s4") (codes "20") [] ∷
    integer (codes "s5") (codes "21") [] ∷
    integer (codes "s6") (codes "22") [] ∷
    integer (codes "s7") (codes "23") [] ∷
    integer (codes "s8") (codes "24") [] ∷
    integer (codes "s9") (codes "25") [] ∷
    integer (codes "s10") (codes "26") [] ∷
    integer (codes "s11") (codes "27") [] ∷
    integer (codes "t3") (codes "28") [] ∷
    integer (codes "t4") (codes "29") [] ∷
    integer (codes "t5") (codes "30") [] ∷
    integer (codes "t6") (codes "31") [] ∷
    of_code (codes "pc") (codes "64") (codes "pc") ∷
    []

abbrev pub role_text : List ℕ → List ℕ
role_text [] = []
role_text (byte ∷ bytes) = codes " generic=\"" ++ (byte ∷ bytes) ++ codes "\""

unfoldable pub register_line : Register → List ℕ
register_line r =
    codes "<reg name=\"" ++ r.name ++ codes "\" bitsize=\"64\" type=\"" ++ r.shown ++ codes "\" dwarf_regnum=\"" ++ r.number
    ++ codes "\" ehframe_regnum=\"" ++ r.number ++ codes "\"" ++ role_text r.role ++ codes "/>"

abbrev pub lines_of : List Register → List ℕ
lines_of registers = flat_map register_line registers

-- with no operating system GDB steps by the machine, and not by breakpoints
abbrev pub description_text : List ℕ
description_text =
    codes "<?xml version=\"1.0\"?><!DOCTYPE target SYSTEM \"gdb-target.dtd\"><target><architecture>riscv:rv64</architecture><osabi>none</osabi><feature name=\"org.gnu.gdb.riscv.cpu\">"
    ++ lines_of registers ++ codes "</feature></target>"
