-- The machine at the first place, as text: for each rank a line of its memory's size, a line for each hart, the rows of its
-- memory and its output so far.
use Rattle.std.specs.Prelude.{ℕ, ◌==◌, ◌+◌, ◌*◌, ◌/◌, if◌then◌else◌, List, [], ◌++◌, codes, drop, length, take, false}
use Rattle.std.specs.Fmt.{decimal, digits}
use Rattle.std.specs.List.{flat_map, list_all, range_with_len}
use Rattle.rv_hart.specs.declared.state.Mode.{Mode}
use Rattle.rv_hart.specs.declared.state.Mode.TheVariants.{Running, Waiting, Ended, Trapped}
use Rattle.rv_memory.specs.Fault.{cause_number}
use Rattle.rvmc_changes.specs.declared.steps.Stand.{Stand}
use Rattle.rvmc_changes.specs.declared.starts.HartStart.{HartStart}
use Rattle.rvmc_changes.specs.declared.starts.RankStart.{RankStart}
use Rattle.rvmc_picture.specs.Below.{newline}
use Rattle.rvmc_page.specs.Escaped.{hex_pairs}

abbrev pub hex : ℕ → List ℕ
hex n = digits 16 false n

-- behind the pc of a hart that doesn't run: `w` where it waits, `x3` where it ended with code 3, `t2.1c` where it trapped
-- for cause 2 at 0x1c
abbrev pub mode_letter : Mode → List ℕ
mode_letter Running = []
mode_letter (Waiting wait) = codes "w"
mode_letter (Ended code) = codes "x" ++ decimal code
mode_letter (Trapped cause at) = codes "t" ++ (decimal (cause_number cause) ++ (codes "." ++ hex at))

-- where a hart stands, as `1a4` or `1a4w`
abbrev pub stand_text : Stand → List ℕ
stand_text stand = hex stand.pc ++ mode_letter stand.mode

-- a hart, as `h 1a4 0 0 10000`: where it stands, and what its registers read in order
unfoldable pub hart_start_text : HartStart → List ℕ
hart_start_text hart =
    codes "h "
    ++ (stand_text (record { pc = hart.pc; mode = hart.mode })
    ++ (flat_map (λ value. codes " " ++ hex value) hart.registers.items ++ newline))

-- the row of this number: 32 bytes, or of the last one what is left
abbrev pub row_bytes : List ℕ → ℕ → List ℕ
row_bytes bytes number = take 32 (drop (32 * number) bytes)

-- a row of zeros is left out
abbrev pub row_text : ℕ → List ℕ → List ℕ
row_text at row =
    if list_all (λ byte. byte == 0) row then []
    else codes "m " ++ (hex at ++ (codes " " ++ (hex_pairs row ++ newline)))

unfoldable pub row_line : List ℕ → ℕ → List ℕ
row_line bytes number = row_text (32 * number) (row_bytes bytes number)

-- as many rows as the bytes fill, the last of them perhaps in part
abbrev pub memory_text : List ℕ → List ℕ
memory_text bytes = flat_map (row_line bytes) (range_with_len 0 ((length bytes + 31) / 32))

unfoldable pub rank_start_text : RankStart → List ℕ
rank_start_text rank =
    codes "r "
    ++ (decimal (length rank.bytes.items)
    ++ (newline
    ++ (flat_map hart_start_text rank.harts.items
    ++ (memory_text rank.bytes.items ++ (codes "o " ++ (hex_pairs rank.out.items ++ newline))))))

abbrev pub starts_text : List RankStart → List ℕ
starts_text ranks = flat_map rank_start_text ranks
