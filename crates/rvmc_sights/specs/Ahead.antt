-- What an instruction leaves unless it traps, as its hart tells before it is done.
use Rattle.std.specs.Prelude.{Bool, true, false, List, ℕ, [], ◌++◌, codes, Option, Some, None}
use Rattle.rv_decode.specs.declared.instruction.Instr.{Instr}
use Rattle.rv_decode.specs.declared.instruction.Instr.TheVariants.{Upper, Jal, Jalr, Branch, Load, Store, Imm, Shift}
use Rattle.rv_decode.specs.declared.instruction.Instr.TheVariants.{Arith, Fence, Ecall, Ebreak}
use Rattle.rv_hart.specs.Effect.{offset}
use Rattle.rv_hart.specs.Results.{is_taken}
use Rattle.rv_hart.specs.State.{State, read}
use Rattle.rv_hart.specs.declared.state.Mode.{Mode}
use Rattle.rv_hart.specs.declared.state.Mode.TheVariants.{Trapped}
use Rattle.rvmc_places.specs.Causes.{trapped_text}
use Rattle.rvmc_sights.specs.Instructions.{store_text, stored_value, value_text}
use Rattle.rvmc_sights.specs.declared.ahead.Ahead.{Ahead}
use Rattle.rvmc_sights.specs.declared.ahead.Ahead.TheVariants as ahead

-- what an instruction leaves unless it traps, as its hart before it tells
abbrev pub ahead_of : Instr → State → Ahead
ahead_of (Upper op d imm) before = ahead.Value d
ahead_of (Jal d off) before = ahead.Value d
ahead_of (Jalr d r off) before = ahead.Value d
ahead_of (Branch op r t off) before = ahead.Branches (is_taken op (read before r) (read before t))
ahead_of (Load op d r off) before = ahead.Value d
ahead_of (Store op r t off) before = ahead.Stores (offset (read before r) off) (stored_value op (read before t))
ahead_of (Imm op d r imm) before = ahead.Value d
ahead_of (Shift op d r amount) before = ahead.Value d
ahead_of (Arith op d r t) before = ahead.Value d
ahead_of Fence before = ahead.Nothing
ahead_of Ecall before = ahead.Nothing
ahead_of Ebreak before = ahead.Nothing

-- that as text, once it is done
abbrev pub taken_text : Bool → List ℕ
taken_text true = codes " taken"
taken_text false = codes " not taken"

abbrev pub ahead_text : Ahead → State → List ℕ
ahead_text (ahead.Value d) after = value_text d after
ahead_text (ahead.Branches taken) after = taken_text taken
ahead_text (ahead.Stores address value) after = store_text address value
ahead_text ahead.Nothing after = []

-- what stands behind an instruction, whose hart's stack may be full; nothing where there was none, since that is told
-- already
abbrev pub rest_text : Option Ahead → State → Bool → Mode → List ℕ
rest_text None after overflow mode = []
rest_text (Some a) after overflow (Trapped cause at) = codes " " ++ trapped_text overflow cause
rest_text (Some a) after overflow mode = ahead_text a after
