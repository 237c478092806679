-- The line of an instruction in two parts: what is known before it is done, and what it left.
use Rattle.std.specs.Prelude.{ℕ, ◌≡◌, ◌<◌, false, List, ◌++◌, codes, length, slice_get, Option, Some, None}
use Rattle.rv_decode.specs.Decoded.{decoded}
use Rattle.rv_decode.specs.declared.instruction.Instr.{Instr}
use Rattle.rv_hart.specs.State.{State}
use Rattle.rv_image_types.specs.declared.images.Symbol.{Symbol}
use Rattle.rv_memory.specs.Access.{word_at}
use Rattle.rv_memory.specs.declared.fault.Cause.TheVariants.{InstructionAccess}
use Rattle.cl_machine.specs.declared.steps.Step.{Step}
use Rattle.cl_replay.specs.declared.states.ClusterState.{ClusterState}
use Rattle.cl_state.specs.Rank.{Rank}
use Rattle.cl_state.specs.Room.{rank_of}
use Rattle.cl_state.specs.declared.state.RankState.{RankState}
use Rattle.rvmc_places.specs.Causes.{trapped_text}
use Rattle.rvmc_places.specs.Places.{named_address_text}
use Rattle.rvmc_sights.specs.Ahead.{ahead_of}
use Rattle.rvmc_sights.specs.Lines.{hart_of, head_text, sight_of, sight_text}
use Rattle.rvmc_sights.specs.declared.ahead.Ahead.{Ahead}
use Rattle.rvmc_list.specs.Keeping.{word_spot}

-- what is known ahead of the word at a hart's pc
abbrev pub ahead_there : Option Instr → State → Option Ahead
ahead_there None before = None
ahead_there (Some i) before = Some (ahead_of i before)

abbrev pub ahead_met : Option ℕ → State → Option Ahead
ahead_met None before = None
ahead_met (Some word) before = ahead_there (decoded word) before

-- the word, or that there is none, behind the address
abbrev pub spot_met : List Symbol → ℕ → Option ℕ → List ℕ
spot_met symbols at None = named_address_text symbols at ++ (codes ": " ++ trapped_text false InstructionAccess)
spot_met symbols at (Some word) = word_spot symbols at word (decoded word)

-- all that stands before what is left
abbrev pub front_text : List Symbol → ℕ → Step → State → Option ℕ → List ℕ
front_text symbols place e before word = head_text place e ++ spot_met symbols before.pc word

-- of a step of a rank
abbrev pub front_of : List Symbol → ℕ → Step → Rank → List ℕ
front_of symbols place e rank =
    front_text symbols place e (hart_of e rank) (word_at rank.memory (hart_of e rank).pc)

abbrev pub ahead_in : Step → Rank → Option Ahead
ahead_in e rank = ahead_met (word_at rank.memory (hart_of e rank).pc) (hart_of e rank)

-- the sight of a step was added, whatever its rank was before and after it
abbrev pub PutsPlain : List Symbol → ClusterState → ℕ → Step → ClusterState → List ℕ → List ℕ → Type 0
PutsPlain symbols old place e new text after =
    (s t : RankState) → slice_get old.ranks.items e.rank ≡ Some s → slice_get new.ranks.items e.rank ≡ Some t
    → e.hart < length s.harts.items → e.hart < length t.harts.items
    → after ≡ text ++ sight_text symbols (sight_of place e (rank_of s) (rank_of t))
