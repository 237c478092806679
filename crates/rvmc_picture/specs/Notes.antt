-- What stands beside the mark of a hart that trapped.
use Rattle.std.specs.Prelude.{Bool, List, ℕ, []}
use Rattle.rv_hart.specs.declared.state.Mode.{Mode}
use Rattle.rv_hart.specs.declared.state.Mode.TheVariants.{Trapped}
use Rattle.rvmc_places.specs.Causes.{trapped_text}

-- `trapped 7 (stack overflow)`, as `list` and `why` have it
abbrev pub cause_note : Bool → Mode → List ℕ
cause_note overflow (Trapped cause at) = trapped_text overflow cause
cause_note overflow mode = []
