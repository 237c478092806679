-- Ranks that have not stopped, of a state and of the cluster that it is.
use Rattle.std.proofs.Common.{◌≡◌, ◌∙◌, ℕ, refl, sym, ap, Bool, false, List, map, Option, Some, None}
use Rattle.std.specs.Prelude.{option_map}
use Rattle.std.specs.List.{slice_get}
use Rattle.std.proofs.lemmas.Option.{slice_get-map}
use Rattle.cl_state.specs.Rank.{Rank}
use Rattle.cl_state.specs.Room.{rank_of}
use Rattle.cl_state.specs.declared.state.RankState.{RankState}
use Rattle.rvmc_inspect.specs.Why.{is_live, is_live_at}

abbrev pub is_live_in : Option Rank → Bool
is_live_in None = false
is_live_in (Some rank) = is_live rank

live_of_state : (own : Option RankState) → is_live_at own ≡ is_live_in (option_map rank_of own)
live_of_state None = refl
live_of_state (Some own) = refl

-- of a rank of these states, which are these ranks
pub live_over : (states : List RankState) (ranks : List Rank) → ranks ≡ map rank_of states → (r : ℕ)
    → is_live_at (slice_get states r) ≡ is_live_in (slice_get ranks r)
live_over states ranks are r =
    live_of_state (slice_get states r) ∙ ap is_live_in (sym (slice_get-map rank_of states r))
    ∙ ap (λ (rs : List Rank). is_live_in (slice_get rs r)) (sym are)
