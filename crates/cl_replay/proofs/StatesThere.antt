-- The states of the ranks that a cluster has.
use Rattle.std.specs.Prelude.{ℕ, ◌≡◌, List, Option, None, Some, map, option_map, slice_get}
use Rattle.std.proofs.Common.{refl, sym, ap, ◌∙◌}
use Rattle.std.proofs.lemmas.Option.{same_Some, slice_get-map}
use Rattle.cl_state.specs.Rank.{Rank}
use Rattle.cl_state.specs.Room.{rank_of}
use Rattle.cl_state.specs.declared.state.RankState.{RankState}

-- the state of a rank that a cluster has
module _ (ranks : List Rank) (states : List RankState) (are : ranks ≡ map rank_of states) (r : ℕ) (rank : Rank)
    (there : slice_get ranks r ≡ Some rank) where
  pub state_there : (s : RankState) × (slice_get states r ≡ Some s) × (rank_of s ≡ rank)
  state_there =
      go (slice_get states r) refl (sym (slice_get-map rank_of states r) ∙ sym (ap (λ rs. slice_get rs r) are) ∙ there)
    where
      go : (o : Option RankState) → slice_get states r ≡ o → option_map rank_of o ≡ Some rank
          → (s : RankState) × (slice_get states r ≡ Some s) × (rank_of s ≡ rank)
      go None is same = absurd (cc)
      go (Some s) is same = (s, is, same_Some (rank_of s) rank same)
