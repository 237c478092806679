use Rattle.std.proofs.Common.{◌≡◌, ◌∙◌, ◌%◌, Some, ap, arith, get_or, inl, inr, length, slice_get, subst, sym}
use Rattle.std.proofs.lemmas.Bool.{cases_eq}
use Rattle.std.proofs.lemmas.Option.{get_or_from_slice_get, slice_get_within}
use Rattle.cl_deeds.specs.Orders.{in_slot}
use Rattle.cl_state.specs.Room.{rank_of}
use Rattle.cl_state.specs.declared.state.RankState.{RankState}
use Rattle.cl_order_laws.specs.Closed.{IsDone}
use Rattle.cl_alike.proofs.Lists.{read_at}
use Rattle.cl_explore.proofs.search.are_same_places.Goals as goal

pub loop-rank-preserved : goal.loop-rank-preserved
loop-rank-preserved c = λ r low n m here there. elim (cases_eq c.loop-rank.rank r) [
  | inr other ↦ c.loop-rank.invariant r (omega (arith, low, other)) n m here there
  | inl same ↦
      let order = c.args.order.now in
      let at = c.loop-rank.rank in
      let had = c.args.standing.now.had in
      let mine : c.index.result.now ≡ n =
      c.index.ensures ∙ read_at had.items at n c.index.result.now (subst (λ k. slice_get had.items k ≡ Some n) (sym same) here) in
      let theirs : get_or c.args.other.now at 0 ≡ m =
      get_or_from_slice_get c.args.other.now at m 0 (subst (λ k. slice_get c.args.other.now k ≡ Some m) (sym same) there) in
      elim (c.is_same_place.ensures c.if-not-is_same_place.false) [
        | inl place ↦ inl (ap (λ k. k % length order) (sym mine) ∙ (place ∙ ap (λ k. k % length order) theirs))
        | inr done ↦ inr (λ own is.
            let ranks = c.args.standing.now.cluster.ranks in
            let inside = slice_get_within ranks.items r own is in
            let lent : c.as_slice-ranks.result.now ≡ ranks.items = c.as_slice-ranks.ensures.value in
            let there : slice_get c.as_slice-ranks.result.now at ≡ Some own =
            subst (λ rs. slice_get rs at ≡ Some own) (sym lent) (subst (λ k. slice_get ranks.items k ≡ Some own) (sym same) is) in
            let own_is : c.index-ranks-rank.result ≡ own =
            c.index-ranks-rank.is ∙ read_at c.as_slice-ranks.result.now at own c.index-ranks-rank.result there in
            subst (λ (o : RankState). IsDone (in_slot order) (rank_of o)) own_is done)
      ]
]

pub returns : goal.returns
returns c = λ its r n m here there.
    let inside = slice_get_within c.args.other.now r m there in
    c.loop-rank.invariant r (omega (arith, inside, c.loop-rank-test.false)) n m here there
