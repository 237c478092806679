use Rattle.std.proofs.Common.{Bool, IfSome, List, map, subst, sym, ◌∙◌}
use Rattle.cl_order_laws.specs.Alike.{AlikeRanks, AreEach}
use Rattle.cl_state.specs.Room.{rank_of}
use Rattle.cl_contests.specs.declared.patterns.AskedBy.{AskedBy}
use Rattle.cl_explore.specs.How.{how_of}
use Rattle.cl_alike.specs.Boxes.{AreAlikeLinks}
use Rattle.cl_explore.specs.Likeness.{AreNamedIn, HaveSameSites}
use Rattle.cl_explore.proofs.Alike.{standing_alike}
use Rattle.cl_explore.proofs.likeness.is_alike.Goals as goal
use Rattle.cl_explore.proofs.likeness.is_alike.Goals.{then-are_alike_boxes, else-are_alike_boxes}

pub returns : goal.returns
returns c = λ its may_wait asked. elim c.if-are_alike_boxes.branch [
  | then-are_alike_boxes w ↦
      let names = c.in-Some.names in
      let kept = c.args.kept.now in
      let standing = c.args.standing.now in
      standing_alike (how_of c.args.way may_wait asked) standing kept names
      (subst (λ o. IfSome o (λ found. (waits : Bool) (patterns : List AskedBy)
      → AreNamedIn (how_of c.args.way waits patterns) found standing.whole kept.whole)) c.in-Some.is c.in_ok-names.ensures
      may_wait asked)
      (subst (λ boxes. AreAlikeLinks boxes kept.cluster.boxes) c.as_slice-boxes.ensures.value
      (subst (λ boxes. AreAlikeLinks c.as_slice-boxes.result.now boxes) c.boxes.ensures
      (c.are_alike_boxes.ensures w.if-are_alike_boxes.true)))
      (λ naming listed.
      subst (λ ranks. HaveSameSites (map rank_of ranks) kept.cluster.ranks
      → AreEach (AlikeRanks naming) (map rank_of ranks) kept.cluster.ranks) w.as_slice.ensures.value
      (subst (λ ranks. HaveSameSites (map rank_of w.as_slice.result.now) ranks
      → AreEach (AlikeRanks naming) (map rank_of w.as_slice.result.now) ranks) w.ranks.ensures
      (w.are_alike_ranks.ensures naming listed (sym w.result-is ∙ its))))
  | else-are_alike_boxes w ↦ absurd (let v = w.result-is in cc)
]
