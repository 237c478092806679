use Rattle.std.proofs.Common.{◌≡◌, Some, ap, arith, map, option_map, slice_get, subst, sym, ◌∙◌}
use Rattle.std.proofs.lemmas.List.{length-map}
use Rattle.std.proofs.lemmas.Option.{same_Some, slice_get-map, slice_get_within}
use Rattle.cl_state.specs.Rank.{Rank}
use Rattle.cl_state.specs.Room.{rank_of}
use Rattle.cl_order_laws.specs.Alike.{AlikeRanks}
use Rattle.cl_alike.proofs.Lists.{below_more, read_at}
use Rattle.cl_explore.proofs.Lists.{read_of}
use Rattle.cl_explore.proofs.Alike.{each_of}
use Rattle.cl_explore.proofs.likeness.are_alike_ranks.Goals as goal

pub returns : goal.returns
returns c = λ naming listed its sites.
    let ranks = map rank_of c.args.ranks.now in
    let many = length-map c.args.ranks.now rank_of in
    each_of (AlikeRanks naming) ranks c.args.kept.now
    (omega (arith, many, c.if-ranks-kept.false))
    (λ i x y at there.
    let inside = slice_get_within ranks i x at in
    c.loop-rank.invariant naming listed sites i (omega (arith, inside, many, c.loop-rank-test.false)) x y at there)

pub loop-rank-preserved : goal.loop-rank-preserved
loop-rank-preserved c = λ naming listed sites.
    below_more (AlikeRanks naming) (map rank_of c.args.ranks.now) c.args.kept.now c.loop-rank.rank
    (c.loop-rank.invariant naming listed sites)
    (λ x y at there.
    let n = c.loop-rank.rank in
    let mine = c.index-ranks-rank.result in
    let theirs = c.index-kept-rank.result in
    let inside = read_of c.args.ranks.now n mine c.loop-rank-test.true c.index-ranks-rank.is in
    let mapped : slice_get (map rank_of c.args.ranks.now) n ≡ Some (rank_of mine) =
    slice_get-map rank_of c.args.ranks.now n ∙ ap (option_map rank_of) inside in
    let kept : theirs ≡ y = c.index-kept-rank.is ∙ read_at c.args.kept.now n y theirs there in
    let site = sites n (rank_of mine) theirs mapped (there ∙ ap (λ z. Some z) (sym kept)) in
    let lent : c.rank.result.now ≡ theirs = c.rank.ensures in
    subst (λ z. AlikeRanks naming x z) (lent ∙ kept)
    (subst (λ z. AlikeRanks naming z c.rank.result.now) (same_Some (rank_of mine) x (sym mapped ∙ at))
    (c.is_alike_rank.ensures naming listed c.if-not-is_alike_rank.false
    (subst (λ (z : Rank). z.site ≡ (rank_of mine).site) (sym lent) site))))
