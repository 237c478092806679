-- The rank of this number is kept beside the earlier ones, which are there as often as they were.
use Rattle.std.proofs.Common.{◌≡◌, ◌<◌, ap, refl, length, subst, sym, ◌∙◌}
use Rattle.std.proofs.lemmas.Option.{same_Some, slice_get_read}
use Rattle.cl_replay.specs.Kept.{RanksAt}
use Rattle.cl_replay.proofs.states.ClusterState.keep_beside.Goals as goal

pub index_mut-requires : goal.index_mut-requires
index_mut-requires c =
    subst (λ n. c.args.rank < n) (sym c.in_ok-ranks.ranks.ok.0)
    (subst (λ rs. c.args.rank < length rs)
    (sym (c.in_ok-ranks.ensures ∙ (c.as_slice.ensures.value ∙ ap (λ (k : RanksAt). k.ranks) c.earlier.view_is)))
    c.requires.there)

pub returns : goal.returns
returns c =
    let old = c.args.self.now.ranks.items in
    let there = slice_get_read old (length old) c.args.rank c.index.result.now refl c.requires.here c.index.ensures in
    let shared = c.in_ok-ranks.ensures ∙ (c.as_slice.ensures.value ∙ ap (λ (k : RanksAt). k.ranks) c.earlier.view_is) in
    record {
      ranks = λ own at.
          let same : c.index.result.now ≡ own = same_Some c.index.result.now own (sym there ∙ at) in
          cc (c.in_ok-ranks-2.ensures, shared, same);
      clock = refl;
      boxes = c.in_ok-from_slice.ensures.items ∙ c.as_slice-2.ensures.value;
    }
