use Rattle.std.proofs.Common.{◌≡◌, Some, ap, refl, length, map, slice_get, subst, sym, ◌∙◌, ◌<◌}
use Rattle.std.proofs.lemmas.Option.{same_Some, slice_get_read}
use Rattle.std.specs.Prelude.{slice_set}
use Rattle.cl_state.specs.Room.{rank_of}
use Rattle.cl_replay.specs.Kept.{RanksAt}
use Rattle.cl_replay.proofs.kept.KeptRanks.restore.Goals as goal

pub returns-clause-restored : goal.returns-clause-restored
returns-clause-restored c =
    let kept = c.self.inside.ranks.items in
    let old = c.args.state.now.ranks.items in
    let ranks_are : c.args.self.now.ranks ≡ kept = sym (ap (λ (k : RanksAt). k.ranks) c.self.view_is) in
    let inside : c.args.rank < length kept = subst (λ rs. c.args.rank < length rs) ranks_are c.requires.here in
    let there = slice_get_read kept (length kept) c.args.rank c.index.result.now refl inside c.index.ensures in
    record {
      ranks = λ own at.
          let same : c.index.result.now ≡ own =
          same_Some c.index.result.now own (sym there ∙ subst (λ rs. slice_get rs c.args.rank ≡ Some own) ranks_are at) in
          c.in_ok-put_back.ensures.ranks
          ∙ ap (λ r. slice_set (map rank_of old) c.args.rank r) (c.rank.ensures ∙ same);
      hub = search;
      clock = search;
      boxes = c.in_ok-boxes.ensures.items ∙ (c.as_slice.ensures.value ∙ ap (λ (k : RanksAt). k.boxes) c.self.view_is);
    }
