use Rattle.std.proofs.Common.{Some, arith, inr, slice_get, subst, ◌≡◌, ◌∙◌}
use Rattle.std.proofs.lemmas.Option.{slice_get_read}
use Rattle.std.proofs.lemmas.Result.{on_ok_weaker}
use Rattle.cl_moves.specs.Cycles.{IsShown}
use Rattle.cl_moves.proofs.Asking.{if_ok_on}
use Rattle.cl_moves.proofs.standing.Standing.is_back.Goals as goal

pub returns : goal.returns
returns c =
    let standing = c.args.self.now in
    let had = standing.had in
    let ranks = standing.cluster.ranks in
    let own = c.index-own.result.now in
    let count = c.index-had.result.now in
    let shown : IsShown c.args.order.now standing c.args.rank = record {
      own = own;
      had = count;
      there = subst (λ r. slice_get ranks.items r ≡ Some own) c.from-place.ensures
          (slice_get_read ranks.items c.len-else-place-len.result c.from-place.result own (c.len-else-place-len.ensures ∙ ranks.ok.0)
          c.if-place-len-2.false c.index-own.ensures);
      turns = subst (λ r. slice_get had.items r ≡ Some count) c.from-place.ensures
          (slice_get_read had.items c.len.result c.from-place.result count (c.len.ensures ∙ had.ok.0) c.if-place-len.false
          c.index-had.ensures);
      first = grind arith;
    } in
    record {
      back = if_ok_on c.is_back.result (λ back holds is. (shown, holds is)) c.is_back.ensures.back;
      kept = on_ok_weaker c.is_back.result (λ keeps. inr (shown, keeps)) c.is_back.ensures.kept;
    }
