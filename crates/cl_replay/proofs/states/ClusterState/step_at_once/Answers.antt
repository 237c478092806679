use Rattle.std.proofs.Common.{arith, refl, ap, ◌∙◌, slice_set}
use Rattle.std.specs.Vec.{with_item}
use Rattle.cl_state.specs.Room.{rank_of}
use Rattle.cl_replay.specs.declared.states.ClusterState.{ClusterState}
use Rattle.cl_replay.proofs.ByKind.{at_step, plain_leads}
use Rattle.cl_replay.proofs.Same.{same_but_rank}
use Rattle.cl_replay.proofs.states.ClusterState.step_at_once.Goals as goal

pub returns-clause-leads : goal.returns-clause-leads
returns-clause-leads c = λ done.
    let old = c.args.self.now in
    let e = c.args.step.now in
    let s = c.index_mut-state.result.now in
    let rank = c.from-rank.ensures ∙ c.rank.ensures in
    let here = at_step old e c.from-rank.result c.len.result c.from.result c.len-2.result s rank c.len.ensures
    c.if-rank-len.false (omega (arith, c.plain_at_once.ensures.low done)) c.index_mut-state.ensures.value (c.from.ensures ∙ c.hart.ensures) c.len-2.ensures
    c.if-from-len.false in
    let new : ClusterState = record {
      ranks = with_item old.ranks c.from-rank.result c.plain_at_once.new.state;
      hub = old.hub;
      clock = old.clock;
      boxes = old.boxes;
    } in
    let ranks = ap (λ i. slice_set old.ranks.items i c.plain_at_once.new.state) rank in
    let goes = c.plain_at_once.ensures.goes done in
    plain_leads old e s here.there new c.plain_at_once.new.state here.hart here.low ranks refl refl refl
    (c.is_plain_step.ensures c.if-not-is_plain_step.false) goes.0 goes.1

pub returns-clause-same : goal.returns-clause-same
returns-clause-same c = λ none.
    let old = c.args.self.now in
    let new : ClusterState = record {
      ranks = with_item old.ranks c.from-rank.result c.plain_at_once.new.state;
      hub = old.hub;
      clock = old.clock;
      boxes = old.boxes;
    } in
    same_but_rank old new c.from-rank.result c.index_mut-state.result.now c.plain_at_once.new.state
    c.index_mut-state.ensures.value (ap rank_of (c.plain_at_once.ensures.none none)) refl refl refl refl
