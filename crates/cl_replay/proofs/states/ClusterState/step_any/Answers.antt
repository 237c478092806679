-- Each kind of step leads where the machine's step leads, or nowhere.
use Rattle.std.proofs.Common.{◌≡◌, ◌≤◌, refl, sym, ap, ◌∙◌, subst, slice_set, ⊎_elim, inl, inr, List}
use Rattle.std.specs.Vec.{with_item, with_items}
use Rattle.std.proofs.lemmas.Result.{on_ok_weaker}
use Rattle.part_box.specs.declared.settled.Settled.{Settled}
use Rattle.cl_state.specs.Room.{rank_of}
use Rattle.cl_state.specs.declared.state.RankState.{RankState}
use Rattle.cl_trace.specs.declared.events.Bare.{Bare}
use Rattle.cl_trace.specs.Traces.{kind_of_bare}
use Rattle.cl_machine.specs.SameSteps.{kind_seen}
use Rattle.cl_replay.specs.declared.states.ClusterState.{ClusterState}
use Rattle.cl_replay.specs.InnerStates.{AreSame}
use Rattle.cl_replay.specs.Turns.{IsFreed, IsReady, IsTake, Readies, Takes}
use Rattle.cl_replay.proofs.ByKind.{IsAt, alone_fault, at_step, call_fault, call_leads, changed_items, freed_leads}
use Rattle.cl_replay.proofs.ByKind.{freed_nowhere}
use Rattle.cl_replay.proofs.ByKind.{matched_err, matched_ok, miss_leads, miss_nowhere, plain_leads, plain_nowhere}
use Rattle.cl_replay.proofs.ByKind.{quiet_fault, quiet_leads, ready_leads, ready_nowhere, take_leads, take_nowhere}
use Rattle.cl_replay.proofs.ByKind.{weaker_err}
use Rattle.cl_replay.proofs.Same.{same_but_rank, same_items}
use Rattle.cl_replay.proofs.states.ClusterState.step_any.Goals as goal
use Rattle.cl_replay.proofs.states.ClusterState.step_any.Goals.{After-kind, In-Bare}

-- ---- what all kinds share

-- the step's rank and hart are there, and its stamp is one
begins : (c : After-kind) → IsAt c.args.self.now c.args.step.now c.index_mut-state.result.now
begins c =
    at_step c.args.self.now c.args.step.now c.from-rank.result c.len.result c.from.result c.len-2.result
    c.index_mut-state.result.now (c.from-rank.ensures ∙ c.rank.ensures) c.len.ensures c.if-rank-len.false
    (subst (λ t. t ≤ 4611686018427387903) c.stamp.ensures c.if-stamp-gt-CLOCK_MAX.false)
    c.index_mut-state.ensures.value (c.from.ensures ∙ c.hart.ensures) c.len-2.ensures c.if-from-len.false

-- the kind of a step that isn't the hub's
bare_kind : (c : In-Bare) (kind : Bare) → c.in-Bare.kind ≡ kind → c.args.step.now.kind ≡ kind_of_bare kind
bare_kind c kind is = sym c.kind.ensures ∙ ap kind_seen c.in-Bare.is ∙ ap kind_of_bare is

-- the state in which the step's rank is another
abbrev only_rank : After-kind → RankState → ClusterState
only_rank c after = record c.args.self.now { ranks = with_item c.args.self.now.ranks c.from-rank.result after }

-- and in which the boxes are others too
abbrev rank_and_boxes : After-kind → RankState → List (List Settled) → ClusterState
rank_and_boxes c after boxes = record (only_rank c after) { boxes = with_items c.args.self.now.boxes boxes }

rank_set : (c : After-kind) (after : RankState)
    → (only_rank c after).ranks.items ≡ slice_set c.args.self.now.ranks.items c.args.step.now.rank after
rank_set c after = ap (λ i. slice_set c.args.self.now.ranks.items i after) (c.from-rank.ensures ∙ c.rank.ensures)

-- where the rank is as it was, so is the state
rank_same : (c : After-kind) (after : RankState) → rank_of after ≡ rank_of c.index_mut-state.result.now
    → AreSame c.args.self.now (only_rank c after)
rank_same c after same =
    same_but_rank c.args.self.now (only_rank c after) c.from-rank.result c.index_mut-state.result.now after
    c.index_mut-state.ensures.value same refl refl refl refl

boxes_same : (c : After-kind) (after : RankState) (boxes : List (List Settled))
    → rank_of after ≡ rank_of c.index_mut-state.result.now → boxes ≡ c.args.self.now.boxes.items
    → AreSame c.args.self.now (rank_and_boxes c after boxes)
boxes_same c after boxes same_rank same =
    same_but_rank c.args.self.now (rank_and_boxes c after boxes) c.from-rank.result c.index_mut-state.result.now after
    c.index_mut-state.ensures.value same_rank refl refl refl (same_items c.args.self.now.boxes boxes same)

-- ---- kind by kind

pub returns-in-Plain-clause-leads : goal.returns-in-Plain-clause-leads
returns-in-Plain-clause-leads c =
    let at = goal.at.returns-in-Plain-clause-leads c in
    let here = begins at.After-kind in
    on_ok_weaker c.plain.result (λ yes.
    plain_leads c.args.self.now c.args.step.now c.index_mut-state.result.now here.there
    (only_rank at.After-kind c.plain.new.state) c.plain.new.state here.hart here.low
    (rank_set at.After-kind c.plain.new.state) refl refl refl (bare_kind at.In-Bare _ c.in-Plain.is)
    yes.0 yes.1) c.plain.ensures.goes

pub returns-in-Plain-clause-fault : goal.returns-in-Plain-clause-fault
returns-in-Plain-clause-fault c =
    let at = goal.at.returns-in-Plain-clause-fault c in
    let here = begins at.After-kind in
    weaker_err c.plain.result _ _ c.plain.ensures.fault
    (alone_fault c.args.self.now c.args.step.now c.index_mut-state.result.now here _
    (plain_nowhere c.args.self.now c.args.step.now c.index_mut-state.result.now here.there
    (bare_kind at.In-Bare _ c.in-Plain.is)))

pub returns-in-Miss-clause-leads : goal.returns-in-Miss-clause-leads
returns-in-Miss-clause-leads c =
    let at = goal.at.returns-in-Miss-clause-leads c in
    let here = begins at.After-kind in
    on_ok_weaker c.miss.result (λ yes.
    miss_leads c.args.self.now c.args.step.now c.index_mut-state.result.now here.there
    (only_rank at.After-kind c.miss.new.state) c.miss.new.state here.hart here.low
    (rank_set at.After-kind c.miss.new.state) refl refl refl (bare_kind at.In-Bare _ c.in-Miss.is)
    yes.0 yes.1) c.miss.ensures.goes

pub returns-in-Miss-clause-fault : goal.returns-in-Miss-clause-fault
returns-in-Miss-clause-fault c =
    let at = goal.at.returns-in-Miss-clause-fault c in
    let here = begins at.After-kind in
    weaker_err c.miss.result _ _ c.miss.ensures.fault
    (alone_fault c.args.self.now c.args.step.now c.index_mut-state.result.now here _
    (miss_nowhere c.args.self.now c.args.step.now c.index_mut-state.result.now here.there
    (bare_kind at.In-Bare _ c.in-Miss.is)))

pub returns-in-Freed-clause-leads : goal.returns-in-Freed-clause-leads
returns-in-Freed-clause-leads c =
    let at = goal.at.returns-in-Freed-clause-leads c in
    let here = begins at.After-kind in
    on_ok_weaker c.freed.result (λ yes.
    freed_leads c.args.self.now c.args.step.now c.index_mut-state.result.now here.there
    (only_rank at.After-kind c.freed.new.state) c.freed.new.state here.hart here.low
    (rank_set at.After-kind c.freed.new.state) refl refl refl (bare_kind at.In-Bare _ c.in-Freed.is)
    (subst (λ xs. IsFreed (rank_of c.index_mut-state.result.now) xs c.args.step.now) c.as_slice.ensures.value yes.0) yes.1) c.freed.ensures.goes

pub returns-in-Freed-clause-fault : goal.returns-in-Freed-clause-fault
returns-in-Freed-clause-fault c =
    let at = goal.at.returns-in-Freed-clause-fault c in
    let here = begins at.After-kind in
    weaker_err c.freed.result _ _ c.freed.ensures.fault
    (alone_fault c.args.self.now c.args.step.now c.index_mut-state.result.now here _
    (λ none. freed_nowhere c.args.self.now c.args.step.now c.index_mut-state.result.now here.there
    (bare_kind at.In-Bare _ c.in-Freed.is)
    (subst (λ xs. IsFreed (rank_of c.index_mut-state.result.now) xs c.args.step.now → ⊥) c.as_slice.ensures.value none)))

pub returns-in-Ready-clause-leads : goal.returns-in-Ready-clause-leads
returns-in-Ready-clause-leads c =
    let at = goal.at.returns-in-Ready-clause-leads c in
    let here = begins at.After-kind in
    let after = c.ready.new.state in
    let boxes = c.ready.new.boxes in
    let old = c.args.self.now in
    on_ok_weaker c.ready.result (λ yes.
    let done = subst (λ xs. Readies (rank_of c.index_mut-state.result.now) xs c.args.step.now (rank_of after) boxes)
    c.as_mut_slice.ensures.value yes in
    ready_leads c.args.self.now c.args.step.now c.index_mut-state.result.now here.there
    (rank_and_boxes at.After-kind after boxes) after here.hart here.low (rank_set at.After-kind after) refl refl
    (bare_kind at.In-Bare _ c.in-Ready.is)
    (subst (λ xs. Readies (rank_of c.index_mut-state.result.now) old.boxes.items c.args.step.now (rank_of after) xs)
    (sym (changed_items old.boxes _ _ boxes done.changes)) done)) c.ready.ensures.goes

pub returns-in-Ready-clause-fault : goal.returns-in-Ready-clause-fault
returns-in-Ready-clause-fault c =
    let at = goal.at.returns-in-Ready-clause-fault c in
    let here = begins at.After-kind in
    weaker_err c.ready.result _ _ c.ready.ensures.fault
    (alone_fault c.args.self.now c.args.step.now c.index_mut-state.result.now here _
    (λ none. ready_nowhere c.args.self.now c.args.step.now c.index_mut-state.result.now here.there
    (bare_kind at.In-Bare _ c.in-Ready.is)
    (subst (λ xs. IsReady (rank_of c.index_mut-state.result.now) xs c.args.step.now → ⊥) c.as_mut_slice.ensures.value none)))

pub returns-in-Take-clause-leads : goal.returns-in-Take-clause-leads
returns-in-Take-clause-leads c =
    let at = goal.at.returns-in-Take-clause-leads c in
    let here = begins at.After-kind in
    let after = c.take.new.state in
    let boxes = c.take.new.boxes in
    let old = c.args.self.now in
    on_ok_weaker c.take.result (λ yes.
    let done = subst (λ xs. Takes (rank_of c.index_mut-state.result.now) xs c.args.step.now (rank_of after) boxes)
    c.as_mut_slice-in-Take.ensures.value yes in
    take_leads c.args.self.now c.args.step.now c.index_mut-state.result.now here.there
    (rank_and_boxes at.After-kind after boxes) after here.hart here.low (rank_set at.After-kind after) refl refl
    (bare_kind at.In-Bare _ c.in-Take.is)
    (subst (λ xs. Takes (rank_of c.index_mut-state.result.now) old.boxes.items c.args.step.now (rank_of after) xs)
    (sym (changed_items old.boxes _ _ boxes done.changes)) done)) c.take.ensures.goes

pub returns-in-Take-clause-fault : goal.returns-in-Take-clause-fault
returns-in-Take-clause-fault c =
    let at = goal.at.returns-in-Take-clause-fault c in
    let here = begins at.After-kind in
    weaker_err c.take.result _ _ c.take.ensures.fault
    (alone_fault c.args.self.now c.args.step.now c.index_mut-state.result.now here _
    (λ none. take_nowhere c.args.self.now c.args.step.now c.index_mut-state.result.now here.there
    (bare_kind at.In-Bare _ c.in-Take.is)
    (subst (λ xs. IsTake (rank_of c.index_mut-state.result.now) xs c.args.step.now → ⊥) c.as_mut_slice-in-Take.ensures.value none)))

pub returns-in-Local-clause-leads : goal.returns-in-Local-clause-leads
returns-in-Local-clause-leads c =
    let at = goal.at.returns-in-Local-clause-leads c in
    let here = begins at.After-kind in
    matched_ok c.quiet.result _ _ c.quiet.ensures.found (λ _ q.
    quiet_leads c.args.self.now c.args.step.now c.index_mut-state.result.now here.there
    (only_rank at.After-kind c.quiet.new.state) c.quiet.new.state here.hart here.low
    (rank_set at.After-kind c.quiet.new.state) refl refl refl c.args.step.now.kind refl q.0 q.1)

pub returns-in-Local-clause-fault : goal.returns-in-Local-clause-fault
returns-in-Local-clause-fault c =
    let at = goal.at.returns-in-Local-clause-fault c in
    matched_err c.quiet.result _ _ _ c.quiet.ensures.found (quiet_fault c.args.self.now c.args.step.now c.index_mut-state.result.now
    (begins at.After-kind)
    (⊎_elim (λ l. inl (bare_kind at.In-Bare _ l))
    (λ rest. ⊎_elim (λ h. inr (inl (bare_kind at.In-Bare _ h))) (λ i. inr (inr (bare_kind at.In-Bare _ i))) rest)
    c.in-Local.is))

pub returns-in-Ok-clause-leads : goal.returns-in-Ok-clause-leads
returns-in-Ok-clause-leads c =
    let at = goal.at.returns-in-Ok-clause-leads c in
    let here = begins at.After-kind in
    let new : ClusterState = record (only_rank at.After-kind c.call.new.state) {
      hub = c.call.new.hub;
      clock = c.stamp-self.result;
    } in
    call_leads c.args.self.now c.args.step.now c.index_mut-state.result.now here.there new
    c.call.new.state here.hart here.low (rank_set at.After-kind c.call.new.state) c.in-Hub.reply.now
    (sym c.kind.ensures ∙ ap kind_seen c.in-Hub.is) c.stamp-self.ensures refl c.in-Ok.ensures.calls

pub returns-in-Err-clause-fault : goal.returns-in-Err-clause-fault
returns-in-Err-clause-fault c =
    call_fault c.args.self.now c.args.step.now c.index_mut-state.result.now
    (begins (goal.at.returns-in-Err-clause-fault c).After-kind) c.in-Hub.reply.now
    (sym c.kind.ensures ∙ ap kind_seen c.in-Hub.is) c.in-Err.fault c.in-Err.ensures.fault

-- ---- where a step wants memory, all is as it was

pub returns-in-Local-clause-same : goal.returns-in-Local-clause-same
returns-in-Local-clause-same c = λ refused.
    rank_same (goal.at.returns-in-Local-clause-same c).After-kind c.quiet.new.state (c.quiet.ensures.same refused)

pub returns-in-Plain-clause-same : goal.returns-in-Plain-clause-same
returns-in-Plain-clause-same c = λ refused.
    rank_same (goal.at.returns-in-Plain-clause-same c).After-kind c.plain.new.state (c.plain.ensures.same refused)

pub returns-in-Miss-clause-same : goal.returns-in-Miss-clause-same
returns-in-Miss-clause-same c = λ refused.
    rank_same (goal.at.returns-in-Miss-clause-same c).After-kind c.miss.new.state (c.miss.ensures.same refused)

pub returns-in-Freed-clause-same : goal.returns-in-Freed-clause-same
returns-in-Freed-clause-same c = λ refused.
    rank_same (goal.at.returns-in-Freed-clause-same c).After-kind c.freed.new.state (c.freed.ensures.same refused)

pub returns-in-Ready-clause-same : goal.returns-in-Ready-clause-same
returns-in-Ready-clause-same c = λ refused.
    boxes_same (goal.at.returns-in-Ready-clause-same c).After-kind c.ready.new.state c.ready.new.boxes
    (c.ready.ensures.same_rank refused) (c.ready.ensures.same_boxes refused ∙ c.as_mut_slice.ensures.value)

pub returns-in-Take-clause-same : goal.returns-in-Take-clause-same
returns-in-Take-clause-same c = λ refused.
    boxes_same (goal.at.returns-in-Take-clause-same c).After-kind c.take.new.state c.take.new.boxes
    (c.take.ensures.same_rank refused) (c.take.ensures.same_boxes refused ∙ c.as_mut_slice-in-Take.ensures.value)

pub returns-in-Err-clause-same : goal.returns-in-Err-clause-same
returns-in-Err-clause-same c = λ refused.
    let at = (goal.at.returns-in-Err-clause-same c).After-kind in
    let new : ClusterState = record (only_rank at c.call.new.state) { hub = c.call.new.hub } in
    same_but_rank c.args.self.now new c.from-rank.result c.index_mut-state.result.now c.call.new.state
    c.index_mut-state.ensures.value (c.in-Err.ensures.same_rank refused) refl (c.in-Err.ensures.same_hub refused) refl refl
