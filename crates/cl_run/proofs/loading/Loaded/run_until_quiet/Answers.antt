use Rattle.std.proofs.Common.{◌<◌, ◌∙◌, ◌*◌, All, List, length, subst, sym}
use Rattle.rv_image_types.specs.Image.{IsImage}
use Rattle.rv_image_types.specs.declared.images.Link.{Link}
use Rattle.cl_arrival_laws.proofs.Runs.{arrived_run}
use Rattle.cl_record.specs.Leaving.{HaveRoom}
use Rattle.cl_run.specs.Cuts.{IsEndedRun}
use Rattle.cl_run.specs.Runs.{IsOneRun}
use Rattle.cl_run.specs.Setups.{Setup}
use Rattle.cl_run.proofs.Ends.{ended_run, seated_at_start, under_way_at_start, whole_run}
use Rattle.cl_run.proofs.Merged.{one_merged}
use Rattle.cl_run.proofs.loading.Loaded.run_until_quiet.Goals as goal

pub run_until_quiet-quiet-requires-clause-joined : goal.run_until_quiet-quiet-requires-clause-joined
run_until_quiet-quiet-requires-clause-joined c =
    let l = c.self.inside in
    (seated_at_start l.image.now l.plans.now l.order.now c.self.invariant.0 l.driver c.self.invariant.1.loaded).joined

pub run_until_quiet-quiet-requires-clause-there : goal.run_until_quiet-quiet-requires-clause-there
run_until_quiet-quiet-requires-clause-there c =
    let l = c.self.inside in
    let count = sym c.self.invariant.1.loaded.count_is ∙ sym l.driver.seats.ok.0 in
    subst (λ n. All (λ r. r < n) l.order.now) count c.self.invariant.0.is_order.there

pub into_record-left-requires-clause-joined : goal.into_record-left-requires-clause-joined
into_record-left-requires-clause-joined c = c.run_until_quiet-quiet.ensures.joined

pub into_record-left-requires-clause-room : goal.into_record-left-requires-clause-room
into_record-left-requires-clause-room c =
    let l = c.self.inside in
    let are = c.self.invariant.0 in
    let loaded = c.self.invariant.1 in
    let start = under_way_at_start l.image.now l.plans.now l.order.now are l.driver loaded.loaded in
    let first = seated_at_start l.image.now l.plans.now l.order.now are l.driver loaded.loaded in
    let ran = c.run_until_quiet-quiet in
    let end = ran.ensures.goes l.image.now l.plans.now first start in
    let seated = ran.ensures.seated l.plans.now first in
    let count = seated.one_each ∙ are.planned.one_each in
    subst (λ n. HaveRoom n (length ran.new.self.hub.links) l.lists) (sym count)
    (subst (λ (ls : List Link). HaveRoom l.image.now.ranks (length ls) l.lists) (sym end.1.links_are) loaded.room)

pub returns-clause-run : goal.returns-clause-run
returns-clause-run c =
    let l = c.self.inside in
    let are = c.self.invariant.0 in
    let loaded = c.self.invariant.1 in
    let start = under_way_at_start l.image.now l.plans.now l.order.now are l.driver loaded.loaded in
    let first = seated_at_start l.image.now l.plans.now l.order.now are l.driver loaded.loaded in
    let ran = c.run_until_quiet-quiet in
    let end = ran.ensures.goes l.image.now l.plans.now first start in
    let seated = ran.ensures.seated l.plans.now first in
    subst (λ (s : Setup). IsEndedRun s.image s.plans s.order c.into_record-left.result) c.self.view_is
    (ended_run l.image.now l.plans.now l.order.now are ran.new.self c.into_record-left.result seated
    c.into_record-left.ensures (end.0 * length l.order.now) end.1)

pub returns-clause-whole : goal.returns-clause-whole
returns-clause-whole c = λ on.
    let l = c.self.inside in
    let are = c.self.invariant.0 in
    let loaded = c.self.invariant.1 in
    let start = under_way_at_start l.image.now l.plans.now l.order.now are l.driver loaded.loaded in
    let first = seated_at_start l.image.now l.plans.now l.order.now are l.driver loaded.loaded in
    let ran = c.run_until_quiet-quiet in
    let end = ran.ensures.goes l.image.now l.plans.now first start in
    let seated = ran.ensures.seated l.plans.now first in
    subst (λ (s : Setup). IsOneRun s.image s.plans s.order c.into_record-left.result) c.self.view_is
    (whole_run l.image.now l.plans.now l.order.now are ran.new.self c.into_record-left.result seated
    c.into_record-left.ensures (end.0 * length l.order.now) end.1 (ran.ensures.done on))

pub returns-clause-merged : goal.returns-clause-merged
returns-clause-merged c =
    let run = returns-clause-run c in
    one_merged c.args.self.image run.cuts c.args.self.order c.into_record-left.result
    (subst (λ (s : Setup). IsImage s.image) c.self.view_is c.parts-parts.ensures.limits) run.run

pub returns-clause-arrived : goal.returns-clause-arrived
returns-clause-arrived c =
    arrived_run _ c.into_record-left.result
    (subst (λ (s : Setup). IsImage s.image) c.self.view_is c.parts-parts.ensures.limits)
    (returns-clause-merged c)
