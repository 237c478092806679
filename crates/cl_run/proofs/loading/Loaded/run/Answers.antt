use Rattle.std.proofs.Common.{◌<◌, ◌∙◌, All, List, length, subst, sym}
use Rattle.rv_image_types.specs.Image.{IsImage}
use Rattle.rv_image_types.specs.declared.images.Link.{Link}
use Rattle.cl_arrival_laws.proofs.Runs.{arrived_run}
use Rattle.cl_record.specs.Leaving.{HaveRoom}
use Rattle.cl_record.specs.Records.{IsMergedRun}
use Rattle.cl_run.specs.Setups.{Setup}
use Rattle.cl_run.specs.Runs.{IsOneRun}
use Rattle.cl_run.proofs.Ends.{seated_at_start, under_way_at_start, whole_run}
use Rattle.cl_run.proofs.Merged.{one_merged}
use Rattle.cl_run.proofs.loading.Loaded.run.Goals as goal

pub run-requires-clause-joined : goal.run-requires-clause-joined
run-requires-clause-joined c =
    let l = c.self.inside in
    let loaded = c.self.invariant.1 in
    (seated_at_start l.image.now l.plans.now l.order.now c.self.invariant.0 l.driver loaded.loaded).joined

pub run-requires-clause-there : goal.run-requires-clause-there
run-requires-clause-there c =
    let l = c.self.inside in
    let are = c.self.invariant.0 in
    let loaded = c.self.invariant.1 in
    let count = sym loaded.loaded.count_is ∙ sym l.driver.seats.ok.0 in
    subst (λ n. All (λ r. r < n) l.order.now) count are.is_order.there

pub into_record-requires-clause-joined : goal.into_record-requires-clause-joined
into_record-requires-clause-joined c =
    let l = c.self.inside in
    let are = c.self.invariant.0 in
    let first = seated_at_start l.image.now l.plans.now l.order.now are l.driver c.self.invariant.1.loaded in
    (c.run.ensures.seated l.plans.now first).joined

pub returns-clause-run : goal.returns-clause-run
returns-clause-run c =
    let l = c.self.inside in
    let are = c.self.invariant.0 in
    let loaded = c.self.invariant.1 in
    let start = under_way_at_start l.image.now l.plans.now l.order.now are l.driver loaded.loaded in
    let first = seated_at_start l.image.now l.plans.now l.order.now are l.driver loaded.loaded in
    let end = c.run.ensures.goes l.image.now l.plans.now first start in
    let seated = c.run.ensures.seated l.plans.now first in
    subst (λ (s : Setup). IsOneRun s.image s.plans s.order c.into_record.result) c.self.view_is
    (whole_run l.image.now l.plans.now l.order.now are c.run.new.self c.into_record.result seated c.into_record.ensures
    end.0 end.1 c.run.ensures.done)

pub into_record-requires-clause-room : goal.into_record-requires-clause-room
into_record-requires-clause-room c =
    let l = c.self.inside in
    let are = c.self.invariant.0 in
    let loaded = c.self.invariant.1 in
    let start = under_way_at_start l.image.now l.plans.now l.order.now are l.driver loaded.loaded in
    let first = seated_at_start l.image.now l.plans.now l.order.now are l.driver loaded.loaded in
    let end = c.run.ensures.goes l.image.now l.plans.now first start in
    let seated = c.run.ensures.seated l.plans.now first in
    let count = seated.one_each ∙ are.planned.one_each in
    subst (λ n. HaveRoom n (length c.run.new.self.hub.links) l.lists) (sym count)
    (subst (λ (ls : List Link). HaveRoom l.image.now.ranks (length ls) l.lists) (sym end.1.links_are) loaded.room)

pub returns-clause-merged : goal.returns-clause-merged
returns-clause-merged c =
    let l = c.self.inside in
    let are = c.self.invariant.0 in
    let loaded = c.self.invariant.1 in
    let start = under_way_at_start l.image.now l.plans.now l.order.now are l.driver loaded.loaded in
    let first = seated_at_start l.image.now l.plans.now l.order.now are l.driver loaded.loaded in
    let end = c.run.ensures.goes l.image.now l.plans.now first start in
    let seated = c.run.ensures.seated l.plans.now first in
    subst (λ (s : Setup). IsMergedRun s.image c.into_record.result) c.self.view_is
    (one_merged l.image.now l.plans.now l.order.now c.into_record.result c.parts-parts.ensures.limits
    (whole_run l.image.now l.plans.now l.order.now are c.run.new.self c.into_record.result seated c.into_record.ensures
    end.0 end.1 c.run.ensures.done))

pub returns-clause-arrived : goal.returns-clause-arrived
returns-clause-arrived c =
    arrived_run _ c.into_record.result
    (subst (λ (s : Setup). IsImage s.image) c.self.view_is c.parts-parts.ensures.limits)
    (returns-clause-merged c)
