use Rattle.std.proofs.Common.{◌∙◌, sym, subst, length}
use Rattle.cl_record.specs.Leaving.{HaveLeft}
use Rattle.cl_record.proofs.Elements.{all_yielded}
use Rattle.cl_record.proofs.Sides.{fewer, seam_more}
use Rattle.cl_threads.proofs.leaving.leave.Goals as goal

pub add-requires : goal.add-requires
add-requires c =
    let l = c.loop-one in (
      length c.args.done.items,
      length c.args.hub.links,
      l.yielded,
      fewer l.yielded _ c.args.done.items _ _ l.invariant.rest c.in-Some.ensures.steps.0,
      l.invariant.left,
    )

pub loop-one-preserved : goal.loop-one-preserved
loop-one-preserved c =
    let l = c.loop-one in
    record {
      rest = seam_more l.yielded _ c.args.done.items c.in-Some.one _ l.invariant.rest c.in-Some.ensures.steps.0;
      left = c.add.ensures (length c.args.done.items) (length c.args.hub.links) l.yielded l.invariant.left;
    }

pub close-requires : goal.close-requires
close-requires c =
    let l = c.loop-one in
    let rest = l.one-iterator.rest in
    let all = all_yielded l.yielded rest.items _ l.invariant.rest (sym rest.ok.0 ∙ c.in-None.ensures.steps.0) in (
      length c.args.done.items,
      c.args.done.items,
      subst (λ xs. HaveLeft (length c.args.done.items) (length c.args.hub.links) xs l.lists) all l.invariant.left,
      c.requires.settle,
    )

pub returns : goal.returns
returns c =
    let l = c.loop-one in
    let rest = l.one-iterator.rest in
    let all = all_yielded l.yielded rest.items _ l.invariant.rest (sym rest.ok.0 ∙ c.in-None.ensures.steps.0) in
    c.close.ensures (length c.args.done.items) c.args.done.items
    (subst (λ xs. HaveLeft (length c.args.done.items) (length c.args.hub.links) xs l.lists) all l.invariant.left)
