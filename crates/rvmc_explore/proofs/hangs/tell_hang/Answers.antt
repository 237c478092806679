use Rattle.std.proofs.Common.{List, Some, subst}
use Rattle.cl_explore.specs.Ends.{findings}
use Rattle.cl_explore.specs.declared.kept.KeptNode.{KeptNode}
use Rattle.rvmc_explore.specs.Hanging.{IsHangBody, TellsHangingIn}
use Rattle.rvmc_explore.specs.InnerOutcomes.{AddsStuck}
use Rattle.rvmc_explore.proofs.hangs.tell_hang.Goals as goal

pub returns : goal.returns
returns c =
    let found = c.args.found.now in
    let node = c.in-Some.node in
    let body = c.in_ok-body.body.items in
    let set = c.resting_at-resting.result in
    let known = found.needs in
    let is : TellsHangingIn (findings found) known c.args.unending (Some node) =
    subst (TellsHangingIn (findings found) known c.args.unending) c.in-Some.is c.in_ok-node.ensures in
    record {
      node = node;
      nobody = is.0;
      ends = is.1;
      inside = is.2;
      hangs = is.3;
      set = set;
      noted = c.resting_at-resting.ensures;
      body = body;
      spelled = subst (λ (kept : List KeptNode). IsHangBody c.args.image.now kept node set body) c.as_slice-nodes.ensures.value
          c.in_ok-body.ensures;
      adds = subst (λ (kept : List KeptNode). AddsStuck kept c.args.told.now.items node body c.add_stuck.new.told.items)
          c.as_slice-nodes.ensures.value c.in_ok-add_stuck.ensures;
    }
