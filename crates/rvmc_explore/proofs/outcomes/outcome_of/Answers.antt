use Rattle.std.proofs.Common.{List, refl, subst, sym, ◌∙◌}
use Rattle.cl_machine.specs.declared.steps.Step.{Step}
use Rattle.rvmc_explore.specs.InnerOutcomes.{LeadThere}
use Rattle.rvmc_explore.proofs.outcomes.outcome_of.Goals as goal

pub returns : goal.returns
returns c =
    let same = c.in_ok-way.ensures ∙ c.as_slice.ensures.value in
    record {
      leads = subst (λ (way : List Step). LeadThere c.args.nodes.now c.args.node way) (sym same) c.in_ok-steps.ensures;
      body_is = refl;
      ends_are = refl;
      need_is = refl;
    }
