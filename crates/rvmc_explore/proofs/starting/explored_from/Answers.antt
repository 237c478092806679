use Rattle.std.proofs.Common.{List, ℕ, ◌++◌, ◌∙◌, ap, false, refl, subst, sym}
use Rattle.cl_explore.specs.Ends.{ExploredFrom, findings}
use Rattle.rvmc_starts.specs.Parts.{part_text}
use Rattle.rvmc_starts.specs.declared.parts.Part.{Part}
use Rattle.rvmc_explore.specs.InnerOutcomes.{AreHeard}
use Rattle.rvmc_explore.specs.Outcomes.{AreTold}
use Rattle.rvmc_explore.specs.Starting.{AreEndsTold}
use Rattle.rvmc_explore.specs.Telling.{findings_status}
use Rattle.rvmc_explore.proofs.Endless.{says_none_stuck}
use Rattle.rvmc_explore.proofs.Listed.{within}
use Rattle.rvmc_explore.proofs.starting.explored_from.Goals as goal

pub tell-requires-clause-explored : goal.tell-requires-clause-explored
tell-requires-clause-explored g c =
    let behind = c.in_ok-found.ensures.ends in (
      behind.start,
      subst (λ order. ExploredFrom c.args.image.now order behind.start (findings c.in_ok-found.found))
          (sym c.as_slice-order.ensures) behind.explored,
    )

pub tell-requires-clause-heard : goal.tell-requires-clause-heard
tell-requires-clause-heard g c =
    subst (λ order. AreHeard order c.args.image.now c.searched.new.hearer.told.items) (sym c.as_slice-order.ensures)
    c.searched.ensures.heard

pub tell-requires-clause-within : goal.tell-requires-clause-within
tell-requires-clause-within g c =
    let behind = c.in_ok-found.ensures.ends in
    within c.args.image.now c.args.start.now.harts behind.start (findings c.in_ok-found.found)
    c.parts-parts.ensures.limits behind.explored

pub returns-clause-told : goal.returns-clause-told
returns-clause-told g c =
    let found = c.in_ok-found.found in
    let start = c.args.start.now in
    let behind = c.in_ok-found.ensures.ends in
    let told = c.in_ok-told.told.items in
    let part : Part =
    record {
      number = start.number;
      count = start.count;
      split = start.split;
      image = start.image;
      harts = c.from_vec.result;
      ends = c.from_vec-2.result;
      states = c.len.result;
      left = found.left;
      status = c.search_status-status.result;
      unending = c.in_ok-unending.unending;
    } in
    record {
      told = told;
      listed = record {
        found = findings found;
        known = c.in_ok-found.ensures.known;
        behind = c.in_ok-found.ensures.ends;
        bounded = c.in_ok-found.ensures.most;
        are = subst (λ order. AreTold order c.args.image.now (findings found) told) c.as_slice-order.ensures
            c.in_ok-told.ensures.told;
        no_need = c.in_ok-told.ensures.needs ∙ c.searched.ensures.no_need;
      };
      part = part;
      of = record {
        number_is = refl;
        count_is = refl;
        split_is = refl;
        image_is = refl;
        harts_are = c.from_vec.ensures ∙ (c.in_ok-from_slice.ensures.items ∙ c.as_slice-order.ensures);
        states_are = c.len.ensures ∙ found.nodes.ok.0;
        left_are = refl;
      };
      ends = subst (AreEndsTold told) (sym c.from_vec-2.ensures)
          (subst (λ os. AreEndsTold os c.in_ok-ends.ends.items) c.as_slice.ensures.value c.in_ok-ends.ensures);
      unending_is = c.in_ok-unending.ensures.says c.args.image.now start.harts behind.start
          (behind.steps, ((behind.ordered).way).run) behind.explored;
      none_stuck = says_none_stuck c.args.image.now start.harts behind.start (findings found)
          c.parts-parts.ensures.limits behind.explored;
      status_is = c.search_status-status.ensures
          ∙ (ap (λ order. findings_status order (findings found) found.needs false c.in_ok-unending.unending)
          c.as_slice-order.ensures
          ∙ ap (λ known. findings_status start.harts (findings found) known false c.in_ok-unending.unending)
          c.in_ok-found.ensures.unsought);
      status_told = refl;
      spelled = c.in_ok-put_part.ensures ∙ ap (λ (old : List ℕ). old ++ part_text part) c.new-text.ensures.items;
    }
