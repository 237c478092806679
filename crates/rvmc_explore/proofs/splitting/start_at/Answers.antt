use Rattle.std.proofs.Common.{refl, subst, sym, ◌∙◌}
use Rattle.cl_explore.specs.Ends.{AreTurnsTo}
use Rattle.rvmc_explore.proofs.splitting.start_at.Goals as goal

pub returns : goal.returns
returns c = record {
  number_is = refl;
  count_is = refl;
  image_is = refl;
  split_is = refl;
  harts_are = c.from_vec-harts.ensures ∙ c.in_ok-from_slice.ensures.items;
  leads = subst (AreTurnsTo c.args.found.now.nodes.items c.args.node) (sym c.from_vec-turns.ensures)
      c.in_ok-turns_to.ensures;
}
