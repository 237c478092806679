use Rattle.std.proofs.Common.{◌∙◌, ap, refl}
use Rattle.cl_state.specs.Room.{rank_of}
use Rattle.rvmc_report.specs.Report.{output_text}
use Rattle.rvmc_inspect.proofs.words.output.Goals as goal

pub returns-clause-does : goal.returns-clause-does
returns-clause-does c = (
  refl,
  rank_of c.in_ok-owner.owner.now,
  c.in_ok-owner.ensures.shown,
  c.in_ok-output_text.ensures ∙ ap (output_text c.args.rank) c.as_slice.ensures.value,
)
