use Rattle.std.proofs.Common.{rules}
use Rattle.rvmc_views.proofs.drawing.pictured.Goals as goal

-- what was drawn, and its text
pub returns-clause-tells : goal.returns-clause-tells
returns-clause-tells c = (
  record {
    drawing = c.in_ok-picture.picture;
    is = search rules;
    allowed = c.in-Ok.ensures.allowed;
    shown = c.in-Ok.ensures.shown;
  },
  search rules,
)
