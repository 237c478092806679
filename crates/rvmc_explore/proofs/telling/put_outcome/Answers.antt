use Rattle.std.proofs.Common.{List, ℕ, ◌++◌, ◌∙◌, ap}
use Rattle.rvmc_explore.proofs.telling.put_outcome.Goals as goal

pub returns : goal.returns
returns c = (
  c.put_head.new.text.items,
  c.in_ok-put_head.ensures,
  c.in_ok-extend_from_slice.ensures.items
      ∙ ap (λ (bytes : List ℕ). c.put_head.new.text.items ++ bytes) c.as_slice.ensures.value,
)
