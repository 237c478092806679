use Rattle.std.proofs.Common.{◌≡◌, ◌-◌, take}
use Rattle.std.specs.List.{sum_by}
use Rattle.rvmc_views.proofs.paging.left.Given as goal

-- less what those so far have
abbrev pub invariant-loop-text : goal.invariant-loop-text
invariant-loop-text l = l.left ≡ l.count - sum_by (λ text. text.size) (take l.text-index l.texts)
