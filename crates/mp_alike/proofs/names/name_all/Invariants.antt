use Rattle.std.proofs.Common.{◌≤◌, ◌-◌, length}
use Rattle.mp_alike.specs.InnerNames.{IsNaming}
use Rattle.mp_alike.proofs.names.name_all.Given as goal

-- the posts so far are named
abbrev pub invariant-posts : goal.invariant-posts
invariant-posts l = record {
  so_far : IsNaming l.mine l.theirs l.naming.to.items l.naming.back.items;
  most : length l.naming.to.items ≤ length l.mine;
}

abbrev pub decreases-posts : goal.decreases-posts
decreases-posts l = length l.mine - length l.naming.to.items
