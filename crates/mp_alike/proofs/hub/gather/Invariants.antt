use Rattle.std.proofs.Common.{◌≡◌, ◌+◌, ◌≤◌, ◌++◌, length, vec_len}
use Rattle.std.specs.Prelude.{vec_capacity}
use Rattle.mp_hub.specs.Hub.{all_got}
use Rattle.mp_alike.proofs.hub.gather.Given as goal

abbrev pub invariant-loop-post : goal.invariant-loop-post
invariant-loop-post l = record {
  gots : l.initial.gots.items ++ (all_got l.rank l.initial.board l.posts).0 ≡ l.gots.items
      ++ (all_got l.rank l.board l.rest).0;
  after : (all_got l.rank l.initial.board l.posts).1 ≡ (all_got l.rank l.board l.rest).1;
  room : vec_len l.gots + length l.rest ≤ vec_capacity l.gots;
}

abbrev pub decreases-loop-post : goal.decreases-loop-post
decreases-loop-post l = length l.rest
