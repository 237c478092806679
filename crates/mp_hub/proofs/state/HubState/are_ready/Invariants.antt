use Rattle.std.proofs.Common.{◌≡◌, length}
use Rattle.std.specs.List.{list_all}
use Rattle.mp_hub.specs.Hub.{is_ready}
use Rattle.mp_hub.proofs.state.HubState.are_ready.Given as goal

abbrev pub invariant-loop-post : goal.invariant-loop-post
invariant-loop-post l =
    list_all (λ n. is_ready l.self l.rank n) l.posts ≡ list_all (λ n. is_ready l.self l.rank n) l.rest

abbrev pub decreases-loop-post : goal.decreases-loop-post
decreases-loop-post l = length l.rest
