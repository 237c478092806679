use Rattle.std.proofs.Common.{◌≡◌, ℕ, ◌<◌, false, get_or}
use Rattle.mp_match.specs.Board.{line_of}
use Rattle.mp_hub.specs.Hub.{is_ready}
use Rattle.mp_wait_laws.specs.Waits.{OnlyOf, could_pair}
use Rattle.cl_deadlock_laws.specs.Stuck.{is_among, is_member}
use Rattle.cl_deadlock.proofs.requests.has_one_up_to.Given as goal

-- of the posts so far none isn't ready and is up to these
abbrev pub invariant-loop-place : goal.invariant-loop-place
invariant-loop-place l =
    (k : ℕ) → k < l.place → (is_ready l.hub l.rank (get_or l.posts k 0) ≡ false)
    × OnlyOf (is_among l.among) (could_pair (is_member l.site) (line_of l.hub.board (get_or l.posts k 0))) → ⊥
