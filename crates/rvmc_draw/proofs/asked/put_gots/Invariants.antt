use Rattle.std.proofs.Common.{◌≡◌, ◌++◌, drop}
use Rattle.mp_hub.specs.Histories.{got_of}
use Rattle.rvmc_draw.proofs.asked.put_gots.Given as goal

-- those so far, and those to come
abbrev pub invariant-loop-place : goal.invariant-loop-place
invariant-loop-place l =
    l.numbers.items ++ got_of (drop l.place l.posts) (drop l.place l.gots)
    ≡ l.fn.numbers.items ++ got_of l.posts l.gots
