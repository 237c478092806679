use Rattle.std.proofs.Common.{◌≡◌, ◌<◌, ℕ, get_or, take}
use Rattle.std.specs.Prelude.{vec_len}
use Rattle.rvmc_inspect.specs.Unreceived.{count_of_sends}
use Rattle.rvmc_inspect.proofs.unreceived.numbers_by_tag.Given as goal

-- the numbers of those so far
abbrev pub invariant-loop-sent : goal.invariant-loop-sent
invariant-loop-sent l = record {
  len : vec_len l.numbers ≡ l.tags;
  numbers : (tag : ℕ) → tag < l.tags → get_or l.numbers.items tag 0 ≡ count_of_sends l.source tag (take l.sent-index l.sends);
}
