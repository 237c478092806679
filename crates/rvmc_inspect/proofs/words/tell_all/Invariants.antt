use Rattle.std.proofs.Common.{take}
use Rattle.rvmc_inspect.specs.Words.{Walks}
use Rattle.rvmc_inspect.proofs.words.tell_all.Given as goal

-- the words so far were done
abbrev pub invariant-loop-word : goal.invariant-loop-word
invariant-loop-word l = Walks l.fn.debugger (take l.word-index l.words) l.debugger l.text.items
