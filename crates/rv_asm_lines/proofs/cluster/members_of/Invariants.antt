use Rattle.std.proofs.Common.{◌≡◌, [], length}
use Rattle.rv_asm_lines.specs.Data.{members_from}
use Rattle.rv_asm_lines.proofs.cluster.members_of.Given as goal

-- what the numbers that are left come to, behind those so far, is what all come to
abbrev pub invariant-loop-rest : goal.invariant-loop-rest
invariant-loop-rest l = members_from l.ranks l.named.items l.rest ≡ members_from l.ranks [] l.numbers

abbrev pub decreases-loop-rest : goal.decreases-loop-rest
decreases-loop-rest l = length l.rest
