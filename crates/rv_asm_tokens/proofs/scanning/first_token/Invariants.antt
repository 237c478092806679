use Rattle.std.proofs.Common.{◌≡◌, ◌≤◌, ◌-◌, [], drop, length}
use Rattle.rv_asm_tokens.specs.Scan.{tokens_from, tokens_of}
use Rattle.rv_asm_tokens.proofs.scanning.first_token.Given as goal

-- only blanks were passed
abbrev pub invariant-loop-at : goal.invariant-loop-at
invariant-loop-at l = record {
  inside : l.at ≤ length l.bytes;
  same : tokens_from 0 [] (drop l.at l.bytes) ≡ tokens_of l.bytes;
}

abbrev pub decreases-loop-at : goal.decreases-loop-at
decreases-loop-at l = length l.bytes - l.at
