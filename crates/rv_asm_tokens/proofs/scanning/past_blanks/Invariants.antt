use Rattle.std.proofs.Common.{◌≡◌, ◌≤◌, ◌-◌, List, drop, length}
use Rattle.rv_asm_tokens.specs.Lexeme.{Lexeme}
use Rattle.rv_asm_tokens.specs.Scan.{tokens_from}
use Rattle.rv_asm_tokens.proofs.scanning.past_blanks.Given as goal

-- only blanks were passed
abbrev pub invariant-loop-at : goal.invariant-loop-at
invariant-loop-at l = record {
  onward : l.start ≤ l.at;
  inside : l.at ≤ length l.bytes;
  same : (done : List Lexeme) → tokens_from 0 done (drop l.at l.bytes) ≡ tokens_from 0 done (drop l.start l.bytes);
}

abbrev pub decreases-loop-at : goal.decreases-loop-at
decreases-loop-at l = length l.bytes - l.at
