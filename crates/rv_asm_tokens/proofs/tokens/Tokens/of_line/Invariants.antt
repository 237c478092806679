use Rattle.std.proofs.Common.{◌≡◌, ◌≤◌, ◌-◌, length, map, take}
use Rattle.rv_asm_tokens.specs.TokenView.{lexeme_of}
use Rattle.rv_asm_tokens.specs.Scan.{tokens_of}
use Rattle.rv_asm_tokens.proofs.Kept.{behind}
use Rattle.rv_asm_tokens.proofs.tokens.Tokens.of_line.Given as goal

-- the line has the tokens that are kept, and those of the bytes that are left
abbrev pub invariant-loop-end : goal.invariant-loop-end
invariant-loop-end l = (l.end ≤ 8) × (length l.kept ≡ 8) × (tokens_of l.line ≡ behind (map lexeme_of (take l.end l.kept)) (tokens_of l.bytes))

abbrev pub decreases-loop-end : goal.decreases-loop-end
decreases-loop-end l = 8 - l.end
