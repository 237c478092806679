use Rattle.std.proofs.Common.{◌≡◌, List, length}
use Rattle.rv_asm_tokens.specs.Fault.{◌>>=◌}
use Rattle.rv_asm_tokens.specs.Lexeme.{Lexeme}
use Rattle.rv_asm_tokens.specs.Scan.{tokens_of}
use Rattle.rv_asm_tokens.proofs.Kept.{behind}
use Rattle.rv_asm_tokens.proofs.scanning.check_tokens.Given as goal

-- the bytes that are left come, behind some tokens, to what all come to
abbrev pub invariant-loop-first : goal.invariant-loop-first
invariant-loop-first l = (done : List Lexeme) × (tokens_of l.bytes ≡ behind done (tokens_of l.rest))

abbrev pub decreases-loop-first : goal.decreases-loop-first
decreases-loop-first l = length l.rest
