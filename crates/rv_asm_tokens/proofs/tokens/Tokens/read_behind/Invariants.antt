use Rattle.std.proofs.Common.{◌≡◌}
use Rattle.std.specs.Prelude.{slice_get}
use Rattle.rv_asm_tokens.proofs.tokens.Tokens.read_behind.Given as goal

-- the token stands behind so many of those that are left
abbrev pub invariant-loop-more : goal.invariant-loop-more
invariant-loop-more l = slice_get l.rest l.more ≡ slice_get l.self l.before

abbrev pub decreases-loop-more : goal.decreases-loop-more
decreases-loop-more l = l.more
