use Rattle.std.proofs.Common.{rules, subst}
use Rattle.rvmc_starts.specs.Joining.{IsNext}
use Rattle.rvmc_starts.proofs.PartsInTurn.{all_read, fewer, one_more}
use Rattle.rvmc_starts.proofs.joining.parts_in.Goals as goal

pub returns-then-at-bytes-clause-read : goal.returns-then-at-bytes-clause-read
returns-then-at-bytes-clause-read c =
    let next = subst (λ rest. IsNext c.texts.parts.items rest c.next_part.new.parts.items c.in_ok-at.field-0) c.behind.ensures c.in_ok-at.ensures.read in
    all_read c.args.bytes.now c.texts.parts.items c.next_part.new.parts.items c.texts.at c.in_ok-at.field-0 c.texts.invariant next (search rules)

pub texts-smaller : goal.texts-smaller
texts-smaller c =
    let next = subst (λ rest. IsNext c.texts.parts.items rest c.next_part.new.parts.items c.in_ok-at.field-0) c.behind.ensures c.in_ok-at.ensures.read in
    fewer c.args.bytes.now c.texts.parts.items c.next_part.new.parts.items c.texts.at c.in_ok-at.field-0 c.texts.invariant next

pub texts-preserved : goal.texts-preserved
texts-preserved c =
    let next = subst (λ rest. IsNext c.texts.parts.items rest c.next_part.new.parts.items c.in_ok-at.field-0) c.behind.ensures c.in_ok-at.ensures.read in
    one_more c.args.bytes.now c.texts.parts.items c.next_part.new.parts.items c.texts.at c.in_ok-at.field-0 c.texts.invariant next
