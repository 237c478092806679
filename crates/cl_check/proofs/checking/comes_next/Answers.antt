use Rattle.std.proofs.Common.{refl, arith, length, ◌-◌, IsTrue}
use Rattle.std.proofs.lemmas.Option.{slice_get_read}
use Rattle.cl_check.proofs.Verdicts.{after_last}
use Rattle.cl_check.proofs.checking.comes_next.Goals as goal

pub returns-else-n-eq0 : goal.returns-else-n-eq0
returns-else-n-eq0 c = λ step there.
    let steps = c.args.steps.now in
    let n = c.args.n in
    let last = c.index-steps-n.result in
    let e = c.index-steps-n-else-n-eq0.result in
    let before = slice_get_read steps (length steps) (n - 1) last refl (omega arith) c.index-steps-n.is in
    let here = slice_get_read steps (length steps) n e refl (omega arith) c.index-steps-n-else-n-eq0.is in
    after_last (IsTrue c.is_before.result) steps n last e step (omega arith) before here there c.is_before.ensures
