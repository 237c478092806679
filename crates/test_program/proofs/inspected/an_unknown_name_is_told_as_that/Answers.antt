use Rattle.std.proofs.Common.{subst}
use Rattle.rvmc_inspect.specs.Words.{IsTextOfWords}
use Rattle.test_program.proofs.Inspecting.{told}
use Rattle.test_program.proofs.inspected.an_unknown_name_is_told_as_that.Goals as goal

pub returns : goal.returns
returns c = λ rank count name is unknown.
    let old = c.args.debugger.now in
    let text = c.tell_all.result.text.items in
    let fault = c.tell_all.result.fault in
    told old rank count name unknown text fault
    (subst (λ words. IsTextOfWords old words text fault) is c.tell_all.ensures.text)
