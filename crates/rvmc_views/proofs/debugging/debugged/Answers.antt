use Rattle.std.proofs.Common.{List, subst}
use Rattle.cl_debug.specs.Debugging.{Debugging}
use Rattle.rvmc_answers.specs.Below.{IsTextOfWords}
use Rattle.rvmc_words.specs.declared.debug.DebugWord.{DebugWord}
use Rattle.rvmc_views.proofs.debugging.debugged.Goals as goal

pub returns-clause-tells : goal.returns-clause-tells
returns-clause-tells c =
    let text = c.tell_all-told.result.text.items in
    let fault = c.tell_all-told.result.fault in
    let debugger = c.in_ok-debugger.debugger in
    record {
      run = c.in_ok-debugger.ensures.run;
      fault = fault;
      told = subst (λ (d : Debugging). IsTextOfWords d c.args.words.now text fault) c.in_ok-debugger.ensures.opened
          (subst (λ (words : List DebugWord). IsTextOfWords debugger words text fault) c.as_slice.ensures
          c.tell_all-told.ensures.text);
      end_is = c.end_of.ensures;
    }
