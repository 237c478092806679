use Rattle.std.proofs.Common.{List, rules, subst}
use Rattle.rvmc_gdb.specs.Below.{StopsAt}
use Rattle.rvmc_serve.proofs.typing.debugged.Goals as goal
use Rattle.rvmc_words.specs.declared.debug.DebugWord.{DebugWord}

pub returns : goal.returns
returns c =
    let told = c.tell_all-told.result in
    record {
      printed = told.text.items;
      fault = told.fault;
      stops = subst
          (λ (words : List DebugWord). StopsAt c.args.debugger.now words c.tell_all-told.new.debugger told.text.items told.fault)
          c.as_slice.ensures c.tell_all-told.ensures.stops;
      told = c.in_ok-refused.ensures.answer;
      is = search rules;
    }
