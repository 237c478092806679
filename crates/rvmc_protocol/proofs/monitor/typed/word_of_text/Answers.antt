use Rattle.std.proofs.Common.{rules}
use Rattle.std.proofs.lemmas.Str.{is_utf8-from_IsUtf8}
use Rattle.rvmc_protocol.proofs.Utf8.{no_text}
use Rattle.rvmc_protocol.proofs.monitor.typed.word_of_text.Goals as goal

pub returns-in-Ok : goal.returns-in-Ok
returns-in-Ok c =
    let found = c.in-Ok.ensures.cases in
    search (rules, is_utf8-from_IsUtf8 c.args.text.now found.1, found.0)

pub returns-in-Err : goal.returns-in-Err
returns-in-Err c = search (rules, no_text c.args.text.now c.in-Err.ensures.cases.0)
