use Rattle.rvmc_words.specs.declared.debug.DebugWord.TheVariants as word
use Rattle.rvmc_gdb.proofs.Methods.{word_done, word_refused}
use Rattle.rvmc_gdb.proofs.session.Session.bytes_of.Goals as goal

pub returns-in-Ok : goal.returns-in-Ok
returns-in-Ok c = word_done _ _ (word.Bytes c.args.rank c.args.at.now c.args.count) _ c.self.view_is c.in-Ok.ensures.does

pub returns-in_ok-refusal-in-Err : goal.returns-in_ok-refusal-in-Err
returns-in_ok-refusal-in-Err c =
    word_refused _ _ (word.Bytes c.args.rank c.args.at.now c.args.count) c.in-Err.fault _ c.self.view_is c.in-Err.ensures.fault
    c.in_ok-refusal-in-Err.ensures.memory c.in_ok-refusal-in-Err.ensures.told
