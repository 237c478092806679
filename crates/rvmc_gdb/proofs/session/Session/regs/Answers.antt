use Rattle.rvmc_words.specs.declared.debug.DebugWord.TheVariants as word
use Rattle.rvmc_gdb.proofs.Methods.{regs_refused, word_refused}
use Rattle.rvmc_gdb.proofs.session.Session.regs.Goals as goal

pub returns-in_ok-refusal-in-Err : goal.returns-in_ok-refusal-in-Err
returns-in_ok-refusal-in-Err c =
    word_refused _ _ (word.Regs c.args.rank c.args.hart) c.in-Err.fault _ c.self.view_is
    (regs_refused c.self.inside.debugger c.args.rank c.args.hart c.regs.result c.in-Err.fault c.in-Err.is c.regs.ensures.no_rank
    c.regs.ensures.no_hart c.in-Err.ensures.fault)
    c.in_ok-refusal-in-Err.ensures.memory c.in_ok-refusal-in-Err.ensures.told
