use Rattle.std.proofs.Common.{refl}
use Rattle.rvmc_picture.proofs.Below.{line_more}
use Rattle.rvmc_gdb.specs.Shown.{named_thread}
use Rattle.rvmc_gdb.proofs.session.Session.put_threads.Goals as goal

pub loop-number-preserved : goal.loop-number-preserved
loop-number-preserved c =
    line_more (named_thread c.args.symbols.now c.args.state.now c.args.self.now) c.args.text.now.items c.loop-number.text.items
    (named_thread c.args.symbols.now c.args.state.now c.args.self.now c.loop-number.number) c.put_thread.new.text.items
    c.loop-number.number c.loop-number.invariant refl c.in_ok-put_thread.ensures
