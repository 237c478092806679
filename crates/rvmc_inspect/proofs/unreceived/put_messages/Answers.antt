use Rattle.std.proofs.Common.{◌++◌, length, refl}
use Rattle.rvmc_inspect.specs.Unreceived.{sender_lines, unreceived_head}
use Rattle.rvmc_inspect.proofs.Lines.{line_more}
use Rattle.rvmc_inspect.proofs.unreceived.put_messages.Goals as goal

pub loop-source-preserved : goal.loop-source-preserved
loop-source-preserved c =
    let source = c.loop-source.source in
    let sends = c.args.sends.now in
    line_more (sender_lines c.args.tags sends) (c.args.text.now.items ++ unreceived_head c.args.rank (length sends))
    c.loop-source.text.items (sender_lines c.args.tags sends source) _ source c.loop-source.invariant refl
    c.in_ok-put_sender.ensures
