use Rattle.std.proofs.Common.{◌++◌, ◌∙◌, ap, arith}
use Rattle.rvmc_page.specs.Starts.{rank_start_text}
use Rattle.rvmc_draw.proofs.Taken.{taken_all, taken_more}
use Rattle.rvmc_page.proofs.starts.put_starts.Goals as goal

pub loop-rank-preserved : goal.loop-rank-preserved
loop-rank-preserved c =
    taken_more rank_start_text c.args.ranks.now c.loop-rank.rank-index c.rank-item.result c.args.text.now.items
    c.loop-rank.text.items c.put_rank.new.text.items (omega (arith, c.loop-rank-test.true)) c.loop-rank.invariant
    (c.in_ok-put_rank.ensures ∙ ap (λ rank. c.loop-rank.text.items ++ rank_start_text rank) c.rank-item.is)

pub returns : goal.returns
returns c =
    taken_all rank_start_text c.args.ranks.now c.loop-rank.rank-index c.args.text.now.items
    c.loop-rank.text.items (omega (arith, c.loop-rank-test.false)) c.loop-rank.invariant
