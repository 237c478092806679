use Rattle.rvmc_draw.proofs.Walked.{walked_more}
use Rattle.rvmc_draw.proofs.walks.Walk.take.Goals as goal

pub returns : goal.returns
returns c = record {
  walked = λ scope deeds w. walked_more scope deeds c.args.self.now c.args.deed.now c.args.tip.items c.add.new.self w
      c.in_ok-add.ensures;
  tips = c.in_ok-add.ensures.kept;
}
