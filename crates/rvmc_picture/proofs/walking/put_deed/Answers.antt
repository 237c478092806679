use Rattle.rvmc_picture.proofs.Putting.{put_at}
use Rattle.rvmc_picture.proofs.walking.put_deed.Goals as goal

pub returns : goal.returns
returns c = record {
  puts = λ s t known after. put_at c.args.symbols.now c.args.place c.args.step.now s t c.args.before.now c.args.after.now
      c.args.walk.now c.take.new.self known after c.in_ok-deed.deed c.next-next.result c.next-next.ensures c.in_ok-deed.ensures
      c.in_ok-take.ensures.walked c.in_ok-tip.tip.items c.in_ok-tip.ensures c.in_ok-take.ensures.tips;
  fault = tt;
}
