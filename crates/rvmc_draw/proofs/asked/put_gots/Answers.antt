use Rattle.std.proofs.Common.{◌≤◌, length, arith}
use Rattle.rvmc_draw.proofs.Gots.{put_all, put_more}
use Rattle.rvmc_draw.proofs.asked.put_gots.Goals as goal

pub loop-place-preserved : goal.loop-place-preserved
loop-place-preserved c =
    put_more c.args.posts.now c.args.gots.now c.loop-place.place c.args.numbers.now.items c.loop-place.numbers.items
    c.put_got_at.new.numbers.items c.loop-place.invariant c.in_ok-put_got_at.ensures

pub returns : goal.returns
returns c =
    let past : length c.args.posts.now ≤ c.loop-place.place = omega arith in
    put_all c.args.posts.now c.args.gots.now c.loop-place.place c.args.numbers.now.items c.loop-place.numbers.items
    c.loop-place.invariant past
