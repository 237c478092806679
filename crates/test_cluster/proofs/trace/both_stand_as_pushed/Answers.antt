use Rattle.std.proofs.Common.{ap, ◌∙◌, arith}
use Rattle.cl_trace.specs.Rising.{last_stamp}
use Rattle.cl_trace.proofs.Rising.{last_stamp-push}
use Rattle.test_cluster.proofs.trace.both_stand_as_pushed.Goals as goal

pub push-requires-clause-rises : goal.push-requires-clause-rises
push-requires-clause-rises c =
    let pushed = c.in_ok-reserve-2.ensures.events ∙ c.push_plain.ensures in
    let last = ap (last_stamp 0) pushed ∙ last_stamp-push 0 c.reserve.new.self.events _ in
    omega (arith, last, c.requires.second)
