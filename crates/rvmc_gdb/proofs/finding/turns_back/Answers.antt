use Rattle.std.proofs.Common.{rules, ◌≡◌, ◌∙◌, ◌-◌, ◌<◌, arith, true, false}
use Rattle.std.specs.Prelude.{slice_get}
use Rattle.rvmc_gdb.proofs.Nearest.{turns_other, turns_own}
use Rattle.rvmc_gdb.specs.Finding.{is_turn_of}
use Rattle.rvmc_gdb.proofs.finding.turns_back.Goals as goal

pub loop-left-preserved-then-is_turn_at : goal.loop-left-preserved-then-is_turn_at
loop-left-preserved-then-is_turn_at c =
    let some : 0 < c.loop-left.left = omega (arith, c.loop-left-test.true) in
    let more : 0 < c.loop-left.place = omega (arith, c.if-place-gt0.true) in
    let is : is_turn_of c.args.who (slice_get c.args.steps.now (c.loop-left.place - 1)) ≡ true = search rules in
    c.loop-left.invariant ∙ turns_own c.loop-left.left c.args.steps.now c.args.who c.loop-left.place some more is

pub loop-left-preserved : goal.loop-left-preserved
loop-left-preserved c =
    let some : 0 < c.loop-left.left = omega (arith, c.loop-left-test.true) in
    let more : 0 < c.loop-left.place = omega (arith, c.if-place-gt0.true) in
    let is : is_turn_of c.args.who (slice_get c.args.steps.now (c.loop-left.place - 1)) ≡ false = search rules in
    c.loop-left.invariant ∙ turns_other c.loop-left.left c.args.steps.now c.args.who c.loop-left.place some more is
