use Rattle.std.proofs.Common.{◌+◌, ◌-◌, ◌∙◌, ap, arith, sym}
use Rattle.rvmc_places.specs.Pointers.{pointer_at}
use Rattle.rvmc_places.proofs.WayChains.{behind_all, behind_one}
use Rattle.rvmc_places.proofs.pointers.pointer_at.Goals as goal

pub loop-number-preserved : goal.loop-number-preserved
loop-number-preserved c =
    let l = c.loop-number in
    let memory = c.args.memory.now in
    record {
      place = let place = l.invariant.place in omega (arith, place);
      rest =
          l.invariant.rest
          ∙ behind_one memory l.next c.args.count l._number l.pointer (omega (arith, c.loop-number-test.true))
          ∙ ap (pointer_at memory (l.next + 4) (c.args.count - (l._number + 1))) (sym c.pointer_behind-pointer.ensures);
    }

pub returns : goal.returns
returns c =
    let l = c.loop-number in
    sym (l.invariant.rest
    ∙ behind_all c.args.memory.now l.next c.args.count l._number l.pointer (omega (arith, c.loop-number-test.false)))
