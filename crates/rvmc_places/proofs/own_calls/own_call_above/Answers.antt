use Rattle.std.proofs.Common.{◌-◌, ◌+◌, ◌∙◌, arith, refl, sym}
use Rattle.rvmc_places.specs.Frames.{frame_above, frames_from}
use Rattle.rvmc_places.proofs.CallChains.{all_told, none_left, one_left}
use Rattle.rvmc_places.proofs.OwnChains.{further, no_call, this_call}
use Rattle.rvmc_places.proofs.own_calls.own_call_above.Goals as goal

pub returns-in-None : goal.returns-in-None
returns-in-None c =
    let l = c.loop-number in
    let memory = c.args.memory.now in
    no_call c.args.symbols.now _ l.inner (frames_from c.args.symbols.now memory (64 - l._number) l.next) l.invariant
    (none_left c.args.symbols.now memory l._number l.next c.in-None.is)

pub returns-then-has_line : goal.returns-then-has_line
returns-then-has_line c =
    let l = c.loop-number in
    let memory = c.args.memory.now in
    let frame = c.in-Some.frame in
    let above = frame_above c.args.symbols.now memory frame in
    this_call c.args.symbols.now _ l.inner (frames_from c.args.symbols.now memory (64 - l._number) l.next) l.invariant
    frame (frames_from c.args.symbols.now memory (64 - (l._number + 1)) above) c.called_at-at.result
    (one_left c.args.symbols.now memory l._number l.next above frame (omega (arith, c.loop-number-test.true)) c.in-Some.is refl)
    c.called_at-at.ensures (sym c.has_line.ensures ∙ c.if-has_line.true)

pub loop-number-preserved : goal.loop-number-preserved
loop-number-preserved c =
    let l = c.loop-number in
    let memory = c.args.memory.now in
    let frame = c.in-Some.frame in
    let above = c.frame_above-next.result in
    further c.args.symbols.now _ l.inner (frames_from c.args.symbols.now memory (64 - l._number) l.next) l.invariant
    frame (frames_from c.args.symbols.now memory (64 - (l._number + 1)) above) c.called_at-at.result
    (one_left c.args.symbols.now memory l._number l.next above frame (omega (arith, c.loop-number-test.true)) c.in-Some.is c.frame_above-next.ensures)
    c.called_at-at.ensures (sym c.has_line.ensures ∙ c.if-has_line.false)

pub returns : goal.returns
returns c =
    let l = c.loop-number in
    let memory = c.args.memory.now in
    no_call c.args.symbols.now _ l.inner (frames_from c.args.symbols.now memory (64 - l._number) l.next) l.invariant
    (all_told c.args.symbols.now memory l._number l.next (omega (arith, c.loop-number-test.false)))
