use Rattle.std.proofs.Common.{◌-◌, ◌+◌, arith}
use Rattle.rvmc_places.specs.Frames.{frames, frames_from}
use Rattle.rvmc_places.proofs.CallChains.{all_told, last_call, next_call, none_left, one_left}
use Rattle.rvmc_places.proofs.callers.put_calls.Goals as goal

pub returns-in-None : goal.returns-in-None
returns-in-None c =
    let l = c.loop-number in
    let memory = c.args.memory.now in
    last_call c.args.before.now c.args.behind.now c.args.symbols.now c.args.text.now.items l.text.items (frames c.args.symbols.now memory c.args.hart.now) (frames_from c.args.symbols.now memory (64 - l._number) l.next) l.invariant
    (none_left c.args.symbols.now memory l._number l.next c.in-None.is)

pub loop-number-preserved : goal.loop-number-preserved
loop-number-preserved c =
    let l = c.loop-number in
    let memory = c.args.memory.now in
    let above = c.frame_above-next.result in
    next_call c.args.before.now c.args.behind.now c.args.symbols.now c.args.text.now.items l.text.items (frames c.args.symbols.now memory c.args.hart.now) (frames_from c.args.symbols.now memory (64 - l._number) l.next) l.invariant
    c.in-Some.frame (frames_from c.args.symbols.now memory (64 - (l._number + 1)) above) c.put_call.new.text.items
    (one_left c.args.symbols.now memory l._number l.next above c.in-Some.frame (omega (arith, c.loop-number-test.true)) c.in-Some.is c.frame_above-next.ensures)
    c.in_ok-put_call-in-Some.ensures

pub returns : goal.returns
returns c =
    let l = c.loop-number in
    let memory = c.args.memory.now in
    last_call c.args.before.now c.args.behind.now c.args.symbols.now c.args.text.now.items l.text.items (frames c.args.symbols.now memory c.args.hart.now) (frames_from c.args.symbols.now memory (64 - l._number) l.next) l.invariant
    (all_told c.args.symbols.now memory l._number l.next (omega (arith, c.loop-number-test.false)))
