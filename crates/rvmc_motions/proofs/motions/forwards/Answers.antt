use Rattle.std.proofs.Common.{◌≡◌, ◌∙◌, ℕ, ◌<◌, arith, length, subst, sym, ap}
use Rattle.rvmc_motions.specs.Walking.{TellsForward}
use Rattle.rvmc_motions.proofs.Ways.{forward_told, inside_of, way_end, way_found, way_more}
use Rattle.rvmc_motions.proofs.motions.forwards.Goals as goal

pub turn-requires : goal.turn-requires
turn-requires c =
    let whole = ap (λ (x : ℕ × ℕ). x.1) c.place-from.ensures.place in
    let below : c.loop-n._n < length c.args.debugger.now.steps = omega (arith, whole, c.loop-n-test.true) in
    inside_of c.args.debugger.now c.loop-n.debugger c.loop-n._n c.loop-n.invariant.here below

pub returns-in-Some-clause-goes : goal.returns-in-Some-clause-goes
returns-in-Some-clause-goes c =
    let old = c.args.debugger.now in
    let now = c.loop-n.debugger in
    let marks = c.args.marks.now in
    let whole = ap (λ (x : ℕ × ℕ). x.1) c.place-from.ensures.place in
    let below : c.loop-n._n < length old.steps = omega (arith, whole, c.loop-n-test.true) in
    let all = forward_told now c.turn.new.debugger marks c.args.mover c.in_ok-turned.turned c.next_stop-next.result
    c.in_ok-turned.ensures.there c.in_ok-turned.ensures.told c.next_stop-next.ensures in
    let told = subst (TellsForward now marks c.args.mover) (sym c.or.ensures ∙ c.in-Some.is) all in
    way_found old marks c.args.mover c.loop-n._n now c.turn.new.debugger c.loop-n.invariant
    c.in_ok-turned.ensures.there c.in-Some.halt below told

pub loop-n-preserved : goal.loop-n-preserved
loop-n-preserved c =
    let old = c.args.debugger.now in
    let now = c.loop-n.debugger in
    let marks = c.args.marks.now in
    let all = forward_told now c.turn.new.debugger marks c.args.mover c.in_ok-turned.turned c.next_stop-next.result
    c.in_ok-turned.ensures.there c.in_ok-turned.ensures.told c.next_stop-next.ensures in
    let told = subst (TellsForward now marks c.args.mover) (sym c.or.ensures ∙ c.in_default.is) all in
    way_more old marks c.args.mover c.loop-n._n now c.turn.new.debugger c.loop-n.invariant
    c.in_ok-turned.ensures.there told

pub returns-clause-goes : goal.returns-clause-goes
returns-clause-goes c =
    let whole = ap (λ (x : ℕ × ℕ). x.1) c.place-from.ensures.place in
    let first = ap (λ (x : ℕ × ℕ). x.0) c.place-from.ensures.place in
    let end : c.loop-n._n ≡ length c.args.debugger.now.steps = omega (arith, first, whole, c.place-from.ensures.inside, c.loop-n.auto, c.loop-n-test.false) in
    way_end c.args.debugger.now c.args.marks.now c.args.mover c.loop-n._n c.loop-n.debugger c.loop-n.invariant end
