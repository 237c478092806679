use Rattle.std.proofs.Common.{◌*◌, ◌/◌, ◌<◌, ◌≤◌, arith, length, refl, subst}
use Rattle.std.proofs.lemmas.Nat.{le-div}
use Rattle.std.proofs.lemmas.Option.{slice_get_read}
use Rattle.cl_debug.specs.Debugging.{Debugging}
use Rattle.cl_debug.specs.Leads.{IsKeptAt}
use Rattle.cl_debug.proofs.Keeping.{positive}
use Rattle.cl_debug.proofs.debugging.Debugger.go.Goals as goal

pub led-requires-clause-starts : goal.led-requires-clause-starts
led-requires-clause-starts c =
    let d = c.self.inside in
    let first = c.index.result.now in
    let near = c.args.n / d.spacing in
    let some : 0 < d.spacing = positive (length d.steps.items) d.spacing c.self.invariant.spaced in
    let before : near * d.spacing ≤ length d.steps.items = omega (arith, some, c.if-n-len.false, c.len-len.ensures) in
    let low = le-div near (length d.steps.items) d.spacing some before in
    let count = c.self.invariant.kept_there.count in
    let there = slice_get_read d.kept.items (length d.kept.items) near first refl (omega (arith, low, count))
    c.index.ensures in
    subst (λ (x : Debugging). IsKeptAt x.image x.steps (near * d.spacing) first) c.self.view_is
    (c.self.invariant.kept_there.reached near first there)
