-- A box that isn't wanted is passed over; where none is wanted, each byte lies in a box that was taken.
use Rattle.std.proofs.Common.{◌≡◌, ◌*◌, ◌/◌, ◌<◌, ◌≤◌, None, refl, ◌∙◌, sym, ap, subst}
use Rattle.std.specs.Prelude.{◌&&◌}
use Rattle.part_channel.specs.Receiving.{RecvView, is_left, overlaps, lowest_from}
use Rattle.part_channel.proofs.Received.{skips, none_left, box_taken}
use Rattle.part_channel.proofs.receiving.RecvSide.next_of.Goals as goal

pub loop-i-preserved : goal.loop-i-preserved
loop-i-preserved c =
    let side = c.args.self.now in
    let low = subst (λ n. c.loop-i.i < n) (ap (λ (s : RecvView). s.boxes) c.self.view_is) c.loop-i-test.true in
    c.loop-i.invariant
    ∙ skips (λ place. is_left side.taken place && overlaps side c.args.part place) c.loop-i.i side.boxes low
    (sym c.wants.ensures ∙ c.if-wants.false)

pub returns-clause-arrived : goal.returns-clause-arrived
returns-clause-arrived c active some known byte low high =
    let side = c.args.self.now in
    let total : side.boxes * side.bytes ≡ side.parts * side.size =
    subst (λ (s : RecvView). 0 < s.boxes → s.boxes * s.bytes ≡ s.parts * s.size) c.self.view_is
    c.self.invariant.cut.total some in
    let ended : side.boxes ≤ c.loop-i.i =
    subst (λ n. n ≤ c.loop-i.i) (ap (λ (s : RecvView). s.boxes) c.self.view_is) c.loop-i-test.false in
    let none : lowest_from (λ place. is_left side.taken place && overlaps side c.args.part place) 0 side.boxes ≡ None =
    c.loop-i.invariant
    ∙ none_left (λ place. is_left side.taken place && overlaps side c.args.part place) c.loop-i.i side.boxes
    ended in
    let found =
    box_taken c.args.part side.size side.parts side.boxes side.bytes byte total known high side refl refl refl low
    none in
    (byte / side.bytes, found.0, found.1, found.2)
