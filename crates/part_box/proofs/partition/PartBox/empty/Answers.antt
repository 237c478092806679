-- A receiver that has copied all words may store an even gate.
use Rattle.std.proofs.Common.{arith, ◌≡◌, ℕ, ◌*◌, ◌/◌, ◌%◌, length, ap, ◌∙◌}
use Rattle.part_box.specs.Keys.{Place, Receiver}
use Rattle.part_box.proofs.Allowed.{empties}
use Rattle.part_box.proofs.Owned.{receiver_owned}
use Rattle.part_box.proofs.partition.PartBox.empty.Goals as goal

-- the stored gate is empty, with this stamp
empty_gate : (stamp : ℕ) → ((2 * stamp) % 2 ≡ 0) × ((2 * stamp) / 2 ≡ stamp)
empty_gate stamp = (omega arith, omega arith)

pub store-requires : goal.store-requires
store-requires c =
    let key = c.key.inside in
    let wide : c.self.inside.width ≡ c.args.self.now.width = ap (λ (p : Place). p.width) c.self.view_is in
    let seen : key.seat.me.0.receiving.seen ≡ c.args.key.now.view.seen =
    ap (λ (k : Receiver). k.view.seen) c.key.view_is in
    let count : length key.seat.me.0.receiving.copied ≡ length c.args.key.now.view.copied =
    ap (λ (k : Receiver). length k.view.copied) c.key.view_is in
    let saw = c.requires.above in
    let above = saw.2 in
    let gate = empty_gate c.args.stamp in
    let half = gate.1 in (
      receiver_owned c.self.view_is c.key.view_is c.requires.own,
      omega arith,
      empties _ _ _ _ _ saw.0 c.key.invariant.receives (seen ∙ saw.1) (omega arith) gate.0 (omega arith)
          (omega arith),
    )
