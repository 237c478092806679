-- A sender that has filled all words may store an odd gate.
use Rattle.std.proofs.Common.{arith, ◌≡◌, ℕ, ◌+◌, ◌*◌, ◌/◌, ◌%◌, length, ap}
use Rattle.part_box.specs.Keys.{Place, Sender}
use Rattle.part_box.proofs.Allowed.{readies}
use Rattle.part_box.proofs.Owned.{sender_owned}
use Rattle.part_box.proofs.partition.PartBox.ready.Goals as goal

-- the stored gate is full, with this stamp
full_gate : (stamp : ℕ) → ((2 * stamp + 1) % 2 ≡ 1) × ((2 * stamp + 1) / 2 ≡ stamp)
full_gate stamp = (omega arith, omega arith)

pub store-requires : goal.store-requires
store-requires c =
    let key = c.key.inside in
    let wide : c.self.inside.width ≡ c.args.self.now.width = ap (λ (p : Place). p.width) c.self.view_is in
    let count : length key.seat.me.0.sending.filled ≡ length c.args.key.now.view.filled =
    ap (λ (k : Sender). length k.view.filled) c.key.view_is in
    let front : key.seat.me.0.sending.front ≡ c.args.key.now.view.front =
    ap (λ (k : Sender). k.view.front) c.key.view_is in
    let gate = full_gate c.args.stamp in
    let half = gate.1 in (
      sender_owned c.self.view_is c.key.view_is c.requires.own,
      omega arith,
      readies _ _ _ _ _ c.key.invariant.sends (omega arith) (omega arith) gate.0 (omega arith) (omega arith),
    )
