-- A receiver with a thing pending may load its next data word.
use Rattle.std.proofs.Common.{arith, ◌≡◌, ℕ, length, true≢false, IsSome, Option, None, Some, refl, sym, ap, ◌∙◌}
use Rattle.part_box.specs.Keys.{Place, Receiver}
use Rattle.part_box.proofs.Allowed.{copies}
use Rattle.part_box.proofs.Owned.{receiver_owned}
use Rattle.part_box.proofs.partition.PartBox.copy.Goals as goal

pending_one : (o : Option ℕ) → IsSome o → (k : ℕ) × (o ≡ Some k)
pending_one (Some k) h = (k, refl)
pending_one None h = absurd (true≢false (sym h))

pub load-word-requires : goal.load-word-requires
load-word-requires c =
    let key = c.key.inside in
    let wide : c.self.inside.width ≡ c.args.self.now.width = ap (λ (p : Place). p.width) c.self.view_is in
    let seen : key.seat.me.0.receiving.seen ≡ c.args.key.now.view.seen =
    ap (λ (k : Receiver). k.view.seen) c.key.view_is in
    let count : length key.seat.me.0.receiving.copied ≡ length c.args.key.now.view.copied =
    ap (λ (k : Receiver). length k.view.copied) c.key.view_is in
    let pending = pending_one c.args.key.now.view.seen c.requires.pending in (
      receiver_owned c.self.view_is c.key.view_is c.requires.own,
      omega arith,
      copies _ _ _ _ _ _ c.key.invariant.receives (seen ∙ pending.1) (omega arith),
    )
