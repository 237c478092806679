-- An open sender may store its next data word.
use Rattle.std.proofs.Common.{arith, ◌≡◌, length, ap, ◌∙◌}
use Rattle.part_box.specs.Keys.{Place, Sender}
use Rattle.part_box.proofs.Allowed.{fills}
use Rattle.part_box.proofs.Owned.{sender_owned}
use Rattle.part_box.proofs.partition.PartBox.fill.Goals as goal

pub store-requires : goal.store-requires
store-requires c =
    let key = c.key.inside in
    let wide : c.self.inside.width ≡ c.args.self.now.width = ap (λ (p : Place). p.width) c.self.view_is in
    let open_now : key.seat.me.0.sending.is_open ≡ c.args.key.now.view.is_open =
    ap (λ (k : Sender). k.view.is_open) c.key.view_is in
    let count : length key.seat.me.0.sending.filled ≡ length c.args.key.now.view.filled =
    ap (λ (k : Sender). length k.view.filled) c.key.view_is in (
      sender_owned c.self.view_is c.key.view_is c.requires.own,
      omega arith,
      fills _ _ _ _ _ _ c.key.invariant.sends (open_now ∙ c.requires.open) (omega arith) (omega arith),
    )
