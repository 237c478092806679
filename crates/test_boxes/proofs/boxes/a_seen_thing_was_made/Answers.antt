-- The load was the last one, and both keys agree on what it showed.
use Rattle.std.proofs.Common.{◌≡◌, ◌+◌, ℕ, length, Option, Some, None, IfSome, refl, sym, ap, ◌∙◌, subst}
use Rattle.part_box.specs.Keys.{Receiver}
use Rattle.part_box.specs.Rule.{GateRule}
use Rattle.part_box.proofs.Agreed.{look_now}
use Rattle.test_boxes.proofs.boxes.a_seen_thing_was_made.Goals as goal

of_one : (o : Option ℕ) (P : ℕ → Type 0) → ((t : ℕ) → o ≡ Some t → P t) → IfSome o P
of_one None P h = tt
of_one (Some t) P h = h t refl

pub returns-clause-seen : goal.returns-clause-seen
returns-clause-seen c =
    let send = c.args.send.now in
    let recv = c.args.recv.now in
    let load = c.look-seen.ensures.loaded in
    let told = c.agree.ensures.agreed in
    let width = c.args.place.now.width in
    let rule = subst (λ (k : Receiver). GateRule width told.0 send.view k.view) load.1 told.1 in
    let got = ap (λ (k : Receiver). length k.view.got + 1) (c.agree.ensures.receiver ∙ load.1) in
    of_one c.look-seen.result _
    (λ t shows. let found = look_now width told.0 send.view recv.view load.0 t rule (sym load.2 ∙ shows) in
    (found.0 ∙ sym got, found.1))
