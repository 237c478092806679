-- A box that isn't wanted is passed over, and so are those that end before the partition begins.
use Rattle.std.proofs.Common.{◌≡◌, ℕ, Bool, true, false, refl, ◌∙◌, sym, ap}
use Rattle.std.specs.Prelude.{◌&&◌}
use Rattle.part_phase.specs.Receiving.{is_left, overlaps}
use Rattle.part_phase.proofs.Lowest.{from, skips}
use Rattle.part_phase.proofs.receiving.RecvPhase.next_of.Goals as goal

none_with : (b : Bool) → (b && false) ≡ false
none_with true = refl
none_with false = refl

pub loop-i-init : goal.loop-i-init
loop-i-init c =
    let phase = c.args.self.now in
    let wanted = λ (place : ℕ). is_left phase.taken place && overlaps phase c.args.part place in
    from wanted c.first_over-i.result phase.boxes c.first_over-i.ensures.few (λ place low.
    ap (λ b. is_left phase.taken place && b) (c.first_over-i.ensures.before place low) ∙ none_with _)

pub loop-i-preserved : goal.loop-i-preserved
loop-i-preserved c =
    let phase = c.args.self.now in
    let wanted = λ (place : ℕ). is_left phase.taken place && overlaps phase c.args.part place in
    c.loop-i.invariant ∙ skips wanted c.loop-i.i phase.boxes c.loop-i-test.true (sym c.wants.ensures ∙ c.if-wants.false)
