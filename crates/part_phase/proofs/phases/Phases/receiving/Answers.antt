-- What is told of the side of a link is told of the link.
use Rattle.std.proofs.Common.{◌≡◌, refl, sym, ◌∙◌, ⊎_elim}
use Rattle.part_phase.specs.declared.phases.Phase.TheVariants.{Apart, Sending}
use Rattle.part_phase.specs.declared.sending.SendPhase.{SendPhase}
use Rattle.part_phase.specs.Phases.{receiving_in}
use Rattle.part_phase.proofs.Changes.{told_at}
use Rattle.part_phase.proofs.phases.Phases.receiving.Goals as goal

pub returns-in-Receiving-clause-phase : goal.returns-in-Receiving-clause-phase
returns-in-Receiving-clause-phase c =
    told_at receiving_in refl c.args.self.now c.args.link _ (sym c.in-Receiving.is ∙ c.at.ensures.phase)

pub returns-in-Apart-clause-phase : goal.returns-in-Apart-clause-phase
returns-in-Apart-clause-phase c =
    c.unshaped.ensures
    ∙ ⊎_elim
    (λ (is : c.at.result ≡ Apart).
    told_at receiving_in refl c.args.self.now c.args.link Apart (sym is ∙ c.at.ensures.phase))
    (λ (is : (p : SendPhase) × (c.at.result ≡ Sending p)).
    told_at receiving_in refl c.args.self.now c.args.link (Sending is.0) (sym is.1 ∙ c.at.ensures.phase))
    c.in-Apart.is
