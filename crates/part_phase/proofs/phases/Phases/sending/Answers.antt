-- What is told of the side of a link is told of the link.
use Rattle.std.proofs.Common.{◌≡◌, refl, sym, ◌∙◌, ⊎_elim}
use Rattle.part_phase.specs.declared.phases.Phase.TheVariants.{Apart, Receiving}
use Rattle.part_phase.specs.declared.receiving.RecvPhase.{RecvPhase}
use Rattle.part_phase.specs.Phases.{sending_in}
use Rattle.part_phase.proofs.Changes.{told_at}
use Rattle.part_phase.proofs.phases.Phases.sending.Goals as goal

pub returns-in-Sending-clause-phase : goal.returns-in-Sending-clause-phase
returns-in-Sending-clause-phase c =
    told_at sending_in refl c.args.self.now c.args.link _ (sym c.in-Sending.is ∙ c.at.ensures.phase)

pub returns-in-Apart-clause-phase : goal.returns-in-Apart-clause-phase
returns-in-Apart-clause-phase c =
    c.unshaped.ensures
    ∙ ⊎_elim
    (λ (is : c.at.result ≡ Apart).
    told_at sending_in refl c.args.self.now c.args.link Apart (sym is ∙ c.at.ensures.phase))
    (λ (is : (p : RecvPhase) × (c.at.result ≡ Receiving p)).
    told_at sending_in refl c.args.self.now c.args.link (Receiving is.0) (sym is.1 ∙ c.at.ensures.phase))
    c.in-Apart.is
