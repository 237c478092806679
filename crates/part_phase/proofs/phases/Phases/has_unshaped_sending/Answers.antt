-- What is told of the side of a link is told of the link.
use Rattle.std.proofs.Common.{◌≡◌, refl, sym, ◌∙◌, ⊎_elim}
use Rattle.part_phase.specs.declared.phases.Phase.TheVariants.{Apart, Receiving}
use Rattle.part_phase.specs.declared.receiving.RecvPhase.{RecvPhase}
use Rattle.part_phase.specs.Phases.{is_unshaped_sending}
use Rattle.part_phase.proofs.Changes.{told_at}
use Rattle.part_phase.proofs.phases.Phases.has_unshaped_sending.Goals as goal

pub returns-in-Sending : goal.returns-in-Sending
returns-in-Sending c =
    told_at is_unshaped_sending refl c.args.self.now c.args.link _ (sym c.in-Sending.is ∙ c.at.ensures.phase)

pub returns-in-Apart : goal.returns-in-Apart
returns-in-Apart c =
    ⊎_elim
    (λ (is : c.at.result ≡ Apart).
    told_at is_unshaped_sending refl c.args.self.now c.args.link Apart (sym is ∙ c.at.ensures.phase))
    (λ (is : (p : RecvPhase) × (c.at.result ≡ Receiving p)).
    told_at is_unshaped_sending refl c.args.self.now c.args.link (Receiving is.0) (sym is.1 ∙ c.at.ensures.phase))
    c.in-Apart.is
