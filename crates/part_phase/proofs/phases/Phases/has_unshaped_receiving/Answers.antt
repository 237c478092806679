-- What is told of the side of a link is told of the link.
use Rattle.std.proofs.Common.{◌≡◌, refl, sym, ◌∙◌, ⊎_elim}
use Rattle.part_phase.specs.declared.phases.Phase.TheVariants.{Apart, Sending}
use Rattle.part_phase.specs.declared.sending.SendPhase.{SendPhase}
use Rattle.part_phase.specs.Phases.{is_unshaped_receiving}
use Rattle.part_phase.proofs.Changes.{told_at}
use Rattle.part_phase.proofs.phases.Phases.has_unshaped_receiving.Goals as goal

pub returns-in-Receiving : goal.returns-in-Receiving
returns-in-Receiving c =
    told_at is_unshaped_receiving refl c.args.self.now c.args.link _ (sym c.in-Receiving.is ∙ c.at.ensures.phase)

pub returns-in-Apart : goal.returns-in-Apart
returns-in-Apart c =
    ⊎_elim
    (λ (is : c.at.result ≡ Apart).
    told_at is_unshaped_receiving refl c.args.self.now c.args.link Apart (sym is ∙ c.at.ensures.phase))
    (λ (is : (p : SendPhase) × (c.at.result ≡ Sending p)).
    told_at is_unshaped_receiving refl c.args.self.now c.args.link (Sending is.0) (sym is.1 ∙ c.at.ensures.phase))
    c.in-Apart.is
