-- An end stays one.
use Rattle.std.proofs.Common.{◌≡◌, ℕ, ◌⊎◌, inl, inr, List, sym, ◌∙◌, subst, arith}
use Rattle.std.proofs.lemmas.Option.{slice_get_within}
use Rattle.cl_state.specs.declared.asking.Answer.{Answer}
use Rattle.cl_state.specs.declared.asking.Ask.{Ask}
use Rattle.cl_state.specs.Asked.{asked}
use Rattle.cl_state.specs.Rank.{Rank}
use Rattle.cl_state_laws.specs.Vain.{IsStopped, mode_of}
use Rattle.cl_state_laws.proofs.Vain.{vain_law as rank_vain}
use Rattle.cl_trace.specs.declared.events.Kind.{Kind}
use Rattle.cl_machine.specs.declared.steps.Step.{Step}
use Rattle.cl_machine.specs.Boxes.{Box, Holds, IsEmpty}
use Rattle.cl_machine.specs.Cluster.{CaseOf, Cluster}
use Rattle.cl_order_laws.specs.Closed.{IsInVain, WaitsInVain}
use Rattle.cl_order_laws.specs.Laws.{EndStaysLaw, IsVainTurn}
use Rattle.cl_order_laws.proofs.Deadlocks.{ends_law}
use Rattle.cl_order_laws.proofs.Vain.{vain_law}

nothing_held : (box : Box) (bytes : List ℕ) → IsEmpty box → Holds box bytes → ⊥
nothing_held box bytes empty holds =
    let low = slice_get_within box.made box.taken _ holds in absurd (omega (arith, low, empty))

module _ (old new : Cluster) (e : Step) (x : Rank) where
  idle : IsStopped (mode_of x e.hart) → asked x e.hart ≡ Ask.Idle
  idle stopped = ((rank_vain.stopped) x e.hart e.stamp Answer.Alone stopped).0

  by_stopped : (kind : Kind) → CaseOf old e x kind new → IsStopped (mode_of x e.hart) → IsVainTurn x e.hart kind
  by_stopped Kind.Idle c stopped = stopped
  by_stopped Kind.Plain c stopped = (let i = idle stopped in absurd (cc))
  by_stopped Kind.Local c stopped = (let i = idle stopped in absurd (cc))
  by_stopped Kind.Held c stopped = (let i = idle stopped in absurd (cc))
  by_stopped (Kind.Hub r) c stopped = (let i = sym (idle stopped) ∙ c.1 in absurd (cc))
  by_stopped Kind.Ready c stopped = (let i = sym (idle stopped) ∙ c.4 in absurd (cc))
  by_stopped Kind.Take c stopped = (let i = sym (idle stopped) ∙ c.4 in absurd (cc))
  by_stopped Kind.Freed c stopped = (let i = sym (idle stopped) ∙ c.3 in absurd (cc))
  by_stopped Kind.Miss c stopped = elim c.2 [
    | inl look ↦ (let i = sym (idle stopped) ∙ look in absurd (cc))
    | inr freed ↦ (let i = sym (idle stopped) ∙ freed in absurd (cc))
  ]

  by_waiting : (kind : Kind) → CaseOf old e x kind new → WaitsInVain old e.rank x e.hart → IsVainTurn x e.hart kind
  by_waiting Kind.Held c waits = waits.0
  by_waiting Kind.Miss c waits = waits.0
  by_waiting Kind.Plain c waits = absurd (subst (IsInVain old e.rank) c.0 waits.1)
  by_waiting Kind.Local c waits = absurd (subst (IsInVain old e.rank) c.0 waits.1)
  by_waiting Kind.Idle c waits = absurd (subst (IsInVain old e.rank) c.0 waits.1)
  by_waiting Kind.Ready c waits = absurd (subst (IsInVain old e.rank) c.4 waits.1)
  by_waiting (Kind.Hub r) c waits =
      subst (λ a. IsVainTurn x e.hart (Kind.Hub a)) (sym (c.2 ∙ subst (IsInVain old e.rank) c.1 waits.1)) waits.0
  by_waiting Kind.Take c waits =
      absurd (nothing_held c.3 c.2 ((subst (IsInVain old e.rank) c.4 waits.1) c.3 c.5) c.6)
  by_waiting Kind.Freed c waits = absurd ((subst (IsInVain old e.rank) c.3 waits.1) c.2 c.4 c.5)

  pub by_end : (kind : Kind) → CaseOf old e x kind new → IsStopped (mode_of x e.hart) ⊎ WaitsInVain old e.rank x e.hart
      → IsVainTurn x e.hart kind
  by_end kind c (inl stopped) = by_stopped kind c stopped
  by_end kind c (inr waits) = by_waiting kind c waits

pub end_stays_law : EndStaysLaw
end_stays_law plans old new e n reached end hart step =
    let x = step.0 in
    let how : IsStopped (mode_of x e.hart) ⊎ WaitsInVain old e.rank x e.hart =
    subst (λ h. IsStopped (mode_of x h) ⊎ WaitsInVain old e.rank x h) (sym hart) (end e.rank n x step.1) in
    let alike = vain_law old new e x reached step.1 (by_end old new e x e.kind step.4 how) step in
    (alike, ends_law.ends plans old new alike end)
