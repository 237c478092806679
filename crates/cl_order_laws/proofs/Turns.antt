-- Where a turn leads, by what its hart asks.
use Rattle.std.proofs.Common.{◌≡◌, inl, inr, refl, sym, ap, ◌∙◌, subst}
use Rattle.std.proofs.lemmas.Option.{same_Some}
use Rattle.mp_types.specs.declared.replies.Reply.{Reply}
use Rattle.cl_state.specs.declared.asking.Answer.{Answer}
use Rattle.cl_state.specs.declared.asking.Ask.{Ask}
use Rattle.cl_state.specs.Asked.{asked}
use Rattle.cl_state.specs.Rank.{Rank}
use Rattle.cl_trace.specs.declared.events.Kind.{Kind}
use Rattle.cl_machine.specs.declared.steps.Step.{Step}
use Rattle.cl_machine.specs.Cluster.{CaseOf, Cluster, ranks_told}
use Rattle.cl_machine.specs.Journal.{with_entry}
use Rattle.cl_order_laws.specs.Turns.{IsTurn, TurnsLaw}

module _ (old new : Cluster) (e : Step) (x : Rank) where
  by : (q : Ask) → asked x e.hart ≡ q → IsTurn old e x q new → IsTurn old e x (asked x e.hart) new
  by q asks turn = subst (λ a. IsTurn old e x a new) (sym asks) turn

  turn : (kind : Kind) → e.kind ≡ kind → CaseOf old e x kind new → IsTurn old e x (asked x e.hart) new
  turn Kind.Plain is c = by Ask.Plain c.0 (is, c.2)
  turn Kind.Local is c = by Ask.Local c.0 (is, c.2)
  turn Kind.Held is c = by Ask.Held c.0 (is, c.2)
  turn Kind.Idle is c = by Ask.Idle c.0 (is, c.2)
  turn (Kind.Hub r) is c =
      by (Ask.Hub c.0) c.1 (
        is ∙ ap (λ a. Kind.Hub a) c.2,
        c.4 ∙ ap (λ (a : Reply). (let k : Cluster = record {
          ranks = ranks_told old e x (Answer.Reply a);
          journal = with_entry old.journal
              (record { rank = e.rank; hart = e.hart; clock = x.clock; stamp = e.stamp; request = c.0; reply = a });
          boxes = old.boxes;
        } in k)) c.2,
      )
  turn Kind.Ready is c = by (Ask.Ready c.0 c.1 c.2) c.4 (is, (c.3, c.5, c.6, c.8))
  turn Kind.Take is c = by (Ask.Look c.0 c.1) c.4 (inr (is, (c.2, c.3, c.5, c.6, c.8)))
  turn Kind.Freed is c = by (Ask.Freed c.0 c.1) c.3 (inr ((is, c.7), (c.2, c.4, c.5)))
  turn Kind.Miss is c = elim c.2 [
    | inl look ↦ by (Ask.Look c.0 c.1) look (inl (is, c.4))
    | inr freed ↦ by (Ask.Freed c.0 c.1) freed (inl (is, c.4))
  ]

pub turns_law : TurnsLaw
turns_law old new e rank here leads =
    let same : leads.0 ≡ rank = same_Some leads.0 rank (sym leads.1 ∙ here) in
    turn old new e rank e.kind refl (subst (λ x. CaseOf old e x e.kind new) same leads.3)
