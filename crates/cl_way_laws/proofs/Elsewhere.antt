-- Turns that don't ask the hub.
use Rattle.std.proofs.Common.{◌≡◌, ◌∙◌, ℕ, inl, inr, sym, ap, Bool, List}
use Rattle.std.specs.List.{slice_set}
use Rattle.mp_types.specs.declared.requests.Request.{Request}
use Rattle.cl_state.specs.declared.asking.Answer.{Answer}
use Rattle.cl_state.specs.declared.asking.Answer.TheVariants as answer
use Rattle.cl_state.specs.declared.asking.Ask.{Ask}
use Rattle.cl_state.specs.Asked.{asked}
use Rattle.cl_state.specs.Rank.{Rank}
use Rattle.cl_state.specs.Told.{told}
use Rattle.cl_trace.specs.declared.events.Kind.{Kind}
use Rattle.cl_machine.specs.declared.steps.Step.{Step}
use Rattle.cl_machine.specs.Cluster.{CaseOf, Cluster}
use Rattle.cl_machine.specs.Journal.{Journal}
use Rattle.cl_way_laws.specs.Clusters.{IsElsewhere, WayCluster, with_journal}
use Rattle.cl_way_laws.specs.Met.{met_by}

-- an answer that isn't the hub's
abbrev pub IsNoReply : Answer → Type 0
IsNoReply (answer.Reply x) = ⊥
IsNoReply _ = Unit {0}

module _ (w : WayCluster) (one : Journal) (e : Step) (x : Rank) (new : Cluster) where
  -- the rank doesn't ask the hub
  pub asks_elsewhere : (kind : Kind) → IsElsewhere kind → CaseOf (with_journal w one) e x kind new → (q : Request)
      → asked x e.hart ≡ Ask.Hub q → ⊥
  asks_elsewhere Kind.Plain is t q asks = (let k = sym t.0 ∙ asks in absurd (cc))
  asks_elsewhere Kind.Local is t q asks = (let k = sym t.0 ∙ asks in absurd (cc))
  asks_elsewhere Kind.Held is t q asks = (let k = sym t.0 ∙ asks in absurd (cc))
  asks_elsewhere Kind.Idle is t q asks = (let k = sym t.0 ∙ asks in absurd (cc))
  asks_elsewhere (Kind.Hub reply) is t q asks = absurd is
  asks_elsewhere Kind.Ready is t q asks = (let k = sym t.4 ∙ asks in absurd (cc))
  asks_elsewhere Kind.Take is t q asks = (let k = sym t.4 ∙ asks in absurd (cc))
  asks_elsewhere Kind.Miss is t q asks = elim t.2 [
    | inl look ↦ (let k = sym look ∙ asks in absurd (cc))
    | inr freed ↦ (let k = sym freed ∙ asks in absurd (cc))
  ]
  asks_elsewhere Kind.Freed is t q asks = (let k = sym t.3 ∙ asks in absurd (cc))

  -- the same turn of a rank that asks the same, in a cluster with these ranks and other calls
  module _ (other : Journal) (ranks : List Rank) (d : ℕ → Bool) where
    abbrev y : Rank
    y = met_by d x

    abbrev pub there : Cluster
    there = record { ranks = ranks; journal = other; boxes = w.boxes }

    abbrev pub moved : Answer → Cluster
    moved a = record { ranks = slice_set ranks e.rank (told y e.hart a e.stamp); journal = other; boxes = new.boxes }

    -- with the boxes of this cluster
    abbrev with_boxes_of : Answer → Cluster → Cluster
    with_boxes_of a n =
        record { ranks = slice_set ranks e.rank (told y e.hart a e.stamp); journal = other; boxes = n.boxes }

    pub record MovesToo (kind : Kind) : Type 0 where
      pub told_this : Answer
      pub no_reply : IsNoReply told_this
      pub too : CaseOf there e y kind (moved told_this)
      pub ranks_are : new.ranks ≡ slice_set w.ranks e.rank (told x e.hart told_this e.stamp)

    pub moves_too : (kind : Kind) → IsElsewhere kind → asked y e.hart ≡ asked x e.hart
        → CaseOf (with_journal w one) e x kind new
        → MovesToo kind
    moves_too Kind.Plain is asks t = record {
      told_this = answer.Alone;
      no_reply = tt;
      too = (asks ∙ t.0, t.1, ap (with_boxes_of answer.Alone) t.2);
      ranks_are = ap (λ (n : Cluster). n.ranks) t.2;
    }
    moves_too Kind.Local is asks t = record {
      told_this = answer.Alone;
      no_reply = tt;
      too = (asks ∙ t.0, t.1, ap (with_boxes_of answer.Alone) t.2);
      ranks_are = ap (λ (n : Cluster). n.ranks) t.2;
    }
    moves_too Kind.Held is asks t = record {
      told_this = answer.Alone;
      no_reply = tt;
      too = (asks ∙ t.0, t.1, ap (with_boxes_of answer.Alone) t.2);
      ranks_are = ap (λ (n : Cluster). n.ranks) t.2;
    }
    moves_too Kind.Idle is asks t = record {
      told_this = answer.Alone;
      no_reply = tt;
      too = (asks ∙ t.0, t.1, ap (with_boxes_of answer.Alone) t.2);
      ranks_are = ap (λ (n : Cluster). n.ranks) t.2;
    }
    moves_too (Kind.Hub reply) is asks t = absurd is
    moves_too Kind.Ready is asks t = record {
      told_this = answer.Alone;
      no_reply = tt;
      too = (t.0, t.1, t.2, t.3, asks ∙ t.4, t.5, t.6, t.7, ap (with_boxes_of answer.Alone) t.8);
      ranks_are = ap (λ (n : Cluster). n.ranks) t.8;
    }
    moves_too Kind.Take is asks t = record {
      told_this = answer.Taken t.2;
      no_reply = tt;
      too = (t.0, t.1, t.2, t.3, asks ∙ t.4, t.5, t.6, t.7, ap (with_boxes_of (answer.Taken t.2)) t.8);
      ranks_are = ap (λ (n : Cluster). n.ranks) t.8;
    }
    moves_too Kind.Miss is asks t = record {
      told_this = answer.Missed;
      no_reply = tt;
      too = (
        t.0,
        t.1,
        elim t.2 [ inl look ↦ inl (asks ∙ look) | inr freed ↦ inr (asks ∙ freed) ],
        t.3,
        ap (with_boxes_of answer.Missed) t.4,
      );
      ranks_are = ap (λ (n : Cluster). n.ranks) t.4;
    }
    moves_too Kind.Freed is asks t = record {
      told_this = answer.Freed;
      no_reply = tt;
      too = (t.0, t.1, t.2, asks ∙ t.3, t.4, t.5, t.6, ap (with_boxes_of answer.Freed) t.7);
      ranks_are = ap (λ (n : Cluster). n.ranks) t.7;
    }
