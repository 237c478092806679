-- Turns at boxes that find what they ask for.
use Rattle.std.proofs.Common.{◌≡◌, ◌∙◌, ℕ, ◌+◌, ◌<◌, ◌⊎◌, inl, inr, refl, sym, ap, subst, arith, Bool, true, false, List, length, Some}
use Rattle.std.specs.Prelude.{◌≢◌, cond, max, nat_lt}
use Rattle.std.specs.List.{slice_get}
use Rattle.std.proofs.lemmas.Bool.{ltb-true}
use Rattle.std.proofs.lemmas.Option.{same_Some, slice_get_within}
use Rattle.cl_state.specs.declared.asking.Answer.TheVariants as answer
use Rattle.cl_state.specs.declared.asking.Ask.{Ask}
use Rattle.cl_state.specs.Asked.{asked}
use Rattle.cl_state.specs.Rank.{Rank}
use Rattle.cl_trace.specs.declared.events.Kind.{Kind}
use Rattle.cl_machine.specs.declared.steps.Step.{Step}
use Rattle.cl_machine.specs.Boxes.{Box, Holds, IsEmpty, box_number, with_made, with_taken}
use Rattle.cl_machine.specs.Cluster.{CaseOf, Cluster, only_told, with_box}
use Rattle.cl_order_laws.specs.Turns.{IsTurn}
use Rattle.cl_order_laws.proofs.SureAlone.{IsLive}
use Rattle.cl_order_laws.proofs.Turns.{turns_law}
use Rattle.cl_first_laws.specs.Laws.{Turn}
use Rattle.cl_reduction_laws.specs.Clusters.{FindsBox, Found, IsAtBox}
use Rattle.cl_reduction_laws.specs.Patterns.{MayMeet, Pattern, by_receiver, by_sender, pattern_of_ask, unlisted}
use Rattle.cl_reduction_laws.proofs.Good.{IsOnly}
use Rattle.cl_reduction_laws.proofs.Places.{IsBeside, IsVisit, number_of}

-- ---- the kind of a turn, by what it asks

module _ (r hart : ℕ) (c new : Cluster) (x : Rank) (there : slice_get c.ranks r ≡ Some x) where
  is_turn : (turn : Turn r hart c new) → IsTurn c turn.step x (asked x hart) new
  is_turn turn =
      subst (λ h. IsTurn c turn.step x (asked x h) new) turn.hart
      (turns_law c new turn.step x (ap (slice_get c.ranks) turn.rank ∙ there) turn.leads)

  pub visit_kind : IsAtBox (asked x hart) → (turn : Turn r hart c new) → IsVisit turn.step.kind
  visit_kind at turn = go (asked x hart) at (is_turn turn)
    where
      look : (link part : ℕ) → IsTurn c turn.step x (Ask.Look link part) new → IsVisit turn.step.kind
      look link part (inl t) = subst IsVisit (sym t.0) tt
      look link part (inr t) = subst IsVisit (sym t.0) tt

      ask : (link part : ℕ) → IsTurn c turn.step x (Ask.Freed link part) new → IsVisit turn.step.kind
      ask link part (inl t) = subst IsVisit (sym t.0) tt
      ask link part (inr t) = subst IsVisit (sym (t.0).0) tt

      go : (a : Ask) → IsAtBox a → IsTurn c turn.step x a new → IsVisit turn.step.kind
      go (Ask.Ready link part bytes) at t = subst IsVisit (sym t.0) tt
      go (Ask.Look link part) at t = look link part t
      go (Ask.Freed link part) at t = ask link part t
      go _ at t = absurd at

  pub only_beside : IsOnly (asked x hart) → (turn : Turn r hart c new) → IsBeside turn.step.kind
  only_beside single turn = go (asked x hart) single (is_turn turn)
    where
      go : (a : Ask) → IsOnly a → IsTurn c turn.step x a new → IsBeside turn.step.kind
      go Ask.Plain o t = subst IsBeside (sym t.0) tt
      go Ask.Local o t = subst IsBeside (sym t.0) tt
      go Ask.Idle o t = subst IsBeside (sym t.0) tt
      go (Ask.Hub q) o t = subst IsBeside (sym t.0) tt
      go _ o t = absurd o

-- a turn that fills or empties a box, or finds it empty
abbrev pub IsFilling : Kind → Type 0
IsFilling Kind.Ready = Unit {0}
IsFilling Kind.Take = Unit {0}
IsFilling Kind.Freed = Unit {0}
IsFilling _ = ⊥

pub kind_of : (kind : Kind) → IsBeside kind ⊎ IsFilling kind
kind_of Kind.Ready = inr tt
kind_of Kind.Take = inr tt
kind_of Kind.Freed = inr tt
kind_of Kind.Plain = inl tt
kind_of Kind.Local = inl tt
kind_of Kind.Held = inl tt
kind_of Kind.Idle = inl tt
kind_of Kind.Miss = inl tt
kind_of (Kind.Hub r) = inl tt

pub filling_visits : (kind : Kind) → IsFilling kind → IsVisit kind
filling_visits Kind.Ready is = tt
filling_visits Kind.Take is = tt
filling_visits Kind.Freed is = tt
filling_visits _ is = absurd is

-- ---- what is found

pub holds_or_empty : (box : Box) (bytes : List ℕ) → Holds box bytes → IsEmpty box → ⊥
holds_or_empty box bytes holds empty =
    (let low = slice_get_within box.made box.taken _ holds in absurd (omega (arith, low, empty)))

pub finds_kept : (c d : Cluster) (w : Bool) (a : Ask) → slice_get d.boxes (number_of a) ≡ slice_get c.boxes (number_of a)
    → FindsBox c w a
    → FindsBox d w a
finds_kept c d w (Ask.Ready link part bytes) same f = (f.0, same ∙ f.1, f.2, f.3)
finds_kept c d w (Ask.Freed link part) same f = (f.0, f.1, same ∙ f.2, f.3, f.4)
finds_kept c d w (Ask.Look link part) same f = (f.0, f.1, f.2, same ∙ f.3, f.4, f.5)
finds_kept c d w _ same f = absurd f

pub finds_at_box : (c : Cluster) (w : Bool) (a : Ask) → FindsBox c w a → IsAtBox a
finds_at_box c w (Ask.Ready link part bytes) f = tt
finds_at_box c w (Ask.Freed link part) f = tt
finds_at_box c w (Ask.Look link part) f = tt
finds_at_box c w _ f = absurd f

pub box_live : (a : Ask) → IsAtBox a → IsLive a
box_live (Ask.Ready link part bytes) at = tt
box_live (Ask.Freed link part) at = tt
box_live (Ask.Look link part) at = tt
box_live _ at = absurd at

-- ---- who fills or empties a box meanwhile meets another one

module _ (c new : Cluster) (e : Step) (x : Rank) (w v : Bool) where
  -- two that are at one box don't find it empty and full
  one_box : (n m : ℕ) (full : Box) (bytes : List ℕ) (empty : Box) → n ≡ m → slice_get c.boxes n ≡ Some full
      → Holds full bytes → slice_get c.boxes m ≡ Some empty → IsEmpty empty → ⊥
  one_box n m full bytes empty same there holds here none =
      holds_or_empty empty bytes
      (subst (λ b. Holds b bytes) (same_Some full empty (sym there ∙ ap (slice_get c.boxes) same ∙ here)) holds) none

  abbrev May : Ask → Ask → Type 0
  May a b = MayMeet a (pattern_of_ask v b)

  -- of another rank's question its link and its place are known, where it may be met
  met_at : (p : ℕ) (a : Ask) (q : Pattern) → MayMeet a (cond (nat_lt p 16) q unlisted) → (p < 16) × MayMeet a q
  met_at p a q may = go (nat_lt p 16) refl may
    where
      none : (a : Ask) → MayMeet a unlisted → ⊥
      none (Ask.Ready link part bytes) may = may
      none (Ask.Freed link part) may = may
      none (Ask.Look link part) may = may
      none Ask.Plain may = may
      none Ask.Local may = may
      none Ask.Held may = may
      none Ask.Idle may = may
      none (Ask.Hub r) may = may

      go : (b : Bool) → nat_lt p 16 ≡ b → MayMeet a (cond b q unlisted) → (p < 16) × MayMeet a q
      go true e may = (ltb-true p 16 e, may)
      go false e may = absurd (none a may)

  -- boxes of two links
  two_links : (l p link part : ℕ) → p < 16 → part < 16 → link ≢ l → box_number l p ≢ box_number link part
  two_links l p link part low also apart same = apart (omega (arith, low, also, same))

  -- the one who goes first finds it empty
  beside_empty : (link part : ℕ) (a : Ask) → number_of a ≡ box_number link part → part < 16
      → ((l : ℕ) → MayMeet a (by_sender l) → link ≢ l)
      → (empty : Box) → slice_get c.boxes (box_number link part) ≡ Some empty → IsEmpty empty
      → (kind : Kind) → IsFilling kind → CaseOf c e x kind new → May a (asked x e.hart)
      → number_of (asked x e.hart) ≢ number_of a
  beside_empty link part a at low sends empty here none Kind.Ready is k may same =
      let m = met_at k.1 a (by_sender k.0) (subst (May a) k.4 may) in
      two_links k.0 k.1 link part m.0 low (sends k.0 m.1) (sym (ap number_of k.4) ∙ same ∙ at)
  beside_empty link part a at low sends empty here none Kind.Freed is k may same =
      let m = met_at k.1 a (by_sender k.0) (subst (May a) k.3 may) in
      two_links k.0 k.1 link part m.0 low (sends k.0 m.1) (sym (ap number_of k.3) ∙ same ∙ at)
  beside_empty link part a at low sends empty here none Kind.Take is k may same =
      one_box (box_number k.0 k.1) (box_number link part) k.3 k.2 empty (sym (ap number_of k.4) ∙ same ∙ at) k.5 k.6 here none
  beside_empty link part a at low sends empty here none _ is k may same = absurd is

  -- or full
  beside_full : (link part : ℕ) → part < 16 → (full : Box) (bytes : List ℕ)
      → slice_get c.boxes (box_number link part) ≡ Some full → Holds full bytes
      → (kind : Kind) → IsFilling kind → CaseOf c e x kind new → May (Ask.Look link part) (asked x e.hart)
      → number_of (asked x e.hart) ≢ box_number link part
  beside_full link part low full bytes here holds Kind.Take is k may same =
      let m = met_at k.1 (Ask.Look link part) (by_receiver k.0) (subst (May (Ask.Look link part)) k.4 may) in
      two_links k.0 k.1 link part m.0 low m.1 (sym (ap number_of k.4) ∙ same)
  beside_full link part low full bytes here holds Kind.Ready is k may same =
      one_box (box_number link part) (box_number k.0 k.1) full bytes k.3 (sym same ∙ ap number_of k.4) here holds k.5 k.6
  beside_full link part low full bytes here holds Kind.Freed is k may same =
      one_box (box_number link part) (box_number k.0 k.1) full bytes k.2 (sym same ∙ ap number_of k.3) here holds k.4 k.5
  beside_full link part low full bytes here holds _ is k may same = absurd is

  pub other_box : (a : Ask) → FindsBox c w a → (kind : Kind) → IsFilling kind → CaseOf c e x kind new
      → May a (asked x e.hart)
      → number_of (asked x e.hart) ≢ number_of a
  other_box (Ask.Ready link part bytes) f kind is k may =
      beside_empty link part (Ask.Ready link part bytes) refl f.3 (λ l m. m) f.0 f.1 f.2 kind is k may
  other_box (Ask.Freed link part) f kind is k may =
      beside_empty link part (Ask.Freed link part) refl f.4 (λ l m. m) f.1 f.2 f.3 kind is k may
  other_box (Ask.Look link part) f kind is k may = beside_full link part f.5 f.1 f.2 f.3 f.4 kind is k may
  other_box _ f kind is k may = absurd f

-- ---- a turn that finds it

pub turn_found : (r hart : ℕ) (c : Cluster) (x : Rank) (w : Bool) → slice_get c.ranks r ≡ Some x → hart < length x.harts
    → FindsBox c w (asked x hart)
    → (new : Cluster) × Found r hart c new
turn_found r hart c x w there inside finds = go (asked x hart) refl finds
  where
    at : ℕ → Kind → Step
    at stamp kind = record { rank = r; hart = hart; stamp = stamp; kind = kind }

    go : (a : Ask) → asked x hart ≡ a → FindsBox c w a → (new : Cluster) × Found r hart c new
    go (Ask.Ready link part bytes) is f =
        let e = at (x.clock + 1) Kind.Ready in
        let new = with_box c e x answer.Alone (box_number link part) (with_made f.0 (x.clock + 1) bytes) in (
          new,
          (
            record {
              step = e;
              rank = refl;
              hart = refl;
              leads = (x, there, inside, (link, part, bytes, f.0, is, f.1, f.2, refl, refl));
            },
            refl,
          ),
        )
    go (Ask.Look link part) is f =
        let stamp = max x.clock (f.1).stamp + 1 in
        let e = at stamp Kind.Take in
        let new = with_box c e x (answer.Taken f.2) (box_number link part) (with_taken f.1 stamp) in (
          new,
          (
            record {
              step = e;
              rank = refl;
              hart = refl;
              leads = (x, there, inside, (link, part, f.2, f.1, is, f.3, f.4, refl, refl));
            },
            refl,
          ),
        )
    go (Ask.Freed link part) is f =
        let stamp = max x.clock (f.1).stamp + 1 in
        let e = at stamp Kind.Freed in (
          only_told c e x answer.Freed,
          (
            record {
              step = e;
              rank = refl;
              hart = refl;
              leads = (x, there, inside, (link, part, f.1, is, f.2, f.3, refl, refl));
            },
            refl,
          ),
        )
    go _ is f = absurd f
