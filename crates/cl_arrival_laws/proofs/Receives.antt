-- What each act makes of the receiver's side of one link.
use Rattle.std.specs.Prelude.{ℕ, ◌<◌, ◌≡◌, ◌≢◌, ◌⊎◌, List, slice_get, Bool, true, false}
use Rattle.std.specs.Prelude.{Option, None, Some, if◌then◌else◌}
use Rattle.std.specs.Option.{option_map}
use Rattle.std.proofs.Common.{refl, sym, ap, ◌∙◌, subst, arith}
use Rattle.std.proofs.lemmas.Bool.{eqb-true}
use Rattle.std.proofs.lemmas.Bool.Decides.{eqb_tells}
use mathlib.Core.Logic.{inl, inr}
use Rattle.rv_memory.specs.Memory.{Memory}
use Rattle.rv_image_types.specs.declared.images.ImageVersion.{ImageVersion}
use Rattle.mp_types.specs.declared.replies.Reply.{Reply}
use Rattle.mp_types.specs.declared.replies.Reply.TheVariants as reply
use Rattle.mp_types.specs.declared.requests.Request.{Request}
use Rattle.mp_types.specs.declared.requests.Request.TheVariants as request
use Rattle.part_phase.specs.declared.phases.Phase.{Phase}
use Rattle.part_phase.specs.declared.phases.Phase.TheVariants.{Apart, Sending, Receiving}
use Rattle.part_phase.specs.declared.receiving.RecvPhase.{RecvPhase}
use Rattle.part_phase.specs.declared.sending.SendPhase.{SendPhase}
use Rattle.part_phase.specs.Phases.{begun, changed_at, is_unshaped_receiving, is_unshaped_sending, on_receiving}
use Rattle.part_phase.specs.Phases.{on_sending, receiving_at, receiving_in}
use Rattle.part_phase.specs.Receiving.{begun_receiving, cut_into, is_cut, one_taken, shaped_receiving}
use Rattle.part_phase.specs.Receiving.{unshaped_receiving}
use Rattle.part_phase.specs.Sending.{one_freed, readied, shaped_sending}
use Rattle.cl_calls.specs.declared.sites.Site.{Site}
use Rattle.cl_state.specs.declared.asking.Answer.TheVariants as answer
use Rattle.cl_state.specs.declared.asking.Ask.{Ask}
use Rattle.cl_state.specs.Asked.{asked}
use Rattle.cl_state.specs.Moves.{AsksLook, Known, begun_at, moved, moved_by_hub, started_by}
use Rattle.cl_state.specs.Moves.{with_cut, with_receiving, with_sending}
use Rattle.cl_state.specs.Rank.{Rank}
use Rattle.cl_state.proofs.Known.{known as known_of}
use Rattle.cl_state.proofs.Phases.{moved_by}
use Rattle.cl_deeds.specs.Deeds.{Act, Suits, Deed, RankMoves, answer_of}
use Rattle.cl_box_laws.proofs.Sides.{changed_other, changed_same}

-- a transfer gets the side, which none had
abbrev pub IsShaped : RecvPhase → RecvPhase → Type 0
IsShaped p q = (parts : ℕ) × (size : ℕ) × (p.parts ≡ 0) × (q ≡ shaped_receiving parts size p)

-- it learns the sender's cut
abbrev pub IsCutSo : ImageVersion → RecvPhase → RecvPhase → Type 0
IsCutSo version p q =
    (boxes : ℕ) × (bytes : ℕ) × (is_cut version p boxes bytes ≡ true) × (q ≡ cut_into boxes bytes p)

-- what no Take does to a side
abbrev pub SideMoves : ImageVersion → RecvPhase → RecvPhase → Type 0
SideMoves version p q = (q ≡ p) ⊎ ((q ≡ begun_receiving p) ⊎ (IsShaped p q ⊎ IsCutSo version p q))

-- what a Take does
abbrev pub IsTakenFrom : ℕ → RecvPhase → RecvPhase → Type 0
IsTakenFrom box p q = AsksLook p box × (q ≡ one_taken box p)

-- the side of link k, by what an act did
abbrev pub ActDoes : ImageVersion → ℕ → Act → RecvPhase → RecvPhase → Type 0
ActDoes version k (Act.Take link box gate bytes) p q =
    ((link ≡ k) × IsTakenFrom box p q) ⊎ ((link ≢ k) × (q ≡ p))
ActDoes version k _ p q = SideMoves version p q

-- ---- one link's phase changed

at_link : (k link : ℕ) (f : Phase → Phase) (old : List Phase) (P : RecvPhase → Type 0)
    → (link ≡ k → P (receiving_in (option_map f (slice_get old k))))
    → (link ≢ k → P (receiving_at old k))
    → P (receiving_at (changed_at link f old) k)
at_link k link f old P here there =
    elim (eqb_tells link k) [
      | inl same ↦ subst (λ j. P (receiving_in (slice_get (changed_at j f old) k))) (sym same.1)
          (subst (λ o. P (receiving_in o)) (sym (changed_same k f old)) (here same.1))
      | inr other ↦ subst (λ o. P (receiving_in o)) (sym (changed_other link k f old other.1)) (there other.1)
    ]

-- a change of the receiver's side
its_side : (change : RecvPhase → RecvPhase) (o : Option Phase)
    → (receiving_in (option_map (on_receiving change) o) ≡ change (receiving_in o))
    ⊎ ((receiving_in o ≡ unshaped_receiving) × (receiving_in (option_map (on_receiving change) o) ≡ receiving_in o))
its_side change None = inr (refl, refl)
its_side change (Some Apart) = inr (refl, refl)
its_side change (Some (Sending p)) = inr (refl, refl)
its_side change (Some (Receiving p)) = inl refl

not_its_side : (change : SendPhase → SendPhase) (o : Option Phase)
    → receiving_in (option_map (on_sending change) o) ≡ receiving_in o
not_its_side change None = refl
not_its_side change (Some Apart) = refl
not_its_side change (Some (Sending p)) = refl
not_its_side change (Some (Receiving p)) = refl

begun_side : (o : Option Phase)
    → (receiving_in (option_map begun o) ≡ receiving_in o)
    ⊎ (receiving_in (option_map begun o) ≡ begun_receiving (receiving_in o))
begun_side None = inl refl
begun_side (Some Apart) = inl refl
begun_side (Some (Sending p)) = inl refl
begun_side (Some (Receiving p)) = inr refl

shapeless : (o : Option Phase) → is_unshaped_receiving o ≡ true → (receiving_in o).parts ≡ 0
shapeless None e = absurd (cc)
shapeless (Some Apart) e = absurd (cc)
shapeless (Some (Sending p)) e = absurd (cc)
shapeless (Some (Receiving p)) e = eqb-true p.parts 0 e

module _ (site : Site) (k : ℕ) (old new : List Phase) where
  abbrev p : RecvPhase
  p = receiving_at old k

  abbrev Does : RecvPhase → Type 0
  Does q = SideMoves site.version p q

  same : new ≡ old → Does (receiving_at new k)
  same e = inl (ap (λ ps. receiving_at ps k) e)

  sending : (link : ℕ) (change : SendPhase → SendPhase) → new ≡ changed_at link (on_sending change) old
      → Does (receiving_at new k)
  sending link change e =
      subst (λ ps. Does (receiving_at ps k)) (sym e)
      (at_link k link (on_sending change) old Does (λ here. inl (not_its_side change (slice_get old k)))
      (λ there. inl refl))

  begins : (link : Option ℕ) → new ≡ begun_at link old → Does (receiving_at new k)
  begins None e = same e
  begins (Some link) e =
      subst (λ ps. Does (receiving_at ps k)) (sym e)
      (at_link k link begun old Does
      (λ here. elim (begun_side (slice_get old k)) [ inl h ↦ inl h | inr h ↦ inr (inl h) ]) (λ there. inl refl))

  shaped : (link parts size : ℕ) → is_unshaped_receiving (slice_get old link) ≡ true
      → new ≡ changed_at link (on_receiving (shaped_receiving parts size)) old → Does (receiving_at new k)
  shaped link parts size none e =
      subst (λ ps. Does (receiving_at ps k)) (sym e)
      (at_link k link (on_receiving (shaped_receiving parts size)) old Does
      (λ here.
      let no_parts = shapeless (slice_get old k) (subst (λ j. is_unshaped_receiving
      (slice_get old j) ≡ true) here none) in
      elim (its_side (shaped_receiving parts size) (slice_get old k)) [
        | inl h ↦ inr (inr (inl (parts, size, no_parts, h)))
        | inr h ↦ inl h.1
      ])
      (λ there. inl refl))

  cut : (link boxes bytes : ℕ) → is_cut site.version (receiving_at old link) boxes bytes ≡ true
      → new ≡ changed_at link (on_receiving (cut_into boxes bytes)) old → Does (receiving_at new k)
  cut link boxes bytes fits e =
      subst (λ ps. Does (receiving_at ps k)) (sym e)
      (at_link k link (on_receiving (cut_into boxes bytes)) old Does
      (λ here.
      let mine = subst (λ j. is_cut site.version (receiving_at old j) boxes bytes ≡ true) here fits in
      elim (its_side (cut_into boxes bytes) (slice_get old k)) [
        | inl h ↦ inr (inr (inr (boxes, bytes, mine, h)))
        | inr h ↦ inl h.1
      ])
      (λ there. inl refl))

  taken : (link box : ℕ) → AsksLook (receiving_at old link) box
      → new ≡ changed_at link (on_receiving (one_taken box)) old
      → ((link ≡ k) × IsTakenFrom box p (receiving_at new k)) ⊎ ((link ≢ k) × (receiving_at new k ≡ p))
  taken link box asks e =
      subst (λ ps. ((link ≡ k) × IsTakenFrom box p (receiving_at ps k)) ⊎ ((link ≢ k) × (receiving_at ps k ≡ p)))
      (sym e)
      (at_link k link (on_receiving (one_taken box)) old
      (λ q. ((link ≡ k) × IsTakenFrom box p q) ⊎ ((link ≢ k) × (q ≡ p)))
      (λ here.
      let mine = subst (λ j. AsksLook (receiving_at old j) box) here asks in
      elim (its_side (one_taken box) (slice_get old k)) [
        | inl h ↦ inl (here, (mine, h))
        | inr h ↦ absurd
            (let known = subst (λ (q : RecvPhase). 0 < q.boxes) h.0 mine.known in omega (arith, known))
      ])
      (λ there. inr (there, refl)))

  -- ---- the hub's replies

  by_link_sending : (parts size : ℕ) (r : Reply) → new ≡ with_sending parts size (answer.Reply r) old
      → Does (receiving_at new k)
  by_link_sending parts size (reply.Link link) m = go (is_unshaped_sending (slice_get old link)) m
    where
      go : (b : Bool) → new ≡ (if b then changed_at link (on_sending (shaped_sending parts size)) old else old)
          → Does (receiving_at new k)
      go true m = sending link (shaped_sending parts size) m
      go false m = same m
  by_link_sending parts size _ m = same m

  by_link_receiving : (parts size : ℕ) (r : Reply) → new ≡ with_receiving parts size (answer.Reply r) old
      → Does (receiving_at new k)
  by_link_receiving parts size (reply.Link link) m = go (is_unshaped_receiving (slice_get old link)) refl m
    where
      go : (b : Bool) → is_unshaped_receiving (slice_get old link) ≡ b
          → new ≡ (if b then changed_at link (on_receiving (shaped_receiving parts size)) old else old)
          → Does (receiving_at new k)
      go true e m = shaped link parts size e m
      go false e m = same m
  by_link_receiving parts size _ m = same m

  by_cut : (link : ℕ) (r : Reply) → new ≡ with_cut site link (answer.Reply r) old → Does (receiving_at new k)
  by_cut link (reply.Cut boxes bytes) m = go (is_cut site.version (receiving_at old link) boxes bytes) refl m
    where
      go : (b : Bool) → is_cut site.version (receiving_at old link) boxes bytes ≡ b
          → new ≡ (if b then changed_at link (on_receiving (cut_into boxes bytes)) old else old)
          → Does (receiving_at new k)
      go true e m = cut link boxes bytes e m
      go false e m = same m
  by_cut link _ m = same m

  by_hub : (q : Request) (r : Reply) → new ≡ moved_by_hub site q (answer.Reply r) old → Does (receiving_at new k)
  by_hub (request.Init true comm peer tag parts size) r m = by_link_sending parts size r m
  by_hub (request.Init false comm peer tag parts size) r m = by_link_receiving parts size r m
  by_hub (request.Cut link) r m = by_cut link r m
  by_hub _ r m = same m

  -- ---- each act

  module _ (memory : Memory) (starts : Option ℕ) where
    by_act : (asks : Ask) (a : Act) → Suits asks a → new ≡ moved site starts asks (answer_of a) old
        → Known site memory old asks → ActDoes site.version k a p (receiving_at new k)
    by_act asks Act.Plain e m known = same (subst (λ q. new ≡ moved site starts q answer.Alone old) e m)
    by_act asks Act.Local e m known = begins starts (subst (λ q. new ≡ moved site starts q answer.Alone old) e m)
    by_act asks (Act.Hub clock request reply) e m known =
        by_hub request reply (subst (λ q. new ≡ moved site starts q (answer.Reply reply) old) e m)
    by_act asks (Act.Ready link part bytes) e m known =
        sending link (readied part) (subst (λ q. new ≡ moved site starts q answer.Alone old) e m)
    by_act asks (Act.Take link box gate bytes) e m known =
        taken link box (subst (Known site memory old) e known)
        (subst (λ q. new ≡ moved site starts q (answer.Taken bytes) old) e m)
    by_act asks (Act.Miss link part) (inl e) m known = same (subst
        (λ q. new ≡ moved site starts q answer.Missed old) e m)
    by_act asks (Act.Miss link part) (inr e) m known = same (subst
        (λ q. new ≡ moved site starts q answer.Missed old) e m)
    by_act asks (Act.Freed link part gate) e m known =
        sending link one_freed (subst (λ q. new ≡ moved site starts q answer.Freed old) e m)
    by_act asks Act.Held e m known = same (subst (λ q. new ≡ moved site starts q answer.Alone old) e m)
    by_act asks Act.Idle e m known = same (subst (λ q. new ≡ moved site starts q answer.Alone old) e m)

-- what a turn does to the receiver's side of a link
pub does : (k : ℕ) (old new : Rank) (d : Deed) → RankMoves old d new
    → ActDoes old.site.version k d.act (receiving_at old.phases k) (receiving_at new.phases k)
does k old new d m =
    by_act old.site k old.phases new.phases old.memory (started_by old d.hart) (asked old d.hart) d.act m.2
    (ap (λ (r : Rank). r.phases) m.4 ∙ moved_by old d.hart (answer_of d.act) d.stamp) (known_of old d.hart)
