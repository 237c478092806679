-- A step by a deed is a step of the table, and the other way round; the table leaves no choice.
use Rattle.std.specs.Prelude.{ℕ, zero, suc, ◌+◌, ◌<◌, max, List, [], ◌∷◌, ◌++◌, ◌≡◌, slice_get, slice_set, Some}
use Rattle.std.proofs.Common.{refl, sym, ap, ◌∙◌, subst, arith}
use Rattle.std.proofs.lemmas.Option.{same_Some}
use Rattle.cl_machine.specs.Journal.{Journal, with_entry}
use Rattle.cl_state.specs.declared.asking.Answer.{Answer}
use Rattle.cl_trace.specs.declared.events.Kind.{Kind}
use Rattle.cl_state.specs.Rank.{Rank}
use Rattle.cl_state.specs.Asked.{asked}
use Rattle.cl_state.specs.Told.{told}
use Rattle.cl_deeds.specs.Deeds.{Act, Suits, IsStamp, RankMoves, answer_of, kind_of}
use Rattle.cl_machine.specs.declared.steps.Step.{Step}
use Rattle.cl_machine.specs.Boxes.{Box, Thing, Holds, box_number, with_made, with_taken}
use Rattle.cl_machine.specs.Cluster.{CaseOf, Cluster, IsRun, IsStep, ranks_told, with_box}
use Rattle.cl_machine.specs.Laws.{TableLaw, OneEnd}
use Rattle.cl_machine.specs.PartRuns.{PartsMove}
use Rattle.cl_machine.specs.Product.{box_at, entry_of}
use Rattle.cl_machine.specs.ProductSteps.{BoxMoves, Goes, JournalMoves, rank_at}

-- writing back what stands there changes nothing
pub set-same : {X : Type 0} (xs : List X) (k : ℕ) (x : X) → slice_get xs k ≡ Some x → slice_set xs k x ≡ xs
set-same [] k x h = refl
set-same (y ∷ xs) zero x h = (let e : y ≡ x = (cc) in ap (λ z. z ∷ xs) (sym e))
set-same (y ∷ xs) (suc k) x h = ap (λ zs. y ∷ zs) (set-same xs k x h)

whole : (a : Cluster) (ranks : List Rank) (journal : Journal) (boxes : List Box) → a.ranks ≡ ranks
    → a.journal ≡ journal → a.boxes ≡ boxes
    → a ≡ record { ranks = ranks; journal = journal; boxes = boxes }
whole a ranks journal boxes p q r = λ i. record { ranks = p i; journal = q i; boxes = r i }

ranks_of : (a b : Cluster) → a ≡ b → a.ranks ≡ b.ranks
ranks_of a b e = ap (λ (x : Cluster). x.ranks) e

journal_of : (a b : Cluster) → a ≡ b → a.journal ≡ b.journal
journal_of a b e = ap (λ (x : Cluster). x.journal) e

boxes_of : (a b : Cluster) → a ≡ b → a.boxes ≡ b.boxes
boxes_of a b e = ap (λ (x : Cluster). x.boxes) e

pub case_of_deed : (old : Cluster) (r h n : ℕ) (a : Act) (new : Cluster)
    → Goes old (record { rank = r; hart = h; stamp = n; act = a }) new
    → IsStep old (record { rank = r; hart = h; stamp = n; kind = kind_of a }) new
case_of_deed old r h n a new g =
    ((g.0).0, (g.0).2, (g.0).3.0, (g.0).3.1, by_act a (g.0).3.2 (g.0).3.3 ((g.0).4 ∙ ap (slice_set old.ranks r) (g.0).3.4) g.1 g.2)
  where
    s : Rank
    s = (g.0).0

    by_act : (a : Act) → Suits (asked s h) a → IsStamp s.clock a n
        → new.ranks ≡ slice_set old.ranks r (told s h (answer_of a) n)
        → JournalMoves old.journal (entry_of (record { rank = r; hart = h; stamp = n; act = a })) new.journal
        → PartsMove BoxMoves box_at old.boxes (record { rank = r; hart = h; stamp = n; act = a }) new.boxes
        → CaseOf old (record { rank = r; hart = h; stamp = n; kind = kind_of a }) s (kind_of a) new
    by_act Act.Plain asks stamp ranks journal boxes = (asks, stamp, whole new _ _ _ ranks journal boxes)
    by_act Act.Local asks stamp ranks journal boxes = (asks, stamp, whole new _ _ _ ranks journal boxes)
    by_act Act.Held asks stamp ranks journal boxes = (asks, stamp, whole new _ _ _ ranks journal boxes)
    by_act Act.Idle asks stamp ranks journal boxes = (asks, stamp, whole new _ _ _ ranks journal boxes)
    by_act (Act.Hub clock request reply) asks stamp ranks journal boxes = (
      request,
      asks,
      journal.0,
      journal.1 ∙ ap (λ c. max c old.journal.clock + 1) stamp.0,
      whole new _ _ _ ranks
          (journal.2
          ∙ ap (λ c. with_entry old.journal (record { rank = r; hart = h; clock = c; stamp = n; request = request; reply = reply })) stamp.0)
          boxes,
    )
    by_act (Act.Ready link part bytes) asks stamp ranks journal boxes = (
      link,
      part,
      bytes,
      boxes.0,
      asks,
      boxes.2,
      boxes.3.0,
      stamp,
      whole new _ _ _ ranks journal (boxes.4 ∙ ap (slice_set old.boxes (box_number link part)) boxes.3.1),
    )
    by_act (Act.Take link part gate bytes) asks stamp ranks journal boxes = (
      link,
      part,
      bytes,
      boxes.0,
      asks,
      boxes.2,
      boxes.3.0,
      stamp ∙ ap (λ g. max s.clock g + 1) boxes.3.1,
      whole new _ _ _ ranks journal (boxes.4 ∙ ap (slice_set old.boxes (box_number link part)) boxes.3.2),
    )
    by_act (Act.Miss link part) asks stamp ranks journal boxes = (link, part, asks, stamp, whole new _ _ _ ranks journal boxes)
    by_act (Act.Freed link part gate) asks stamp ranks journal boxes = (
      link,
      part,
      boxes.0,
      asks,
      boxes.2,
      boxes.3.0,
      stamp ∙ ap (λ g. max s.clock g + 1) boxes.3.1,
      whole new _ _ _ ranks journal
          (boxes.4 ∙ ap (slice_set old.boxes (box_number link part)) boxes.3.2
          ∙ set-same old.boxes (box_number link part) boxes.0 boxes.2),
    )

deed_of_case : (old : Cluster) (r h n : ℕ) (k : Kind) (new : Cluster)
    → IsStep old (record { rank = r; hart = h; stamp = n; kind = k }) new
    → (a : Act) × (kind_of a ≡ k) × Goes old (record { rank = r; hart = h; stamp = n; act = a }) new
deed_of_case old r h n k new g = by_kind k g.4
  where
    s : Rank
    s = g.0

    rank_part : (a : Act) → Suits (asked s h) a → IsStamp s.clock a n
        → new.ranks ≡ slice_set old.ranks r (told s h (answer_of a) n)
        → PartsMove RankMoves rank_at old.ranks (record { rank = r; hart = h; stamp = n; act = a }) new.ranks
    rank_part a asks stamp ranks = (s, told s h (answer_of a) n, g.1, (g.2, g.3, asks, stamp, refl), ranks)

    -- an act that touches no hub and no box
    alone : (a : Act) → Suits (asked s h) a → IsStamp s.clock a n → (b : Cluster) → new ≡ b
        → b.ranks ≡ slice_set old.ranks r (told s h (answer_of a) n) → b.journal ≡ old.journal → b.boxes ≡ old.boxes
        → PartsMove RankMoves rank_at old.ranks (record { rank = r; hart = h; stamp = n; act = a }) new.ranks
        × (new.journal ≡ old.journal) × (new.boxes ≡ old.boxes)
    alone a asks stamp b is ranks journal boxes =
        (rank_part a asks stamp (ranks_of new b is ∙ ranks), journal_of new b is ∙ journal, boxes_of new b is ∙ boxes)

    by_kind : (k : Kind) → CaseOf old (record { rank = r; hart = h; stamp = n; kind = k }) s k new
        → (a : Act) × (kind_of a ≡ k) × Goes old (record { rank = r; hart = h; stamp = n; act = a }) new
    by_kind Kind.Plain c = (Act.Plain, refl, alone Act.Plain c.0 c.1 _ c.2 refl refl refl)
    by_kind Kind.Local c = (Act.Local, refl, alone Act.Local c.0 c.1 _ c.2 refl refl refl)
    by_kind Kind.Held c = (Act.Held, refl, alone Act.Held c.0 c.1 _ c.2 refl refl refl)
    by_kind Kind.Idle c = (Act.Idle, refl, alone Act.Idle c.0 c.1 _ c.2 refl refl refl)
    by_kind (Kind.Hub reply) c =
        let up : s.clock < n = omega (arith, c.3) in (
          Act.Hub s.clock c.0 reply,
          refl,
          (rank_part (Act.Hub s.clock c.0 reply) c.1 (refl, up) (ranks_of new _ c.4), (c.2, c.3, journal_of new _ c.4), boxes_of new _ c.4),
        )
    by_kind Kind.Ready c = (
      Act.Ready c.0 c.1 c.2,
      refl,
      (
        rank_part (Act.Ready c.0 c.1 c.2) c.4 c.7 (ranks_of new _ c.8),
        journal_of new _ c.8,
        (c.3, with_made c.3 n c.2, c.5, (c.6, refl), boxes_of new _ c.8),
      ),
    )
    by_kind Kind.Take c = (
      Act.Take c.0 c.1 (c.3).stamp c.2,
      refl,
      (
        rank_part (Act.Take c.0 c.1 (c.3).stamp c.2) c.4 c.7 (ranks_of new _ c.8),
        journal_of new _ c.8,
        (c.3, with_taken c.3 n, c.5, (c.6, refl, refl), boxes_of new _ c.8),
      ),
    )
    by_kind Kind.Miss c = (Act.Miss c.0 c.1, refl, alone (Act.Miss c.0 c.1) c.2 c.3 _ c.4 refl refl refl)
    by_kind Kind.Freed c = (
      Act.Freed c.0 c.1 (c.2).stamp,
      refl,
      (
        rank_part (Act.Freed c.0 c.1 (c.2).stamp) c.3 c.6 (ranks_of new _ c.7),
        journal_of new _ c.7,
        (c.2, c.2, c.4, (c.5, refl, refl), boxes_of new _ c.7 ∙ sym (set-same old.boxes (box_number c.0 c.1) c.2 c.4)),
      ),
    )

pub table_law : TableLaw
table_law old e new = (
  λ h. subst (λ x. IsStep old x new) h.1 (case_of_deed old (h.0).rank (h.0).hart (h.0).stamp (h.0).act new h.2),
  λ h. let c = deed_of_case old e.rank e.hart e.stamp e.kind new h in (
    record { rank = e.rank; hart = e.hart; stamp = e.stamp; act = c.0 },
    (λ i. record { rank = e.rank; hart = e.hart; stamp = e.stamp; kind = c.1 i }),
    c.2,
  ),
)

-- what a box holds is one thing
held_once : (a b : Box) (xs ys : List ℕ) → a ≡ b → Holds a xs → Holds b ys → xs ≡ ys
held_once a b xs ys e p q =
    let thing = sym p ∙ (λ i. slice_get (e i).made (e i).taken) ∙ q in
    let one = same_Some _ _ thing in ap (λ (x : Thing). x.bytes) one

case_once : (old : Cluster) (e : Step) (k : Kind) (s : Rank) (a b : Cluster) → CaseOf old e s k a
    → CaseOf old e s k b → a ≡ b
case_once old e Kind.Plain s a b p q = p.2 ∙ sym q.2
case_once old e Kind.Local s a b p q = p.2 ∙ sym q.2
case_once old e Kind.Held s a b p q = p.2 ∙ sym q.2
case_once old e Kind.Idle s a b p q = p.2 ∙ sym q.2
case_once old e (Kind.Hub reply) s a b p q =
    let same : p.0 ≡ q.0 = (cc (p.1, q.1)) in
    p.4 ∙ (λ i. record {
      ranks = ranks_told old e s (Answer.Reply reply);
      journal = with_entry old.journal
          (record { rank = e.rank; hart = e.hart; clock = s.clock; stamp = e.stamp; request = same i; reply = reply });
      boxes = old.boxes;
    }) ∙ sym q.4
case_once old e Kind.Ready s a b p q =
    let link : p.0 ≡ q.0 = (cc (p.4, q.4)) in
    let part : p.1 ≡ q.1 = (cc (p.4, q.4)) in
    let bytes : p.2 ≡ q.2 = (cc (p.4, q.4)) in
    let here : p.3 ≡ q.3 = same_Some _ _ (sym p.5 ∙ (λ i. slice_get old.boxes (box_number (link i) (part i))) ∙ q.5) in
    p.8 ∙ (λ i. with_box old e s Answer.Alone (box_number (link i) (part i)) (with_made (here i) e.stamp (bytes i)))
    ∙ sym q.8
case_once old e Kind.Take s a b p q =
    let link : p.0 ≡ q.0 = (cc (p.4, q.4)) in
    let part : p.1 ≡ q.1 = (cc (p.4, q.4)) in
    let here : p.3 ≡ q.3 = same_Some _ _ (sym p.5 ∙ (λ i. slice_get old.boxes (box_number (link i) (part i))) ∙ q.5) in
    let bytes : p.2 ≡ q.2 = held_once p.3 q.3 p.2 q.2 here p.6 q.6 in
    p.8 ∙ (λ i. with_box old e s (Answer.Taken (bytes i)) (box_number (link i) (part i)) (with_taken (here i) e.stamp)) ∙ sym q.8
case_once old e Kind.Miss s a b p q = p.4 ∙ sym q.4
case_once old e Kind.Freed s a b p q = p.7 ∙ sym q.7

pub step_once : (old : Cluster) (e : Step) (a b : Cluster) → IsStep old e a → IsStep old e b → a ≡ b
step_once old e a b p q =
    let s : p.0 ≡ q.0 = same_Some _ _ (sym p.1 ∙ q.1) in
    case_once old e e.kind q.0 a b (subst (λ z. CaseOf old e z e.kind a) s p.4) q.4

pub one_end : OneEnd
one_end old a b [] p q = p ∙ sym q
one_end old a b (e ∷ es) p q =
    let same = step_once old e p.0 q.0 p.1 q.1 in one_end q.0 a b es (subst (λ c. IsRun c es a) same p.2) q.2

-- a run and one step more
pub run_more : (es : List Step) (old mid new : Cluster) (e : Step) → IsRun old es mid → IsStep mid e new
    → IsRun old (es ++ e ∷ []) new
run_more [] old mid new e r s = (new, subst (λ c. IsStep c e new) r s, refl)
run_more (x ∷ es) old mid new e r s = (r.0, r.1, run_more es r.0 mid new e r.2 s)

pub run_less : (es : List Step) (old new : Cluster) (e : Step) → IsRun old (es ++ e ∷ []) new → (mid : Cluster)
    × IsRun old es mid × IsStep mid e new
run_less [] old new e r = (old, refl, subst (IsStep old e) (sym r.2) r.1)
run_less (x ∷ es) old new e r = let h = run_less es r.0 new e r.2 in (h.0, (r.0, r.1, h.1), h.2)
