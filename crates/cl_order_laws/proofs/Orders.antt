-- The turns of an order lead to one cluster.
use Rattle.std.proofs.Common.{◌≡◌, ℕ, ◌+◌, inl, inr, Bool, true, false, List, [], ◌∷◌, map, Some, refl, sym, ap, ◌∙◌, subst}
use Rattle.std.specs.Prelude.{max}
use Rattle.std.specs.List.{slice_get}
use Rattle.std.proofs.lemmas.Option.{same_Some}
use Rattle.mp_types.specs.declared.replies.Reply.{Reply}
use Rattle.cl_state.specs.declared.asking.Answer.{Answer}
use Rattle.cl_state.specs.declared.asking.Ask.{Ask}
use Rattle.cl_state.specs.Asked.{asked}
use Rattle.cl_state.specs.Rank.{Rank}
use Rattle.cl_trace.specs.declared.events.Kind.{Kind}
use Rattle.cl_machine.specs.declared.steps.Step.{Step}
use Rattle.cl_machine.specs.Boxes.{Box, Holds, Thing, box_number, with_made, with_taken}
use Rattle.cl_machine.specs.Cluster.{CaseOf, Cluster, IsRun, IsStep, only_told, ranks_told, with_box}
use Rattle.cl_machine.specs.Journal.{reply_in, with_entry}
use Rattle.cl_order_laws.specs.Closed.{FollowPlans, Plans, Turns, one_more}
use Rattle.cl_order_laws.specs.Orders.{OneOrderLaw, is_miss, turn_of}
use Rattle.cl_order_laws.specs.Turns.{IsBox, called}

-- ---- one turn

module _ (old : Cluster) (r hart : ℕ) (x : Rank) where
  abbrev at : ℕ → Kind → Step
  at stamp kind = record { rank = r; hart = hart; stamp = stamp; kind = kind }

  -- the turn is this one, and tells the rank this alone
  abbrev Only : Step → Answer → Step → Cluster → Type 0
  Only step answer e new = (e ≡ step) × (new ≡ only_told old step x answer)

  -- the turn is this one, and changes this box
  abbrev Boxed : Step → Answer → ℕ → Box → Step → Cluster → Type 0
  Boxed step answer number box e new = (e ≡ step) × (new ≡ with_box old step x answer number box)

  abbrev next : ℕ
  next = x.clock + 1

  abbrev after_box : Box → ℕ
  after_box box = max x.clock box.stamp + 1

  -- the turn makes the box ready
  abbrev Makes : ℕ → List ℕ → Box → Step → Cluster → Type 0
  Makes number bytes box = Boxed (at next Kind.Ready) Answer.Alone number (with_made box next bytes)

  -- the turn takes what is in the box
  abbrev Takes : ℕ → List ℕ → Box → Step → Cluster → Type 0
  Takes number bytes box =
      Boxed (at (after_box box) Kind.Take) (Answer.Taken bytes) number (with_taken box (after_box box))

  abbrev call : Reply → Step
  call reply = at (max x.clock old.journal.clock + 1) (Kind.Hub reply)

  -- which turn it is and where it leads, by what the hart asks, and whether it misses
  abbrev IsWay : Ask → Bool → Step → Cluster → Type 0
  IsWay Ask.Plain missed e new = Only (at next Kind.Plain) Answer.Alone e new
  IsWay Ask.Local missed e new = Only (at next Kind.Local) Answer.Alone e new
  IsWay Ask.Held missed e new = Only (at next Kind.Held) Answer.Alone e new
  IsWay Ask.Idle missed e new = Only (at next Kind.Idle) Answer.Alone e new
  IsWay (Ask.Hub request) missed e new =
      (e ≡ call (reply_in old.journal r request)) × (new ≡ called old (call (reply_in old.journal r request)) x request)
  IsWay (Ask.Ready link part bytes) missed e new =
      (box : Box) × IsBox old link part box × Makes (box_number link part) bytes box e new
  IsWay (Ask.Look link part) true e new = Only (at next Kind.Miss) Answer.Missed e new
  IsWay (Ask.Look link part) false e new =
      (box : Box) × IsBox old link part box × (bytes : List ℕ) × Holds box bytes
      × Takes (box_number link part) bytes box e new
  IsWay (Ask.Freed link part) true e new = Only (at next Kind.Miss) Answer.Missed e new
  IsWay (Ask.Freed link part) false e new =
      (box : Box) × IsBox old link part box × Only (at (after_box box) Kind.Freed) Answer.Freed e new

  abbrev Same : Step → Step → Cluster → Cluster → Type 0
  Same e f a b = (e ≡ f) × (a ≡ b)

  module _ (e f : Step) (a b : Cluster) where
    both : (step : Step) (new : Cluster) → (e ≡ step) × (a ≡ new) → (f ≡ step) × (b ≡ new) → Same e f a b
    both step new v w = (v.0 ∙ sym w.0, v.1 ∙ sym w.1)

    same_bytes : (box : Box) (bytes others : List ℕ) → Holds box bytes → Holds box others → others ≡ bytes
    same_bytes box bytes others v w = ap (λ (t : Thing). t.bytes) (same_Some _ _ (sym w ∙ v))

    -- there is one way
    one_way : (q : Ask) (missed : Bool) → IsWay q missed e a → IsWay q missed f b → Same e f a b
    one_way Ask.Plain missed v w = both _ _ v w
    one_way Ask.Local missed v w = both _ _ v w
    one_way Ask.Held missed v w = both _ _ v w
    one_way Ask.Idle missed v w = both _ _ v w
    one_way (Ask.Hub request) missed v w = both _ _ v w
    one_way (Ask.Ready link part bytes) missed v w =
        let box : w.0 ≡ v.0 = same_Some w.0 v.0 (sym w.1 ∙ v.1) in
        both _ _ v.2 (subst (λ c. Makes (box_number link part) bytes c f b) box w.2)
    one_way (Ask.Look link part) true v w = both _ _ v w
    one_way (Ask.Look link part) false v w =
        let box : w.0 ≡ v.0 = same_Some w.0 v.0 (sym w.1 ∙ v.1) in
        let holds : Holds v.0 w.2 = subst (λ c. Holds c w.2) box w.3 in
        let takes = subst (λ c. Takes (box_number link part) w.2 c f b) box w.4 in
        let bytes : w.2 ≡ v.2 = same_bytes v.0 v.2 w.2 v.3 holds in
        both _ _ v.4 (subst (λ bs. Takes (box_number link part) bs v.0 f b) bytes takes)
    one_way (Ask.Freed link part) true v w = both _ _ v w
    one_way (Ask.Freed link part) false v w =
        let box : w.0 ≡ v.0 = same_Some w.0 v.0 (sym w.1 ∙ v.1) in
        both _ _ v.2 (subst (λ c. Only (at (after_box c) Kind.Freed) Answer.Freed f b) box w.2)

module _ (old new : Cluster) (e : Step) (x : Rank) where
  abbrev Goal : Bool → Ask → Type 0
  Goal missed q = IsWay old e.rank e.hart x q missed e new

  by : (missed : Bool) (q : Ask) → asked x e.hart ≡ q → Goal missed q → Goal missed (asked x e.hart)
  by missed q asks way = subst (Goal missed) (sym asks) way

  is_at : (stamp : ℕ) (kind : Kind) → e.stamp ≡ stamp → e.kind ≡ kind → e ≡ at old e.rank e.hart x stamp kind
  is_at stamp kind s k = λ i. record e { stamp = s i; kind = k i }

  only : (stamp : ℕ) (kind : Kind) (answer : Answer) → e.stamp ≡ stamp → e.kind ≡ kind → new ≡ only_told old e x answer
      → Only old e.rank e.hart x (at old e.rank e.hart x stamp kind) answer e new
  only stamp kind answer s k leads =
      (is_at stamp kind s k, leads ∙ ap (λ t. only_told old t x answer) (is_at stamp kind s k))

  -- where a step leads is that way
  way : (kind : Kind) → e.kind ≡ kind → CaseOf old e x kind new → Goal (is_miss kind) (asked x e.hart)
  way Kind.Plain is c = by false Ask.Plain c.0 (only _ Kind.Plain Answer.Alone c.1 is c.2)
  way Kind.Local is c = by false Ask.Local c.0 (only _ Kind.Local Answer.Alone c.1 is c.2)
  way Kind.Held is c = by false Ask.Held c.0 (only _ Kind.Held Answer.Alone c.1 is c.2)
  way Kind.Idle is c = by false Ask.Idle c.0 (only _ Kind.Idle Answer.Alone c.1 is c.2)
  way (Kind.Hub r) is c =
      let told : r ≡ reply_in old.journal e.rank c.0 = c.2 in
      let step = is_at _ (Kind.Hub (reply_in old.journal e.rank c.0)) c.3 (is ∙ ap (λ a. Kind.Hub a) told) in
      by false (Ask.Hub c.0) c.1 (
        step,
        c.4 ∙ ap (λ (a : Reply). (let k : Cluster = record {
          ranks = ranks_told old e x (Answer.Reply a);
          journal = with_entry old.journal
              (record { rank = e.rank; hart = e.hart; clock = x.clock; stamp = e.stamp; request = c.0; reply = a });
          boxes = old.boxes;
        } in k)) told ∙ ap (λ t. called old t x c.0) step,
      )
  way Kind.Ready is c =
      let step = is_at _ Kind.Ready c.7 is in
      let number = box_number c.0 c.1 in
      by false (Ask.Ready c.0 c.1 c.2) c.4 (
        c.3,
        c.5,
        (
          step,
          c.8 ∙ ap (λ (t : Step). with_box old t x Answer.Alone number (with_made c.3 t.stamp c.2)) step,
        ),
      )
  way Kind.Take is c =
      let step = is_at _ Kind.Take c.7 is in
      let number = box_number c.0 c.1 in
      by false (Ask.Look c.0 c.1) c.4 (
        c.3,
        c.5,
        c.2,
        c.6,
        (
          step,
          c.8 ∙ ap (λ (t : Step). with_box old t x (Answer.Taken c.2) number (with_taken c.3 t.stamp)) step,
        ),
      )
  way Kind.Freed is c = by false (Ask.Freed c.0 c.1) c.3 (c.2, c.4, only _ Kind.Freed Answer.Freed c.6 is c.7)
  way Kind.Miss is c = elim c.2 [
    | inl look ↦ by true (Ask.Look c.0 c.1) look (only _ Kind.Miss Answer.Missed c.3 is c.4)
    | inr freed ↦ by true (Ask.Freed c.0 c.1) freed (only _ Kind.Miss Answer.Missed c.3 is c.4)
  ]

-- ---- one turn, of whichever rank it is

abbrev Goes : Cluster → ℕ → ℕ → Bool → Step → Cluster → Type 0
Goes old r hart missed e new =
    (x : Rank) × (slice_get old.ranks r ≡ Some x) × IsWay old r hart x (asked x hart) missed e new

goes : (old new : Cluster) (e : Step) → IsStep old e new → Goes old e.rank e.hart (is_miss e.kind) e new
goes old new e step = (step.0, step.1, way old new e step.0 e.kind refl step.4)

one_turn : (old : Cluster) (r hart : ℕ) (missed : Bool) (e f : Step) (a b : Cluster) → Goes old r hart missed e a
    → Goes old r hart missed f b → (e ≡ f) × (a ≡ b)
one_turn old r hart missed e f a b v w =
    let x : w.0 ≡ v.0 = same_Some w.0 v.0 (sym w.1 ∙ v.1) in
    one_way old r hart v.0 e f a b (asked v.0 hart) missed v.2
    (subst (λ z. IsWay old r hart z (asked z hart) missed f b) x w.2)

same_step : (old : Cluster) (e f : Step) (a b : Cluster) → turn_of e ≡ turn_of f → e.hart ≡ f.hart → IsStep old e a
    → IsStep old f b → (e ≡ f) × (a ≡ b)
same_step old e f a b turn hart v w =
    let rank : e.rank ≡ f.rank = ap (λ (t : ℕ × Bool). t.0) turn in
    let missed : is_miss e.kind ≡ is_miss f.kind = ap (λ (t : ℕ × Bool). t.1) turn in
    one_turn old e.rank e.hart (is_miss e.kind) e f a b (goes old a e v)
    (subst (λ r. Goes old r e.hart (is_miss e.kind) f b) (sym rank)
    (subst (λ h. Goes old f.rank h (is_miss e.kind) f b) (sym hart)
    (subst (λ m. Goes old f.rank f.hart m f b) (sym missed) (goes old b f w))))

-- ---- runs

module _ (x y : ℕ × Bool) (xs ys : List (ℕ × Bool)) (same : x ∷ xs ≡ y ∷ ys) where
  same_first : x ≡ y
  same_first = cc

  same_rest : xs ≡ ys
  same_rest = cc

one_order : (plans : Plans) (one other : List Step) (c : Cluster) (had : Turns) (a b : Cluster) → IsRun c one a
    → IsRun c other b → FollowPlans plans had one → FollowPlans plans had other → map turn_of one ≡ map turn_of other
    → (one ≡ other) × (a ≡ b)
one_order plans [] [] c had a b run again follow follows turns = (refl, run ∙ sym again)
one_order plans [] (f ∷ fs) c had a b run again follow follows turns = absurd (cc)
one_order plans (e ∷ es) [] c had a b run again follow follows turns = absurd (cc)
one_order plans (e ∷ es) (f ∷ fs) c had a b run again follow follows turns =
    let turn : turn_of e ≡ turn_of f =
    same_first (turn_of e) (turn_of f) (map turn_of es) (map turn_of fs) turns in
    let rank : e.rank ≡ f.rank = ap (λ (t : ℕ × Bool). t.0) turn in
    let hart : e.hart ≡ f.hart = follow.0 ∙ ap (λ r. plans r (had r)) rank ∙ sym follows.0 in
    let step = same_step c e f run.0 again.0 turn hart run.1 again.1 in
    let rest = one_order plans es fs run.0 (one_more had e.rank) a b run.2
    (subst (λ mid. IsRun mid fs b) (sym step.1) again.2) follow.1
    (subst (λ (t : Step). FollowPlans plans (one_more had t.rank) fs) (sym step.0) follows.1)
    (same_rest (turn_of e) (turn_of f) (map turn_of es) (map turn_of fs) turns) in
    (ap (λ t. t ∷ es) step.0 ∙ ap (λ ts. f ∷ ts) rest.0, rest.1)

pub one_order_law : OneOrderLaw
one_order_law plans start one other a b run again follow follows turns =
    one_order plans one other start.cluster start.had a b run again follow follows turns
