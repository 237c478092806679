-- A turn at a box and a turn that meets no box, or another one, exchanged.
use Rattle.std.proofs.Common.{◌≡◌, ◌∙◌, ℕ, refl, sym, ap, subst, List, Option, Some, None}
use Rattle.std.specs.Prelude.{◌≢◌}
use Rattle.std.specs.List.{slice_get, slice_set}
use Rattle.mp_wait_laws.proofs.Sets.{get-set_other}
use Rattle.cl_state.specs.declared.asking.Answer.TheVariants as answer
use Rattle.cl_state.specs.declared.asking.Ask.{Ask}
use Rattle.cl_state.specs.Asked.{asked}
use Rattle.cl_state.specs.Rank.{Rank}
use Rattle.cl_state.specs.Told.{told}
use Rattle.cl_trace.specs.declared.events.Kind.{Kind}
use Rattle.cl_machine.specs.declared.steps.Step.{Step}
use Rattle.cl_machine.specs.Boxes.{Box, box_number, with_made, with_taken}
use Rattle.cl_machine.specs.Cluster.{CaseOf, Cluster}
use Rattle.cl_machine.specs.Journal.{Journal}
use Rattle.cl_order_laws.specs.Alike.{Leads}
use Rattle.cl_order_laws.proofs.Commuting.{set_apart}

-- ---- what a step does depends on

abbrev with_all : List Rank → Journal → List Box → Cluster
with_all ranks journal boxes = record { ranks = ranks; journal = journal; boxes = boxes }

-- a step that fills no box, and empties none
abbrev pub IsBeside : Kind → Type 0
IsBeside Kind.Ready = ⊥
IsBeside Kind.Take = ⊥
IsBeside Kind.Freed = ⊥
IsBeside _ = Unit {0}

-- what it does doesn't depend on other ranks and on boxes
pub record Beside (c new : Cluster) (e : Step) (x : Rank) : Type 0 where
  pub then : Rank
  pub ranks : new.ranks ≡ slice_set c.ranks e.rank then
  pub boxes : new.boxes ≡ c.boxes
  does : (others : List Rank) (bs : List Box)
      → CaseOf (with_all others c.journal bs) e x e.kind (with_all (slice_set others e.rank then) new.journal bs)

module _ (c new : Cluster) (e : Step) (x : Rank) where
  abbrev Does : Kind → Rank → Type 0
  Does kind then =
      (others : List Rank) (bs : List Box)
      → CaseOf (with_all others c.journal bs) e x kind (with_all (slice_set others e.rank then) new.journal bs)

  pub beside : IsBeside e.kind → CaseOf c e x e.kind new → Beside c new e x
  beside is goes = by e.kind refl is goes
    where
      made : (kind : Kind) → e.kind ≡ kind → (then : Rank) → new.ranks ≡ slice_set c.ranks e.rank then
          → new.boxes ≡ c.boxes → Does kind then
          → Beside c new e x
      made kind is then ranks boxes does =
          record { then = then; ranks = ranks; boxes = boxes; does = subst (λ k. Does k then) (sym is) does }

      -- the same cluster, of which the journal is said otherwise
      to : (others : List Rank) (bs : List Box) (i j : Journal) → i ≡ j → with_all others i bs ≡ with_all others j bs
      to others bs i j same = ap (λ k. with_all others k bs) same

      by : (kind : Kind) → e.kind ≡ kind → IsBeside kind → CaseOf c e x kind new → Beside c new e x
      by Kind.Plain at is k =
          made Kind.Plain at (told x e.hart answer.Alone e.stamp) (ap (λ (n : Cluster). n.ranks) k.2)
          (ap (λ (n : Cluster). n.boxes) k.2)
          (λ others bs. (k.0, k.1, to _ bs new.journal c.journal (ap (λ (n : Cluster). n.journal) k.2)))
      by Kind.Local at is k =
          made Kind.Local at (told x e.hart answer.Alone e.stamp) (ap (λ (n : Cluster). n.ranks) k.2)
          (ap (λ (n : Cluster). n.boxes) k.2)
          (λ others bs. (k.0, k.1, to _ bs new.journal c.journal (ap (λ (n : Cluster). n.journal) k.2)))
      by Kind.Held at is k =
          made Kind.Held at (told x e.hart answer.Alone e.stamp) (ap (λ (n : Cluster). n.ranks) k.2)
          (ap (λ (n : Cluster). n.boxes) k.2)
          (λ others bs. (k.0, k.1, to _ bs new.journal c.journal (ap (λ (n : Cluster). n.journal) k.2)))
      by Kind.Idle at is k =
          made Kind.Idle at (told x e.hart answer.Alone e.stamp) (ap (λ (n : Cluster). n.ranks) k.2)
          (ap (λ (n : Cluster). n.boxes) k.2)
          (λ others bs. (k.0, k.1, to _ bs new.journal c.journal (ap (λ (n : Cluster). n.journal) k.2)))
      by Kind.Miss at is k =
          made Kind.Miss at (told x e.hart answer.Missed e.stamp) (ap (λ (n : Cluster). n.ranks) k.4)
          (ap (λ (n : Cluster). n.boxes) k.4)
          (λ others bs. (k.0, k.1, k.2, k.3, to _ bs new.journal c.journal (ap (λ (n : Cluster). n.journal) k.4)))
      by (Kind.Hub r) at is k =
          made (Kind.Hub r) at (told x e.hart (answer.Reply r) e.stamp) (ap (λ (n : Cluster). n.ranks) k.4)
          (ap (λ (n : Cluster). n.boxes) k.4)
          (λ others bs. (k.0, k.1, k.2, k.3, to _ bs new.journal _ (ap (λ (n : Cluster). n.journal) k.4)))
      by Kind.Ready at is k = absurd is
      by Kind.Take at is k = absurd is
      by Kind.Freed at is k = absurd is

-- ---- steps at boxes

-- the box that is asked for
abbrev pub number_of : Ask → ℕ
number_of (Ask.Ready link part bytes) = box_number link part
number_of (Ask.Look link part) = box_number link part
number_of (Ask.Freed link part) = box_number link part
number_of _ = 0

-- the boxes, of which this one may have changed
abbrev pub put : List Box → ℕ → Option Box → List Box
put bs number None = bs
put bs number (Some box) = slice_set bs number box

pub put_other : (bs : List Box) (n m : ℕ) (o : Option Box) → n ≢ m → slice_get (put bs n o) m ≡ slice_get bs m
put_other bs n m None apart = refl
put_other bs n m (Some box) apart = get-set_other bs n m box apart

put_apart : (bs : List Box) (n m : ℕ) (o p : Option Box) → n ≢ m → put (put bs n o) m p ≡ put (put bs m p) n o
put_apart bs n m None p apart = refl
put_apart bs n m (Some box) None apart = refl
put_apart bs n m (Some box) (Some other) apart = set_apart bs n m box other apart

-- a turn at a box
abbrev pub IsVisit : Kind → Type 0
IsVisit Kind.Ready = Unit {0}
IsVisit Kind.Take = Unit {0}
IsVisit Kind.Freed = Unit {0}
IsVisit Kind.Miss = Unit {0}
IsVisit _ = ⊥

-- what it does depends on its rank and its box alone
pub record InPlace (c new : Cluster) (e : Step) (x : Rank) (number : ℕ) : Type 0 where
  pub then : Rank
  pub box : Option Box
  pub ranks : new.ranks ≡ slice_set c.ranks e.rank then
  pub journal : new.journal ≡ c.journal
  pub boxes : new.boxes ≡ put c.boxes number box
  does : (others : List Rank) (journal : Journal) (bs : List Box) → slice_get bs number ≡ slice_get c.boxes number
      → CaseOf (with_all others journal bs) e x e.kind (with_all (slice_set others e.rank then) journal (put bs number box))

module _ (c new : Cluster) (e : Step) (x : Rank) where
  abbrev DoesAt : Kind → ℕ → Rank → Option Box → Type 0
  DoesAt kind number then box =
      (others : List Rank) (journal : Journal) (bs : List Box) → slice_get bs number ≡ slice_get c.boxes number
      → CaseOf (with_all others journal bs) e x kind (with_all (slice_set others e.rank then) journal (put bs number box))

  pub in_place : IsVisit e.kind → CaseOf c e x e.kind new → InPlace c new e x (number_of (asked x e.hart))
  in_place is goes = by e.kind refl is goes
    where
      made : (kind : Kind) → e.kind ≡ kind → (number : ℕ) → number_of (asked x e.hart) ≡ number → (then : Rank) (box : Option Box)
          → (let k : Cluster = with_all (slice_set c.ranks e.rank then) c.journal (put c.boxes number box) in new ≡ k)
          → DoesAt kind number then box
          → InPlace c new e x (number_of (asked x e.hart))
      made kind is number at then box same does =
          subst (InPlace c new e x) (sym at) (record {
            then = then;
            box = box;
            ranks = ap (λ (n : Cluster). n.ranks) same;
            journal = ap (λ (n : Cluster). n.journal) same;
            boxes = ap (λ (n : Cluster). n.boxes) same;
            does = subst (λ k. DoesAt k number then box) (sym is) does;
          })

      by : (kind : Kind) → e.kind ≡ kind → IsVisit kind → CaseOf c e x kind new → InPlace c new e x (number_of (asked x e.hart))
      by Kind.Ready at is k =
          made Kind.Ready at (box_number k.0 k.1) (ap number_of k.4) (told x e.hart answer.Alone e.stamp)
          (Some (with_made k.3 e.stamp k.2)) k.8
          (λ others journal bs same. (k.0, k.1, k.2, k.3, k.4, same ∙ k.5, k.6, k.7, refl))
      by Kind.Take at is k =
          made Kind.Take at (box_number k.0 k.1) (ap number_of k.4) (told x e.hart (answer.Taken k.2) e.stamp)
          (Some (with_taken k.3 e.stamp)) k.8
          (λ others journal bs same. (k.0, k.1, k.2, k.3, k.4, same ∙ k.5, k.6, k.7, refl))
      by Kind.Freed at is k =
          made Kind.Freed at (box_number k.0 k.1) (ap number_of k.3) (told x e.hart answer.Freed e.stamp) None k.7
          (λ others journal bs same. (k.0, k.1, k.2, k.3, same ∙ k.4, k.5, k.6, refl))
      by Kind.Miss at is k =
          made Kind.Miss at (number_of (asked x e.hart)) refl (told x e.hart answer.Missed e.stamp) None k.4
          (λ others journal bs same. (k.0, k.1, k.2, k.3, refl))
      by Kind.Plain at is k = absurd is
      by Kind.Local at is k = absurd is
      by Kind.Held at is k = absurd is
      by Kind.Idle at is k = absurd is
      by (Kind.Hub r) at is k = absurd is

-- ---- exchanged

module _ (old mid new : Cluster) (e f : Step) (apart : e.rank ≢ f.rank) (one : Leads old e mid) (two : Leads mid f new) where
  abbrev x : Rank
  x = one.0

  abbrev y : Rank
  y = two.0

  abbrev Exchanged : Type 0
  Exchanged = (other : Cluster) × Leads old f other × Leads other e new

  away : f.rank ≢ e.rank
  away same = apart (sym same)

  -- the rank that goes first was there
  there : (then : Rank) → mid.ranks ≡ slice_set old.ranks e.rank then → slice_get old.ranks f.rank ≡ Some y
  there then ranks =
      sym (get-set_other old.ranks e.rank f.rank then apart) ∙ sym (ap (λ xs. slice_get xs f.rank) ranks) ∙ two.1

  -- and both are told the same
  both : (u v : Rank) → mid.ranks ≡ slice_set old.ranks e.rank u → new.ranks ≡ slice_set mid.ranks f.rank v
      → slice_set (slice_set old.ranks f.rank v) e.rank u ≡ new.ranks
  both u v first second =
      set_apart old.ranks f.rank e.rank v u away ∙ sym (second ∙ ap (λ xs. slice_set xs f.rank v) first)

  -- one that meets no box, and then one at a box
  pub beside_place : (n : ℕ) → Beside old mid e x → InPlace mid new f y n → Exchanged
  beside_place n b p =
      let other = with_all (slice_set old.ranks f.rank p.then) old.journal (put old.boxes n p.box) in
      let ranks = both b.then p.then b.ranks p.ranks in
      let boxes = ap (λ bs. put bs n p.box) (sym b.boxes) ∙ sym p.boxes in
      let end : with_all (slice_set other.ranks e.rank b.then) mid.journal other.boxes ≡ new =
      (λ i. record { ranks = ranks i; journal = (sym p.journal) i; boxes = boxes i }) in (
        other,
        (y, there b.then b.ranks, two.2, p.does old.ranks old.journal old.boxes (ap (λ bs. slice_get bs n) (sym b.boxes))),
        (
          x,
          get-set_other old.ranks f.rank e.rank p.then away ∙ one.1,
          one.2,
          subst (λ k. CaseOf other e x e.kind k) end (b.does other.ranks other.boxes),
        ),
      )

  -- one at a box, and then one that meets none
  pub place_beside : (n : ℕ) → InPlace old mid e x n → Beside mid new f y → Exchanged
  place_beside n p b =
      let other = with_all (slice_set old.ranks f.rank b.then) new.journal old.boxes in
      let ranks = both p.then b.then p.ranks b.ranks in
      let boxes = sym p.boxes ∙ sym b.boxes in
      let end : with_all (slice_set other.ranks e.rank p.then) new.journal (put old.boxes n p.box) ≡ new =
      (λ i. record { ranks = ranks i; journal = new.journal; boxes = boxes i }) in (
        other,
        (
          y,
          there p.then p.ranks,
          two.2,
          subst (λ j. CaseOf (with_all old.ranks j old.boxes) f y f.kind other) p.journal (b.does old.ranks old.boxes),
        ),
        (
          x,
          get-set_other old.ranks f.rank e.rank b.then away ∙ one.1,
          one.2,
          subst (λ k. CaseOf other e x e.kind k) end (p.does other.ranks new.journal old.boxes refl),
        ),
      )

  -- two at two boxes
  pub place_place : (n m : ℕ) → n ≢ m → InPlace old mid e x n → InPlace mid new f y m → Exchanged
  place_place n m two_boxes p q =
      let other = with_all (slice_set old.ranks f.rank q.then) old.journal (put old.boxes m q.box) in
      let ranks = both p.then q.then p.ranks q.ranks in
      let journal = sym (q.journal ∙ p.journal) in
      let boxes = put_apart old.boxes m n q.box p.box (λ same. two_boxes (sym same))
      ∙ sym (q.boxes ∙ ap (λ bs. put bs m q.box) p.boxes) in
      let end : with_all (slice_set other.ranks e.rank p.then) old.journal (put other.boxes n p.box) ≡ new =
      (λ i. record { ranks = ranks i; journal = journal i; boxes = boxes i }) in (
        other,
        (
          y,
          there p.then p.ranks,
          two.2,
          q.does old.ranks old.journal old.boxes
              (sym (put_other old.boxes n m p.box two_boxes) ∙ ap (λ bs. slice_get bs m) (sym p.boxes)),
        ),
        (
          x,
          get-set_other old.ranks f.rank e.rank q.then away ∙ one.1,
          one.2,
          subst (λ k. CaseOf other e x e.kind k) end
              (p.does other.ranks old.journal other.boxes (put_other old.boxes m n q.box (λ same. two_boxes (sym same)))),
        ),
      )
