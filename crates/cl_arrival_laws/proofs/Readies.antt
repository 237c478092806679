-- What a sender makes ready in a box as the k-th it makes in its phase k.
use Rattle.std.specs.Prelude.{ℕ, ◌+◌, ◌<◌, ◌≤◌, ◌≡◌, ◌≢◌, List, [], ◌∷◌, ◌++◌, Bool, true, false, length, get_or, set}
use Rattle.std.specs.Prelude.{nat_le, if◌then◌else◌, not}
use Rattle.std.proofs.Common.{refl, sym, ap, ◌∙◌, subst, arith}
use Rattle.std.proofs.lemmas.Bool.{cases_lt}
use Rattle.std.proofs.lemmas.Bool.Decides.{eqb_tells, leb_tells}
use Rattle.std.proofs.lemmas.List.{get_or-replicate, get_or-set_other, get_or-set_same, get_or_past, length-set}
use mathlib.Core.Logic.{inl, inr}
use Rattle.rv_image_types.specs.declared.images.ImageParts.{ImageParts}
use Rattle.part_phase.specs.declared.sending.SendPhase.{SendPhase}
use Rattle.part_phase.specs.Phases.{sending_at}
use Rattle.part_phase.specs.Sending.{all_freed, begun_sending, is_part_ready, none_marked, one_freed, readied}
use Rattle.part_phase.specs.Sending.{shaped_sending, unshaped_sending}
use Rattle.cl_state.specs.Asked.{asked}
use Rattle.cl_state.specs.Rank.{Rank, loaded}
use Rattle.cl_deeds.specs.Deeds.{Act, Suits, Deed, RankMoves}
use Rattle.cl_deeds.specs.Alone.{IsAlone}
use Rattle.cl_machine.specs.Boxes.{box_number}
use Rattle.cl_machine.specs.Parts.{is_index}
use Rattle.cl_machine.specs.Product.{box_for}
use Rattle.cl_box_laws.specs.Gates.{MayAsk}
use Rattle.cl_box_laws.proofs.Kept.{questions}
use Rattle.cl_box_laws.proofs.Moves.{moves}
use Rattle.cl_box_laws.proofs.Sides.{none_sends}
use Rattle.cl_arrival_laws.specs.Arrival.{IsInPhase, begun_between, is_sending, phases_begun}
use Rattle.cl_arrival_laws.specs.Laws.{ReadyLaw, made_at}
use Rattle.cl_arrival_laws.proofs.Counting.{along_makes, deed, one_more_deed, edge, makes, makes_none, makes_nothing}
use Rattle.cl_arrival_laws.proofs.Counting.{makes_one, no_edge}
use Rattle.cl_arrival_laws.proofs.Sends.{ActDoes, SideMoves, does}

-- partition i is one of the side's, as far as it has a shape
abbrev pub IsMine : ℕ → SendPhase → Type 0
IsMine i p = 0 < p.parts → i < p.parts

-- how the sender's side stands after n phases began, and partition i was made ready c times
pub record Counts (i : ℕ) (p : SendPhase) (n c : ℕ) : Type 0 where
  -- in a phase it was made ready once more, or not yet; between phases as often as phases began
  pub left : IsMine i p → p.freed < p.parts → is_part_ready p i ≡ false → c + 1 ≡ n
  pub made : IsMine i p → p.freed < p.parts → is_part_ready p i ≡ true → c ≡ n
  pub idle : IsMine i p → p.parts ≤ p.freed → c ≡ n
  -- what is freed was ready
  pub before : (j : ℕ) → j < p.freed → p.freed < p.parts → is_part_ready p j ≡ true
  pub marks : length p.ready ≡ 16
  pub most : p.parts ≤ 16

not_both : (b : Bool) → b ≡ true → b ≡ false → ⊥
not_both b t f = absurd (cc)

unmarked : (i : ℕ) → get_or none_marked i false ≡ false
unmarked i =
    elim (cases_lt i 16) [
      | inl low ↦ get_or-replicate 16 i false false low
      | inr up ↦ get_or_past none_marked i false up
    ]

first_counts : (i : ℕ) → Counts i unshaped_sending 0 0
first_counts i = record {
  left = λ mine low. absurd (omega (arith, low));
  made = λ mine low. absurd (omega (arith, low));
  idle = λ mine up. refl;
  before = λ j low. absurd (omega (arith, low));
  marks = refl;
  most = omega arith;
}

is_below : (a b : ℕ) → a < b → nat_le b a ≡ false
is_below a b low = elim (leb_tells b a) [ inl h ↦ absurd (let up = h.1 in omega (arith, low, up)) | inr h ↦ h.0 ]

is_up : (a b : ℕ) → a ≤ b → nat_le a b ≡ true
is_up a b up = elim (leb_tells a b) [ inl h ↦ h.0 | inr h ↦ absurd (let low = h.1 in omega (arith, low, up)) ]

-- whether a phase begins between two sides
abbrev pub begun_of : SendPhase → SendPhase → ℕ
begun_of p q = edge (not (all_freed p)) (not (all_freed q))

-- none does where one is going on
none_going : (p q : SendPhase) → p.freed < p.parts → begun_of p q ≡ 0
none_going p q low = ap (λ b. edge (not b) (not (all_freed q))) (is_below p.freed p.parts low)

-- nor where all are freed
none_freed : (p q : SendPhase) → p.parts ≤ p.freed → q.parts ≤ q.freed → begun_of p q ≡ 0
none_freed p q up then_up =
    ap (λ b. edge (not b) (not (all_freed q))) (is_up p.parts p.freed up)
    ∙ ap (λ b. edge false (not b)) (is_up q.parts q.freed then_up)

-- one does from where all are freed to where one isn't
one_begun : (p q : SendPhase) → p.parts ≤ p.freed → q.freed < q.parts → begun_of p q ≡ 1
one_begun p q up low =
    ap (λ b. edge (not b) (not (all_freed q))) (is_up p.parts p.freed up)
    ∙ ap (λ b. edge false (not b)) (is_below q.freed q.parts low)

module _ (i : ℕ) (p : SendPhase) (n c : ℕ) (h : Counts i p n c) where
  with_begun : (q : SendPhase) (b m x : ℕ) → begun_of p q ≡ b → n + b ≡ m → Counts i q m x
      → Counts i q (n + begun_of p q) x
  with_begun q b m x is sum k =
      subst (λ y. Counts i q y x) (let e : m ≡ n + begun_of p q = omega (arith, is, sum) in e) k

  same_counts : (q : SendPhase) → q ≡ p → Counts i q (n + begun_of p q) c
  same_counts q e =
      subst (λ x. Counts i x (n + begun_of p x) c) (sym e)
      (with_begun p 0 n c (no_edge (not (all_freed p))) (let e : n + 0 ≡ n = omega arith in e) h)

  -- a phase begins
  begun_counts : Counts i (begun_sending p) (n + begun_of p (begun_sending p)) c
  begun_counts =
      elim (leb_tells p.parts p.freed) [
        | inl all ↦ subst (λ q. Counts i q (n + begun_of p q) c)
            (let s : fresh ≡ begun_sending p = ap (λ b. if b then fresh else p) (sym all.0) in s) (anew all.1)
        | inr going ↦ same_counts (begun_sending p) (ap (λ b. if b then fresh else p) going.0)
      ]
    where
      fresh : SendPhase
      fresh = record p { ready = none_marked; freed = 0 }

      anew : p.parts ≤ p.freed → Counts i fresh (n + begun_of p fresh) c
      anew all =
          elim (cases_lt 0 p.parts) [
            | inl some ↦ with_begun fresh 1 (n + 1) c (one_begun p fresh all some) refl
                (record {
                  left = λ mine low e. (let done = h.idle mine all in omega (arith, done));
                  made = λ mine low e. absurd (not_both (get_or none_marked i false) e (unmarked i));
                  idle = λ mine up. absurd (omega (arith, up, some));
                  before = λ j low more. absurd (omega (arith, low));
                  marks = refl;
                  most = h.most;
                })
            | inr none ↦ with_begun fresh 0 n c (none_freed p fresh all none) (let e : n + 0 ≡ n = omega arith in e)
                (record {
                  left = λ mine low e. absurd (omega (arith, low, none));
                  made = λ mine low e. absurd (omega (arith, low, none));
                  idle = λ mine up. h.idle mine all;
                  before = λ j low more. absurd (omega (arith, low));
                  marks = refl;
                  most = h.most;
                })
          ]

  -- a transfer gets the side
  shaped_counts : (parts size : ℕ) → p.parts ≡ 0 → parts ≤ 16
      → Counts i (shaped_sending parts size p) (n + begun_of p (shaped_sending parts size p)) c
  shaped_counts parts size none few =
      with_begun (shaped_sending parts size p) 0 n c
      (none_freed p (shaped_sending parts size p) (omega (arith, none)) (omega arith))
      (let e : n + 0 ≡ n = omega arith in e)
      (record {
        left = λ mine low. absurd (omega (arith, low));
        made = λ mine low. absurd (omega (arith, low));
        idle = λ mine up. h.idle (λ some. absurd (omega (arith, some, none))) (omega (arith, none));
        before = λ j low more. absurd (omega (arith, more));
        marks = h.marks;
        most = few;
      })

  -- a partition is made ready: this one, or another
  module _ (part : ℕ) (low : part < p.parts) (going : p.freed < p.parts) where
    still_before : (j : ℕ) → j < p.freed → p.freed < p.parts → is_part_ready (readied part p) j ≡ true
    still_before j lower up =
        elim (eqb_tells j part) [
          | inl e ↦ subst (λ x. get_or (set p.ready part true) x false ≡ true) (sym e.1)
              (get_or-set_same p.ready part true false
              (let most = h.most in let all = h.marks in omega (arith, low, most, all)))
          | inr e ↦ get_or-set_other p.ready part j true false e.1 ∙ h.before j lower up
        ]

    here_counts : i ≡ part → is_part_ready p part ≡ false
        → Counts i (readied part p) (n + begun_of p (readied part p)) (c + 1)
    here_counts same unready =
        with_begun (readied part p) 0 n (c + 1) (none_going p (readied part p) going)
        (let e : n + 0 ≡ n = omega arith in e)
        (record {
          left = λ mine lower e. absurd (not_both (is_part_ready (readied part p) i) marked e);
          made = λ mine lower e. one_more;
          idle = λ mine up. absurd (omega (arith, up, going));
          before = still_before;
          marks = length-set p.ready part true ∙ h.marks;
          most = h.most;
        })
      where
        one_more : c + 1 ≡ n
        one_more = h.left (λ some. (let e : i < p.parts = omega (arith, same, low) in e)) going
            (subst (λ j. is_part_ready p j ≡ false) (sym same) unready)

        marked : is_part_ready (readied part p) i ≡ true
        marked = subst (λ j. get_or (set p.ready part true) j false ≡ true) (sym same)
            (get_or-set_same p.ready part true false
            (let most = h.most in let all = h.marks in omega (arith, low, most, all)))

    there_counts : i ≢ part → Counts i (readied part p) (n + begun_of p (readied part p)) (c + 0)
    there_counts other =
        with_begun (readied part p) 0 n (c + 0) (none_going p (readied part p) going)
        (let e : n + 0 ≡ n = omega arith in e)
        (subst (λ m. Counts i (readied part p) n m) (let e : c ≡ c + 0 = omega arith in e)
        (record {
          left = λ mine lower e. h.left mine lower (sym is ∙ e);
          made = λ mine lower e. h.made mine lower (sym is ∙ e);
          idle = h.idle;
          before = still_before;
          marks = length-set p.ready part true ∙ h.marks;
          most = h.most;
        }))
      where
        is : is_part_ready (readied part p) i ≡ is_part_ready p i
        is = get_or-set_other p.ready part i true false other

  -- the lowest that isn't freed is freed
  freed_counts : (part : ℕ) → part < p.parts → p.freed ≡ part → is_part_ready p part ≡ true
      → Counts i (one_freed p) (n + begun_of p (one_freed p)) c
  freed_counts part low next ready =
      with_begun (one_freed p) 0 n c (none_going p (one_freed p) going) (let e : n + 0 ≡ n = omega arith in e)
      (elim (eqb_tells (p.freed + 1) p.parts) [
        | inl last ↦ subst (λ b. Counts i (freed_if b) n c) (sym last.0) (all_done last.1)
        | inr more ↦ subst (λ b. Counts i (freed_if b) n c) (sym more.0) (goes_on more.1)
      ])
    where
      going : p.freed < p.parts
      going = omega (arith, low, next)

      freed_if : Bool → SendPhase
      freed_if b = record p { ready = if b then none_marked else p.ready; freed = p.freed + 1 }

      all_ready : (j : ℕ) → j < p.freed + 1 → is_part_ready p j ≡ true
      all_ready j lower =
          elim (cases_lt j p.freed) [
            | inl below ↦ h.before j below going
            | inr up ↦ (let same : j ≡ part = omega (arith, lower, up, next) in
                subst (λ x. is_part_ready p x ≡ true) (sym same) ready)
          ]

      all_done : p.freed + 1 ≡ p.parts → Counts i (freed_if true) n c
      all_done last = record {
        left = λ mine lower. absurd (omega (arith, lower, last));
        made = λ mine lower. absurd (omega (arith, lower, last));
        idle = λ mine up.
            h.made mine going
            (all_ready i (let mine_low = mine (omega (arith, going)) in omega (arith, mine_low, last)));
        before = λ j lower up. absurd (omega (arith, up, last));
        marks = refl;
        most = h.most;
      }

      goes_on : p.freed + 1 ≢ p.parts → Counts i (freed_if false) n c
      goes_on more = record {
        left = λ mine lower e. h.left mine going e;
        made = λ mine lower e. h.made mine going e;
        idle = λ mine up. absurd (more (omega (arith, up, going)));
        before = λ j lower up. all_ready j lower;
        marks = h.marks;
        most = h.most;
      }

  -- any other change
  moved_counts : (q : SendPhase) → SideMoves p q → Counts i q (n + begun_of p q) c
  moved_counts q (inl e) = same_counts q e
  moved_counts q (inr (inl e)) = subst (λ x. Counts i x (n + begun_of p x) c) (sym e) begun_counts
  moved_counts q (inr (inr m)) = subst (λ x. Counts i x (n + begun_of p x) c) (sym m.4)
      (shaped_counts m.0 m.1 m.2 m.3)

-- ---- along a run, of partition i of link k

module _ (k i : ℕ) (low : i < 16) where
  same_part : (part : ℕ) → i ≢ part → box_number k part ≢ box_number k i
  same_part part other e = other (omega (arith, e))

  same_link : (link part : ℕ) → part < 16 → link ≢ k → box_number link part ≢ box_number k i
  same_link link part few other e = other (omega (arith, e, few, low))

  module _ (r hart s : ℕ) (p q : SendPhase) (n c : ℕ) (h : Counts i p n c) where
    abbrev Then : Act → Type 0
    Then a = Counts i q (n + begun_of p q) (c + makes (box_number k i) (deed r hart s a))

    none_then : (a : Act) → makes (box_number k i) (deed r hart s a) ≡ 0 → Counts i q (n + begun_of p q) c → Then a
    none_then a none t =
        subst (λ m. Counts i q (n + begun_of p q) m)
        (let e : c ≡ c + makes (box_number k i) (deed r hart s a) = omega (arith, none) in e) t

    quiet : (a : Act) → makes (box_number k i) (deed r hart s a) ≡ 0 → SideMoves p q → Then a
    quiet a none m = none_then a none (moved_counts i p n c h q m)

    by_act : (a : Act) → ((link part : ℕ) (bytes : List ℕ) → a ≡ Act.Ready link part bytes → part < 16)
        → ActDoes k a p q → Then a
    by_act (Act.Ready link part bytes) few (inl m) =
        let is : makes (box_number k i) (deed r hart s (Act.Ready link part bytes))
        ≡ makes (box_number k i) (deed r hart s (Act.Ready k part bytes)) =
        ap (λ l. makes (box_number k i) (deed r hart s (Act.Ready l part bytes))) m.0 in
        subst (λ x. Counts i x (n + begun_of p x) (c + makes (box_number k i) (deed r hart s
        (Act.Ready link part bytes))))
        (sym m.1.3)
        (elim (eqb_tells i part) [
          | inl e ↦ subst (λ t. Counts i (readied part p) (n + begun_of p (readied part p)) (c + t))
              (sym (is ∙ makes_one r hart s (box_number k i) k part bytes (ap (box_number k) (sym e.1))))
              (here_counts i p n c h part m.1.0 m.1.1 e.1 m.1.2)
          | inr e ↦ subst (λ t. Counts i (readied part p) (n + begun_of p (readied part p)) (c + t))
              (sym (is ∙ makes_none r hart s (box_number k i) k part bytes (same_part part e.1)))
              (there_counts i p n c h part m.1.0 m.1.1 e.1)
        ])
    by_act (Act.Ready link part bytes) few (inr m) =
        none_then (Act.Ready link part bytes)
        (makes_none r hart s (box_number k i) link part bytes (same_link link part (few link part bytes refl) m.0))
        (same_counts i p n c h q m.1)
    by_act (Act.Freed link part gate) few (inl m) =
        none_then (Act.Freed link part gate)
        (makes_nothing (is_index (box_number k i) (box_for (Act.Freed link part gate)))
        (deed r hart s (Act.Freed link part gate)) refl)
        (subst (λ x. Counts i x (n + begun_of p x) c) (sym m.1.3) (freed_counts i p n c h part m.1.0 m.1.1 m.1.2))
    by_act (Act.Freed link part gate) few (inr m) =
        none_then (Act.Freed link part gate)
        (makes_nothing (is_index (box_number k i) (box_for (Act.Freed link part gate)))
        (deed r hart s (Act.Freed link part gate)) refl)
        (same_counts i p n c h q m.1)
    by_act (Act.Take link box gate bytes) few m =
        quiet (Act.Take link box gate bytes)
        (makes_nothing (is_index (box_number k i) (box_for (Act.Take link box gate bytes)))
        (deed r hart s (Act.Take link box gate bytes)) refl) m
    by_act Act.Plain few m = quiet Act.Plain refl m
    by_act Act.Local few m = quiet Act.Local refl m
    by_act (Act.Hub clock request reply) few m = quiet (Act.Hub clock request reply) refl m
    by_act (Act.Miss link part) few m = quiet (Act.Miss link part) refl m
    by_act Act.Held few m = quiet Act.Held refl m
    by_act Act.Idle few m = quiet Act.Idle refl m

-- from the loaded rank on
module _ (image : ImageParts) (r link i : ℕ) (low : i < 16) where
  -- a rank of the image, as it stands to partition i of a link
  abbrev Stands : Rank → ℕ → ℕ → Type 0
  Stands rank n c = (ds : List Deed) × IsAlone (loaded image r) ds rank × Counts i (sending_at rank.phases link) n c

  steps : (old new : Rank) (d : Deed) (n c : ℕ) → RankMoves old d new → Stands old n c
      → Stands new (n + begun_between (is_sending link) old new) (c + makes (box_number link i) d)
  steps old new d n c move h = (
    h.0 ++ d ∷ [],
    one_more_deed h.0 (loaded image r) old new d h.1 move,
    by_act link i low d.rank d.hart d.stamp (sending_at old.phases link)
        (sending_at new.phases link) n c h.2 d.act few
        (does link old.phases new.phases old.site.version d.act (moves old new d move)),
  )
    where
      few : (k part : ℕ) (bytes : List ℕ) → d.act ≡ Act.Ready k part bytes → part < 16
      few k part bytes is =
          (subst (MayAsk image.links r h.0) (subst (Suits (asked old d.hart)) is move.2)
          (questions image r h.0 old d.hart h.1)).1

  pub counts : (ds : List Deed) (new : Rank) → IsAlone (loaded image r) ds new
      → Counts i (sending_at new.phases link) (phases_begun (is_sending link) (loaded image r) ds)
      (length (made_at (box_number link i) ds))
  counts ds new run =
      (along_makes Stands (is_sending link) (box_number link i) steps ds (loaded image r) new run
      ([], refl, subst (λ p. Counts i p 0 0) (sym (none_sends image.links r link)) (first_counts i))).2

pub made : ReadyLaw
made image r ds old new d link part bytes run move is =
    go (subst (λ a. ActDoes link a (sending_at old.phases link) (sending_at new.phases link)) is
    (does link old.phases new.phases old.site.version d.act (moves old new d move)))
  where
    low : part < 16
    low =
        (subst (MayAsk image.links r ds) (subst (Suits (asked old d.hart)) is move.2)
        (questions image r ds old d.hart run)).1

    go : ActDoes link (Act.Ready link part bytes) (sending_at old.phases link) (sending_at new.phases link)
        → IsInPhase (is_sending link) (length (made_at (box_number link part) ds)) (loaded image r) ds old
    go (inl m) = (
      sym ((counts image r link part low ds old run).left (λ some. m.1.0) m.1.1 m.1.2),
      ap not (is_below (sending_at old.phases link).freed (sending_at old.phases link).parts m.1.1),
    )
    go (inr m) = absurd (m.0 refl)
