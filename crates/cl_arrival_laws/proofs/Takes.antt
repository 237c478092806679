-- What a receiver takes from a box as the k-th it takes in its phase k.
use Rattle.std.specs.Prelude.{ℕ, ◌+◌, ◌*◌, ◌<◌, ◌≤◌, ◌≡◌, ◌≢◌, ◌&&◌, List, [], ◌∷◌, ◌++◌, Bool, true, false, length}
use Rattle.std.specs.Prelude.{get_or, set}
use Rattle.std.specs.Prelude.{nat_le, ◌%◌, ◌==◌, Option, None, Some, if◌then◌else◌, is_some, slice_get}
use Rattle.std.specs.Option.{option_map}
use Rattle.std.proofs.Common.{refl, sym, ap, ◌∙◌, subst, arith}
use Rattle.std.proofs.lemmas.Bool.{and_parts, cases_lt, eqb-true, leb-true}
use Rattle.std.proofs.lemmas.Bool.Decides.{eqb_tells}
use Rattle.std.proofs.lemmas.List.{get_or-replicate, get_or-set_other, get_or-set_same, get_or_past, length-set}
use Rattle.std.proofs.lemmas.Nat.{mul-le}
use Rattle.std.proofs.lemmas.Option.{slice_get-map}
use mathlib.Core.Logic.{inl, inr}
use Rattle.rv_image_types.specs.declared.images.ImageParts.{ImageParts}
use Rattle.rv_image_types.specs.declared.images.ImageVersion.{ImageVersion}
use Rattle.rv_image_types.specs.declared.images.Link.{Link}
use Rattle.part_phase.specs.declared.phases.Phase.TheVariants.{Apart, Sending, Receiving}
use Rattle.part_phase.specs.declared.receiving.RecvPhase.{RecvPhase}
use Rattle.part_phase.specs.Limits.{are_parts, box_bytes, is_size}
use Rattle.part_phase.specs.Phases.{first_phase, receiving_at, receiving_in}
use Rattle.part_phase.specs.Receiving.{are_left, begun_receiving, cut_into, is_cut, is_left, lowest_from, one_taken}
use Rattle.part_phase.specs.Receiving.{shaped_receiving, unshaped_receiving}
use Rattle.part_phase.specs.Sending.{none_marked, unshaped_sending}
use Rattle.part_phase.proofs.Arrivals.{cut as knows_cut, marked_back, unmarked_back}
use Rattle.part_phase.proofs.Lowest.{none_pass}
use Rattle.cl_state.specs.Asked.{asked}
use Rattle.cl_state.specs.Moves.{AsksLook}
use Rattle.cl_state.specs.Rank.{Rank, loaded}
use Rattle.cl_deeds.specs.Deeds.{Act, Suits, Deed, RankMoves}
use Rattle.cl_deeds.specs.Alone.{IsAlone}
use Rattle.cl_machine.specs.Boxes.{box_number}
use Rattle.cl_machine.specs.Parts.{is_index}
use Rattle.cl_machine.specs.Product.{box_for}
use Rattle.cl_box_laws.specs.Gates.{MayAsk}
use Rattle.cl_box_laws.proofs.Kept.{questions}
use Rattle.cl_box_laws.proofs.Sides.{few_boxes}
use Rattle.cl_arrival_laws.specs.Arrival.{IsInPhase, begun_between, is_receiving, phases_begun}
use Rattle.cl_arrival_laws.specs.Laws.{TakeLaw, taken_at}
use Rattle.cl_arrival_laws.proofs.Counting.{along_takes, deed, edge, no_edge, one_more_deed, takes, takes_none}
use Rattle.cl_arrival_laws.proofs.Counting.{takes_nothing, takes_one}
use Rattle.cl_arrival_laws.proofs.Receives.{ActDoes, SideMoves, does}

-- box i is one of the side's, as far as it knows
abbrev pub IsMine : ℕ → RecvPhase → Type 0
IsMine i p = 0 < p.boxes → i < p.boxes

-- how the receiver's side stands after n phases began, and box i was taken c times
pub record Counts (i : ℕ) (p : RecvPhase) (n c : ℕ) : Type 0 where
  -- in a phase a box was taken once more, or not yet; between phases as often as phases began
  pub left : IsMine i p → p.active ≡ true → get_or p.taken i false ≡ false → c + 1 ≡ n
  pub gone : IsMine i p → p.active ≡ true → get_or p.taken i false ≡ true → c ≡ n
  pub idle : IsMine i p → p.active ≡ false → c ≡ n
  pub marks : length p.taken ≡ 16
  pub few : p.boxes ≤ 16
  -- a phase ends only once the cut is known, and the cut is of the receiver's total
  pub known : p.active ≡ false → 0 < n → 0 < p.boxes
  pub uncut : p.parts ≡ 0 → p.boxes ≡ 0
  pub total : 0 < p.boxes → p.boxes * p.bytes ≡ p.parts * p.size

not_both : (b : Bool) → b ≡ true → b ≡ false → ⊥
not_both b t f = absurd (cc)

unmarked : (i : ℕ) → get_or none_marked i false ≡ false
unmarked i =
    elim (cases_lt i 16) [
      | inl low ↦ get_or-replicate 16 i false false low
      | inr up ↦ get_or_past none_marked i false up
    ]

first_counts : (i : ℕ) → Counts i unshaped_receiving 0 0
first_counts i = record {
  left = λ mine on e. absurd (cc);
  gone = λ mine on e. absurd (cc);
  idle = λ mine off. refl;
  marks = refl;
  few = omega arith;
  known = λ off some. absurd (omega (arith, some));
  uncut = λ e. refl;
  total = λ some. absurd (omega (arith, some));
}

-- where no box is left, each was taken
all_marked : (marks : List Bool) (boxes i : ℕ) → are_left marks boxes ≡ false → i < boxes
    → get_or marks i false ≡ true
all_marked marks boxes i e low = go (lowest_from (is_left marks) 0 boxes) refl e
  where
    go : (o : Option ℕ) → lowest_from (is_left marks) 0 boxes ≡ o → is_some o ≡ false → get_or marks i false ≡ true
    go None is f =
        marked_back (get_or marks i false)
        (none_pass (is_left marks) 0 boxes is i (omega arith) (omega (arith, low)))
    go (Some x) is f = absurd (cc)

product_positive : (a b : ℕ) → 0 < a → 0 < b → 0 < a * b
product_positive a b low lower =
    let most : 1 * 1 ≤ a * b = mul-le 1 1 a b (omega (arith, low)) (omega (arith, lower)) in omega (arith, most)

module _ (i : ℕ) (p : RecvPhase) (n c : ℕ) (h : Counts i p n c) where
  -- nothing changed
  same_counts : (q : RecvPhase) → q ≡ p → Counts i q (n + edge p.active q.active) c
  same_counts q e =
      subst (λ (x : RecvPhase). Counts i x (n + edge p.active x.active) c) (sym e)
      (subst (λ m. Counts i p m c) (let none = no_edge p.active in let s : n ≡ n + edge p.active p.active = omega
      (arith, none) in s) h)

  -- a phase begins
  begun_counts : Counts i (begun_receiving p) (n + edge p.active (begun_receiving p).active) c
  begun_counts = go p.active refl
    where
      go : (b : Bool) → p.active ≡ b
          → Counts i (if b then p else record p { active = true; taken = none_marked })
          (n + edge p.active (if b then p else record p { active = true; taken = none_marked }).active) c
      go true on = same_counts p refl
      go false off =
          subst (λ m. Counts i (record p { active = true; taken = none_marked }) m c)
          (let s : n + 1 ≡ n + edge p.active true = ap (λ a. n + edge a true) (sym off) in s)
          (record {
            left = λ mine on e. (let all = h.idle mine off in omega (arith, all));
            gone = λ mine on e. absurd (not_both (get_or none_marked i false) e (unmarked i));
            idle = λ mine e. absurd (cc);
            marks = refl;
            few = h.few;
            known = λ e some. absurd (cc);
            uncut = h.uncut;
            total = h.total;
          })

  -- a transfer gets the side
  shaped_counts : (parts size : ℕ) → p.parts ≡ 0
      → Counts i (shaped_receiving parts size p) (n + edge p.active p.active) c
  shaped_counts parts size none =
      subst (λ m. Counts i (shaped_receiving parts size p) m c)
      (let still = no_edge p.active in let s : n ≡ n + edge p.active p.active = omega (arith, still) in s)
      (record {
        left = h.left;
        gone = h.gone;
        idle = h.idle;
        marks = h.marks;
        few = h.few;
        known = h.known;
        uncut = λ e. h.uncut none;
        total = λ some. absurd (let no_boxes = h.uncut none in omega (arith, some, no_boxes));
      })

  -- it learns the cut
  cut_counts : (version : ImageVersion) (boxes bytes : ℕ) → is_cut version p boxes bytes ≡ true
      → Counts i (cut_into boxes bytes p) (n + edge p.active p.active) c
  cut_counts version boxes bytes is =
      let knows = knows_cut version p boxes bytes is in
      let none : p.boxes ≡ 0 = eqb-true p.boxes 0
      (and_parts (are_parts boxes && is_size version bytes && (boxes * bytes == p.parts * p.size))
      (p.boxes == 0) is).1 in
      subst (λ m. Counts i (cut_into boxes bytes p) m c)
      (let still = no_edge p.active in let s : n ≡ n + edge p.active p.active = omega (arith, still) in s)
      (record {
        left = λ mine. h.left (λ some. absurd (omega (arith, some, none)));
        gone = λ mine. h.gone (λ some. absurd (omega (arith, some, none)));
        idle = λ mine. h.idle (λ some. absurd (omega (arith, some, none)));
        marks = h.marks;
        few = few_boxes version p boxes bytes is;
        known = λ off some. knows.0;
        uncut = λ no_parts. absurd (no_total no_parts knows.1 knows.0);
        total = λ some. knows.1;
      })
    where
      some_bytes : 0 < bytes
      some_bytes =
          let limits = (and_parts _ _ (and_parts _ _ is).0).0 in
          let sizes = (and_parts (are_parts boxes) (is_size version bytes) limits).1 in
          let least = leb-true 8 bytes
          (and_parts (nat_le 8 bytes) (nat_le bytes (box_bytes version))
          (and_parts (nat_le 8 bytes && nat_le bytes (box_bytes version)) (bytes % 8 == 0) sizes).0).0 in
          omega (arith, least)

      no_total : p.parts ≡ 0 → boxes * bytes ≡ p.parts * p.size → 0 < boxes → ⊥
      no_total no_parts same some =
          let some_total = product_positive boxes bytes some some_bytes in
          let nothing : p.parts * p.size ≡ 0 * p.size = ap (λ m. m * p.size) no_parts in
          absurd (omega (arith, some_total, same, nothing))

  -- a box is taken: this one, or another
  module _ (box : ℕ) (asks : AsksLook p box) where
    abbrev set_marks : List Bool
    set_marks = set p.taken box true

    abbrev Becomes : Bool → ℕ → Type 0
    Becomes b m =
        Counts i (record p { active = b; taken = if b then set_marks else none_marked }) (n + edge p.active b) m

    with_edge : (b : Bool) (m : ℕ)
        → Counts i (record p { active = b; taken = if b then set_marks else none_marked }) n m → Becomes b m
    with_edge b m k =
        subst (λ x. Counts i (record p { active = b; taken = if b then set_marks else none_marked }) x m)
        (let s : n + 0 ≡ n + edge p.active b = ap (λ a. n + edge a b) (sym asks.going) in
        let z : n ≡ n + 0 = omega arith in z ∙ s) k

    here_counts : i ≡ box → Counts i (one_taken box p) (n + edge p.active (one_taken box p).active) (c + 1)
    here_counts same = go (are_left set_marks p.boxes) refl
      where
        low : i < p.boxes
        low = let there = asks.there in omega (arith, same, there)

        one_more : c + 1 ≡ n
        one_more = h.left (λ some. low) asks.going
            (unmarked_back (get_or p.taken i false) (subst (λ j. is_left p.taken j ≡ true) (sym same) asks.left))

        marked : get_or set_marks i false ≡ true
        marked = subst (λ j. get_or (set p.taken box true) j false ≡ true) (sym same)
            (get_or-set_same p.taken box true false
            (let there = asks.there in let most = h.few in let all = h.marks in omega (arith, there, most, all)))

        go : (b : Bool) → are_left set_marks p.boxes ≡ b → Becomes b (c + 1)
        go true some = with_edge true (c + 1) (record {
          left = λ mine on e. absurd (not_both (get_or set_marks i false) marked e);
          gone = λ mine on e. one_more;
          idle = λ mine off. absurd (cc);
          marks = length-set p.taken box true ∙ h.marks;
          few = h.few;
          known = λ off k. absurd (cc);
          uncut = h.uncut;
          total = h.total;
        })
        go false none = with_edge false (c + 1) (record {
          left = λ mine on e. absurd (cc);
          gone = λ mine on e. absurd (cc);
          idle = λ mine off. one_more;
          marks = refl;
          few = h.few;
          known = λ off k. asks.known;
          uncut = h.uncut;
          total = h.total;
        })

    there_counts : i ≢ box → Counts i (one_taken box p) (n + edge p.active (one_taken box p).active) (c + 0)
    there_counts other =
        subst (λ m. Counts i (one_taken box p) (n + edge p.active (one_taken box p).active) m)
        (let s : c ≡ c + 0 = omega arith in s) (go (are_left set_marks p.boxes) refl)
      where
        is : get_or set_marks i false ≡ get_or p.taken i false
        is = get_or-set_other p.taken box i true false other

        go : (b : Bool) → are_left set_marks p.boxes ≡ b → Becomes b c
        go true some = with_edge true c (record {
          left = λ mine on e. h.left mine asks.going (sym is ∙ e);
          gone = λ mine on e. h.gone mine asks.going (sym is ∙ e);
          idle = λ mine off. absurd (cc);
          marks = length-set p.taken box true ∙ h.marks;
          few = h.few;
          known = λ off k. absurd (cc);
          uncut = h.uncut;
          total = h.total;
        })
        go false none = with_edge false c (record {
          left = λ mine on e. absurd (cc);
          gone = λ mine on e. absurd (cc);
          idle = λ mine off.
              h.gone mine asks.going (sym is ∙ all_marked set_marks p.boxes i none (mine asks.known));
          marks = refl;
          few = h.few;
          known = λ off k. asks.known;
          uncut = h.uncut;
          total = h.total;
        })

  -- any other change
  moved_counts : (version : ImageVersion) (q : RecvPhase) → SideMoves version p q
      → Counts i q (n + edge p.active q.active) c
  moved_counts version q (inl e) = same_counts q e
  moved_counts version q (inr (inl e)) =
      subst (λ (x : RecvPhase). Counts i x (n + edge p.active x.active) c) (sym e) begun_counts
  moved_counts version q (inr (inr (inl m))) =
      subst (λ (x : RecvPhase). Counts i x (n + edge p.active x.active) c) (sym m.3) (shaped_counts m.0 m.1 m.2)
  moved_counts version q (inr (inr (inr m))) =
      subst (λ (x : RecvPhase). Counts i x (n + edge p.active x.active) c) (sym m.3) (cut_counts version m.0 m.1 m.2)

-- ---- along a run, of box i of link k

module _ (k i : ℕ) (low : i < 16) where
  same_box : (box : ℕ) → box < 16 → i ≢ box → box_number k box ≢ box_number k i
  same_box box few other e = other (omega (arith, e))

  same_link : (link box : ℕ) → box < 16 → link ≢ k → box_number link box ≢ box_number k i
  same_link link box few other e = other (omega (arith, e, few, low))

  module _ (r hart s : ℕ) (version : ImageVersion) (p q : RecvPhase) (n c : ℕ) (h : Counts i p n c) where
    abbrev Then : Act → Type 0
    Then a = Counts i q (n + edge p.active q.active) (c + takes (box_number k i) (deed r hart s a))

    none_then : (a : Act) → takes (box_number k i) (deed r hart s a) ≡ 0
        → Counts i q (n + edge p.active q.active) c → Then a
    none_then a none t =
        subst (λ m. Counts i q (n + edge p.active q.active) m)
        (let e : c ≡ c + takes (box_number k i) (deed r hart s a) = omega (arith, none) in e) t

    quiet : (a : Act) → takes (box_number k i) (deed r hart s a) ≡ 0 → SideMoves version p q → Then a
    quiet a none m = none_then a none (moved_counts i p n c h version q m)

    by_act : (a : Act) → (link_low : (link box gate : ℕ) (bytes : List ℕ) → a ≡ Act.Take link box gate bytes
        → box < 16)
        → ActDoes version k a p q → Then a
    by_act (Act.Take link box gate bytes) few (inl m) =
        let is : takes (box_number k i) (deed r hart s (Act.Take link box gate bytes))
        ≡ takes (box_number k i) (deed r hart s (Act.Take k box gate bytes)) =
        ap (λ l. takes (box_number k i) (deed r hart s (Act.Take l box gate bytes))) m.0 in
        subst (λ (x : RecvPhase). Counts i x (n + edge p.active x.active)
        (c + takes (box_number k i) (deed r hart s (Act.Take link box gate bytes)))) (sym m.1.1)
        (elim (eqb_tells i box) [
          | inl e ↦ subst (λ t. Counts i (one_taken box p) (n + edge p.active (one_taken box p).active) (c + t))
              (sym (is ∙ takes_one r hart s (box_number k i) k box gate bytes (ap (box_number k) (sym e.1))))
              (here_counts i p n c h box m.1.0 e.1)
          | inr e ↦ subst (λ t. Counts i (one_taken box p) (n + edge p.active (one_taken box p).active) (c + t))
              (sym (is ∙ takes_none r hart s (box_number k i) k box gate bytes
              (same_box box (few link box gate bytes refl) e.1)))
              (there_counts i p n c h box m.1.0 e.1)
        ])
    by_act (Act.Take link box gate bytes) few (inr m) =
        none_then (Act.Take link box gate bytes)
        (takes_none r hart s (box_number k i) link box gate bytes (same_link link box
        (few link box gate bytes refl) m.0))
        (same_counts i p n c h q m.1)
    by_act (Act.Ready link part bytes) few m =
        quiet (Act.Ready link part bytes)
        (takes_nothing (is_index (box_number k i) (box_for (Act.Ready link part bytes)))
        (deed r hart s (Act.Ready link part bytes)) refl) m
    by_act (Act.Freed link part gate) few m =
        quiet (Act.Freed link part gate)
        (takes_nothing (is_index (box_number k i) (box_for (Act.Freed link part gate)))
        (deed r hart s (Act.Freed link part gate)) refl) m
    by_act Act.Plain few m = quiet Act.Plain refl m
    by_act Act.Local few m = quiet Act.Local refl m
    by_act (Act.Hub clock request reply) few m = quiet (Act.Hub clock request reply) refl m
    by_act (Act.Miss link part) few m = quiet (Act.Miss link part) refl m
    by_act Act.Held few m = quiet Act.Held refl m
    by_act Act.Idle few m = quiet Act.Idle refl m

-- from the loaded rank on
module _ (image : ImageParts) (r link i : ℕ) (low : i < 16) where
  first_side : receiving_at (loaded image r).phases link ≡ unshaped_receiving
  first_side =
      subst (λ o. receiving_in o ≡ unshaped_receiving) (sym (slice_get-map (first_phase r) image.links link))
      (go (slice_get image.links link))
    where
      either : (a b : Bool)
          → receiving_in (Some
          (if a then Sending unshaped_sending else if b then Receiving unshaped_receiving else Apart))
          ≡ unshaped_receiving
      either true b = refl
      either false true = refl
      either false false = refl

      go : (o : Option Link) → receiving_in (option_map (first_phase r) o) ≡ unshaped_receiving
      go None = refl
      go (Some l) = either (l.from == r) (l.to == r)

  -- a rank of the image, as it stands to box i of a link
  abbrev pub Stands : Rank → ℕ → ℕ → Type 0
  Stands rank n c = (ds : List Deed) × IsAlone (loaded image r) ds rank × Counts i (receiving_at rank.phases link) n c

  pub steps : (old new : Rank) (d : Deed) (n c : ℕ) → RankMoves old d new → Stands old n c
      → Stands new (n + begun_between (is_receiving link) old new) (c + takes (box_number link i) d)
  steps old new d n c move h = (
    h.0 ++ d ∷ [],
    one_more_deed h.0 (loaded image r) old new d h.1 move,
    by_act link i low d.rank d.hart d.stamp old.site.version (receiving_at old.phases link)
        (receiving_at new.phases link) n c h.2 d.act few (does link old new d move),
  )
    where
      few : (k box gate : ℕ) (bytes : List ℕ) → d.act ≡ Act.Take k box gate bytes → box < 16
      few k box gate bytes is =
          (subst (MayAsk image.links r h.0) (subst (Suits (asked old d.hart)) is move.2)
          (questions image r h.0 old d.hart h.1)).1

  pub counts : (ds : List Deed) (new : Rank) → IsAlone (loaded image r) ds new
      → Counts i (receiving_at new.phases link) (phases_begun (is_receiving link) (loaded image r) ds)
      (length (taken_at (box_number link i) ds))
  counts ds new run =
      (along_takes Stands (is_receiving link) (box_number link i) steps ds (loaded image r) new run
      ([], refl, subst (λ p. Counts i p 0 0) (sym first_side) (first_counts i))).2

pub taken : TakeLaw
taken image r ds old new d link box gate bytes run move is =
    go (subst (λ a. ActDoes old.site.version link a (receiving_at old.phases link) (receiving_at new.phases link)) is
    (does link old new d move))
  where
    low : box < 16
    low =
        (subst (MayAsk image.links r ds) (subst (Suits (asked old d.hart)) is move.2)
        (questions image r ds old d.hart run)).1

    go : ActDoes old.site.version link (Act.Take link box gate bytes) (receiving_at old.phases link)
        (receiving_at new.phases link)
        → IsInPhase (is_receiving link) (length (taken_at (box_number link box) ds)) (loaded image r) ds old
    go (inl m) =
        let asks = m.1.0 in (
          sym ((counts image r link box low ds old run).left (λ some. asks.there) asks.going
              (unmarked_back (get_or (receiving_at old.phases link).taken box false) asks.left)),
          asks.going,
        )
    go (inr m) = absurd (m.0 refl)
