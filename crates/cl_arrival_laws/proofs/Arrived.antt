-- What is reported arrived in a phase was taken in it.
use Rattle.std.specs.Prelude.{ℕ, ◌+◌, ◌*◌, ◌/◌, ◌<◌, ◌≤◌, ◌≡◌, ◌≢◌, ◌⊎◌, ◌&&◌, List, [], ◌∷◌, ◌++◌, Bool, true, false}
use Rattle.std.specs.Prelude.{length, get_or, None, if◌then◌else◌, nat_lt}
use Rattle.std.proofs.Common.{refl, sym, ap, ◌∙◌, subst, arith}
use mathlib.Core.Logic.{inl, inr}
use Rattle.rv_image_types.specs.declared.images.ImageParts.{ImageParts}
use Rattle.rv_image_types.specs.declared.images.ImageVersion.{ImageVersion}
use Rattle.part_phase.specs.declared.receiving.RecvPhase.{RecvPhase}
use Rattle.part_phase.specs.Phases.{receiving_at}
use Rattle.part_phase.specs.Receiving.{begun_receiving, is_left, lowest_from, next_box, next_box_of, overlaps}
use Rattle.part_phase.specs.Sending.{none_marked}
use Rattle.part_phase.proofs.Arrivals.{below, begins, cut as knows_cut, ends, marked_back}
use Rattle.part_phase.proofs.Lowest.{none_pass}
use Rattle.cl_state.specs.Rank.{Rank, loaded}
use Rattle.cl_state_laws.specs.Registers.{HasRegisters}
use Rattle.cl_state_laws.proofs.Registers.{registers}
use Rattle.cl_deeds.specs.Deeds.{Act, Deed, RankMoves, answer_of}
use Rattle.cl_deeds.specs.Alone.{IsAlone}
use Rattle.cl_machine.specs.Boxes.{box_number}
use Rattle.cl_arrival_laws.specs.Arrival.{ReportsArrived, is_receiving, phases_begun}
use Rattle.cl_arrival_laws.specs.Laws.{ArrivedLaw, IsTakenTimes}
use Rattle.cl_arrival_laws.specs.Laws.{taken_at}
use Rattle.cl_arrival_laws.proofs.Completes.{has_all}
use Rattle.cl_arrival_laws.proofs.Counting.{one_more_deed}
use Rattle.cl_arrival_laws.proofs.Receives.{ActDoes, SideMoves, does}
use Rattle.cl_arrival_laws.proofs.Reports.{is_its_part, waits_for_none}
use Rattle.cl_arrival_laws.proofs.Takes.{Counts, counts}

-- ---- what a turn keeps of a side that has a shape

-- its partitions stay, and a cut that is known stays known
abbrev pub Keeps : RecvPhase → RecvPhase → Type 0
Keeps p q = (0 < p.parts → q.parts ≡ p.parts) × (p.boxes ≢ 0 → 0 < q.boxes)

positive : (n : ℕ) → n ≢ 0 → 0 < n
positive n some = omega (arith, some)

keeps_same : (p : RecvPhase) → Keeps p p
keeps_same p = (λ some. refl, λ some. positive p.boxes some)

keeps_begun : (p : RecvPhase) → Keeps p (begun_receiving p)
keeps_begun p = go p.active
  where
    go : (b : Bool) → Keeps p (if b then p else record p { active = true; taken = none_marked })
    go true = keeps_same p
    go false = (λ some. refl, λ some. positive p.boxes some)

side_keeps : (version : ImageVersion) (p q : RecvPhase) → SideMoves version p q → Keeps p q
side_keeps version p q (inl e) = subst (Keeps p) (sym e) (keeps_same p)
side_keeps version p q (inr (inl e)) = subst (Keeps p) (sym e) (keeps_begun p)
side_keeps version p q (inr (inr (inl m))) =
    subst (Keeps p) (sym m.3)
    (λ some. absurd (let none = m.2 in omega (arith, some, none)), λ some. positive p.boxes some)
side_keeps version p q (inr (inr (inr m))) =
    subst (Keeps p) (sym m.3) (λ some. refl, λ some. (knows_cut version p m.0 m.1 m.2).0)

act_keeps : (version : ImageVersion) (k : ℕ) (a : Act) (p q : RecvPhase) → ActDoes version k a p q → Keeps p q
act_keeps version k (Act.Take link box gate bytes) p q (inl m) =
    subst (Keeps p) (sym m.1.1) (λ some. refl, λ some. positive p.boxes some)
act_keeps version k (Act.Take link box gate bytes) p q (inr m) = subst (Keeps p) (sym m.1) (keeps_same p)
act_keeps version k Act.Plain p q m = side_keeps version p q m
act_keeps version k Act.Local p q m = side_keeps version p q m
act_keeps version k (Act.Hub clock request reply) p q m = side_keeps version p q m
act_keeps version k (Act.Ready link part bytes) p q m = side_keeps version p q m
act_keeps version k (Act.Miss link part) p q m = side_keeps version p q m
act_keeps version k (Act.Freed link part gate) p q m = side_keeps version p q m
act_keeps version k Act.Held p q m = side_keeps version p q m
act_keeps version k Act.Idle p q m = side_keeps version p q m

-- ---- a partition that waits for no box

no_right : (a : Bool) → (a && true) ≡ false → a ≡ false
no_right true e = absurd (cc)
no_right false e = refl

is_less : (a b : ℕ) → a < b → nat_lt a b ≡ true
is_less a b low = grind arith

-- each of its boxes was taken
taken_there : (p : RecvPhase) (part box : ℕ) → p.active ≡ true → next_box_of p part ≡ None → box < p.boxes
    → box * p.bytes < (part + 1) * p.size → part * p.size < (box + 1) * p.bytes → get_or p.taken box false ≡ true
taken_there p part box on none low first second =
    let passes : ℕ → Bool = λ n. is_left p.taken n && overlaps p part n in
    let no_box : lowest_from passes 0 p.boxes ≡ None =
    sym (ap (λ (b : Bool). if b then lowest_from passes 0 p.boxes else None) on) ∙ none in
    let fails : (is_left p.taken box && overlaps p part box) ≡ false =
    none_pass passes 0 p.boxes no_box box (omega arith) (omega (arith, low)) in
    let a = is_less (box * p.bytes) ((part + 1) * p.size) first in
    let b = is_less (part * p.size) ((box + 1) * p.bytes) second in
    let both : overlaps p part box ≡ true = λ i. a i && b i in
    marked_back (get_or p.taken box false)
    (no_right (is_left p.taken box) (ap (λ c. is_left p.taken box && c) (sym both) ∙ fails))

-- ---- the law

either : (b : Bool) → ((b ≡ true) ⊎ (b ≡ false))
either true = inl refl
either false = inr refl

-- the boxes that a partition overlaps were taken, while the phase is going on
abbrev Gone : RecvPhase → ℕ → Type 0
Gone q part =
    (box : ℕ) → q.active ≡ true → box < q.boxes → box * q.bytes < (part + 1) * q.size
    → part * q.size < (box + 1) * q.bytes → get_or q.taken box false ≡ true

-- the phase has ended, or they were
abbrev HasWaited : RecvPhase → ℕ → Type 0
HasWaited q part = (q.active ≡ false) ⊎ ((0 < q.boxes) × Gone q part)

module _ (image : ImageParts) (r : ℕ) (ds : List Deed) (new : Rank) (link part n : ℕ)
    (run : IsAlone (loaded image r) ds new) (some : 0 < n)
    (begun : phases_begun (is_receiving link) (loaded image r) ds ≡ n) where
  abbrev q : RecvPhase
  q = receiving_at new.phases link

  its_counts : (i : ℕ) → i < 16 → Counts i q n (length (taken_at (box_number link i) ds))
  its_counts i low =
      subst (λ m. Counts i q m (length (taken_at (box_number link i) ds))) begun
      (counts image r link i low ds new run)

  few : q.boxes ≤ 16
  few = (its_counts 0 (omega arith)).few

  known : HasWaited q part → 0 < q.boxes
  known (inl off) = (its_counts 0 (omega arith)).known off some
  known (inr h) = h.0

  taken_times : HasWaited q part → part < q.parts → IsTakenTimes n q link part ds
  taken_times waits its byte within =
      let total = (its_counts 0 (omega arith)).total (known waits) in
      let box = byte / q.bytes in
      let low : box < q.boxes = below part q.size q.parts q.boxes q.bytes byte total its within.1 in
      let from : box * q.bytes ≤ byte = begins part q.size q.parts q.boxes q.bytes byte total its within.1 in
      let to : byte < (box + 1) * q.bytes = ends part q.size q.parts q.boxes q.bytes byte total its within.1 in
      let c = its_counts box (let most = few in omega (arith, low, most)) in
      (box, (from, to), low, go waits box low c (omega (arith, from, within.1)) (omega (arith, to, within.0)))
    where
      go : HasWaited q part → (box : ℕ) → box < q.boxes
          → Counts box q n (length (taken_at (box_number link box) ds))
          → box * q.bytes < (part + 1) * q.size → part * q.size < (box + 1) * q.bytes
          → length (taken_at (box_number link box) ds) ≡ n
      go (inl off) box low c first second = c.idle (λ k. low) off
      go (inr h) box low c first second =
          elim (either q.active) [
            | inl on ↦ c.gone (λ k. low) on (h.1 box on low first second)
            | inr off ↦ c.idle (λ k. low) off
          ]

-- ---- each report

-- a rank that goes alone from its start has its registers
has_registers : (rank : Rank) (ds : List Deed) (new : Rank) → IsAlone rank ds new → HasRegisters rank
    → HasRegisters new
has_registers rank [] new run has = subst HasRegisters (sym run) has
has_registers rank (d ∷ ds) new run has =
    has_registers run.0 ds new run.2
    (subst HasRegisters (sym run.1.4) (registers.kept rank d.hart (answer_of d.act) d.stamp has))

seen_gone : (q : RecvPhase) (part : ℕ) → next_box_of q part ≡ None → Gone q part
seen_gone q part none box on low first second = taken_there q part box on none low first second

all_gone : (q : RecvPhase) (part : ℕ) → next_box q ≡ None → Gone q part
all_gone q part none box on low first second =
    let no_box : lowest_from (is_left q.taken) 0 q.boxes ≡ None =
    sym (ap (λ (b : Bool). if b then lowest_from (is_left q.taken) 0 q.boxes else None) on) ∙ none in
    marked_back (get_or q.taken box false)
    (none_pass (is_left q.taken) 0 q.boxes no_box box (omega arith) (omega (arith, low)))

module _ (image : ImageParts) (r : ℕ) (ds : List Deed) (old new : Rank) (d : Deed) (link part : ℕ)
    (run : IsAlone (loaded image r) ds old) (move : RankMoves old d new) where
  abbrev p : RecvPhase
  p = receiving_at old.phases link

  abbrev then_q : RecvPhase
  then_q = receiving_at new.phases link

  keeps : Keeps p then_q
  keeps = act_keeps old.site.version link d.act p then_q (does link old new d move)

  old_has : HasRegisters old
  old_has = has_registers (loaded image r) ds old run (registers.first image r)

  waited : ReportsArrived old d link part → HasWaited then_q part
  waited (inl seen) =
      elim (waits_for_none old new d link part move old_has seen)
      [ inl off ↦ inl off | inr h ↦ inr (keeps.1 h.0, seen_gone then_q part h.1) ]
  waited (inr complete) =
      elim (has_all old new d link move complete.0)
      [ inl off ↦ inl off | inr h ↦ inr (keeps.1 h.0, all_gone then_q part h.1) ]

  its : ReportsArrived old d link part → part < p.parts
  its (inl seen) = is_its_part old new d link part move old_has seen
  its (inr complete) = complete.1

pub arrived : ArrivedLaw
arrived image r ds old new d link part k run move reports begun =
    let its = its image r ds old new d link part run move reports in
    let same = (keeps image r ds old new d link part run move).0 (omega (arith, its)) in
    taken_times image r (ds ++ d ∷ []) new link part (k + 1) (one_more_deed ds (loaded image r) old new d run move)
    (omega arith) begun (waited image r ds old new d link part run move reports) (omega (arith, its, same))
