-- Marks of nodes that lead to some.
use Rattle.std.specs.Prelude.{ℕ, zero, suc, ◌+◌, ◌-◌, ◌<◌, ◌≤◌, ◌≡◌, ◌⊎◌, List, [], ◌∷◌, ◌++◌, cond, drop, length, not, replicate, slice_get, slice_set, take, Bool, true, false, Some}
use Rattle.std.proofs.Math.Seq.{take-append_seam}
use Rattle.std.proofs.Common.{refl, sym, ap, ◌∙◌, subst, arith, inl, inr, get_or}
use Rattle.std.proofs.lemmas.List.{get_or-replicate, length-replicate}
use Rattle.std.proofs.lemmas.List.Sums.{sum_by-set}
use Rattle.std.proofs.lemmas.Bool.{cases_eq}
use Rattle.std.proofs.lemmas.Option.{same_Some, slice_get-get_or, slice_get_within}
use Rattle.cl_machine.proofs.Lists.{get-set_other, get-set_same}
use Rattle.cl_explore.specs.declared.leads.Lead.{Lead}
use Rattle.rvmc_explore.specs.Endless.{AreComplete}
use Rattle.rvmc_explore.specs.Marks.{AreMarkedFrom, HaveStayed, IsMarkedBefore, IsMarkedIfThere, unmarked}
use Rattle.rvmc_explore.specs.Searched.{AreSound, GoesTo}

-- what is marked was, or is the one
pub was_marked : (marks : List Bool) (n i : ℕ) → slice_get (slice_set marks n true) i ≡ Some true
    → (slice_get marks i ≡ Some true) ⊎ (n ≡ i)
was_marked marks n i at = elim (cases_eq n i) [
  | inl same ↦ inr same
  | inr other ↦ inl (sym (get-set_other marks n i true other) ∙ at)
]

-- the node from which a move led, where the one is marked to which it led
pub marked_before : (leads : List Lead) (targets : List ℕ) (marks : List Bool) (k : ℕ) (lead : Lead)
    → slice_get leads k ≡ Some lead → slice_get marks lead.to ≡ Some true → AreSound leads targets marks
    → AreSound leads targets (slice_set marks lead.from true)
marked_before leads targets marks k lead at there sound = λ i is. elim (was_marked marks lead.from i is) [
  | inl was ↦ sound i was
  | inr same ↦
      let far = sound lead.to there in
      subst (GoesTo leads targets) same (suc far.0, (lead.to, (k, lead, at, refl, refl), far.1))
]

-- where those that are marked are targets they lead there
pub marked_targets : (leads : List Lead) (targets : List ℕ) (marks : List Bool)
    → ((i : ℕ) → slice_get marks i ≡ Some true → (k : ℕ) × (slice_get targets k ≡ Some i)) → AreSound leads targets marks
marked_targets leads targets marks are = λ i is. (0, are i is)

-- ---- one mark more

pub stays_marked : (marks : List Bool) (n : ℕ) → HaveStayed marks (slice_set marks n true)
stays_marked marks n i at = elim (cases_eq n i) [
  | inl same ↦
      subst (λ k. slice_get (slice_set marks n true) k ≡ Some true) same
      (get-set_same marks n true true (subst (λ k. slice_get marks k ≡ Some true) (sym same) at))
  | inr other ↦ get-set_other marks n i true other ∙ at
]

pub now_marked : (marks : List Bool) (n : ℕ) → n < length marks → slice_get (slice_set marks n true) n ≡ Some true
now_marked [] n low = absurd (omega (arith, low))
now_marked (m ∷ marks) zero low = refl
now_marked (m ∷ marks) (suc n) low = now_marked marks n (omega (arith, low))

-- where it wasn't marked, one less is left
pub one_fewer : (marks : List Bool) (n : ℕ) → n < length marks → (slice_get marks n ≡ Some true → ⊥)
    → unmarked (slice_set marks n true) < unmarked marks
one_fewer marks n low new = of (get_or marks n true) refl
  where
    of : (b : Bool) → get_or marks n true ≡ b → unmarked (slice_set marks n true) < unmarked marks
    of true is = absurd (new (slice_get-get_or marks n true low ∙ ap Some is))
    of false is =
        let sums : unmarked (slice_set marks n true) + cond (not (get_or marks n true)) 1 0 ≡ unmarked marks + 0 =
        sum_by-set (λ m. cond (not m) 1 0) marks n true true low in
        let one : ◌≡◌ {A = ℕ} (cond (not (get_or marks n true)) 1 0) 1 = ap (λ m. cond (not m) 1 0) is in
        omega (arith, sums, one)

-- ---- moves, one behind another

-- the move at this place needn't mark anything
pub is_done : (leads : List Lead) (marks : List Bool) (place : ℕ) (lead : Lead) → slice_get leads place ≡ Some lead
    → (slice_get marks lead.to ≡ Some true → IsMarkedIfThere marks lead.from) → IsMarkedBefore leads place marks
is_done leads marks place lead at done = λ other there set.
    let same : lead ≡ other = same_Some lead other (sym at ∙ there) in
    subst (λ (l : Lead). IsMarkedIfThere marks l.from) same
    (done (subst (λ (l : Lead). slice_get marks l.to ≡ Some true) (sym same) set))

-- none from this place on, nor the one before it
pub one_before : (leads : List Lead) (marks : List Bool) (first place : ℕ) → first ≡ place + 1
    → IsMarkedBefore leads place marks → AreMarkedFrom leads first marks → AreMarkedFrom leads place marks
one_before leads marks first place next here rest = λ other low. elim (cases_eq place other) [
  | inl same ↦ subst (λ k. IsMarkedBefore leads k marks) same here
  | inr apart ↦ rest other (omega (arith, next, low, apart))
]

-- behind the last move there is none
pub none_behind : (leads : List Lead) (marks : List Bool) (first : ℕ) → length leads ≤ first
    → AreMarkedFrom leads first marks
none_behind leads marks first past = λ place low lead at.
    let inside = slice_get_within leads place lead at in absurd (omega (arith, inside, low, past))

-- where no move marks anything, each node that leads to a target is marked
pub complete : (leads : List Lead) (targets : List ℕ) (marks : List Bool)
    → ((k i : ℕ) → slice_get targets k ≡ Some i → IsMarkedIfThere marks i) → AreMarkedFrom leads 0 marks
    → AreComplete leads targets marks
complete leads targets marks are from = record {
  at = are;
  before = λ i j led set low.
      let first : led.1.from < length marks = subst (λ k. k < length marks) (sym led.3) low in
      subst (λ k. slice_get marks k ≡ Some true) led.3
      (from led.0 (omega (arith)) led.1 led.2 (subst (λ k. slice_get marks k ≡ Some true) (sym led.4) set) first);
}

-- targets that were marked are
pub targets_stay : (targets : List ℕ) (old new : List Bool) → length new ≡ length old → HaveStayed old new
    → ((k i : ℕ) → slice_get targets k ≡ Some i → IsMarkedIfThere old i) → (k i : ℕ) → slice_get targets k ≡ Some i
    → IsMarkedIfThere new i
targets_stay targets old new same stay are k i at low = stay i (are k i at (omega (arith, low, same)))

-- ---- a vector whose slice a call marks further

-- what a vector holds whose slice a call changed
pub changed_slice : {A : Type 0} (old slice new : List A) (len : ℕ) → slice ≡ old → len ≡ length old → length new ≡ length slice
    → take len (new ++ drop (length new) old) ≡ new
changed_slice old slice new len same low long =
    let many : len ≡ length new = low ∙ (ap length (sym same) ∙ sym long) in
    ap (λ n. take n (new ++ drop (length new) old)) many ∙ take-append_seam new (drop (length new) old)

-- the nodes that lead to these targets, as far as they are marked: each target is
abbrev pub AreMarked : List Lead → List ℕ → ℕ → List Bool → Type 0
AreMarked leads targets count marks =
    (length marks ≡ count) × AreSound leads targets marks
    × ((k i : ℕ) → slice_get targets k ≡ Some i → IsMarkedIfThere marks i)

-- and so behind a call that marks further
pub marked_on : (leads lent : List Lead) (targets : List ℕ) (count : ℕ) (old slice new : List Bool) (len : ℕ)
    → lent ≡ leads → slice ≡ old → len ≡ length old → length new ≡ length slice
    → (AreSound lent targets slice → AreSound lent targets new) → HaveStayed slice new
    → AreMarked leads targets count old
    → AreMarked leads targets count (take len (new ++ drop (length new) old))
marked_on leads lent targets count old slice new len is same low long sound stay (many, first, at) =
    subst (AreMarked leads targets count) (sym (changed_slice old slice new len same low long)) (
      long ∙ (ap length same ∙ many),
      subst (λ ls. AreSound ls targets new) is
          (sound (subst (λ ls. AreSound ls targets slice) (sym is) (subst (AreSound leads targets) (sym same) first))),
      targets_stay targets slice new long stay
          (subst (λ ms. (k i : ℕ) → slice_get targets k ≡ Some i → IsMarkedIfThere ms i) (sym same) at),
    )

-- ---- all moves, the last one first

-- those of so many places have been gone over, and `more` says whether one marked a node
pub record MarkedSoFar (leads : List Lead) (place : ℕ) (more : Bool) (old new : List Bool) : Type 0 where
  pub sound : (targets : List ℕ) → AreSound leads targets old → AreSound leads targets new
  pub stay : HaveStayed old new
  pub most : unmarked new ≤ unmarked old
  pub fewer : more ≡ true → unmarked new < unmarked old
  pub done : more ≡ false → AreMarkedFrom leads (length leads - place) new

pub none_so_far : (leads : List Lead) (marks : List Bool) → MarkedSoFar leads 0 false marks marks
none_so_far leads marks = record {
  sound = λ targets sound. sound;
  stay = λ i at. at;
  most = omega (arith);
  fewer = λ is. absurd (cc);
  done = λ is. none_behind leads marks (length leads - 0) (omega (arith));
}

-- one that marks a node
pub marked_one : (leads : List Lead) (place : ℕ) (more : Bool) (old mid new : List Bool)
    → ((targets : List ℕ) → AreSound leads targets mid → AreSound leads targets new) → HaveStayed mid new
    → unmarked new < unmarked mid → MarkedSoFar leads place more old mid
    → MarkedSoFar leads (place + 1) true old new
marked_one leads place more old mid new sound stay less so_far = record {
  sound = λ targets first. sound targets (so_far.sound targets first);
  stay = λ i at. stay i (so_far.stay i at);
  most = (let m = so_far.most in omega (arith, less, m));
  fewer = λ is. (let m = so_far.most in omega (arith, less, m));
  done = λ is. absurd (cc);
}

-- one that marks none
pub marked_none : (leads : List Lead) (place : ℕ) (more : Bool) (old mid new : List Bool) → place < length leads
    → new ≡ mid → IsMarkedBefore leads (length leads - 1 - place) new → MarkedSoFar leads place more old mid
    → MarkedSoFar leads (place + 1) more old new
marked_none leads place more old mid new low same here so_far =
    let is_new = subst (MarkedSoFar leads place more old) (sym same) so_far in
    record {
      sound = is_new.sound;
      stay = is_new.stay;
      most = is_new.most;
      fewer = is_new.fewer;
      done = λ is.
          subst (λ k. AreMarkedFrom leads k new) (omega (arith, low))
          (one_before leads new (length leads - place) (length leads - 1 - place) (omega (arith, low)) here (is_new.done is));
    }

-- all of them
pub marked_each : (leads : List Lead) (place : ℕ) (more : Bool) (old new : List Bool) → length leads ≤ place
    → MarkedSoFar leads place more old new → more ≡ false → AreMarkedFrom leads 0 new
marked_each leads place more old new all so_far is =
    subst (λ k. AreMarkedFrom leads k new) (omega (arith, all)) (so_far.done is)

-- ---- marks of all nodes

pub all_many : (all : List Bool) (count : ℕ) → all ≡ replicate count true → length all ≡ count
all_many all count same = ap length same ∙ length-replicate count true

pub all_set : (all : List Bool) (count : ℕ) → all ≡ replicate count true → (i : ℕ) → i < length all → slice_get all i ≡ Some true
all_set all count same i low =
    let inside : i < count = (let many = all_many all count same in omega (arith, low, many)) in
    slice_get-get_or all i false low
    ∙ ap Some (ap (λ (marks : List Bool). get_or marks i false) same ∙ get_or-replicate count i true false inside)
