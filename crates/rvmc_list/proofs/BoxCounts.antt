-- The numbers of boxes, behind one step more.
use Rattle.std.specs.Prelude.{ℕ, zero, suc, ◌+◌, ◌*◌, ◌≡◌, ◌≢◌, ◌<◌, ◌==◌, Bool, true, false, cond, List, [], ◌∷◌}
use Rattle.std.specs.Prelude.{length, replicate, slice_get, slice_set, Option, Some, None}
use Rattle.std.proofs.Common.{refl, sym, ap, ◌∙◌, subst, arith}
use Rattle.std.proofs.lemmas.Grind.{common_steps}
use Rattle.std.proofs.lemmas.List.{length-append, length-replicate}
use Rattle.mp_match.proofs.Rows.{slice_set_length}
use Rattle.rv_image_types.specs.declared.images.ImageParts.{ImageParts}
use Rattle.cl_machine.proofs.Lists.{get-set_other, get-set_same}
use Rattle.cl_machine.specs.Boxes.{Box, box_number, empty_box, with_made, with_taken}
use Rattle.cl_machine.specs.Cluster.{CaseOf, Cluster, IsStep}
use Rattle.cl_machine.specs.declared.steps.Step.{Step}
use Rattle.cl_replay.specs.Replaying.{IsReached}
use Rattle.cl_replay.specs.declared.states.ClusterState.{ClusterState}
use Rattle.cl_state.specs.Asked.{asked}
use Rattle.cl_state.specs.Rank.{Rank}
use Rattle.cl_state.specs.declared.asking.Ask.{Ask}
use Rattle.cl_state.specs.declared.asking.Ask.TheVariants as ask
use Rattle.cl_trace.specs.declared.events.Kind.{Kind}
use Rattle.rvmc_stats.proofs.Tallying.{more_at, tally_more, tally_none, tally_same}
use Rattle.rvmc_stats.specs.MoreAt.{added}
use Rattle.rvmc_stats.specs.Counts.{IsTally}
use Rattle.rvmc_stats.specs.Tallies.{capped, count_at}
use Rattle.rvmc_sights.specs.Lines.{box_in}
use Rattle.rvmc_list.specs.Meeting.{AreOfBoxes, IsCountedTo, behind_box, one_got, one_made, phase_known}
use Rattle.rvmc_list.specs.Phases.{made_in_box, things_made, phase_asked, phase_in, taken_in_box, things_taken}
use Rattle.rvmc_list.specs.declared.phases.Phases.{Phases}

plus_none : (n : ℕ) → n + 0 ≡ n
plus_none n = omega arith

-- ---- one box changes

module _ (told : Option Box → ℕ) (boxes : List Box) (place : ℕ) (box next : Box)
    (there : slice_get boxes place ≡ Some box) where
  abbrev changed : List Box
  changed = slice_set boxes place next

  -- by so much more
  box_more : (more : ℕ) → told (Some next) ≡ told (Some box) + more → (k : ℕ)
      → told (slice_get changed k) ≡ told (slice_get boxes k) + more_at place more k
  box_more more grows k = go (k == place) refl
    where
      go : (b : Bool) → (k == place) ≡ b
          → told (slice_get changed k) ≡ told (slice_get boxes k) + more_at place more k
      go true same =
          let e : k ≡ place = grind (arith, common_steps) in
          ap (λ j. told (slice_get changed j)) e
          ∙ ap told (get-set_same boxes place box next there)
          ∙ grows
          ∙ ap (λ o. told o + more) (sym there)
          ∙ ap (λ j. told (slice_get boxes j) + more) (sym e)
          ∙ ap (λ b. told (slice_get boxes k) + cond b more 0) (sym same)
      go false same =
          let other : place ≢ k = grind (arith, common_steps) in
          ap told (get-set_other boxes place k next other)
          ∙ sym (plus_none (told (slice_get boxes k)))
          ∙ ap (λ b. told (slice_get boxes k) + cond b more 0) (sym same)

  -- by nothing
  box_same : told (Some next) ≡ told (Some box) → (k : ℕ) → told (slice_get changed k) ≡ told (slice_get boxes k)
  box_same stays k = go (k == place) refl
    where
      go : (b : Bool) → (k == place) ≡ b → told (slice_get changed k) ≡ told (slice_get boxes k)
      go true same =
          let e : k ≡ place = grind (arith, common_steps) in
          ap (λ j. told (slice_get changed j)) e
          ∙ ap told (get-set_same boxes place box next there)
          ∙ stays
          ∙ ap told (sym there)
          ∙ ap (λ j. told (slice_get boxes j)) (sym e)
      go false same =
          let other : place ≢ k = grind (arith, common_steps) in
          ap told (get-set_other boxes place k next other)

  -- and the numbers of all
  tally_grows : (counts : List ℕ) → told (Some next) ≡ told (Some box) + 1
      → IsTally (length boxes) (λ k. told (slice_get boxes k)) counts
      → IsTally (length changed) (λ k. told (slice_get changed k)) (added counts place 1)
  tally_grows counts grows is =
      subst (λ n. IsTally n (λ k. told (slice_get changed k)) (added counts place 1))
      (sym (slice_set_length boxes place next))
      (tally_more (length boxes) (λ k. told (slice_get boxes k)) (λ k. told (slice_get changed k)) counts place 1 is
      (λ k below. box_more 1 grows k))

  tally_stays : (counts : List ℕ) → told (Some next) ≡ told (Some box)
      → IsTally (length boxes) (λ k. told (slice_get boxes k)) counts
      → IsTally (length changed) (λ k. told (slice_get changed k)) counts
  tally_stays counts stays is =
      subst (λ n. IsTally n (λ k. told (slice_get changed k)) counts) (sym (slice_set_length boxes place next))
      (tally_same (length boxes) (λ k. told (slice_get boxes k)) (λ k. told (slice_get changed k)) counts is
      (λ k below. box_same stays k))

-- ---- one step

module _ (boxes : List Box) (phases : Phases) (are : AreOfBoxes boxes phases) (link part : ℕ) (box : Box)
    (there : slice_get boxes (box_number link part) ≡ Some box) where
  is_made : (stamp : ℕ) (bytes : List ℕ)
      → AreOfBoxes (slice_set boxes (box_number link part) (with_made box stamp bytes))
      (one_made (Some (link, part)) phases)
  is_made stamp bytes = record {
    made = tally_grows things_made boxes (box_number link part) box (with_made box stamp bytes) there phases.made
        (length-append box.made (record { stamp = stamp; bytes = bytes } ∷ [])) are.made;
    taken = tally_stays things_taken boxes (box_number link part) box (with_made box stamp bytes) there phases.taken refl
        are.taken;
  }

  is_got : (stamp : ℕ)
      → AreOfBoxes (slice_set boxes (box_number link part) (with_taken box stamp)) (one_got (Some (link, part)) phases)
  is_got stamp = record {
    made = tally_stays things_made boxes (box_number link part) box (with_taken box stamp) there phases.made refl are.made;
    taken = tally_grows things_taken boxes (box_number link part) box (with_taken box stamp) there phases.taken refl
        are.taken;
  }

by_kind : (old : Cluster) (e : Step) (rank : Rank) (kind : Kind) (new : Cluster) (phases : Phases)
    → AreOfBoxes old.boxes phases → CaseOf old e rank kind new
    → AreOfBoxes new.boxes (behind_box kind (box_in (asked rank e.hart)) phases)
by_kind old e rank Kind.Plain new phases are case =
    subst (λ (c : Cluster). AreOfBoxes c.boxes phases) (sym case.2) are
by_kind old e rank Kind.Local new phases are case =
    subst (λ (c : Cluster). AreOfBoxes c.boxes phases) (sym case.2) are
by_kind old e rank (Kind.Hub reply) new phases are case =
    subst (λ (c : Cluster). AreOfBoxes c.boxes phases) (sym case.4) are
by_kind old e rank Kind.Ready new phases are case =
    subst (λ (a : Ask). AreOfBoxes new.boxes (one_made (box_in a) phases)) (sym case.4)
    (subst (λ (c : Cluster). AreOfBoxes c.boxes (one_made (Some (case.0, case.1)) phases)) (sym case.8)
    (is_made old.boxes phases are case.0 case.1 case.3 case.5 e.stamp case.2))
by_kind old e rank Kind.Take new phases are case =
    subst (λ (a : Ask). AreOfBoxes new.boxes (one_got (box_in a) phases)) (sym case.4)
    (subst (λ (c : Cluster). AreOfBoxes c.boxes (one_got (Some (case.0, case.1)) phases)) (sym case.8)
    (is_got old.boxes phases are case.0 case.1 case.3 case.5 e.stamp))
by_kind old e rank Kind.Miss new phases are case =
    subst (λ (c : Cluster). AreOfBoxes c.boxes phases) (sym case.4) are
by_kind old e rank Kind.Freed new phases are case =
    subst (λ (c : Cluster). AreOfBoxes c.boxes phases) (sym case.7) are
by_kind old e rank Kind.Held new phases are case =
    subst (λ (c : Cluster). AreOfBoxes c.boxes phases) (sym case.2) are
by_kind old e rank Kind.Idle new phases are case =
    subst (λ (c : Cluster). AreOfBoxes c.boxes phases) (sym case.2) are

-- the numbers are those of the boxes behind a step
pub boxes_more : (old : Cluster) (e : Step) (new : Cluster) (step : IsStep old e new) (phases : Phases)
    → AreOfBoxes old.boxes phases → AreOfBoxes new.boxes (behind_box e.kind (box_in (asked step.0 e.hart)) phases)
boxes_more old e new step phases are = by_kind old e step.0 e.kind new phases are step.4

-- ---- what is known of a box

-- the number at each place, where there is none too
known : (told : Option Box → ℕ) → told None ≡ 0 → (boxes : List Box) (counts : List ℕ)
    → IsTally (length boxes) (λ k. told (slice_get boxes k)) counts → (k : ℕ)
    → count_at counts k ≡ capped (told (slice_get boxes k))
known told none boxes counts is k = go boxes counts is.len_is k (is.each k)
  where
    go : (bs : List Box) (ns : List ℕ) → length ns ≡ length bs → (j : ℕ)
        → (j < length bs → count_at ns j ≡ capped (told (slice_get bs j)))
        → count_at ns j ≡ capped (told (slice_get bs j))
    go [] [] same j within = ap capped (sym none)
    go [] (n ∷ ns) same j within = absurd (omega (arith, same))
    go (b ∷ bs) [] same j within = absurd (omega (arith, same))
    go (b ∷ bs) (n ∷ ns) same zero within = within (omega arith)
    go (b ∷ bs) (n ∷ ns) same (suc j) within =
        go bs ns (let s = same in omega (arith, s)) j (λ below. within (omega (arith, below)))

capped_one : (n : ℕ) → capped (capped n + 1) ≡ capped (n + 1)
capped_one n = omega arith

capped_once : (n : ℕ) → capped (capped n) ≡ capped n
capped_once n = omega arith

module _ (boxes : List Box) (phases : Phases) (are : AreOfBoxes boxes phases) where
  made_known : (k : ℕ) → count_at phases.made k ≡ capped (made_in_box boxes k)
  made_known = known things_made refl boxes phases.made are.made

  taken_known : (k : ℕ) → count_at phases.taken k ≡ capped (taken_in_box boxes k)
  taken_known = known things_taken refl boxes phases.taken are.taken

  asked_known : (a : Ask) → phase_asked (count_at phases.made) (count_at phases.taken) a
      ≡ phase_asked (made_in_box boxes) (taken_in_box boxes) a
  asked_known (ask.Ready link part bytes) =
      ap (λ n. Some (capped (n + 1))) (made_known (box_number link part))
      ∙ ap Some (capped_one (made_in_box boxes (box_number link part)))
  asked_known (ask.Look link part) =
      ap (λ n. Some (capped (n + 1))) (taken_known (box_number link part))
      ∙ ap Some (capped_one (taken_in_box boxes (box_number link part)))
  asked_known (ask.Freed link part) =
      ap (λ n. Some (capped n)) (made_known (box_number link part))
      ∙ ap Some (capped_once (made_in_box boxes (box_number link part)))
  asked_known ask.Plain = refl
  asked_known ask.Local = refl
  asked_known (ask.Hub request) = refl
  asked_known ask.Held = refl
  asked_known ask.Idle = refl

  -- the phase is that of the boxes
  pub phase_is_known : (kind : Kind) (a : Ask) → phase_known kind phases a ≡ phase_in kind boxes a
  phase_is_known Kind.Ready a = asked_known a
  phase_is_known Kind.Take a = asked_known a
  phase_is_known Kind.Miss a = asked_known a
  phase_is_known Kind.Freed a = asked_known a
  phase_is_known Kind.Plain a = refl
  phase_is_known Kind.Local a = refl
  phase_is_known (Kind.Hub reply) a = refl
  phase_is_known Kind.Held a = refl
  phase_is_known Kind.Idle a = refl

-- ---- at the start

empty_made : (n k : ℕ) → k < n → made_in_box (replicate n empty_box) k ≡ 0
empty_made zero k below = absurd (omega (arith, below))
empty_made (suc n) zero below = refl
empty_made (suc n) (suc k) below = empty_made n k (omega (arith, below))

empty_taken : (n k : ℕ) → k < n → taken_in_box (replicate n empty_box) k ≡ 0
empty_taken zero k below = absurd (omega (arith, below))
empty_taken (suc n) zero below = refl
empty_taken (suc n) (suc k) below = empty_taken n k (omega (arith, below))

none_of : (n : ℕ) (phases : Phases) → phases.made ≡ replicate n 0 → phases.taken ≡ replicate n 0
    → AreOfBoxes (replicate n empty_box) phases
none_of n phases made taken = record {
  made = subst (λ counts. IsTally (length (replicate n empty_box)) (made_in_box (replicate n empty_box)) counts) (sym made)
      (subst (λ m. IsTally m (made_in_box (replicate n empty_box)) (replicate n 0)) (sym (length-replicate n empty_box))
      (tally_same n (λ k. 0) (made_in_box (replicate n empty_box)) (replicate n 0) (tally_none n) (empty_made n)));
  taken = subst (λ counts. IsTally (length (replicate n empty_box)) (taken_in_box (replicate n empty_box)) counts)
      (sym taken)
      (subst (λ m. IsTally m (taken_in_box (replicate n empty_box)) (replicate n 0)) (sym (length-replicate n empty_box))
      (tally_same n (λ k. 0) (taken_in_box (replicate n empty_box)) (replicate n 0) (tally_none n) (empty_taken n)));
}

-- before the first step
pub counted_none : (image : ImageParts) (steps : List Step) (state : ClusterState) (phases : Phases)
    → IsReached image steps 0 state → phases.made ≡ replicate (16 * length image.links) 0
    → phases.taken ≡ replicate (16 * length image.links) 0 → IsCountedTo image steps 0 state phases
counted_none image steps state phases reached made taken = record {
  reached = reached;
  phases_are = subst (λ (c : Cluster). AreOfBoxes c.boxes phases) (sym reached.run)
      (none_of (16 * length image.links) phases made taken);
}
