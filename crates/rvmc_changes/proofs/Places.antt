-- What the changes of a run come to.
use Rattle.std.specs.Prelude.{ℕ, zero, suc, ◌≡◌, ◌<◌, ◌≤◌, ◌+◌, ◌-◌, List, [], ◌∷◌, ◌++◌, drop, length, map}
use Rattle.std.specs.Prelude.{set, slice_get, slice_set, take, option_map, Some}
use Rattle.std.proofs.Common.{refl, sym, subst, ap, ◌∙◌, arith, length-append}
use Rattle.std.proofs.Math.Seq.{drop-append_seam, take-add, take-append_seam}
use Rattle.std.proofs.lemmas.List.{get_or-set_same}
use Rattle.std.proofs.lemmas.List.FromFn.{length-map-range_with_len}
use Rattle.std.proofs.lemmas.Option.{same_Some, slice_get-get_or, slice_get-map}
use Rattle.rv_hart.specs.State.{State, read}
use Rattle.cl_debug.specs.Places.{IsAt}
use Rattle.cl_machine.proofs.Lists.{get-set_same}
use Rattle.cl_machine.specs.Cluster.{CaseOf, Cluster, IsRun, IsStep, loaded_cluster, ranks_told}
use Rattle.cl_machine.specs.declared.steps.Step.{Step}
use Rattle.cl_state.specs.Asked.{doing, no_hart, part_of}
use Rattle.cl_state.specs.Rank.{Rank}
use Rattle.cl_state.specs.Told.{told, told_in}
use Rattle.cl_state.specs.declared.asking.Answer.{Answer}
use Rattle.cl_trace.specs.declared.events.Kind.{Kind}
use Rattle.rvmc_changes.specs.Doing.{all_done, done, done_to_hart, done_to_rank, undone, undone_to_hart, undone_to_rank, at_place}
use Rattle.rvmc_changes.proofs.Edited.{new_there, old_there, seen_reset, seen_set}
use Rattle.rvmc_changes.proofs.Kept.{Keeps, told_keeps}
use Rattle.rvmc_changes.specs.Changes.{AreChanges, Difference, IsChange, difference}
use Rattle.rvmc_changes.specs.Changes.{hart_in, stretch}
use Rattle.rvmc_changes.specs.Laws.{PlacesLaw, ShownLaw}
use Rattle.rvmc_changes.specs.Seen.{SeenHart, SeenRank, registers_of, seen_cluster, seen_hart, seen_rank}

-- ---- a rank that was told something

abbrev hart_with : List ℕ → State → SeenHart
hart_with registers hart = record { registers = registers; pc = hart.pc; mode = hart.mode }

abbrev rank_with : List SeenHart → List ℕ → List ℕ → SeenRank
rank_with harts bytes out = record { harts = harts; bytes = bytes; out = out }

same_parts : (hs is : List SeenHart) (bs cs os ps : List ℕ) → hs ≡ is → bs ≡ cs → os ≡ ps
    → rank_with hs bs os ≡ rank_with is cs ps
same_parts hs is bs cs os ps h b o =
    ap (λ x. rank_with x bs os) h ∙ ap (λ x. rank_with is x os) b ∙ ap (λ x. rank_with is cs x) o

module _ (e : Step) (rank : Rank) (answer : Answer) (below : e.hart < length rank.harts) where
  abbrev after : Rank
  after = told rank e.hart answer e.stamp

  abbrev change : Difference
  change = difference e rank after

  kept : Keeps (part_of rank e.hart) (part_of after e.hart)
  kept = told_keeps rank e.hart answer e.stamp

  harts_are : after.harts ≡ slice_set rank.harts e.hart (hart_in e after)
  unfolding told
  harts_are =
      ap (λ h. set rank.harts e.hart h)
      (sym (get_or-set_same rank.harts e.hart
      (told_in rank.site e.hart (doing rank.site (part_of rank e.hart)) answer (part_of rank e.hart)).hart no_hart below))

  hart_there : slice_get rank.harts e.hart ≡ Some (hart_in e rank)
  hart_there = slice_get-get_or rank.harts e.hart no_hart below

  registers_long : length (registers_of (hart_in e rank)) ≡ length (registers_of (hart_in e after))
  registers_long =
      length-map-range_with_len (read (hart_in e rank)) 0 32
      ∙ sym (length-map-range_with_len (read (hart_in e after)) 0 32)

  put_there : after.out ≡ rank.out ++ drop (length rank.out) after.out
  put_there =
      kept.out
      ∙ ap (λ more. rank.out ++ more)
      (sym (ap (drop (length rank.out)) kept.out ∙ drop-append_seam rank.out kept.more))

  done_hart : done_to_hart change (seen_hart (hart_in e rank)) ≡ seen_hart (hart_in e after)
  done_hart =
      ap (λ rs. hart_with rs (hart_in e after))
      (new_there (registers_of (hart_in e rank)) (registers_of (hart_in e after)) registers_long)

  undone_hart : undone_to_hart change (seen_hart (hart_in e after)) ≡ seen_hart (hart_in e rank)
  undone_hart =
      ap (λ rs. hart_with rs (hart_in e rank))
      (old_there (registers_of (hart_in e rank)) (registers_of (hart_in e after)) registers_long)

  done_rank : done_to_rank change (seen_rank rank) ≡ seen_rank after
  done_rank =
      same_parts _ _ _ _ _ _
      (seen_set seen_hart (done_to_hart change) rank.harts e.hart (hart_in e rank) (hart_in e after) hart_there done_hart
      ∙ ap (map seen_hart) (sym harts_are))
      (new_there rank.memory.bytes after.memory.bytes (sym kept.long_is))
      (sym put_there)

  undone_rank : undone_to_rank change (seen_rank after) ≡ seen_rank rank
  undone_rank =
      same_parts _ _ _ _ _ _
      (ap (λ hs. at_place e.hart (undone_to_hart change) (map seen_hart hs)) harts_are
      ∙ seen_reset seen_hart (undone_to_hart change) rank.harts e.hart (hart_in e rank) (hart_in e after) hart_there undone_hart)
      (old_there rank.memory.bytes after.memory.bytes (sym kept.long_is))
      (let put = drop (length rank.out) after.out in
      let count : length after.out - length put ≡ length rank.out =
      (let both = ap length put_there in omega (arith, both, length-append rank.out put)) in
      ap (λ n. take n after.out) count ∙ ap (take (length rank.out)) put_there ∙ take-append_seam rank.out put)

-- ---- a step

-- it tells one rank an answer
pub record Tells (old : Cluster) (e : Step) (new : Cluster) : Type 0 where
  pub rank : Rank
  pub there : slice_get old.ranks e.rank ≡ Some rank
  pub below : e.hart < length rank.harts
  pub answer : Answer
  pub ranks_are : new.ranks ≡ slice_set old.ranks e.rank (told rank e.hart answer e.stamp)

answered : (kind : Kind) (old new : Cluster) (e : Step) (rank : Rank) → CaseOf old e rank kind new
    → (a : Answer) × (new.ranks ≡ ranks_told old e rank a)
answered Kind.Plain old new e rank case = (_, ap (λ (c : Cluster). c.ranks) case.2)
answered Kind.Idle old new e rank case = (_, ap (λ (c : Cluster). c.ranks) case.2)
answered Kind.Held old new e rank case = (_, ap (λ (c : Cluster). c.ranks) case.2)
answered Kind.Local old new e rank case = (_, ap (λ (c : Cluster). c.ranks) case.2)
answered Kind.Miss old new e rank case = (_, ap (λ (c : Cluster). c.ranks) case.4)
answered (Kind.Hub reply) old new e rank case = (_, ap (λ (c : Cluster). c.ranks) case.4)
answered Kind.Freed old new e rank case = (_, ap (λ (c : Cluster). c.ranks) case.7)
answered Kind.Take old new e rank case = (_, ap (λ (c : Cluster). c.ranks) case.8)
answered Kind.Ready old new e rank case = (_, ap (λ (c : Cluster). c.ranks) case.8)

pub tells : (old : Cluster) (e : Step) (new : Cluster) → IsStep old e new → Tells old e new
tells old e new step =
    let a = answered e.kind old new e step.0 step.4 in
    record { rank = step.0; there = step.1; below = step.2; answer = a.0; ranks_are = a.1 }

module _ (old : Cluster) (e : Step) (new : Cluster) (t : Tells old e new) where
  abbrev told_rank : Rank
  told_rank = told t.rank e.hart t.answer e.stamp

  pub told_there : slice_get new.ranks e.rank ≡ Some told_rank
  told_there = ap (λ rs. slice_get rs e.rank) t.ranks_are ∙ get-set_same old.ranks e.rank t.rank told_rank t.there

  module _ (d : Difference) (c : IsChange old e new d) where
    is_told : d ≡ difference e t.rank told_rank
    is_told =
        let before : c.before ≡ t.rank = same_Some c.before t.rank (sym c.before_there ∙ t.there) in
        let after : c.after ≡ told_rank = same_Some c.after told_rank (sym c.after_there ∙ told_there) in
        c.is ∙ ap (λ r. difference e r c.after) before ∙ ap (difference e t.rank) after

    pub step_done : done d (seen_cluster old) ≡ seen_cluster new
    step_done =
        ap (λ x. done x (seen_cluster old)) is_told
        ∙ seen_set seen_rank (done_to_rank (difference e t.rank told_rank)) old.ranks e.rank t.rank told_rank t.there
        (done_rank e t.rank t.answer t.below)
        ∙ ap (map seen_rank) (sym t.ranks_are)

    pub step_undone : undone d (seen_cluster new) ≡ seen_cluster old
    step_undone =
        ap (λ x. undone x (seen_cluster new)) is_told
        ∙ ap (λ rs. undone (difference e t.rank told_rank) (map seen_rank rs)) t.ranks_are
        ∙ seen_reset seen_rank (undone_to_rank (difference e t.rank told_rank)) old.ranks e.rank t.rank told_rank t.there
        (undone_rank e t.rank t.answer t.below)

-- ---- one step after another

pub places : PlacesLaw
places old new es ds zero are within = record { here = old; run = refl; forwards = refl; back = refl }
places old new [] ds (suc n) are within = absurd (omega (arith, within))
places old new (e ∷ es) [] (suc n) are within = absurd are
places old new (e ∷ es) (d ∷ ds) (suc n) are within =
    let rest = places are.0 new es ds n are.3 (omega (arith, within)) in
    let t = tells old e are.0 are.1 in
    record {
      here = rest.here;
      run = (are.0, are.1, rest.run);
      forwards = ap (all_done (take n ds)) (step_done old e are.0 t d are.2) ∙ rest.forwards;
      back = ap (undone d) rest.back ∙ step_undone old e are.0 t d are.2;
    }

-- one step more
pub changes_more : (es : List Step) (ds : List Difference) (old mid new : Cluster) (e : Step) (d : Difference)
    → AreChanges old es ds mid → IsStep mid e new → IsChange mid e new d
    → AreChanges old (es ++ e ∷ []) (ds ++ d ∷ []) new
changes_more [] [] old mid new e d are step is =
    (new, subst (λ c. IsStep c e new) are step, subst (λ c. IsChange c e new d) are is, refl)
changes_more [] (x ∷ ds) old mid new e d are step is = absurd are
changes_more (x ∷ es) [] old mid new e d are step is = absurd are
changes_more (x ∷ es) (y ∷ ds) old mid new e d are step is =
    (are.0, are.1, are.2, changes_more es ds are.0 mid new e d are.3 step is)

-- ---- what the debugger shows

run_behind : (es fs : List Step) (old mid new : Cluster) → IsRun old es mid → IsRun mid fs new → IsRun old (es ++ fs) new
run_behind [] fs old mid new run more = subst (λ c. IsRun c fs new) run more
run_behind (e ∷ es) fs old mid new run more = (run.0, run.1, run_behind es fs run.0 mid new run.2 more)

take_less : {A : Type 0} (n m : ℕ) (xs : List A) → n ≤ m → take n (take m xs) ≡ take n xs
take_less zero m xs le = refl
take_less (suc n) zero xs le = absurd (omega (arith, le))
take_less (suc n) (suc m) [] le = refl
take_less (suc n) (suc m) (x ∷ xs) le = ap (λ ys. x ∷ ys) (take_less n m xs (omega (arith, le)))

stretch_long : {A : Type 0} (n : ℕ) (xs : List A) (m : ℕ) → n + m ≤ length xs → m ≤ length (drop n xs)
stretch_long zero xs m le = omega (arith, le)
stretch_long (suc n) [] m le = absurd (omega (arith, le))
stretch_long (suc n) (x ∷ xs) m le = stretch_long n xs m (omega (arith, le))

take_long : {A : Type 0} (n : ℕ) (xs : List A) → n ≤ length xs → length (take n xs) ≡ n
take_long zero xs le = refl
take_long (suc n) [] le = absurd (omega (arith, le))
take_long (suc n) (x ∷ xs) le = ap suc (take_long n xs (omega (arith, le)))

pub shown : ShownLaw
shown debugging from to old new ds forwards inside within at are =
    let steps = debugging.steps in
    let n = debugging.place - from in
    let long : length (stretch from to steps) ≡ to - from =
    take_long (to - from) (drop from steps) (stretch_long from steps (to - from) (omega (arith, forwards, inside, within))) in
    let led = places old new (stretch from to steps) ds n are (omega (arith, forwards, inside, long)) in
    let cut : take from steps ++ take n (stretch from to steps) ≡ take debugging.place steps =
    ap (λ es. take from steps ++ es) (take_less n (to - from) (drop from steps) (omega (arith, forwards, inside)))
    ∙ sym (take-add from n steps) ∙ ap (λ k. take k steps) (omega (arith, forwards)) in
    let there : IsAt debugging.image steps debugging.place led.here = (
      (omega (arith, inside, within)),
      subst (λ es. IsRun (loaded_cluster debugging.image) es led.here) cut
          (run_behind (take from steps) (take n (stretch from to steps)) (loaded_cluster debugging.image) old led.here at.1 led.run),
    ) in
    record {
      cluster = led.here;
      at = there;
      ranks_are = led.forwards;
      ranks_shown = λ rank owner shows.
          ap (λ rs. slice_get rs rank) led.forwards ∙ slice_get-map seen_rank led.here.ranks rank
          ∙ ap (λ o. option_map seen_rank o) (shows led.here there);
    }
