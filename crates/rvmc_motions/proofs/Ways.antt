-- What holds of a debugger on the way of a motion.
use Rattle.std.specs.Prelude.{ℕ, ◌≡◌, ◌<◌, ◌≤◌, ◌+◌, ◌-◌, ◌*◌, ◌/◌, List, length, Option, Some, None}
use Rattle.std.specs.Option.{option_or}
use Rattle.std.proofs.Common.{refl, sym, subst, ap, ◌∙◌, arith, inr}
use Rattle.std.proofs.Math.Nat.{div-mul-le_self}
use Rattle.cl_machine.specs.Cluster.{Cluster}
use Rattle.cl_machine.specs.declared.steps.Step.{Step}
use Rattle.cl_debug.specs.Debugging.{Debugging, at_place}
use Rattle.cl_debug.specs.Faults.{GoFaultHolds}
use Rattle.cl_debug.specs.declared.faults.DebugFault.{DebugFault}
use Rattle.cl_debug.specs.declared.faults.DebugFault.TheVariants as faults
use Rattle.rvmc_protocol.specs.declared.replies.stops.Stop.TheVariants as ends
use Rattle.rvmc_motions.specs.declared.marks.Halt.{Halt}
use Rattle.rvmc_motions.specs.declared.marks.Mark.{Mark}
use Rattle.rvmc_motions.specs.declared.marks.Mover.{Mover}
use Rattle.rvmc_motions.specs.Motions.{GoesBackwards, GoesForwards, IsFirstBehind, IsLastBefore, halt_at}
use Rattle.rvmc_motions.specs.Turns.{IsHistory, backward_stop, forward_stop}
use Rattle.rvmc_motions.specs.Walking.{IsBelow, IsLastIn, TellsBackward, TellsForward, TellsNext, TellsTurn, later, one_on}
use Rattle.rvmc_motions.proofs.Steps.{backward_is, first_end, first_here, forward_is, last_here, later_in, none_before, none_more}

-- a debugger that is at a place of the same record
at_same : (old now : Debugging) (n : ℕ) → now ≡ at_place old n → now ≡ at_place old now.place
at_same old now n is = is ∙ ap (at_place old) (sym (ap (λ (d : Debugging). d.place) is))

-- ---- one step: what is told of it, and of the step that comes next behind it or before it

pub forward_told : (now next : Debugging) (marks : List Mark) (mover : Mover) (turned told : Option Halt) → next ≡ one_on now
    → TellsTurn now marks mover turned → TellsNext next marks mover told
    → TellsForward now marks mover (option_or turned told)
forward_told now next marks mover turned told on turn ahead = λ history of.
    forward_is mover marks now.steps history now.place turned told (turn history of)
    (subst (λ (d : Debugging). TellsNext d marks mover told) on ahead history of)

pub backward_told : (now : Debugging) (marks : List Mark) (mover : Mover) (turned told : Option Halt)
    → TellsTurn now marks mover turned → TellsNext now marks mover told
    → TellsBackward now marks mover (option_or turned told)
backward_told now marks mover turned told turn ahead = λ history of.
    backward_is mover marks now.steps history now.place turned told (turn history of) (ahead history of)

-- ---- forwards: none of the places so far ends the motion

pub record OnTheWay (old : Debugging) (marks : List Mark) (mover : Mover) (n : ℕ) (now : Debugging) : Type 0 where
  pub here : now ≡ at_place old n
  pub above : old.place ≤ n
  pub none : (history : ℕ → Cluster) → IsHistory old.image old.steps history → (m : ℕ) → old.place < m → m ≤ n
      → forward_stop mover marks old.steps history m ≡ None

pub begun : (old : Debugging) (marks : List Mark) (mover : Mover) (n : ℕ) → n ≡ old.place → OnTheWay old marks mover n old
begun old marks mover n is = record {
  here = ap (at_place old) (sym is);
  above = omega (arith, is);
  none = λ history of m over under. absurd (omega (arith, over, under, is));
}

module _ (old : Debugging) (marks : List Mark) (mover : Mover) (n : ℕ) (now next : Debugging)
    (way : OnTheWay old marks mover n now) (on : next ≡ one_on now) where
  next_is : next ≡ at_place old (n + 1)
  next_is = on ∙ ap one_on way.here

  told_here : (told : Option Halt) → TellsForward now marks mover told → TellsForward (at_place old n) marks mover told
  told_here told tells = subst (λ (d : Debugging). TellsForward d marks mover told) way.here tells

  pub way_more : TellsForward now marks mover None → OnTheWay old marks mover (n + 1) next
  way_more tells =
      let above = way.above in
      record {
        here = next_is;
        above = omega (arith, above);
        none = λ history of.
            none_more (forward_stop mover marks old.steps history) old.place n (way.none history of)
            (sym (told_here None tells history of));
      }

  pub way_found : (halt : Halt) → n < length old.steps → TellsForward now marks mover (Some halt)
      → GoesForwards old marks mover halt next
  way_found halt inside tells = record {
    moved = at_same old next (n + 1) next_is;
    there = λ history of.
        subst
        (λ p. IsFirstBehind (forward_stop mover marks old.steps history) old.place (length old.steps) mover p halt)
        (sym (ap (λ (d : Debugging). d.place) next_is))
        (first_here (forward_stop mover marks old.steps history) old.place (length old.steps) n mover halt way.above
        inside (way.none history of) (sym (told_here (Some halt) tells history of)));
  }

pub way_end : (old : Debugging) (marks : List Mark) (mover : Mover) (n : ℕ) (now : Debugging)
    → OnTheWay old marks mover n now → n ≡ length old.steps
    → GoesForwards old marks mover (halt_at ends.End mover) now
way_end old marks mover n now way end = record {
  moved = at_same old now n way.here;
  there = λ history of.
      subst
      (λ p. IsFirstBehind (forward_stop mover marks old.steps history) old.place (length old.steps) mover p
      (halt_at ends.End mover))
      (sym (ap (λ (d : Debugging). d.place) way.here ∙ end))
      (first_end (forward_stop mover marks old.steps history) old.place (length old.steps) mover
      (λ m over under. way.none history of m over (omega (arith, under, end))));
}

-- ---- between two places, on the way back

pub record InBetween (old : Debugging) (marks : List Mark) (mover : Mover) (from n : ℕ) (found : Option (ℕ × Halt))
    (now : Debugging) : Type 0 where
  pub here : now ≡ at_place old n
  pub above : from ≤ n
  pub below : IsBelow n found
  pub last : (history : ℕ → Cluster) → IsHistory old.image old.steps history
      → IsLastIn (backward_stop mover marks old.steps history) from n found

still_below : (n : ℕ) (found : Option (ℕ × Halt)) (told : Option Halt) → IsBelow n found
    → IsBelow (n + 1) (later found n told)
still_below n found (Some halt) below = omega arith
still_below n None None below = tt
still_below n (Some found) None below = omega (arith, below)

pub between_begun : (old : Debugging) (marks : List Mark) (mover : Mover) (from : ℕ) (now : Debugging)
    → now ≡ at_place old from → InBetween old marks mover from from None now
between_begun old marks mover from now is = record {
  here = is;
  above = omega arith;
  below = tt;
  last = λ history of m over under. absurd (omega (arith, over, under));
}

pub between_more : (old : Debugging) (marks : List Mark) (mover : Mover) (from n : ℕ) (found : Option (ℕ × Halt))
    (now next : Debugging) (told : Option Halt) → InBetween old marks mover from n found now → next ≡ one_on now
    → TellsBackward now marks mover told → InBetween old marks mover from (n + 1) (later found n told) next
between_more old marks mover from n found now next told way on tells =
    let above = way.above in
    record {
      here = on ∙ ap one_on way.here;
      above = omega (arith, above);
      below = still_below n found told way.below;
      last = λ history of.
          later_in (backward_stop mover marks old.steps history) from n found told way.above (way.last history of)
          (sym (subst (λ (d : Debugging). TellsBackward d marks mover told) way.here tells history of));
    }

-- ---- backwards: none of the places from one on ends the motion

pub record OnTheWayBack (old : Debugging) (marks : List Mark) (mover : Mover) (to : ℕ) (now : Debugging) : Type 0 where
  pub here : now ≡ at_place old now.place
  pub within : to ≤ old.place
  pub none : (history : ℕ → Cluster) → IsHistory old.image old.steps history → (m : ℕ) → to ≤ m → m < old.place
      → backward_stop mover marks old.steps history m ≡ None

pub back_begun : (old : Debugging) (marks : List Mark) (mover : Mover) (to : ℕ) → to ≡ old.place
    → OnTheWayBack old marks mover to old
back_begun old marks mover to is = record {
  here = refl;
  within = omega (arith, is);
  none = λ history of m over under. absurd (omega (arith, over, under, is));
}

module _ (old : Debugging) (marks : List Mark) (mover : Mover) (from to : ℕ) (now next : Debugging)
    (way : OnTheWayBack old marks mover to now) (below : from ≤ to) (moved : next ≡ at_place now next.place) where
  pub stays_of : next ≡ at_place old next.place
  stays_of = moved ∙ ap (λ (d : Debugging). at_place d next.place) way.here

  last_in : (found : Option (ℕ × Halt)) → ((history : ℕ → Cluster) → IsHistory now.image now.steps history
      → IsLastIn (backward_stop mover marks now.steps history) from to found)
      → (history : ℕ → Cluster) → IsHistory old.image old.steps history
      → IsLastIn (backward_stop mover marks old.steps history) from to found
  last_in found last =
      subst
      (λ (d : Debugging). (history : ℕ → Cluster) → IsHistory d.image d.steps history
      → IsLastIn (backward_stop mover marks d.steps history) from to found)
      way.here last

  pub back_more : ((history : ℕ → Cluster) → IsHistory now.image now.steps history
      → IsLastIn (backward_stop mover marks now.steps history) from to None) → OnTheWayBack old marks mover from next
  back_more last =
      let within = way.within in
      record {
        here = stays_of;
        within = omega (arith, within, below);
        none = λ history of.
            none_before (backward_stop mover marks old.steps history) old.place from to (last_in None last history of)
            (way.none history of);
      }

  pub back_found : (place : ℕ) (halt : Halt) (there : Debugging) → there ≡ at_place next place
      → ((history : ℕ → Cluster) → IsHistory now.image now.steps history
      → IsLastIn (backward_stop mover marks now.steps history) from to (Some (place, halt)))
      → GoesBackwards old marks mover halt there
  back_found place halt there at last =
      let is : there ≡ at_place old place = at ∙ ap (λ (d : Debugging). at_place d place) stays_of in
      record {
        moved = at_same old there place is;
        there = λ history of.
            subst (λ p. IsLastBefore (backward_stop mover marks old.steps history) old.place mover p halt)
            (sym (ap (λ (d : Debugging). d.place) is))
            (last_here (backward_stop mover marks old.steps history) old.place from to mover place halt way.within
            (last_in (Some (place, halt)) last history of) (way.none history of));
      }

pub back_end : (old : Debugging) (marks : List Mark) (mover : Mover) (to : ℕ) (now there : Debugging)
    → OnTheWayBack old marks mover to now → to ≡ 0 → there ≡ at_place now 0
    → GoesBackwards old marks mover (halt_at ends.Begin mover) there
back_end old marks mover to now there way start at =
    let is : there ≡ at_place old 0 = at ∙ ap (λ (d : Debugging). at_place d 0) way.here in
    record {
      moved = at_same old there 0 is;
      there = λ history of.
          subst
          (λ p. IsLastBefore (backward_stop mover marks old.steps history) old.place mover p
          (halt_at ends.Begin mover))
          (sym (ap (λ (d : Debugging). d.place) is))
          (inr (refl, refl, λ m under. way.none history of m (omega (arith, start)) under));
    }

-- a place that is there is gone to, unless memory is refused
pub only_memory : (steps : List Step) (n : ℕ) (fault : DebugFault) → n ≤ length steps → GoFaultHolds steps n fault
    → fault ≡ faults.Memory
only_memory steps n (faults.PastEnd len) within holds = (let past = holds.1 in absurd (omega (arith, within, past)))
only_memory steps n faults.NoRank within holds = absurd holds
only_memory steps n faults.NoHart within holds = absurd holds
only_memory steps n faults.Range within holds = absurd holds
only_memory steps n faults.Memory within holds = refl
only_memory steps n (faults.NotARun k) within holds = absurd holds
only_memory steps n faults.NoSymbol within holds = absurd holds

-- where the chunk before a place begins
pub chunk_below : (to spacing : ℕ) → (to - 1) / spacing * spacing ≤ to
chunk_below to spacing = (let whole = div-mul-le_self (to - 1) spacing in omega (arith, whole))

pub steps_of : (old now next : Debugging) → now ≡ at_place old now.place → next ≡ at_place now next.place
    → length next.steps ≡ length old.steps
steps_of old now next here moved =
    ap (λ (d : Debugging). length d.steps) moved ∙ ap (λ (d : Debugging). length d.steps) here

pub inside_of : (old now : Debugging) (n : ℕ) → now ≡ at_place old n → n < length old.steps
    → now.place < length now.steps
inside_of old now n here below = subst (λ (d : Debugging). d.place < length d.steps) (sym here) below
