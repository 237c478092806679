-- A run from a place to where it stops.
use Rattle.std.specs.Prelude.{ℕ, ◌+◌, ◌<◌, ◌≤◌, ◌≡◌, ◌⊎◌, List, length}
use Rattle.std.proofs.Common.{sym, subst, arith, inl, inr}
use Rattle.std.proofs.lemmas.Bool.{cases_lt}
use Rattle.std.proofs.lemmas.Option.{slice_get_within}
use Rattle.rv_image_types.specs.declared.images.ImageParts.{ImageParts}
use Rattle.cl_machine.specs.declared.steps.Step.{Step}
use Rattle.cl_replay.specs.declared.states.ClusterState.{ClusterState}
use Rattle.cl_replay.specs.Replaying.{IsReached}
use Rattle.cl_replay.specs.Walking.{LeadsOn}
use Rattle.cl_debug.specs.Leads.{LeadFaultHolds}
use Rattle.cl_debug.specs.Places.{IsBreakPlace, IsStop}
use Rattle.cl_debug.specs.Stops.{IsNoStop, IsStopPlace, StopsAt}
use Rattle.cl_debug.specs.declared.breaks.Break.{Break}
use Rattle.cl_debug.specs.declared.faults.DebugFault.{DebugFault}

-- the steps were done up to n, and no break stops there or before
pub record RanTo (steps : List Step) (breaks : List Break) (from : ℕ) (old : ClusterState) (n : ℕ) (state :
    ClusterState)
    : Type 0 where
  pub led : LeadsOn steps from old n state
  pub none : (image : ImageParts) → IsReached image steps from old → (m : ℕ) → from < m → m ≤ n
      → ¬ IsBreakPlace image steps breaks m

pub ran_none : (steps : List Step) (breaks : List Break) (from : ℕ) (old : ClusterState)
    → RanTo steps breaks from old from old
ran_none steps breaks from old = record {
  led = λ image reached. reached;
  none = λ image reached m above most place. absurd (omega (arith, above, most));
}

-- a number up to the next is one before, or the next
n_cases : (m n : ℕ) → m ≤ n + 1 → (m ≤ n) ⊎ (m ≡ n + 1)
n_cases m n most = by_order (cases_lt n m)
  where
    by_order : ((n < m) ⊎ (m ≤ n)) → (m ≤ n) ⊎ (m ≡ n + 1)
    by_order (inl above) = inr (omega (arith, above, most))
    by_order (inr before) = inl before

module _ (steps : List Step) (breaks : List Break) (from : ℕ) (old : ClusterState) (n : ℕ) (state : ClusterState)
    (ran : RanTo steps breaks from old n state) where
  -- one step more, to where no break stops
  pub ran_more : (new : ClusterState) → LeadsOn steps n state (n + 1) new → IsNoStop new steps breaks (n + 1)
      → RanTo steps breaks from old (n + 1) new
  ran_more new leads goes_on = record {
    led = λ image reached. leads image (ran.led image reached);
    none = λ image reached m above most. next image reached m above (n_cases m n most);
  }
    where
      next : (image : ImageParts) → IsReached image steps from old → (m : ℕ) → from < m → ((m ≤ n) ⊎ (m ≡ n + 1))
          → ¬ IsBreakPlace image steps breaks m
      next image reached m above (inl before) = ran.none image reached m above before
      next image reached m above (inr here) =
          subst (λ k. ¬ IsBreakPlace image steps breaks k) (sym here) (goes_on image (leads image (ran.led
          image reached)))

  -- or to where one does
  pub ran_stop : (new : ClusterState) → from ≤ n → LeadsOn steps n state (n + 1) new
      → IsStopPlace new steps breaks (n + 1)
      → StopsAt steps breaks from old (n + 1) new
  ran_stop new forwards leads stops = λ image reached.
      let here = leads image (ran.led image reached) in (
        here,
        inl (
          omega (arith, forwards),
          stops image here,
          λ m above below. ran.none image reached m above (omega (arith, below)),
        ),
      )

  -- at the end
  pub ran_end : n ≡ length steps → StopsAt steps breaks from old n state
  ran_end end = λ image reached. (
    ran.led image reached,
    inr (
      end,
      λ m above place.
          let inside = slice_get_within steps m place.step place.next in
          ran.none image reached m above (omega (arith, inside, end)) place,
    ),
  )

  pub ran_fault : n < length steps → (fault : DebugFault) → LeadFaultHolds steps n state (n + 1) fault
      → LeadFaultHolds steps from old (length steps) fault
  ran_fault within (DebugFault.NotARun k) h =
      ((let below = h.0 in omega (arith, below, within)), λ image reached. h.1 image (ran.led image reached))
  ran_fault within DebugFault.Memory h = tt
  ran_fault within (DebugFault.PastEnd k) h = absurd h
  ran_fault within DebugFault.NoRank h = absurd h
  ran_fault within DebugFault.NoHart h = absurd h
  ran_fault within DebugFault.Range h = absurd h
  ran_fault within DebugFault.NoSymbol h = absurd h

-- a run stops inside the record
pub stop_inside : (image : ImageParts) (steps : List Step) (breaks : List Break) (from to : ℕ)
    → IsStop image steps breaks from to → to ≤ length steps
stop_inside image steps breaks from to (inl stop) = ((stop.1).here).0
stop_inside image steps breaks from to (inr end) = (let e = end.0 in omega (arith, e))

-- by the lists that the steps and the places to stop at were lent as
pub stops_by : (steps lent : List Step) (breaks marks : List Break) (from : ℕ) (old : ClusterState) (to : ℕ)
    (new : ClusterState) → lent ≡ steps → marks ≡ breaks → StopsAt lent marks from old to new
    → StopsAt steps breaks from old to new
stops_by steps lent breaks marks from old to new same alike stops =
    subst (λ bs. StopsAt steps bs from old to new) alike (subst (λ xs. StopsAt xs marks from old to new) same stops)
