-- What a partitioned request awaits, by cases.
use Rattle.std.proofs.lemmas.Bool.{eqb-true}
use Rattle.std.proofs.Common.{◌≡◌, ℕ, refl, ap, Bool, true, false, Option, Some, None, IsTrue}
use Rattle.std.specs.Prelude.{◌==◌, if◌then◌else◌, not}
use Rattle.mp_request.specs.declared.entries.OpenRequest.{OpenRequest}
use Rattle.mp_request.specs.declared.entries.Transfer.{Transfer}
use Rattle.part_phase.specs.declared.receiving.RecvPhase.{RecvPhase}
use Rattle.part_phase.specs.declared.sending.SendPhase.{SendPhase}
use Rattle.part_phase.specs.Sending.{all_freed, is_part_ready, next_to_free}
use Rattle.cl_calls.specs.declared.calls.Completing.{Completing}
use Rattle.cl_state.specs.declared.partitions.Awaited.{Awaited}
use Rattle.cl_state.specs.declared.partitions.Awaited.TheVariants.{Nothing, Unready, Taking, Cut, Box}
use Rattle.cl_state.specs.declared.pending.Manner.{Manner}
use Rattle.cl_state.specs.declared.pending.Pending.{Pending}
use Rattle.cl_state.specs.declared.row.Row.{Row}
use Rattle.cl_state.specs.Partitions.{awaited_in, box_of, taking_of}
use Rattle.cl_state.specs.Pending.{pending_of}
use Rattle.cl_state.specs.Table.{completes, completing, row_awaited, row_completing}

pub by_taking : (P : Awaited → Type 0) (link : ℕ) (p : SendPhase) → P Nothing → P Unready
    → ((free : ℕ) → IsTrue (not (all_freed p)) → next_to_free p ≡ Some free → is_part_ready p free ≡ true
    → P (Taking link free))
    → P (taking_of link p (next_to_free p))
by_taking P link p nothing unready taking = go (all_freed p) refl
  where
    ready : all_freed p ≡ false → (b : Bool) → is_part_ready p p.freed ≡ b
        → P (if b then Taking link p.freed else Unready)
    ready going true is =
        taking p.freed (ap not going) (ap (λ (b : Bool). if b then None else Some p.freed) going) is
    ready going false is = unready

    go : (b : Bool) → all_freed p ≡ b → P (taking_of link p (if b then None else Some p.freed))
    go true is = nothing
    go false is = ready is (is_part_ready p p.freed) refl

pub by_awaited : (P : Awaited → Type 0) (link : ℕ) (p : RecvPhase) (next : Option ℕ) → P Nothing
    → (p.active ≡ true → p.boxes ≡ 0 → P (Cut link))
    → ((box : ℕ) → p.active ≡ true → next ≡ Some box → P (Box link box))
    → P (awaited_in link p next)
by_awaited P link p next nothing cut box = going p.active refl
  where
    boxed : p.active ≡ true → (o : Option ℕ) → next ≡ o → P (box_of link o)
    boxed on None is = nothing
    boxed on (Some b) is = box b on is

    known : p.active ≡ true → (b : Bool) → (p.boxes == 0) ≡ b → P (if b then Cut link else box_of link next)
    known on true is = cut on (eqb-true p.boxes 0 is)
    known on false is = boxed on next refl

    going : (b : Bool) → p.active ≡ b
        → P (if not b then Nothing else if (p.boxes == 0) then Cut link else box_of link next)
    going true is = known is (p.boxes == 0) refl
    going false is = nothing

-- the row of a request, by its parts
abbrev pub row_by : Manner → Completing → Option Awaited → Transfer → Pending → Row
row_by m c (Some a) t p = row_awaited m t (completing m c 0 0) a
row_by m c None t p = completes m c p

pub row_is : (m : Manner) (c : Completing) (o : Option Awaited) (r : OpenRequest)
    → row_by m c o r.transfer (pending_of (Some r)) ≡ row_completing m c o (Some r)
row_is m c None r = refl
row_is m c (Some a) r = refl
