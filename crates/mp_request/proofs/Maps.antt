-- A table is a map.
use Rattle.std.proofs.Common.{◌≡◌, ◌∙◌, ℕ, zero, suc, Option, Some, None, set, refl, true, false, sym, ap, arith}
use Rattle.std.specs.Prelude.{is_some, option_and_then}
use Rattle.std.specs.Prelude.{◌≢◌}
use Rattle.std.proofs.lemmas.List.{get_or-set_same, get_or-set_other, set-get_or}
use Rattle.mp_request.specs.declared.entries.OpenRequest.{OpenRequest}
use Rattle.mp_request.specs.declared.entries.State.TheVariants.{Inactive}
use Rattle.mp_request.specs.Entries.{is_persistent, remainder}
use Rattle.mp_request.specs.Laws.{CompletionLaw, MapLaw}
use Rattle.mp_request.specs.Table.{Table, completed, request_at, with_request}

-- another number names what it did
other_stays : (table : Table) (place : ℕ) (request : Option OpenRequest) (other : ℕ) → other ≢ suc place
    → request_at (with_request table (suc place) request) other ≡ request_at table other
other_stays table place request zero differs = refl
other_stays table place request (suc k) differs =
    get_or-set_other table place k request None (λ same. differs (ap suc same))

pub is_map : MapLaw
is_map table zero request long handle = let wrong : ⊥ = omega (arith, handle.0) in absurd wrong
is_map table (suc place) request long handle = record {
  changed = get_or-set_same table place request None (omega (arith, handle.1, long));
  others = other_stays table place request;
}

-- what names nothing completes without a change
pub nothing_completes : (table : Table) (handle : ℕ) → request_at table handle ≡ None → completed table handle ≡ table
nothing_completes table zero none = refl
nothing_completes table (suc place) none =
    ap (λ request. set table place (option_and_then remainder request)) none
    ∙ (ap (set table place) (sym none) ∙ set-get_or table place None)

-- an ordinary request ends with its completion, and a persistent one outlives it
gone : (r : OpenRequest) → is_persistent r.state ≡ false → remainder r ≡ None
gone r ordinary = rw ordinary

inactive : (r : OpenRequest) → is_persistent r.state ≡ true → remainder r ≡ Some (record r { state = Inactive })
inactive r persistent = rw persistent

pub completes : CompletionLaw
completes table handle request long is_handle named =
    let changes = is_map table handle (option_and_then remainder (request_at table handle)) long is_handle in
    let left : request_at (completed table handle) handle ≡ remainder request =
    changes.changed ∙ ap (option_and_then remainder) named in
    record {
      ordinary = λ ordinary. (is_handle, ap is_some (left ∙ gone request ordinary));
      persistent = λ persistent. left ∙ inactive request persistent;
      others = changes.others;
    }
