-- Ranks whose synchronous sends are complete are at home where they were, and at the start no send is complete so.
use Rattle.std.proofs.Common.{◌≡◌, ◌∙◌, ℕ, zero, suc, refl, sym, ap, subst, Bool, true, false, List, [], ◌∷◌, Option, Some, None}
use Rattle.std.specs.Prelude.{cond, map}
use Rattle.std.specs.List.{slice_get}
use Rattle.std.specs.Option.{option_map}
use Rattle.std.proofs.lemmas.Option.{same_Some}
use Rattle.rv_image_types.specs.declared.images.ImageParts.{ImageParts}
use Rattle.mp_request.specs.declared.entries.OpenRequest.{OpenRequest}
use Rattle.mp_request.specs.declared.entries.Progress.{Progress}
use Rattle.mp_request.specs.declared.entries.Progress.TheVariants.{Finished, Sent, OnPost, InPhase}
use Rattle.mp_request.specs.declared.entries.State.{State}
use Rattle.mp_request.specs.declared.entries.State.TheVariants.{Ordinary, Inactive, Active}
use Rattle.mp_request.specs.declared.entries.Transfer.{Transfer}
use Rattle.mp_request.specs.declared.entries.Transfer.TheVariants as transfer
use Rattle.mp_request.specs.Table.{Table, request_at}
use Rattle.cl_state.specs.Rank.{Rank}
use Rattle.cl_state_laws.specs.Members.{IsInside}
use Rattle.cl_contest_laws.proofs.Homes.{IsHome}
use Rattle.cl_way_laws.specs.Met.{is_met, met, met_by, met_open, met_progress, met_state, met_table}
use Rattle.cl_way_laws.proofs.MetTables.{request_met}

-- ---- at home

module _ (image : ImageParts) (d : ℕ → Bool) (r : ℕ) (rank : Rank) where
  same_transfer : (o p : OpenRequest) → Some o ≡ Some p → o.transfer ≡ p.transfer
  same_transfer o p e = ap (λ x. elim x [ None ↦ o.transfer | Some y ↦ y.transfer ]) e

  pub home_met : IsHome image r rank → IsHome image r (met_by d rank)
  home_met home = record {
    site = home.site;
    inside = λ handle o at. go handle o (request_at rank.requests handle) refl
        (sym (request_met d rank.requests handle) ∙ at);
    one = home.one;
  }
    where
      go : (handle : ℕ) (o : OpenRequest) (x : Option OpenRequest) → request_at rank.requests handle ≡ x
          → option_map (met_open d) (request_at rank.requests handle) ≡ Some o → IsInside rank.site o.transfer
      go handle o None there e = (let f = sym (ap (option_map (met_open d)) there) ∙ e in absurd (cc))
      go handle o (Some p) there e =
          subst (IsInside rank.site)
          (same_transfer (met_open d p) o (sym (ap (option_map (met_open d)) there) ∙ e)) (home.inside handle p there)

  pub home_back : IsHome image r (met_by d rank) → IsHome image r rank
  home_back home = record {
    site = home.site;
    inside = λ handle o at.
        home.inside handle (met_open d o) (request_met d rank.requests handle ∙ ap (option_map (met_open d)) at);
    one = home.one;
  }

-- ---- where no post was made

module _ (d : ℕ → Bool) (none : (n : ℕ) → d n ≡ false) where
  progress_none : (t : Transfer) (p : Progress) → met_progress d t p ≡ p
  progress_none (transfer.Send true buffer count dest tag comm) (OnPost n) =
      ap (λ b. cond b Finished (OnPost n)) (none n)
  progress_none (transfer.Send false buffer count dest tag comm) (OnPost n) = refl
  progress_none (transfer.Send sync buffer count dest tag comm) Finished = refl
  progress_none (transfer.Send sync buffer count dest tag comm) (Sent n) = refl
  progress_none (transfer.Send sync buffer count dest tag comm) InPhase = refl
  progress_none transfer.SendToNull p = refl
  progress_none transfer.ReceiveFromNull p = refl
  progress_none (transfer.Receive buffer capacity source tag comm) p = refl
  progress_none (transfer.ReceiveClaimed buffer capacity) p = refl
  progress_none (transfer.SendPartitions side) p = refl
  progress_none (transfer.ReceivePartitions side) p = refl

  state_none : (t : Transfer) (s : State) → met_state d t s ≡ s
  state_none t (Ordinary p) = ap (λ x. Ordinary x) (progress_none t p)
  state_none t Inactive = refl
  state_none t (Active p) = ap (λ x. Active x) (progress_none t p)

  one_none : (o : Option OpenRequest) → option_map (met_open d) o ≡ o
  one_none None = refl
  one_none (Some r) =
      ap (λ s. Some (let x : OpenRequest = record { transfer = r.transfer; state = s } in x))
      (state_none r.transfer r.state)

  table_none : (table : Table) → met_table d table ≡ table
  table_none [] = refl
  table_none (o ∷ table) =
      let one = one_none o in
      let rest = table_none table in
      (λ k. one k ∷ rest k)

no_post : (rank n : ℕ) → is_met [] rank n ≡ false
no_post rank zero = refl
no_post rank (suc place) = refl

met_none : (rank : Rank) → met [] rank ≡ rank
met_none rank =
    ap (λ table. record rank { requests = table })
    (table_none (is_met [] rank.site.number) (no_post rank.site.number) rank.requests)

pub all_none : (ranks : List Rank) → map (met []) ranks ≡ ranks
all_none [] = refl
all_none (rank ∷ ranks) =
    let one = met_none rank in
    let rest = all_none ranks in
    (λ k. one k ∷ rest k)

-- what stands in a list that was mapped
pub from_map : {A B : Type 0} (f : A → B) (xs : List A) (i : ℕ) (y : B) → slice_get (map f xs) i ≡ Some y
    → (x : A) × (f x ≡ y)
from_map f [] i y at = absurd (cc)
from_map f (x ∷ xs) zero y at = (x, same_Some (f x) y at)
from_map f (x ∷ xs) (suc i) y at = from_map f xs i y at
