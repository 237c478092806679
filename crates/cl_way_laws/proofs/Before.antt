-- A rank on the way names only posts that were made.
use Rattle.std.proofs.Common.{◌≡◌, ◌∙◌, ℕ, ◌≤◌, refl, sym, ap, subst, Bool, true, false, Option, Some, None}
use Rattle.std.specs.Prelude.{cond}
use Rattle.std.specs.Option.{option_map}
use Rattle.mp_alike_laws.specs.Renaming.{Renaming, number_by}
use Rattle.mp_request.specs.declared.entries.OpenRequest.{OpenRequest}
use Rattle.mp_request.specs.declared.entries.Progress.{Progress}
use Rattle.mp_request.specs.declared.entries.Progress.TheVariants.{Finished, Sent, OnPost, InPhase}
use Rattle.mp_request.specs.declared.entries.State.{State}
use Rattle.mp_request.specs.declared.entries.State.TheVariants.{Ordinary, Inactive, Active}
use Rattle.mp_request.specs.declared.entries.Transfer.{Transfer}
use Rattle.mp_request.specs.declared.entries.Transfer.TheVariants as transfer
use Rattle.mp_request.specs.Table.{Table, request_at}
use Rattle.cl_names_laws.specs.Named.{open_by, progress_by, state_by, table_by}
use Rattle.cl_names_laws.proofs.Tables.{request_named}
use Rattle.cl_way_laws.specs.Met.{met_open, met_progress, met_state, met_table}
use Rattle.cl_way_laws.proofs.MetKept.{Fixes, numbered}
use Rattle.cl_way_laws.proofs.MetTables.{request_met}
use Rattle.cl_way_laws.proofs.Named.{post_at, post_in, post_of_progress, post_of_state}

module _ (d : ℕ → Bool) (many : ℕ) (made : (n : ℕ) → d n ≡ true → n ≤ many) where
  abbrev Stays : {A : Type 0} → (Renaming → A → A) → A → Type 0
  Stays by x = (names : Renaming) → Fixes many names → by names x ≡ x

  number_is : (a b : ℕ) → OnPost a ≡ OnPost b → a ≡ b
  number_is a b e = cc

  kept_number : (n : ℕ) → Stays progress_by (OnPost n) → n ≤ many
  kept_number n stays = numbered many n (λ names fixes. number_is (number_by names n) n (stays names fixes))

  post_before : (t : Transfer) (n : ℕ) → Stays progress_by (met_progress d t (OnPost n)) → n ≤ many
  post_before (transfer.Send true buffer count dest tag comm) n stays = go (d n) refl stays
    where
      go : (b : Bool) → d n ≡ b → Stays progress_by (cond b Finished (OnPost n)) → n ≤ many
      go true is stays = made n is
      go false is stays = kept_number n stays
  post_before (transfer.Send false buffer count dest tag comm) n stays = kept_number n stays
  post_before transfer.SendToNull n stays = kept_number n stays
  post_before transfer.ReceiveFromNull n stays = kept_number n stays
  post_before (transfer.Receive buffer capacity source tag comm) n stays = kept_number n stays
  post_before (transfer.ReceiveClaimed buffer capacity) n stays = kept_number n stays
  post_before (transfer.SendPartitions side) n stays = kept_number n stays
  post_before (transfer.ReceivePartitions side) n stays = kept_number n stays

  progress_before : (t : Transfer) (p : Progress) (k : ℕ) → Stays progress_by (met_progress d t p)
      → post_of_progress p ≡ Some k → k ≤ many
  progress_before t (OnPost n) k stays e = subst (λ m. m ≤ many) (same_number n k e) (post_before t n stays)
    where
      same_number : (n k : ℕ) → (let o : Option ℕ = Some n in o) ≡ Some k → n ≡ k
      same_number n k e = cc
  progress_before t Finished k stays e = absurd (cc)
  progress_before t (Sent n) k stays e = absurd (cc)
  progress_before t InPhase k stays e = absurd (cc)

  state_before : (t : Transfer) (s : State) (k : ℕ) → Stays state_by (met_state d t s) → post_of_state s ≡ Some k → k ≤ many
  state_before t (Ordinary p) k stays e =
      progress_before t p k (λ names fixes. ordinary_is _ _ (stays names fixes)) e
    where
      ordinary_is : (a b : Progress) → Ordinary a ≡ Ordinary b → a ≡ b
      ordinary_is a b e = cc
  state_before t Inactive k stays e = absurd (cc)
  state_before t (Active p) k stays e =
      progress_before t p k (λ names fixes. active_is _ _ (stays names fixes)) e
    where
      active_is : (a b : Progress) → Active a ≡ Active b → a ≡ b
      active_is a b e = cc

  one_before : (o : Option OpenRequest) (k : ℕ)
      → Stays (λ names. option_map (open_by names)) (option_map (met_open d) o)
      → post_in o ≡ Some k → k ≤ many
  one_before None k stays e = absurd (cc)
  one_before (Some r) k stays e =
      state_before r.transfer r.state k (λ names fixes. state_is _ _ (stays names fixes)) e
    where
      state_is : (a b : OpenRequest) → Some a ≡ Some b → a.state ≡ b.state
      state_is a b e = ap (λ o. elim o [ None ↦ a.state | Some x ↦ x.state ]) e

  pub table_before : (table : Table) → Stays table_by (met_table d table) → (h k : ℕ) → post_at table h ≡ Some k → k ≤ many
  table_before table stays h k e =
      one_before (request_at table h) k
      (λ names fixes.
      sym (ap (option_map (open_by names)) (request_met d table h))
      ∙ sym (request_named names (number_by names) (met_table d table) h)
      ∙ ap (λ t. request_at t h) (stays names fixes)
      ∙ request_met d table h) e
