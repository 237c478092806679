-- The posts that a WAITALL asks for are distinct, where a rank's requests name each post once.
use Rattle.std.proofs.Common.{◌≡◌, ◌∙◌, ℕ, inl, inr, refl, sym, ap, subst, Bool, true, false, List, [], ◌∷◌, Option, Some, None}
use Rattle.std.specs.Prelude.{◌&&◌, ◌||◌, ◌==◌, cond, filter, not}
use Rattle.std.specs.List.{cons_option, list_all, list_any}
use Rattle.std.specs.Option.{option_map, option_map_or}
use Rattle.std.proofs.lemmas.Bool.{cases_Bool, eq-eqb, eqb-true}
use Rattle.mp_hub.specs.Hub.{are_distinct}
use Rattle.mp_request.specs.Entries.{is_active}
use Rattle.mp_request.specs.declared.entries.OpenRequest.{OpenRequest}
use Rattle.mp_request.specs.declared.entries.Progress.{Progress}
use Rattle.mp_request.specs.declared.entries.Progress.TheVariants.{Finished, Sent, OnPost, InPhase}
use Rattle.mp_request.specs.declared.entries.State.{State}
use Rattle.mp_request.specs.declared.entries.State.TheVariants.{Ordinary, Inactive, Active}
use Rattle.mp_request.specs.declared.entries.Transfer.{Transfer}
use Rattle.mp_request.specs.declared.entries.Transfer.TheVariants as transfer
use Rattle.mp_request.specs.Table.{Table, has, is_distinct, is_testable, may_be_tested, request_at}
use Rattle.cl_calls.specs.declared.calls.Call.TheVariants as call
use Rattle.cl_calls.specs.declared.calls.Several.{Several}
use Rattle.cl_calls.specs.declared.sites.Site.{Site}
use Rattle.cl_calls.specs.Handles.{handles_in}
use Rattle.cl_calls.specs.Checks.{is_named}
use Rattle.cl_calls.specs.Needs.{array_at, needs_of}
use Rattle.cl_state.specs.declared.asking.Doing.TheVariants.{Go}
use Rattle.cl_state.specs.Asked.{Part, doing}
use Rattle.cl_state.specs.Pending.{pending_at, pending_of}
use Rattle.cl_state.specs.Several.{pendings, post_of, posts_pending}
use Rattle.cl_state.proofs.Passed.{HasPassed, passed, right_holds}
use Rattle.cl_way_laws.specs.Met.{met_open, met_progress, met_table}
use Rattle.cl_way_laws.proofs.MetTables.{request_met}
use Rattle.cl_way_laws.proofs.Named.{Fewer, NamesApart, post_at, post_in, post_of_progress, post_of_state}

-- ---- what a request needs

progress_needs : (p : Progress) (t : Transfer) (n : ℕ) → post_of (pending_at p t) ≡ Some n → post_of_progress p ≡ Some n
progress_needs Finished transfer.ReceiveFromNull n e = absurd (cc)
progress_needs Finished transfer.SendToNull n e = absurd (cc)
progress_needs Finished (transfer.Send sync buffer count dest tag comm) n e = absurd (cc)
progress_needs Finished (transfer.Receive buffer capacity source tag comm) n e = absurd (cc)
progress_needs Finished (transfer.ReceiveClaimed buffer capacity) n e = absurd (cc)
progress_needs Finished (transfer.SendPartitions side) n e = absurd (cc)
progress_needs Finished (transfer.ReceivePartitions side) n e = absurd (cc)
progress_needs (Sent m) transfer.ReceiveFromNull n e = absurd (cc)
progress_needs (Sent m) transfer.SendToNull n e = absurd (cc)
progress_needs (Sent m) (transfer.Send sync buffer count dest tag comm) n e = absurd (cc)
progress_needs (Sent m) (transfer.Receive buffer capacity source tag comm) n e = absurd (cc)
progress_needs (Sent m) (transfer.ReceiveClaimed buffer capacity) n e = absurd (cc)
progress_needs (Sent m) (transfer.SendPartitions side) n e = absurd (cc)
progress_needs (Sent m) (transfer.ReceivePartitions side) n e = absurd (cc)
progress_needs (OnPost m) (transfer.Send sync buffer count dest tag comm) n e = e
progress_needs (OnPost m) (transfer.Receive buffer capacity source tag comm) n e = e
progress_needs (OnPost m) (transfer.ReceiveClaimed buffer capacity) n e = e
progress_needs (OnPost m) transfer.SendToNull n e = absurd (cc)
progress_needs (OnPost m) transfer.ReceiveFromNull n e = absurd (cc)
progress_needs (OnPost m) (transfer.SendPartitions side) n e = absurd (cc)
progress_needs (OnPost m) (transfer.ReceivePartitions side) n e = absurd (cc)
progress_needs InPhase t n e = absurd (cc)

abbrev is_going : Option OpenRequest → Bool
is_going o = option_map_or (λ (r : OpenRequest). is_active r.state) o false

-- a request that needs a post names it, and is active
needs_post : (o : Option OpenRequest) (n : ℕ) → post_of (pending_of o) ≡ Some n
    → (post_in o ≡ Some n) × (is_going o ≡ true)
needs_post None n e = absurd (cc)
needs_post (Some r) n e = go r.state r.transfer e
  where
    go : (s : State) (t : Transfer)
        → post_of (pending_of (Some (let x : OpenRequest = record { transfer = t; state = s } in x))) ≡ Some n
        → (post_of_state s ≡ Some n) × (is_active s ≡ true)
    go (Ordinary p) t e = (progress_needs p t n e, refl)
    go Inactive t e = absurd (cc)
    go (Active p) t e = (progress_needs p t n e, refl)

-- ---- distinct

both : (a b : Bool) → (a && b) ≡ true → (a ≡ true) × (b ≡ true)
both true b e = (refl, e)
both false b e = absurd (cc)

or_true : (a b : Bool) → b ≡ true → (a || b) ≡ true
or_true true b e = refl
or_true false b e = e

not_so : (b : Bool) → not b ≡ true → b ≡ true → ⊥
not_so true one two = absurd (cc)
not_so false one two = absurd (cc)

module _ (table : Table) (apart : NamesApart table) where
  abbrev going : ℕ → Bool
  going h = has is_active table h

  abbrev posts : List ℕ → List ℕ
  posts hs = posts_pending (pendings table hs)

  -- where one of those has this post, the handle is among them
  abbrev Among : ℕ → ℕ → List ℕ → Type 0
  Among h n hs = list_any (λ m. m == n) (posts hs) ≡ true → list_any (λ y. y == h) (filter going hs) ≡ true

  one_more : (h n : ℕ) → post_at table h ≡ Some n → (k : ℕ) (hs : List ℕ) → Among h n hs → Among h n (k ∷ hs)
  one_more h n at k hs among e = go (post_of (pending_of (request_at table k))) refl e
    where
      rest : list_any (λ m. m == n) (posts hs) ≡ true → list_any (λ y. y == h) (filter going (k ∷ hs)) ≡ true
      rest e = by (going k)
        where
          by : (b : Bool) → list_any (λ y. y == h) (cond b (k ∷ filter going hs) (filter going hs)) ≡ true
          by true = or_true (k == h) (list_any (λ y. y == h) (filter going hs)) (among e)
          by false = among e

      here : (m : ℕ) → post_of (pending_of (request_at table k)) ≡ Some m → m ≡ n
          → list_any (λ y. y == h) (filter going (k ∷ hs)) ≡ true
      here m is same =
          let needs = needs_post (request_at table k) m is in
          let one : k ≡ h = apart k h n (needs.0 ∙ ap (λ z. Some z) same) at in
          ap (λ b. list_any (λ y. y == h) (cond b (k ∷ filter going hs) (filter going hs))) needs.1
          ∙ ap (λ b. b || list_any (λ y. y == h) (filter going hs)) (eq-eqb k h one)

      go : (o : Option ℕ) → post_of (pending_of (request_at table k)) ≡ o
          → list_any (λ m. m == n) (cons_option o (posts hs)) ≡ true
          → list_any (λ y. y == h) (filter going (k ∷ hs)) ≡ true
      go None is e = rest e
      go (Some m) is e = elim (cases_Bool (m == n)) [
        | inl same ↦ here m is (eqb-true m n same)
        | inr other ↦ rest (sym (ap (λ b. b || list_any (λ m. m == n) (posts hs)) other) ∙ e)
      ]

  in_rest : (h n : ℕ) → post_at table h ≡ Some n → (hs : List ℕ) → Among h n hs
  in_rest h n at [] e = absurd (cc)
  in_rest h n at (k ∷ hs) e = one_more h n at k hs (in_rest h n at hs) e

  later : (h : ℕ) (hs : List ℕ) (b : Bool) → is_distinct (cond b (h ∷ filter going hs) (filter going hs)) ≡ true
      → is_distinct (filter going hs) ≡ true
  later h hs true e = (both (not (list_any (λ y. y == h) (filter going hs))) (is_distinct (filter going hs)) e).1
  later h hs false e = e

  first_apart : (h : ℕ) (hs : List ℕ) → is_distinct (filter going (h ∷ hs)) ≡ true → are_distinct (posts hs) ≡ true
      → are_distinct (posts (h ∷ hs)) ≡ true
  first_apart h hs e rest = go (post_of (pending_of (request_at table h))) refl
    where
      alone : (n : ℕ) → post_of (pending_of (request_at table h)) ≡ Some n
          → (b : Bool) → list_any (λ m. m == n) (posts hs) ≡ b → not b ≡ true
      alone n is false any = refl
      alone n is true any =
          let needs = needs_post (request_at table h) n is in
          let apart_here =
          both (not (list_any (λ y. y == h) (filter going hs))) (is_distinct (filter going hs))
          (ap (λ b. is_distinct (cond b (h ∷ filter going hs) (filter going hs))) (sym needs.1) ∙ e) in
          absurd (not_so (list_any (λ y. y == h) (filter going hs)) apart_here.0 (in_rest h n needs.0 hs any))

      go : (o : Option ℕ) → post_of (pending_of (request_at table h)) ≡ o
          → are_distinct (cons_option o (posts hs)) ≡ true
      go None is = rest
      go (Some n) is =
          ap (λ b. b && are_distinct (posts hs)) (alone n is (list_any (λ m. m == n) (posts hs)) refl) ∙ rest

  pub posts_distinct : (hs : List ℕ) → is_distinct (filter going hs) ≡ true → are_distinct (posts hs) ≡ true
  posts_distinct [] e = refl
  posts_distinct (h ∷ hs) e = first_apart h hs e (posts_distinct hs (later h hs (going h) e))

-- the posts that a WAITALL asks for
pub waitall_distinct : (site : Site) (part : Part) (s : Several) → doing site part ≡ Go (call.Waitall s)
    → NamesApart part.requests
    → are_distinct (posts_pending (pendings part.requests (handles_in part.memory (array_at s.array s.count)))) ≡ true
waitall_distinct site part s is apart =
    let hs = handles_in part.memory (array_at s.array s.count) in
    let its = subst (HasPassed site part) is (passed site part) in
    let tested = right_holds (is_named part.requests (needs_of (call.Waitall s)).request) (may_be_tested part.requests hs) (((its.1).1).1).0 in
    posts_distinct part.requests apart hs
    (both (list_all (is_testable part.requests) hs) (is_distinct (filter (has is_active part.requests) hs)) tested).1

-- ---- where sends are complete

module _ (d : ℕ → Bool) where
  progress_fewer : (t : Transfer) (p : Progress) (k : ℕ) → post_of_progress (met_progress d t p) ≡ Some k
      → post_of_progress p ≡ Some k
  progress_fewer (transfer.Send true buffer count dest tag comm) (OnPost n) k e = go (d n) e
    where
      go : (b : Bool) → post_of_progress (cond b Finished (OnPost n)) ≡ Some k → post_of_progress (OnPost n) ≡ Some k
      go true e = absurd (cc)
      go false e = e
  progress_fewer (transfer.Send false buffer count dest tag comm) (OnPost n) k e = e
  progress_fewer (transfer.Send sync buffer count dest tag comm) Finished k e = e
  progress_fewer (transfer.Send sync buffer count dest tag comm) (Sent n) k e = e
  progress_fewer (transfer.Send sync buffer count dest tag comm) InPhase k e = e
  progress_fewer transfer.SendToNull p k e = e
  progress_fewer transfer.ReceiveFromNull p k e = e
  progress_fewer (transfer.Receive buffer capacity source tag comm) p k e = e
  progress_fewer (transfer.ReceiveClaimed buffer capacity) p k e = e
  progress_fewer (transfer.SendPartitions side) p k e = e
  progress_fewer (transfer.ReceivePartitions side) p k e = e

  one_fewer : (o : Option OpenRequest) (k : ℕ) → post_in (option_map (met_open d) o) ≡ Some k → post_in o ≡ Some k
  one_fewer None k e = e
  one_fewer (Some r) k e = go r.state e
    where
      go : (s : State) → post_of_state (met_open d (record { transfer = r.transfer; state = s })).state ≡ Some k
          → post_of_state s ≡ Some k
      go (Ordinary p) e = progress_fewer r.transfer p k e
      go Inactive e = e
      go (Active p) e = progress_fewer r.transfer p k e

  met_fewer : (table : Table) → Fewer table (met_table d table)
  met_fewer table h k e = one_fewer (request_at table h) k (sym (ap post_in (request_met d table h)) ∙ e)

  pub apart_met : (table : Table) → NamesApart table → NamesApart (met_table d table)
  apart_met table apart h k n one two = apart h k n (met_fewer table h n one) (met_fewer table k n two)
