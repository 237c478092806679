-- What the tests of a table of requests tell, where synchronous sends that have a receive are complete: the same.
use Rattle.std.proofs.Common.{◌≡◌, ◌∙◌, ℕ, zero, suc, ◌+◌, refl, sym, ap, Bool, false, cond, not, List, [], ◌∷◌, length, Option, Some, None}
use Rattle.std.specs.Prelude.{◌==◌, ◌&&◌, ◌||◌, filter, get_or, is_none, is_some, option_and_then, nat_lt}
use Rattle.std.specs.List.{list_all, position_or_len}
use Rattle.std.specs.Option.{option_map, option_map_or}
use Rattle.std.proofs.lemmas.List.{length-map, map-set}
use Rattle.rv_memory.specs.Memory.{Memory}
use Rattle.mp_request.specs.declared.entries.OpenRequest.{OpenRequest}
use Rattle.mp_request.specs.declared.entries.Progress.{Progress}
use Rattle.mp_request.specs.declared.entries.State.{State}
use Rattle.mp_request.specs.declared.entries.State.TheVariants.{Ordinary, Inactive, Active}
use Rattle.mp_request.specs.Entries.{active_with, is_active, is_partitioned, is_persistent, remainder}
use Rattle.mp_request.specs.Table.{Table, completed, has, is_distinct, is_testable, lowest_free, may_be_tested, request_at, started, with_request}
use Rattle.part_phase.specs.declared.phases.Phase.{Phase}
use Rattle.cl_calls.specs.declared.needs.Named.{Named}
use Rattle.cl_calls.specs.declared.needs.Named.TheVariants.{Nothing, NullOrOpen, Persistent, Open, SendPart, ReceivePart}
use Rattle.cl_calls.specs.declared.needs.Needs.{Needs}
use Rattle.cl_calls.specs.declared.sites.Site.{Site}
use Rattle.cl_calls.specs.Checks.{are_statuses, checks, has_parts, has_region, has_room, has_size, holds_of_receiver, holds_of_sender, is_array, is_buffer, is_comm, is_count, is_few, is_going, is_idle, is_named, is_part, is_peer, is_tag, is_unready, receiving_side, sending_side}
use Rattle.part_phase.specs.Sending.{all_freed, is_part_ready}
use Rattle.mp_types.specs.declared.codes.Code.TheVariants.{BadCall, BadRequest, BadComm, BadRank, BadTag, BadPartition, BadCount, BadBuffer, NotActive, AlreadyReady, Full}
use Rattle.mp_types.specs.declared.codes.Code.TheVariants.{Active as CodeActive}
use Rattle.mp_request.specs.declared.entries.Transfer.{Transfer}
use Rattle.cl_calls.specs.Handles.{handles_in}
use Rattle.cl_way_laws.specs.Met.{met_open, met_progress, met_state, met_table}

module _ (d : ℕ → Bool) where
  at_by : (table : Table) (place : ℕ)
      → get_or (met_table d table) place None ≡ option_map (met_open d) (get_or table place None)
  at_by [] zero = refl
  at_by [] (suc place) = refl
  at_by (x ∷ table) zero = refl
  at_by (x ∷ table) (suc place) = at_by table place

  pub request_met : (table : Table) (handle : ℕ)
      → request_at (met_table d table) handle ≡ option_map (met_open d) (request_at table handle)
  request_met table zero = refl
  request_met table (suc place) = at_by table place

  -- ---- tests

  has_by : (test : State → Bool) → ((t : Transfer) (s : State) → test (met_state d t s) ≡ test s)
      → (o : Option OpenRequest)
      → option_map_or (λ (r : OpenRequest). test r.state) (option_map (met_open d) o) false
      ≡ option_map_or (λ (r : OpenRequest). test r.state) o false
  has_by test same None = refl
  has_by test same (Some r) = same r.transfer r.state

  pub has_met : (test : State → Bool) → ((t : Transfer) (s : State) → test (met_state d t s) ≡ test s)
      → (table : Table) (handle : ℕ)
      → has test (met_table d table) handle ≡ has test table handle
  has_met test same table handle =
      ap (λ o. option_map_or (λ (r : OpenRequest). test r.state) o false) (request_met table handle)
      ∙ has_by test same (request_at table handle)

  active_same : (t : Transfer) (s : State) → is_active (met_state d t s) ≡ is_active s
  active_same t (Ordinary p) = refl
  active_same t Inactive = refl
  active_same t (Active p) = refl

  persistent_same : (t : Transfer) (s : State) → is_persistent (met_state d t s) ≡ is_persistent s
  persistent_same t (Ordinary p) = refl
  persistent_same t Inactive = refl
  persistent_same t (Active p) = refl

  some_by : (o : Option OpenRequest) → is_some (option_map (met_open d) o) ≡ is_some o
  some_by None = refl
  some_by (Some r) = refl

  some_met : (table : Table) (handle : ℕ)
      → is_some (request_at (met_table d table) handle) ≡ is_some (request_at table handle)
  some_met table handle = ap is_some (request_met table handle) ∙ some_by (request_at table handle)

  sending_by : (o : Option OpenRequest) → sending_side (option_map (met_open d) o) ≡ sending_side o
  sending_by None = refl
  sending_by (Some r) = refl

  pub sending_met : (table : Table) (handle : ℕ)
      → sending_side (request_at (met_table d table) handle) ≡ sending_side (request_at table handle)
  sending_met table handle = ap sending_side (request_met table handle) ∙ sending_by (request_at table handle)

  receiving_by : (o : Option OpenRequest) → receiving_side (option_map (met_open d) o) ≡ receiving_side o
  receiving_by None = refl
  receiving_by (Some r) = refl

  pub receiving_met : (table : Table) (handle : ℕ)
      → receiving_side (request_at (met_table d table) handle) ≡ receiving_side (request_at table handle)
  receiving_met table handle = ap receiving_side (request_met table handle) ∙ receiving_by (request_at table handle)

  first_free : (table : Table) → position_or_len is_none (met_table d table) ≡ position_or_len is_none table
  first_free [] = refl
  first_free (None ∷ table) = refl
  first_free (Some r ∷ table) = ap (λ n. 1 + n) (first_free table)

  pub free_met : (table : Table) → lowest_free (met_table d table) ≡ lowest_free table
  free_met table =
      ap (λ n. option_map suc (cond (nat_lt (position_or_len is_none (met_table d table)) n)
      (Some (position_or_len is_none (met_table d table))) None)) (length-map table (option_map (met_open d)))
      ∙ ap (λ n. option_map suc (cond (nat_lt n (length table)) (Some n) None)) (first_free table)

  -- ---- the checks

  named_too : (table : Table) (n : Named) → is_named (met_table d table) n ≡ is_named table n
  named_too table Nothing = refl
  named_too table (NullOrOpen handle) = ap (λ x. (handle == 0) || x) (some_met table handle)
  named_too table (Persistent handle) = has_met is_persistent persistent_same table handle
  named_too table (Open handle) = some_met table handle
  named_too table (SendPart handle part) = ap (λ x. is_some x) (sending_met table handle)
  named_too table (ReceivePart handle part) = ap (λ x. is_some x) (receiving_met table handle)

  idle_met : (table : Table) (n : Named) → is_idle (met_table d table) n ≡ is_idle table n
  idle_met table Nothing = refl
  idle_met table (NullOrOpen handle) = refl
  idle_met table (Persistent handle) = ap not (has_met is_active active_same table handle)
  idle_met table (Open handle) = ap not (has_met is_active active_same table handle)
  idle_met table (SendPart handle part) = refl
  idle_met table (ReceivePart handle part) = refl

  part_met : (table : Table) (phases : List Phase) (n : Named)
      → is_part (met_table d table) phases n ≡ is_part table phases n
  part_met table phases Nothing = refl
  part_met table phases (NullOrOpen handle) = refl
  part_met table phases (Persistent handle) = refl
  part_met table phases (Open handle) = refl
  part_met table phases (SendPart handle part) =
      ap (λ o. holds_of_sender (λ p. nat_lt part p.parts) phases o) (sending_met table handle)
  part_met table phases (ReceivePart handle part) =
      ap (λ o. holds_of_receiver (λ p. nat_lt part p.parts) phases o) (receiving_met table handle)

  going_met : (table : Table) (phases : List Phase) (n : Named)
      → is_going (met_table d table) phases n ≡ is_going table phases n
  going_met table phases Nothing = refl
  going_met table phases (NullOrOpen handle) = refl
  going_met table phases (Persistent handle) = refl
  going_met table phases (Open handle) = refl
  going_met table phases (SendPart handle part) =
      ap (λ o. holds_of_sender (λ p. not (all_freed p)) phases o) (sending_met table handle)
  going_met table phases (ReceivePart handle part) = refl

  unready_met : (table : Table) (phases : List Phase) (n : Named)
      → is_unready (met_table d table) phases n ≡ is_unready table phases n
  unready_met table phases Nothing = refl
  unready_met table phases (NullOrOpen handle) = refl
  unready_met table phases (Persistent handle) = refl
  unready_met table phases (Open handle) = refl
  unready_met table phases (SendPart handle part) =
      ap (λ o. holds_of_sender (λ p. not (is_part_ready p part)) phases o) (sending_met table handle)
  unready_met table phases (ReceivePart handle part) = refl

  testable_by : (o : Option OpenRequest)
      → option_map_or (λ (r : OpenRequest). not (is_partitioned r.transfer)) (option_map (met_open d) o) false
      ≡ option_map_or (λ (r : OpenRequest). not (is_partitioned r.transfer)) o false
  testable_by None = refl
  testable_by (Some r) = refl

  testable_met : (table : Table) (handle : ℕ) → is_testable (met_table d table) handle ≡ is_testable table handle
  testable_met table handle =
      ap (λ x. (handle == 0) || x)
      (ap (λ o. option_map_or (λ (r : OpenRequest). not (is_partitioned r.transfer)) o false) (request_met table handle)
      ∙ testable_by (request_at table handle))

  tested_met : (table : Table) (handles : List ℕ)
      → may_be_tested (met_table d table) handles ≡ may_be_tested table handles
  tested_met table handles =
      ap (λ (f : ℕ → Bool). list_all f handles
      && is_distinct (filter (has is_active (met_table d table)) handles)) (λ k h. testable_met table h k)
      ∙ ap (λ (f : ℕ → Bool). list_all (is_testable table) handles && is_distinct (filter f handles))
      (λ k h. has_met is_active active_same table h k)

  pub checks_met : (site : Site) (memory : Memory) (table : Table) (phases : List Phase) (written : ℕ) (needs : Needs)
      → checks site memory (met_table d table) phases written needs ≡ checks site memory table phases written needs
  checks_met site memory table phases written needs =
      λ k.
      (needs.known, BadCall) ∷
      (is_few needs.handles, BadCount) ∷
      (is_array memory needs.handles, BadBuffer) ∷
      (named_too table needs.request k && tested_met table (handles_in memory needs.handles) k, BadRequest) ∷
      (is_comm site needs.comm, BadComm) ∷
      (is_peer site needs.comm needs.peer, BadRank) ∷
      (is_tag needs.tag, BadTag) ∷
      (has_parts needs.region && part_met table phases needs.request k, BadPartition) ∷
      (has_size site.version needs.region && is_count needs.buffer, BadCount) ∷ (
        has_region memory needs.region && is_buffer memory needs.buffer && are_statuses memory needs.statuses,
        BadBuffer,
      ) ∷
      (idle_met table needs.request k, CodeActive) ∷
      (going_met table phases needs.request k, NotActive) ∷
      (unready_met table phases needs.request k, AlreadyReady) ∷
      (has_room written needs.growth && (not needs.slot || is_some (free_met table k)), Full) ∷
      []

  -- ---- changes

  pub with_met : (table : Table) (handle : ℕ) (o : Option OpenRequest)
      → with_request (met_table d table) handle (option_map (met_open d) o)
      ≡ met_table d (with_request table handle o)
  with_met table zero o = refl
  with_met table (suc place) o = sym (map-set (option_map (met_open d)) table place o)

  started_by : (progress : Progress) → ((t : Transfer) → met_progress d t progress ≡ progress)
      → (o : Option OpenRequest)
      → option_map (active_with progress) (option_map (met_open d) o)
      ≡ option_map (met_open d) (option_map (active_with progress) o)
  started_by progress same None = refl
  started_by progress same (Some r) =
      ap (λ p. Some (active_with p r)) (sym (same r.transfer))

  pub started_met : (table : Table) (handle : ℕ) (progress : Progress)
      → ((t : Transfer) → met_progress d t progress ≡ progress)
      → started (met_table d table) handle progress ≡ met_table d (started table handle progress)
  started_met table handle progress same =
      ap (λ o. with_request (met_table d table) handle (option_map (active_with progress) o))
      (request_met table handle)
      ∙ ap (with_request (met_table d table) handle) (started_by progress same (request_at table handle))
      ∙ with_met table handle (option_map (active_with progress) (request_at table handle))

  completed_in : (transfer : Transfer) (s : State)
      → (let r : OpenRequest = record { transfer = transfer; state = s } in
      remainder (met_open d r) ≡ option_map (met_open d) (remainder r))
  completed_in transfer (Ordinary p) = refl
  completed_in transfer Inactive = refl
  completed_in transfer (Active p) = refl

  completed_by : (o : Option OpenRequest)
      → option_and_then remainder (option_map (met_open d) o)
      ≡ option_map (met_open d) (option_and_then remainder o)
  completed_by None = refl
  completed_by (Some r) = completed_in r.transfer r.state

  pub completed_met : (table : Table) (handle : ℕ)
      → completed (met_table d table) handle ≡ met_table d (completed table handle)
  completed_met table handle =
      ap (λ o. with_request (met_table d table) handle (option_and_then remainder o)) (request_met table handle)
      ∙ ap (with_request (met_table d table) handle) (completed_by (request_at table handle))
      ∙ with_met table handle (option_and_then remainder (request_at table handle))
