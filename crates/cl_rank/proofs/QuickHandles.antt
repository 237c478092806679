-- IRECVs and WAITs that are worked out straight from the registers are turns that the table of calls has: they ask what it
-- says, have its rows, and need no page more.
use Rattle.std.proofs.Common.{◌≡◌, ℕ, ◌<◌, ◌≤◌, ◌==◌, List, length, Bool, true, false, Option, Some, None}
use Rattle.std.proofs.Common.{refl, sym, ap, subst, ◌∙◌, arith}
use Rattle.std.specs.Prelude.{if◌then◌else◌, ◌||◌, nat_le, get_or, is_some, vec_len, ◌*◌}
use Rattle.std.proofs.lemmas.Bool.{ne_eqb}
use Rattle.std.proofs.lemmas.List.{get_or_read_under}
use Rattle.rv_hart.specs.State.{State}
use Rattle.rv_hart.specs.declared.state.Mode.TheVariants.{Running as Runs}
use Rattle.rv_memory.specs.Access.{word_at}
use Rattle.rv_memory.specs.Memory.{Memory}
use Rattle.rv_memory.specs.MorePages.{missing_pages}
use Rattle.mp_types.specs.declared.requests.Request.{Request}
use Rattle.mp_types.specs.declared.requests.Request.TheVariants as request
use Rattle.mp_request.specs.Table.{Table, lowest_free, request_at}
use Rattle.mp_request.specs.declared.entries.OpenRequest.{OpenRequest}
use Rattle.mp_request.specs.declared.entries.Transfer.TheVariants as transfer
use Rattle.part_phase.specs.declared.phases.Phase.{Phase}
use Rattle.cl_calls.specs.declared.calls.Call.{Call}
use Rattle.cl_calls.specs.declared.calls.Call.TheVariants as call
use Rattle.cl_calls.specs.declared.calls.Completing.{Completing}
use Rattle.cl_calls.specs.declared.calls.Receiving.{Receiving}
use Rattle.cl_calls.specs.declared.sites.Site.{Site}
use Rattle.cl_calls.specs.Calls.{call_named, no_rank}
use Rattle.cl_calls.specs.Checks.{are_statuses, checks, first_fault, is_named}
use Rattle.cl_calls.specs.Needs.{needs_of, one_status}
use Rattle.cl_calls.specs.declared.needs.Named.TheVariants.{NullOrOpen}
use Rattle.cl_state.specs.declared.asking.Ask.TheVariants as ask
use Rattle.cl_state.specs.declared.asking.Doing.TheVariants.{Go}
use Rattle.cl_state.specs.declared.pending.Manner.TheVariants.{Blocking, Posting}
use Rattle.cl_state.specs.declared.row.Purpose.TheVariants.{Open}
use Rattle.cl_state.specs.declared.row.Row.{Row}
use Rattle.cl_state.specs.declared.row.Row.TheVariants.{OnReply}
use Rattle.cl_state.specs.declared.row.Wanted.TheVariants as wanted
use Rattle.cl_state.specs.declared.state.RankState.{RankState}
use Rattle.cl_state.specs.Asked.{asked, asked_completing, asked_in, is_ecall}
use Rattle.cl_state.specs.Asked.{no_hart, part_of}
use Rattle.cl_state.specs.Partitions.{awaited}
use Rattle.cl_state.specs.Pending.{pending_of}
use Rattle.cl_state.specs.Right.{IsChecked}
use Rattle.cl_state.specs.Room.{rank_of}
use Rattle.cl_state.specs.Table.{begins, completing, row_completing}
use Rattle.cl_state.specs.Transfers.{asked_transfer, source_of, tag_of}
use Rattle.cl_state.specs.Writes.{IsEnough, message_into, writes_by, writes_in}
use Rattle.cl_state.proofs.Pages.{enough_missing, none_enough, one_enough}
use Rattle.cl_rank.specs.Known.{IsKnown}
use Rattle.cl_rank.specs.QuickHandles.{Opens, Waits}
use Rattle.cl_rank.specs.QuickReceives.{IsRightReceive}
use Rattle.cl_rank.proofs.Known.{does_call}

-- ---- an IRECV

few_enough : (n : ℕ) → n ≤ 4096 → nat_le n 4096 ≡ true
few_enough n few = grind (arith, few)

open_is_right : (site : Site) (memory : Memory) (table : Table) (phases : List Phase) (written : ℕ) (r : Receiving)
    → IsRightReceive site memory r → is_some (lowest_free table) ≡ true
    → first_fault (checks site memory table phases written (needs_of (call.Irecv r))) ≡ None
open_is_right site memory table phases written r right free =
    let comm = right.0 in
    let peer = right.1 in
    let tag = right.3 in
    let count = few_enough r.capacity right.4 in
    let buffer = right.5 in
    rw (comm, peer, tag, count, buffer, free) refl

open_is_checked : (site : Site) (memory : Memory) (table : Table) (phases : List Phase) (r : Receiving)
    → IsRightReceive site memory r → IsChecked site memory table phases (Go (call.Irecv r))
open_is_checked site memory table phases r right = (
  (right.0, right.1, right.3, few_enough r.capacity right.4, refl, refl),
  record { named = refl; idle = refl; part = refl; going = refl; unready = refl },
  (refl, refl),
)

open_asks : (memory : Memory) (b : Bool) (buffer capacity comm : ℕ) (source tag : Option ℕ) → b ≡ false
    → asked_transfer memory false (if b then transfer.ReceiveFromNull else transfer.Receive buffer capacity source tag comm)
    ≡ ask.Hub (request.Recv false comm source tag)
open_asks memory true buffer capacity comm source tag h = absurd (cc)
open_asks memory false buffer capacity comm source tag h = refl

open_row : (b : Bool) (buffer capacity comm : ℕ) (source tag : Option ℕ) → b ≡ false
    → begins Open (if b then transfer.ReceiveFromNull else transfer.Receive buffer capacity source tag comm)
    ≡ OnReply Posting (wanted.Post Open (transfer.Receive buffer capacity source tag comm))
open_row true buffer capacity comm source tag h = absurd (cc)
open_row false buffer capacity comm source tag h = refl

pub known_open : (state : RankState) (hart : ℕ) (at : State) (r : Receiving) (row : Row) (asks : Request)
    → at ≡ get_or state.harts.items hart at → hart < vec_len state.harts → at.mode ≡ Runs
    → is_ecall (word_at state.memory at.pc) ≡ true → call.Irecv r ≡ call_named at → Opens state r row asks
    → IsKnown state (record { hart = hart; doing = Go (call.Irecv r); row = row }) (ask.Hub asks)
unfolding asked
known_open state hart at r row asks read_at there running ecall spelled opens =
    let part = part_of (rank_of state) hart in
    let right = opens.right in
    let here = get_or_read_under state.harts.items hart (vec_len state.harts) at no_hart read_at there state.harts.ok.0 in
    let goes = does_call state.site part at (call.Irecv r) here running ecall spelled
    (open_is_right state.site state.memory state.requests state.phases (length part.out) r right opens.free) in
    let moves = ne_eqb r.source no_rank right.2 in
    let source = source_of state.site r.comm r.source in
    let its_row = open_row (r.source == no_rank) r.buffer r.capacity r.comm source (tag_of r.tag) moves in
    let writes = ap (λ d. writes_in state.site hart d part) goes ∙ ap (writes_by part) its_row in
    record {
      next = record {
        there = there;
        spelled = sym goes;
        right = open_is_checked state.site state.memory state.requests state.phases r right;
        running = tt;
      };
      row = opens.row_is ∙ sym its_row;
      asks_for = ap (asked_in state.site state.memory state.requests state.phases) goes
          ∙ open_asks state.memory (r.source == no_rank) r.buffer r.capacity r.comm source (tag_of r.tag) moves
          ∙ ap ask.Hub (sym opens.asks_for);
      quiet = refl;
      pages = subst (λ rs. IsEnough state.memory.pages state.spares rs) (sym writes) (omega arith);
    }

-- ---- a WAIT

open_or_null : (table : Table) (handle : ℕ) (o : Option OpenRequest) (r : OpenRequest) → o ≡ Some r
    → ((handle == 0) || is_some o) ≡ true
open_or_null table handle o r is = ap (λ x. (handle == 0) || is_some x) is ∙ either (handle == 0)
  where
    either : (b : Bool) → (b || true) ≡ true
    either true = refl
    either false = refl

wait_is_right : (site : Site) (memory : Memory) (table : Table) (phases : List Phase) (written : ℕ) (c : Completing)
    → is_named table (NullOrOpen c.handle) ≡ true → are_statuses memory (one_status c.status) ≡ true
    → first_fault (checks site memory table phases written (needs_of (call.Wait c))) ≡ None
wait_is_right site memory table phases written c named statuses = rw (named, statuses) refl

wait_is_checked : (site : Site) (memory : Memory) (table : Table) (phases : List Phase) (c : Completing)
    → is_named table (NullOrOpen c.handle) ≡ true → IsChecked site memory table phases (Go (call.Wait c))
wait_is_checked site memory table phases c named = (
  (refl, refl, refl, refl, refl, refl),
  record { named = named; idle = refl; part = refl; going = refl; unready = refl },
  (refl, refl),
)

pub known_wait : (state : RankState) (hart : ℕ) (at : State) (c : Completing) (row : Row) (asks : Request)
    → at ≡ get_or state.harts.items hart at → hart < vec_len state.harts → at.mode ≡ Runs
    → is_ecall (word_at state.memory at.pc) ≡ true → call.Wait c ≡ call_named at → Waits state c row asks
    → IsKnown state (record { hart = hart; doing = Go (call.Wait c); row = row }) (ask.Hub asks)
unfolding asked
known_wait state hart at c row asks read_at there running ecall spelled waits =
    let part = part_of (rank_of state) hart in
    let here = get_or_read_under state.harts.items hart (vec_len state.harts) at no_hart read_at there state.harts.ok.0 in
    let is_open = waits.of.3 in
    let named = open_or_null state.requests c.handle (request_at state.requests c.handle) _ is_open in
    let none : are_statuses state.memory (one_status c.status) ≡ true =
    ap (λ a. are_statuses state.memory (one_status a)) waits.no_status in
    let goes = does_call state.site part at (call.Wait c) here running ecall spelled
    (wait_is_right state.site state.memory state.requests state.phases (length part.out) c named none) in
    let its_row = ap (λ o. row_completing Blocking c (awaited state.phases o) o) is_open in
    let ps = state.memory.pages in
    let target = completing Blocking c waits.buffer waits.capacity in
    let writes = ap (λ d. writes_in state.site hart d part) goes ∙ ap (writes_by part) its_row in
    let none_there : missing_pages ps 0 0 ≤ 0 = one_enough ps 0 0 0 (none_enough ps 0 0) in
    let no_status = ap (λ a. missing_pages ps a (if (a == 0) then 0 else 24 * 1)) waits.no_status in
    record {
      next = record {
        there = there;
        spelled = sym goes;
        right = wait_is_checked state.site state.memory state.requests state.phases c named;
        running = tt;
      };
      row = waits.row_is ∙ sym its_row;
      asks_for = ap (asked_in state.site state.memory state.requests state.phases) goes
          ∙ ap (λ o. asked_completing Blocking (awaited state.phases o) (pending_of o)) is_open
          ∙ ap ask.Hub (sym waits.asks_for);
      quiet = refl;
      pages = subst (λ rs. IsEnough ps state.spares rs) (sym writes)
          (enough_missing ps state.spares (message_into target waits.capacity) (omega (arith, waits.pages, no_status, none_there)));
    }

-- the same turn, by another spelling of the call, and of its row with what it asks
pub known_as : (state : RankState) (hart : ℕ) {one other : Call} {a b : Row × Request} → one ≡ other → a ≡ b
    → IsKnown state (record { hart = hart; doing = Go other; row = b.0 }) (ask.Hub b.1)
    → IsKnown state (record { hart = hart; doing = Go one; row = a.0 }) (ask.Hub a.1)
known_as state hart {one} {other} {a} {b} same pair known =
    subst (λ (x : Call). IsKnown state (record { hart = hart; doing = Go x; row = a.0 }) (ask.Hub a.1)) (sym same)
    (subst (λ (x : Row × Request). IsKnown state (record { hart = hart; doing = Go other; row = x.0 }) (ask.Hub x.1)) (sym pair) known)
