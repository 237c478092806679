-- The row of a call is the same where synchronous sends that have a receive are complete, but of calls that complete
-- them.
use Rattle.std.proofs.Common.{◌≡◌, ◌∙◌, ℕ, refl, sym, ap, subst, Bool, List, Option, Some, None}
use Rattle.std.specs.Option.{option_map}
use Rattle.rv_memory.specs.Memory.{Memory}
use Rattle.mp_request.specs.declared.entries.OpenRequest.{OpenRequest}
use Rattle.mp_request.specs.declared.entries.Progress.TheVariants as progress
use Rattle.mp_request.specs.declared.entries.State.TheVariants as state
use Rattle.mp_request.specs.declared.entries.Transfer.{Transfer}
use Rattle.mp_request.specs.declared.entries.Transfer.TheVariants as transfer
use Rattle.mp_request.specs.Table.{Table, request_at}
use Rattle.part_phase.specs.declared.phases.Phase.{Phase}
use Rattle.cl_calls.specs.declared.calls.Call.{Call}
use Rattle.cl_calls.specs.declared.calls.Call.TheVariants as call
use Rattle.cl_calls.specs.declared.calls.Completing.{Completing}
use Rattle.cl_calls.specs.declared.calls.Several.{Several}
use Rattle.cl_calls.specs.declared.needs.Needs.{Needs}
use Rattle.cl_calls.specs.declared.sites.Site.{Site}
use Rattle.cl_calls.specs.Handles.{handles_in}
use Rattle.cl_calls.specs.Needs.{array_at, needs_of, needs_of_several}
use Rattle.cl_state.specs.declared.asking.Answer.{Answer}
use Rattle.cl_state.specs.declared.asking.Doing.{Doing}
use Rattle.cl_state.specs.declared.asking.Doing.TheVariants.{Step, Refused, Go, Poll, Stopped}
use Rattle.cl_state.specs.declared.partitions.Awaited.{Awaited}
use Rattle.cl_state.specs.declared.pending.Manner.{Manner}
use Rattle.cl_state.specs.declared.pending.Manner.TheVariants.{Immediate, Blocking}
use Rattle.cl_state.specs.Asked.{Part, doing, part_of}
use Rattle.cl_state.specs.Partitions.{awaited}
use Rattle.cl_state.specs.Pending.{pending_of}
use Rattle.cl_state.specs.Rank.{Rank}
use Rattle.cl_state.specs.Several.{posts_pending}
use Rattle.cl_state.specs.Table.{completes, gathers, row_arrived, row_completing, row_in, row_of, row_ready, starts}
use Rattle.cl_state.specs.Told.{told, told_row, with_part}
use Rattle.cl_state.proofs.Forms.{by_form}
use Rattle.cl_names_laws.proofs.Told.{row_at}
use Rattle.cl_post_laws.proofs.Renamed.{by_row}
use Rattle.cl_way_laws.specs.Met.{met_by, met_open, met_progress, met_table}
use Rattle.cl_way_laws.proofs.MetAsks.{AllNeedSame, CallsSame, DoesSame, NeedsSame, awaited_met, doing_met, met_part}
use Rattle.cl_way_laws.proofs.MetTables.{receiving_met, request_met, sending_met}
use Rattle.cl_way_laws.proofs.MetTold.{IsFixedRow, Unmet, row_by}

module _ (d : ℕ → Bool) where
  completing_by : (m : Manner) (c : Completing) (a : Option Awaited) (o : Option OpenRequest)
      → pending_of (option_map (met_open d) o) ≡ pending_of o
      → row_completing m c a (option_map (met_open d) o) ≡ row_completing m c a o
  completing_by m c (Some a) (Some r) e = refl
  completing_by m c (Some a) None e = refl
  completing_by m c None o e = ap (completes m c) e

  completing_row : (m : Manner) (c : Completing) (phases : List Phase) (table : Table) → NeedsSame d table c.handle
      → row_completing m c (awaited phases (request_at (met_table d table) c.handle))
      (request_at (met_table d table) c.handle)
      ≡ row_completing m c (awaited phases (request_at table c.handle)) (request_at table c.handle)
  completing_row m c phases table same =
      ap (λ a. row_completing m c a (request_at (met_table d table) c.handle)) (awaited_met d phases table c.handle)
      ∙ ap (row_completing m c (awaited phases (request_at table c.handle))) (request_met d table c.handle)
      ∙ completing_by m c (awaited phases (request_at table c.handle)) (request_at table c.handle)
      (ap pending_of (sym (request_met d table c.handle)) ∙ same)

  starts_by : (handle : ℕ) (o : Option OpenRequest) → starts handle (option_map (met_open d) o) ≡ starts handle o
  starts_by handle None = refl
  starts_by handle (Some r) = refl

  call_row : (site : Site) (hart : ℕ) (memory : Memory) (table : Table) (phases : List Phase) (c : Call)
      → CallsSame d memory table c
      → row_of site hart memory (met_table d table) phases c ≡ row_of site hart memory table phases c
  call_row site hart memory table phases (call.Test c) same = completing_row Immediate c phases table same
  call_row site hart memory table phases (call.Wait c) same = completing_row Blocking c phases table same
  call_row site hart memory table phases (call.Start handle) same =
      ap (starts handle) (request_met d table handle) ∙ starts_by handle (request_at table handle)
  call_row site hart memory table phases (call.Testall s) same = ap (λ ps. gathers Immediate s (posts_pending ps)) same
  call_row site hart memory table phases (call.Waitall s) same = ap (λ ps. gathers Blocking s (posts_pending ps)) same
  call_row site hart memory table phases (call.Pready handle part) same =
      ap (row_ready part) (sending_met d table handle)
  call_row site hart memory table phases (call.Parrived handle part) same =
      ap (row_arrived phases part) (receiving_met d table handle)
  call_row site hart memory table phases _ same = refl

  pub row_met : (site : Site) (hart : ℕ) (memory : Memory) (table : Table) (phases : List Phase) (does : Doing)
      → DoesSame d memory table does
      → row_in site hart memory (met_table d table) phases does ≡ row_in site hart memory table phases does
  row_met site hart memory table phases Step same = refl
  row_met site hart memory table phases (Refused code) same = refl
  row_met site hart memory table phases (Go c) same = call_row site hart memory table phases c same
  row_met site hart memory table phases (Poll c post) same = refl
  row_met site hart memory table phases Stopped same = refl

  -- ---- what is done at once

  whole : (t : Transfer) → met_progress d t progress.Finished ≡ progress.Finished
  whole (transfer.Send sync buffer count dest tag comm) = refl
  whole transfer.SendToNull = refl
  whole transfer.ReceiveFromNull = refl
  whole (transfer.Receive buffer capacity source tag comm) = refl
  whole (transfer.ReceiveClaimed buffer capacity) = refl
  whole (transfer.SendPartitions side) = refl
  whole (transfer.ReceivePartitions side) = refl

  cut : (t : Transfer)
      → (let r : OpenRequest = record { transfer = t; state = state.Ordinary progress.Finished } in met_open d r ≡ r)
  cut t = ap (λ p. (let r : OpenRequest = record { transfer = t; state = state.Ordinary p } in r)) (whole t)

  -- a call that names no array names no handle
  none_named : (memory : Memory) (table : Table) (one : Several) → array_at 0 0 ≡ array_at one.array one.count
      → AllNeedSame d table (handles_in memory (array_at one.array one.count))
  none_named memory table one same =
      subst (λ a. AllNeedSame d table (handles_in memory a)) same refl

  module _ (site : Site) (hart : ℕ) (memory : Memory) (table : Table) (phases : List Phase) where
    named : {n m : Needs} → n ≡ m → n.handles ≡ m.handles
    named e = ap (λ (n : Needs). n.handles) e

    several : (c : Call) (one : Several) → needs_of c ≡ needs_of_several one → CallsSame d memory table c
        → AllNeedSame d table (handles_in memory (array_at one.array one.count))
    several (call.Testall s) one of same =
        subst (λ a. AllNeedSame d table (handles_in memory a)) (ap (λ (n : Needs). n.handles) of) same
    several (call.Waitall s) one of same =
        subst (λ a. AllNeedSame d table (handles_in memory a)) (ap (λ (n : Needs). n.handles) of) same
    several (call.Exit value) one of same = none_named memory table one (named of)
    several (call.Put buffer count) one of same = none_named memory table one (named of)
    several (call.Rank comm) one of same = none_named memory table one (named of)
    several (call.Size comm) one of same = none_named memory table one (named of)
    several call.Hart one of same = none_named memory table one (named of)
    several (call.Send s) one of same = none_named memory table one (named of)
    several (call.Ssend s) one of same = none_named memory table one (named of)
    several (call.Recv r status) one of same = none_named memory table one (named of)
    several (call.Isend s) one of same = none_named memory table one (named of)
    several (call.Issend s) one of same = none_named memory table one (named of)
    several (call.Irecv r) one of same = none_named memory table one (named of)
    several (call.Test c) one of same = none_named memory table one (named of)
    several (call.Wait c) one of same = none_named memory table one (named of)
    several (call.Iprobe p) one of same = none_named memory table one (named of)
    several (call.Probe p) one of same = none_named memory table one (named of)
    several (call.Improbe p) one of same = none_named memory table one (named of)
    several (call.Mprobe p) one of same = none_named memory table one (named of)
    several (call.Imrecv m) one of same = none_named memory table one (named of)
    several (call.Mrecv m status) one of same = none_named memory table one (named of)
    several (call.SendInit s) one of same = none_named memory table one (named of)
    several (call.RecvInit r) one of same = none_named memory table one (named of)
    several (call.Start handle) one of same = none_named memory table one (named of)
    several (call.RequestFree handle) one of same = none_named memory table one (named of)
    several (call.PsendInit t) one of same = none_named memory table one (named of)
    several (call.PrecvInit t) one of same = none_named memory table one (named of)
    several (call.Pready handle part) one of same = none_named memory table one (named of)
    several (call.Parrived handle part) one of same = none_named memory table one (named of)
    several call.Unknown one of same = none_named memory table one (named of)

    row_fixed : (does : Doing) → DoesSame d memory table does
        → IsFixedRow d memory table (row_in site hart memory table phases does)
    row_fixed =
        by_form site hart memory table phases
        (λ started does asks row. DoesSame d memory table does → IsFixedRow d memory table row)
        (record {
          steps = λ same. tt;
          refused = λ c same. tt;
          stopped = λ same. tt;
          polls_message = λ c post target same. tt;
          polls_send = λ c post same. tt;
          polls_other = λ c post same. tt;
          stays = λ same. tt;
          exits = λ value same. tt;
          puts = λ buffer count same. tt;
          ends = λ c end value same. tt;
          completes = λ c source target same. tt;
          completes_all = λ c value s of same. several c s of same;
          finds_nothing = λ c value status same. tt;
          arrives = λ c side target same. tt;
          holds = λ c same. tt;
          makes = λ c t of none same. refl;
          opens = λ c t of none same. cut t;
          starts = λ handle same t. whole t;
          begins = λ handle link same. tt;
          frees = λ handle same. tt;
          sends = λ c why sync buffer count dest tag comm is of same. tt;
          receives = λ c why now buffer capacity source tag comm is same. tt;
          receives_claimed = λ c buffer capacity message same. tt;
          starts_claimed = λ handle buffer capacity same. tt;
          comes = λ c comm source tag target same. tt;
          comes_claimed = λ c message target same. tt;
          links_sending = λ t same. tt;
          links_receiving = λ t same. tt;
          collects = λ c m post target same. tt;
          finishes = λ c m post target same. tt;
          gathers = λ c m value s post posts of same. several c s of same;
          sees = λ c m comm source tag value status same. tt;
          claims = λ c m comm source tag status same. tt;
          cuts = λ c m link going unknown same. tt;
          readies = λ handle part side is same. tt;
          frees_part = λ c m link free target going next ready same. tt;
          takes = λ c m side box target going next same. tt;
          looks = λ c side box part going next same. tt;
        })

  -- ---- a rank

  pub part_met : (rank : Rank) (hart : ℕ) → part_of (met_by d rank) hart ≡ met_part d (part_of rank hart)
  part_met rank hart = refl

  pub with_met : (rank : Rank) (hart : ℕ) (part : Part) (stamp : ℕ)
      → with_part (met_by d rank) hart (met_part d part) stamp ≡ met_by d (with_part rank hart part stamp)
  with_met rank hart part stamp = refl

  told_in_met : (site : Site) (hart : ℕ) (a : Answer) (part : Part)
      → DoesSame d part.memory part.requests (doing site part) → Unmet d a
      → told_row site (row_in site hart part.memory (met_table d part.requests) part.phases (doing site part)) a
      (met_part d part)
      ≡ met_part d (told_row site (row_in site hart part.memory part.requests part.phases (doing site part)) a part)
  told_in_met site hart a part same unmet = go (doing site part) same
    where
      go : (does : Doing) → DoesSame d part.memory part.requests does
          → told_row site (row_in site hart part.memory (met_table d part.requests) part.phases does) a
          (met_part d part)
          ≡ met_part d (told_row site (row_in site hart part.memory part.requests part.phases does) a part)
      go does same =
          ap (λ row. told_row site row a (met_part d part))
          (row_met site hart part.memory part.requests part.phases does same)
          ∙ row_by d site (row_in site hart part.memory part.requests part.phases does) a part
          (row_fixed site hart part.memory part.requests part.phases does same) unmet

  pub row_at_met : (rank : Rank) (hart : ℕ)
      → row_at (met_by d rank) hart
      ≡ row_in rank.site hart rank.memory (met_table d rank.requests) rank.phases (doing rank.site (part_of rank hart))
  row_at_met rank hart =
      ap (row_in rank.site hart rank.memory (met_table d rank.requests) rank.phases)
      (ap (doing rank.site) (part_met rank hart) ∙ doing_met d rank.site (part_of rank hart))

  -- whatever it is told that tells of no such send, it is left the same
  pub tells_met : (rank : Rank) (hart : ℕ) (a : Answer) (stamp : ℕ)
      → DoesSame d rank.memory rank.requests (doing rank.site (part_of rank hart)) → Unmet d a
      → told (met_by d rank) hart a stamp ≡ met_by d (told rank hart a stamp)
  tells_met rank hart a stamp same unmet =
      by_row (met_by d rank) hart a stamp
      ∙ ap (λ row. with_part (met_by d rank) hart (told_row rank.site row a (met_part d (part_of rank hart))) stamp)
      (row_at_met rank hart)
      ∙ ap (λ p. with_part (met_by d rank) hart p stamp) (told_in_met rank.site hart a (part_of rank hart) same unmet)
      ∙ with_met rank hart (told_row rank.site (row_at rank hart) a (part_of rank hart)) stamp
      ∙ ap (met_by d) (sym (by_row rank hart a stamp))
