-- The row of a call holds no names of posts, so it is the same by other names.
use Rattle.std.proofs.Common.{◌≡◌, ◌∙◌, ℕ, refl, sym, ap, List, [], ◌∷◌, map, Option, Some, None}
use Rattle.std.specs.Option.{option_map}
use Rattle.rv_memory.specs.Memory.{Memory}
use Rattle.mp_request.specs.declared.entries.OpenRequest.{OpenRequest}
use Rattle.mp_request.specs.declared.entries.Progress.{Progress}
use Rattle.mp_request.specs.declared.entries.Progress.TheVariants as progress
use Rattle.mp_request.specs.declared.entries.State.TheVariants as state
use Rattle.mp_request.specs.declared.entries.Transfer.{Transfer}
use Rattle.mp_request.specs.Table.{Table, request_at}
use Rattle.part_phase.specs.declared.phases.Phase.{Phase}
use Rattle.cl_calls.specs.declared.calls.Call.{Call}
use Rattle.cl_calls.specs.declared.calls.Call.TheVariants as call
use Rattle.cl_calls.specs.declared.calls.Completing.{Completing}
use Rattle.cl_calls.specs.declared.calls.Several.{Several}
use Rattle.cl_calls.specs.declared.sites.Site.{Site}
use Rattle.cl_calls.specs.Handles.{handles_in}
use Rattle.cl_calls.specs.Needs.{array_at}
use Rattle.cl_state.specs.declared.asking.Doing.{Doing}
use Rattle.cl_state.specs.declared.asking.Doing.TheVariants.{Step, Refused, Go, Poll, Stopped}
use Rattle.cl_state.specs.declared.partitions.Awaited.{Awaited}
use Rattle.cl_state.specs.declared.pending.Manner.{Manner}
use Rattle.cl_state.specs.declared.pending.Manner.TheVariants.{Immediate, Blocking}
use Rattle.cl_state.specs.declared.pending.Pending.{Pending}
use Rattle.cl_state.specs.declared.pending.Pending.TheVariants as pending
use Rattle.cl_state.specs.declared.row.Outcome.{Outcome}
use Rattle.cl_state.specs.declared.row.Outcome.TheVariants as outcome
use Rattle.cl_state.specs.declared.row.Purpose.{Purpose}
use Rattle.cl_state.specs.declared.row.Purpose.TheVariants as purpose
use Rattle.cl_state.specs.declared.row.Row.{Row}
use Rattle.cl_state.specs.declared.row.Row.TheVariants.{AtOnce}
use Rattle.cl_state.specs.Partitions.{awaited}
use Rattle.cl_state.specs.Pending.{pending_of}
use Rattle.cl_state.specs.Several.{has_posts, pendings, posts_pending}
use Rattle.cl_state.specs.Table.{begun_outcome, completes, gathers, row_arrived, row_completing, row_in, row_of, row_ready, starts}
use Rattle.cl_state.proofs.Forms.{by_form}
use Rattle.mp_alike_laws.specs.Renaming.{Renaming, number_by}
use Rattle.cl_names_laws.specs.Named.{open_with, progress_with, table_with}
use Rattle.cl_names_laws.proofs.Tables.{receiving_named, request_named, sending_named}
use Rattle.cl_names_laws.proofs.Asks.{awaited_named, doing_by, pending_by, pending_named, posts_named}

module _ (names : Renaming) (sends : ℕ → ℕ) where
  -- ---- the same row

  completes_by : (m : Manner) (c : Completing) (p : Pending) → completes m c (pending_by names p) ≡ completes m c p
  completes_by m c pending.Nothing = refl
  completes_by m c pending.FromNull = refl
  completes_by m c (pending.Message post buffer capacity) = refl
  completes_by m c (pending.Word post) = refl

  completing_by : (m : Manner) (c : Completing) (a : Option Awaited) (o : Option OpenRequest)
      → pending_of (option_map (open_with names sends) o) ≡ pending_by names (pending_of o)
      → row_completing m c a (option_map (open_with names sends) o) ≡ row_completing m c a o
  completing_by m c (Some a) (Some r) e = refl
  completing_by m c (Some a) None e = refl
  completing_by m c None o e = ap (completes m c) e ∙ completes_by m c (pending_of o)

  completing_row : (m : Manner) (c : Completing) (phases : List Phase) (table : Table)
      → row_completing m c (awaited phases (request_at (table_with names sends table) c.handle)) (request_at (table_with names sends table) c.handle)
      ≡ row_completing m c (awaited phases (request_at table c.handle)) (request_at table c.handle)
  completing_row m c phases table =
      ap (λ a. row_completing m c a (request_at (table_with names sends table) c.handle)) (awaited_named names sends phases table c.handle)
      ∙ ap (row_completing m c (awaited phases (request_at table c.handle))) (request_named names sends table c.handle)
      ∙ completing_by m c (awaited phases (request_at table c.handle)) (request_at table c.handle)
      (ap pending_of (sym (request_named names sends table c.handle)) ∙ pending_named names sends table c.handle)

  starts_by : (handle : ℕ) (o : Option OpenRequest) → starts handle (option_map (open_with names sends) o) ≡ starts handle o
  starts_by handle None = refl
  starts_by handle (Some r) = refl

  has_by : (posts : List ℕ) → has_posts (map (number_by names) posts) ≡ has_posts posts
  has_by [] = refl
  has_by (post ∷ posts) = refl

  gathers_row : (m : Manner) (s : Several) (table : Table) (handles : List ℕ)
      → gathers m s (posts_pending (pendings (table_with names sends table) handles))
      ≡ gathers m s (posts_pending (pendings table handles))
  gathers_row m s table handles =
      ap (gathers m s) (posts_named names sends table handles) ∙ gathered (posts_pending (pendings table handles))
    where
      gathered : (posts : List ℕ) → gathers m s (map (number_by names) posts) ≡ gathers m s posts
      gathered [] = refl
      gathered (post ∷ posts) = refl

  call_row : (site : Site) (hart : ℕ) (memory : Memory) (table : Table) (phases : List Phase) (c : Call)
      → row_of site hart memory (table_with names sends table) phases c ≡ row_of site hart memory table phases c
  call_row site hart memory table phases (call.Test c) = completing_row Immediate c phases table
  call_row site hart memory table phases (call.Wait c) = completing_row Blocking c phases table
  call_row site hart memory table phases (call.Start handle) =
      ap (starts handle) (request_named names sends table handle) ∙ starts_by handle (request_at table handle)
  call_row site hart memory table phases (call.Testall s) =
      gathers_row Immediate s table (handles_in memory (array_at s.array s.count))
  call_row site hart memory table phases (call.Waitall s) =
      gathers_row Blocking s table (handles_in memory (array_at s.array s.count))
  call_row site hart memory table phases (call.Pready handle part) =
      ap (row_ready part) (sending_named names sends table handle)
  call_row site hart memory table phases (call.Parrived handle part) =
      ap (row_arrived phases part) (receiving_named names sends table handle)
  call_row site hart memory table phases _ = refl

  pub row_named : (site : Site) (hart : ℕ) (memory : Memory) (table : Table) (phases : List Phase) (d : Doing)
      → row_in site hart memory (table_with names sends table) phases (doing_by names d) ≡ row_in site hart memory table phases d
  row_named site hart memory table phases Step = refl
  row_named site hart memory table phases (Refused code) = refl
  row_named site hart memory table phases (Go c) = call_row site hart memory table phases c
  row_named site hart memory table phases (Poll c post) = refl
  row_named site hart memory table phases Stopped = refl

  -- ---- what is done at once names no post, or one that has the same number by both names

  abbrev pub IsFixed : Outcome → Type 0
  IsFixed (outcome.Waits post) = number_by names post ≡ post
  IsFixed (outcome.Opens r) = open_with names sends r ≡ r
  IsFixed (outcome.Starts handle p) = progress_with names sends p ≡ p
  IsFixed _ = Unit {0}

  abbrev pub IsFixedRow : Row → Type 0
  IsFixedRow (AtOnce o) = IsFixed o
  IsFixedRow _ = Unit {0}

  pub begun_fixed : (why : Purpose) (t : Transfer) (p : Progress) → progress_with names sends p ≡ p
      → IsFixed (begun_outcome why t p)
  begun_fixed purpose.Send t progress.Finished e = tt
  begun_fixed purpose.Send t (progress.Sent post) e = tt
  begun_fixed purpose.Send t (progress.OnPost post) e = cc
  begun_fixed purpose.Send t progress.InPhase e = tt
  begun_fixed purpose.Open t p e = ap (λ x. (let r : OpenRequest = record { transfer = t; state = state.Ordinary x } in r)) e
  begun_fixed (purpose.Start handle) t p e = e

  pub row_fixed : (site : Site) (hart : ℕ) (memory : Memory) (table : Table) (phases : List Phase) (d : Doing)
      → IsFixedRow (row_in site hart memory table phases d)
  row_fixed site hart memory table phases = by_form site hart memory table phases (λ started d asks row. IsFixedRow row)
      (record {
        steps = tt;
        refused = λ c. tt;
        stopped = tt;
        polls_message = λ c post target. tt;
        polls_send = λ c post. tt;
        polls_other = λ c post. tt;
        stays = tt;
        exits = λ value. tt;
        puts = λ buffer count. tt;
        ends = λ c end value. tt;
        completes = λ c source target. tt;
        completes_all = λ c value s of. tt;
        finds_nothing = λ c value status. tt;
        arrives = λ c side target. tt;
        holds = λ c. tt;
        makes = λ c t of none. refl;
        opens = λ c t of none. refl;
        starts = λ handle. refl;
        begins = λ handle link. tt;
        frees = λ handle. tt;
        sends = λ c why sync buffer count dest tag comm is of. tt;
        receives = λ c why now buffer capacity source tag comm is. tt;
        receives_claimed = λ c buffer capacity message. tt;
        starts_claimed = λ handle buffer capacity. tt;
        comes = λ c comm source tag target. tt;
        comes_claimed = λ c message target. tt;
        links_sending = λ t. tt;
        links_receiving = λ t. tt;
        collects = λ c m post target. tt;
        finishes = λ c m post target. tt;
        gathers = λ c m value s post posts of. tt;
        sees = λ c m comm source tag value status. tt;
        claims = λ c m comm source tag status. tt;
        cuts = λ c m link going unknown. tt;
        readies = λ handle part side is. tt;
        frees_part = λ c m link free target going next ready. tt;
        takes = λ c m side box target going next. tt;
        looks = λ c side box part going next. tt;
      })
