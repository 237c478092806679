-- What a turn is, by what it asks: only an instruction asks nothing as one, and only a local call puts bytes out.
use Rattle.std.specs.Prelude.{ℕ, zero, suc, ◌≡◌, ◌<◌, ◌==◌, ◌⊎◌, if◌then◌else◌, List, [], ◌∷◌, Bool, true, false, Option}
use Rattle.std.specs.Prelude.{Some, None}
use Rattle.std.specs.Prelude.{length, slice_get, vec_len}
use Rattle.std.proofs.Common.{refl, sym, ap, ◌∙◌, subst, arith, get_or, inl, inr}
use Rattle.std.proofs.lemmas.Option.{slice_get-get_or}
use Rattle.rv_hart.specs.State.{State}
use Rattle.cl_state.specs.declared.state.RankState.{RankState}
use Rattle.cl_state.specs.Asked.{no_hart, asked, asked_by, asked_completing, asked_in, asked_poll, asked_start, doing}
use Rattle.cl_state.specs.Room.{rank_of}
use Rattle.rv_memory.specs.Access.{word_at}
use Rattle.rv_memory.specs.Memory.{Memory}
use Rattle.rv_hart.specs.declared.state.Mode.{Mode}
use Rattle.rv_hart.specs.declared.state.Mode.TheVariants.{Running, Waiting, Ended, Trapped}
use Rattle.rv_hart.specs.declared.state.Wait.TheVariants.{Post, Again}
use Rattle.mp_types.specs.declared.codes.Code.{Code}
use Rattle.mp_types.specs.Carried.{carried_by_request}
use Rattle.mp_types.specs.declared.requests.Request.{Request}
use Rattle.mp_request.specs.declared.entries.OpenRequest.{OpenRequest}
use Rattle.mp_request.specs.declared.entries.Partitions.{Partitions}
use Rattle.mp_request.specs.declared.entries.Transfer.{Transfer}
use Rattle.mp_request.specs.declared.entries.Transfer.TheVariants as transfer
use Rattle.mp_request.specs.Table.{Table, request_at}
use Rattle.part_phase.specs.declared.phases.Phase.{Phase}
use Rattle.part_phase.specs.Phases.{receiving_at}
use Rattle.cl_calls.specs.Calls.{no_rank, no_message}
use Rattle.cl_calls.specs.Checks.{receiving_side, sending_side}
use Rattle.cl_calls.specs.Handles.{handles_in}
use Rattle.cl_calls.specs.Needs.{array_at, needs_of}
use Rattle.cl_calls.specs.declared.calls.Call.{Call}
use Rattle.cl_calls.specs.declared.calls.Call.TheVariants as call
use Rattle.cl_calls.specs.declared.sites.Site.{Site}
use Rattle.cl_state.specs.declared.asking.Answer.{Answer}
use Rattle.cl_state.specs.declared.asking.Ask.{Ask}
use Rattle.cl_state.specs.Told.{told}
use Rattle.cl_state.specs.declared.asking.Ask.TheVariants as ask
use Rattle.cl_state.specs.declared.asking.Doing.{Doing}
use Rattle.cl_state.specs.declared.asking.Doing.TheVariants.{Step, Refused, Go, Poll, Stopped}
use Rattle.cl_state.specs.declared.partitions.Awaited.{Awaited}
use Rattle.cl_state.specs.declared.partitions.Awaited.TheVariants as awaits
use Rattle.cl_state.specs.declared.pending.Manner.{Manner}
use Rattle.cl_state.specs.declared.pending.Manner.TheVariants.{Immediate, Blocking, Polling, Posting}
use Rattle.cl_state.specs.declared.pending.Pending.{Pending}
use Rattle.cl_state.specs.declared.pending.Pending.TheVariants as pending
use Rattle.cl_state.specs.TurnRoom.{carried}
use Rattle.cl_state.specs.Asked.{part_of}
use Rattle.cl_state.specs.Asked.{checked, doing_in, go_or_refuse, is_ecall}
use Rattle.cl_state.specs.Partitions.{asked_arrived, asked_awaited, asked_ready, awaited, awaited_of_part}
use Rattle.cl_state.specs.Pending.{asked_pending, pending_of}
use Rattle.cl_state.specs.Rank.{Rank}
use Rattle.cl_state.specs.Right.{growth_of}
use Rattle.cl_state.specs.Several.{asked_all, pendings, posts_pending}
use Rattle.cl_state.specs.Transfers.{asked_transfer, receive_of, send_of}
use Rattle.cl_trace.specs.declared.events.Kind.{Kind}
use Rattle.cl_replay.specs.Turns.{IsLook, quiet_ask}

-- ---- an instruction

-- more is asked than an instruction asks
abbrev IsMore : Ask → Type 0
IsMore ask.Plain = ⊥
IsMore _ = Unit {0}

more_if : (b : Bool) (r : Request) → IsMore (if b then ask.Local else ask.Hub r)
more_if true r = tt
more_if false r = tt

more_transfer : (memory : Memory) (now : Bool) (t : Transfer) → IsMore (asked_transfer memory now t)
more_transfer memory now transfer.SendToNull = tt
more_transfer memory now transfer.ReceiveFromNull = tt
more_transfer memory now (transfer.Send sync buffer count dest tag comm) = tt
more_transfer memory now (transfer.Receive buffer capacity source tag comm) = tt
more_transfer memory now (transfer.ReceiveClaimed buffer capacity) = tt
more_transfer memory now (transfer.SendPartitions side) = tt
more_transfer memory now (transfer.ReceivePartitions side) = tt

more_start : (memory : Memory) (o : Option OpenRequest) → IsMore (asked_start memory o)
more_start memory None = tt
more_start memory (Some r) = more_transfer memory false r.transfer

more_awaited : (m : Manner) (a : Awaited) → IsMore (asked_awaited m a)
more_awaited m awaits.Nothing = tt
more_awaited Immediate awaits.Unready = tt
more_awaited Blocking awaits.Unready = tt
more_awaited Polling awaits.Unready = tt
more_awaited Posting awaits.Unready = tt
more_awaited m (awaits.Taking link part) = tt
more_awaited m (awaits.Cut link) = tt
more_awaited m (awaits.Box link box) = tt

more_pending : (p : Pending) → IsMore (asked_pending p)
more_pending pending.Nothing = tt
more_pending pending.FromNull = tt
more_pending (pending.Message post buffer capacity) = tt
more_pending (pending.Word post) = tt

more_completing : (m : Manner) (o : Option Awaited) (p : Pending) → IsMore (asked_completing m o p)
more_completing m None p = more_pending p
more_completing m (Some a) p = more_awaited m a

more_all : (posts : List ℕ) → IsMore (asked_all posts)
more_all [] = tt
more_all (post ∷ posts) = tt

more_ready : (site : Site) (memory : Memory) (part : ℕ) (o : Option Partitions)
    → IsMore (asked_ready site memory part o)
more_ready site memory part None = tt
more_ready site memory part (Some side) = tt

more_arrived : (phases : List Phase) (part : ℕ) (o : Option Partitions) → IsMore (asked_arrived phases part o)
more_arrived phases part None = tt
more_arrived phases part (Some side) =
    more_awaited Immediate (awaited_of_part side.link (receiving_at phases side.link) part)

module _ (site : Site) (memory : Memory) (table : Table) (phases : List Phase) where
  more_call : (c : Call) → IsMore (asked_by site memory table phases c)
  more_call (call.Send s) = more_transfer memory true (send_of site false s)
  more_call (call.Ssend s) = more_transfer memory true (send_of site true s)
  more_call (call.Recv r status) = more_transfer memory true (receive_of site r)
  more_call (call.Isend s) = more_transfer memory false (send_of site false s)
  more_call (call.Issend s) = more_transfer memory false (send_of site true s)
  more_call (call.Irecv r) = more_transfer memory false (receive_of site r)
  more_call (call.Test c) =
      more_completing Immediate (awaited phases (request_at table c.handle)) (pending_of (request_at table c.handle))
  more_call (call.Wait c) =
      more_completing Blocking (awaited phases (request_at table c.handle)) (pending_of (request_at table c.handle))
  more_call (call.Iprobe p) = more_if (p.source == no_rank) _
  more_call (call.Probe p) = more_if (p.source == no_rank) _
  more_call (call.Improbe p) = more_if (p.source == no_rank) _
  more_call (call.Mprobe p) = more_if (p.source == no_rank) _
  more_call (call.Imrecv m) = more_if (m.message == no_message) _
  more_call (call.Mrecv m status) = more_if (m.message == no_message) _
  more_call (call.Start handle) = more_start memory (request_at table handle)
  more_call (call.Testall s) =
      more_all (posts_pending (pendings table (handles_in memory (array_at s.array s.count))))
  more_call (call.Waitall s) =
      more_all (posts_pending (pendings table (handles_in memory (array_at s.array s.count))))
  more_call (call.Pready handle part) = more_ready site memory part (sending_side (request_at table handle))
  more_call (call.Parrived handle part) = more_arrived phases part (receiving_side (request_at table handle))
  more_call _ = tt

  more_poll : (c : Call) (post : ℕ) → IsMore (asked_poll c post)
  more_poll (call.Ssend s) post = tt
  more_poll _ post = tt

  plain_is_step : (d : Doing) → asked_in site memory table phases d ≡ ask.Plain → d ≡ Step
  plain_is_step Step e = refl
  plain_is_step (Refused code) e = absurd (cc)
  plain_is_step (Go c) e = absurd (subst IsMore e (more_call c))
  plain_is_step (Poll c post) e = absurd (subst IsMore e (more_poll c post))
  plain_is_step Stopped e = absurd (cc)

  -- ---- bytes that are put out

  call_grows : (c : Call) → 0 < (needs_of c).growth → asked_by site memory table phases c ≡ ask.Local
  call_grows (call.Put buffer count) more = refl
  call_grows _ more = absurd (omega (arith, more))

  grows_local : (d : Doing) → 0 < growth_of d → asked_in site memory table phases d ≡ ask.Local
  grows_local Step more = absurd (omega (arith, more))
  grows_local (Refused code) more = absurd (omega (arith, more))
  grows_local (Go c) more = call_grows c more
  grows_local (Poll c post) more = absurd (omega (arith, more))
  grows_local Stopped more = absurd (omega (arith, more))

-- a hart that asks as for an instruction does one
pub plain_steps : (r : Rank) (hart : ℕ) (d : Doing) → d ≡ doing r.site (part_of r hart) → asked r hart ≡ ask.Plain
    → d ≡ Step
unfolding asked
plain_steps r hart d is asks =
    plain_is_step r.site r.memory r.requests r.phases d
    (ap (asked_in r.site r.memory r.requests r.phases) is ∙ asks)

pub grows : (r : Rank) (hart : ℕ) (d : Doing) → d ≡ doing r.site (part_of r hart) → 0 < growth_of d
    → asked r hart ≡ ask.Local
unfolding asked
grows r hart d is more =
    ap (asked_in r.site r.memory r.requests r.phases) (sym is)
    ∙ grows_local r.site r.memory r.requests r.phases d more

abbrev pub is_local : Ask → Bool
is_local ask.Local = true
is_local _ = false

-- a turn that isn't local puts nothing out
pub nothing_out : (r : Rank) (hart : ℕ) (d : Doing) → d ≡ doing r.site (part_of r hart) → (a : Ask) → asked r hart ≡ a
    → is_local a ≡ false → growth_of d ≡ 0
nothing_out r hart d is a asks other = by_growth (growth_of d) refl
  where
    by_growth : (n : ℕ) → growth_of d ≡ n → n ≡ 0
    by_growth zero e = refl
    by_growth (suc n) e =
        let same = sym (ap is_local asks) ∙ ap is_local (grows r hart d is (omega (arith, e))) in
        let both = sym other ∙ same in absurd (cc)

-- who carries something asks the hub
pub carries : (a : Ask) → 0 < carried a → (r : Request) × (a ≡ ask.Hub r) × (0 < carried_by_request r)
carries (ask.Hub r) more = (r, refl, more)
carries ask.Plain more = absurd (omega (arith, more))
carries ask.Local more = absurd (omega (arith, more))
carries (ask.Ready link part bytes) more = absurd (omega (arith, more))
carries (ask.Look link part) more = absurd (omega (arith, more))
carries (ask.Freed link part) more = absurd (omega (arith, more))
carries ask.Held more = absurd (omega (arith, more))
carries ask.Idle more = absurd (omega (arith, more))

-- a look puts nothing out
pub look_out : (r : Rank) (hart : ℕ) (d : Doing) → d ≡ doing r.site (part_of r hart) → (a : Ask) → a ≡ asked r hart
    → IsLook a → growth_of d ≡ 0
look_out r hart d is a asks look = nothing_out r hart d is a (sym asks) (by_ask a look)
  where
    by_ask : (a : Ask) → IsLook a → is_local a ≡ false
    by_ask (ask.Look link part) look = refl
    by_ask (ask.Freed link part) look = refl
    by_ask ask.Plain look = absurd look
    by_ask ask.Local look = absurd look
    by_ask (ask.Hub request) look = absurd look
    by_ask (ask.Ready link part bytes) look = absurd look
    by_ask ask.Held look = absurd look
    by_ask ask.Idle look = absurd look

pub positive : (n : ℕ) → (n ≡ 0 → ⊥) → 0 < n
positive zero never = absurd (never refl)
positive (suc n) never = omega arith

pub either : (a b : ℕ) → (a ≡ 0 → b ≡ 0 → ⊥) → (0 < b) ⊎ (0 < a)
either zero b never = inl (positive b (never refl))
either (suc a) b never = inr (omega arith)

-- the same rank, hart and stamp are told the same
pub told_same : (r s : Rank) (h k : ℕ) (a : Answer) (t u : ℕ) → r ≡ s → h ≡ k → t ≡ u → told r h a t ≡ told s k a u
told_same r s h k a t u rank hart stamp = λ i. told (rank i) (hart i) a (stamp i)

-- of the quiet steps a local one alone puts bytes out
pub quiet_grows : (r : Rank) (hart : ℕ) (d : Doing) → d ≡ doing r.site (part_of r hart) → (a : Ask) → a ≡ asked r hart
    → (k : Kind) → quiet_ask k ≡ Some a → (growth_of d ≡ 0 → ⊥)
    → (k ≡ Kind.Local) × (0 < growth_of (doing r.site (part_of r hart)))
quiet_grows r hart d is a asks k quiet more =
    let up : 0 < growth_of d = positive (growth_of d) more in
    (by_kind k (quiet ∙ ap Some (asks ∙ grows r hart d is up)), subst (λ x. 0 < growth_of x) is up)
  where
    by_kind : (k : Kind) → quiet_ask k ≡ Some ask.Local → k ≡ Kind.Local
    by_kind Kind.Local e = refl
    by_kind Kind.Held e = absurd (cc)
    by_kind Kind.Idle e = absurd (cc)
    by_kind Kind.Plain e = absurd (cc)
    by_kind (Kind.Hub reply) e = absurd (cc)
    by_kind Kind.Ready e = absurd (cc)
    by_kind Kind.Take e = absurd (cc)
    by_kind Kind.Miss e = absurd (cc)
    by_kind Kind.Freed e = absurd (cc)

-- who does an instruction is running, and the word is no ECALL
pub runs : (r : Rank) (hart : ℕ) → asked r hart ≡ ask.Plain
    → ((part_of r hart).hart.mode ≡ Running)
    × (is_ecall (word_at r.memory (part_of r hart).hart.pc) ≡ false)
unfolding doing
runs r hart asks =
    by_mode (part_of r hart).hart.mode (sym (plain_steps r hart (doing r.site (part_of r hart)) refl asks))
  where
    by_mode : (m : Mode) → Step ≡ doing_in m r.site (part_of r hart)
        → (m ≡ Running) × (is_ecall (word_at r.memory (part_of r hart).hart.pc) ≡ false)
    by_mode Running e = (refl, by_word (is_ecall (word_at r.memory (part_of r hart).hart.pc)) e)
      where
        by_code : (o : Option Code) (c : Call) → Step ≡ go_or_refuse o c → ⊥
        by_code None c e = cc
        by_code (Some code) c e = cc

        by_word : (b : Bool) → Step ≡ (if b then checked r.site (part_of r hart) else Step) → b ≡ false
        by_word false e = refl
        by_word true e = absurd (by_code _ _ e)
    by_mode (Waiting (Post post)) e = absurd (cc)
    by_mode (Waiting Again) e = absurd (by_again _ _ e)
      where
        by_again : (o : Option Code) (c : Call) → Step ≡ go_or_refuse o c → ⊥
        by_again None c e = cc
        by_again (Some code) c e = cc
    by_mode (Ended code) e = absurd (cc)
    by_mode (Trapped cause pc) e = absurd (cc)

-- where each running hart's word is an ECALL, none does an instruction
pub asks_no_plain : (s : RankState) (hart : ℕ) → hart < vec_len s.harts
    → ((at : State) → slice_get s.harts.items hart ≡ Some at → at.mode ≡ Running
    → is_ecall (word_at s.memory at.pc) ≡ true)
    → asked (rank_of s) hart ≡ ask.Plain → ⊥
asks_no_plain s hart there other asks =
    let run = runs (rank_of s) hart asks in
    let below : hart < length s.harts.items = omega (arith, there, s.harts.ok.0) in
    let calls = other (get_or s.harts.items hart no_hart) (slice_get-get_or s.harts.items hart no_hart below) run.0 in
    absurd (cc)
