-- A turn in vain changes nothing of its rank but the clock.
use Rattle.std.proofs.Common.{◌≡◌, ◌∙◌, ℕ, refl, ap, subst, sym, Bool, true, false, List, [], ◌∷◌, Option, Some, None}
use Rattle.std.specs.Prelude.{◌==◌, ◌↔◌, T, set, if◌then◌else◌}
use Rattle.std.proofs.lemmas.Bool.{false≢true}
use Rattle.std.proofs.lemmas.List.{set-get_or}
use Rattle.rv_hart.specs.State.{State, in_mode, is_stopped}
use Rattle.rv_hart.specs.declared.state.Mode.{Mode}
use Rattle.rv_hart.specs.declared.state.Mode.TheVariants.{Waiting, Ended, Trapped}
use Rattle.rv_hart.specs.declared.state.Wait.{Wait}
use Rattle.rv_hart.specs.declared.state.Wait.TheVariants.{Post, Again}
use Rattle.mp_types.specs.declared.codes.Code.{Code}
use Rattle.mp_types.specs.declared.replies.Reply.TheVariants as reply
use Rattle.mp_types.specs.declared.requests.Request.{Request}
use Rattle.mp_types.specs.declared.requests.Request.TheVariants as request
use Rattle.mp_request.specs.declared.entries.OpenRequest.{OpenRequest}
use Rattle.mp_request.specs.Table.{request_at}
use Rattle.cl_calls.specs.declared.calls.Call.{Call}
use Rattle.cl_calls.specs.declared.calls.Call.TheVariants as call
use Rattle.cl_calls.specs.declared.calls.Completing.{Completing}
use Rattle.cl_calls.specs.declared.sites.Site.{Site}
use Rattle.cl_calls.specs.Calls.{call_named, no_rank}
use Rattle.cl_calls.specs.Checks.{checks, first_fault}
use Rattle.cl_calls.specs.Handles.{handles_in}
use Rattle.cl_calls.specs.Needs.{array_at, needs_of}
use Rattle.cl_state.specs.declared.asking.Answer.{Answer}
use Rattle.cl_state.specs.declared.asking.Answer.TheVariants as answer
use Rattle.cl_state.specs.declared.asking.Ask.{Ask}
use Rattle.cl_state.specs.declared.asking.Ask.TheVariants as ask
use Rattle.cl_state.specs.declared.asking.Doing.{Doing}
use Rattle.cl_state.specs.declared.asking.Doing.TheVariants.{Go, Poll, Stopped}
use Rattle.cl_state.specs.declared.partitions.Awaited.{Awaited}
use Rattle.cl_state.specs.declared.partitions.Awaited.TheVariants.{Nothing, Unready, Taking, Cut, Box}
use Rattle.cl_state.specs.declared.pending.Manner.TheVariants.{Blocking}
use Rattle.cl_state.specs.declared.pending.Pending.{Pending}
use Rattle.cl_state.specs.declared.pending.Pending.TheVariants as pending
use Rattle.cl_state.specs.declared.row.Outcome.TheVariants.{Holds}
use Rattle.cl_state.specs.declared.row.Row.{Row}
use Rattle.cl_state.specs.declared.row.Row.TheVariants.{AtOnce}
use Rattle.cl_state.specs.Asked.{Part, part_of, doing, doing_in, go_or_refuse, asked, asked_by, asked_completing, asked_in}
use Rattle.cl_state.specs.Partitions.{awaited}
use Rattle.cl_state.specs.Pending.{asked_pending, pending_of}
use Rattle.cl_state.specs.Rank.{Rank}
use Rattle.cl_state.specs.Several.{asked_all, pendings, posts_pending}
use Rattle.cl_state.specs.Table.{row_completing, row_of}
use Rattle.cl_state.specs.Told.{told, told_in, told_row, with_part}
use Rattle.cl_state.specs.Transfers.{source_of, tag_of}
use Rattle.cl_state_laws.specs.Laws.{IsLook, missed}
use Rattle.cl_state_laws.specs.Leaves.{delayed}
use Rattle.cl_state_laws.specs.Vain.{IsPatient, IsStopped, IsWaiting, mode_of, waits_on}
use Rattle.cl_state_laws.specs.VainLaws.{VainLaw, at_clock}
use Rattle.cl_state_laws.proofs.Delays.{turn_delayed}
use Rattle.cl_state_laws.proofs.Misses.{missed_in_vain, no_look_all, no_look_if, no_look_poll}
use Rattle.cl_state_laws.proofs.Replies.{IsPartKept, row_kept, turn_waits}

-- ---- the hart

test_tells : (test : Bool) → (test ≡ true) ↔ T test
test_tells true = (λ yes. tt, λ is. refl)
test_tells false = (λ no. absurd (false≢true no), λ no. absurd no)

-- what the test of a mode says of its hart
pub tells_stopped : (test : Bool) (mode : Mode) → test ≡ is_stopped mode → (test ≡ true) ↔ IsStopped mode
tells_stopped test mode same = subst (λ b. (b ≡ true) ↔ IsStopped mode) (sym same) (test_tells (is_stopped mode))

waiting_on : (mode : Mode) → IsWaiting mode → (wait : Wait) × (mode ≡ Waiting wait)
waiting_on (Waiting wait) is = (wait, refl)
waiting_on _ is = absurd is

same_mode : (hart : State) → hart.mode ≡ Waiting Again → in_mode hart (Waiting Again) ≡ hart
same_mode hart waits = ap (in_mode hart) (sym waits)

-- a hart that waits and isn't polling makes its call anew
makes_anew : (site : Site) (part : Part) (wait : Wait) (c : Call) → doing_in (Waiting wait) site part ≡ Go c
    → wait ≡ Again
makes_anew site part Again c goes = refl
makes_anew site part (Post post) c goes = absurd (cc)

-- what is left of the hart where its call isn't answered yet
delayed_call : (c : Call) (hart : State) → waits_on (Go c) ≡ true → delayed (Go c) hart ≡ in_mode hart (Waiting Again)
delayed_call (call.Wait c) hart on = refl
delayed_call (call.Probe p) hart on = refl
delayed_call (call.Mprobe p) hart on = refl
delayed_call (call.Waitall s) hart on = refl
delayed_call _ hart on = absurd (cc)

-- and where it looked in vain
missed_call : (site : Site) (part : Part) (c : Call) → waits_on (Go c) ≡ true
    → IsLook (asked_by site part.memory part.requests part.phases c)
    → missed (Go c) part.hart ≡ in_mode part.hart (Waiting Again)
missed_call site part (call.Wait c) on look = refl
missed_call site part (call.Probe p) on look =
    absurd (no_look_if (p.source == no_rank)
    (request.Probe p.comm (source_of site p.comm p.source) (tag_of p.tag)) look)
missed_call site part (call.Mprobe p) on look =
    absurd (no_look_if (p.source == no_rank)
    (request.Claim p.comm (source_of site p.comm p.source) (tag_of p.tag)) look)
missed_call site part (call.Waitall s) on look =
    absurd (no_look_all (posts_pending (pendings part.requests (handles_in part.memory (array_at s.array s.count)))) look)
missed_call site part _ on look = absurd (cc)

-- ---- a call that is held up by its own rank

not_held_if : (b : Bool) (q : Request) → (if b then ask.Local else ask.Hub q) ≡ ask.Held → ⊥
not_held_if true q held = absurd (cc)
not_held_if false q held = absurd (cc)

not_held_all : (posts : List ℕ) → asked_all posts ≡ ask.Held → ⊥
not_held_all [] held = absurd (cc)
not_held_all (post ∷ posts) held = absurd (cc)

not_held_poll : (c : Call) (post : ℕ) (a : Ask) → a ≡ ask.Hub (request.Collect post) → a ≡ ask.Held → ⊥
not_held_poll c post a hub held = absurd (cc)

held_wait : (c : Completing) (a : Option Awaited) (r : OpenRequest)
    → asked_completing Blocking a (pending_of (Some r)) ≡ ask.Held
    → row_completing Blocking c a (Some r) ≡ AtOnce Holds
held_wait c None r held = absurd (no_pending (pending_of (Some r)) held)
  where
    no_pending : (p : Pending) → asked_pending p ≡ ask.Held → ⊥
    no_pending pending.Nothing held = absurd (cc)
    no_pending pending.FromNull held = absurd (cc)
    no_pending (pending.Message post buffer capacity) held = absurd (cc)
    no_pending (pending.Word post) held = absurd (cc)
held_wait c (Some Nothing) r held = absurd (cc)
held_wait c (Some Unready) r held = refl
held_wait c (Some (Taking link part)) r held = absurd (cc)
held_wait c (Some (Cut link)) r held = absurd (cc)
held_wait c (Some (Box link box)) r held = absurd (cc)

held_call : (site : Site) (hart : ℕ) (part : Part) (c : Call) → waits_on (Go c) ≡ true
    → asked_by site part.memory part.requests part.phases c ≡ ask.Held
    → row_of site hart part.memory part.requests part.phases c ≡ AtOnce Holds
held_call site hart part (call.Wait c) on held = go (request_at part.requests c.handle) held
  where
    go : (o : Option OpenRequest) → asked_completing Blocking (awaited part.phases o) (pending_of o) ≡ ask.Held
        → row_completing Blocking c (awaited part.phases o) o ≡ AtOnce Holds
    go None held = absurd (cc)
    go (Some r) held = held_wait c (awaited part.phases (Some r)) r held
held_call site hart part (call.Probe p) on held = absurd (not_held_if (p.source == no_rank) _ held)
held_call site hart part (call.Mprobe p) on held = absurd (not_held_if (p.source == no_rank) _ held)
held_call site hart part (call.Waitall s) on held =
    absurd (not_held_all (posts_pending (pendings part.requests (handles_in part.memory (array_at s.array s.count)))) held)
held_call site hart part _ on held = absurd (cc)

poll_asks_hub : (c : Call) (post : ℕ) (site : Site) (part : Part)
    → asked_in site part.memory part.requests part.phases (Poll c post) ≡ ask.Held → ⊥
poll_asks_hub (call.Ssend s) post site part held = absurd (cc)
poll_asks_hub _ post site part held = absurd (cc)

-- ---- what is done, by the mode of a hart that waits

-- what holds of a poll, and of a call that is made anew, holds of a patient hart
by_doing : (P : Doing → Type 0) (site : Site) (part : Part) → IsWaiting part.hart.mode
    → waits_on (doing site part) ≡ true
    → ((c : Call) (post : ℕ) → P (Poll c post))
    → ((c : Call) → waits_on (Go c) ≡ true → part.hart.mode ≡ Waiting Again → P (Go c))
    → P (doing site part)
unfolding doing
by_doing P site part waits on poll goes =
    let w = waiting_on part.hart.mode waits in
    subst (λ (m : Mode). P (doing_in m site part)) (sym w.1)
    (by_wait w.0 w.1 (subst (λ (m : Mode). waits_on (doing_in m site part) ≡ true) w.1 on))
  where
    by_check : (o : Option Code) (c : Call) → part.hart.mode ≡ Waiting Again
        → waits_on (go_or_refuse o c) ≡ true → P (go_or_refuse o c)
    by_check None c mode on = goes c on mode
    by_check (Some code) c mode on = absurd (cc)

    by_wait : (wait : Wait) → part.hart.mode ≡ Waiting wait
        → waits_on (doing_in (Waiting wait) site part) ≡ true → P (doing_in (Waiting wait) site part)
    by_wait (Post post) mode on = poll (call_named part.hart) post
    by_wait Again mode on =
        by_check
        (first_fault (checks site part.memory part.requests part.phases _ (needs_of (call_named part.hart))))
        (call_named part.hart) mode on

-- ---- the rank

same_parts : (p q : Part) → p.hart ≡ q.hart → IsPartKept q p → p ≡ q
same_parts p q hart kept =
    (λ i. record {
      hart = hart i;
      memory = kept.memory i;
      requests = kept.requests i;
      phases = kept.phases i;
      out = kept.out i;
    })

same_harts : (rank : Rank) (hart stamp : ℕ) (state : State) → state ≡ (part_of rank hart).hart
    → (let r : Rank = record rank { harts = set rank.harts hart state; clock = stamp } in r) ≡ at_clock rank stamp
same_harts rank hart stamp state same =
    ap (λ (s : State). (let r : Rank = record rank { harts = set rank.harts hart s; clock = stamp } in r)) same
    ∙ ap (λ hs. (let r : Rank = record rank { harts = hs; clock = stamp } in r)) (set-get_or rank.harts hart _)

same_part : (rank : Rank) (hart stamp : ℕ) (part : Part) → part ≡ part_of rank hart
    → with_part rank hart part stamp ≡ at_clock rank stamp
same_part rank hart stamp part same =
    ap (λ (p : Part). with_part rank hart p stamp) same ∙ same_harts rank hart stamp (part_of rank hart).hart refl

not_yet : (rank : Rank) (hart stamp : ℕ) (r : Request) → IsPatient rank hart → asked rank hart ≡ ask.Hub r
    → told rank hart (answer.Reply reply.NotYet) stamp ≡ at_clock rank stamp
unfolding told asked
not_yet rank hart stamp r patient hub =
    let part = part_of rank hart in
    same_part rank hart stamp _
    (same_parts _ part
    (turn_delayed rank hart (doing rank.site part) r hub
    ∙ by_doing (λ (d : Doing). delayed d part.hart ≡ part.hart) rank.site part patient.waits patient.on
    (λ c post. refl)
    (λ c on mode. delayed_call c part.hart on ∙ same_mode part.hart mode))
    (row_kept rank.site _ part
    (turn_waits rank.site hart rank.memory rank.requests rank.phases (doing rank.site part) r hub)))

missed_vainly : (rank : Rank) (hart stamp : ℕ) → IsPatient rank hart → IsLook (asked rank hart)
    → told rank hart answer.Missed stamp ≡ at_clock rank stamp
unfolding asked
missed_vainly rank hart stamp patient look =
    let part = part_of rank hart in
    missed_in_vain rank hart stamp look
    ∙ same_harts rank hart stamp (missed (doing rank.site part) part.hart) (left look)
  where
    left : IsLook (asked rank hart)
        → missed (doing rank.site (part_of rank hart)) (part_of rank hart).hart ≡ (part_of rank hart).hart
    left look =
        let part = part_of rank hart in
        by_doing
        (λ (d : Doing). IsLook (asked_in rank.site rank.memory rank.requests rank.phases d)
        → missed d part.hart ≡ part.hart) rank.site part patient.waits patient.on
        (λ c post look. absurd (no_look_poll c post look))
        (λ c on mode look. missed_call rank.site part c on look ∙ same_mode part.hart mode)
        look

held_vainly : (rank : Rank) (hart stamp : ℕ) → IsPatient rank hart → asked rank hart ≡ ask.Held
    → told rank hart answer.Alone stamp ≡ at_clock rank stamp
unfolding told asked
held_vainly rank hart stamp patient held =
    let part = part_of rank hart in
    same_part rank hart stamp _
    (by_doing
    (λ (d : Doing). asked_in rank.site part.memory part.requests part.phases d ≡ ask.Held
    → told_in rank.site hart d answer.Alone part ≡ part) rank.site part patient.waits patient.on
    (λ c post held. absurd (poll_asks_hub c post rank.site part held))
    (λ c on mode held.
    ap (λ (row : Row). told_row rank.site row answer.Alone part) (held_call rank.site hart part c on held)
    ∙ ap (λ (s : State). (let p : Part = record part { hart = s } in p)) (same_mode part.hart mode))
    held)

stopped_in : (mode : Mode) (site : Site) (part : Part) → IsStopped mode → doing_in mode site part ≡ Stopped
stopped_in (Ended code) site part is = refl
stopped_in (Trapped cause pc) site part is = refl
stopped_in _ site part is = absurd is

stopped_asks : (rank : Rank) (hart : ℕ) → IsStopped (mode_of rank hart) → asked rank hart ≡ ask.Idle
unfolding asked doing
stopped_asks rank hart is =
    ap (asked_in rank.site rank.memory rank.requests rank.phases)
    (stopped_in (mode_of rank hart) rank.site (part_of rank hart) is)

stopped_told : (rank : Rank) (hart stamp : ℕ) (a : Answer) → IsStopped (mode_of rank hart)
    → told rank hart a stamp ≡ at_clock rank stamp
unfolding told doing
stopped_told rank hart stamp a is =
    same_part rank hart stamp _
    (ap (λ (d : Doing). told_in rank.site hart d a (part_of rank hart))
    (stopped_in (mode_of rank hart) rank.site (part_of rank hart) is))

timeless : (rank : Rank) (hart clock : ℕ) → asked (at_clock rank clock) hart ≡ asked rank hart
unfolding asked
timeless rank hart clock = refl

pub vain_law : VainLaw
vain_law = record {
  not_yet = not_yet;
  missed = missed_vainly;
  held = held_vainly;
  stopped = λ rank hart stamp a is. (stopped_asks rank hart is, stopped_told rank hart stamp a is);
  timeless = timeless;
}
