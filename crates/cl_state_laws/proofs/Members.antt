-- What is open stays in communicators of which the rank is a member, and it sends there alone.
use Rattle.std.proofs.Common.{◌≡◌, ◌∙◌, ℕ, zero, suc, refl, subst, sym, Bool, true, false, List, [], ◌∷◌, Option, Some, None, inl, inr}
use Rattle.std.specs.Prelude.{◌⊎◌, get_or, set, replicate, option_map, if◌then◌else◌}
use Rattle.std.specs.Option.{option_and_then}
use Rattle.mp_types.specs.declared.messages.Envelope.{Envelope}
use Rattle.mp_types.specs.declared.messages.Message.{Message}
use Rattle.mp_types.specs.declared.replies.Reply.{Reply}
use Rattle.mp_types.specs.declared.replies.Reply.TheVariants as reply
use Rattle.mp_types.specs.declared.requests.Request.TheVariants as request
use Rattle.mp_request.specs.Entries.{active_with, is_persistent, remainder}
use Rattle.mp_request.specs.declared.entries.OpenRequest.{OpenRequest}
use Rattle.mp_request.specs.declared.entries.Partitions.{Partitions}
use Rattle.mp_request.specs.declared.entries.Progress.{Progress}
use Rattle.mp_request.specs.declared.entries.Progress.TheVariants.{Finished, Sent, OnPost, InPhase}
use Rattle.mp_request.specs.declared.entries.State.TheVariants.{Inactive}
use Rattle.mp_request.specs.declared.entries.Transfer.{Transfer}
use Rattle.mp_request.specs.declared.entries.Transfer.TheVariants as transfer
use Rattle.mp_request.specs.Table.{Table, completed, lowest_free, no_requests, request_at, started, with_request}
use Rattle.part_phase.specs.declared.phases.Phase.{Phase}
use Rattle.cl_calls.specs.Checks.{is_comm}
use Rattle.cl_calls.specs.declared.calls.Call.{Call}
use Rattle.cl_calls.specs.declared.calls.Partitioning.{Partitioning}
use Rattle.cl_calls.specs.declared.sites.Site.{Site}
use Rattle.cl_state.specs.declared.asking.Answer.{Answer}
use Rattle.cl_state.specs.declared.asking.Answer.TheVariants as answer
use Rattle.cl_state.specs.declared.pending.Manner.{Manner}
use Rattle.cl_state.specs.declared.pending.Manner.TheVariants.{Immediate, Blocking, Polling, Posting}
use Rattle.cl_state.specs.declared.pending.Target.{Target}
use Rattle.cl_state.specs.declared.row.Outcome.{Outcome}
use Rattle.cl_state.specs.declared.row.Outcome.TheVariants as outcome
use Rattle.cl_state.specs.declared.row.Purpose.{Purpose}
use Rattle.cl_state.specs.declared.row.Purpose.TheVariants as purpose
use Rattle.cl_state.specs.declared.row.Row.{Row}
use Rattle.cl_state.specs.declared.row.Row.TheVariants.{AtOnce, OnReply, OnBox}
use Rattle.cl_state.specs.declared.row.Visit.{Visit}
use Rattle.cl_state.specs.declared.row.Visit.TheVariants.{Readies, Frees, Takes, Sees}
use Rattle.cl_state.specs.declared.row.Wanted.{Wanted}
use Rattle.cl_state.specs.declared.row.Wanted.TheVariants as wanted
use Rattle.cl_state.specs.Asked.{Part, asked, asked_in, doing, part_of}
use Rattle.cl_state.specs.Table.{begun_outcome, row_in}
use Rattle.cl_state.specs.Told.{arrived, arrived_from, completed_all, cut_known, done, found, found_at, found_nothing, freed, freed_one, gathered_if, made_receiving, made_sending, made_side_at, not_yet, opened_at, part_readied, phase_begun, received, received_from, received_message, replied, seen_one, taken_one, told, told_row, visited}
use Rattle.cl_state.specs.Several.{completed_each}
use Rattle.cl_state.specs.declared.asking.Ask.{Ask}
use Rattle.cl_state.specs.declared.asking.Ask.TheVariants as ask
use Rattle.cl_state.specs.declared.asking.Doing.{Doing}
use Rattle.cl_state.specs.declared.asking.Doing.TheVariants.{Go}
use Rattle.cl_calls.specs.Needs.{needs_of}
use Rattle.cl_state.specs.Rank.{Rank}
use Rattle.cl_state.proofs.Forms.{Forms, IsOf, by_form}
use Rattle.cl_state.proofs.Passed.{HasPassed, passed}
use Rattle.cl_state_laws.specs.Members.{AreInside, IsInside, MembersLaw}

-- ---- the table

-- what a handle may name
abbrev Fits : Site → Option OpenRequest → Type 0
Fits site o = (r : OpenRequest) → o ≡ Some r → IsInside site r.transfer

set_at : (table : Table) (i k : ℕ) (o : Option OpenRequest) (r : OpenRequest) → get_or (set table i o) k None ≡ Some r
    → (o ≡ Some r) ⊎ (get_or table k None ≡ Some r)
set_at [] i k o r h = inr h
set_at (x ∷ table) zero zero o r h = inl h
set_at (x ∷ table) zero (suc k) o r h = inr h
set_at (x ∷ table) (suc i) zero o r h = inr h
set_at (x ∷ table) (suc i) (suc k) o r h = set_at table i k o r h

inside_with : (site : Site) (table : Table) (handle : ℕ) (o : Option OpenRequest) → AreInside site table → Fits site o
    → AreInside site (with_request table handle o)
inside_with site table zero o inside fits handle r there = inside handle r there
inside_with site table (suc i) o inside fits zero r there = absurd (cc)
inside_with site table (suc i) o inside fits (suc k) r there = elim (set_at table i k o r there) [
  | inl new ↦ fits r new
  | inr old ↦ inside (suc k) r old
]

inside_started : (site : Site) (table : Table) (handle : ℕ) (p : Progress) → AreInside site table
    → AreInside site (started table handle p)
inside_started site table handle p inside =
    inside_with site table handle _ inside (go (request_at table handle) (λ r e. inside handle r e))
  where
    go : (o : Option OpenRequest) → Fits site o → Fits site (option_map (active_with p) o)
    go None fits r e = absurd (cc)
    go (Some x) fits r e =
        let same : active_with p x ≡ r = (cc) in
        subst (λ (y : OpenRequest). IsInside site y.transfer) same (fits x refl)

fits_some : (site : Site) (y : OpenRequest) → IsInside site y.transfer → Fits site (Some y)
fits_some site y fits r e =
    (let same : y ≡ r = (cc) in subst (λ (x : OpenRequest). IsInside site x.transfer) same fits)

fits_if : (site : Site) (b : Bool) (y : OpenRequest) → IsInside site y.transfer → Fits site (if b then Some y else None)
fits_if site true y fits r e = fits_some site y fits r e
fits_if site false y fits r e = absurd (cc)

inside_completed : (site : Site) (table : Table) (handle : ℕ) → AreInside site table
    → AreInside site (completed table handle)
inside_completed site table handle inside =
    inside_with site table handle _ inside (go (request_at table handle) (λ r e. inside handle r e))
  where
    go : (o : Option OpenRequest) → Fits site o → Fits site (option_and_then remainder o)
    go None fits r e = absurd (cc)
    go (Some x) fits r e = fits_if site (is_persistent x.state) (record x { state = Inactive }) (fits x refl) r e

inside_each : (site : Site) (handles : List ℕ) (table : Table) → AreInside site table
    → AreInside site (completed_each table handles)
inside_each site [] table inside = inside
inside_each site (h ∷ hs) table inside = inside_each site hs (completed table h) (inside_completed site table h inside)

-- ---- what a turn does

module _ (site : Site) where
  abbrev Keeps : Part → Part → Type 0
  Keeps part q = AreInside site part.requests → AreInside site q.requests

  keeps_not_yet : (m : Manner) (part : Part) → Keeps part (not_yet m part)
  keeps_not_yet Immediate part inside = inside
  keeps_not_yet Blocking part inside = inside
  keeps_not_yet Polling part inside = inside
  keeps_not_yet Posting part inside = inside

  keeps_received : (target : Target) (source tag : ℕ) (bytes : List ℕ) (part : Part)
      → Keeps part (received target source tag bytes part)
  unfolding received
  keeps_received target source tag bytes part inside = inside_completed site part.requests target.handle inside

  keeps_from : (o : Option ℕ) (target : Target) (message : Message) (part : Part)
      → Keeps part (received_from o target message part)
  keeps_from None target message part inside = inside
  keeps_from (Some place) target message part inside =
      keeps_received target place message.envelope.tag message.bytes part inside

  keeps_message : (target : Target) (message : Message) (part : Part)
      → Keeps part (received_message site target message part)
  unfolding received_message
  keeps_message target message part inside = keeps_from _ target message part inside

  keeps_opened : (o : Option ℕ) (r : OpenRequest) (part : Part) → IsInside site r.transfer
      → Keeps part (opened_at o r part)
  keeps_opened None r part fits inside = inside
  keeps_opened (Some handle) r part fits inside =
      inside_with site part.requests handle (Some r) inside (fits_some site r fits)

  keeps_all : (value statuses : ℕ) (handles : List ℕ) (gots : List (Option Message)) (part : Part)
      → Keeps part (completed_all site value statuses handles gots part)
  unfolding completed_all
  keeps_all value statuses handles gots part inside = inside_each site handles part.requests inside

  keeps_if : (b : Bool) (value statuses : ℕ) (handles : List ℕ) (gots : List (Option Message)) (part : Part)
      → Keeps part (gathered_if b site value statuses handles gots part)
  keeps_if true value statuses handles gots part inside = keeps_all value statuses handles gots part inside
  keeps_if false value statuses handles gots part inside = inside

  keeps_freed : (handle : ℕ) (part : Part) → Keeps part (freed handle part)
  unfolding freed
  keeps_freed handle part inside = inside_with site part.requests handle None inside (λ r e. absurd (cc))

  keeps_found_at : (o : Option ℕ) (value status : ℕ) (envelope : Envelope) (part : Part)
      → Keeps part (found_at o value status envelope part)
  keeps_found_at None value status envelope part inside = inside
  keeps_found_at (Some place) value status envelope part inside = inside

  keeps_found : (value status : ℕ) (envelope : Envelope) (part : Part)
      → Keeps part (found site value status envelope part)
  unfolding found
  keeps_found value status envelope part inside = keeps_found_at _ value status envelope part inside

  keeps_nothing : (value status : ℕ) (part : Part) → Keeps part (found_nothing value status part)
  unfolding found_nothing
  keeps_nothing value status part inside = inside

  keeps_arrived_from : (o : Option ℕ) (side : Partitions) (target : Target) (part : Part)
      → Keeps part (arrived_from o side target part)
  keeps_arrived_from None side target part inside = inside
  keeps_arrived_from (Some place) side target part inside = inside_completed site part.requests target.handle inside

  keeps_arrived : (side : Partitions) (target : Target) (part : Part) → Keeps part (arrived site side target part)
  unfolding arrived
  keeps_arrived side target part inside = keeps_arrived_from _ side target part inside

  keeps_begun_phase : (handle link : ℕ) (part : Part) → Keeps part (phase_begun handle link part)
  unfolding phase_begun
  keeps_begun_phase handle link part inside = inside_started site part.requests handle InPhase inside

  -- ---- what is done at once

  -- an outcome that opens a request opens one inside
  abbrev Opens : Outcome → Type 0
  Opens (outcome.Opens r) = IsInside site r.transfer
  Opens _ = Unit {0}

  keeps_done : (o : Outcome) (part : Part) → Opens o → Keeps part (done site o part)
  keeps_done outcome.Steps part fits inside = inside
  keeps_done outcome.Stays part fits inside = inside
  keeps_done (outcome.Exits value) part fits inside = inside
  keeps_done (outcome.Ends c value) part fits inside = inside
  keeps_done (outcome.Waits post) part fits inside = inside
  keeps_done (outcome.Puts buffer count) part fits inside = inside
  keeps_done (outcome.Opens r) part fits inside = keeps_opened (lowest_free part.requests) r part fits inside
  keeps_done (outcome.Starts handle p) part fits inside = inside_started site part.requests handle p inside
  keeps_done (outcome.Frees handle) part fits inside = keeps_freed handle part inside
  keeps_done (outcome.Completes source target) part fits inside = keeps_received target source _ _ part inside
  keeps_done (outcome.FindsNothing value status) part fits inside = keeps_nothing value status part inside
  keeps_done (outcome.BeginsPhase handle link) part fits inside = keeps_begun_phase handle link part inside
  keeps_done outcome.Holds part fits inside = inside
  keeps_done (outcome.Arrives side target) part fits inside = keeps_arrived side target part inside
  keeps_done (outcome.CompletesAll value s) part fits inside = keeps_all value s.statuses _ _ part inside

  opens_begun : (why : Purpose) (t : Transfer) (p : Progress) → IsInside site t → Opens (begun_outcome why t p)
  opens_begun purpose.Send t Finished fits = tt
  opens_begun purpose.Send t (Sent post) fits = tt
  opens_begun purpose.Send t (OnPost post) fits = tt
  opens_begun purpose.Send t InPhase fits = tt
  opens_begun purpose.Open t p fits = fits
  opens_begun (purpose.Start handle) t p fits = tt

  -- ---- what a reply does

  keeps_side : (o : Option ℕ) (t : Transfer) (link : ℕ) (shape : Phase → Phase) (part : Part) → IsInside site t
      → Keeps part (made_side_at o t link shape part)
  keeps_side None t link shape part fits inside = inside
  keeps_side (Some handle) t link shape part fits inside =
      inside_with site part.requests handle (Some _) inside
      (fits_some site (record { transfer = t; state = Inactive }) fits)

  either : (b : Bool) (part x y : Part) → Keeps part x → Keeps part y → Keeps part (if b then x else y)
  either true part x y p q = p
  either false part x y p q = q

  keeps_sending : (t : Partitioning) (link : ℕ) (part : Part) → Keeps part (made_sending site t link part)
  keeps_sending t link part =
      either _ part _ _ (keeps_side (lowest_free part.requests) _ link _ part tt) (λ inside. inside)

  keeps_receiving : (t : Partitioning) (link : ℕ) (part : Part) → Keeps part (made_receiving site t link part)
  keeps_receiving t link part =
      either _ part _ _ (keeps_side (lowest_free part.requests) _ link _ part tt) (λ inside. inside)

  keeps_cut : (m : Manner) (link boxes bytes : ℕ) (part : Part) → Keeps part (cut_known site m link boxes bytes part)
  keeps_cut m link boxes bytes part = either _ part _ _ (keeps_not_yet m _) (λ inside. inside)

  -- what is wanted where a request is opened
  abbrev Wants : Wanted → Type 0
  Wants (wanted.Post why t) = IsInside site t
  Wants _ = Unit {0}

  keeps_replied : (w : Wanted) (r : Reply) (part : Part) → Wants w → Keeps part (replied site w r part)
  keeps_replied (wanted.Post why t) r part fits = go r
    where
      go : (r : Reply) → Keeps part (replied site (wanted.Post why t) r part)
      go (reply.Posted post paired) = keeps_done (begun_outcome why t _) part (opens_begun why t _ fits)
      go _ = λ inside. inside
  keeps_replied (wanted.MessageOrPost target) r part fits = go r
    where
      go : (r : Reply) → Keeps part (replied site (wanted.MessageOrPost target) r part)
      go (reply.Got message) = keeps_message target message part
      go _ = λ inside. inside
  keeps_replied (wanted.Message target) r part fits = go r
    where
      go : (r : Reply) → Keeps part (replied site (wanted.Message target) r part)
      go (reply.Got message) = keeps_message target message part
      go _ = λ inside. inside
  keeps_replied (wanted.Word target) r part fits = go r
    where
      go : (r : Reply) → Keeps part (replied site (wanted.Word target) r part)
      go reply.Done = keeps_received target _ _ _ part
      go _ = λ inside. inside
  keeps_replied wanted.Sent r part fits = go r
    where
      go : (r : Reply) → Keeps part (replied site wanted.Sent r part)
      go reply.Done = λ inside. inside
      go _ = λ inside. inside
  keeps_replied (wanted.All value s) r part fits = go r
    where
      go : (r : Reply) → Keeps part (replied site (wanted.All value s) r part)
      go (reply.AllGot gots) = keeps_if _ value s.statuses _ gots part
      go _ = λ inside. inside
  keeps_replied (wanted.Sight value status) r part fits = go r
    where
      go : (r : Reply) → Keeps part (replied site (wanted.Sight value status) r part)
      go (reply.Seen envelope) = keeps_found value status envelope part
      go _ = λ inside. inside
  keeps_replied (wanted.Claim status) r part fits = go r
    where
      go : (r : Reply) → Keeps part (replied site (wanted.Claim status) r part)
      go (reply.Held message envelope) = keeps_found message status envelope part
      go _ = λ inside. inside
  keeps_replied (wanted.SendingLink t) r part fits = go r
    where
      go : (r : Reply) → Keeps part (replied site (wanted.SendingLink t) r part)
      go (reply.Link link) = keeps_sending t link part
      go _ = λ inside. inside
  keeps_replied (wanted.ReceivingLink t) r part fits = go r
    where
      go : (r : Reply) → Keeps part (replied site (wanted.ReceivingLink t) r part)
      go (reply.Link link) = keeps_receiving t link part
      go _ = λ inside. inside
  keeps_replied (wanted.Cut m link) r part fits = go r
    where
      go : (r : Reply) → Keeps part (replied site (wanted.Cut m link) r part)
      go (reply.Cut boxes bytes) = keeps_cut m link boxes bytes part
      go _ = λ inside. inside
  keeps_replied wanted.Nothing r part fits = go r
    where
      go : (r : Reply) → Keeps part (replied site wanted.Nothing r part)
      go _ = λ inside. inside

  -- ---- what the answer of a box does

  keeps_freed_one : (m : Manner) (link : ℕ) (target : Target) (part : Part) → Keeps part (freed_one m link target part)
  unfolding freed_one
  keeps_freed_one m link target part = either _ part _ _ (keeps_received target _ _ _ _) (keeps_not_yet m _)

  keeps_taken_one : (m : Manner) (side : Partitions) (box : ℕ) (target : Target) (bytes : List ℕ) (part : Part)
      → Keeps part (taken_one site m side box target bytes part)
  unfolding taken_one
  keeps_taken_one m side box target bytes part = either _ part _ _ (keeps_not_yet m _) (keeps_arrived side target _)

  keeps_seen_one : (side : Partitions) (box asked : ℕ) (bytes : List ℕ) (part : Part)
      → Keeps part (seen_one side box asked bytes part)
  unfolding seen_one
  keeps_seen_one side box asked bytes part inside = inside

  keeps_readied : (link ready : ℕ) (part : Part) → Keeps part (part_readied link ready part)
  unfolding part_readied
  keeps_readied link ready part inside = inside

  keeps_visited : (v : Visit) (a : Answer) (part : Part) → Keeps part (visited site v a part)
  keeps_visited (Readies link ready) a part = go a
    where
      go : (a : Answer) → Keeps part (visited site (Readies link ready) a part)
      go answer.Alone = keeps_readied link ready part
      go _ = λ inside. inside
  keeps_visited (Frees m link target) a part = go a
    where
      go : (a : Answer) → Keeps part (visited site (Frees m link target) a part)
      go answer.Freed = keeps_freed_one m link target part
      go answer.Missed = keeps_not_yet m part
      go _ = λ inside. inside
  keeps_visited (Takes m side box target) a part = go a
    where
      go : (a : Answer) → Keeps part (visited site (Takes m side box target) a part)
      go (answer.Taken bytes) = keeps_taken_one m side box target bytes part
      go answer.Missed = keeps_not_yet m part
      go _ = λ inside. inside
  keeps_visited (Sees side box asked) a part = go a
    where
      go : (a : Answer) → Keeps part (visited site (Sees side box asked) a part)
      go (answer.Taken bytes) = keeps_seen_one side box asked bytes part
      go answer.Missed = keeps_not_yet Immediate part
      go _ = λ inside. inside

  -- ---- the row of a turn

  abbrev pub RowFits : Row → Type 0
  RowFits (AtOnce o) = Opens o
  RowFits (OnReply m w) = Wants w
  RowFits (OnBox v) = Unit {0}

  keeps_reply : (m : Manner) (w : Wanted) (r : Reply) (part : Part) → Wants w
      → Keeps part (told_row site (OnReply m w) (answer.Reply r) part)
  keeps_reply m w reply.NotYet part fits = keeps_not_yet m part
  keeps_reply m w (reply.Code c) part fits = λ inside. inside
  keeps_reply m w (reply.Posted post paired) part fits = keeps_replied w (reply.Posted post paired) part fits
  keeps_reply m w (reply.Got message) part fits = keeps_replied w (reply.Got message) part fits
  keeps_reply m w reply.Done part fits = keeps_replied w reply.Done part fits
  keeps_reply m w (reply.Seen envelope) part fits = keeps_replied w (reply.Seen envelope) part fits
  keeps_reply m w (reply.Held message envelope) part fits = keeps_replied w (reply.Held message envelope) part fits
  keeps_reply m w (reply.AllGot gots) part fits = keeps_replied w (reply.AllGot gots) part fits
  keeps_reply m w (reply.Link link) part fits = keeps_replied w (reply.Link link) part fits
  keeps_reply m w (reply.Cut boxes bytes) part fits = keeps_replied w (reply.Cut boxes bytes) part fits

  pub keeps_row : (row : Row) (a : Answer) (part : Part) → RowFits row → Keeps part (told_row site row a part)
  keeps_row (AtOnce o) a part fits = keeps_done o part fits
  keeps_row (OnReply m w) (answer.Reply r) part fits = keeps_reply m w r part fits
  keeps_row (OnReply m w) answer.Alone part fits = λ inside. inside
  keeps_row (OnReply m w) (answer.Taken bytes) part fits = λ inside. inside
  keeps_row (OnReply m w) answer.Missed part fits = λ inside. inside
  keeps_row (OnReply m w) answer.Freed part fits = λ inside. inside
  keeps_row (OnBox v) a part fits = keeps_visited v a part

  -- ---- what a turn opens, wants and asks

  -- a send that is asked for is inside
  abbrev pub AsksInside : Ask → Type 0
  AsksInside (ask.Hub (request.Send sync comm dest tag bytes)) = is_comm site (Some comm) ≡ true
  AsksInside _ = Unit {0}

  module _ (part : Part) (inside : AreInside site part.requests) where
    -- the check of the communicator, of a call that goes on
    member_of : (c : Call) (comm : ℕ) → (needs_of c).comm ≡ Some comm → HasPassed site part (Go c)
        → is_comm site (Some comm) ≡ true
    member_of c comm of passed = subst (λ o. is_comm site o ≡ true) of (((passed.1).1).1).1.0

    opens_inside : (c : Call) (t : Transfer) → IsOf part.requests c purpose.Open t → HasPassed site part (Go c)
        → IsInside site t
    opens_inside c (transfer.Send sync buffer count dest tag comm) of passed = member_of c comm of passed
    opens_inside c _ of passed = tt

    sends_inside : (c : Call) (why : Purpose) (sync : Bool) (buffer count dest tag comm : ℕ)
        → IsOf part.requests c why (transfer.Send sync buffer count dest tag comm) → HasPassed site part (Go c)
        → is_comm site (Some comm) ≡ true
    sends_inside c purpose.Send sync buffer count dest tag comm of passed = member_of c comm of passed
    sends_inside c purpose.Open sync buffer count dest tag comm of passed = member_of c comm of passed
    sends_inside c (purpose.Start handle) sync buffer count dest tag comm of passed =
        subst (λ (t : Transfer). IsInside site t) of.2 (inside handle of.0 of.1)

    fits : (hart : ℕ)
        → Forms site hart part.memory part.requests part.phases
        (λ started d asks row. HasPassed site part d → RowFits row × AsksInside asks)
    fits hart = record {
      steps = λ passed. (tt, tt);
      refused = λ c passed. (tt, tt);
      stopped = λ passed. (tt, tt);
      polls_message = λ c post target passed. (tt, tt);
      polls_send = λ c post passed. (tt, tt);
      polls_other = λ c post passed. (tt, tt);
      stays = λ passed. (tt, tt);
      exits = λ value passed. (tt, tt);
      puts = λ buffer count passed. (tt, tt);
      ends = λ c end value passed. (tt, tt);
      completes = λ c source target passed. (tt, tt);
      completes_all = λ c value s of passed. (tt, tt);
      finds_nothing = λ c value status passed. (tt, tt);
      arrives = λ c side target passed. (tt, tt);
      holds = λ c passed. (tt, tt);
      makes = λ c t of none passed. (opens_inside c t of passed, tt);
      opens = λ c t of none passed. (opens_inside c t of passed, tt);
      starts = λ handle passed. (tt, tt);
      begins = λ handle link passed. (tt, tt);
      frees = λ handle passed. (tt, tt);
      sends = λ c why sync buffer count dest tag comm is of passed.
          (let its = sends_inside c why sync buffer count dest tag comm of passed in (its, its));
      receives = λ c why now buffer capacity source tag comm is passed. (tt, tt);
      receives_claimed = λ c buffer capacity message passed. (tt, tt);
      starts_claimed = λ handle buffer capacity passed. (tt, tt);
      comes = λ c comm source tag target passed. (tt, tt);
      comes_claimed = λ c message target passed. (tt, tt);
      links_sending = λ t passed. (tt, tt);
      links_receiving = λ t passed. (tt, tt);
      collects = λ c m post target passed. (tt, tt);
      finishes = λ c m post target passed. (tt, tt);
      gathers = λ c m value s post posts of passed. (tt, tt);
      sees = λ c m comm source tag value status passed. (tt, tt);
      claims = λ c m comm source tag status passed. (tt, tt);
      cuts = λ c m link going unknown passed. (tt, tt);
      readies = λ handle ready side is passed. (tt, tt);
      frees_part = λ c m link free target going next ready passed. (tt, tt);
      takes = λ c m side box target going next passed. (tt, tt);
      looks = λ c side box asked going next passed. (tt, tt);
    }

turn_fits : (site : Site) (hart : ℕ) (part : Part) (d : Doing) → HasPassed site part d → AreInside site part.requests
    → RowFits site (row_in site hart part.memory part.requests part.phases d)
    × AsksInside site (asked_in site part.memory part.requests part.phases d)
turn_fits site hart part d passed inside =
    by_form site hart part.memory part.requests part.phases _ (fits site part inside hart) d passed

kept_inside : (rank : Rank) (hart stamp : ℕ) (a : Answer) → AreInside rank.site rank.requests
    → AreInside rank.site (told rank hart a stamp).requests
unfolding told
kept_inside rank hart stamp a inside =
    let part = part_of rank hart in
    keeps_row rank.site _ a part
    (turn_fits rank.site hart part (doing rank.site part) (passed rank.site part) inside).0 inside

asks_inside : (rank : Rank) (hart comm dest tag : ℕ) (sync : Bool) (bytes : List ℕ)
    → AreInside rank.site rank.requests → asked rank hart ≡ ask.Hub (request.Send sync comm dest tag bytes)
    → is_comm rank.site (Some comm) ≡ true
unfolding asked
asks_inside rank hart comm dest tag sync bytes inside asks =
    let part = part_of rank hart in
    subst (λ (a : Ask). AsksInside rank.site a) asks
    (turn_fits rank.site hart part (doing rank.site part) (passed rank.site part) inside).1

none_open : (site : Site) → AreInside site no_requests
none_open site zero r there = absurd (cc)
none_open site (suc k) r there = absurd (let no = sym (all_none 255 k) ∙ there in cc)
  where
    all_none : (n k : ℕ) → get_or (replicate n (let o : Option OpenRequest = None in o)) k None ≡ None
    all_none zero k = refl
    all_none (suc n) zero = refl
    all_none (suc n) (suc k) = all_none n k

pub members_law : MembersLaw
members_law = record { first = none_open; kept = kept_inside; sends = asks_inside }
