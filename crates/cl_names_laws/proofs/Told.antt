-- What a turn leaves of a rank, by other names of posts.
use Rattle.std.proofs.Common.{◌≡◌, ◌∙◌, ℕ, suc, refl, sym, ap, Bool, true, false, List, [], ◌∷◌, length, map, Option, Some, None}
use Rattle.std.specs.Prelude.{◌==◌, ◌&&◌, if◌then◌else◌}
use Rattle.std.specs.List.{list_all, slice_get}
use Rattle.std.proofs.lemmas.List.{map-set}
use Rattle.rv_memory.specs.Memory.{Memory}
use Rattle.rv_hart.specs.State.{State, in_mode}
use Rattle.rv_hart.specs.Stepped.{stepped}
use Rattle.rv_hart.specs.declared.state.Mode.TheVariants.{Waiting}
use Rattle.rv_hart.specs.declared.state.Wait.TheVariants.{Post}
use Rattle.mp_types.specs.declared.codes.Code.{Code}
use Rattle.mp_types.specs.declared.codes.Code.TheVariants as code
use Rattle.mp_types.specs.declared.messages.Envelope.{Envelope}
use Rattle.mp_types.specs.declared.messages.Message.{Message}
use Rattle.mp_types.specs.declared.replies.Reply.{Reply}
use Rattle.mp_types.specs.declared.replies.Reply.TheVariants as reply
use Rattle.mp_request.specs.declared.entries.OpenRequest.{OpenRequest}
use Rattle.mp_request.specs.declared.entries.Partitions.{Partitions}
use Rattle.mp_request.specs.declared.entries.Progress.TheVariants as progress
use Rattle.mp_request.specs.declared.entries.State.TheVariants as state
use Rattle.mp_request.specs.declared.entries.Transfer.{Transfer}
use Rattle.mp_request.specs.declared.entries.Transfer.TheVariants as transfer
use Rattle.mp_request.specs.Table.{Table, completed, lowest_free, with_request}
use Rattle.part_phase.specs.declared.phases.Phase.{Phase}
use Rattle.part_phase.specs.Phases.{changed_at, is_unshaped_receiving, is_unshaped_sending, on_receiving, on_sending, receiving_at, sending_at}
use Rattle.part_phase.specs.Receiving.{cut_into, is_cut}
use Rattle.part_phase.specs.Sending.{all_freed, one_freed}
use Rattle.cl_calls.specs.declared.calls.Partitioning.{Partitioning}
use Rattle.cl_calls.specs.declared.sites.Site.{Site}
use Rattle.cl_calls.specs.Site.{members, position_of}
use Rattle.cl_calls.specs.Calls.{any}
use Rattle.cl_calls.specs.Handles.{handles_in}
use Rattle.cl_calls.specs.Needs.{array_at}
use Rattle.cl_state.specs.declared.asking.Answer.{Answer}
use Rattle.cl_state.specs.declared.asking.Answer.TheVariants as answer
use Rattle.cl_state.specs.declared.pending.Manner.{Manner}
use Rattle.cl_state.specs.declared.pending.Manner.TheVariants.{Immediate, Blocking, Posting, Polling}
use Rattle.cl_state.specs.declared.pending.Pending.{Pending}
use Rattle.cl_state.specs.declared.pending.Pending.TheVariants as pending
use Rattle.cl_state.specs.declared.pending.Target.{Target}
use Rattle.cl_state.specs.declared.row.Outcome.{Outcome}
use Rattle.cl_state.specs.declared.row.Outcome.TheVariants as outcome
use Rattle.cl_state.specs.declared.row.Purpose.{Purpose}
use Rattle.cl_state.specs.declared.row.Row.{Row}
use Rattle.cl_state.specs.declared.row.Row.TheVariants.{AtOnce, OnReply, OnBox}
use Rattle.cl_state.specs.declared.row.Visit.{Visit}
use Rattle.cl_state.specs.declared.row.Visit.TheVariants as visit
use Rattle.cl_state.specs.declared.row.Wanted.{Wanted}
use Rattle.cl_state.specs.declared.row.Wanted.TheVariants as wanted
use Rattle.cl_state.specs.Asked.{Part, doing, part_of}
use Rattle.cl_state.specs.Rank.{Rank}
use Rattle.cl_state.specs.Several.{are_fit, code_of, completed_each, dealt, fits_one, given, given_one, got_for_post, left_of, pendings, post_of, posts_pending, with_all_bytes, with_statuses}
use Rattle.cl_state.specs.Table.{begun_outcome, row_in}
use Rattle.cl_state.specs.Told.{arrived, arrived_from, completed_all, cut_known, done, ended, found, found_at, found_nothing, freed, freed_one, gathered, gathered_if, made_receiving, made_sending, made_side_at, not_yet, opened, opened_at, part_readied, phase_begun, received, received_from, received_message, replied, returned, seen_one, taken_one, told, told_in, told_row, visited, with_part, with_taken_box}
use Rattle.cl_state.specs.Transfers.{posted}
use Rattle.mp_alike_laws.specs.Renaming.{Renaming, number_by}
use Rattle.cl_names_laws.specs.Named.{IsSameNamed, hart_by, open_with, progress_with, rank_by, rank_with, table_with}
use Rattle.cl_names_laws.specs.Laws.{NamesLaw}
use Rattle.cl_names_laws.proofs.Asks.{asks, doing_named, part_by, part_named, pending_by, pendings_named, posts_by}
use Rattle.cl_names_laws.proofs.Rows.{IsFixed, IsFixedRow, begun_fixed, row_fixed, row_named}
use Rattle.cl_names_laws.proofs.Steps.{stepped_named}
use Rattle.cl_names_laws.proofs.Tables.{completed_named, free_named, started_named, with_named}

-- the part with these
abbrev part_with : State → Memory → Table → List Phase → List ℕ → Part
part_with hart memory requests phases out =
    record { hart = hart; memory = memory; requests = requests; phases = phases; out = out }

-- what a turn of the hart does
abbrev pub row_at : Rank → ℕ → Row
row_at rank hart =
    row_in rank.site hart rank.memory rank.requests rank.phases (doing rank.site (part_of rank hart))

module _ (names : Renaming) (sends : ℕ → ℕ) where
  -- the same by other names
  abbrev Named : (Part → Part) → Part → Type 0
  Named f part = f (part_by names sends part) ≡ part_by names sends (f part)

  returned_by : (c : Code) (v : ℕ) (hart : State) → returned c v (hart_by names hart) ≡ hart_by names (returned c v hart)
  unfolding returned
  returned_by c v hart = refl

  ended_by : (c : Code) (v : ℕ) (part : Part) → Named (ended c v) part
  ended_by c v part =
      ap (λ h. part_with h part.memory (table_with names sends part.requests) part.phases part.out) (returned_by c v part.hart)

  -- a call ends with other requests
  ends_with : (c : Code) (v : ℕ) (hart : State) (memory : Memory) (t u : Table) (phases : List Phase) (out : List ℕ)
      → t ≡ table_with names sends u
      → ended c v (part_with (hart_by names hart) memory t phases out)
      ≡ part_by names sends (ended c v (part_with hart memory u phases out))
  ends_with c v hart memory t u phases out same =
      ap (λ x. ended c v (part_with (hart_by names hart) memory x phases out)) same
      ∙ ended_by c v (part_with hart memory u phases out)

  if_by : (b : Bool) (x y z w : Part) → x ≡ part_by names sends z → y ≡ part_by names sends w
      → (if b then x else y) ≡ part_by names sends (if b then z else w)
  if_by true x y z w e f = e
  if_by false x y z w e f = f

  not_yet_by : (m : Manner) (part : Part) → Named (not_yet m) part
  not_yet_by Immediate part = ended_by code.Ok 0 part
  not_yet_by Blocking part = refl
  not_yet_by Polling part = refl
  not_yet_by Posting part = ended_by code.BadRequest 0 part

  -- ---- messages

  received_by : (target : Target) (source tag : ℕ) (bytes : List ℕ) (part : Part)
      → Named (received target source tag bytes) part
  unfolding received
  received_by target source tag bytes part =
      ends_with _ target.value part.hart _ _ _ part.phases part.out (completed_named names sends part.requests target.handle)

  from_by : (o : Option ℕ) (target : Target) (message : Message) (part : Part)
      → Named (received_from o target message) part
  from_by None target message part = ended_by code.BadRequest 0 part
  from_by (Some place) target message part = received_by target place message.envelope.tag message.bytes part

  message_by : (site : Site) (target : Target) (message : Message) (part : Part)
      → Named (received_message site target message) part
  unfolding received_message
  message_by site target message part =
      from_by (position_of message.envelope.source (members site message.envelope.comm)) target message part

  opened_by : (r : OpenRequest) (part : Part) → open_with names sends r ≡ r → Named (opened r) part
  opened_by r part same =
      ap (λ o. opened_at o r (part_by names sends part)) (free_named names sends part.requests) ∙ go (lowest_free part.requests)
    where
      go : (o : Option ℕ) → Named (opened_at o r) part
      go None = ended_by code.Full 0 part
      go (Some handle) =
          ends_with code.Ok handle part.hart part.memory _ _ part.phases part.out
          (ap (λ x. with_request (table_with names sends part.requests) handle (Some x)) (sym same)
          ∙ with_named names sends part.requests handle (Some r))

  freed_by : (handle : ℕ) (part : Part) → Named (freed handle) part
  unfolding freed
  freed_by handle part =
      ends_with code.Ok 0 part.hart part.memory _ _ part.phases part.out (with_named names sends part.requests handle None)

  -- ---- several requests

  one_given : (site : Site) (p : Pending) (got : Option Message) → given_one site (pending_by names p) got ≡ given_one site p got
  one_given site pending.Nothing got = refl
  one_given site pending.FromNull got = refl
  one_given site (pending.Message post buffer capacity) None = refl
  one_given site (pending.Message post buffer capacity) (Some message) = refl
  one_given site (pending.Word post) got = refl

  one_fits : (site : Site) (p : Pending) (got : Option Message) → fits_one site (pending_by names p) got ≡ fits_one site p got
  one_fits site pending.Nothing got = refl
  one_fits site pending.FromNull got = refl
  one_fits site (pending.Message post buffer capacity) None = refl
  one_fits site (pending.Message post buffer capacity) (Some message) = refl
  one_fits site (pending.Word post) None = refl
  one_fits site (pending.Word post) (Some message) = refl

  got_same : (p : Pending) (gots : List (Option Message))
      → got_for_post (post_of (pending_by names p)) gots ≡ got_for_post (post_of p) gots
  got_same pending.Nothing gots = refl
  got_same pending.FromNull gots = refl
  got_same (pending.Message post buffer capacity) [] = refl
  got_same (pending.Message post buffer capacity) (g ∷ gots) = refl
  got_same (pending.Word post) [] = refl
  got_same (pending.Word post) (g ∷ gots) = refl

  left_same : (p : Pending) (gots : List (Option Message))
      → left_of (post_of (pending_by names p)) gots ≡ left_of (post_of p) gots
  left_same pending.Nothing gots = refl
  left_same pending.FromNull gots = refl
  left_same (pending.Message post buffer capacity) [] = refl
  left_same (pending.Message post buffer capacity) (g ∷ gots) = refl
  left_same (pending.Word post) [] = refl
  left_same (pending.Word post) (g ∷ gots) = refl

  given_by : (site : Site) (ps : List Pending) (gots : List (Option Message))
      → given site (map (pending_by names) ps) gots ≡ given site ps gots
  given_by site [] gots = refl
  given_by site (p ∷ ps) gots =
      ap (λ x. given_one site (pending_by names p) x
      ∷ given site (map (pending_by names) ps) (left_of (post_of (pending_by names p)) gots)) (got_same p gots)
      ∙ ap (λ x. given_one site (pending_by names p) (got_for_post (post_of p) gots)
      ∷ given site (map (pending_by names) ps) x) (left_same p gots)
      ∙ ap (λ x. x ∷ given site (map (pending_by names) ps) (left_of (post_of p) gots))
      (one_given site p (got_for_post (post_of p) gots))
      ∙ ap (λ xs. given_one site p (got_for_post (post_of p) gots) ∷ xs) (given_by site ps (left_of (post_of p) gots))

  fit_each : (site : Site) (ps : List Pending) (gots : List (Option Message))
      → list_all (λ d. fits_one site d.0 d.1) (dealt (map (pending_by names) ps) gots)
      ≡ list_all (λ d. fits_one site d.0 d.1) (dealt ps gots)
  fit_each site [] gots = refl
  fit_each site (p ∷ ps) gots =
      ap (λ x. fits_one site (pending_by names p) x
      && list_all (λ d. fits_one site d.0 d.1)
      (dealt (map (pending_by names) ps) (left_of (post_of (pending_by names p)) gots))) (got_same p gots)
      ∙ ap (λ x. fits_one site (pending_by names p) (got_for_post (post_of p) gots)
      && list_all (λ d. fits_one site d.0 d.1) (dealt (map (pending_by names) ps) x)) (left_same p gots)
      ∙ ap (λ x. x && list_all (λ d. fits_one site d.0 d.1) (dealt (map (pending_by names) ps) (left_of (post_of p) gots)))
      (one_fits site p (got_for_post (post_of p) gots))
      ∙ ap (λ x. fits_one site p (got_for_post (post_of p) gots) && x) (fit_each site ps (left_of (post_of p) gots))

  map_length : (xs : List ℕ) → length (map (number_by names) xs) ≡ length xs
  map_length [] = refl
  map_length (x ∷ xs) = ap suc (map_length xs)

  fit_by : (site : Site) (ps : List Pending) (gots : List (Option Message))
      → are_fit site (map (pending_by names) ps) gots ≡ are_fit site ps gots
  fit_by site ps gots =
      ap (λ n. (length gots == n) && list_all (λ d. fits_one site d.0 d.1) (dealt (map (pending_by names) ps) gots))
      (ap length (posts_by names sends ps) ∙ map_length (posts_pending ps))
      ∙ ap (λ x. (length gots == length (posts_pending ps)) && x) (fit_each site ps gots)

  each_by : (table : Table) (handles : List ℕ)
      → completed_each (table_with names sends table) handles ≡ table_with names sends (completed_each table handles)
  each_by table [] = refl
  each_by table (h ∷ handles) =
      ap (λ t. completed_each t handles) (completed_named names sends table h) ∙ each_by (completed table h) handles

  all_by : (site : Site) (value statuses : ℕ) (handles : List ℕ) (gots : List (Option Message)) (part : Part)
      → Named (completed_all site value statuses handles gots) part
  unfolding completed_all
  all_by site value statuses handles gots part =
      ap (λ gs. ended (code_of gs) value
      (part_with (hart_by names part.hart) (with_statuses (with_all_bytes part.memory gs) statuses gs)
      (completed_each (table_with names sends part.requests) handles) part.phases part.out))
      (ap (λ ps. given site ps gots) (pendings_named names sends part.requests handles)
      ∙ given_by site (pendings part.requests handles) gots)
      ∙ ends_with _ value part.hart _ _ _ part.phases part.out (each_by part.requests handles)

  gathered_by : (site : Site) (value statuses : ℕ) (handles : List ℕ) (gots : List (Option Message)) (part : Part)
      → Named (gathered site value statuses handles gots) part
  gathered_by site value statuses handles gots part =
      ap (λ b. gathered_if b site value statuses handles gots (part_by names sends part))
      (ap (λ ps. are_fit site ps gots) (pendings_named names sends part.requests handles)
      ∙ fit_by site (pendings part.requests handles) gots)
      ∙ go (are_fit site (pendings part.requests handles) gots)
    where
      go : (b : Bool) → Named (gathered_if b site value statuses handles gots) part
      go true = all_by site value statuses handles gots part
      go false = ended_by code.BadRequest 0 part

  -- ---- probes

  found_at_by : (o : Option ℕ) (value status : ℕ) (envelope : Envelope) (part : Part)
      → Named (found_at o value status envelope) part
  found_at_by None value status envelope part = ended_by code.BadRequest 0 part
  found_at_by (Some place) value status envelope part =
      ends_with code.Ok value part.hart _ _ _ part.phases part.out refl

  found_by : (site : Site) (value status : ℕ) (envelope : Envelope) (part : Part)
      → Named (found site value status envelope) part
  unfolding found
  found_by site value status envelope part =
      found_at_by (position_of envelope.source (members site envelope.comm)) value status envelope part

  nothing_by : (value status : ℕ) (part : Part) → Named (found_nothing value status) part
  unfolding found_nothing
  nothing_by value status part = ends_with code.Ok value part.hart _ _ _ part.phases part.out refl

  -- ---- partitions

  side_by : (o : Option ℕ) (t : Transfer) (link : ℕ) (shape : Phase → Phase) (part : Part)
      → Named (made_side_at o t link shape) part
  side_by None t link shape part = ended_by code.Full 0 part
  side_by (Some handle) t link shape part =
      ends_with code.Ok handle part.hart part.memory _ _ _ part.out
      (with_named names sends part.requests handle (Some (record { transfer = t; state = state.Inactive })))

  side_free : (t : Transfer) (link : ℕ) (shape : Phase → Phase) (part : Part)
      → made_side_at (lowest_free (table_with names sends part.requests)) t link shape (part_by names sends part)
      ≡ part_by names sends (made_side_at (lowest_free part.requests) t link shape part)
  side_free t link shape part =
      ap (λ o. made_side_at o t link shape (part_by names sends part)) (free_named names sends part.requests)
      ∙ side_by (lowest_free part.requests) t link shape part

  sending_by : (site : Site) (t : Partitioning) (link : ℕ) (part : Part) → Named (made_sending site t link) part
  sending_by site t link part =
      if_by (is_unshaped_sending (slice_get part.phases link)) _ _ _ _ (side_free _ link _ part)
      (ended_by code.BadRequest 0 part)

  receiving_by : (site : Site) (t : Partitioning) (link : ℕ) (part : Part) → Named (made_receiving site t link) part
  receiving_by site t link part =
      if_by (is_unshaped_receiving (slice_get part.phases link)) _ _ _ _ (side_free _ link _ part)
      (ended_by code.BadRequest 0 part)

  cut_by : (site : Site) (m : Manner) (link boxes bytes : ℕ) (part : Part) → Named (cut_known site m link boxes bytes) part
  cut_by site m link boxes bytes part =
      if_by (is_cut site.version (receiving_at part.phases link) boxes bytes) _ _ _ _
      (not_yet_by m (part_with part.hart part.memory part.requests
      (changed_at link (on_receiving (cut_into boxes bytes)) part.phases) part.out))
      (ended_by code.BadRequest 0 part)

  begun_by : (handle link : ℕ) (part : Part) → Named (phase_begun handle link) part
  unfolding phase_begun
  begun_by handle link part =
      ends_with code.Ok 0 part.hart part.memory _ _ _ part.out
      (started_named names sends part.requests handle progress.InPhase refl)

  readied_by : (link ready : ℕ) (part : Part) → Named (part_readied link ready) part
  unfolding part_readied
  readied_by link ready part = ends_with code.Ok 0 part.hart part.memory _ _ _ part.out refl

  arrived_from_by : (o : Option ℕ) (side : Partitions) (target : Target) (part : Part)
      → Named (arrived_from o side target) part
  arrived_from_by None side target part = ended_by code.BadRequest 0 part
  arrived_from_by (Some place) side target part =
      ends_with code.Ok target.value part.hart _ _ _ part.phases part.out
      (completed_named names sends part.requests target.handle)

  arrived_by : (site : Site) (side : Partitions) (target : Target) (part : Part) → Named (arrived site side target) part
  unfolding arrived
  arrived_by site side target part =
      arrived_from_by (position_of side.peer (members site side.comm)) side target part

  freed_one_by : (m : Manner) (link : ℕ) (target : Target) (part : Part) → Named (freed_one m link target) part
  unfolding freed_one
  freed_one_by m link target part =
      let after = part_with part.hart part.memory part.requests (changed_at link (on_sending one_freed) part.phases) part.out in
      if_by (all_freed (sending_at after.phases link)) _ _ _ _ (received_by target any any [] after) (not_yet_by m after)

  taken_one_by : (site : Site) (m : Manner) (side : Partitions) (box : ℕ) (target : Target) (bytes : List ℕ) (part : Part)
      → Named (taken_one site m side box target bytes) part
  unfolding taken_one
  taken_one_by site m side box target bytes part =
      let after = with_taken_box side box bytes part in
      if_by (receiving_at after.phases side.link).active _ _ _ _ (not_yet_by m after) (arrived_by site side target after)

  seen_one_by : (side : Partitions) (box asked : ℕ) (bytes : List ℕ) (part : Part)
      → Named (seen_one side box asked bytes) part
  unfolding seen_one
  seen_one_by side box asked bytes part = ended_by code.Ok _ (with_taken_box side box bytes part)

  -- ---- a turn

  steps_by : (part : Part)
      → (let after = stepped (hart_by names part.hart) part.memory in
      part_with after.state after.memory (table_with names sends part.requests) part.phases part.out)
      ≡ (let after = stepped part.hart part.memory in
      part_with (hart_by names after.state) after.memory (table_with names sends part.requests) part.phases part.out)
  steps_by part =
      ap (λ a. part_with a.state a.memory (table_with names sends part.requests) part.phases part.out)
      (stepped_named names part.hart part.memory)

  done_by : (site : Site) (o : Outcome) (part : Part) → IsFixed names sends o → Named (done site o) part
  done_by site outcome.Steps part fixed = steps_by part
  done_by site outcome.Stays part fixed = refl
  done_by site (outcome.Exits value) part fixed = refl
  done_by site (outcome.Ends c value) part fixed = ended_by c value part
  done_by site (outcome.Waits post) part fixed =
      ap (λ n. part_with (in_mode part.hart (Waiting (Post n))) part.memory (table_with names sends part.requests) part.phases part.out)
      (sym fixed)
  done_by site (outcome.Puts buffer count) part fixed = ends_with code.Ok 0 part.hart part.memory _ _ part.phases _ refl
  done_by site (outcome.Opens r) part fixed = opened_by r part fixed
  done_by site (outcome.Starts handle p) part fixed =
      ends_with code.Ok 0 part.hart part.memory _ _ part.phases part.out (started_named names sends part.requests handle p fixed)
  done_by site (outcome.Frees handle) part fixed = freed_by handle part
  done_by site (outcome.Completes source target) part fixed = received_by target source any [] part
  done_by site (outcome.FindsNothing value status) part fixed = nothing_by value status part
  done_by site (outcome.BeginsPhase handle link) part fixed = begun_by handle link part
  done_by site outcome.Holds part fixed = refl
  done_by site (outcome.Arrives side target) part fixed = arrived_by site side target part
  done_by site (outcome.CompletesAll value s) part fixed =
      all_by site value s.statuses (handles_in part.memory (array_at s.array s.count)) [] part

  -- the post that is told of has the same number, by the map for what it is the post of
  abbrev pub IsSamePost : Wanted → Reply → Type 0
  IsSamePost (wanted.Post why (transfer.Send false buffer count dest tag comm)) (reply.Posted post paired) = sends post ≡ post
  IsSamePost (wanted.Post why t) (reply.Posted post paired) = number_by names post ≡ post
  IsSamePost (wanted.MessageOrPost target) (reply.Posted post paired) = number_by names post ≡ post
  IsSamePost _ _ = Unit {0}

  abbrev pub IsSameAt : Row → Answer → Type 0
  IsSameAt (OnReply m w) (answer.Reply r) = IsSamePost w r
  IsSameAt _ _ = Unit {0}

  posted_fixed : (why : Purpose) (t : Transfer) (post : ℕ) (paired : Bool)
      → IsSamePost (wanted.Post why t) (reply.Posted post paired)
      → progress_with names sends (posted t post paired) ≡ posted t post paired
  posted_fixed why (transfer.Send true buffer count dest tag comm) post true same = refl
  posted_fixed why (transfer.Send true buffer count dest tag comm) post false same = ap (λ n. progress.OnPost n) same
  posted_fixed why (transfer.Send false buffer count dest tag comm) post paired same = ap (λ n. progress.Sent n) same
  posted_fixed why transfer.SendToNull post paired same = ap (λ n. progress.OnPost n) same
  posted_fixed why transfer.ReceiveFromNull post paired same = ap (λ n. progress.OnPost n) same
  posted_fixed why (transfer.Receive buffer capacity source tag comm) post paired same = ap (λ n. progress.OnPost n) same
  posted_fixed why (transfer.ReceiveClaimed buffer capacity) post paired same = ap (λ n. progress.OnPost n) same
  posted_fixed why (transfer.SendPartitions side) post paired same = ap (λ n. progress.OnPost n) same
  posted_fixed why (transfer.ReceivePartitions side) post paired same = ap (λ n. progress.OnPost n) same

  replied_by : (site : Site) (w : Wanted) (r : Reply) (part : Part) → IsSamePost w r → Named (replied site w r) part
  replied_by site (wanted.Post why t) (reply.Posted post paired) part same =
      done_by site (begun_outcome why t (posted t post paired)) part
      (begun_fixed names sends why t (posted t post paired) (posted_fixed why t post paired same))
  replied_by site (wanted.MessageOrPost target) (reply.Posted post paired) part same =
      done_by site (outcome.Waits post) part same
  replied_by site (wanted.MessageOrPost target) (reply.Got message) part same = message_by site target message part
  replied_by site (wanted.Message target) (reply.Got message) part same = message_by site target message part
  replied_by site (wanted.Word target) reply.Done part same = received_by target any any [] part
  replied_by site wanted.Sent reply.Done part same = ended_by code.Ok 0 part
  replied_by site (wanted.All value s) (reply.AllGot gots) part same =
      gathered_by site value s.statuses (handles_in part.memory (array_at s.array s.count)) gots part
  replied_by site (wanted.Sight value status) (reply.Seen envelope) part same = found_by site value status envelope part
  replied_by site (wanted.Claim status) (reply.Held message envelope) part same =
      found_by site message status envelope part
  replied_by site (wanted.SendingLink t) (reply.Link link) part same = sending_by site t link part
  replied_by site (wanted.ReceivingLink t) (reply.Link link) part same = receiving_by site t link part
  replied_by site (wanted.Cut m link) (reply.Cut boxes bytes) part same = cut_by site m link boxes bytes part
  replied_by site _ _ part same = ended_by code.BadRequest 0 part

  visited_by : (site : Site) (v : Visit) (a : Answer) (part : Part) → Named (visited site v a) part
  visited_by site (visit.Readies link ready) answer.Alone part = readied_by link ready part
  visited_by site (visit.Frees m link target) answer.Freed part = freed_one_by m link target part
  visited_by site (visit.Frees m link target) answer.Missed part = not_yet_by m part
  visited_by site (visit.Takes m side box target) (answer.Taken bytes) part =
      taken_one_by site m side box target bytes part
  visited_by site (visit.Takes m side box target) answer.Missed part = not_yet_by m part
  visited_by site (visit.Sees side box asked) (answer.Taken bytes) part = seen_one_by side box asked bytes part
  visited_by site (visit.Sees side box asked) answer.Missed part = not_yet_by Immediate part
  visited_by site _ _ part = ended_by code.BadRequest 0 part

  row_by : (site : Site) (row : Row) (a : Answer) (part : Part) → IsFixedRow names sends row → IsSameAt row a
      → Named (told_row site row a) part
  row_by site (AtOnce o) a part fixed same = done_by site o part fixed
  row_by site (OnReply m w) (answer.Reply reply.NotYet) part fixed same = not_yet_by m part
  row_by site (OnReply m w) (answer.Reply (reply.Code c)) part fixed same = ended_by c 0 part
  row_by site (OnReply m w) (answer.Reply r) part fixed same = replied_by site w r part same
  row_by site (OnReply m w) _ part fixed same = ended_by code.BadRequest 0 part
  row_by site (OnBox v) a part fixed same = visited_by site v a part

  told_in_by : (site : Site) (hart : ℕ) (a : Answer) (part : Part)
      → IsSameAt (row_in site hart part.memory part.requests part.phases (doing site part)) a
      → told_in site hart (doing site (part_by names sends part)) a (part_by names sends part)
      ≡ part_by names sends (told_in site hart (doing site part) a part)
  told_in_by site hart a part same =
      ap (λ d. told_in site hart d a (part_by names sends part)) (doing_named names sends site part)
      ∙ ap (λ row. told_row site row a (part_by names sends part))
      (row_named names sends site hart part.memory part.requests part.phases (doing site part))
      ∙ row_by site (row_in site hart part.memory part.requests part.phases (doing site part)) a part
      (row_fixed names sends site hart part.memory part.requests part.phases (doing site part)) same

  with_by : (rank : Rank) (hart : ℕ) (part : Part) (stamp : ℕ)
      → with_part (rank_with names sends rank) hart (part_by names sends part) stamp ≡ rank_with names sends (with_part rank hart part stamp)
  with_by rank hart part stamp =
      ap (λ hs. record (rank_with names sends rank) {
        memory = part.memory;
        harts = hs;
        requests = table_with names sends part.requests;
        phases = part.phases;
        out = part.out;
        clock = stamp;
      }) (sym (map-set (hart_by names) rank.harts hart part.hart))

  pub tells_at : (rank : Rank) (hart : ℕ) (a : Answer) (stamp : ℕ) → IsSameAt (row_at rank hart) a
      → told (rank_with names sends rank) hart a stamp ≡ rank_with names sends (told rank hart a stamp)
  unfolding told
  tells_at rank hart a stamp same =
      ap (λ p. with_part (rank_with names sends rank) hart (told_in rank.site hart (doing rank.site p) a p) stamp)
      (part_named names sends rank hart)
      ∙ ap (λ p. with_part (rank_with names sends rank) hart p stamp) (told_in_by rank.site hart a (part_of rank hart) same)
      ∙ with_by rank hart (told_in rank.site hart (doing rank.site (part_of rank hart)) a (part_of rank hart)) stamp

-- ---- by one renaming

module _ (names : Renaming) where
  same_post : (w : Wanted) (r : Reply) → IsSameNamed names (answer.Reply r) → IsSamePost names (number_by names) w r
  same_post (wanted.Post why (transfer.Send false buffer count dest tag comm)) (reply.Posted post paired) same = same
  same_post (wanted.Post why t) (reply.Posted post paired) same = same
  same_post (wanted.MessageOrPost target) (reply.Posted post paired) same = same
  same_post _ _ same = tt

  same_at : (row : Row) (a : Answer) → IsSameNamed names a → IsSameAt names (number_by names) row a
  same_at (OnReply m w) (answer.Reply r) same = same_post w r same
  same_at _ _ same = tt

  tells : (rank : Rank) (hart : ℕ) (a : Answer) (stamp : ℕ) → IsSameNamed names a
      → told (rank_by names rank) hart a stamp ≡ rank_by names (told rank hart a stamp)
  tells rank hart a stamp same =
      tells_at names (number_by names) rank hart a stamp (same_at (row_at rank hart) a same)

pub names_law : NamesLaw
names_law = record { asks = λ names. asks names (number_by names); tells = tells }
