-- A hart that makes its call anew, and one that makes it for the first time.
use Rattle.std.proofs.Common.{◌≡◌, ◌∙◌, ℕ, zero, suc, refl, sym, ap, ◌⊎◌, inl, inr, Bool, true, false, List, [], ◌∷◌, Option, Some, None}
use Rattle.std.specs.Prelude.{◌==◌, slice_get, ◌%◌, if◌then◌else◌, get_or, map, set}
use Rattle.std.proofs.lemmas.List.{map-set, set-get_or}
use Rattle.std.proofs.Math.ListN.{get_or-map as maps}
use Rattle.rv_decode.specs.Decoded.{decoded}
use Rattle.rv_decode.specs.declared.instruction.Instr.{Instr}
use Rattle.rv_decode.specs.declared.instruction.Instr.TheVariants.{Upper, Jal, Jalr, Branch, Load, Store, Imm, Shift, Arith, Fence, Ecall, Ebreak}
use Rattle.rv_decode.specs.declared.instruction.LoadOp.{LoadOp}
use Rattle.rv_memory.specs.Memory.{Memory}
use Rattle.rv_memory.specs.Access.{load_trap, size_of, word_at}
use Rattle.rv_memory.specs.declared.fault.Cause.{Cause}
use Rattle.rv_memory.specs.declared.fault.Cause.TheVariants.{IllegalInstruction, InstructionAccess, InstructionMisaligned}
use Rattle.rv_hart.specs.declared.state.Did.TheVariants.{Plain}
use Rattle.rv_hart.specs.State.{State, in_mode, read}
use Rattle.rv_hart.specs.Results.{is_taken, load_width}
use Rattle.rv_hart.specs.Effect.{After, after, after_branch, after_load, after_store, gives, jumps, offset, trapped}
use Rattle.rv_hart.specs.Stepped.{after_decoded, after_fetched, stepped}
use Rattle.rv_hart.specs.declared.state.Mode.{Mode}
use Rattle.rv_hart.specs.declared.state.Mode.TheVariants.{Running, Waiting, Ended, Trapped}
use Rattle.rv_hart.specs.declared.state.Wait.TheVariants.{Post, Again}
use Rattle.mp_types.specs.declared.codes.Code.{Code}
use Rattle.mp_types.specs.declared.codes.Code.TheVariants as code
use Rattle.mp_types.specs.declared.messages.Message.{Message}
use Rattle.mp_types.specs.declared.messages.Envelope.{Envelope}
use Rattle.mp_types.specs.declared.replies.Reply.{Reply}
use Rattle.mp_types.specs.declared.replies.Reply.TheVariants as reply
use Rattle.mp_request.specs.declared.entries.OpenRequest.{OpenRequest}
use Rattle.mp_request.specs.declared.entries.Partitions.{Partitions}
use Rattle.mp_request.specs.declared.entries.Progress.{Progress}
use Rattle.mp_request.specs.declared.entries.Progress.TheVariants as progress
use Rattle.mp_request.specs.declared.entries.Transfer.{Transfer}
use Rattle.mp_request.specs.Table.{lowest_free}
use Rattle.part_phase.specs.declared.phases.Phase.{Phase}
use Rattle.part_phase.specs.Phases.{changed_at, on_sending, receiving_at, sending_at, is_unshaped_receiving, is_unshaped_sending}
use Rattle.part_phase.specs.Receiving.{is_cut}
use Rattle.part_phase.specs.Sending.{all_freed, one_freed}
use Rattle.cl_calls.specs.declared.calls.Partitioning.{Partitioning}
use Rattle.cl_calls.specs.declared.sites.Site.{Site}
use Rattle.cl_calls.specs.Site.{members, position_of}
use Rattle.cl_calls.specs.Calls.{any}
use Rattle.cl_calls.specs.Handles.{handles_in}
use Rattle.cl_calls.specs.Needs.{array_at}
use Rattle.cl_state.specs.declared.asking.Answer.{Answer}
use Rattle.cl_state.specs.declared.asking.Answer.TheVariants as answer
use Rattle.cl_state.specs.declared.asking.Ask.TheVariants as ask
use Rattle.cl_state.specs.declared.asking.Doing.{Doing}
use Rattle.cl_calls.specs.declared.calls.Call.{Call}
use Rattle.cl_calls.specs.declared.calls.Call.TheVariants as call
use Rattle.mp_types.specs.declared.requests.Request.{Request}
use Rattle.cl_state.specs.declared.asking.Doing.TheVariants.{Step, Refused, Go, Poll, Stopped}
use Rattle.cl_calls.specs.Calls.{call_named}
use Rattle.cl_state.specs.declared.pending.Manner.{Manner}
use Rattle.cl_state.specs.declared.pending.Manner.TheVariants.{Immediate, Blocking, Posting, Polling}
use Rattle.cl_state.specs.declared.pending.Target.{Target}
use Rattle.cl_state.specs.declared.row.Outcome.{Outcome}
use Rattle.cl_state.specs.declared.row.Outcome.TheVariants as outcome
use Rattle.cl_state.specs.declared.row.Purpose.{Purpose}
use Rattle.cl_state.specs.declared.row.Purpose.TheVariants as purpose
use Rattle.cl_state.specs.declared.row.Row.{Row}
use Rattle.cl_state.specs.declared.row.Row.TheVariants.{AtOnce, OnReply, OnBox}
use Rattle.cl_state.specs.declared.row.Visit.{Visit}
use Rattle.cl_state.specs.declared.row.Visit.TheVariants as visit
use Rattle.cl_state.specs.declared.row.Wanted.{Wanted}
use Rattle.cl_state.specs.declared.row.Wanted.TheVariants as wanted
use Rattle.cl_state.specs.Asked.{Part, asked, asked_in, checked, doing, doing_in, go_or_refuse, is_ecall, no_hart, part_of}
use Rattle.cl_state.specs.Rank.{Rank}
use Rattle.cl_state.specs.Table.{begun_outcome, polled, row_in}
use Rattle.cl_state.specs.Transfers.{posted}
use Rattle.cl_state.specs.Told.{arrived, arrived_from, completed_all, cut_known, done, ended, found, found_at, found_nothing, freed, freed_one, gathered_if, made_receiving, made_sending, made_side_at, not_yet, opened_at, part_readied, phase_begun, received, received_from, received_message, replied, returned, seen_one, taken_one, told, told_in, told_row, visited, with_part, with_taken_box}
use Rattle.cl_state_laws.specs.Leaves.{IsNoStep, delayed}
use Rattle.cl_state_laws.specs.Vain.{waits_on}
use Rattle.cl_state_laws.proofs.Delays.{turn_delayed}
use Rattle.cl_state_laws.proofs.Replies.{row_kept, turn_waits}
use Rattle.cl_state_laws.proofs.Leaves.{IsNoStepRow, turn_no_step}
use Rattle.cl_state_laws.specs.VainLaws.{at_clock}
use Rattle.cl_state_laws.specs.Awake.{HasNoBytes, StandsAtCall, awake, awake_hart, woken}
use Rattle.cl_state_laws.specs.WakeLaws.{WakeLaw}

-- ---- a part of a rank, awake

abbrev awake_part : Part → Part
awake_part p = record p { hart = awake_hart p.hart }

twice : (m : Mode) → woken (woken m) ≡ woken m
twice Running = refl
twice (Waiting Again) = refl
twice (Waiting (Post post)) = refl
twice (Ended value) = refl
twice (Trapped cause pc) = refl

-- what a turn leaves of a part that is awake, and of the part itself: the same, awake; and where the hart is to make its
-- call anew, it stands where it stood, over the memory that was there
record Left (told : Type 0) (p other new : Part) : Type 0 where
  same : awake_part other ≡ awake_part new
  still : told → new.hart.mode ≡ Waiting Again → (new.memory ≡ p.memory) × (new.hart.pc ≡ p.hart.pc)

abbrev Leaves : Type 0 → (Part → Part) → Part → Type 0
Leaves told f p = Left told p (f (awake_part p)) (f p)

module _ (told : Type 0) where
  -- the hart runs on
  runs : (p other new : Part) → awake_part other ≡ awake_part new → new.hart.mode ≡ Running → Left told p other new
  runs p other new same mode = record { same = same; still = λ h again. absurd (apart (sym mode ∙ again)) }
    where
      apart : Running ≡ Waiting Again → ⊥
      apart e = absurd (cc)

  left_if : (b : Bool) (p x y z w : Part) → Left told p x z → Left told p y w
      → Left told p (if b then x else y) (if b then z else w)
  left_if true p x y z w e f = e
  left_if false p x y z w e f = f

  ended_left : (c : Code) (value : ℕ) (p : Part) → Leaves told (ended c value) p
  unfolding returned
  ended_left c value p = runs p _ _ refl refl

  not_yet_left : (m : Manner) (p new : Part) → new.memory ≡ p.memory → new.hart ≡ p.hart
      → Left told p (not_yet m (awake_part new)) (not_yet m new)
  unfolding returned
  not_yet_left Immediate p new memory hart = runs p _ _ refl refl
  not_yet_left Blocking p new memory hart =
      record { same = refl; still = λ h again. (memory, ap (λ (s : State). s.pc) hart) }
  not_yet_left Polling p new memory hart = record {
    same = ap (λ m. (let q : Part = record new { hart = in_mode new.hart m } in q)) (twice new.hart.mode);
    still = λ h again. (memory, ap (λ (s : State). s.pc) hart);
  }
  not_yet_left Posting p new memory hart = runs p _ _ refl refl

  received_left : (target : Target) (source tag : ℕ) (bytes : List ℕ) (p new : Part)
      → Left told p (received target source tag bytes (awake_part new)) (received target source tag bytes new)
  unfolding received returned
  received_left target source tag bytes p new = runs p _ _ refl refl

  from_left : (o : Option ℕ) (target : Target) (message : Message) (p : Part)
      → Leaves told (received_from o target message) p
  from_left None target message p = ended_left code.BadRequest 0 p
  from_left (Some place) target message p = received_left target place message.envelope.tag message.bytes p p

  message_left : (site : Site) (target : Target) (message : Message) (p : Part)
      → Leaves told (received_message site target message) p
  unfolding received_message
  message_left site target message p =
      from_left (position_of message.envelope.source (members site message.envelope.comm)) target message p

  opened_left : (o : Option ℕ) (r : OpenRequest) (p : Part) → Leaves told (opened_at o r) p
  unfolding returned
  opened_left None r p = ended_left code.Full 0 p
  opened_left (Some handle) r p = runs p _ _ refl refl

  found_left : (o : Option ℕ) (value status : ℕ) (envelope : Envelope) (p : Part)
      → Leaves told (found_at o value status envelope) p
  unfolding returned
  found_left None value status envelope p = ended_left code.BadRequest 0 p
  found_left (Some place) value status envelope p = runs p _ _ refl refl

  sight_left : (site : Site) (value status : ℕ) (envelope : Envelope) (p : Part)
      → Leaves told (found site value status envelope) p
  unfolding found
  sight_left site value status envelope p =
      found_left (position_of envelope.source (members site envelope.comm)) value status envelope p

  all_left : (site : Site) (value statuses : ℕ) (handles : List ℕ) (gots : List (Option Message)) (p : Part)
      → Leaves told (completed_all site value statuses handles gots) p
  unfolding completed_all returned
  all_left site value statuses handles gots p = runs p _ _ refl refl

  gathered_left : (b : Bool) (site : Site) (value statuses : ℕ) (handles : List ℕ) (gots : List (Option Message)) (p : Part)
      → Leaves told (gathered_if b site value statuses handles gots) p
  gathered_left true site value statuses handles gots p = all_left site value statuses handles gots p
  gathered_left false site value statuses handles gots p = ended_left code.BadRequest 0 p

  -- ---- partitions

  side_left : (o : Option ℕ) (t : Transfer) (link : ℕ) (shape : Phase → Phase) (p : Part)
      → Leaves told (made_side_at o t link shape) p
  unfolding returned
  side_left None t link shape p = ended_left code.Full 0 p
  side_left (Some handle) t link shape p = runs p _ _ refl refl

  sending_left : (site : Site) (t : Partitioning) (link : ℕ) (p : Part) → Leaves told (made_sending site t link) p
  sending_left site t link p =
      left_if (is_unshaped_sending (slice_get p.phases link)) p _ _ _ _ (side_left (lowest_free p.requests) _ link _ p)
      (ended_left code.BadRequest 0 p)

  receiving_left : (site : Site) (t : Partitioning) (link : ℕ) (p : Part) → Leaves told (made_receiving site t link) p
  receiving_left site t link p =
      left_if (is_unshaped_receiving (slice_get p.phases link)) p _ _ _ _ (side_left (lowest_free p.requests) _ link _ p)
      (ended_left code.BadRequest 0 p)

  cut_left : (site : Site) (m : Manner) (link boxes bytes : ℕ) (p : Part) → Leaves told (cut_known site m link boxes bytes) p
  cut_left site m link boxes bytes p =
      left_if (is_cut site.version (receiving_at p.phases link) boxes bytes) p _ _ _ _ (not_yet_left m p _ refl refl)
      (ended_left code.BadRequest 0 p)

  begun_left : (handle link : ℕ) (p : Part) → Leaves told (phase_begun handle link) p
  unfolding phase_begun returned
  begun_left handle link p = runs p _ _ refl refl

  readied_left : (link ready : ℕ) (p : Part) → Leaves told (part_readied link ready) p
  unfolding part_readied returned
  readied_left link ready p = runs p _ _ refl refl

  arrived_from_left : (o : Option ℕ) (side : Partitions) (target : Target) (p new : Part)
      → Left told p (arrived_from o side target (awake_part new)) (arrived_from o side target new)
  unfolding returned
  arrived_from_left None side target p new = runs p _ _ refl refl
  arrived_from_left (Some place) side target p new = runs p _ _ refl refl

  arrived_left : (site : Site) (side : Partitions) (target : Target) (p new : Part)
      → Left told p (arrived site side target (awake_part new)) (arrived site side target new)
  unfolding arrived
  arrived_left site side target p new =
      arrived_from_left (position_of side.peer (members site side.comm)) side target p new

  freed_left : (m : Manner) (link : ℕ) (target : Target) (p : Part) → Leaves told (freed_one m link target) p
  unfolding freed_one
  freed_left m link target p =
      left_if (all_freed (sending_at (changed_at link (on_sending one_freed) p.phases) link)) p _ _ _ _
      (received_left target any any [] p (record p { phases = changed_at link (on_sending one_freed) p.phases }))
      (not_yet_left m p (record p { phases = changed_at link (on_sending one_freed) p.phases }) refl refl)

  seen_left : (side : Partitions) (box asked : ℕ) (bytes : List ℕ) (p : Part) → Leaves told (seen_one side box asked bytes) p
  unfolding seen_one returned
  seen_left side box asked bytes p = runs p _ _ refl refl

-- bytes that come of a partition are written, so nothing is said of the memory
took : (m : Manner) (new : Part) → awake_part (not_yet m (awake_part new)) ≡ awake_part (not_yet m new)
took m new = (not_yet_left ⊥ m new new refl refl).same

taken_left : (site : Site) (m : Manner) (side : Partitions) (box : ℕ) (target : Target) (bytes : List ℕ) (p : Part)
    → Leaves ⊥ (taken_one site m side box target bytes) p
unfolding taken_one
taken_left site m side box target bytes p =
    let after = with_taken_box side box bytes p in
    left_if ⊥ (receiving_at after.phases side.link).active p _ _ _ _
    (record { same = took m after; still = λ h again. absurd h })
    (arrived_left ⊥ site side target p after)

-- ---- an instruction

-- what an instruction leaves of a hart that is awake, and of the hart itself; it makes no call
record Steps (s : State) (other new : After) : Type 0 where
  state : awake_hart other.state ≡ awake_hart new.state
  memory : other.memory ≡ new.memory
  mode : new.state.mode ≡ Waiting Again → s.mode ≡ Waiting Again

abbrev StepsSo : (State → After) → State → Type 0
StepsSo f s = Steps s (f (awake_hart s)) (f s)

goes_on : (s other new : State) (m : Memory) → awake_hart other ≡ awake_hart new → new.mode ≡ s.mode
    → Steps s (record { did = Plain; state = other; memory = m }) (record { did = Plain; state = new; memory = m })
goes_on s other new m same mode = record { state = same; memory = refl; mode = λ again. sym mode ∙ again }

twice_at : (regs : List ℕ) (pc : ℕ) (m : Mode)
    → (let s : State = record { regs = regs; pc = pc; mode = woken (woken m) } in s)
    ≡ (let s : State = record { regs = regs; pc = pc; mode = woken m } in s)
twice_at regs pc m = ap (λ k. (let s : State = record { regs = regs; pc = pc; mode = k } in s)) (twice m)

traps : (cause : Cause) (s : State) (m : Memory) → StepsSo (λ t. trapped cause t m) s
traps cause s m = record { state = refl; memory = refl; mode = λ again. absurd (cc) }

step_if : (b : Bool) (s : State) (x y z w : After) → Steps s x z → Steps s y w
    → Steps s (if b then x else y) (if b then z else w)
step_if true s x y z w e f = e
step_if false s x y z w e f = f

gives_so : (d value : ℕ) (s : State) (m : Memory) → StepsSo (λ t. gives d value t m) s
unfolding gives
gives_so d value s m = goes_on s _ _ m (twice_at _ _ s.mode) refl

jumps_so : (d target : ℕ) (s : State) (m : Memory) → StepsSo (λ t. jumps d target t m) s
unfolding jumps
jumps_so d target s m = step_if (target % 4 == 0) s _ _ _ _ (goes_on s _ _ m (twice_at _ _ s.mode) refl) (traps InstructionMisaligned s m)

branch_so : (target : ℕ) (s : State) (m : Memory) → StepsSo (λ t. after_branch target t m) s
unfolding after_branch
branch_so target s m = step_if (target % 4 == 0) s _ _ _ _ (goes_on s _ _ m (twice_at _ _ s.mode) refl) (traps InstructionMisaligned s m)

load_so : (o : Option Cause) (op : LoadOp) (d address : ℕ) (s : State) (m : Memory)
    → StepsSo (λ t. after_load o op d address t m) s
load_so None op d address s m = gives_so d _ s m
load_so (Some cause) op d address s m = traps cause s m

store_so : (o : Option Cause) (new : Memory) (s : State) (m : Memory) → StepsSo (λ t. after_store o new t m) s
store_so None new s m = goes_on s _ _ new (twice_at _ _ s.mode) refl
store_so (Some cause) new s m = traps cause s m

after_so : (i : Instr) (s : State) (m : Memory) → StepsSo (λ t. after i t m) s
after_so (Upper op d imm) s m = gives_so d _ s m
after_so (Jal d off) s m = jumps_so d _ s m
after_so (Jalr d r off) s m = jumps_so d _ s m
after_so (Branch op r t off) s m =
    step_if (is_taken op (read s r) (read s t)) s _ _ _ _ (branch_so (offset s.pc off) s m)
    (goes_on s _ _ m (twice_at _ _ s.mode) refl)
after_so (Load op d r off) s m =
    load_so (load_trap m (offset (read s r) off) (size_of (load_width op))) op d (offset (read s r) off) s m
after_so (Store op r t off) s m = store_so _ _ s m
after_so (Imm op d r imm) s m = gives_so d _ s m
after_so (Shift op d r amount) s m = gives_so d _ s m
after_so (Arith op d r t) s m = gives_so d _ s m
after_so Fence s m = goes_on s _ _ m (twice_at _ _ s.mode) refl
after_so Ecall s m = record { state = twice_at _ _ s.mode; memory = refl; mode = λ again. again }
after_so Ebreak s m = record { state = refl; memory = refl; mode = λ again. absurd (cc) }

decoded_so : (o : Option Instr) (s : State) (m : Memory) → StepsSo (λ t. after_decoded o t m) s
decoded_so None s m = traps IllegalInstruction s m
decoded_so (Some i) s m = after_so i s m

fetched_so : (o : Option ℕ) (s : State) (m : Memory) → StepsSo (λ t. after_fetched o t m) s
fetched_so None s m = traps InstructionAccess s m
fetched_so (Some word) s m = decoded_so (decoded word) s m

stepped_so : (s : State) (m : Memory) → StepsSo (λ t. stepped t m) s
unfolding stepped
stepped_so s m = fetched_so (word_at m s.pc) s m

-- ---- a turn, by its row

steps_left : (told : Type 0) (site : Site) (p : Part) → (p.hart.mode ≡ Waiting Again → ⊥) → Leaves told (done site outcome.Steps) p
steps_left told site p calls =
    let so = stepped_so p.hart p.memory in
    record {
      same = (λ i. record {
        hart = so.state i;
        memory = so.memory i;
        requests = p.requests;
        phases = p.phases;
        out = p.out;
      });
      still = λ h again. absurd (calls (so.mode again));
    }

module _ (told : Type 0) (site : Site) (p : Part) where
  kept_left : Left told p (awake_part p) p
  kept_left = record {
    same = ap (λ m. (let q : Part = record p { hart = in_mode p.hart m } in q)) (twice p.hart.mode);
    still = λ h again. (refl, refl);
  }

  begun_outcome_left : (why : Purpose) (t : Transfer) (pr : Progress) → Leaves told (done site (begun_outcome why t pr)) p
  unfolding returned
  begun_outcome_left purpose.Send t progress.Finished = ended_left told code.Ok 0 p
  begun_outcome_left purpose.Send t (progress.Sent post) = ended_left told code.Ok 0 p
  begun_outcome_left purpose.Send t (progress.OnPost post) = record { same = refl; still = λ h again. absurd (cc) }
  begun_outcome_left purpose.Send t progress.InPhase = ended_left told code.BadRequest 0 p
  begun_outcome_left purpose.Open t pr = opened_left told (lowest_free p.requests) _ p
  begun_outcome_left (purpose.Start handle) t pr = runs told p _ _ refl refl

  done_left : (o : Outcome) → IsNoStepRow (AtOnce o) → Leaves told (done site o) p
  unfolding returned freed found_nothing
  done_left outcome.Steps call = absurd call
  done_left outcome.Stays call = kept_left
  done_left (outcome.Exits value) call = record { same = refl; still = λ h again. absurd (cc) }
  done_left (outcome.Ends c value) call = ended_left told c value p
  done_left (outcome.Waits post) call = record { same = refl; still = λ h again. absurd (cc) }
  done_left (outcome.Puts buffer count) call = runs told p _ _ refl refl
  done_left (outcome.Opens r) call = opened_left told (lowest_free p.requests) r p
  done_left (outcome.Starts handle pr) call = runs told p _ _ refl refl
  done_left (outcome.Frees handle) call = runs told p _ _ refl refl
  done_left (outcome.Completes source target) call = received_left told target source any [] p p
  done_left (outcome.FindsNothing value status) call = runs told p _ _ refl refl
  done_left (outcome.BeginsPhase handle link) call = begun_left told handle link p
  done_left outcome.Holds call = record { same = refl; still = λ h again. (refl, refl) }
  done_left (outcome.Arrives side target) call = arrived_left told site side target p p
  done_left (outcome.CompletesAll value s) call =
      all_left told site value s.statuses (handles_in p.memory (array_at s.array s.count)) [] p

  replied_left : (w : Wanted) (r : Reply) → Leaves told (replied site w r) p
  replied_left (wanted.Post why t) (reply.Posted post paired) = begun_outcome_left why t (posted t post paired)
  replied_left (wanted.MessageOrPost target) (reply.Posted post paired) = record { same = refl; still = λ h again. absurd (cc) }
  replied_left (wanted.MessageOrPost target) (reply.Got message) = message_left told site target message p
  replied_left (wanted.Message target) (reply.Got message) = message_left told site target message p
  replied_left (wanted.Word target) reply.Done = received_left told target any any [] p p
  replied_left wanted.Sent reply.Done = ended_left told code.Ok 0 p
  replied_left (wanted.All value s) (reply.AllGot gots) =
      gathered_left told _ site value s.statuses (handles_in p.memory (array_at s.array s.count)) gots p
  replied_left (wanted.Sight value status) (reply.Seen envelope) = sight_left told site value status envelope p
  replied_left (wanted.Claim status) (reply.Held message envelope) = sight_left told site message status envelope p
  replied_left (wanted.SendingLink t) (reply.Link link) = sending_left told site t link p
  replied_left (wanted.ReceivingLink t) (reply.Link link) = receiving_left told site t link p
  replied_left (wanted.Cut m link) (reply.Cut boxes bytes) = cut_left told site m link boxes bytes p
  replied_left _ _ = ended_left told code.BadRequest 0 p

visited_left : (site : Site) (v : Visit) (a : Answer) (p : Part) → Leaves (HasNoBytes a) (visited site v a) p
visited_left site (visit.Readies link ready) answer.Alone p = readied_left (HasNoBytes answer.Alone) link ready p
visited_left site (visit.Frees m link target) answer.Freed p = freed_left (HasNoBytes answer.Freed) m link target p
visited_left site (visit.Frees m link target) answer.Missed p = not_yet_left (HasNoBytes answer.Missed) m p p refl refl
visited_left site (visit.Takes m side box target) (answer.Taken bytes) p = taken_left site m side box target bytes p
visited_left site (visit.Takes m side box target) answer.Missed p = not_yet_left (HasNoBytes answer.Missed) m p p refl refl
visited_left site (visit.Sees side box asked) (answer.Taken bytes) p = seen_left (HasNoBytes (answer.Taken bytes)) side box asked bytes p
visited_left site (visit.Sees side box asked) answer.Missed p = not_yet_left (HasNoBytes answer.Missed) Immediate p p refl refl
visited_left site _ a p = ended_left (HasNoBytes a) code.BadRequest 0 p

row_left : (site : Site) (row : Row) (a : Answer) (p : Part) → IsNoStepRow row → Leaves (HasNoBytes a) (told_row site row a) p
row_left site (AtOnce o) a p call = done_left (HasNoBytes a) site p o call
row_left site (OnReply m w) (answer.Reply reply.NotYet) p call = not_yet_left (Unit {0}) m p p refl refl
row_left site (OnReply m w) (answer.Reply (reply.Code c)) p call = ended_left (Unit {0}) c 0 p
row_left site (OnReply m w) (answer.Reply r) p call = replied_left (Unit {0}) site p w r
row_left site (OnReply m w) a p call = ended_left (HasNoBytes a) code.BadRequest 0 p
row_left site (OnBox v) a p call = visited_left site v a p

-- ---- a turn of a hart

-- a hart that makes its call anew does no instruction
calls_anew : (site : Site) (p : Part) → p.hart.mode ≡ Waiting Again → doing site p ≡ Step → ⊥
unfolding doing
calls_anew site p again steps = go _ (ap (λ m. doing_in m site p) (sym again) ∙ steps)
  where
    go : (o : Option Code) → go_or_refuse o (call_named p.hart) ≡ Step → ⊥
    go None e = absurd (cc)
    go (Some c) e = absurd (cc)

called_left : (site : Site) (hart : ℕ) (a : Answer) (p : Part) (d : Doing) → IsNoStep d
    → Leaves (HasNoBytes a) (told_row site (row_in site hart p.memory p.requests p.phases d) a) p
called_left site hart a p d call =
    row_left site (row_in site hart p.memory p.requests p.phases d) a p
    (turn_no_step site hart p.memory p.requests p.phases d call)

turn_left : (site : Site) (hart : ℕ) (a : Answer) (p : Part) (d : Doing) → doing site p ≡ d
    → Leaves (HasNoBytes a) (told_row site (row_in site hart p.memory p.requests p.phases d) a) p
turn_left site hart a p Step is = steps_left (HasNoBytes a) site p (λ again. calls_anew site p again is)
turn_left site hart a p (Refused c) is = called_left site hart a p (Refused c) tt
turn_left site hart a p (Go c) is = called_left site hart a p (Go c) tt
turn_left site hart a p (Poll c post) is = called_left site hart a p (Poll c post) tt
turn_left site hart a p Stopped is = called_left site hart a p Stopped tt

-- at its call it does the same, awake
doing_awake : (site : Site) (p : Part) → (p.hart.mode ≡ Waiting Again → is_ecall (word_at p.memory p.hart.pc) ≡ true)
    → doing site (awake_part p) ≡ doing site p
unfolding doing
doing_awake site p at = go p.hart.mode at
  where
    go : (m : Mode) → (m ≡ Waiting Again → is_ecall (word_at p.memory p.hart.pc) ≡ true)
        → doing_in (woken m) site (awake_part p) ≡ doing_in m site p
    go Running at = refl
    go (Waiting Again) at =
        ap (λ (b : Bool). if b then checked site (awake_part p) else Step) (at refl)
    go (Waiting (Post post)) at = refl
    go (Ended value) at = refl
    go (Trapped cause pc) at = refl

-- ---- the rank

get_or_map : {A : Type 0} (f : A → A) (xs : List A) (i : ℕ) (d : A) → f d ≡ d → get_or (map f xs) i d ≡ f (get_or xs i d)
get_or_map f xs i d same = ap (get_or (map f xs) i) (sym same) ∙ maps f xs i d

pub part_awake : (rank : Rank) (hart : ℕ) → part_of (awake rank) hart ≡ awake_part (part_of rank hart)
part_awake rank hart = (λ k. record {
  hart = get_or_map awake_hart rank.harts hart no_hart refl k;
  memory = rank.memory;
  requests = rank.requests;
  phases = rank.phases;
  out = rank.out;
})

pub does_awake : (rank : Rank) (hart : ℕ) → StandsAtCall rank hart
    → doing rank.site (part_of (awake rank) hart) ≡ doing rank.site (part_of rank hart)
does_awake rank hart stands =
    ap (doing rank.site) (part_awake rank hart) ∙ doing_awake rank.site (part_of rank hart) stands

asks_awake : (rank : Rank) (hart : ℕ) → StandsAtCall rank hart → asked (awake rank) hart ≡ asked rank hart
unfolding asked
asks_awake rank hart stands =
    ap (asked_in rank.site rank.memory rank.requests rank.phases) (does_awake rank hart stands)

pub harts_awake : (harts : List State) → map awake_hart (map awake_hart harts) ≡ map awake_hart harts
harts_awake [] = refl
harts_awake (h ∷ hs) = (λ i. twice_at h.regs h.pc h.mode i ∷ harts_awake hs i)

-- what is left of the hart and of the rest makes the rank
with_awake : (rank : Rank) (hart stamp : ℕ) (other new : Part) → awake_part other ≡ awake_part new
    → awake (with_part (awake rank) hart other stamp) ≡ awake (with_part rank hart new stamp)
with_awake rank hart stamp other new same =
    let harts : map awake_hart (set (map awake_hart rank.harts) hart other.hart) ≡ map awake_hart (set rank.harts hart new.hart) =
    map-set awake_hart (map awake_hart rank.harts) hart other.hart
    ∙ ap (λ hs. set hs hart (awake_hart other.hart)) (harts_awake rank.harts)
    ∙ ap (λ (q : Part). set (map awake_hart rank.harts) hart q.hart) same
    ∙ sym (map-set awake_hart rank.harts hart new.hart) in
    (λ i. record rank {
      memory = (same i).memory;
      harts = harts i;
      requests = (same i).requests;
      phases = (same i).phases;
      out = (same i).out;
      clock = stamp;
    })

tells_awake : (rank : Rank) (hart stamp : ℕ) (a : Answer) → StandsAtCall rank hart
    → awake (told (awake rank) hart a stamp) ≡ awake (told rank hart a stamp)
unfolding told
tells_awake rank hart stamp a stands =
    let p = part_of rank hart in
    let d = doing rank.site p in
    ap (λ (e : Doing). awake (with_part (awake rank) hart (told_in rank.site hart e a (part_of (awake rank) hart)) stamp))
    (does_awake rank hart stands)
    ∙ ap (λ (q : Part). awake (with_part (awake rank) hart (told_in rank.site hart d a q) stamp)) (part_awake rank hart)
    ∙ with_awake rank hart stamp _ _ (turn_left rank.site hart a p d refl).same

-- ---- a call that waits, and finds nothing there

-- a hart that makes a call, for the first time or anew, runs when it is awake
makes_call : (site : Site) (p : Part) (c : Call) → doing site p ≡ Go c → woken p.hart.mode ≡ Running
unfolding doing
makes_call site p c goes = go p.hart.mode goes
  where
    go : (m : Mode) → doing_in m site p ≡ Go c → woken m ≡ Running
    go Running e = refl
    go (Waiting Again) e = refl
    go (Waiting (Post post)) e = absurd (cc)
    go (Ended value) e = absurd (cc)
    go (Trapped cause pc) e = absurd (cc)

waits_left : (site : Site) (p : Part) (d : Doing) → doing site p ≡ d → waits_on d ≡ true
    → awake_hart (delayed d p.hart) ≡ awake_hart p.hart
waits_left site p d is on = go d is on
  where
    by : (c : Call) → doing site p ≡ Go c → in_mode p.hart Running ≡ awake_hart p.hart
    by c e = ap (in_mode p.hart) (sym (makes_call site p c e))

    go : (d : Doing) → doing site p ≡ d → waits_on d ≡ true → awake_hart (delayed d p.hart) ≡ awake_hart p.hart
    go (Poll c post) e on = refl
    go (Go (call.Wait c)) e on = by (call.Wait c) e
    go (Go (call.Probe c)) e on = by (call.Probe c) e
    go (Go (call.Mprobe c)) e on = by (call.Mprobe c) e
    go (Go (call.Waitall c)) e on = by (call.Waitall c) e
    go _ e on = absurd (cc)

vain_awake : (rank : Rank) (hart stamp : ℕ) (q : Request) → waits_on (doing rank.site (part_of rank hart)) ≡ true
    → asked rank hart ≡ ask.Hub q
    → awake (told rank hart (answer.Reply reply.NotYet) stamp) ≡ at_clock (awake rank) stamp
unfolding told asked
vain_awake rank hart stamp q on hub =
    let p = part_of rank hart in
    let d = doing rank.site p in
    let new = told_in rank.site hart d (answer.Reply reply.NotYet) p in
    let kept = row_kept rank.site _ p (turn_waits rank.site hart rank.memory rank.requests rank.phases d q hub) in
    let mine : awake_hart new.hart ≡ awake_hart p.hart =
    ap awake_hart (turn_delayed rank hart d q hub) ∙ waits_left rank.site p d refl on in
    let harts : map awake_hart (set rank.harts hart new.hart) ≡ map awake_hart rank.harts =
    map-set awake_hart rank.harts hart new.hart
    ∙ ap (set (map awake_hart rank.harts) hart) (mine ∙ sym (get_or_map awake_hart rank.harts hart no_hart refl))
    ∙ set-get_or (map awake_hart rank.harts) hart no_hart in
    (λ i. record rank {
      memory = kept.memory i;
      harts = harts i;
      requests = kept.requests i;
      phases = kept.phases i;
      out = kept.out i;
      clock = stamp;
    })

-- ---- where a hart stands that is to make its call anew

-- what a poll wants
abbrev IsPolled : Wanted → Type 0
IsPolled (wanted.Message target) = Unit {0}
IsPolled wanted.Sent = Unit {0}
IsPolled wanted.Nothing = Unit {0}
IsPolled _ = ⊥

polls_so : (c : Call) → IsPolled (polled c)
polls_so (call.Recv r status) = tt
polls_so (call.Mrecv m status) = tt
polls_so (call.Ssend s) = tt
polls_so _ = tt

abbrev Runs : Part → Type 0
Runs p = p.hart.mode ≡ Running

from_runs : (o : Option ℕ) (target : Target) (message : Message) (p : Part) → Runs (received_from o target message p)
unfolding returned received
from_runs None target message p = refl
from_runs (Some place) target message p = refl

message_runs : (site : Site) (target : Target) (message : Message) (p : Part) → Runs (received_message site target message p)
unfolding received_message
message_runs site target message p = from_runs (position_of message.envelope.source (members site message.envelope.comm)) target message p

ended_runs : (c : Code) (value : ℕ) (p : Part) → Runs (ended c value p)
unfolding returned
ended_runs c value p = refl

polled_runs : (site : Site) (w : Wanted) (r : Reply) (p : Part) → IsPolled w → Runs (replied site w r p)
polled_runs site (wanted.Message target) (reply.Got message) p is = message_runs site target message p
polled_runs site (wanted.Message target) _ p is = ended_runs code.BadRequest 0 p
polled_runs site wanted.Sent reply.Done p is = ended_runs code.Ok 0 p
polled_runs site wanted.Sent _ p is = ended_runs code.BadRequest 0 p
polled_runs site wanted.Nothing _ p is = ended_runs code.BadRequest 0 p
polled_runs site _ _ p is = absurd is

runs_apart : (p : Part) → Runs p → p.hart.mode ≡ Waiting Again → ⊥
runs_apart p runs again = go (sym runs ∙ again)
  where
    go : Running ≡ Waiting Again → ⊥
    go e = absurd (cc)

-- a poll that goes on leaves the hart in its mode
poll_mode : (site : Site) (w : Wanted) (a : Answer) (p : Part) → IsPolled w
    → (told_row site (OnReply Polling w) a p).hart.mode ≡ Waiting Again → p.hart.mode ≡ Waiting Again
poll_mode site w (answer.Reply reply.NotYet) p is again = again
poll_mode site w (answer.Reply (reply.Code c)) p is again = absurd (runs_apart (ended c 0 p) (ended_runs c 0 p) again)
poll_mode site w (answer.Reply r) p is again = absurd (runs_apart (replied site w r p) (polled_runs site w r p is) again)
poll_mode site w _ p is again = absurd (runs_apart (ended code.BadRequest 0 p) (ended_runs code.BadRequest 0 p) again)

-- after its turn the hart is to make a call anew: it made that call, or stood at one
stood : (site : Site) (hart : ℕ) (a : Answer) (p : Part)
    → (p.hart.mode ≡ Waiting Again → is_ecall (word_at p.memory p.hart.pc) ≡ true)
    → (told_in site hart (doing site p) a p).hart.mode ≡ Waiting Again
    → is_ecall (word_at p.memory p.hart.pc) ≡ true
unfolding doing
stood site hart a p stands = go p.hart.mode refl
  where
    Goal : Mode → Type 0
    Goal m = (told_in site hart (doing_in m site p) a p).hart.mode ≡ Waiting Again → is_ecall (word_at p.memory p.hart.pc) ≡ true

    not_again : (m : Mode) → p.hart.mode ≡ m → (m ≡ Waiting Again → ⊥) → p.hart.mode ≡ Waiting Again → ⊥
    not_again m is other again = other (sym is ∙ again)

    by_word : (b : Bool) → is_ecall (word_at p.memory p.hart.pc) ≡ b → p.hart.mode ≡ Running
        → (told_in site hart (if b then checked site p else Step) a p).hart.mode ≡ Waiting Again
        → is_ecall (word_at p.memory p.hart.pc) ≡ true
    by_word true at runs again = at
    by_word false at runs again = absurd (runs_apart p runs ((stepped_so p.hart p.memory).mode again))

    go : (m : Mode) → p.hart.mode ≡ m → Goal m
    go Running is again = by_word (is_ecall (word_at p.memory p.hart.pc)) refl is again
    go (Waiting Again) is again = stands is
    go (Waiting (Post post)) is again =
        absurd (not_again (Waiting (Post post)) is (λ e. absurd (cc))
        (poll_mode site (polled (call_named p.hart)) a p (polls_so (call_named p.hart)) again))
    go (Ended value) is again = absurd (not_again (Ended value) is (λ e. absurd (cc)) again)
    go (Trapped cause pc) is again = absurd (not_again (Trapped cause pc) is (λ e. absurd (cc)) again)

-- what is set at a place stands there, or the place isn't there
set_there : (xs : List State) (i : ℕ) (x : State)
    → (get_or (set xs i x) i no_hart ≡ x) ⊎ (get_or (set xs i x) i no_hart ≡ no_hart)
set_there [] i x = inr refl
set_there (y ∷ xs) zero x = inl refl
set_there (y ∷ xs) (suc i) x = set_there xs i x

stands_after : (rank : Rank) (hart stamp : ℕ) (a : Answer) → StandsAtCall rank hart → HasNoBytes a
    → StandsAtCall (told rank hart a stamp) hart
unfolding told
stands_after rank hart stamp a stands bytes again =
    let p = part_of rank hart in
    let new = told_in rank.site hart (doing rank.site p) a p in
    let left = turn_left rank.site hart a p (doing rank.site p) refl in
    elim (set_there rank.harts hart new.hart) [
      | inl there ↦
          let mode = sym (ap (λ (s : State). s.mode) there) ∙ again in
          let still = left.still bytes mode in
          ap (λ (s : State). is_ecall (word_at new.memory s.pc)) there
          ∙ ap (λ m. is_ecall (word_at m new.hart.pc)) still.0
          ∙ ap (λ n. is_ecall (word_at p.memory n)) still.1
          ∙ stood rank.site hart a p stands mode
      | inr gone ↦ absurd (apart (sym (ap (λ (s : State). s.mode) gone) ∙ again))
    ]
  where
    apart : Ended 0 ≡ Waiting Again → ⊥
    apart e = absurd (cc)

pub wake_law : WakeLaw
wake_law = record {
  asks = asks_awake;
  tells = tells_awake;
  vain = vain_awake;
  stands = stands_after;
}
