-- A turn keeps the length of its rank's memory, and what its rank has put out.
use Rattle.std.specs.Prelude.{ℕ, zero, suc, ◌≡◌, ◌+◌, ◌*◌, ◌≤◌, ◌%◌, ◌==◌, ◌||◌, ◌&&◌, nat_le, nat_lt, not, if◌then◌else◌, Bool, true, false}
use Rattle.std.specs.Prelude.{List, [], ◌∷◌, ◌++◌, drop, length, slice_get, take, Option, None, Some}
use Rattle.std.proofs.Common.{refl, sym, ap, ◌∙◌, append_assoc, append-nil, arith, length-append, length-drop}
use Rattle.std.proofs.lemmas.Bool.{leb-true}
use Rattle.rv_decode.specs.Decoded.{decoded}
use Rattle.rv_decode.specs.declared.instruction.Instr.{Instr}
use Rattle.rv_decode.specs.declared.instruction.Instr.TheVariants.{Upper, Jal, Jalr, Branch, Load, Store, Imm, Shift}
use Rattle.rv_decode.specs.declared.instruction.Instr.TheVariants.{Arith, Fence, Ecall, Ebreak}
use Rattle.rv_decode.specs.declared.instruction.LoadOp.{LoadOp}
use Rattle.rv_memory.proofs.Marked.{bytes_low_first-length}
use Rattle.rv_memory.specs.Access.{is_aligned, is_inside, load_trap, size_of, store_trap, stored, word_at}
use Rattle.rv_memory.specs.Memory.{Memory, bytes_at, bytes_of, overwritten, with_bytes}
use Rattle.rv_memory.specs.declared.fault.Cause.{Cause}
use Rattle.rv_hart.specs.Effect.{After, after, after_branch, after_load, after_store, gives, jumps, next, offset, plain, trapped}
use Rattle.rv_hart.specs.Results.{is_taken, load_width, store_width}
use Rattle.rv_hart.specs.State.{State, at_pc, read, write}
use Rattle.rv_hart.specs.Stepped.{after_decoded, after_fetched, stepped}
use Rattle.rv_memory.specs.declared.fault.Cause.TheVariants.{InstructionMisaligned, StoreAccess, StoreMisaligned}
use Rattle.mp_types.specs.declared.codes.Code.TheVariants as code
use Rattle.mp_types.specs.declared.messages.Envelope.{Envelope}
use Rattle.mp_types.specs.declared.messages.Message.{Message}
use Rattle.mp_types.specs.declared.replies.Reply.{Reply}
use Rattle.mp_types.specs.declared.replies.Reply.TheVariants as reply
use Rattle.mp_request.specs.declared.entries.OpenRequest.{OpenRequest}
use Rattle.mp_request.specs.declared.entries.Partitions.{Partitions}
use Rattle.mp_request.specs.Table.{lowest_free}
use Rattle.mp_request.specs.declared.entries.Transfer.{Transfer}
use Rattle.mp_request.specs.declared.entries.Transfer.TheVariants.{ReceivePartitions, SendPartitions}
use Rattle.part_phase.specs.Phases.{changed_at, is_unshaped_receiving, is_unshaped_sending, on_receiving, on_sending, receiving_at, sending_at}
use Rattle.part_phase.specs.Receiving.{cut_into, is_cut, shaped_receiving}
use Rattle.part_phase.specs.Sending.{all_freed, one_freed, shaped_sending}
use Rattle.part_phase.specs.declared.phases.Phase.{Phase}
use Rattle.cl_calls.specs.Calls.{any, no_rank}
use Rattle.cl_calls.specs.declared.calls.Partitioning.{Partitioning}
use Rattle.cl_calls.specs.declared.sites.Site.{Site}
use Rattle.cl_state.specs.Partitions.{side_on}
use Rattle.cl_state.specs.Asked.{Part, doing, part_of}
use Rattle.cl_state.specs.Rank.{Rank}
use Rattle.cl_state.specs.Several.{Given, given, pendings, statuses_of, with_all_bytes, with_statuses}
use Rattle.cl_state.specs.Table.{begun_outcome, row_in}
use Rattle.cl_state.specs.Told.{arrived, arrived_from, completed_all, cut_known, done, ended, found, found_at, found_nothing, freed, freed_one, gathered_if, made_receiving, made_sending, made_side_at, not_yet, opened_at, part_readied, phase_begun, received, received_from, received_message, replied, seen_one, taken_one, told, told_row, visited, with_status, with_taken_box}
use Rattle.cl_state.specs.Written.{written}
use Rattle.cl_state.specs.declared.asking.Answer.{Answer}
use Rattle.cl_state.specs.declared.asking.Answer.TheVariants as answer
use Rattle.cl_state.specs.declared.pending.Manner.{Manner}
use Rattle.cl_state.specs.declared.pending.Manner.TheVariants.{Immediate, Blocking, Posting, Polling}
use Rattle.cl_state.specs.declared.pending.Target.{Target}
use Rattle.cl_state.specs.declared.row.Outcome.{Outcome}
use Rattle.cl_state.specs.declared.row.Outcome.TheVariants as outcome
use Rattle.cl_state.specs.declared.row.Row.{Row}
use Rattle.cl_state.specs.declared.row.Row.TheVariants.{AtOnce, OnReply, OnBox}
use Rattle.cl_state.specs.declared.row.Visit.{Visit}
use Rattle.cl_state.specs.declared.row.Visit.TheVariants.{Readies, Frees, Takes, Sees}
use Rattle.cl_state.specs.declared.row.Wanted.{Wanted}
use Rattle.cl_state.specs.declared.row.Wanted.TheVariants as wanted

-- ---- bytes that are written

all_taken : (xs : List ℕ) (n : ℕ) → n ≤ length xs → length (take n xs) ≡ n
all_taken xs zero le = refl
all_taken [] (suc n) le = absurd (omega (arith, le))
all_taken (x ∷ xs) (suc n) le = ap suc (all_taken xs n (omega (arith, le)))

long_overwritten : (xs new : List ℕ) (at : ℕ) → at + length new ≤ length xs → length (overwritten xs at new) ≡ length xs
long_overwritten xs new at fits =
    let front = all_taken xs at (omega (arith, fits)) in
    let back = length-drop (at + length new) xs in
    let rest = length-append new (drop (at + length new) xs) in
    let all : length (take at xs) + length (new ++ drop (at + length new) xs) ≡ length xs =
    omega (arith, fits, front, back, rest) in
    ap length (append_assoc (take at xs) new (drop (at + length new) xs))
    ∙ length-append (take at xs) (new ++ drop (at + length new) xs) ∙ all

abbrev long : Memory → ℕ
long memory = length memory.bytes

long_written : (memory : Memory) (at : ℕ) (new : List ℕ) → long (written memory at new) ≡ long memory
long_written memory at new =
    go (length new == 0) (is_inside memory at (length new)) refl (nat_le memory.text at)
  where
    go : (none inside : Bool) → is_inside memory at (length new) ≡ inside → (text : Bool)
        → long (if (none || (inside && text)) then (if none then memory else with_bytes memory at new) else memory)
        ≡ long memory
    go true inside is text = refl
    go false true is true =
        long_overwritten memory.bytes new at (leb-true (at + length new) (length memory.bytes) is)
    go false true is false = refl
    go false false is text = refl

long_status : (memory : Memory) (address source tag count : ℕ)
    → long (with_status memory address source tag count) ≡ long memory
unfolding with_status
long_status memory address source tag count = go (address == 0)
  where
    go : (none : Bool)
        → long (if none then memory
        else written memory address (bytes_of source 8 ++ bytes_of tag 8 ++ bytes_of count 8)) ≡ long memory
    go true = refl
    go false = long_written memory address (bytes_of source 8 ++ bytes_of tag 8 ++ bytes_of count 8)

long_all : (memory : Memory) (gs : List Given) → long (with_all_bytes memory gs) ≡ long memory
long_all memory [] = refl
long_all memory (g ∷ gs) = long_all (written memory g.buffer g.bytes) gs ∙ long_written memory g.buffer g.bytes

long_statuses : (memory : Memory) (address : ℕ) (gs : List Given)
    → long (with_statuses memory address gs) ≡ long memory
long_statuses memory address gs = go (address == 0)
  where
    go : (none : Bool)
        → long (if none then memory else written memory address (statuses_of gs)) ≡ long memory
    go true = refl
    go false = long_written memory address (statuses_of gs)

-- ---- an instruction

module _ (s : State) (m : Memory) where
  abbrev IsLong : After → Type 0
  IsLong a = long a.memory ≡ long m

  long_gives : (d v : ℕ) → IsLong (gives d v s m)
  unfolding gives
  long_gives d v = refl

  long_jumps : (d target : ℕ) → IsLong (jumps d target s m)
  unfolding jumps
  long_jumps d target = go (target % 4 == 0)
    where
      go : (b : Bool)
          → IsLong (if b then plain (at_pc (write s d (next s)) target) m else trapped InstructionMisaligned s m)
      go true = refl
      go false = refl

  long_branch : (target : ℕ) → IsLong (after_branch target s m)
  unfolding after_branch
  long_branch target = go (target % 4 == 0)
    where
      go : (b : Bool) → IsLong (if b then plain (at_pc s target) m else trapped InstructionMisaligned s m)
      go true = refl
      go false = refl

  long_choice : (b : Bool) (target : ℕ) → IsLong (if b then after_branch target s m else plain (at_pc s (next s)) m)
  long_choice true target = long_branch target
  long_choice false target = refl

  long_load : (o : Option Cause) (op : LoadOp) (d address : ℕ) → IsLong (after_load o op d address s m)
  long_load None op d address = long_gives d _
  long_load (Some cause) op d address = refl

  long_store : (address size value : ℕ)
      → IsLong (after_store (store_trap m address size) (stored m address size value) s m)
  long_store address size value =
      go (is_aligned address size) (is_inside m address size) refl (nat_lt address m.text)
    where
      go : (aligned inside : Bool) → is_inside m address size ≡ inside → (text : Bool)
          → IsLong (after_store (if not aligned then Some StoreMisaligned
          else (if not inside then Some StoreAccess else (if text then Some StoreAccess else None)))
          (stored m address size value) s m)
      go false inside is text = refl
      go true false is text = refl
      go true true is true = refl
      go true true is false =
          long_overwritten m.bytes (bytes_of value size) address
          (let inside = leb-true (address + size) (length m.bytes) is in
          let count = bytes_low_first-length 0 size value in omega (arith, inside, count))

  long_after : (i : Instr) → IsLong (after i s m)
  long_after (Upper op d imm) = long_gives d _
  long_after (Jal d off) = long_jumps d _
  long_after (Jalr d r off) = long_jumps d _
  long_after (Branch op r t off) = long_choice (is_taken op (read s r) (read s t)) (offset s.pc off)
  long_after (Load op d r off) =
      long_load (load_trap m (offset (read s r) off) (size_of (load_width op))) op d (offset (read s r) off)
  long_after (Store op r t off) = long_store (offset (read s r) off) (size_of (store_width op)) (read s t)
  long_after (Imm op d r imm) = long_gives d _
  long_after (Shift op d r amount) = long_gives d _
  long_after (Arith op d r t) = long_gives d _
  long_after Fence = refl
  long_after Ecall = refl
  long_after Ebreak = refl

  long_stepped : IsLong (stepped s m)
  unfolding stepped
  long_stepped = fetched (word_at m s.pc)
    where
      read_as : (o : Option Instr) → IsLong (after_decoded o s m)
      read_as None = refl
      read_as (Some i) = long_after i

      fetched : (o : Option ℕ) → IsLong (after_fetched o s m)
      fetched None = refl
      fetched (Some word) = read_as (decoded word)

-- ---- a turn

-- as much memory, and at most more output
pub record Keeps (old new : Part) : Type 0 where
  pub long_is : length new.memory.bytes ≡ length old.memory.bytes
  pub more : List ℕ
  pub out : new.out ≡ old.out ++ more

module _ (old : Part) where
  puts_no : (new : Part) → long new.memory ≡ long old.memory → new.out ≡ old.out → Keeps old new
  puts_no new is out = record { long_is = is; more = []; out = out ∙ sym (append-nil old.out) }

  as_was : Keeps old old
  as_was = puts_no old refl refl

  keeps_either : (b : Bool) (x y : Part) → Keeps old x → Keeps old y → Keeps old (if b then x else y)
  keeps_either true x y p q = p
  keeps_either false x y p q = q

  keeps_late : (m : Manner) (new : Part) → Keeps old new → Keeps old (not_yet m new)
  keeps_late Immediate new k = record { long_is = k.long_is; more = k.more; out = k.out }
  keeps_late Blocking new k = record { long_is = k.long_is; more = k.more; out = k.out }
  keeps_late Polling new k = k
  keeps_late Posting new k = record { long_is = k.long_is; more = k.more; out = k.out }

  keeps_received : (target : Target) (source tag : ℕ) (bytes : List ℕ) (new : Part) → Keeps old new
      → Keeps old (received target source tag bytes new)
  unfolding received
  keeps_received target source tag bytes new k = record {
    long_is = long_status (written new.memory target.buffer (take target.capacity bytes)) target.status source tag
        (length (take target.capacity bytes))
        ∙ long_written new.memory target.buffer (take target.capacity bytes) ∙ k.long_is;
    more = k.more;
    out = k.out;
  }

  keeps_from : (o : Option ℕ) (target : Target) (message : Message) → Keeps old (received_from o target message old)
  keeps_from None target message = puts_no _ refl refl
  keeps_from (Some place) target message =
      keeps_received target place message.envelope.tag message.bytes old as_was

  keeps_message : (site : Site) (target : Target) (message : Message) → Keeps old (received_message site target message old)
  unfolding received_message
  keeps_message site target message = keeps_from _ target message

  keeps_opened : (o : Option ℕ) (request : OpenRequest) → Keeps old (opened_at o request old)
  keeps_opened None request = puts_no _ refl refl
  keeps_opened (Some handle) request = puts_no _ refl refl

  keeps_freed : (handle : ℕ) → Keeps old (freed handle old)
  unfolding freed
  keeps_freed handle = puts_no _ refl refl

  keeps_all : (site : Site) (value statuses : ℕ) (handles : List ℕ) (gots : List (Option Message))
      → Keeps old (completed_all site value statuses handles gots old)
  unfolding completed_all
  keeps_all site value statuses handles gots =
      let gs = given site (pendings old.requests handles) gots in
      puts_no _ (long_statuses (with_all_bytes old.memory gs) statuses gs ∙ long_all old.memory gs) refl

  keeps_gathered : (b : Bool) (site : Site) (value statuses : ℕ) (handles : List ℕ) (gots : List (Option Message))
      → Keeps old (gathered_if b site value statuses handles gots old)
  keeps_gathered true site value statuses handles gots = keeps_all site value statuses handles gots
  keeps_gathered false site value statuses handles gots = puts_no _ refl refl

  keeps_found_at : (o : Option ℕ) (value status : ℕ) (envelope : Envelope)
      → Keeps old (found_at o value status envelope old)
  keeps_found_at None value status envelope = puts_no _ refl refl
  keeps_found_at (Some place) value status envelope =
      puts_no _ (long_status old.memory status place envelope.tag envelope.count) refl

  keeps_found : (site : Site) (value status : ℕ) (envelope : Envelope) → Keeps old (found site value status envelope old)
  unfolding found
  keeps_found site value status envelope = keeps_found_at _ value status envelope

  keeps_nothing : (value status : ℕ) → Keeps old (found_nothing value status old)
  unfolding found_nothing
  keeps_nothing value status = puts_no _ (long_status old.memory status no_rank any 0) refl

  keeps_side : (o : Option ℕ) (t : Transfer) (link : ℕ) (shape : Phase → Phase) → Keeps old (made_side_at o t link shape old)
  keeps_side None t link shape = puts_no _ refl refl
  keeps_side (Some handle) t link shape = puts_no _ refl refl

  keeps_begun_phase : (handle link : ℕ) → Keeps old (phase_begun handle link old)
  unfolding phase_begun
  keeps_begun_phase handle link = puts_no _ refl refl

  keeps_readied : (link ready : ℕ) → Keeps old (part_readied link ready old)
  unfolding part_readied
  keeps_readied link ready = puts_no _ refl refl

  keeps_arrived_from : (o : Option ℕ) (side : Partitions) (target : Target) (new : Part) → Keeps old new
      → Keeps old (arrived_from o side target new)
  keeps_arrived_from None side target new k = record { long_is = k.long_is; more = k.more; out = k.out }
  keeps_arrived_from (Some place) side target new k = record {
    long_is = long_status new.memory target.status place side.tag (side.parts * side.size) ∙ k.long_is;
    more = k.more;
    out = k.out;
  }

  keeps_arrived : (site : Site) (side : Partitions) (target : Target) (new : Part) → Keeps old new
      → Keeps old (arrived site side target new)
  unfolding arrived
  keeps_arrived site side target new k = keeps_arrived_from _ side target new k

  keeps_freed_one : (m : Manner) (link : ℕ) (target : Target) → Keeps old (freed_one m link target old)
  unfolding freed_one
  keeps_freed_one m link target =
      let freed_part : Part = record old { phases = changed_at link (on_sending one_freed) old.phases } in
      keeps_either (all_freed (sending_at freed_part.phases link)) (received target any any [] freed_part)
      (not_yet m freed_part) (keeps_received target any any [] freed_part (puts_no freed_part refl refl))
      (keeps_late m freed_part (puts_no freed_part refl refl))

  keeps_box : (side : Partitions) (box : ℕ) (bytes : List ℕ) → Keeps old (with_taken_box side box bytes old)
  keeps_box side box bytes =
      let size = (receiving_at old.phases side.link).bytes in
      puts_no _ (long_written old.memory (side.buffer + box * size) (take size bytes)) refl

  keeps_taken : (site : Site) (m : Manner) (side : Partitions) (box : ℕ) (target : Target) (bytes : List ℕ)
      → Keeps old (taken_one site m side box target bytes old)
  unfolding taken_one
  keeps_taken site m side box target bytes =
      let taken_part : Part = with_taken_box side box bytes old in
      keeps_either (receiving_at taken_part.phases side.link).active (not_yet m taken_part)
      (arrived site side target taken_part) (keeps_late m taken_part (keeps_box side box bytes))
      (keeps_arrived site side target taken_part (keeps_box side box bytes))

  keeps_seen : (side : Partitions) (box asked : ℕ) (bytes : List ℕ) → Keeps old (seen_one side box asked bytes old)
  unfolding seen_one
  keeps_seen side box asked bytes =
      let size = (receiving_at old.phases side.link).bytes in
      puts_no _ (long_written old.memory (side.buffer + box * size) (take size bytes)) refl

  keeps_done : (site : Site) (o : Outcome) → Keeps old (done site o old)
  keeps_done site outcome.Steps = puts_no _ (long_stepped old.hart old.memory) refl
  keeps_done site outcome.Stays = as_was
  keeps_done site (outcome.Exits value) = puts_no _ refl refl
  keeps_done site (outcome.Ends c value) = puts_no _ refl refl
  keeps_done site (outcome.Waits post) = puts_no _ refl refl
  keeps_done site (outcome.Puts buffer count) =
      record { long_is = refl; more = bytes_at old.memory buffer count; out = refl }
  keeps_done site (outcome.Opens request) = keeps_opened _ request
  keeps_done site (outcome.Starts handle p) = puts_no _ refl refl
  keeps_done site (outcome.Frees handle) = keeps_freed handle
  keeps_done site (outcome.Completes source target) = keeps_received target source _ [] old as_was
  keeps_done site (outcome.FindsNothing value status) = keeps_nothing value status
  keeps_done site (outcome.CompletesAll value s) = keeps_all site value s.statuses _ []
  keeps_done site (outcome.BeginsPhase handle link) = keeps_begun_phase handle link
  keeps_done site outcome.Holds = puts_no _ refl refl
  keeps_done site (outcome.Arrives side target) = keeps_arrived site side target old as_was

  keeps_cut : (site : Site) (m : Manner) (link boxes bytes : ℕ) → Keeps old (cut_known site m link boxes bytes old)
  keeps_cut site m link boxes bytes =
      keeps_either (is_cut site.version (receiving_at old.phases link) boxes bytes)
      (not_yet m (record old { phases = changed_at link (on_receiving (cut_into boxes bytes)) old.phases }))
      (ended code.BadRequest 0 old)
      (keeps_late m (record old { phases = changed_at link (on_receiving (cut_into boxes bytes)) old.phases })
      (puts_no (record old { phases = changed_at link (on_receiving (cut_into boxes bytes)) old.phases }) refl refl))
      (puts_no (ended code.BadRequest 0 old) refl refl)

  keeps_sending : (site : Site) (t : Partitioning) (link : ℕ) → Keeps old (made_sending site t link old)
  keeps_sending site t link =
      let side = SendPartitions (side_on site t link) in
      let shape = on_sending (shaped_sending t.parts t.size) in
      keeps_either (is_unshaped_sending (slice_get old.phases link))
      (made_side_at (lowest_free old.requests) side link shape old) (ended code.BadRequest 0 old)
      (keeps_side (lowest_free old.requests) side link shape) (puts_no (ended code.BadRequest 0 old) refl refl)

  keeps_receiving : (site : Site) (t : Partitioning) (link : ℕ) → Keeps old (made_receiving site t link old)
  keeps_receiving site t link =
      let side = ReceivePartitions (side_on site t link) in
      let shape = on_receiving (shaped_receiving t.parts t.size) in
      keeps_either (is_unshaped_receiving (slice_get old.phases link))
      (made_side_at (lowest_free old.requests) side link shape old) (ended code.BadRequest 0 old)
      (keeps_side (lowest_free old.requests) side link shape) (puts_no (ended code.BadRequest 0 old) refl refl)

  keeps_replied : (site : Site) (w : Wanted) (r : Reply) → Keeps old (replied site w r old)
  keeps_replied site (wanted.Post why t) (reply.Posted post paired) = keeps_done site (begun_outcome why t _)
  keeps_replied site (wanted.MessageOrPost target) (reply.Posted post paired) = puts_no _ refl refl
  keeps_replied site (wanted.MessageOrPost target) (reply.Got message) = keeps_message site target message
  keeps_replied site (wanted.Message target) (reply.Got message) = keeps_message site target message
  keeps_replied site (wanted.Word target) reply.Done = keeps_received target _ _ [] old as_was
  keeps_replied site wanted.Sent reply.Done = puts_no _ refl refl
  keeps_replied site (wanted.All value s) (reply.AllGot gots) = keeps_gathered _ site value s.statuses _ gots
  keeps_replied site (wanted.Sight value status) (reply.Seen envelope) = keeps_found site value status envelope
  keeps_replied site (wanted.Claim status) (reply.Held message envelope) = keeps_found site message status envelope
  keeps_replied site (wanted.SendingLink t) (reply.Link link) =
      keeps_sending site t link
  keeps_replied site (wanted.ReceivingLink t) (reply.Link link) =
      keeps_receiving site t link
  keeps_replied site (wanted.Cut m link) (reply.Cut boxes bytes) = keeps_cut site m link boxes bytes
  keeps_replied site w r = puts_no _ refl refl

  keeps_visited : (site : Site) (v : Visit) (a : Answer) → Keeps old (visited site v a old)
  keeps_visited site (Readies link ready) answer.Alone = keeps_readied link ready
  keeps_visited site (Frees m link target) answer.Freed = keeps_freed_one m link target
  keeps_visited site (Frees m link target) answer.Missed = keeps_late m old as_was
  keeps_visited site (Takes m side box target) (answer.Taken bytes) = keeps_taken site m side box target bytes
  keeps_visited site (Takes m side box target) answer.Missed = keeps_late m old as_was
  keeps_visited site (Sees side box asked) (answer.Taken bytes) = keeps_seen side box asked bytes
  keeps_visited site (Sees side box asked) answer.Missed = keeps_late Immediate old as_was
  keeps_visited site v a = puts_no _ refl refl

  keeps_row : (site : Site) (row : Row) (a : Answer) → Keeps old (told_row site row a old)
  keeps_row site (AtOnce o) a = keeps_done site o
  keeps_row site (OnReply m w) (answer.Reply reply.NotYet) = keeps_late m old as_was
  keeps_row site (OnReply m w) (answer.Reply (reply.Code c)) = puts_no _ refl refl
  keeps_row site (OnReply m w) (answer.Reply r) = keeps_replied site w r
  keeps_row site (OnReply m w) a = puts_no _ refl refl
  keeps_row site (OnBox v) a = keeps_visited site v a

-- of the whole rank
pub told_keeps : (rank : Rank) (hart : ℕ) (a : Answer) (stamp : ℕ)
    → Keeps (part_of rank hart) (part_of (told rank hart a stamp) hart)
unfolding told
told_keeps rank hart a stamp =
    let k = keeps_row (part_of rank hart) rank.site
    (row_in rank.site hart rank.memory rank.requests rank.phases (doing rank.site (part_of rank hart))) a in
    record { long_is = k.long_is; more = k.more; out = k.out }
