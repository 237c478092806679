-- The worked rows.
use Rattle.std.specs.Prelude.{ℕ, ◌+◌, ◌<◌, [], ◌∷◌, ◌≡◌, length, max, slice_get, Some, true, false}
use Rattle.std.proofs.Common.{refl, sym, ap, ◌∙◌, arith}
use Rattle.std.proofs.lemmas.Option.{same_Some}
use mathlib.Core.Logic.{inl}
use Rattle.mp_types.specs.declared.replies.Reply.{Reply}
use Rattle.mp_types.specs.declared.replies.Reply.TheVariants as reply
use Rattle.mp_types.specs.declared.requests.Request.TheVariants as request
use Rattle.cl_machine.specs.Journal.{Journal, empty_journal, reply_in, with_entry}
use Rattle.cl_trace.specs.declared.events.Kind.{Kind}
use Rattle.cl_state.specs.declared.asking.Answer.{Answer}
use Rattle.cl_state.specs.declared.asking.Ask.{Ask}
use Rattle.cl_state.specs.Rank.{Rank}
use Rattle.cl_state.specs.Asked.{asked, doing}
use Rattle.cl_state.specs.Told.{arrived, freed, freed_one, part_readied, received, received_message, returned, seen_one}
use Rattle.cl_state.specs.Told.{taken_one, told, with_status}
use Rattle.cl_state.specs.Rows.{send}
use Rattle.cl_state.proofs.Moves.{told_at}
use Rattle.cl_machine.specs.Boxes.{Box, Thing, empty_box, box_number}
use Rattle.cl_machine.specs.Cluster.{Cluster, IsStep}
use Rattle.cl_machine.specs.Worked.{step, step_by, sender_called, sender_made, sender_done, receiver_missed, receiver_took}
use Rattle.cl_machine.specs.Worked.{receiver_done, first_reply, one_call, second_reply, shared_start, shared_end}
use Rattle.cl_machine.specs.Worked.{SharedRow, EarlyRow, receiving, sent_message, SendsFirst, ReceivesFirst}
use Rattle.cl_machine.specs.Worked.{NothingSent, StampTooLow, RealCallsRow, RealEndRow, partition_bytes}
use Rattle.cl_machine.specs.Worked.{partition_receiver, partition_sender, linked}

-- a told rank has its stamp, and as many harts
there : (hart : ℕ) (rank : Rank) (told_hart : ℕ) (answer : Answer) (stamp : ℕ) → hart < length rank.harts
    → hart < length (told rank told_hart answer stamp).harts
there hart rank told_hart answer stamp h = let same = (told_at rank told_hart answer stamp).harts in omega arith

-- where a hart is there, a lower one is
below : (lower hart : ℕ) (rank : Rank) → lower < hart → hart < length rank.harts → lower < length rank.harts
below lower hart rank l h = omega arith

pub shared : SharedRow
shared links sender receiver bytes first second s r =
    (k1, hub_first, (k2, misses, (k3, makes, (k4, takes, (k5, sees, (shared_end links sender receiver bytes first second, hub_second, refl))))))
  where
    reply : Reply
    reply = first_reply links sender receiver bytes first second

    called : Rank
    called = sender_called sender reply

    made : Rank
    made = sender_made sender reply

    missed : Rank
    missed = receiver_missed receiver bytes

    took : Rank
    took = receiver_took receiver bytes

    calls : Journal
    calls = one_call links sender receiver bytes first second

    thing : Thing
    thing = record { stamp = 2; bytes = bytes }

    full : Box
    full = record { made = thing ∷ []; taken = 0; stamp = 2 }

    freed : Box
    freed = record { made = thing ∷ []; taken = 1; stamp = 3 }

    k1 : Cluster
    k1 = record { ranks = called ∷ receiver ∷ []; journal = calls; boxes = empty_box ∷ [] }

    k2 : Cluster
    k2 = record { ranks = called ∷ missed ∷ []; journal = calls; boxes = empty_box ∷ [] }

    k3 : Cluster
    k3 = record { ranks = made ∷ missed ∷ []; journal = calls; boxes = full ∷ [] }

    k4 : Cluster
    k4 = record { ranks = made ∷ took ∷ []; journal = calls; boxes = freed ∷ [] }

    k5 : Cluster
    k5 = record { ranks = sender_done sender reply ∷ took ∷ []; journal = calls; boxes = freed ∷ [] }

    s1 : 2 < length called.harts
    s1 = there 2 sender 0 (Answer.Reply reply) 1 s.there

    r1 : 1 < length missed.harts
    r1 = there 1 receiver 0 Answer.Missed 1 r.there

    hub_first : IsStep (shared_start links sender receiver bytes first second) (step 0 1 (Kind.Hub reply)) k1
    hub_first = (
      sender,
      refl,
      below 0 2 sender (omega arith) s.there,
      omega arith,
      (
        first,
        s.calls,
        refl,
        ap (λ c. max c 0 + 1) (sym s.clock),
        λ i. record {
          ranks = called ∷ receiver ∷ [];
          journal = with_entry (empty_journal links)
              (record { rank = 0; hart = 0; clock = sym s.clock i; stamp = 1; request = first; reply = reply });
          boxes = empty_box ∷ [];
        },
      ),
    )

    misses : IsStep k1 (step 1 1 Kind.Miss) k2
    misses = (receiver, refl, below 0 1 receiver (omega arith) r.there, omega arith, (0, 0, inl r.looks, ap (λ c. c + 1) (sym r.clock), refl))

    makes : IsStep k2 (step_by 1 0 2 Kind.Ready) k3
    makes = (
      called,
      refl,
      below 1 2 called (omega arith) s1,
      omega arith,
      (0, 0, bytes, empty_box, s.makes, refl, refl, ap (λ c. c + 1) (sym (told_at sender 0 (Answer.Reply reply) 1).clock), refl),
    )

    takes : IsStep k3 (step 1 3 Kind.Take) k4
    takes = (
      missed,
      refl,
      below 0 1 missed (omega arith) r1,
      omega arith,
      (0, 0, bytes, full, r.takes, refl, refl, ap (λ c. max c 2 + 1) (sym (told_at receiver 0 Answer.Missed 1).clock), refl),
    )

    sees : IsStep k4 (step_by 2 0 4 Kind.Freed) k5
    sees = (
      made,
      refl,
      there 2 called 1 Answer.Alone 2 s1,
      omega arith,
      (0, 0, freed, s.sees, refl, refl, ap (λ c. max c 3 + 1) (sym (told_at called 1 Answer.Alone 2).clock), refl),
    )

    hub_second : IsStep k5 (step_by 1 1 4 (Kind.Hub (second_reply links sender receiver bytes first second))) (shared_end links sender receiver bytes first second)
    hub_second = (
      took,
      refl,
      there 1 missed 0 (Answer.Taken bytes) 3 r1,
      omega arith,
      (
        second,
        r.calls,
        refl,
        ap (λ c. max c 1 + 1) (sym clock),
        λ i. record {
          ranks = sender_done sender reply ∷ receiver_done receiver bytes (second_reply links sender receiver bytes first second) ∷ [];
          journal = with_entry calls
              (record { rank = 1; hart = 1; clock = sym clock i; stamp = 4; request = second; reply = second_reply links sender receiver bytes first second });
          boxes = freed ∷ [];
        },
      ),
    )
      where
        clock : took.clock ≡ 3
        clock = (told_at missed 0 (Answer.Taken bytes) 3).clock

pub early : EarlyRow
early links sender receiver bytes first second stamp new looks h =
    let c = h.4 in
    let same : receiver ≡ h.0 = same_Some _ _ h.1 in
    let asks : asked receiver 0 ≡ Ask.Look c.0 c.1 = ap (λ s. asked s 0) same ∙ c.4 in
    let link : 0 ≡ c.0 = (cc (asks, looks)) in
    let part : 0 ≡ c.1 = (cc (asks, looks)) in
    let empty : empty_box ≡ c.3 = same_Some _ _ ((λ i. slice_get (empty_box ∷ []) (box_number (link i) (part i)))
    ∙ c.5) in
    let none = ap (λ (b : Box). slice_get b.made b.taken) empty ∙ c.6 in absurd (cc)

pub sends_first : SendsFirst
unfolding asked told doing returned received received_message with_status reply_in
sends_first = (
  _,
  (
    _,
    (send, refl, omega arith, omega arith, (request.Send false 0 1 7 (105 ∷ 10 ∷ []), refl, refl, refl, refl)),
    (_, (receiving, refl, omega arith, omega arith, (request.Recv true 0 (Some 0) (Some 7), refl, refl, refl, refl)), refl),
  ),
  refl,
)

pub receives_first : ReceivesFirst
unfolding asked told doing returned received received_message with_status reply_in
receives_first = (
  _,
  (
    _,
    (receiving, refl, omega arith, omega arith, (request.Recv true 0 (Some 0) (Some 7), refl, refl, refl, refl)),
    (
      _,
      (send, refl, omega arith, omega arith, (request.Send false 0 1 7 (105 ∷ 10 ∷ []), refl, refl, refl, refl)),
      (
        _,
        (told receiving 0 (Answer.Reply (reply.Posted 1 false)) 9, refl, omega arith, omega arith, (request.Collect 1, refl, refl, refl, refl)),
        refl,
      ),
    ),
  ),
  refl,
)

pub nothing_sent : NothingSent
unfolding asked doing reply_in
nothing_sent stamp new h =
    let c = h.4 in
    let same : receiving ≡ h.0 = same_Some _ _ h.1 in
    let asks : Ask.Hub (request.Recv true 0 (Some 0) (Some 7)) ≡ Ask.Hub c.0 = ap (λ s. asked s 0) same ∙ c.1 in
    let same_request : request.Recv true 0 (Some 0) (Some 7) ≡ c.0 = (cc) in
    let replies : reply.Got sent_message ≡ reply.Posted 1 false = c.2
    ∙ sym (ap (reply_in (empty_journal []) 1) same_request) in absurd (cc)

pub stamp_too_low : StampTooLow
stamp_too_low new h =
    let clock : ((h.0).journal).clock ≡ 9 = ap (λ (k : Cluster). (k.journal).clock) (h.1).4.4 in omega (arith, clock, ((h.2).1).4.3)

pub real_calls : RealCallsRow
unfolding asked told doing returned part_readied taken_one arrived with_status
real_calls = (
  record { there = omega arith; clock = refl; calls = refl; makes = refl; sees = refl },
  record { there = omega arith; clock = refl; looks = refl; takes = refl; calls = refl },
)

pub real_end : RealEndRow
unfolding asked told doing returned received received_message with_status part_readied taken_one arrived freed freed_one seen_one reply_in
real_end = (
  _,
  shared linked.links partition_sender partition_receiver partition_bytes
      (request.Send false 0 1 7 (105 ∷ 10 ∷ [])) (request.Recv true 0 (Some 0) (Some 7)) real_calls.0 real_calls.1,
  refl,
)
