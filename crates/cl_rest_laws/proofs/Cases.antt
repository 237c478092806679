-- The worked rows.
use Rattle.std.specs.Prelude.{ℕ, zero, suc, ◌-◌, ◌<◌, ◌≡◌, ◌==◌, ◌⊎◌, ◌++◌, IsTrue, true, false, List, [], ◌∷◌, length, Some}
use Rattle.std.specs.List.{list_all, slice_get}
use Rattle.std.proofs.Common.{refl, ap, subst, sym, inl, inr, arith}
use Rattle.std.proofs.lemmas.Bool.{eqb-true, or_cases}
use Rattle.std.proofs.lemmas.Option.{same_Some}
use Rattle.rv_decode.specs.Decoded.{decoded}
use Rattle.rv_hart.specs.Effect.{gives}
use Rattle.rv_hart.specs.Results.{imm_result}
use Rattle.rv_hart.specs.Stepped.{stepped}
use Rattle.mp_types.specs.declared.replies.Reply.TheVariants as reply
use Rattle.mp_types.specs.declared.requests.Request.{Request}
use Rattle.mp_types.specs.declared.requests.Request.TheVariants as request
use Rattle.cl_trace.specs.declared.events.Kind.{Kind}
use Rattle.mp_hub.specs.Hub.{is_ready}
use Rattle.cl_state.specs.declared.asking.Answer.{Answer}
use Rattle.cl_state.specs.declared.asking.Ask.TheVariants as ask
use Rattle.cl_state.specs.Asked.{asked, doing}
use Rattle.cl_state.specs.Rank.{Rank}
use Rattle.cl_state.specs.Told.{found, received, received_message, returned, told, with_status}
use Rattle.cl_state_laws.specs.Vain.{IsStopped, mode_of}
use Rattle.cl_machine.specs.declared.steps.Step.{Step}
use Rattle.cl_machine.specs.Cluster.{Cluster, IsRun, IsStep}
use Rattle.cl_machine.specs.Journal.{Journal, empty_journal, reply_in, with_entry}
use Rattle.cl_machine.specs.Worked.{step}
use Rattle.cl_deadlock_laws.specs.Stuck.{AreStuck, IsStuckHart, is_among}
use Rattle.cl_deadlock_laws.specs.Worked.{both, ended}
use Rattle.cl_order_laws.specs.Alike.{hub_of}
use Rattle.cl_rest_laws.specs.Rests.{IsElseReady, buffered_word, rests_for}
use Rattle.cl_rest_laws.specs.Buffering.{NeedBuffers, RestsAmong}
use Rattle.cl_rest_laws.specs.Worked.{BothWait, ClaimReceived, Claimed, IsRefused, OneAlone, OneGoesOn, OneOfTwo, OnlySendLeft}
use Rattle.cl_rest_laws.specs.Worked.{ReceivePosted, ReceiveWaits, Received, ReceivedAtWait, SaysBuffered, SaysBufferedAtWait, SaysOther}
use Rattle.cl_rest_laws.specs.Worked.{SendFirst, StuckAnyway, SyncAtWait, ToEnded, ToItself, Unreceived, UnreceivedAtWait, WaitsInSsend}
use Rattle.cl_rest_laws.specs.Worked.{comes_to_waitall, irecv, isend, isend_irecv, isend_saying, isend_twice, issend, mprobe, recv, send}
use Rattle.cl_rest_laws.specs.Worked.{send_and_exit, send_saying, ssend}

-- ---- two ranks with a hart each

module _ (ranks : List ℕ) (a b : Rank) (j : Journal) (one_a : length a.harts ≡ 1) (one_b : length b.harts ≡ 1) where
  abbrev two : Cluster
  two = record { ranks = a ∷ b ∷ []; journal = j; boxes = [] }

  -- what holds of each rank's hart 0 holds of each hart
  module _ (P : ℕ → Rank → ℕ → Type 0) where
    of_rank : (r : ℕ) (rank x : Rank) (hart : ℕ) → length rank.harts ≡ 1 → rank ≡ x → P r rank 0
        → hart < length x.harts → P r x hart
    of_rank r rank x zero one same holds low = subst (λ (y : Rank). P r y 0) same holds
    of_rank r rank x (suc hart) one same holds low =
        (let n : length rank.harts ≡ length x.harts = ap (λ (y : Rank). length y.harts) same in
        absurd (omega (arith, n, one, low)))

    of_both : P 0 a 0 → P 1 b 0 → (r : ℕ) (rank : Rank) (hart : ℕ) → slice_get two.ranks r ≡ Some rank
        → hart < length rank.harts → P r rank hart
    of_both first second zero rank hart here low = of_rank 0 a rank hart one_a (same_Some a rank here) first low
    of_both first second (suc zero) rank hart here low = of_rank 1 b rank hart one_b (same_Some b rank here) second low
    of_both first second (suc (suc r)) rank hart here low = absurd (cc)

  abbrev IsStuck : ℕ → Rank → ℕ → Type 0
  IsStuck r rank hart = IsStopped (mode_of rank hart) ⊎ IsStuckHart ranks two r rank hart

  both_stuck : IsStuck 0 a 0 → IsStuck 1 b 0 → AreStuck ranks two
  both_stuck first second r rank hart among here low = of_both IsStuck first second r rank hart here low

  -- held up, if it is one of these ranks
  abbrev IsHeldUp : ℕ → Rank → ℕ → Type 0
  IsHeldUp r rank hart =
      IsTrue (is_among ranks r)
      → IsStopped (mode_of rank hart) ⊎ (IsStuckHart ranks two r rank hart ⊎ RestsAmong ranks two r hart)

  -- the first rests until one of them receives
  first_rests : is_among ranks 0 ≡ true → RestsAmong ranks two 0 0 → IsElseReady two 0 a 0 → IsHeldUp 1 b 0
      → NeedBuffers ranks two
  first_rests is until else_ready second = record {
    held = λ r rank hart among here low.
        of_both IsHeldUp (λ among. inr (inr until)) second r rank hart here low among;
    some = record {
      r = 0;
      rank = a;
      hart = 0;
      among = is;
      there = refl;
      inside = omega (arith, one_a);
      rests_there = until;
      else_ready = else_ready;
    };
  }

-- nobody else is among one rank
only_one : (r k : ℕ) → is_among (r ∷ []) k ≡ true → r ≡ k
only_one r k its = elim (or_cases (r == k) false its) [
  | inl same ↦ eqb-true r k same
  | inr off ↦ absurd (cc)
]

-- a send is for one rank alone
to_one : (ranks : List ℕ) (dest k : ℕ) → is_among ranks dest ≡ true → (dest == k) ≡ true → is_among ranks k ≡ true
to_one ranks dest k its may = subst (λ n. is_among ranks n ≡ true) (eqb-true dest k may) its

-- ---- the first steps

-- the message of rank 0 for rank 1
abbrev message : Request
message = request.Send false 0 1 7 (105 ∷ 10 ∷ [])

abbrev sent : Rank
sent = told (send 0 1) 0 (Answer.Reply (reply.Posted 1 true)) 9

abbrev one_sent : Journal
one_sent =
    with_entry (empty_journal [])
    (record { rank = 0; hart = 0; clock = 8; stamp = 9; request = message; reply = reply.Posted 1 true })

abbrev after_send : Rank → Cluster
after_send other = record { ranks = sent ∷ other ∷ []; journal = one_sent; boxes = [] }

first_send : (other : Rank)
    → IsStep (both (send 0 1) other) (step 0 9 (Kind.Hub (reply.Posted 1 true))) (after_send other)
unfolding asked told doing reply_in
first_send other = (send 0 1, refl, omega arith, omega arith, (message, refl, refl, refl, refl))

-- ---- ranks that rest, and ranks that don't

pub unreceived : Unreceived
unfolding asked told doing reply_in returned
unreceived = (_, (_, first_send (recv 1 0), refl), refl)

pub refused : IsRefused
unfolding asked told doing reply_in returned stepped gives imm_result decoded
refused = (
  _,
  (
    _,
    first_send (recv 1 0),
    (
      _,
      (_, refl, omega arith, omega arith, (refl, refl, refl)),
      (_, (_, refl, omega arith, omega arith, (refl, refl, refl)), refl),
    ),
  ),
  refl,
)

pub was_received : Received
unfolding asked told doing reply_in returned received received_message
was_received = (
  _,
  (
    _,
    first_send (recv 1 0),
    (
      _,
      (recv 1 0, refl, omega arith, omega arith, (request.Recv true 0 (Some 0) (Some 7), refl, refl, refl, refl)),
      refl,
    ),
  ),
  refl,
)

pub was_claimed : Claimed
unfolding asked told doing reply_in returned
was_claimed = (
  _,
  (
    _,
    first_send (mprobe 1 0),
    (
      _,
      (mprobe 1 0, refl, omega arith, omega arith, (request.Claim 0 (Some 0) (Some 7), refl, refl, refl, refl)),
      refl,
    ),
  ),
  refl,
)

pub claim_received : ClaimReceived
unfolding asked told doing reply_in returned received received_message found with_status stepped gives imm_result decoded
claim_received = (
  _,
  (
    _,
    first_send (mprobe 1 0),
    (
      _,
      (mprobe 1 0, refl, omega arith, omega arith, (request.Claim 0 (Some 0) (Some 7), refl, refl, refl, refl)),
      (
        _,
        (_, refl, omega arith, omega arith, (refl, refl, refl)),
        (
          _,
          (_, refl, omega arith, omega arith, (refl, refl, refl)),
          (
            _,
            (_, refl, omega arith, omega arith, (refl, refl, refl)),
            (_, (_, refl, omega arith, omega arith, (request.Claimed true 2, refl, refl, refl, refl)), refl),
          ),
        ),
      ),
    ),
  ),
  refl,
)

pub receive_waits : ReceiveWaits
unfolding asked told doing reply_in returned
receive_waits = (
  _,
  (
    _,
    (recv 1 0, refl, omega arith, omega arith, (request.Recv true 0 (Some 0) (Some 7), refl, refl, refl, refl)),
    (_, (send 0 1, refl, omega arith, omega arith, (message, refl, refl, refl, refl)), refl),
  ),
  refl,
)

pub receive_posted : ReceivePosted
unfolding asked told doing reply_in returned
receive_posted = (
  _,
  (
    _,
    (irecv 1 0, refl, omega arith, omega arith, (request.Recv false 0 (Some 0) (Some 7), refl, refl, refl, refl)),
    (_, (send 0 1, refl, omega arith, omega arith, (message, refl, refl, refl, refl)), refl),
  ),
  refl,
)

pub says_buffered : SaysBuffered
unfolding asked told doing reply_in returned
says_buffered = (
  _,
  (
    _,
    (send_saying buffered_word 0 1, refl, omega arith, omega arith, (message, refl, refl, refl, refl)),
    refl,
  ),
  refl,
)

pub says_other : SaysOther
unfolding asked told doing reply_in returned
says_other = (
  _,
  (
    _,
    (send_saying (buffered_word - 1) 0 1, refl, omega arith, omega arith, (message, refl, refl, refl, refl)),
    refl,
  ),
  refl,
)

-- ---- ranks that need buffers

-- where each sent to the other
abbrev sent_back : Rank
sent_back = told (send 1 0) 0 (Answer.Reply (reply.Posted 2 true)) 10

abbrev after_both : Cluster
after_both = record {
  ranks = sent ∷ sent_back ∷ [];
  journal = with_entry one_sent
      (record {
        rank = 1;
        hart = 0;
        clock = 8;
        stamp = 10;
        request = request.Send false 0 0 7 (105 ∷ 10 ∷ []);
        reply = reply.Posted 2 true;
      });
  boxes = [];
}

second_send : IsStep (after_send (send 1 0)) (step 1 10 (Kind.Hub (reply.Posted 2 true))) after_both
unfolding asked told doing reply_in
second_send =
    (send 1 0, refl, omega arith, omega arith, (request.Send false 0 0 7 (105 ∷ 10 ∷ []), refl, refl, refl, refl))

pub send_first : SendFirst
unfolding asked told doing reply_in returned
send_first = (
  after_both,
  (_, first_send (send 1 0), (_, second_send, refl)),
  first_rests (0 ∷ 1 ∷ []) sent sent_back after_both.journal refl refl refl
      (record { receiver = 1; among = refl; rests_there = refl }) (λ posts asks. absurd (cc))
      (λ among. inr (inr (record { receiver = 0; among = refl; rests_there = refl }))),
)

pub one_goes_on : OneGoesOn
unfolding asked told doing reply_in returned stepped gives imm_result decoded
one_goes_on = (
  _,
  (
    _,
    first_send (send 1 0),
    (_, second_send, (_, (sent, refl, omega arith, omega arith, (refl, refl, refl)), refl)),
  ),
  λ need. elim (need.held 0 (told sent 0 Answer.Alone 10) 0 refl refl (omega arith)) [
    | inl stopped ↦ absurd stopped
    | inr (inl held) ↦ absurd held.patient.waits
    | inr (inr behind) ↦ (let is : false ≡ true = behind.rests_there in absurd (cc))
  ],
)

pub one_alone : OneAlone
unfolding asked told doing reply_in returned
one_alone = (
  after_both,
  (_, first_send (send 1 0), (_, second_send, refl)),
  λ need. elim (need.held 0 sent 0 refl refl (omega arith)) [
    | inl stopped ↦ absurd stopped
    | inr (inl held) ↦ absurd held.patient.waits
    | inr (inr behind) ↦
        let no : false ≡ true =
        subst (λ k. rests_for after_both 0 0 k ≡ true) (sym (only_one 0 behind.receiver behind.among)) behind.rests_there in
        absurd (cc)
  ],
)

pub to_itself : ToItself
unfolding asked told doing reply_in returned
to_itself = (
  _,
  (
    _,
    (
      send 0 0,
      refl,
      omega arith,
      omega arith,
      (request.Send false 0 0 7 (105 ∷ 10 ∷ []), refl, refl, refl, refl),
    ),
    refl,
  ),
  first_rests (0 ∷ []) (told (send 0 0) 0 (Answer.Reply (reply.Posted 1 true)) 9) (recv 1 0) _ refl refl refl
      (record { receiver = 0; among = refl; rests_there = refl }) (λ posts asks. absurd (cc)) (λ among. absurd (cc)),
)

pub to_ended : ToEnded
unfolding asked told doing reply_in returned
to_ended = (
  _,
  (_, first_send (ended (recv 1 0)), refl),
  first_rests (0 ∷ 1 ∷ []) sent (ended (recv 1 0)) one_sent refl refl refl
      (record { receiver = 1; among = refl; rests_there = refl }) (λ posts asks. absurd (cc)) (λ among. inl tt),
)

-- ---- a rank that waits by itself

pub waits_in_ssend : WaitsInSsend
unfolding asked told doing reply_in
waits_in_ssend = (
  _,
  (
    _,
    (ssend 0 1, refl, omega arith, omega arith, (request.Send true 0 1 7 (105 ∷ 10 ∷ []), refl, refl, refl, refl)),
    refl,
  ),
  (
    refl,
    both_stuck (0 ∷ 1 ∷ []) (told (ssend 0 1) 0 (Answer.Reply (reply.Posted 1 false)) 9) (ended (recv 1 0)) _ refl refl
        (inr (record {
          patient = record { waits = tt; on = refl };
          in_vain = (refl, λ k may. to_one (0 ∷ 1 ∷ []) 1 k refl may);
        }))
        (inl tt),
  ),
)

-- ---- ranks that are about to wait

pub unreceived_at_wait : UnreceivedAtWait
unfolding asked told doing reply_in returned stepped gives imm_result decoded
unreceived_at_wait = (
  _,
  (
    _,
    (isend 0 1, refl, omega arith, omega arith, (message, refl, refl, refl, refl)),
    (
      _,
      (_, refl, omega arith, omega arith, (refl, refl, refl)),
      (
        _,
        (_, refl, omega arith, omega arith, (refl, refl, refl)),
        (_, (_, refl, omega arith, omega arith, (refl, refl, refl)), refl),
      ),
    ),
  ),
  refl,
)

pub received_at_wait : ReceivedAtWait
unfolding asked told doing reply_in returned received received_message stepped gives imm_result decoded
received_at_wait = (
  _,
  (
    _,
    (isend 0 1, refl, omega arith, omega arith, (message, refl, refl, refl, refl)),
    (
      _,
      (_, refl, omega arith, omega arith, (refl, refl, refl)),
      (
        _,
        (_, refl, omega arith, omega arith, (refl, refl, refl)),
        (
          _,
          (_, refl, omega arith, omega arith, (refl, refl, refl)),
          (
            _,
            (recv 1 0, refl, omega arith, omega arith, (request.Recv true 0 (Some 0) (Some 7), refl, refl, refl, refl)),
            refl,
          ),
        ),
      ),
    ),
  ),
  refl,
)

-- each at its WAIT
abbrev behind_isend : Rank
behind_isend = told (isend 0 1) 0 (Answer.Reply (reply.Posted 1 true)) 9

abbrev at_wait : Rank
at_wait = told (told (told behind_isend 0 Answer.Alone 10) 0 Answer.Alone 11) 0 Answer.Alone 12

abbrev behind_other : Rank
behind_other = told (isend 1 0) 0 (Answer.Reply (reply.Posted 2 true)) 10

abbrev other_at_wait : Rank
other_at_wait = told (told (told behind_other 0 Answer.Alone 11) 0 Answer.Alone 12) 0 Answer.Alone 13

pub both_wait : BothWait
unfolding asked told doing reply_in returned stepped gives imm_result decoded
both_wait = (
  record { ranks = at_wait ∷ other_at_wait ∷ []; journal = after_both.journal; boxes = [] },
  (
    _,
    (isend 0 1, refl, omega arith, omega arith, (message, refl, refl, refl, refl)),
    (
      _,
      (isend 1 0, refl, omega arith, omega arith, (request.Send false 0 0 7 (105 ∷ 10 ∷ []), refl, refl, refl, refl)),
      (
        _,
        (_, refl, omega arith, omega arith, (refl, refl, refl)),
        (
          _,
          (_, refl, omega arith, omega arith, (refl, refl, refl)),
          (
            _,
            (_, refl, omega arith, omega arith, (refl, refl, refl)),
            (
              _,
              (_, refl, omega arith, omega arith, (refl, refl, refl)),
              (
                _,
                (_, refl, omega arith, omega arith, (refl, refl, refl)),
                (_, (_, refl, omega arith, omega arith, (refl, refl, refl)), refl),
              ),
            ),
          ),
        ),
      ),
    ),
  ),
  first_rests (0 ∷ 1 ∷ []) at_wait other_at_wait after_both.journal refl refl refl
      (record { receiver = 1; among = refl; rests_there = refl }) (λ posts asks. absurd (cc))
      (λ among. inr (inr (record { receiver = 0; among = refl; rests_there = refl }))),
)

pub says_buffered_at_wait : SaysBufferedAtWait
unfolding asked told doing reply_in returned stepped gives imm_result decoded
says_buffered_at_wait = (
  _,
  (
    _,
    (isend_saying buffered_word 0 1, refl, omega arith, omega arith, (message, refl, refl, refl, refl)),
    (
      _,
      (_, refl, omega arith, omega arith, (refl, refl, refl)),
      (
        _,
        (_, refl, omega arith, omega arith, (refl, refl, refl)),
        (_, (_, refl, omega arith, omega arith, (refl, refl, refl)), refl),
      ),
    ),
  ),
  refl,
)

pub one_of_two : OneOfTwo
unfolding asked told doing reply_in returned received received_message stepped gives imm_result decoded
one_of_two = (
  _,
  (
    _,
    (isend_twice 0 1, refl, omega arith, omega arith, (message, refl, refl, refl, refl)),
    (
      _,
      (_, refl, omega arith, omega arith, (refl, refl, refl)),
      (
        _,
        (_, refl, omega arith, omega arith, (refl, refl, refl)),
        (
          _,
          (_, refl, omega arith, omega arith, (message, refl, refl, refl, refl)),
          (
            _,
            (_, refl, omega arith, omega arith, (refl, refl, refl)),
            (
              _,
              (_, refl, omega arith, omega arith, (refl, refl, refl)),
              (
                _,
                (_, refl, omega arith, omega arith, (refl, refl, refl)),
                (
                  _,
                  (_, refl, omega arith, omega arith, (refl, refl, refl)),
                  (
                    _,
                    (
                      recv 1 0,
                      refl,
                      omega arith,
                      omega arith,
                      (request.Recv true 0 (Some 0) (Some 7), refl, refl, refl, refl),
                    ),
                    refl,
                  ),
                ),
              ),
            ),
          ),
        ),
      ),
    ),
  ),
  refl,
)

pub sync_at_wait : SyncAtWait
unfolding asked told doing reply_in returned stepped gives imm_result decoded
sync_at_wait = (
  _,
  (
    _,
    (issend 0 1, refl, omega arith, omega arith, (request.Send true 0 1 7 (105 ∷ 10 ∷ []), refl, refl, refl, refl)),
    (
      _,
      (_, refl, omega arith, omega arith, (refl, refl, refl)),
      (
        _,
        (_, refl, omega arith, omega arith, (refl, refl, refl)),
        (_, (_, refl, omega arith, omega arith, (refl, refl, refl)), refl),
      ),
    ),
  ),
  refl,
)

-- ---- ranks that wait for something else too

abbrev behind_isend_irecv : Rank
behind_isend_irecv = told (isend_irecv 0 1) 0 (Answer.Reply (reply.Posted 1 true)) 9

abbrev at_irecv : Rank
at_irecv = told (told behind_isend_irecv 0 Answer.Alone 10) 0 Answer.Alone 11

abbrev behind_irecv : Rank
behind_irecv = told at_irecv 0 (Answer.Reply (reply.Posted 2 false)) 12

abbrev at_waitall : Rank
at_waitall = told (told (told behind_irecv 0 Answer.Alone 13) 0 Answer.Alone 14) 0 Answer.Alone 15

abbrev sent_and_posted : Journal
sent_and_posted =
    with_entry one_sent
    (record {
      rank = 0;
      hart = 0;
      clock = 11;
      stamp = 12;
      request = request.Recv false 0 (Some 1) (Some 7);
      reply = reply.Posted 2 false;
    })

abbrev after_irecv : Rank → Cluster
after_irecv other = record { ranks = at_waitall ∷ other ∷ []; journal = sent_and_posted; boxes = [] }

module _ (other : Rank) (more : List Step) (end : Cluster) where
  came_to_waitall : IsRun (after_irecv other) more end → IsRun (both (isend_irecv 0 1) other) (comes_to_waitall ++ more) end
  unfolding asked told doing reply_in returned stepped gives imm_result decoded
  came_to_waitall run = (
    _,
    (isend_irecv 0 1, refl, omega arith, omega arith, (message, refl, refl, refl, refl)),
    (
      _,
      (_, refl, omega arith, omega arith, (refl, refl, refl)),
      (
        _,
        (_, refl, omega arith, omega arith, (refl, refl, refl)),
        (
          _,
          (_, refl, omega arith, omega arith, (request.Recv false 0 (Some 1) (Some 7), refl, refl, refl, refl)),
          (
            _,
            (_, refl, omega arith, omega arith, (refl, refl, refl)),
            (
              _,
              (_, refl, omega arith, omega arith, (refl, refl, refl)),
              (_, (_, refl, omega arith, omega arith, (refl, refl, refl)), run),
            ),
          ),
        ),
      ),
    ),
  )

pub stuck_anyway : StuckAnyway
unfolding asked told doing reply_in returned stepped gives imm_result decoded
stuck_anyway = (
  after_irecv (ended (recv 1 0)),
  came_to_waitall (ended (recv 1 0)) [] (after_irecv (ended (recv 1 0))) refl,
  λ need. let some = need.some in
      by some.r some.rank some.hart some.there some.inside some.rests_there some.else_ready,
)
  where
    c : Cluster
    c = after_irecv (ended (recv 1 0))

    by : (r : ℕ) (rank : Rank) (hart : ℕ) → slice_get c.ranks r ≡ Some rank → hart < length rank.harts
        → RestsAmong (0 ∷ 1 ∷ []) c r hart → IsElseReady c r rank hart → ⊥
    by zero rank zero there inside rests_there else_ready =
        (let no : false ≡ true =
        subst (λ (x : Rank). IsElseReady c 0 x 0) (sym (same_Some at_waitall rank there)) else_ready (2 ∷ []) refl in
        absurd (cc))
    by zero rank (suc hart) there inside rests_there else_ready =
        (let n : 1 ≡ length rank.harts = ap (λ (y : Rank). length y.harts) (same_Some at_waitall rank there) in
        absurd (omega (arith, n, inside)))
    by (suc zero) rank zero there inside rests_there else_ready =
        (let no : false ≡ true = rests_there.rests_there in absurd (cc))
    by (suc zero) rank (suc hart) there inside rests_there else_ready =
        (let n : 1 ≡ length rank.harts = ap (λ (y : Rank). length y.harts) (same_Some (ended (recv 1 0)) rank there) in
        absurd (omega (arith, n, inside)))
    by (suc (suc r)) rank hart there inside rests_there else_ready = absurd (cc)

abbrev behind_send : Rank
behind_send = told (send_and_exit 1 0) 0 (Answer.Reply (reply.Posted 3 true)) 13

abbrev at_exit : Rank
at_exit = told behind_send 0 Answer.Alone 14

abbrev exited : Rank
exited = told at_exit 0 Answer.Alone 15

abbrev all_sent : Journal
all_sent =
    with_entry sent_and_posted
    (record {
      rank = 1;
      hart = 0;
      clock = 8;
      stamp = 13;
      request = request.Send false 0 0 7 (105 ∷ 10 ∷ []);
      reply = reply.Posted 3 true;
    })

pub only_send_left : OnlySendLeft
unfolding asked told doing reply_in returned stepped gives imm_result decoded
only_send_left = (
  record { ranks = at_waitall ∷ exited ∷ []; journal = all_sent; boxes = [] },
  came_to_waitall (send_and_exit 1 0)
      (step 1 13 (Kind.Hub (reply.Posted 3 true)) ∷ step 1 14 Kind.Plain ∷ step 1 15 Kind.Local ∷ [])
      (record { ranks = at_waitall ∷ exited ∷ []; journal = all_sent; boxes = [] }) (
        _,
        (
          send_and_exit 1 0,
          refl,
          omega arith,
          omega arith,
          (request.Send false 0 0 7 (105 ∷ 10 ∷ []), refl, refl, refl, refl),
        ),
        (
          _,
          (_, refl, omega arith, omega arith, (refl, refl, refl)),
          (_, (_, refl, omega arith, omega arith, (refl, refl, refl)), refl),
        ),
      ),
  first_rests (0 ∷ 1 ∷ []) at_waitall exited all_sent refl refl refl
      (record { receiver = 1; among = refl; rests_there = refl }) (only_one_asked (2 ∷ []) refl) (λ among. inl tt),
)
  where
    c : Cluster
    c = record { ranks = at_waitall ∷ exited ∷ []; journal = all_sent; boxes = [] }

    only_one_asked : (ns : List ℕ) → list_all (λ n. is_ready (hub_of c.journal) 0 n) ns ≡ true
        → (posts : List ℕ) → ask.Hub (request.All ns) ≡ ask.Hub (request.All posts)
        → list_all (λ n. is_ready (hub_of c.journal) 0 n) posts ≡ true
    only_one_asked ns ready posts asks =
        (let same : ns ≡ posts = cc in subst (λ xs. list_all (λ n. is_ready (hub_of c.journal) 0 n) xs ≡ true) same ready)
