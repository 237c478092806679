-- The worked rows.
use Rattle.std.specs.Prelude.{ℕ, zero, suc, ◌<◌, ◌≡◌, ◌⊎◌, ◌==◌, ◌&&◌, true, false, List, [], ◌∷◌, length, Some, None}
use Rattle.std.proofs.Common.{refl, ap, subst, sym, ◌∙◌, inl, inr, arith}
use Rattle.std.proofs.lemmas.Bool.{and_parts, cases_eq, eqb-true, ne_eqb}
use Rattle.std.proofs.lemmas.Option.{same_Some}
use Rattle.mp_types.specs.declared.replies.Reply.TheVariants as reply
use Rattle.mp_types.specs.declared.requests.Request.TheVariants as request
use Rattle.cl_calls.specs.Calls.{any}
use Rattle.cl_state.specs.declared.asking.Answer.{Answer}
use Rattle.cl_state.specs.Asked.{asked, doing}
use Rattle.cl_state.specs.Rank.{Rank}
use Rattle.cl_state.specs.Rows.{first_of_two}
use Rattle.cl_state.specs.Told.{told}
use Rattle.cl_state_laws.specs.Vain.{IsStopped, mode_of}
use Rattle.cl_machine.specs.Boxes.{Box, IsEmpty, empty_box}
use Rattle.cl_machine.specs.Cluster.{Cluster}
use Rattle.cl_machine.specs.Journal.{Journal, reply_in}
use Rattle.cl_deadlock_laws.specs.Worked.{AnySource, FromItself, SentBefore, WaitForSecond, waitall}
use Rattle.cl_deadlock_laws.specs.Worked.{NobodyLeft, NoneReady, NoneTakes, OneAlone, OneRuns, ReceiveFirst, SendFirst, ended}
use Rattle.cl_deadlock_laws.specs.Worked.{left_there, recv, ssend, waits_for_it, waits_to_be_taken, waits_unready}
use Rattle.cl_deadlock_laws.specs.Stuck.{AreStuck, IsStuckHart, is_among, is_member}

-- two ranks with a hart each
module _ (ranks : List ℕ) (a b : Rank) (j : Journal) (bs : List Box) (one_a : length a.harts ≡ 1)
    (one_b : length b.harts ≡ 1) where
  abbrev two : Cluster
  two = record { ranks = a ∷ b ∷ []; journal = j; boxes = bs }

  abbrev Rest : ℕ → Rank → ℕ → Type 0
  Rest r rank hart = IsStopped (mode_of rank hart) ⊎ IsStuckHart ranks two r rank hart

  of_rank : (r : ℕ) (rank x : Rank) (hart : ℕ) → length rank.harts ≡ 1 → rank ≡ x → Rest r rank 0
      → hart < length x.harts → Rest r x hart
  of_rank r rank x zero one same rest low = subst (λ (y : Rank). Rest r y 0) same rest
  of_rank r rank x (suc hart) one same rest low =
      (let n : length rank.harts ≡ length x.harts = ap (λ (y : Rank). length y.harts) same in
      absurd (omega (arith, n, one, low)))

  both_stuck : Rest 0 a 0 → Rest 1 b 0 → AreStuck ranks two
  both_stuck first second zero rank hart among here low =
      of_rank 0 a rank hart one_a (same_Some a rank here) first low
  both_stuck first second (suc zero) rank hart among here low =
      of_rank 1 b rank hart one_b (same_Some b rank here) second low
  both_stuck first second (suc (suc r)) rank hart among here low = absurd (cc)

  -- the second isn't one of these
  first_stuck : is_among ranks 1 ≡ false → Rest 0 a 0 → AreStuck ranks two
  first_stuck out first zero rank hart among here low =
      of_rank 0 a rank hart one_a (same_Some a rank here) first low
  first_stuck out first (suc zero) rank hart among here low = (let no : false ≡ true = sym out ∙ among in absurd (cc))
  first_stuck out first (suc (suc r)) rank hart among here low = absurd (cc)

from_one : (source k : ℕ) → is_among (0 ∷ 1 ∷ []) source ≡ true → ((k == source) && is_member first_of_two 0 k) ≡ true
    → is_among (0 ∷ 1 ∷ []) k ≡ true
from_one source k its may =
    subst (λ n. is_among (0 ∷ 1 ∷ []) n ≡ true)
    (sym (eqb-true k source (and_parts (k == source) (is_member first_of_two 0 k) may).0)) its

-- the members of communicator 0 are ranks 0 and 1
from_any : (k : ℕ) → is_member first_of_two 0 k ≡ true → is_among (0 ∷ 1 ∷ []) k ≡ true
from_any k may = elim (cases_eq 0 k) [
  | inl zero_is ↦ subst (λ n. is_among (0 ∷ 1 ∷ []) n ≡ true) zero_is refl
  | inr not_zero ↦ elim (cases_eq 1 k) [
    | inl one_is ↦ subst (λ n. is_among (0 ∷ 1 ∷ []) n ≡ true) one_is refl
    | inr not_one ↦
        let first : (0 == k) ≡ false = ne_eqb 0 k not_zero in
        let second : (1 == k) ≡ false = ne_eqb 1 k not_one in
        let none : is_member first_of_two 0 k ≡ false = rw (first, second) refl in absurd (cc)
  ]
]

to_one : (dest k : ℕ) → is_among (0 ∷ 1 ∷ []) dest ≡ true → (dest == k) ≡ true → is_among (0 ∷ 1 ∷ []) k ≡ true
to_one dest k its may = subst (λ n. is_among (0 ∷ 1 ∷ []) n ≡ true) (eqb-true dest k may) its

pub receive_first : ReceiveFirst
unfolding asked told doing reply_in
receive_first = (
  _,
  (
    _,
    (recv 0 1, refl, omega arith, omega arith, (request.Recv true 0 (Some 1) (Some 7), refl, refl, refl, refl)),
    (
      _,
      (recv 1 0, refl, omega arith, omega arith, (request.Recv true 0 (Some 0) (Some 7), refl, refl, refl, refl)),
      refl,
    ),
  ),
  both_stuck (0 ∷ 1 ∷ []) (told (recv 0 1) 0 (Answer.Reply (reply.Posted 1 false)) 9)
      (told (recv 1 0) 0 (Answer.Reply (reply.Posted 2 false)) 10) _ _ refl refl
      (inr (record { patient = record { waits = tt; on = refl }; in_vain = (refl, λ k may. from_one 1 k refl may) }))
      (inr (record { patient = record { waits = tt; on = refl }; in_vain = (refl, λ k may. from_one 0 k refl may) })),
)

pub send_first : SendFirst
unfolding asked told doing reply_in
send_first = (
  _,
  (
    _,
    (ssend 0 1, refl, omega arith, omega arith, (request.Send true 0 1 7 (105 ∷ 10 ∷ []), refl, refl, refl, refl)),
    (
      _,
      (
        ssend 1 0,
        refl,
        omega arith,
        omega arith,
        (request.Send true 0 0 7 (105 ∷ 10 ∷ []), refl, refl, refl, refl),
      ),
      refl,
    ),
  ),
  both_stuck (0 ∷ 1 ∷ []) (told (ssend 0 1) 0 (Answer.Reply (reply.Posted 1 false)) 9)
      (told (ssend 1 0) 0 (Answer.Reply (reply.Posted 2 false)) 10) _ _ refl refl
      (inr (record { patient = record { waits = tt; on = refl }; in_vain = (refl, λ k may. to_one 1 k refl may) }))
      (inr (record { patient = record { waits = tt; on = refl }; in_vain = (refl, λ k may. to_one 0 k refl may) })),
)

pub nobody_left : NobodyLeft
unfolding asked told doing reply_in
nobody_left = (
  _,
  (_, (recv 1 any, refl, omega arith, omega arith, (request.Recv true 0 None (Some 7), refl, refl, refl, refl)), refl),
  both_stuck (0 ∷ 1 ∷ []) (ended (recv 0 1)) (told (recv 1 any) 0 (Answer.Reply (reply.Posted 1 false)) 9) _ _ refl refl
      (inl tt)
      (inr (record { patient = record { waits = tt; on = refl }; in_vain = (refl, from_any) })),
)

pub one_alone : OneAlone
unfolding asked told doing reply_in
one_alone = (
  _,
  (
    _,
    (recv 0 1, refl, omega arith, omega arith, (request.Recv true 0 (Some 1) (Some 7), refl, refl, refl, refl)),
    (
      _,
      (recv 1 0, refl, omega arith, omega arith, (request.Recv true 0 (Some 0) (Some 7), refl, refl, refl, refl)),
      refl,
    ),
  ),
  λ stuck. elim (stuck 1 (told (recv 1 0) 0 (Answer.Reply (reply.Posted 2 false)) 10) 0 refl refl (omega arith)) [
    | inl stopped ↦ absurd stopped
    | inr held ↦ (let among : is_among (1 ∷ []) 0 ≡ true = (held.in_vain).1 0 refl in absurd (cc))
  ],
)

pub one_runs : OneRuns
unfolding asked told doing reply_in
one_runs = (
  _,
  (
    _,
    (recv 1 0, refl, omega arith, omega arith, (request.Recv true 0 (Some 0) (Some 7), refl, refl, refl, refl)),
    refl,
  ),
  λ stuck. elim (stuck 0 (recv 0 1) 0 refl refl (omega arith)) [
    | inl stopped ↦ absurd stopped
    | inr held ↦ absurd held.patient.waits
  ],
)

pub none_ready : NoneReady
unfolding asked told doing reply_in
none_ready = (
  _,
  (
    _,
    (waits_unready, refl, omega arith, omega arith, (refl, refl, refl)),
    (_, (waits_for_it, refl, omega arith, omega arith, (0, 0, inl refl, refl, refl)), refl),
  ),
  both_stuck (0 ∷ 1 ∷ []) (told waits_unready 0 Answer.Alone 1) (told waits_for_it 0 Answer.Missed 1) _ _ refl refl
      (inr (record { patient = record { waits = tt; on = refl }; in_vain = tt }))
      (inr (record {
        patient = record { waits = tt; on = refl };
        in_vain = (
          λ box there. subst (λ (b : Box). IsEmpty b) (same_Some empty_box box there) refl,
          λ k may. to_one 0 k refl may,
        );
      })),
)

pub none_takes : NoneTakes
unfolding asked told doing reply_in
none_takes = (
  _,
  (_, (waits_to_be_taken, refl, omega arith, omega arith, (0, 0, inr refl, refl, refl)), refl),
  both_stuck (0 ∷ 1 ∷ []) (told waits_to_be_taken 0 Answer.Missed 1) (ended waits_for_it) _ _ refl refl
      (inr (record {
        patient = record { waits = tt; on = refl };
        in_vain = (
          λ box there empty.
              (let is : IsEmpty left_there = subst (λ (b : Box). IsEmpty b) (sym (same_Some left_there box there))
              empty in
              absurd (cc)),
          λ k may. to_one 1 k refl may,
        );
      }))
      (inl tt),
)

pub any_source : AnySource
unfolding asked told doing reply_in
any_source = (
  _,
  (_, (recv 1 any, refl, omega arith, omega arith, (request.Recv true 0 None (Some 7), refl, refl, refl, refl)), refl),
  λ stuck. elim (stuck 1 (told (recv 1 any) 0 (Answer.Reply (reply.Posted 1 false)) 9) 0 refl refl (omega arith)) [
    | inl stopped ↦ absurd stopped
    | inr held ↦ (let among : is_among (1 ∷ []) 0 ≡ true = (held.in_vain).1 0 refl in absurd (cc))
  ],
)

pub sent_before : SentBefore
unfolding asked told doing reply_in
sent_before = (
  _,
  (
    _,
    (recv 1 0, refl, omega arith, omega arith, (request.Recv true 0 (Some 0) (Some 7), refl, refl, refl, refl)),
    (
      _,
      (ssend 0 1, refl, omega arith, omega arith, (request.Send true 0 1 7 (105 ∷ 10 ∷ []), refl, refl, refl, refl)),
      refl,
    ),
  ),
  λ stuck. elim (stuck 1 (told (recv 1 0) 0 (Answer.Reply (reply.Posted 1 false)) 9) 0 refl refl (omega arith)) [
    | inl stopped ↦ absurd stopped
    | inr held ↦ (let not_yet = (held.in_vain).0 in absurd (cc))
  ],
)

pub from_itself : FromItself
unfolding asked told doing reply_in
from_itself = (
  _,
  (
    _,
    (recv 0 0, refl, omega arith, omega arith, (request.Recv true 0 (Some 0) (Some 7), refl, refl, refl, refl)),
    refl,
  ),
  first_stuck (0 ∷ []) (told (recv 0 0) 0 (Answer.Reply (reply.Posted 1 false)) 9) (recv 1 0) _ _ refl refl refl
      (inr (record { patient = record { waits = tt; on = refl }; in_vain = (refl, λ k may. itself k may) })),
)
  where
    itself : (k : ℕ) → ((k == 0) && is_member first_of_two 0 k) ≡ true → is_among (0 ∷ []) k ≡ true
    itself k may =
        subst (λ n. is_among (0 ∷ []) n ≡ true)
        (sym (eqb-true k 0 (and_parts (k == 0) (is_member first_of_two 0 k) may).0)) refl

pub wait_for_second : WaitForSecond
unfolding asked told doing reply_in
wait_for_second = (
  _,
  (_, (waitall, refl, omega arith, omega arith, (request.All (1 ∷ 2 ∷ []), refl, refl, refl, refl)), refl),
  both_stuck (0 ∷ 1 ∷ []) (told waitall 0 (Answer.Reply reply.NotYet) 9) (ended (recv 1 0)) _ _ refl refl
      (inr (record {
        patient = record { waits = tt; on = refl };
        in_vain = (refl, (1, 2, refl, refl, λ k may. from_one 1 k refl may));
      }))
      (inl tt),
)
