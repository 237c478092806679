-- The worked rows compute.
use Rattle.std.proofs.Common.{◌≡◌, ◌∙◌, ℕ, zero, suc, ◌<◌, refl, sym, ap, arith, List, [], ◌∷◌, Option, Some, None}
use Rattle.std.specs.Prelude.{false, true}
use Rattle.std.specs.List.{slice_get}
use Rattle.std.proofs.lemmas.Option.{same_Some}
use Rattle.mp_types.specs.declared.requests.Request.TheVariants as request
use Rattle.mp_types.specs.declared.replies.Reply.TheVariants as reply
use Rattle.mp_match.specs.declared.posts.Post.{Post}
use Rattle.mp_match.specs.declared.posts.Post.TheVariants.{Receive, Send}
use Rattle.mp_match.specs.declared.posts.Selection.{Selection}
use Rattle.mp_match.specs.declared.posts.Sent.{Sent}
use Rattle.mp_match.specs.Order.{SendsAt}
use Rattle.mp_match.specs.PostPairs.{posts_of}
use Rattle.mp_hub.specs.Hub.{selecting, sending}
use Rattle.mp_way_laws.specs.Way.{IsNext, IsSameBox, WayView, lines_of}
use Rattle.cl_calls.specs.Calls.{any}
use Rattle.cl_state.specs.declared.asking.Answer.{Answer}
use Rattle.cl_state.specs.Asked.{asked, doing}
use Rattle.cl_state.specs.Rank.{Rank}
use Rattle.cl_state.specs.Told.{received, received_message, returned, told, with_status}
use Rattle.cl_machine.specs.Journal.{reply_in}
use Rattle.cl_way_laws.specs.Clusters.{at_hub}
use Rattle.cl_way_laws.specs.Rows.{AtOnce, Named, NoEnd, Overtaken, PostedLater, Waited, WorkedWays, from_one, from_two, got, one_of_three, one_of_two, receives, sends, sends_and_goes_on, waits_for}

-- ---- which message may arrive next

same_sent : (s t : Sent) → (let o : Option Post = Some (Send s) in o) ≡ Some (Send t) → s ≡ t
same_sent s t e = cc

other_source : (s t : Sent) (n : ℕ) → (let o : Option Post = Some (Send s) in o) ≡ Some (Send t) → t.envelope.source ≡ n
    → (s.envelope.source ≡ n → ⊥) → ⊥
other_source s t n at same apart = apart (ap (λ (x : Sent). x.envelope.source) (same_sent s t at) ∙ same)

other_dest : (s t : Sent) (n : ℕ) → (let o : Option Post = Some (Send s) in o) ≡ Some (Send t) → t.dest ≡ n
    → (s.dest ≡ n → ⊥) → ⊥
other_dest s t n at same apart = apart (ap (λ (x : Sent). x.dest) (same_sent s t at) ∙ same)

no_send : (a : Selection) (t : Sent) → (let o : Option Post = Some (Receive a) in o) ≡ Some (Send t) → ⊥
no_send a t e = absurd (cc)

abbrev first : Sent
first = sending 1 false 0 0 7 from_one

abbrev second : Sent
second = sending 1 false 0 2 7 from_one

abbrev third : Sent
third = sending 2 false 0 0 7 from_two

none : (n place : ℕ) → (let xs : List ℕ = [] in slice_get xs n ≡ Some place) → ⊥
none n place e = absurd (cc)

-- of these two places neither is this one
neither : (a b place n : ℕ) → (a ≡ place → ⊥) → (b ≡ place → ⊥) → slice_get (a ∷ b ∷ []) n ≡ Some place → ⊥
neither a b place zero na nb e = na (same_Some a place e)
neither a b place (suc zero) na nb e = nb (same_Some b place e)
neither a b place (suc (suc n)) na nb e = absurd (cc)

not_one : (a place n : ℕ) → (a ≡ place → ⊥) → slice_get (a ∷ []) n ≡ Some place → ⊥
not_one a place zero na e = na (same_Some a place e)
not_one a place (suc n) na e = absurd (cc)

second_next : (w : WayView) → posts_of (lines_of w) ≡ Send first ∷ Send second ∷ [] → w.arrived ≡ [] → IsNext w 1 second
second_next w posts arrived = record {
  is = ap (λ ps. slice_get ps 1) posts;
  on_its_way = λ h. none h.0 1 (ap (λ xs. slice_get xs h.0) (sym arrived) ∙ h.1);
  first = λ i other low at same. absurd (go i other low (ap (λ ps. slice_get ps i) (sym posts) ∙ at) same);
}
  where
    go : (i : ℕ) (other : Sent) → i < 1 → SendsAt (Send first ∷ Send second ∷ []) i other → IsSameBox other second → ⊥
    go zero other low at same = other_dest first other 2 at same.dest (λ e. omega (arith, e))
    go (suc i) other low at same = omega (arith, low)

abbrev received_by_two : Post
received_by_two = Receive (selecting 2 0 (Some 1) (Some 7))

third_next : (w : WayView)
    → posts_of (lines_of w) ≡ Send first ∷ Send second ∷ received_by_two ∷ Send third ∷ [] → w.arrived ≡ 1 ∷ []
    → IsNext w 3 third
third_next w posts arrived = record {
  is = ap (λ ps. slice_get ps 3) posts;
  on_its_way = λ h. not_one 1 3 h.0 (λ e. omega (arith, e)) (ap (λ xs. slice_get xs h.0) (sym arrived) ∙ h.1);
  first = λ i other low at same. absurd (go i other low (ap (λ ps. slice_get ps i) (sym posts) ∙ at) same);
}
  where
    go : (i : ℕ) (other : Sent) → i < 3 → SendsAt (Send first ∷ Send second ∷ received_by_two ∷ Send third ∷ []) i other
        → IsSameBox other third → ⊥
    go zero other low at same = other_source first other 2 at same.source (λ e. omega (arith, e))
    go (suc zero) other low at same = other_source second other 2 at same.source (λ e. omega (arith, e))
    go (suc (suc zero)) other low at same = no_send (selecting 2 0 (Some 1) (Some 7)) other at
    go (suc (suc (suc i))) other low at same = omega (arith, low)

first_next : (w : WayView) (ps : List Post) → posts_of (lines_of w) ≡ Send first ∷ ps → w.arrived ≡ 1 ∷ 3 ∷ []
    → IsNext w 0 first
first_next w ps posts arrived = record {
  is = ap (λ qs. slice_get qs 0) posts;
  on_its_way = λ h. neither 1 3 0 h.0 (λ e. omega (arith, e)) (λ e. omega (arith, e))
      (ap (λ xs. slice_get xs h.0) (sym arrived) ∙ h.1);
  first = λ i other low at same. absurd (omega (arith, low));
}

-- ---- runs

abbrev rank_one : Rank
rank_one = one_of_three 1 (sends 9 0 ∷ sends 9 2 ∷ [])

abbrev rank_two : Rank
rank_two = one_of_three 2 (receives 1 ∷ sends 8 0 ∷ [])

abbrev posted : ℕ → Answer
posted n = Answer.Reply (reply.Posted n true)

abbrev sent_one : Rank
sent_one = told rank_one 0 (posted 1) 9

abbrev got_two : Rank
got_two = told rank_two 0 (Answer.Reply (reply.Got got)) 11

pub overtaken : Overtaken
unfolding asked told doing returned received received_message with_status
overtaken = (
  _,
  (
    _,
    at_hub rank_one (request.Send false 0 0 7 from_one) 9 refl (omega arith) refl refl,
    (
      _,
      at_hub sent_one (request.Send false 0 2 7 from_one) 10 refl (omega arith) refl refl,
      (
        _,
        (second_next _ refl refl, refl),
        (
          _,
          at_hub rank_two (request.Recv true 0 (Some 1) (Some 7)) 11 refl (omega arith) refl refl,
          (
            _,
            at_hub got_two (request.Send false 0 0 7 from_two) 12 refl (omega arith) refl refl,
            (
              _,
              (third_next _ refl refl, refl),
              (
                _,
                at_hub (one_of_three 0 (receives any ∷ [])) (request.Recv true 0 None (Some 7)) 13 refl
                    (omega arith) refl refl,
                refl,
              ),
            ),
          ),
        ),
      ),
    ),
  ),
  refl,
)

pub named : Named
unfolding asked told doing returned received received_message with_status
named = (
  _,
  (
    _,
    at_hub rank_one (request.Send false 0 0 7 from_one) 9 refl (omega arith) refl refl,
    (
      _,
      at_hub sent_one (request.Send false 0 2 7 from_one) 10 refl (omega arith) refl refl,
      (
        _,
        (second_next _ refl refl, refl),
        (
          _,
          at_hub rank_two (request.Recv true 0 (Some 1) (Some 7)) 11 refl (omega arith) refl refl,
          (
            _,
            at_hub got_two (request.Send false 0 0 7 from_two) 12 refl (omega arith) refl refl,
            (
              _,
              (third_next _ refl refl, refl),
              (
                _,
                at_hub (one_of_three 0 (receives 1 ∷ [])) (request.Recv true 0 (Some 1) (Some 7)) 13 refl
                    (omega arith) refl refl,
                (
                  _,
                  (first_next _ _ refl refl, refl),
                  (
                    _,
                    at_hub (told (one_of_three 0 (receives 1 ∷ [])) 0 (Answer.Reply (reply.Posted 5 false)) 13)
                        (request.Collect 5) 14
                        refl (omega arith) refl refl,
                    refl,
                  ),
                ),
              ),
            ),
          ),
        ),
      ),
    ),
  ),
  refl,
)

pub at_once : AtOnce
unfolding asked told doing returned received received_message with_status reply_in
at_once = (
  _,
  (
    _,
    (rank_one, refl, omega arith, omega arith, (request.Send false 0 0 7 from_one, refl, refl, refl, refl)),
    (
      _,
      (sent_one, refl, omega arith, omega arith, (request.Send false 0 2 7 from_one, refl, refl, refl, refl)),
      (
        _,
        (rank_two, refl, omega arith, omega arith, (request.Recv true 0 (Some 1) (Some 7), refl, refl, refl, refl)),
        (
          _,
          (got_two, refl, omega arith, omega arith, (request.Send false 0 0 7 from_two, refl, refl, refl, refl)),
          (
            _,
            (
              one_of_three 0 (receives any ∷ []),
              refl,
              omega arith,
              omega arith,
              (request.Recv true 0 None (Some 7), refl, refl, refl, refl),
            ),
            refl,
          ),
        ),
      ),
    ),
  ),
  refl,
)

pub no_end : NoEnd
unfolding asked told doing returned
no_end = (
  _,
  (_, at_hub rank_one (request.Send false 0 0 7 from_one) 9 refl (omega arith) refl refl, refl),
  λ ended. (let at = ended.arrived 0 first refl in absurd (none at.0 0 at.1)),
)

-- ---- a synchronous send

abbrev fourth : Sent
fourth = sending 1 true 0 0 7 from_one

fourth_next : (w : WayView) (a : Selection) → posts_of (lines_of w) ≡ Receive a ∷ Send fourth ∷ [] → w.arrived ≡ []
    → IsNext w 1 fourth
fourth_next w a posts arrived = record {
  is = ap (λ qs. slice_get qs 1) posts;
  on_its_way = λ h. none h.0 1 (ap (λ xs. slice_get xs h.0) (sym arrived) ∙ h.1);
  first = λ i other low at same. absurd (before i other low (ap (λ qs. slice_get qs i) (sym posts) ∙ at));
}
  where
    before : (i : ℕ) (other : Sent) → i < 1 → slice_get (Receive a ∷ Send fourth ∷ []) i ≡ Some (Send other) → ⊥
    before zero other low at = no_send a other at
    before (suc i) other low at = omega (arith, low)

abbrev receiver : Rank
receiver = one_of_two 0 (receives 1 ∷ [])

abbrev sender : Rank
sender = one_of_two 1 (sends_and_goes_on 0 ∷ waits_for 1 ∷ [])

-- its ISSEND was made, and its WAIT was, in vain
abbrev has_sent : Rank
has_sent = told sender 0 (Answer.Reply (reply.Posted 2 false)) 10

abbrev has_waited : Rank
has_waited = told has_sent 1 (Answer.Reply reply.NotYet) 11

pub waited : Waited
unfolding asked told doing returned received received_message with_status
waited = (
  _,
  (
    _,
    at_hub receiver (request.Recv true 0 (Some 1) (Some 7)) 9 refl (omega arith) refl refl,
    (
      _,
      at_hub sender (request.Send true 0 0 7 from_one) 10 refl (omega arith) refl refl,
      (_, at_hub has_sent (request.Finished 2) 11 refl (omega arith) refl refl, refl),
    ),
  ),
  refl,
  refl,
  _,
  (
    _,
    (fourth_next _ _ refl refl, refl),
    (_, at_hub has_waited (request.Finished 2) 12 refl (omega arith) refl refl, refl),
  ),
  refl,
)

pub posted_later : PostedLater
unfolding asked told doing returned received received_message with_status
posted_later = (
  _,
  (
    _,
    at_hub sender (request.Send true 0 0 7 from_one) 9 refl (omega arith) refl refl,
    (_, at_hub receiver (request.Recv true 0 (Some 1) (Some 7)) 10 refl (omega arith) refl refl, refl),
  ),
  refl,
  refl,
)

pub worked_ways : WorkedWays
worked_ways = record { overtaken = overtaken; named = named; no_end = no_end; at_once = at_once; waited = waited; posted_later = posted_later }
