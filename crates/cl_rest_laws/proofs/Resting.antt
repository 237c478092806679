-- Ranks that rest: what a turn of another rank leaves of it, and that alike clusters have the same ones.
use Rattle.std.proofs.Common.{◌≡◌, ◌⊎◌, ℕ, zero, suc, inl, inr, List, [], ◌∷◌, length, Bool, true, false, Option, Some, None, refl, sym, ap, ◌∙◌, subst}
use Rattle.std.specs.Prelude.{◌≢◌, ◌==◌, ◌&&◌, ◌||◌, is_some, nat_lt, not}
use Rattle.std.specs.List.{list_all, list_any, slice_get, slice_set}
use Rattle.std.specs.Option.{option_map}
use Rattle.std.proofs.lemmas.Bool.{and_from, and_parts, cases_Bool, cond-false, cond-true, eq-eqb, eqb-true, or_cases, or_left, or_right}
use Rattle.rv_hart.specs.State.{State}
use Rattle.rv_hart.specs.declared.state.Mode.{Mode}
use Rattle.rv_hart.specs.declared.state.Mode.TheVariants.{Running, Waiting, Ended, Trapped}
use Rattle.rv_hart.specs.declared.state.Wait.TheVariants.{Post as OnPost, Again}
use Rattle.rv_memory.specs.Memory.{Memory}
use Rattle.mp_types.specs.declared.requests.Request.{Request}
use Rattle.mp_match.specs.declared.posts.Line.{Line}
use Rattle.mp_match.specs.declared.posts.Post.TheVariants as post
use Rattle.mp_match.specs.declared.posts.Sent.{Sent}
use Rattle.mp_match.specs.Board.{is_send_of, line_of, partner_of}
use Rattle.mp_match.specs.Pairs.{partner_of_line}
use Rattle.mp_hub.specs.Held.{AreHeld}
use Rattle.mp_hub.specs.Hub.{HubView, is_complete, is_ready, outcome}
use Rattle.mp_request.specs.declared.entries.OpenRequest.{OpenRequest}
use Rattle.mp_request.specs.declared.entries.Progress.{Progress}
use Rattle.mp_request.specs.declared.entries.Progress.TheVariants as progress
use Rattle.mp_request.specs.declared.entries.State.{State as RequestState}
use Rattle.mp_request.specs.declared.entries.State.TheVariants.{Ordinary, Inactive, Active}
use Rattle.mp_request.specs.Table.{Table, request_at}
use Rattle.mp_wait_laws.proofs.Fresh.{Laid}
use Rattle.mp_wait_laws.proofs.Moves.{Moves, all, fits_all, moves, stay}
use Rattle.mp_wait_laws.proofs.Waits.{laid_after}
use Rattle.mp_alike_laws.specs.Renaming.{Renaming, number_by}
use Rattle.mp_source_laws.specs.Alike.{Wild}
use Rattle.cl_journal.specs.Journal.{calls_of}
use Rattle.cl_calls.specs.declared.calls.Call.{Call}
use Rattle.cl_calls.specs.declared.calls.Call.TheVariants as call
use Rattle.cl_calls.specs.declared.sites.Site.{Site}
use Rattle.cl_calls.specs.Calls.{call_named}
use Rattle.cl_calls.specs.Site.{member, members}
use Rattle.cl_state.specs.declared.asking.Doing.{Doing}
use Rattle.cl_state.specs.declared.asking.Doing.TheVariants.{Step as OneStep, Refused, Go, Poll, Stopped}
use Rattle.cl_state.specs.Asked.{Part, doing, part_of}
use Rattle.cl_state.specs.Rank.{Rank}
use Rattle.cl_trace.specs.declared.events.Kind.{Kind}
use Rattle.cl_names_laws.specs.Named.{mode_by, open_by, progress_by, rank_by, state_by, table_by}
use Rattle.cl_names_laws.proofs.Asks.{doing_by, doing_named, part_named}
use Rattle.cl_names_laws.proofs.Tables.{request_named}
use Rattle.cl_machine.specs.declared.steps.Step.{Step}
use Rattle.cl_machine.specs.Cluster.{CaseOf, Cluster}
use Rattle.cl_machine.proofs.Lists.{get-set_other}
use Rattle.cl_order_laws.specs.Alike.{hub_of}
use Rattle.cl_order_laws.proofs.Ready.{complete_too, line_at, send_too}
use Rattle.cl_order_laws.proofs.Walks.{hub_entry}
use Rattle.cl_first_laws.specs.Below.{AreAlike}
use Rattle.cl_first_laws.specs.Laws.{Turn}
use Rattle.cl_rest_laws.specs.Unreceived.{is_unreceived}
use Rattle.cl_rest_laws.specs.Rests.{IsElseReady, handles_ahead, handles_waited_for, is_behind_call, is_free_to_go, is_message_of, is_open_post, may_wait_for_receipt, post_in, post_of_send}
use Rattle.cl_rest_laws.specs.Rests.{rests, rests_before, rests_behind, rests_for, rests_if, rests_in, says_buffered, spelled, stands_behind_call}
use Rattle.cl_rest_laws.specs.Laws.{RestLaw}
use Rattle.cl_rest_laws.proofs.Unreceived.{IsLeft, any_at, any_left, found, held_after, left_any, left_place, place_left, same_any, same_place, stays_left, was_left}

-- ---- why a hart rests

-- it is a standard send of this rank
abbrev pub is_sent_by : ℕ → Sent → Bool
is_sent_by r m = (m.envelope.source == r) && not m.sync

module _ (p : Sent → Bool) (hub : HubView) (r : ℕ) where
  open_left : (o : Option ℕ) → is_open_post p hub r o ≡ true
      → (i : ℕ) × (o ≡ Some (suc i)) × IsLeft (is_sent_by r) p hub i
  open_left None is = absurd (cc)
  open_left (Some zero) is = absurd (cc)
  open_left (Some (suc i)) is = (i, refl, place_left (is_sent_by r) p hub i is)

  left_open : (o : Option ℕ) (i : ℕ) → o ≡ Some (suc i) → IsLeft (is_sent_by r) p hub i → is_open_post p hub r o ≡ true
  left_open o i names left = ap (is_open_post p hub r) names ∙ left_place (is_sent_by r) p hub i left

-- it stands behind the send of a message that nobody received, or is about to wait for such a one
pub data WhyRests (p : Sent → Bool) (hub : HubView) (r : ℕ) (rank : Rank) (hart : ℕ) : Type 0 where
  behind : stands_behind_call rank hart ≡ true → (i : ℕ)
      → IsLeft (is_message_of rank.site r (spelled rank hart)) p hub i → WhyRests p hub r rank hart
  before : not (says_buffered (part_of rank hart).hart) ≡ true → (j handle i : ℕ)
      → slice_get (handles_ahead rank hart) j ≡ Some handle
      → post_of_send (request_at rank.requests handle) ≡ Some (suc i)
      → IsLeft (is_sent_by r) p hub i → WhyRests p hub r rank hart

module _ (p : Sent → Bool) (hub : HubView) (r : ℕ) (rank : Rank) (hart : ℕ) where
  abbrev is_open_ahead : ℕ → Bool
  is_open_ahead handle = is_open_post p hub r (post_of_send (request_at rank.requests handle))

  pub why_rests : rests_in p hub r rank hart ≡ true → WhyRests p hub r rank hart
  why_rests is = elim (or_cases (rests_behind p hub r rank hart) (rests_before p hub r rank hart) is) [
    | inl one ↦
        let two = and_parts (stands_behind_call rank hart) _ one in
        let left = any_left (is_message_of rank.site r (spelled rank hart)) p hub two.1 in
        behind two.0 left.0 left.1
    | inr other ↦
        let two = and_parts (not (says_buffered (part_of rank hart).hart)) _ other in
        let f = found is_open_ahead (handles_ahead rank hart) two.1 in
        let left = open_left p hub r (post_of_send (request_at rank.requests f.1)) f.3 in
        before two.0 f.0 f.1 left.0 f.2 left.1 left.2
  ]

  pub so_rests : WhyRests p hub r rank hart → rests_in p hub r rank hart ≡ true
  so_rests (behind free i left) =
      or_left (rests_behind p hub r rank hart) (rests_before p hub r rank hart)
      (and_from (stands_behind_call rank hart) _ free
      (left_any (is_message_of rank.site r (spelled rank hart)) p hub i left))
  so_rests (before says j handle i ahead names left) =
      or_right (rests_behind p hub r rank hart) (rests_before p hub r rank hart)
      (and_from (not (says_buffered (part_of rank hart).hart)) _ says
      (any_at is_open_ahead (handles_ahead rank hart) j handle ahead
      (left_open p hub r (post_of_send (request_at rank.requests handle)) i names left)))

-- ---- the messages of one rank

-- it holds of messages of this rank alone
abbrev IsOf : ℕ → (Sent → Bool) → Type 0
IsOf r t = (m : Sent) → t m ≡ true → m.envelope.source ≡ r

named_of : (site : Site) (r : ℕ) (c : Call) → IsOf r (is_message_of site r c)
named_of site r (call.Send s) m is =
    let two = and_parts (nat_lt s.dest (length (members site s.comm)) && not m.sync) _ is in
    let ends = and_parts ((m.envelope.source == r) && (m.dest == member site s.comm s.dest)) _ two.1 in
    eqb-true m.envelope.source r (and_parts (m.envelope.source == r) (m.dest == member site s.comm s.dest) ends.0).0
named_of site r _ m is = absurd (cc)

sent_of : (r : ℕ) → IsOf r (is_sent_by r)
sent_of r m is = eqb-true m.envelope.source r (and_parts (m.envelope.source == r) (not m.sync) is).0

-- where each message of the rank that nobody received here is one that nobody received there
module _ (p q : Sent → Bool) (here there : HubView) (r : ℕ)
    (kept : (t : Sent → Bool) (i : ℕ) → IsOf r t → IsLeft t p here i → IsLeft t q there i) where
  rests_too : (o : Option Rank) (hart : ℕ) → rests_if p here r o hart ≡ true → rests_if q there r o hart ≡ true
  rests_too None hart is = is
  rests_too (Some rank) hart is = so_rests q there r rank hart (go (why_rests p here r rank hart is))
    where
      go : WhyRests p here r rank hart → WhyRests q there r rank hart
      go (behind free i left) =
          behind free i (kept _ i (named_of rank.site r (spelled rank hart)) left)
      go (before says j handle i ahead names left) =
          before says j handle i ahead names (kept (is_sent_by r) i (sent_of r) left)

-- ---- posts that are ready

-- what is ready for a rank stays so behind a call of another one
module _ (r s : ℕ) (apart : s ≡ r → ⊥) (q : Request) (h : HubView) where
  abbrev then : HubView
  then = (outcome h s q).1

  one_stays : (n : ℕ) → is_ready h r n ≡ true → is_ready then r n ≡ true
  one_stays n ready = elim (cases_Bool (is_send_of r (line_of h.board n))) [
    | inl its ↦
        cond-true (is_send_of r (line_of then.board n)) (is_complete then n) (is_some (partner_of then.board n))
        (send_too r s apart q h n its)
        ∙ complete_too r s apart q h n
        (sym (cond-true (is_send_of r (line_of h.board n)) (is_complete h n) (is_some (partner_of h.board n)) its) ∙ ready)
    | inr none ↦
        taken n none
        (sym (cond-false (is_send_of r (line_of h.board n)) (is_complete h n) (is_some (partner_of h.board n)) none) ∙ ready)
  ]
    where
      taken : (n : ℕ) → is_send_of r (line_of h.board n) ≡ false → is_some (partner_of h.board n) ≡ true
          → is_ready then r n ≡ true
      taken zero none some = absurd (cc)
      taken (suc i) none some = go (slice_get h.board.lines i) refl none some
        where
          by : (m : Line) → slice_get h.board.lines i ≡ Some m → is_send_of r (Some m) ≡ false → (o : Option ℕ)
              → m.partner ≡ o → is_some o ≡ true → is_ready then r (suc i) ≡ true
          by m here none None e some = absurd (cc)
          by m here none (Some j) e some =
              let same = line_at r s apart q h i j m here e in
              cond-false (is_send_of r (line_of then.board (suc i))) (is_complete then (suc i))
              (is_some (partner_of then.board (suc i))) (ap (is_send_of r) same ∙ none)
              ∙ ap (λ o. is_some (partner_of_line o)) same ∙ ap is_some e

          go : (o : Option Line) → slice_get h.board.lines i ≡ o → is_send_of r o ≡ false
              → is_some (partner_of_line o) ≡ true → is_ready then r (suc i) ≡ true
          go None here none some = absurd (cc)
          go (Some m) here none some = by m here none m.partner refl some

  pub all_stay : (posts : List ℕ) → list_all (λ n. is_ready h r n) posts ≡ true
      → list_all (λ n. is_ready then r n) posts ≡ true
  all_stay [] ready = refl
  all_stay (n ∷ ns) ready =
      let two = and_parts (is_ready h r n) (list_all (λ m. is_ready h r m) ns) ready in
      and_from (is_ready then r n) (list_all (λ m. is_ready then r m) ns) (one_stays n two.0) (all_stay ns two.1)

-- ---- a turn

module _ (old new : Cluster) (e : Step) (x : Rank) where
  -- another rank is as it was, and the hub has had a call of this one, or none
  record IsTurnOf : Type 0 where
    then : Rank
    ranks : new.ranks ≡ slice_set old.ranks e.rank then
    calls : (hub_of new.journal ≡ hub_of old.journal)
        ⊎ ((q : Request) × (hub_of new.journal ≡ (outcome (hub_of old.journal) e.rank q).1))

  no_call : (then : Rank) → new.ranks ≡ slice_set old.ranks e.rank then → new.journal ≡ old.journal → IsTurnOf
  no_call then ranks same = record { then = then; ranks = ranks; calls = inl (ap hub_of same) }

  case_turn : (kind : Kind) → CaseOf old e x kind new → IsTurnOf
  case_turn Kind.Plain c = no_call _ (ap (λ (k : Cluster). k.ranks) c.2) (ap (λ (k : Cluster). k.journal) c.2)
  case_turn Kind.Local c = no_call _ (ap (λ (k : Cluster). k.ranks) c.2) (ap (λ (k : Cluster). k.journal) c.2)
  case_turn Kind.Held c = no_call _ (ap (λ (k : Cluster). k.ranks) c.2) (ap (λ (k : Cluster). k.journal) c.2)
  case_turn Kind.Idle c = no_call _ (ap (λ (k : Cluster). k.ranks) c.2) (ap (λ (k : Cluster). k.journal) c.2)
  case_turn (Kind.Hub reply) c = record {
    then = _;
    ranks = ap (λ (k : Cluster). k.ranks) c.4;
    calls = inr (c.0, ap (λ (k : Cluster). hub_of k.journal) c.4 ∙ hub_entry old.journal _);
  }
  case_turn Kind.Ready c = no_call _ (ap (λ (k : Cluster). k.ranks) c.8) (ap (λ (k : Cluster). k.journal) c.8)
  case_turn Kind.Take c = no_call _ (ap (λ (k : Cluster). k.ranks) c.8) (ap (λ (k : Cluster). k.journal) c.8)
  case_turn Kind.Freed c = no_call _ (ap (λ (k : Cluster). k.ranks) c.7) (ap (λ (k : Cluster). k.journal) c.7)
  case_turn Kind.Miss c = no_call _ (ap (λ (k : Cluster). k.ranks) c.4) (ap (λ (k : Cluster). k.journal) c.4)

laid_of : (c : Cluster) → Laid (hub_of c.journal)
laid_of c = laid_after c.journal.links (calls_of c.journal.entries)

-- what a turn of one rank leaves to another
module _ (c new : Cluster) (r s which : ℕ) (other : s ≢ r) (turn : Turn s which c new) where
  turned_so : IsTurnOf c new turn.step (turn.leads).0
  turned_so = case_turn c new turn.step (turn.leads).0 (turn.step).kind (turn.leads).3

  pub same_rank : slice_get new.ranks r ≡ slice_get c.ranks r
  same_rank =
      ap (λ xs. slice_get xs r) turned_so.ranks
      ∙ get-set_other c.ranks (turn.step).rank r turned_so.then (λ same. other (sym turn.rank ∙ same))

  pub moved : Moves all s (hub_of c.journal) (hub_of new.journal)
  moved = elim turned_so.calls [
    | inl same ↦
        record { lines = inl (ap (λ (h : HubView). h.board.lines) same); claims = stay (ap (λ (h : HubView). h.claims) same) }
    | inr called ↦
        subst (λ k. Moves all k (hub_of c.journal) (hub_of new.journal)) turn.rank
        (subst (λ (h : HubView). Moves all (turn.step).rank (hub_of c.journal) h) (sym called.1)
        (moves all (hub_of c.journal) (turn.step).rank called.0 (fits_all (turn.step).rank called.0)))
  ]

  -- posts that are ready stay so
  ready_too : (posts : List ℕ) → list_all (λ n. is_ready (hub_of c.journal) r n) posts ≡ true
      → list_all (λ n. is_ready (hub_of new.journal) r n) posts ≡ true
  ready_too posts all_ready = elim turned_so.calls [
    | inl same ↦ subst (λ (h : HubView). list_all (λ n. is_ready h r n) posts ≡ true) (sym same) all_ready
    | inr called ↦
        subst (λ (h : HubView). list_all (λ n. is_ready h r n) posts ≡ true) (sym called.1)
        (all_stay r (turn.step).rank (λ same. other (sym turn.rank ∙ same)) called.0 (hub_of c.journal) posts all_ready)
  ]

-- ---- where a hart rests

-- whatever the message
abbrev any_message : Sent → Bool
any_message m = true

abbrev pub is_to : ℕ → Sent → Bool
is_to k m = m.dest == k

-- the message for which a hart rests
pub record RestsOn (c : Cluster) (k : ℕ) : Type 0 where
  pub place : ℕ
  pub line : Line
  pub there : slice_get (hub_of c.journal).board.lines place ≡ Some line
  pub what : Sent
  pub sends : line.post ≡ post.Send what
  pub is_for : what.dest ≡ k

pub rests_on : (c : Cluster) (r hart k : ℕ) → rests_for c r hart k ≡ true → RestsOn c k
rests_on c r hart k is = go (slice_get c.ranks r) is
  where
    on : (t : Sent → Bool) (i : ℕ) → IsLeft t (is_to k) (hub_of c.journal) i → RestsOn c k
    on t i left = record {
      place = i;
      line = left.line;
      there = left.there;
      what = left.what;
      sends = left.sends;
      is_for = eqb-true (left.what).dest k left.holds;
    }

    go : (o : Option Rank) → rests_if (is_to k) (hub_of c.journal) r o hart ≡ true → RestsOn c k
    go None is = absurd (cc)
    go (Some rank) is = by (why_rests (is_to k) (hub_of c.journal) r rank hart is)
      where
        by : WhyRests (is_to k) (hub_of c.journal) r rank hart → RestsOn c k
        by (behind free i left) = on _ i left
        by (before says j handle i ahead names left) = on (is_sent_by r) i left

some : (c : Cluster) (r hart : ℕ) → rests c r hart ≡ true → (k : ℕ) × (rests_for c r hart k ≡ true)
some c r hart is = go (slice_get c.ranks r) is
  where
    addressed : (t : Sent → Bool) (i : ℕ) (left : IsLeft t any_message (hub_of c.journal) i)
        → IsLeft t (is_to (left.what).dest) (hub_of c.journal) i
    addressed t i left = record {
      line = left.line;
      there = left.there;
      what = left.what;
      sends = left.sends;
      left = left.left;
      its = left.its;
      holds = eq-eqb (left.what).dest (left.what).dest refl;
    }

    go : (o : Option Rank) → rests_if any_message (hub_of c.journal) r o hart ≡ true
        → (k : ℕ) × (rests_if (is_to k) (hub_of c.journal) r o hart ≡ true)
    go None is = absurd (cc)
    go (Some rank) is = by (why_rests any_message (hub_of c.journal) r rank hart is)
      where
        by : WhyRests any_message (hub_of c.journal) r rank hart
            → (k : ℕ) × (rests_in (is_to k) (hub_of c.journal) r rank hart ≡ true)
        by (behind free i left) = (
          (left.what).dest,
          so_rests (is_to (left.what).dest) (hub_of c.journal) r rank hart (behind free i (addressed _ i left)),
        )
        by (before says j handle i ahead names left) = (
          (left.what).dest,
          so_rests (is_to (left.what).dest) (hub_of c.journal) r rank hart
              (before says j handle i ahead names (addressed (is_sent_by r) i left)),
        )

each : (c : Cluster) (r hart k : ℕ) → rests_for c r hart k ≡ true → rests c r hart ≡ true
each c r hart k is =
    rests_too (is_to k) any_message (hub_of c.journal) (hub_of c.journal) r
    (λ t i of left. record {
      line = left.line;
      there = left.there;
      what = left.what;
      sends = left.sends;
      left = left.left;
      its = left.its;
      holds = refl;
    })
    (slice_get c.ranks r) hart is

away : (c new : Cluster) (r s which hart : ℕ) → s ≢ r → Turn s which c new → rests c r hart ≡ false
    → rests new r hart ≡ false
away c new r s which hart other turn is = elim (cases_Bool (rests new r hart)) [
  | inl on ↦
      let was : rests c r hart ≡ true =
      rests_too any_message any_message (hub_of new.journal) (hub_of c.journal) r
      (λ t i of left. was_left s (hub_of c.journal) (hub_of new.journal) (moved c new r s which other turn) (laid_of c) r t
      any_message of i other left)
      (slice_get c.ranks r) hart
      (sym (ap (λ o. rests_if any_message (hub_of new.journal) r o hart) (same_rank c new r s which other turn)) ∙ on) in
      let no : true ≡ false = sym was ∙ is in absurd (cc)
  | inr off ↦ off
]

stays : (c new : Cluster) (r s which hart k : ℕ) → s ≢ r → s ≢ k → Turn s which c new → rests_for c r hart k ≡ true
    → rests_for new r hart k ≡ true
stays c new r s which hart k other apart turn is =
    ap (λ o. rests_if (is_to k) (hub_of new.journal) r o hart) (same_rank c new r s which other turn)
    ∙ rests_too (is_to k) (is_to k) (hub_of c.journal) (hub_of new.journal) r
    (λ t i of left. stays_left s (hub_of c.journal) (hub_of new.journal) (moved c new r s which other turn) (laid_of c) r t
    (is_to k) of i
    (λ m to same. apart (sym same ∙ eqb-true m.dest k to)) left)
    (slice_get c.ranks r) hart is

-- what else its call waits for stays there
ready : (c new : Cluster) (r s which hart : ℕ) (rank : Rank) → s ≢ r → Turn s which c new → IsElseReady c r rank hart
    → IsElseReady new r rank hart
ready c new r s which hart rank other turn is = λ posts asks.
    ready_too c new r s which other turn posts (is posts asks)

-- ---- alike clusters

-- where a hart stands doesn't depend on the numbers of posts
free_by : (names : Renaming) (mode : Mode) → is_free_to_go (mode_by names mode) ≡ is_free_to_go mode
free_by names Running = refl
free_by names (Waiting Again) = refl
free_by names (Waiting (OnPost post)) = refl
free_by names (Ended code) = refl
free_by names (Trapped cause pc) = refl

-- nor does what it is about to wait for
ahead_by : (names : Renaming) (memory : Memory) (d : Doing)
    → handles_waited_for memory (doing_by names d) ≡ handles_waited_for memory d
ahead_by names memory OneStep = refl
ahead_by names memory (Refused code) = refl
ahead_by names memory (Go c) = refl
ahead_by names memory (Poll c post) = refl
ahead_by names memory Stopped = refl

no_others : {A : Type 0} (xs ys : List A) (i : ℕ) → length ys ≡ length xs → slice_get xs i ≡ None → slice_get ys i ≡ None
no_others xs [] i same none = refl
no_others [] (y ∷ ys) i same none = absurd (cc)
no_others (x ∷ xs) (y ∷ ys) zero same none = absurd (cc)
no_others (x ∷ xs) (y ∷ ys) (suc i) same none = no_others xs ys i (let s = same in (cc)) none

module _ (wild : Wild) (a b : Cluster) (r hart : ℕ) (alike : AreAlike wild a b) (p : Sent → Bool) where
  abbrev h : HubView
  h = hub_of a.journal

  abbrev k : HubView
  k = hub_of b.journal

  held_h : AreHeld h.board h.claims
  held_h = held_after a.journal.links (calls_of a.journal.entries)

  held_k : AreHeld k.board k.claims
  held_k = held_after b.journal.links (calls_of b.journal.entries)

  -- a request's send is open by either number of its post
  of_progress : (going : Progress) → is_open_post p k r (post_in (Ordinary (progress_by alike.0 going)))
      ≡ is_open_post p h r (post_in (Ordinary going))
  of_progress progress.Finished = refl
  of_progress (progress.Sent post) =
      same_place alike.0 h k (alike.1).hubs held_h held_k (λ m. is_sent_by r m && p m) post
  of_progress (progress.OnPost post) = refl
  of_progress progress.InPhase = refl

  of_state : (s : RequestState)
      → is_open_post p k r (post_in (state_by alike.0 s)) ≡ is_open_post p h r (post_in s)
  of_state (Ordinary going) = of_progress going
  of_state Inactive = refl
  of_state (Active going) = of_progress going

  of_request : (o : Option OpenRequest)
      → is_open_post p k r (post_of_send (option_map (open_by alike.0) o))
      ≡ is_open_post p h r (post_of_send o)
  of_request None = refl
  of_request (Some request) = of_state request.state

  open_by_names : (table : Table) (handle : ℕ)
      → is_open_post p k r (post_of_send (request_at (table_by alike.0 table) handle))
      ≡ is_open_post p h r (post_of_send (request_at table handle))
  open_by_names table handle =
      ap (λ o. is_open_post p k r (post_of_send o))
      (request_named alike.0 (number_by alike.0) table handle)
      ∙ of_request (request_at table handle)

  -- the tests of a part
  abbrev is_behind : HubView → Site → Part → Bool
  is_behind hub site part =
      (is_free_to_go part.hart.mode && (is_behind_call part.memory part.hart && may_wait_for_receipt part.hart))
      && list_any (is_unreceived (λ m. is_message_of site r (call_named part.hart) m && p m) hub) hub.board.lines

  abbrev is_before : (ℕ → Bool) → State → List ℕ → Bool
  is_before is_open hart handles = not (says_buffered hart) && list_any is_open handles

  behind_by_names : (rank : Rank)
      → rests_behind p k r (rank_by alike.0 rank) hart ≡ rests_behind p h r rank hart
  behind_by_names rank =
      let part = part_of rank hart in
      ap (is_behind k rank.site) (part_named alike.0 (number_by alike.0) rank hart)
      ∙ ap (λ x. (x && (is_behind_call part.memory part.hart && may_wait_for_receipt part.hart))
      && list_any (is_unreceived (λ m. is_message_of rank.site r (call_named part.hart) m && p m) k) k.board.lines)
      (free_by alike.0 part.hart.mode)
      ∙ ap (λ x. stands_behind_call rank hart && x)
      (same_any alike.0 h k (alike.1).hubs held_h held_k (λ m. is_message_of rank.site r (spelled rank hart) m && p m))

  before_by_names : (rank : Rank)
      → rests_before p k r (rank_by alike.0 rank) hart ≡ rests_before p h r rank hart
  before_by_names rank =
      let part = part_of rank hart in
      let is_open : ℕ → Bool =
      λ handle. is_open_post p k r (post_of_send (request_at (table_by alike.0 rank.requests) handle)) in
      ap (λ (x : Part). is_before is_open x.hart (handles_waited_for rank.memory (doing rank.site x)))
      (part_named alike.0 (number_by alike.0) rank hart)
      ∙ ap (λ d. is_before is_open part.hart (handles_waited_for rank.memory d))
      (doing_named alike.0 (number_by alike.0) rank.site part)
      ∙ ap (is_before is_open part.hart) (ahead_by alike.0 rank.memory (doing rank.site part))
      ∙ ap (λ (f : ℕ → Bool). is_before f part.hart (handles_ahead rank hart))
      (λ j handle. open_by_names rank.requests handle j)

  by_names : (rank : Rank) → rests_in p k r (rank_by alike.0 rank) hart ≡ rests_in p h r rank hart
  by_names rank =
      ap (λ x. x || rests_before p k r (rank_by alike.0 rank) hart) (behind_by_names rank)
      ∙ ap (λ x. rests_behind p h r rank hart || x) (before_by_names rank)

  same_rests : rests_if p k r (slice_get b.ranks r) hart ≡ rests_if p h r (slice_get a.ranks r) hart
  same_rests = go (slice_get a.ranks r) refl
    where
      go : (o : Option Rank) → slice_get a.ranks r ≡ o
          → rests_if p k r (slice_get b.ranks r) hart ≡ rests_if p h r o hart
      go None none =
          ap (λ o. rests_if p k r o hart) (no_others a.ranks b.ranks r ((alike.1).ranks).many none)
      go (Some x) there =
          let y = ((alike.1).ranks).each r x there in
          ap (λ o. rests_if p k r o hart) y.1 ∙ ap (λ z. rests_in p k r z hart) (y.2).1 ∙ by_names x

pub rest_law : RestLaw
rest_law = record {
  some = some;
  each = each;
  away = away;
  stays = stays;
  ready = ready;
  alike = λ wild a b r hart alike. same_rests wild a b r hart alike any_message;
  alike_for = λ wild a b r hart k alike. same_rests wild a b r hart alike (is_to k);
}
