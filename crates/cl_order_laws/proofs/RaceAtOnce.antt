-- The wildcard race with fewer nodes: a receive that has its message is collected at once.
use Rattle.std.proofs.Common.{◌≡◌, ℕ, zero, suc, ◌<◌, ◌⊎◌, inl, inr, [], ◌∷◌, length, Some, refl, sym, ap, ◌∙◌, subst, arith}
use Rattle.std.specs.List.{slice_get, slice_set}
use Rattle.std.proofs.lemmas.Bool.{cases_eq}
use Rattle.std.proofs.lemmas.Option.{same_Some}
use Rattle.mp_types.specs.declared.messages.Message.{Message}
use Rattle.mp_types.specs.declared.replies.Reply.TheVariants as reply
use Rattle.mp_types.specs.declared.requests.Request.{Request}
use Rattle.mp_types.specs.declared.requests.Request.TheVariants as request
use Rattle.mp_hub.specs.Hub.{outcome}
use Rattle.mp_hub.proofs.Histories.{hub_more}
use Rattle.mp_wait_laws.proofs.Sets.{get-set_other}
use Rattle.cl_journal.specs.Journal.{calls_of}
use Rattle.cl_state.specs.declared.asking.Answer.{Answer}
use Rattle.cl_state.specs.Rank.{Rank}
use Rattle.cl_state.specs.Told.{told}
use Rattle.cl_state_laws.specs.Vain.{IsStopped, mode_of}
use Rattle.cl_machine.specs.declared.steps.Step.{Step}
use Rattle.cl_machine.specs.Boxes.{Box}
use Rattle.cl_machine.specs.Cluster.{Cluster}
use Rattle.cl_machine.specs.Journal.{reply_in}
use Rattle.cl_order_laws.specs.Alike.{AlikeBoxes, AreEach, Leads, hub_of}
use Rattle.cl_order_laws.specs.Closed.{IsDone, Node, one_more}
use Rattle.cl_order_laws.specs.Race.{WorkedRace, at_once, end_0, end_1, from_0, from_1, got, got_0, got_1, one_hart, open_node, sender_0, sender_1, sends, sent, sent_0, sent_1, waiting}
use Rattle.cl_order_laws.specs.Sure.{IsClosedAtOnce, IsSettledBy, IsSure, WhereverLeads}
use Rattle.cl_order_laws.specs.SureAsks.{IsReady}
use Rattle.cl_order_laws.proofs.Covered.{each_on}
use Rattle.cl_order_laws.proofs.Each.{set_here, set_length, was_there}
use Rattle.cl_order_laws.proofs.Likeness.{alike_itself}
use Rattle.cl_order_laws.proofs.Race.{Behind, Calls, Reaches, as_there, asks_wait, by_rank, call_covered, closed, from_got_0, from_got_1, from_open_0, from_open_1, from_open_2, from_sent_0_2, from_sent_1_2, hub_is, is_end_0, is_end_1, new_is, posted_first, ranks_are, reaches, receives_0, receives_1, runs, start, stopped_0, stopped_1, stopped_got_0, stopped_got_1, told_x, two}
use Rattle.cl_order_laws.proofs.SureHub.{reply_is, sure_hub_law}

-- ---- where a rank sent

-- the receive of rank 2 has the message of rank r, and is collected
module _ (r : ℕ) (x : Rank) (q : Request) (i k : ℕ) (then next : Node) (y z : Rank) (message : Message)
    (before : r ≡ 2 → ⊥) (calls : Calls open_node.cluster r x q i then y)
    (collects : Calls then.cluster 2 waiting (request.Collect 1) k next z)
    (gives : reply_in then.cluster.journal 2 (request.Collect 1) ≡ reply.Got message)
    (place : ℕ) (there : slice_get at_once place ≡ Some next)
    (e : Step) (new : Cluster) (at : e.rank ≡ r) (hart : e.hart ≡ 0) (leads : Leads open_node.cluster e new) where
  first : Reaches (then ∷ []) open_node.cluster r x q 0 then y
  first = reaches (then ∷ []) open_node.cluster r x q i then y 0 refl calls

  abbrev sent_x : Rank
  sent_x = told_x (then ∷ []) open_node.cluster r x q 0 then y first e new at hart leads

  ranks : new.ranks ≡ slice_set open_node.cluster.ranks r sent_x
  ranks = ranks_are (then ∷ []) open_node.cluster r x q 0 then y first e new at hart leads

  hub : hub_of new.journal ≡ hub_of then.cluster.journal
  hub = hub_is (then ∷ []) open_node.cluster r x q 0 then y first e new at hart leads

  boxes : new.boxes ≡ []
  boxes = ap (λ (n : Cluster). n.boxes) (new_is (then ∷ []) open_node.cluster r x q 0 then y first e new at hart leads)

  waits : slice_get new.ranks 2 ≡ Some waiting
  waits = ap (λ l. slice_get l 2) ranks ∙ get-set_other open_node.cluster.ranks r 2 sent_x before

  same_reply : reply_in new.journal 2 (request.Collect 1) ≡ reply_in then.cluster.journal 2 (request.Collect 1)
  same_reply =
      reply_is new.journal 2 (request.Collect 1) ∙ ap (λ h. (outcome h 2 (request.Collect 1)).0) hub
      ∙ sym (reply_is then.cluster.journal 2 (request.Collect 1))

  is_sure : IsSure one_hart 65535 (record { cluster = new; had = one_more open_node.had r }) 2
  is_sure =
      sure_hub_law one_hart 65535 (record { cluster = new; had = one_more open_node.had r }) 2 waiting
      (request.Collect 1) (omega arith)
      (alike_itself new (subst (λ bs. (i : ℕ) (box : Box) → slice_get bs i ≡ Some box → AlikeBoxes box box) (sym boxes)
      (λ i box is. absurd (cc))))
      waits asks_wait
      (subst (IsReady (request.Collect 1)) (sym (same_reply ∙ gives)) tt)

  others : (s : ℕ) (rank : Rank) → (2 ≡ s → ⊥) → slice_get new.ranks s ≡ Some rank
      → (other : Rank) × (slice_get next.cluster.ranks s ≡ Some other) × Behind rank other
  unfolding told_x
  others s rank apart is =
      let there : slice_get next.cluster.ranks s ≡ slice_get (slice_set open_node.cluster.ranks r y) s =
      ap (λ l. slice_get l s) collects.ranks ∙ get-set_other then.cluster.ranks 2 s z apart
      ∙ ap (λ l. slice_get l s) calls.ranks in
      let now = sym (ap (λ l. slice_get l s) ranks) ∙ is in
      elim (cases_eq r s) [
        | inl same ↦
            let w = was_there open_node.cluster.ranks r sent_x rank
            (subst (λ j. slice_get (slice_set open_node.cluster.ranks r sent_x) j ≡ Some rank) (sym same) now) in (
              y,
              there
                  ∙ subst (λ j. slice_get (slice_set open_node.cluster.ranks r y) j ≡ Some y) same
                  (set_here open_node.cluster.ranks r y x calls.here),
              subst (λ o. Behind o y) w.0 (calls.behind e.stamp),
            )
        | inr other ↦ (
          rank,
          there ∙ get-set_other open_node.cluster.ranks r s y other
              ∙ sym (get-set_other open_node.cluster.ranks r s sent_x other) ∙ now,
          as_there rank rank rank.clock refl,
        )
      ]

  second : Reaches at_once new 2 waiting (request.Collect 1) place next z
  second = record {
    here = waits;
    asks = asks_wait;
    there = there;
    many = ap (λ l. length l) collects.ranks ∙ set_length then.cluster.ranks 2 z
        ∙ ap (λ l. length l) calls.ranks ∙ set_length open_node.cluster.ranks r y
        ∙ sym (ap (λ l. length l) ranks ∙ set_length open_node.cluster.ranks r sent_x);
    at = ap (λ l. slice_get l 2) collects.ranks ∙ set_here then.cluster.ranks 2 z waiting collects.here;
    others = others;
    behind = λ stamp. subst (λ a. Behind (told waiting 0 (Answer.Reply a) stamp) z) (sym same_reply) (collects.behind stamp);
    hub = hub_more new.journal.links (calls_of new.journal.entries) (2, request.Collect 1)
        ∙ ap (λ h. (outcome h 2 (request.Collect 1)).1) hub
        ∙ sym (hub_more then.cluster.journal.links (calls_of then.cluster.journal.entries) (2, request.Collect 1))
        ∙ collects.hub;
    boxes = subst (λ bs. AreEach AlikeBoxes bs next.cluster.boxes) (sym boxes)
        (each_on [] then.cluster.boxes next.cluster.boxes calls.boxes collects.boxes);
  }

  pub settled : IsSettledBy one_hart 65535 at_once (record { cluster = new; had = one_more open_node.had r })
  settled = (
    1,
    inr (inr (
      2,
      is_sure,
      λ f last at hart leads.
          call_covered at_once new 2 waiting (request.Collect 1) place next z second f last at hart leads
          (one_more (one_more open_node.had r) 2),
    )),
  )

-- ---- the list is closed

abbrev IsMoving : Node → ℕ → Rank → Type 0
IsMoving node r rank = IsDone (one_hart r) rank ⊎ WhereverLeads one_hart node r (IsSettledBy one_hart 65535 at_once)

abbrev AreMoving : Node → Type 0
AreMoving node = (r : ℕ) (rank : Rank) → slice_get node.cluster.ranks r ≡ Some rank → IsMoving node r rank

moves : (node : Node) (r : ℕ) (x : Rank) (q : Request) (index : ℕ) (next : Node) (y : Rank) (place : ℕ)
    → slice_get at_once place ≡ Some next → Calls node.cluster r x q index next y → IsMoving node r x
moves node r x q index next y place there calls = inr (λ e new at hart leads. (
  0,
  call_covered at_once node.cluster r x q place next y
      (reaches at_once node.cluster r x q index next y place there calls) e new at hart leads (one_more node.had r),
))

rests : (node : Node) (r : ℕ) (rank : Rank) → IsStopped (mode_of rank 0) → IsMoving node r rank
rests node r rank stopped = inl (λ n. stopped)

give_0 : reply_in sent_0.cluster.journal 2 (request.Collect 1) ≡ reply.Got from_0
unfolding reply_in
give_0 = refl

give_1 : reply_in sent_1.cluster.journal 2 (request.Collect 1) ≡ reply.Got from_1
unfolding reply_in
give_1 = refl

all_moving : (i : ℕ) (node : Node) → slice_get at_once i ≡ Some node → AreMoving node
all_moving zero node is =
    subst AreMoving (same_Some open_node node is)
    (by_rank (IsMoving open_node) open_node.cluster.ranks sender_0 sender_1 waiting refl
    (inr (λ e new at hart leads.
    settled 0 sender_0 (sends 104) 1 3 sent_0 got_0 (sent sender_0) (got from_0) from_0 (λ e. absurd (cc)) from_open_0
    from_sent_0_2 give_0 1 refl e new at hart leads))
    (inr (λ e new at hart leads.
    settled 1 sender_1 (sends 105) 2 4 sent_1 got_1 (sent sender_1) (got from_1) from_1 (λ e. absurd (cc)) from_open_1
    from_sent_1_2 give_1 2 refl e new at hart leads))
    (moves open_node 2 waiting (request.Collect 1) 0 open_node waiting 0 refl from_open_2))
all_moving (suc zero) node is =
    subst AreMoving (same_Some got_0 node is)
    (by_rank (IsMoving got_0) got_0.cluster.ranks (sent sender_0) sender_1 (got from_0) refl
    (rests got_0 0 (sent sender_0) stopped_0)
    (moves got_0 1 sender_1 (sends 105) 7 end_0 (sent sender_1) 3 refl from_got_0)
    (rests got_0 2 (got from_0) stopped_got_0))
all_moving (suc (suc zero)) node is =
    subst AreMoving (same_Some got_1 node is)
    (by_rank (IsMoving got_1) got_1.cluster.ranks sender_0 (sent sender_1) (got from_1) refl
    (moves got_1 0 sender_0 (sends 104) 8 end_1 (sent sender_0) 4 refl from_got_1)
    (rests got_1 1 (sent sender_1) stopped_1)
    (rests got_1 2 (got from_1) stopped_got_1))
all_moving (suc (suc (suc zero))) node is =
    subst AreMoving (same_Some end_0 node is)
    (by_rank (IsMoving end_0) end_0.cluster.ranks (sent sender_0) (sent sender_1) (got from_0) refl
    (rests end_0 0 (sent sender_0) stopped_0)
    (rests end_0 1 (sent sender_1) stopped_1)
    (rests end_0 2 (got from_0) stopped_got_0))
all_moving (suc (suc (suc (suc zero)))) node is =
    subst AreMoving (same_Some end_1 node is)
    (by_rank (IsMoving end_1) end_1.cluster.ranks (sent sender_0) (sent sender_1) (got from_1) refl
    (rests end_1 0 (sent sender_0) stopped_0)
    (rests end_1 1 (sent sender_1) stopped_1)
    (rests end_1 2 (got from_1) stopped_got_1))
all_moving (suc (suc (suc (suc (suc i))))) node is = absurd (cc)

-- ---- few posts

HasFew : Node → Type 0
HasFew node = length (hub_of node.cluster.journal).board.lines < 65535

has : (node : Node) (n : ℕ) → length (hub_of node.cluster.journal).board.lines ≡ n → n < 65535 → HasFew node
unfolding HasFew
has node n is below = omega (arith, is, below)

all_few : (i : ℕ) (node : Node) → slice_get at_once i ≡ Some node → HasFew node
all_few zero node is = subst HasFew (same_Some open_node node is) (has open_node 1 refl (omega arith))
all_few (suc zero) node is = subst HasFew (same_Some got_0 node is) (has got_0 2 refl (omega arith))
all_few (suc (suc zero)) node is = subst HasFew (same_Some got_1 node is) (has got_1 2 refl (omega arith))
all_few (suc (suc (suc zero))) node is = subst HasFew (same_Some end_0 node is) (has end_0 3 refl (omega arith))
all_few (suc (suc (suc (suc zero)))) node is = subst HasFew (same_Some end_1 node is) (has end_1 3 refl (omega arith))
all_few (suc (suc (suc (suc (suc i))))) node is = absurd (cc)

fewer : IsClosedAtOnce one_hart 65535 at_once
unfolding HasFew
fewer = record { each = λ i r node rank there here. all_moving i node there r rank here; few = all_few }

pub worked_race : WorkedRace
worked_race = record {
  posted = posted_first;
  start = start;
  closed = closed;
  fewer = fewer;
  two = two;
  first = (is_end_0, receives_0);
  second = (is_end_1, receives_1);
  runs = runs;
}
