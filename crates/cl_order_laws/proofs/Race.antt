-- The wildcard race: where each turn leads, and which nodes are ends.
use Rattle.std.proofs.Common.{◌≡◌, ℕ, zero, suc, ◌+◌, ◌⊎◌, inl, inr, List, [], ◌∷◌, ◌++◌, length, Some, true, refl, sym, ap, ◌∙◌, subst, arith}
use Rattle.std.specs.List.{slice_get, slice_set}
use Rattle.std.proofs.lemmas.Bool.{cases_eq}
use Rattle.std.proofs.lemmas.Option.{same_Some}
use Rattle.mp_types.specs.declared.replies.Reply.TheVariants as reply
use Rattle.mp_types.specs.declared.requests.Request.{Request}
use Rattle.mp_types.specs.declared.requests.Request.TheVariants as request
use Rattle.mp_hub.specs.Hub.{hub_after}
use Rattle.mp_wait_laws.proofs.Sets.{get-set_other}
use Rattle.mp_alike_laws.specs.Renaming.{no_renaming}
use Rattle.mp_alike_laws.specs.Alike.{AlikeHubs}
use Rattle.mp_alike_laws.proofs.Likeness.{itself as hub_itself}
use Rattle.cl_journal.specs.Journal.{calls_of}
use Rattle.cl_journal.proofs.History.{calls_of-snoc}
use Rattle.rv_hart.specs.Stepped.{stepped}
use Rattle.cl_state.specs.declared.asking.Answer.{Answer}
use Rattle.cl_state.specs.declared.asking.Ask.{Ask}
use Rattle.cl_state.specs.Asked.{asked, doing}
use Rattle.cl_state.specs.Rank.{Rank}
use Rattle.cl_state.specs.Told.{received, received_message, returned, told, with_status}
use Rattle.cl_state_laws.specs.Vain.{IsStopped, IsWaiting, mode_of}
use Rattle.cl_state_laws.specs.VainLaws.{at_clock}
use Rattle.rv_hart.specs.declared.state.Mode.TheVariants.{Running}
use Rattle.rv_memory.specs.Memory.{bytes_at}
use Rattle.mp_types.specs.declared.messages.Message.{Message}
use Rattle.cl_order_laws.specs.Laws.{AreAlike}
use Rattle.cl_machine.specs.declared.steps.Step.{Step}
use Rattle.cl_machine.specs.Cluster.{Cluster}
use Rattle.cl_machine.specs.Journal.{reply_in}
use Rattle.cl_order_laws.specs.Alike.{AlikeBoxes, AlikeRanks, AreEach, Leads, hub_of}
use Rattle.cl_order_laws.specs.Closed.{IsBehind, IsClosed, IsCovered, IsDone, IsEnd, IsInVain, NeedsOnlyRank, Node, Turns, one_more}
use Rattle.cl_order_laws.specs.Turns.{IsTurn, called}
use Rattle.cl_order_laws.specs.Race.{EndsInOneOfTwo, IsPosted, Receives, both_0, both_1, end_0, end_1, from_0, from_1, got, got_0, got_1, one_hart, open_node, race, receiver, receives, sender_0, sender_1, sends, sent, sent_0, sent_1, waiting}
use Rattle.cl_order_laws.proofs.Each.{set_here, set_length, was_there}
use Rattle.cl_order_laws.proofs.Deadlocks.{ends_law}
use Rattle.cl_order_laws.proofs.Ends.{every_end_law}
use Rattle.cl_order_laws.proofs.Likeness.{likeness_law, rank_itself}
use Rattle.cl_order_laws.proofs.Turns.{turns_law}

-- ---- a call that leads to the next node

pub no_boxes : AreEach AlikeBoxes [] []
no_boxes = record { many = refl; each = λ i x here. absurd (cc) }

-- behind the node by one turn, or as it stands there
abbrev pub Behind : Rank → Rank → Type 0
Behind rank other = (had theirs : ℕ) → IsBehind (one_hart 0) no_renaming rank had other theirs

pub as_there : (rank other : Rank) (clock : ℕ) → other ≡ at_clock rank clock → Behind rank other
as_there rank other clock is had theirs = record {
  turns = 0;
  then = rank;
  after = had;
  ahead = (refl, refl);
  alike = subst (AlikeRanks no_renaming rank) (sym is) (rank_itself rank clock);
  place = inl (λ k. refl);
}

one_behind : (rank other : Rank) (clock : ℕ) → NeedsOnlyRank (asked rank 0)
    → other ≡ at_clock (told rank 0 Answer.Alone (rank.clock + 1)) clock → Behind rank other
one_behind rank other clock alone is had theirs = record {
  turns = 1;
  then = told rank 0 Answer.Alone (rank.clock + 1);
  after = had + 1;
  ahead = (alone, (refl, refl));
  alike = subst (AlikeRanks no_renaming (told rank 0 Answer.Alone (rank.clock + 1))) (sym is)
      (rank_itself (told rank 0 Answer.Alone (rank.clock + 1)) clock);
  place = inl (λ k. refl);
}

-- a call of rank r leads to a cluster that the node covers
pub record Calls (c : Cluster) (r : ℕ) (x : Rank) (q : Request) (index : ℕ) (node : Node) (y : Rank) : Type 0 where
  pub here : slice_get c.ranks r ≡ Some x
  pub asks : asked x 0 ≡ Ask.Hub q
  pub there : slice_get race index ≡ Some node
  pub ranks : node.cluster.ranks ≡ slice_set c.ranks r y
  pub behind : (stamp : ℕ) → Behind (told x 0 (Answer.Reply (reply_in c.journal r q)) stamp) y
  pub hub : hub_after c.journal.links (calls_of c.journal.entries ++ (r, q) ∷ []) ≡ hub_of node.cluster.journal
  pub boxes : AreEach AlikeBoxes c.boxes node.cluster.boxes

-- or where its other ranks are behind those of the node
pub record Reaches (nodes : List Node) (c : Cluster) (r : ℕ) (x : Rank) (q : Request) (index : ℕ) (node : Node)
    (y : Rank) : Type 0 where
  pub here : slice_get c.ranks r ≡ Some x
  pub asks : asked x 0 ≡ Ask.Hub q
  pub there : slice_get nodes index ≡ Some node
  pub many : length node.cluster.ranks ≡ length c.ranks
  pub at : slice_get node.cluster.ranks r ≡ Some y
  pub others : (s : ℕ) (rank : Rank) → (r ≡ s → ⊥) → slice_get c.ranks s ≡ Some rank
      → (other : Rank) × (slice_get node.cluster.ranks s ≡ Some other) × Behind rank other
  pub behind : (stamp : ℕ) → Behind (told x 0 (Answer.Reply (reply_in c.journal r q)) stamp) y
  pub hub : hub_after c.journal.links (calls_of c.journal.entries ++ (r, q) ∷ []) ≡ hub_of node.cluster.journal
  pub boxes : AreEach AlikeBoxes c.boxes node.cluster.boxes

pub reaches : (nodes : List Node) (c : Cluster) (r : ℕ) (x : Rank) (q : Request) (index : ℕ) (node : Node) (y : Rank)
    (place : ℕ) → slice_get nodes place ≡ Some node → Calls c r x q index node y
    → Reaches nodes c r x q place node y
reaches nodes c r x q index node y place there calls = record {
  here = calls.here;
  asks = calls.asks;
  there = there;
  many = ap (λ l. length l) calls.ranks ∙ set_length c.ranks r y;
  at = ap (λ l. slice_get l r) calls.ranks ∙ set_here c.ranks r y x calls.here;
  others = λ s rank other here. (
    rank,
    ap (λ l. slice_get l s) calls.ranks ∙ get-set_other c.ranks r s y other ∙ here,
    as_there rank rank rank.clock refl,
  );
  behind = calls.behind;
  hub = calls.hub;
  boxes = calls.boxes;
}

module _ (nodes : List Node) (c : Cluster) (r : ℕ) (x : Rank) (q : Request) (index : ℕ) (node : Node) (y : Rank)
    (calls : Reaches nodes c r x q index node y) (e : Step) (new : Cluster) (at : e.rank ≡ r) (hart : e.hart ≡ 0)
    (leads : Leads c e new) where
  unfoldable pub told_x : Rank
  told_x = told x 0 (Answer.Reply (reply_in c.journal r q)) e.stamp

  pub new_is : new ≡ called c e x q
  new_is =
      let turn = turns_law c new e x (ap (slice_get c.ranks) at ∙ calls.here) leads in
      let by : IsTurn c e x (Ask.Hub q) new =
      subst (λ a. IsTurn c e x a new) (ap (asked x) hart ∙ calls.asks) turn in by.1

  pub ranks_are : new.ranks ≡ slice_set c.ranks r told_x
  unfolding told_x
  ranks_are =
      ap (λ (k : Cluster). k.ranks) new_is
      ∙ (λ i. slice_set c.ranks (at i) (told x (hart i) (Answer.Reply (reply_in c.journal (at i) q)) e.stamp))

  pub hub_is : hub_of new.journal ≡ hub_of node.cluster.journal
  hub_is =
      ap (λ (k : Cluster). hub_of k.journal) new_is
      ∙ ap (hub_after c.journal.links)
      (calls_of-snoc c.journal.entries _ ∙ ap (λ s. calls_of c.journal.entries ++ (s, q) ∷ []) at)
      ∙ calls.hub

  each_behind : (s had : ℕ) (rank : Rank) → slice_get new.ranks s ≡ Some rank
      → (other : Rank) × (slice_get node.cluster.ranks s ≡ Some other)
      × IsBehind (one_hart s) no_renaming rank had other (node.had s)
  unfolding told_x
  each_behind s had rank is = elim (cases_eq r s) [
    | inl same ↦
        let now : slice_get (slice_set c.ranks r told_x) s ≡ Some rank = ap (λ l. slice_get l s) (sym ranks_are) ∙ is in
        let w = was_there c.ranks r told_x rank (subst (λ k. slice_get (slice_set c.ranks r told_x) k ≡ Some rank) (sym same) now) in (
          y,
          subst (λ k. slice_get node.cluster.ranks k ≡ Some y) same calls.at,
          subst (λ z. IsBehind (one_hart s) no_renaming z had y (node.had s)) w.0 (calls.behind e.stamp had (node.had s)),
        )
    | inr other ↦
        let now = sym (get-set_other c.ranks r s told_x other) ∙ ap (λ l. slice_get l s) (sym ranks_are) ∙ is in
        let v = calls.others s rank other now in
        (v.0, v.1, v.2 had (node.had s))
  ]

  pub call_covered : (had : Turns) → IsCovered one_hart nodes (record { cluster = new; had = had })
  call_covered had = record {
    index = index;
    node = node;
    there = calls.there;
    names = no_renaming;
    many =
        calls.many ∙ sym (ap (λ l. length l) ranks_are ∙ set_length c.ranks r told_x);
    ranks = λ s rank is. each_behind s (had s) rank is;
    hubs = subst (λ h. AlikeHubs no_renaming (hub_of new.journal) h) hub_is (hub_itself (hub_of new.journal));
    boxes = subst (λ bs. AreEach AlikeBoxes bs node.cluster.boxes) (sym (ap (λ (k : Cluster). k.boxes) new_is)) calls.boxes;
  }

-- ---- the three ranks

asks_0 : asked sender_0 0 ≡ Ask.Hub (sends 104)
unfolding asked doing
asks_0 = refl

asks_1 : asked sender_1 0 ≡ Ask.Hub (sends 105)
unfolding asked doing
asks_1 = refl

pub asks_wait : asked waiting 0 ≡ Ask.Hub (request.Collect 1)
unfolding asked doing told
asks_wait = refl

behind_0 : (post stamp : ℕ) → Behind (told sender_0 0 (Answer.Reply (reply.Posted post true)) stamp) (sent sender_0)
unfolding asked doing told returned
behind_0 post stamp =
    one_behind (told sender_0 0 (Answer.Reply (reply.Posted post true)) stamp) (sent sender_0) 11 tt refl

behind_1 : (post stamp : ℕ) → Behind (told sender_1 0 (Answer.Reply (reply.Posted post true)) stamp) (sent sender_1)
unfolding asked doing told returned
behind_1 post stamp =
    one_behind (told sender_1 0 (Answer.Reply (reply.Posted post true)) stamp) (sent sender_1) 11 tt refl

behind_got_0 : (stamp : ℕ) → Behind (told waiting 0 (Answer.Reply (reply.Got from_0)) stamp) (got from_0)
unfolding asked doing told returned received received_message with_status
behind_got_0 stamp = one_behind (told waiting 0 (Answer.Reply (reply.Got from_0)) stamp) (got from_0) 11 tt refl

behind_got_1 : (stamp : ℕ) → Behind (told waiting 0 (Answer.Reply (reply.Got from_1)) stamp) (got from_1)
unfolding asked doing told returned received received_message with_status
behind_got_1 stamp = one_behind (told waiting 0 (Answer.Reply (reply.Got from_1)) stamp) (got from_1) 11 tt refl

behind_wait : (stamp : ℕ) → Behind (told waiting 0 (Answer.Reply reply.NotYet) stamp) waiting
unfolding doing told
behind_wait stamp = as_there (told waiting 0 (Answer.Reply reply.NotYet) stamp) waiting 9 refl

pub stopped_0 : IsStopped (mode_of (sent sender_0) 0)
unfolding doing told returned stepped
stopped_0 = tt

pub stopped_1 : IsStopped (mode_of (sent sender_1) 0)
unfolding doing told returned stepped
stopped_1 = tt

pub stopped_got_0 : IsStopped (mode_of (got from_0) 0)
unfolding doing told returned received received_message with_status stepped
stopped_got_0 = tt

pub stopped_got_1 : IsStopped (mode_of (got from_1) 0)
unfolding doing told returned received received_message with_status stepped
stopped_got_1 = tt

-- ---- where the turns lead

pub from_open_0 : Calls open_node.cluster 0 sender_0 (sends 104) 1 sent_0 (sent sender_0)
unfolding reply_in
from_open_0 = record { here = refl; asks = asks_0; there = refl; ranks = refl; behind = behind_0 2; hub = refl; boxes = no_boxes }

pub from_open_1 : Calls open_node.cluster 1 sender_1 (sends 105) 2 sent_1 (sent sender_1)
unfolding reply_in
from_open_1 = record { here = refl; asks = asks_1; there = refl; ranks = refl; behind = behind_1 2; hub = refl; boxes = no_boxes }

pub from_open_2 : Calls open_node.cluster 2 waiting (request.Collect 1) 0 open_node waiting
unfolding reply_in
from_open_2 = record { here = refl; asks = asks_wait; there = refl; ranks = refl; behind = behind_wait; hub = refl; boxes = no_boxes }

from_sent_0_1 : Calls sent_0.cluster 1 sender_1 (sends 105) 5 both_0 (sent sender_1)
unfolding reply_in
from_sent_0_1 = record { here = refl; asks = asks_1; there = refl; ranks = refl; behind = behind_1 3; hub = refl; boxes = no_boxes }

pub from_sent_0_2 : Calls sent_0.cluster 2 waiting (request.Collect 1) 3 got_0 (got from_0)
unfolding reply_in
from_sent_0_2 = record { here = refl; asks = asks_wait; there = refl; ranks = refl; behind = behind_got_0; hub = refl; boxes = no_boxes }

from_sent_1_0 : Calls sent_1.cluster 0 sender_0 (sends 104) 6 both_1 (sent sender_0)
unfolding reply_in
from_sent_1_0 = record { here = refl; asks = asks_0; there = refl; ranks = refl; behind = behind_0 3; hub = refl; boxes = no_boxes }

pub from_sent_1_2 : Calls sent_1.cluster 2 waiting (request.Collect 1) 4 got_1 (got from_1)
unfolding reply_in
from_sent_1_2 = record { here = refl; asks = asks_wait; there = refl; ranks = refl; behind = behind_got_1; hub = refl; boxes = no_boxes }

pub from_got_0 : Calls got_0.cluster 1 sender_1 (sends 105) 7 end_0 (sent sender_1)
unfolding reply_in
from_got_0 = record { here = refl; asks = asks_1; there = refl; ranks = refl; behind = behind_1 3; hub = refl; boxes = no_boxes }

pub from_got_1 : Calls got_1.cluster 0 sender_0 (sends 104) 8 end_1 (sent sender_0)
unfolding reply_in
from_got_1 = record { here = refl; asks = asks_0; there = refl; ranks = refl; behind = behind_0 3; hub = refl; boxes = no_boxes }

from_both_0 : Calls both_0.cluster 2 waiting (request.Collect 1) 7 end_0 (got from_0)
unfolding reply_in
from_both_0 = record { here = refl; asks = asks_wait; there = refl; ranks = refl; behind = behind_got_0; hub = refl; boxes = no_boxes }

from_both_1 : Calls both_1.cluster 2 waiting (request.Collect 1) 8 end_1 (got from_1)
unfolding reply_in
from_both_1 = record { here = refl; asks = asks_wait; there = refl; ranks = refl; behind = behind_got_1; hub = refl; boxes = no_boxes }

-- ---- the list is closed

-- a rank of a node is done, or wherever its next turn leads is covered
abbrev pub IsFine : Node → ℕ → Rank → Type 0
IsFine node r rank =
    IsDone (one_hart r) rank
    ⊎ ((e : Step) (new : Cluster) → e.rank ≡ r → e.hart ≡ one_hart r (node.had r) → Leads node.cluster e new
    → IsCovered one_hart race (record { cluster = new; had = one_more node.had r }))

abbrev pub AreFine : Node → Type 0
AreFine node = (r : ℕ) (rank : Rank) → slice_get node.cluster.ranks r ≡ Some rank → IsFine node r rank

goes : (node : Node) (r : ℕ) (x : Rank) (q : Request) (index : ℕ) (next : Node) (y : Rank)
    → Calls node.cluster r x q index next y → IsFine node r x
goes node r x q index next y calls = inr (λ e new at hart leads.
    call_covered race node.cluster r x q index next y (reaches race node.cluster r x q index next y index calls.there calls)
    e new at hart leads (one_more node.had r))

rests : (node : Node) (r : ℕ) (rank : Rank) → IsStopped (mode_of rank 0) → IsFine node r rank
rests node r rank stopped = inl (λ n. stopped)

-- what holds of three ranks holds of each
pub by_rank : (P : ℕ → Rank → Type 0) (ranks : List Rank) (a b c : Rank) → ranks ≡ a ∷ b ∷ c ∷ [] → P 0 a → P 1 b
    → P 2 c → (r : ℕ) (rank : Rank) → slice_get ranks r ≡ Some rank → P r rank
by_rank P ranks a b c are x y z zero rank here =
    subst (P 0) (same_Some a rank (sym (ap (λ l. slice_get l 0) are) ∙ here)) x
by_rank P ranks a b c are x y z (suc zero) rank here =
    subst (P 1) (same_Some b rank (sym (ap (λ l. slice_get l 1) are) ∙ here)) y
by_rank P ranks a b c are x y z (suc (suc zero)) rank here =
    subst (P 2) (same_Some c rank (sym (ap (λ l. slice_get l 2) are) ∙ here)) z
by_rank P ranks a b c are x y z (suc (suc (suc r))) rank here =
    let none = sym (ap (λ l. slice_get l (suc (suc (suc r)))) are) ∙ here in absurd (cc)

fine : (node : Node) (a b c : Rank) → node.cluster.ranks ≡ a ∷ b ∷ c ∷ [] → IsFine node 0 a → IsFine node 1 b
    → IsFine node 2 c → AreFine node
fine node a b c are x y z = by_rank (IsFine node) node.cluster.ranks a b c are x y z

all_fine : (i : ℕ) (node : Node) → slice_get race i ≡ Some node → AreFine node
all_fine zero node is =
    subst AreFine (same_Some open_node node is)
    (fine open_node sender_0 sender_1 waiting refl
    (goes open_node 0 sender_0 (sends 104) 1 sent_0 (sent sender_0) from_open_0)
    (goes open_node 1 sender_1 (sends 105) 2 sent_1 (sent sender_1) from_open_1)
    (goes open_node 2 waiting (request.Collect 1) 0 open_node waiting from_open_2))
all_fine (suc zero) node is =
    subst AreFine (same_Some sent_0 node is)
    (fine sent_0 (sent sender_0) sender_1 waiting refl
    (rests sent_0 0 (sent sender_0) stopped_0)
    (goes sent_0 1 sender_1 (sends 105) 5 both_0 (sent sender_1) from_sent_0_1)
    (goes sent_0 2 waiting (request.Collect 1) 3 got_0 (got from_0) from_sent_0_2))
all_fine (suc (suc zero)) node is =
    subst AreFine (same_Some sent_1 node is)
    (fine sent_1 sender_0 (sent sender_1) waiting refl
    (goes sent_1 0 sender_0 (sends 104) 6 both_1 (sent sender_0) from_sent_1_0)
    (rests sent_1 1 (sent sender_1) stopped_1)
    (goes sent_1 2 waiting (request.Collect 1) 4 got_1 (got from_1) from_sent_1_2))
all_fine (suc (suc (suc zero))) node is =
    subst AreFine (same_Some got_0 node is)
    (fine got_0 (sent sender_0) sender_1 (got from_0) refl
    (rests got_0 0 (sent sender_0) stopped_0)
    (goes got_0 1 sender_1 (sends 105) 7 end_0 (sent sender_1) from_got_0)
    (rests got_0 2 (got from_0) stopped_got_0))
all_fine (suc (suc (suc (suc zero)))) node is =
    subst AreFine (same_Some got_1 node is)
    (fine got_1 sender_0 (sent sender_1) (got from_1) refl
    (goes got_1 0 sender_0 (sends 104) 8 end_1 (sent sender_0) from_got_1)
    (rests got_1 1 (sent sender_1) stopped_1)
    (rests got_1 2 (got from_1) stopped_got_1))
all_fine (suc (suc (suc (suc (suc zero))))) node is =
    subst AreFine (same_Some both_0 node is)
    (fine both_0 (sent sender_0) (sent sender_1) waiting refl
    (rests both_0 0 (sent sender_0) stopped_0)
    (rests both_0 1 (sent sender_1) stopped_1)
    (goes both_0 2 waiting (request.Collect 1) 7 end_0 (got from_0) from_both_0))
all_fine (suc (suc (suc (suc (suc (suc zero)))))) node is =
    subst AreFine (same_Some both_1 node is)
    (fine both_1 (sent sender_0) (sent sender_1) waiting refl
    (rests both_1 0 (sent sender_0) stopped_0)
    (rests both_1 1 (sent sender_1) stopped_1)
    (goes both_1 2 waiting (request.Collect 1) 8 end_1 (got from_1) from_both_1))
all_fine (suc (suc (suc (suc (suc (suc (suc zero))))))) node is =
    subst AreFine (same_Some end_0 node is)
    (fine end_0 (sent sender_0) (sent sender_1) (got from_0) refl
    (rests end_0 0 (sent sender_0) stopped_0)
    (rests end_0 1 (sent sender_1) stopped_1)
    (rests end_0 2 (got from_0) stopped_got_0))
all_fine (suc (suc (suc (suc (suc (suc (suc (suc zero)))))))) node is =
    subst AreFine (same_Some end_1 node is)
    (fine end_1 (sent sender_0) (sent sender_1) (got from_1) refl
    (rests end_1 0 (sent sender_0) stopped_0)
    (rests end_1 1 (sent sender_1) stopped_1)
    (rests end_1 2 (got from_1) stopped_got_1))
all_fine (suc (suc (suc (suc (suc (suc (suc (suc (suc i))))))))) node is = absurd (cc)

pub closed : IsClosed one_hart race
closed = record { each = λ i r node rank there here. all_fine i node there r rank here }

pub start : IsCovered one_hart race open_node
start = record {
  index = 0;
  node = open_node;
  there = refl;
  names = no_renaming;
  many = refl;
  ranks = λ r rank here.
      (rank, here, as_there rank rank rank.clock refl (open_node.had r) (open_node.had r));
  hubs = hub_itself (hub_of open_node.cluster.journal);
  boxes = no_boxes;
}

-- ---- which nodes are ends

ended : (c : Cluster) (x y z : Rank) → c.ranks ≡ x ∷ y ∷ z ∷ [] → IsStopped (mode_of x 0) → IsStopped (mode_of y 0)
    → IsStopped (mode_of z 0) → IsEnd one_hart c
ended c x y z are s t u zero n rank here =
    inl (subst (λ k. IsStopped (mode_of k 0)) (same_Some x rank (sym (ap (λ l. slice_get l 0) are) ∙ here)) s)
ended c x y z are s t u (suc zero) n rank here =
    inl (subst (λ k. IsStopped (mode_of k 0)) (same_Some y rank (sym (ap (λ l. slice_get l 1) are) ∙ here)) t)
ended c x y z are s t u (suc (suc zero)) n rank here =
    inl (subst (λ k. IsStopped (mode_of k 0)) (same_Some z rank (sym (ap (λ l. slice_get l 2) are) ∙ here)) u)
ended c x y z are s t u (suc (suc (suc r))) n rank here =
    let none = sym (ap (λ l. slice_get l (suc (suc (suc r)))) are) ∙ here in absurd (cc)

pub is_end_0 : IsEnd one_hart end_0.cluster
is_end_0 = ended end_0.cluster (sent sender_0) (sent sender_1) (got from_0) refl stopped_0 stopped_1 stopped_got_0

pub is_end_1 : IsEnd one_hart end_1.cluster
is_end_1 = ended end_1.cluster (sent sender_0) (sent sender_1) (got from_1) refl stopped_0 stopped_1 stopped_got_1

runs_on : (c : Cluster) (r : ℕ) (x : Rank) → slice_get c.ranks r ≡ Some x → mode_of x 0 ≡ Running → IsEnd one_hart c → ⊥
runs_on c r x here running end = elim (end r 0 x here) [
  | inl stopped ↦ subst IsStopped running stopped
  | inr waits ↦ subst IsWaiting running (waits.0).waits
]

-- a receive that has its message goes on
finds : (c : Cluster) (message : Message) → slice_get c.ranks 2 ≡ Some waiting
    → reply_in c.journal 2 (request.Collect 1) ≡ reply.Got message → IsEnd one_hart c → ⊥
unfolding doing told
finds c message here got end = elim (end 2 0 waiting here) [
  | inl stopped ↦ stopped
  | inr waits ↦
      let none : reply_in c.journal 2 (request.Collect 1) ≡ reply.NotYet = subst (IsInVain c 2) asks_wait waits.1 in
      let both : reply.Got message ≡ reply.NotYet = sym got ∙ none in absurd (cc)
]

got_in_0 : reply_in both_0.cluster.journal 2 (request.Collect 1) ≡ reply.Got from_0
unfolding reply_in
got_in_0 = refl

got_in_1 : reply_in both_1.cluster.journal 2 (request.Collect 1) ≡ reply.Got from_1
unfolding reply_in
got_in_1 = refl

-- where the node is this one, which is no end
other : (known node : Node) → known ≡ node → (IsEnd one_hart known.cluster → ⊥) → IsEnd one_hart node.cluster
    → (node ≡ end_0) ⊎ (node ≡ end_1)
other known node is not end = absurd (not (subst (λ (n : Node). IsEnd one_hart n.cluster) (sym is) end))

pub two : (i : ℕ) (node : Node) → slice_get race i ≡ Some node → IsEnd one_hart node.cluster
    → (node ≡ end_0) ⊎ (node ≡ end_1)
two zero node is =
    other open_node node (same_Some open_node node is) (runs_on open_node.cluster 0 sender_0 refl refl)
two (suc zero) node is = other sent_0 node (same_Some sent_0 node is) (runs_on sent_0.cluster 1 sender_1 refl refl)
two (suc (suc zero)) node is =
    other sent_1 node (same_Some sent_1 node is) (runs_on sent_1.cluster 0 sender_0 refl refl)
two (suc (suc (suc zero))) node is =
    other got_0 node (same_Some got_0 node is) (runs_on got_0.cluster 1 sender_1 refl refl)
two (suc (suc (suc (suc zero)))) node is =
    other got_1 node (same_Some got_1 node is) (runs_on got_1.cluster 0 sender_0 refl refl)
two (suc (suc (suc (suc (suc zero))))) node is =
    other both_0 node (same_Some both_0 node is) (finds both_0.cluster from_0 refl got_in_0)
two (suc (suc (suc (suc (suc (suc zero)))))) node is =
    other both_1 node (same_Some both_1 node is) (finds both_1.cluster from_1 refl got_in_1)
two (suc (suc (suc (suc (suc (suc (suc zero))))))) node is = λ end. inl (sym (same_Some end_0 node is))
two (suc (suc (suc (suc (suc (suc (suc (suc zero)))))))) node is = λ end. inr (sym (same_Some end_1 node is))
two (suc (suc (suc (suc (suc (suc (suc (suc (suc i))))))))) node is = absurd (cc)

-- ---- what was received

bytes_0 : bytes_at (got from_0).memory 16 1 ≡ 104 ∷ []
unfolding doing told returned received received_message with_status stepped
bytes_0 = refl

bytes_1 : bytes_at (got from_1).memory 16 1 ≡ 105 ∷ []
unfolding doing told returned received received_message with_status stepped
bytes_1 = refl

pub receives_0 : Receives end_0.cluster 104
receives_0 = (got from_0, refl, bytes_0)

pub receives_1 : Receives end_1.cluster 105
receives_1 = (got from_1, refl, bytes_1)

-- an alike cluster received the same
alike_receives : (a b : Cluster) (byte : ℕ) → AreAlike b a → Receives a byte → Receives b byte
alike_receives a b byte alike received =
    let v = ends_law.tells a b 2 received.0 (likeness_law.back b a alike) received.1 in
    (v.0, v.1, ap (λ m. bytes_at m 16 1) (v.2).memory ∙ received.2)

pub runs : EndsInOneOfTwo
runs steps end run follow is =
    let found = every_end_law one_hart race open_node start closed steps end run follow is in
    elim (two found.0 found.1 found.2 (ends_law.ends one_hart end (found.1).cluster found.3 is)) [
      | inl first ↦
          inl (alike_receives (found.1).cluster end 104 found.3
          (subst (λ (n : Node). Receives n.cluster 104) (sym first) receives_0))
      | inr second ↦
          inr (alike_receives (found.1).cluster end 105 found.3
          (subst (λ (n : Node). Receives n.cluster 105) (sym second) receives_1))
    ]

pub posted_first : IsPosted
unfolding asked doing told reply_in
posted_first = (
  open_node.cluster,
  (receiver, refl, omega arith, omega arith, (receives, refl, refl, refl, refl)),
  refl,
)
