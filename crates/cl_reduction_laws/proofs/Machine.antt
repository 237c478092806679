-- Clusters as a machine of ranks that take turns.
use Rattle.std.proofs.Common.{◌≡◌, ◌∙◌, ℕ, ◌+◌, ◌<◌, ◌⊎◌, inl, inr, refl, sym, ap, subst, List, [], ◌∷◌, length, Some}
use Rattle.std.specs.Prelude.{map, max}
use Rattle.std.specs.List.{slice_get, slice_set}
use Rattle.std.proofs.lemmas.List.{length-map}
use Rattle.std.proofs.lemmas.Option.{same_Some}
use Rattle.mp_types.specs.declared.requests.Request.{Request}
use Rattle.mp_hub.specs.Hub.{outcome}
use Rattle.mp_alike_laws.specs.Renaming.{no_renaming}
use Rattle.mp_source_laws.specs.Alike.{AlikeHubs, Wild}
use Rattle.mp_source_laws.proofs.Likeness.{itself as hub_itself}
use Rattle.cl_journal.specs.declared.entries.Entry.{Entry}
use Rattle.cl_state.specs.declared.asking.Answer.{Answer}
use Rattle.cl_state.specs.declared.asking.Answer.TheVariants as answer
use Rattle.cl_state.specs.declared.asking.Ask.{Ask}
use Rattle.cl_state.specs.Asked.{asked}
use Rattle.cl_state.specs.Rank.{Rank}
use Rattle.cl_state.specs.Told.{told}
use Rattle.cl_state_laws.specs.Awake.{StandsAtCall, awake}
use Rattle.cl_state_laws.proofs.Wakes.{harts_awake, wake_law}
use Rattle.cl_trace.specs.declared.events.Kind.{Kind}
use Rattle.cl_machine.specs.declared.steps.Step.{Step}
use Rattle.cl_machine.specs.Boxes.{Box, box_number, with_made, with_taken}
use Rattle.cl_machine.specs.Cluster.{CaseOf, Cluster, only_told, ranks_told}
use Rattle.cl_machine.specs.Journal.{Journal, with_entry}
use Rattle.cl_order_laws.specs.Alike.{AlikeBoxes, AlikeRanks, AreEach, hub_of}
use Rattle.cl_order_laws.proofs.Each.{each_set}
use Rattle.cl_order_laws.proofs.Likeness.{AreSound, rank_itself}
use Rattle.cl_order_laws.proofs.Ranks.{told_stamped}
use Rattle.cl_first_laws.specs.Below.{AreAlike}
use Rattle.cl_first_laws.specs.Laws.{Turn}
use Rattle.cl_first_laws.proofs.Exchanges.{next, turn_of}
use Rattle.cl_reduction_laws.specs.Clusters.{IsAtBox, awake_cluster}
use Rattle.cl_reduction_laws.proofs.Awake.{map_set, mapped}
use Rattle.cl_reduction_laws.proofs.Good.{Gone, IsOnly, IsOwn, alone, called, met}

-- ---- a turn of a rank, by what it asks

-- where it can be taken
pub turn_by : (r hart : ℕ) (c : Cluster) (rank : Rank) → slice_get c.ranks r ≡ Some rank → hart < length rank.harts
    → IsOnly (asked rank hart)
    → (new : Cluster) × Turn r hart c new
turn_by r hart c rank there within made = go (asked rank hart) refl
  where
    at : Kind → Step
    at kind = record { rank = r; hart = hart; stamp = rank.clock + 1; kind = kind }

    only : Kind → Cluster
    only kind = only_told c (at kind) rank answer.Alone

    go : (a : Ask) → asked rank hart ≡ a → (new : Cluster) × Turn r hart c new
    go Ask.Plain is =
        (only Kind.Plain, record { step = at Kind.Plain; rank = refl; hart = refl; leads = (rank, there, within, (is, refl, refl)) })
    go Ask.Local is =
        (only Kind.Local, record { step = at Kind.Local; rank = refl; hart = refl; leads = (rank, there, within, (is, refl, refl)) })
    go Ask.Idle is =
        (only Kind.Idle, record { step = at Kind.Idle; rank = refl; hart = refl; leads = (rank, there, within, (is, refl, refl)) })
    go (Ask.Hub q) is = (next c r hart rank q, turn_of c r hart rank q there is)
    go Ask.Held is = absurd (subst IsOnly is made)
    go (Ask.Ready link part bytes) is = absurd (subst IsOnly is made)
    go (Ask.Look link part) is = absurd (subst IsOnly is made)
    go (Ask.Freed link part) is = absurd (subst IsOnly is made)

-- ---- clusters that differ in who is awake, and in clocks

-- ranks that were told the same, but for the stamp, in lists that are alike otherwise
each_told : (xs ys : List Rank) (r : ℕ) (u v : Rank) → AreEach (AlikeRanks no_renaming) (map awake xs) (map awake ys)
    → AlikeRanks no_renaming (awake u) (awake v)
    → AreEach (AlikeRanks no_renaming) (map awake (slice_set xs r u)) (map awake (slice_set ys r v))
each_told xs ys r u v each alike =
    subst (λ zs. AreEach (AlikeRanks no_renaming) zs (map awake (slice_set ys r v))) (sym (map_set awake xs r u))
    (subst (λ zs. AreEach (AlikeRanks no_renaming) (slice_set (map awake xs) r (awake u)) zs) (sym (map_set awake ys r v))
    (each_set (AlikeRanks no_renaming) (map awake xs) (map awake ys) r (awake u) (awake v) each alike))

pub each_itself : (xs : List Rank) → AreEach (AlikeRanks no_renaming) xs xs
each_itself xs = record { many = refl; each = λ i x at. (x, at, rank_itself x x.clock) }

boxes_itself : (boxes : List Box) → AreSound boxes → AreEach AlikeBoxes boxes boxes
boxes_itself boxes sound = record { many = refl; each = λ i box here. (box, here, sound i box here) }

-- the same but for who is awake
pub record IsSame (c k : Cluster) : Type 0 where
  pub ranks : AreEach (AlikeRanks no_renaming) (map awake c.ranks) (map awake k.ranks)
  pub hubs : hub_of k.journal ≡ hub_of c.journal
  pub boxes : k.boxes ≡ c.boxes

pub same_alike : (wild : Wild) (c k : Cluster) → AreSound c.boxes → IsSame c k → AreAlike wild (awake_cluster c) (awake_cluster k)
same_alike wild c k sound same = (
  no_renaming,
  record {
    ranks = same.ranks;
    hubs = subst (λ h. AlikeHubs wild no_renaming (hub_of c.journal) h) (sym same.hubs) (hub_itself (hub_of c.journal));
    boxes = subst (λ bs. AreEach AlikeBoxes c.boxes bs) (sym same.boxes) (boxes_itself c.boxes sound);
  },
)

awake_told : (rank : Rank) (hart : ℕ) (a : Answer) (stamp other : ℕ) → StandsAtCall rank hart
    → AlikeRanks no_renaming (awake (told rank hart a stamp)) (awake (told (awake rank) hart a other))
awake_told rank hart a stamp other stands =
    subst (λ z. AlikeRanks no_renaming (awake (told rank hart a stamp)) z)
    (sym ((wake_law.tells) rank hart other a stands ∙ ap awake (told_stamped rank hart a stamp other)))
    (rank_itself (awake (told rank hart a stamp)) other)

same_told : (rank : Rank) (hart : ℕ) (a : Answer) (stamp other : ℕ)
    → AlikeRanks no_renaming (awake (told rank hart a stamp)) (awake (told rank hart a other))
same_told rank hart a stamp other =
    subst (λ z. AlikeRanks no_renaming (awake (told rank hart a stamp)) z) (sym (ap awake (told_stamped rank hart a stamp other)))
    (rank_itself (awake (told rank hart a stamp)) other)

-- two ranks that ask the same and are left the same, whatever they are told
pub record AskAlike (hart : ℕ) (x y : Rank) : Type 0 where
  pub asks : asked y hart ≡ asked x hart
  pub tells : (a : Answer) (stamp other : ℕ) → AlikeRanks no_renaming (awake (told x hart a stamp)) (awake (told y hart a other))

-- a turn at a box isn't the only one
one_or_box : (a : Ask) → IsOnly a → IsAtBox a → ⊥
one_or_box (Ask.Ready link part bytes) single at = single
one_or_box (Ask.Look link part) single at = single
one_or_box (Ask.Freed link part) single at = single
one_or_box _ single at = at

-- turns of two such ranks in clusters that are the same but for who is awake lead to such clusters
pub same_turns : (r hart : ℕ) (c k new other : Cluster) (x y : Rank) → IsSame c k
    → slice_get c.ranks r ≡ Some x → slice_get k.ranks r ≡ Some y → AskAlike hart x y → IsOnly (asked x hart)
    → Gone r hart c new x → Gone r hart k other y
    → IsSame new other
same_turns r hart c k new other x y same here there ask one (alone s own ranks journal boxes) (alone t also others kept same_boxes) = record {
  ranks = subst (λ us. AreEach (AlikeRanks no_renaming) (map awake us) (map awake other.ranks)) (sym ranks)
      (subst (λ vs. AreEach (AlikeRanks no_renaming) (map awake (slice_set c.ranks r (told x hart answer.Alone s))) (map awake vs)) (sym others)
      (each_told c.ranks k.ranks r _ _ same.ranks (ask.tells answer.Alone s t)));
  hubs = ap hub_of kept ∙ same.hubs ∙ sym (ap hub_of journal);
  boxes = same_boxes ∙ same.boxes ∙ sym boxes;
}
same_turns r hart c k new other x y same here there ask single (called q asks a) (called p also b) =
    let one : p ≡ q = hub_inj p q (sym also ∙ ask.asks ∙ asks) in
    let reply : (outcome (hub_of k.journal) r p).0 ≡ (outcome (hub_of c.journal) r q).0 =
    ap (λ h. (outcome h r p).0) same.hubs ∙ ap (λ z. (outcome (hub_of c.journal) r z).0) one in
    record {
      ranks = subst (λ us. AreEach (AlikeRanks no_renaming) (map awake us) (map awake other.ranks)) (sym a.ranks)
          (subst (λ vs. AreEach (AlikeRanks no_renaming)
          (map awake (slice_set c.ranks r (told x hart (answer.Reply (outcome (hub_of c.journal) r q).0) a.stamp))) (map awake vs))
          (sym (b.ranks ∙ ap (λ z. slice_set k.ranks r (told y hart (answer.Reply z) b.stamp)) reply))
          (each_told c.ranks k.ranks r _ _ same.ranks (ask.tells (answer.Reply (outcome (hub_of c.journal) r q).0) a.stamp b.stamp)));
      hubs = b.hubs ∙ ap (λ h. (outcome h r p).1) same.hubs ∙ ap (λ z. (outcome (hub_of c.journal) r z).1) one ∙ sym a.hubs;
      boxes = b.boxes ∙ same.boxes ∙ sym a.boxes;
    }
  where
    hub_inj : (p q : Request) → Ask.Hub p ≡ Ask.Hub q → p ≡ q
    hub_inj p q e = cc
same_turns r hart c k new other x y same here there ask single (alone s own ranks journal boxes) (called p also b) =
    absurd (subst IsOwn (sym ask.asks ∙ also) own)
same_turns r hart c k new other x y same here there ask single (called q asks a) (alone t also others kept boxes) =
    absurd (subst IsOwn (ask.asks ∙ asks) also)
same_turns r hart c k new other x y same here there ask single (met at a) gone = absurd (one_or_box (asked x hart) single at)
same_turns r hart c k new other x y same here there ask single gone (met at a) =
    absurd (one_or_box (asked x hart) single (subst IsAtBox ask.asks at))

-- ---- a cluster, and the same awake

awake_twice : (x : Rank) → awake (awake x) ≡ awake x
awake_twice x = (λ i. record x { harts = harts_awake x.harts i })

ranks_twice : (xs : List Rank) → map awake (map awake xs) ≡ map awake xs
ranks_twice [] = refl
ranks_twice (x ∷ xs) = (λ i. awake_twice x i ∷ ranks_twice xs i)

pub same_awake : (c : Cluster) → IsSame c (awake_cluster c)
same_awake c = record {
  ranks = subst (λ ys. AreEach (AlikeRanks no_renaming) (map awake c.ranks) ys) (sym (ranks_twice c.ranks)) (each_itself (map awake c.ranks));
  hubs = refl;
  boxes = refl;
}

pub ask_awake : (hart : ℕ) (x : Rank) → StandsAtCall x hart → AskAlike hart x (awake x)
ask_awake hart x stands = record {
  asks = (wake_law.asks) x hart stands;
  tells = λ a stamp other. awake_told x hart a stamp other stands;
}

pub ask_itself : (hart : ℕ) (x : Rank) → AskAlike hart x x
ask_itself hart x = record { asks = refl; tells = λ a stamp other. same_told x hart a stamp other }

pub same_itself : (c : Cluster) → IsSame c c
same_itself c = record { ranks = each_itself (map awake c.ranks); hubs = refl; boxes = refl }

-- ---- the same turn, awake or asleep

-- the cluster with other ranks
abbrev pub with_ranks : Cluster → List Rank → Cluster
with_ranks c ranks = record { ranks = ranks; journal = c.journal; boxes = c.boxes }

-- with these ranks the cluster is the same but for who is awake, and this one asks the same and has the same clock
pub record IsTwin (r hart : ℕ) (c : Cluster) (others : List Rank) (x y : Rank) : Type 0 where
  pub asks : asked y hart ≡ asked x hart
  pub tells : (a : Answer) (stamp : ℕ) → AlikeRanks no_renaming (awake (told x hart a stamp)) (awake (told y hart a stamp))
  pub clock : y.clock ≡ x.clock
  pub inside : hart < length y.harts
  pub there : slice_get others r ≡ Some y
  pub ranks : AreEach (AlikeRanks no_renaming) (map awake c.ranks) (map awake others)

-- a turn leads to the same but for who is awake
pub record IsMatched (r hart : ℕ) (k new : Cluster) : Type 0 where
  pub then : Cluster
  pub turn : Turn r hart k then
  pub same : IsSame new then

module _ (e : Step) (c new : Cluster) (others : List Rank) (x y : Rank) (twin : IsTwin e.rank e.hart c others x y) where
  abbrev k : Cluster
  k = with_ranks c others

  -- the rank is told this in both, and the hub and the boxes are these
  told_both : (kind : Kind) → e.kind ≡ kind → (a : Answer) (journal : Journal) (boxes : List Box)
      → (let n : Cluster = record { ranks = ranks_told c e x a; journal = journal; boxes = boxes } in new ≡ n)
      → (let n : Cluster = record { ranks = ranks_told k e y a; journal = journal; boxes = boxes } in CaseOf k e y kind n)
      → IsMatched e.rank e.hart k new
  told_both kind is a journal boxes at case =
      let then : Cluster = record { ranks = ranks_told k e y a; journal = journal; boxes = boxes } in
      record {
        then = then;
        turn = record {
          step = e;
          rank = refl;
          hart = refl;
          leads = (y, twin.there, twin.inside, subst (λ q. CaseOf k e y q then) (sym is) case);
        };
        same = record {
          ranks = subst (λ us. AreEach (AlikeRanks no_renaming) (map awake us) (map awake then.ranks))
              (sym (ap (λ (n : Cluster). n.ranks) at))
              (each_told c.ranks others e.rank _ _ twin.ranks (twin.tells a e.stamp));
          hubs = ap (λ (n : Cluster). hub_of n.journal) (sym at);
          boxes = ap (λ (n : Cluster). n.boxes) (sym at);
        };
      }

  at_clock_too : e.stamp ≡ x.clock + 1 → e.stamp ≡ y.clock + 1
  at_clock_too stamp = stamp ∙ ap (λ n. n + 1) (sym twin.clock)

  above_too : (other : ℕ) → e.stamp ≡ max x.clock other + 1 → e.stamp ≡ max y.clock other + 1
  above_too other stamp = stamp ∙ ap (λ n. max n other + 1) (sym twin.clock)

  looks : (link part : ℕ) → ((asked x e.hart ≡ Ask.Look link part) ⊎ (asked x e.hart ≡ Ask.Freed link part))
      → ((asked y e.hart ≡ Ask.Look link part) ⊎ (asked y e.hart ≡ Ask.Freed link part))
  looks link part (inl look) = inl (twin.asks ∙ look)
  looks link part (inr freed) = inr (twin.asks ∙ freed)

  matched : (kind : Kind) → e.kind ≡ kind → CaseOf c e x kind new → IsMatched e.rank e.hart k new
  matched Kind.Plain is t =
      told_both Kind.Plain is answer.Alone c.journal c.boxes t.2 (twin.asks ∙ t.0, at_clock_too t.1, refl)
  matched Kind.Local is t =
      told_both Kind.Local is answer.Alone c.journal c.boxes t.2 (twin.asks ∙ t.0, at_clock_too t.1, refl)
  matched Kind.Held is t =
      told_both Kind.Held is answer.Alone c.journal c.boxes t.2 (twin.asks ∙ t.0, at_clock_too t.1, refl)
  matched Kind.Idle is t =
      told_both Kind.Idle is answer.Alone c.journal c.boxes t.2 (twin.asks ∙ t.0, at_clock_too t.1, refl)
  matched (Kind.Hub r) is t =
      let entry = λ (n : ℕ).
      (let en : Entry = record { rank = e.rank; hart = e.hart; clock = n; stamp = e.stamp; request = t.0; reply = r } in en) in
      told_both (Kind.Hub r) is (answer.Reply r) (with_entry c.journal (entry y.clock)) c.boxes
      (t.4 ∙ ap (λ n. (let m : Cluster = record {
        ranks = ranks_told c e x (answer.Reply r);
        journal = with_entry c.journal (entry n);
        boxes = c.boxes;
      } in m)) (sym twin.clock))
      (t.0, twin.asks ∙ t.1, t.2, above_too c.journal.clock t.3, refl)
  matched Kind.Ready is t =
      told_both Kind.Ready is answer.Alone c.journal (slice_set c.boxes (box_number t.0 t.1) (with_made t.3 e.stamp t.2)) t.8
      (t.0, t.1, t.2, t.3, twin.asks ∙ t.4, t.5, t.6, at_clock_too t.7, refl)
  matched Kind.Take is t =
      told_both Kind.Take is (answer.Taken t.2) c.journal (slice_set c.boxes (box_number t.0 t.1) (with_taken t.3 e.stamp)) t.8
      (t.0, t.1, t.2, t.3, twin.asks ∙ t.4, t.5, t.6, above_too (t.3).stamp t.7, refl)
  matched Kind.Miss is t =
      told_both Kind.Miss is answer.Missed c.journal c.boxes t.4 (t.0, t.1, looks t.0 t.1 t.2, at_clock_too t.3, refl)
  matched Kind.Freed is t =
      told_both Kind.Freed is answer.Freed c.journal c.boxes t.7
      (t.0, t.1, t.2, twin.asks ∙ t.3, t.4, t.5, above_too (t.2).stamp t.6, refl)

pub goes_too : (r hart : ℕ) (c new : Cluster) (others : List Rank) (x y : Rank) → slice_get c.ranks r ≡ Some x
    → IsTwin r hart c others x y → Turn r hart c new
    → IsMatched r hart (with_ranks c others) new
goes_too r hart c new others x y here twin turn =
    let e = turn.step in
    let l = turn.leads in
    let same : l.0 ≡ x = same_Some l.0 x (sym l.1 ∙ ap (slice_get c.ranks) turn.rank ∙ here) in
    let mine : IsTwin e.rank e.hart c others x y =
    subst (λ i. IsTwin i e.hart c others x y) (sym turn.rank)
    (subst (λ h. IsTwin r h c others x y) (sym turn.hart) twin) in
    subst (λ h. IsMatched r h (with_ranks c others) new) turn.hart
    (subst (λ i. IsMatched i e.hart (with_ranks c others) new) turn.rank
    (matched e c new others x y mine e.kind refl (subst (λ z. CaseOf c e z e.kind new) same l.3)))

pub awake_twin : (r hart : ℕ) (c : Cluster) (x : Rank) → slice_get c.ranks r ≡ Some x → StandsAtCall x hart
    → hart < length x.harts
    → IsTwin r hart c (map awake c.ranks) x (awake x)
awake_twin r hart c x here stands inside = record {
  asks = (wake_law.asks) x hart stands;
  tells = λ a stamp. awake_told x hart a stamp stamp stands;
  clock = refl;
  inside = subst (λ n. hart < n) (sym (length-map x.harts _)) inside;
  there = mapped awake c.ranks r x here;
  ranks = (same_awake c).ranks;
}

pub asleep_twin : (r hart : ℕ) (c : Cluster) (y : Rank) → slice_get c.ranks r ≡ Some y → StandsAtCall y hart
    → hart < length y.harts
    → IsTwin r hart (awake_cluster c) c.ranks (awake y) y
unfolding told
asleep_twin r hart c y here stands inside = record {
  asks = sym ((wake_law.asks) y hart stands);
  tells = λ a stamp.
      subst (λ z. AlikeRanks no_renaming (awake (told (awake y) hart a stamp)) z) ((wake_law.tells) y hart stamp a stands)
      (rank_itself (awake (told (awake y) hart a stamp)) stamp);
  clock = refl;
  inside = inside;
  there = here;
  ranks = subst (λ xs. AreEach (AlikeRanks no_renaming) xs (map awake c.ranks)) (sym (ranks_twice c.ranks))
      (each_itself (map awake c.ranks));
}

-- ---- what a turn's rank is

pub record Taken (r hart : ℕ) (c : Cluster) : Type 0 where
  pub rank : Rank
  pub there : slice_get c.ranks r ≡ Some rank
  pub inside : hart < length rank.harts

pub taken : (r hart : ℕ) (c new : Cluster) → Turn r hart c new → Taken r hart c
taken r hart c new turn =
    let leads = turn.leads in
    record {
      rank = leads.0;
      there = ap (slice_get c.ranks) (sym turn.rank) ∙ leads.1;
      inside = subst (λ h. h < length leads.0.harts) turn.hart leads.2;
    }
