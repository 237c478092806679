-- Clusters that are alike, from what was compared of them.
use Rattle.std.specs.Prelude.{ℕ, ◌+◌, ◌/◌, ◌%◌, ◌≤◌, ◌≡◌, List, length, map, slice_get, Option, Some, None, IfSome, Bool, true}
use Rattle.std.proofs.Common.{refl, sym, ap, ◌∙◌, subst, arith, inl, inr}
use Rattle.std.proofs.lemmas.Bool.{cases_Bool}
use Rattle.std.proofs.lemmas.Option.{slice_get_within}
use Rattle.rv_image_types.specs.declared.images.ImageParts.{ImageParts}
use Rattle.part_box.specs.declared.settled.Settled.{Settled}
use Rattle.mp_hub.specs.Hub.{HubView}
use Rattle.mp_alike_laws.specs.Renaming.{Renaming}
use Rattle.mp_alike_laws.specs.Alike.{AlikeHubs as SameHubs}
use Rattle.mp_alike.specs.Names.{AreAlikeBy, AreLiveAlikeBy, IsListed}
use Rattle.cl_state.specs.Rank.{Rank, loaded}
use Rattle.cl_state.specs.Room.{rank_of}
use Rattle.cl_state.specs.Same.{IsSameBeside}
use Rattle.cl_names_laws.specs.Named.{hart_by, table_by}
use Rattle.cl_machine.specs.Keys.{Shows, bytes_in}
use Rattle.cl_machine.specs.Boxes.{Box}
use Rattle.cl_replay.specs.Boxes.{at_part, settled_at}
use Rattle.cl_replay.proofs.Boxed.{shown_of_box}
use Rattle.cl_order_laws.specs.Alike.{AlikeBoxes, AlikeRanks, AreEach, IsFull, hub_of}
use Rattle.cl_order_laws.specs.Closed.{Node}
use Rattle.cl_order_laws.specs.Laws.{AreAlike as AreSame}
use Rattle.cl_contests.specs.Below.{AlikeHubs, Contest, is_same}
use Rattle.cl_contests.specs.Kept.{search_of}
use Rattle.cl_contests.specs.declared.patterns.AskedBy.{AskedBy}
use Rattle.cl_contest_laws.proofs.Below.{comes_reached, same_site}
use Rattle.cl_moves.specs.Standing.{StandsAt}
use Rattle.cl_moves.specs.declared.standing.Standing.{Standing}
use Rattle.cl_explore.specs.How.{AreAlikeIn, How, at_once, by_contest, how_of, plainly}
use Rattle.cl_explore.specs.declared.course.Way.TheVariants as ways
use Rattle.cl_explore.specs.Kept.{IsAlikeKept, IsFound, KeptStandsAt}
use Rattle.cl_alike.specs.Boxes.{AreAlikeLinks, IsAlikeSettled}
use Rattle.cl_explore.specs.Likeness.{AreNamedIn, HaveSameSites}
use Rattle.cl_explore.specs.declared.kept.KeptNode.{KeptNode}
use Rattle.cl_explore.proofs.Lists.{at_inside}

-- ---- lists

-- each that stands at a place in the first list corresponds to the one there in the other
pub each_of : {A : Type 0} (Alike : A → A → Type 0) (xs ys : List A) → length ys ≡ length xs
    → ((i : ℕ) (x y : A) → slice_get xs i ≡ Some x → slice_get ys i ≡ Some y → Alike x y) → AreEach Alike xs ys
each_of Alike xs ys many alike = record {
  many = many;
  each = λ i x at.
      let inside = slice_get_within xs i x at in
      let y = at_inside ys i (omega (arith, inside, many)) in
      (y.0, y.1, alike i x y.0 at y.1);
}

-- ---- ranks

pub rank_alike : (naming : Renaming) (a b : Rank) → b.site ≡ a.site → IsSameBeside b a
    → b.harts ≡ map (hart_by naming) a.harts → b.requests ≡ table_by naming a.requests → AlikeRanks naming a b
rank_alike naming a b site same harts requests = (
  b.clock,
  λ i. record {
    site = site i;
    memory = same.memory i;
    harts = harts i;
    requests = requests i;
    phases = same.phases i;
    out = same.out i;
    clock = b.clock;
  },
)

-- ---- boxes

parts_at : (boxes others : List (List Settled)) → AreAlikeLinks boxes others → (n : ℕ) (s t : Settled)
    → (o p : Option (List Settled)) → slice_get boxes (n / 16) ≡ o → slice_get others (n / 16) ≡ p
    → at_part o (n % 16) ≡ Some s → at_part p (n % 16) ≡ Some t → IsAlikeSettled s t
parts_at boxes others alike n s t None p is its at there = absurd (cc)
parts_at boxes others alike n s t (Some xs) None is its at there = absurd (cc)
parts_at boxes others alike n s t (Some xs) (Some ys) is its at there =
    (alike (n / 16) xs ys is its).each (n % 16) s t at there

settled_alike : (boxes others : List (List Settled)) → AreAlikeLinks boxes others → (n : ℕ) (s t : Settled)
    → settled_at boxes n ≡ Some s → settled_at others n ≡ Some t → IsAlikeSettled s t
settled_alike boxes others alike n s t at there =
    parts_at boxes others alike n s t (slice_get boxes (n / 16)) (slice_get others (n / 16)) refl refl at there

module _ (image : ImageParts) (s t : Settled) (a b : Box) (mine : Shows image.version s a)
    (theirs : Shows image.version t b) (alike : IsAlikeSettled s t) where
  is_full : (u : Settled) (box : Box) → Shows image.version u box → length box.made ≤ box.taken + 1 → u.full ≡ true
      → IsFull box (bytes_in image.version u.words)
  is_full u box shows one full =
      let holds = shows.full full in
      let inside = slice_get_within box.made box.taken _ holds in
      record { holds = holds; one = omega (arith, inside, one) }

  box_alike : length a.made ≤ a.taken + 1 → length b.made ≤ b.taken + 1 → AlikeBoxes a b
  box_alike few few_too = elim (cases_Bool s.full) [
    | inl full ↦
        AlikeBoxes.both_full (bytes_in image.version s.words) (is_full s a mine few full)
        (subst (λ words. IsFull b (bytes_in image.version words)) alike.words
        (is_full t b theirs few_too (alike.full ∙ full)))
    | inr none ↦
        AlikeBoxes.both_empty (mine.empty none).0 (theirs.empty (alike.full ∙ none)).0
  ]

-- ---- clusters

module _ (image : ImageParts) (order : List ℕ) (standing : Standing) (kept : KeptNode) (one other : Node)
    (at : StandsAt image standing one) (stands : KeptStandsAt image kept other) (found : IsFound image order one)
    (too : IsFound image order other) where
  boxes_alike : AreAlikeLinks standing.cluster.boxes.items kept.cluster.boxes
      → AreEach AlikeBoxes one.cluster.boxes other.cluster.boxes
  boxes_alike alike =
      each_of AlikeBoxes one.cluster.boxes other.cluster.boxes
      ((stands.of).boxes ∙ sym ((at.stands).of).boxes)
      (λ n a b here there.
      let s = shown_of_box image standing.cluster.boxes.items one.cluster.boxes (at.stands).boxes_show
      ((at.stands).of).boxes n a here in
      let t = shown_of_box image kept.cluster.boxes other.cluster.boxes stands.boxes_show (stands.of).boxes n b there in
      box_alike image s.0 t.0 a b s.2 t.2
      (settled_alike standing.cluster.boxes.items kept.cluster.boxes alike n s.0 t.0 s.1 t.1)
      (((at.stands).of).one_thing n a here) ((stands.of).one_thing n b there))

  site_at : (node : Node) → IsFound image order node → (r : ℕ) (rank : Rank)
      → slice_get node.cluster.ranks r ≡ Some rank → rank.site ≡ (loaded image r).site
  site_at node its r rank here =
      let comes = comes_reached image its.0 node.cluster (its.1).run in
      let alone = comes.alone r rank here in same_site image r alone.0 rank alone.1

  same_sites : HaveSameSites (map rank_of standing.cluster.ranks.items) kept.cluster.ranks
  same_sites = λ r rank rank_too here there.
      site_at other too r rank_too (ap (λ (rs : List Rank). slice_get rs r) stands.ranks_are ∙ there)
      ∙ sym (site_at one found r rank (ap (λ (rs : List Rank). slice_get rs r) (at.stands).ranks_are ∙ here))

  ranks_alike : (names : Renaming)
      → AreEach (AlikeRanks names) (map rank_of standing.cluster.ranks.items) kept.cluster.ranks
      → AreEach (AlikeRanks names) one.cluster.ranks other.cluster.ranks
  ranks_alike names ranks =
      subst (λ (rs : List Rank). AreEach (AlikeRanks names) rs other.cluster.ranks) (sym (at.stands).ranks_are)
      (subst (λ (rs : List Rank). AreEach (AlikeRanks names) (map rank_of standing.cluster.ranks.items) rs)
      (sym stands.ranks_are) ranks)

  hubs_alike : (Alike : HubView → HubView → Type 0) → Alike standing.whole kept.whole
      → Alike (hub_of one.cluster.journal) (hub_of other.cluster.journal)
  hubs_alike Alike hubs =
      subst (λ (h : HubView). Alike h (hub_of other.cluster.journal)) at.whole
      (subst (λ (h : HubView). Alike standing.whole h) stands.whole hubs)

  clusters_same : (names : Renaming) → SameHubs names standing.whole kept.whole
      → AreAlikeLinks standing.cluster.boxes.items kept.cluster.boxes
      → AreEach (AlikeRanks names) (map rank_of standing.cluster.ranks.items) kept.cluster.ranks
      → AreSame one.cluster other.cluster
  clusters_same names hubs boxes ranks = (
    names,
    record { ranks = ranks_alike names ranks; hubs = hubs_alike (SameHubs names) hubs; boxes = boxes_alike boxes },
  )

  pub clusters_alike : (how : How) (names : List ℕ) → AreNamedIn how names standing.whole kept.whole
      → AreAlikeLinks standing.cluster.boxes.items kept.cluster.boxes
      → ((naming : Renaming) → IsListed naming names
      → HaveSameSites (map rank_of standing.cluster.ranks.items) kept.cluster.ranks
      → AreEach (AlikeRanks naming) (map rank_of standing.cluster.ranks.items) kept.cluster.ranks)
      → AreAlikeIn how one.cluster other.cluster
  clusters_alike (by_contest contest) names hubs boxes ranks = (
    hubs.names,
    record {
      ranks = ranks_alike hubs.names (ranks hubs.names hubs.listed same_sites);
      hubs = hubs_alike (AlikeHubs contest.wild hubs.names) hubs.alike;
      boxes = boxes_alike boxes;
    },
  )
  clusters_alike at_once names hubs boxes ranks =
      clusters_same hubs.names hubs.alike boxes (ranks hubs.names hubs.listed same_sites)
  clusters_alike plainly names hubs boxes ranks =
      clusters_same hubs.names hubs.alike boxes (ranks hubs.names hubs.listed same_sites)

pub standing_alike : (how : How) (standing : Standing) (kept : KeptNode) (names : List ℕ)
    → AreNamedIn how names standing.whole kept.whole
    → AreAlikeLinks standing.cluster.boxes.items kept.cluster.boxes
    → ((naming : Renaming) → IsListed naming names
    → HaveSameSites (map rank_of standing.cluster.ranks.items) kept.cluster.ranks
    → AreEach (AlikeRanks naming) (map rank_of standing.cluster.ranks.items) kept.cluster.ranks)
    → (order : List ℕ) → IsAlikeKept how order standing kept
standing_alike how standing kept names hubs boxes ranks order = λ image one other at stands found too.
    clusters_alike image order standing kept one other at stands found too how names hubs boxes ranks

-- ---- hubs, as they are compared

-- likeness that keeps the order of all messages is likeness
by_source : (contest : Contest) (names : Renaming) (a b : HubView) → SameHubs names a b → AlikeHubs contest.wild names a b
by_source contest names a b same = record {
  links = same.links;
  board = record {
    many = (same.board).many;
    next = (same.board).next;
    lines = λ place. is_same ((same.board).lines place);
    bodies = (same.board).bodies;
    claims = (same.board).claims;
    ranks = λ i j m n below here there by live alive. (same.board).ranks i j m n below here there by;
    sends = λ i j s t below here there dest comm any. (same.board).sends i j s t below here there dest comm;
  };
  claims = same.claims;
  sides = same.sides;
  reserved = same.reserved;
  senders = same.senders;
}

pub named_in : (how : How) (names : List ℕ) (a b : HubView) → AreAlikeBy names a b → AreNamedIn how names a b
named_in (by_contest contest) names a b is =
    record { names = is.names; listed = is.listed; alike = by_source contest is.names a b is.alike }
named_in at_once names a b is = record { names = is.names; listed = is.listed; alike = is.alike }
named_in plainly names a b is = record { names = is.names; listed = is.listed; alike = is.alike }

-- in each search of some kind
pub if_named : {A B : Type 0} (how : A → B → How) (a b : HubView) (found : Option (List ℕ))
    → IfSome found (λ names. AreAlikeBy names a b)
    → IfSome found (λ names. (its : A) (other : B) → AreNamedIn (how its other) names a b)
if_named how a b None is = tt
if_named how a b (Some names) is = λ its other. named_in (how its other) names a b is

-- where turns go first, posts that are over may be any that are
pub if_live_named : (a b : HubView) (found : Option (List ℕ)) → IfSome found (λ names. AreLiveAlikeBy names a b)
    → IfSome found (λ names. (may_wait : Bool) (asked : List AskedBy)
    → AreNamedIn (how_of ways.First may_wait asked) names a b)
if_live_named a b None is = tt
if_live_named a b (Some names) is =
    λ may_wait asked.
    record { names = is.names; listed = is.listed; alike = is.alike (search_of may_wait asked).wild }
