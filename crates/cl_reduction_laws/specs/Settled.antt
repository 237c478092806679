-- Clusters from which turns that nobody contests lead to clusters of a list, wherever each of them may lead.
use Rattle.std.specs.Prelude.{ℕ, zero, suc, ◌+◌, ◌<◌, ◌≡◌, ◌≢◌, ◌⊎◌, true, List, length, Some}
use Rattle.std.specs.List.{slice_get}
use Rattle.rv_image_types.specs.declared.images.Link.{Link}
use Rattle.mp_types.specs.declared.replies.Reply.TheVariants.{NotYet}
use Rattle.mp_types.specs.declared.requests.Request.TheVariants as request
use Rattle.mp_transfers.specs.Inits.{is_receiver}
use Rattle.mp_wait_laws.specs.Waits.{sends_over}
use Rattle.mp_clash_laws.specs.Exchanges.{WaitsWithin}
use Rattle.cl_state.specs.declared.asking.Ask.{Ask}
use Rattle.cl_state.specs.Asked.{asked, doing, part_of}
use Rattle.cl_state.specs.Rank.{Rank}
use Rattle.cl_state_laws.specs.Awake.{StandsAtCall}
use Rattle.cl_state_laws.specs.Vain.{waits_on}
use Rattle.cl_machine.specs.Cluster.{Cluster}
use Rattle.cl_machine.specs.Journal.{reply_in}
use Rattle.cl_order_laws.specs.Alike.{hub_of}
use Rattle.cl_order_laws.specs.Closed.{Plans, WaitsInVain}
use Rattle.cl_first_laws.specs.Below.{AreAlike}
use Rattle.cl_rest_laws.specs.Rests.{rests}
use Rattle.cl_reduction_laws.specs.Clusters.{Found, GoesAnyway, GoesFirst, IsWithin, Search, awake_cluster, posts_of}
use Rattle.cl_reduction_laws.specs.Patterns.{Patterns, by_receiver, by_sender}

-- each rank asks within the patterns
abbrev pub AllWithin : Search → Cluster → Type 0
AllWithin search c = (r : ℕ) → IsWithin search c r

-- one of these clusters is alike, but for who is awake
abbrev pub HasAlike : Search → (Cluster → Type 0) → Cluster → Type 0
HasAlike search Is c =
    (node : Cluster) × Is node × AreAlike search.wild (awake_cluster c) (awake_cluster node)

-- in so many turns at most, each of a rank that goes first, it leads to one that is alike one of these, wherever each turn
-- may lead that finds what it asks for; and each rank asks within the patterns all the way
abbrev pub Settles : Search → (Cluster → Type 0) → ℕ → Cluster → Type 0
Settles search Is zero c = AllWithin search c × HasAlike search Is c
Settles search Is (suc n) c =
    AllWithin search c
    × (HasAlike search Is c
    ⊎ ((r : ℕ) × (rank : Rank) × (slice_get c.ranks r ≡ Some rank) × GoesFirst search c r rank × GoesAnyway search c r
    × ((new : Cluster) → Found r (search.harts r) c new → Settles search Is n new)))

abbrev pub IsSettled : Search → (Cluster → Type 0) → Cluster → Type 0
IsSettled search Is c = (n : ℕ) × Settles search Is n c

-- ---- clusters of the list

-- what is asked is a claim that finds its message
abbrev pub FindsClaim : Cluster → ℕ → Ask → Type 0
FindsClaim c r (Ask.Hub (request.Claim comm source tag)) = reply_in c.journal r (request.Claim comm source tag) ≢ NotYet
FindsClaim c r _ = ⊥

-- nothing is asked of the hub, or what isn't there still
abbrev pub IsThere : Cluster → ℕ → Ask → Type 0
IsThere c r Ask.Local = Unit {0}
IsThere c r (Ask.Hub q) = reply_in c.journal r q ≢ NotYet
IsThere c r _ = ⊥

-- the rank rests, and all else that it waits for is there
abbrev pub RestsOnly : Search → Cluster → ℕ → Rank → Type 0
RestsOnly search c r rank =
    (rests c r (search.harts r) ≡ true) × IsThere c r (asked rank (search.harts r))

-- where the rank's hart makes a call that is made anew until there is something, it waits, and in vain. Only a claim may find
-- its message there: it isn't made at once, because the number that it tells counts all posts before it. And only a call that
-- completes a standard send may go on, which may wait
abbrev pub RestsIfWaiting : Search → Cluster → ℕ → Rank → Type 0
RestsIfWaiting search c r rank =
    waits_on (doing rank.site (part_of rank (search.harts r))) ≡ true
    → WaitsInVain c r rank (search.harts r)
    ⊎ (FindsClaim c r (asked rank (search.harts r)) ⊎ RestsOnly search c r rank)

-- who may be the sender on a link is its sender, and who may be the receiver its receiver
pub record AreOnSides (links : List Link) (patterns : Patterns) : Type 0 where
  pub senders : (r link : ℕ) → patterns r (by_sender link) ≡ true → sends_over links link r ≡ true
  pub receivers : (r link : ℕ) → patterns r (by_receiver link) ≡ true → is_receiver links r link ≡ true

-- what is known of each: what ranks ask is within the patterns, receives of any source wait only where those may be made, no
-- send is refused, who waits waits in vain, finds what it claims or rests, a hart that is to make its call anew stands at it, and ranks are on their
-- own sides of links
pub record IsFit (search : Search) (c : Cluster) : Type 0 where
  pub within : AllWithin search c
  pub waits : WaitsWithin search.wild (hub_of c.journal)
  pub room : posts_of c + 3 < 65536
  pub rests : (r : ℕ) (rank : Rank) → slice_get c.ranks r ≡ Some rank → RestsIfWaiting search c r rank
  pub stands : (r : ℕ) (rank : Rank) → slice_get c.ranks r ≡ Some rank → StandsAtCall rank (search.harts r)
  pub sides : AreOnSides (hub_of c.journal).links search.patterns

-- each rank has one hart, which takes all its turns
pub record IsSingle (search : Search) (plans : Plans) (c : Cluster) : Type 0 where
  pub harts : (r : ℕ) → search.harts r ≡ 0
  pub plans_are : (r n : ℕ) → plans r n ≡ 0
  pub one : (r : ℕ) (rank : Rank) → slice_get c.ranks r ≡ Some rank → length rank.harts ≡ 1
