-- Worked rows: hubs that are alike, and hubs that aren't. A message has one byte.
use Rattle.std.specs.Prelude.{ℕ, true, false, List, [], ◌∷◌, None}
use Rattle.mp_types.specs.declared.requests.Request.TheVariants as request
use Rattle.mp_hub.specs.Hub.{Call, HubView, hub_after}
use Rattle.mp_hub.specs.RankRows.{sends_in}
use Rattle.mp_alike_laws.specs.Laws.{AreAlike}

abbrev pub after : List Call → HubView
after calls = hub_after [] calls

abbrev pub claims_any : ℕ → Call
claims_any rank = (rank, request.Claim 0 None None)

-- ranks 0 and 1 send to ranks 2 and 3: whichever is first, the hubs are alike
abbrev pub ToTwoRanks : Type 0
ToTwoRanks =
    AreAlike (after (sends_in 0 0 2 7 97 ∷ sends_in 0 1 3 7 98 ∷ []))
    (after (sends_in 0 1 3 7 98 ∷ sends_in 0 0 2 7 97 ∷ []))

-- to one rank they aren't: a receive of any source gets the one or the other. So likeness keeps a race
abbrev pub ToOneRank : Type 0
ToOneRank =
    ¬ AreAlike (after (sends_in 0 0 2 7 97 ∷ sends_in 0 1 2 7 98 ∷ []))
    (after (sends_in 0 1 2 7 98 ∷ sends_in 0 0 2 7 97 ∷ []))

-- nor are two sends of one rank ever exchanged
abbrev pub OfOneRank : Type 0
OfOneRank =
    ¬ AreAlike (after (sends_in 0 0 2 7 97 ∷ sends_in 0 0 2 7 98 ∷ []))
    (after (sends_in 0 0 2 7 98 ∷ sends_in 0 0 2 7 97 ∷ []))

-- two messages are claimed, in this order or in that: a guest holds the numbers of its claims, which keep the hubs apart
abbrev pub ByTwoClaims : Type 0
ByTwoClaims =
    ¬ AreAlike (after (sends_in 0 0 2 7 97 ∷ sends_in 0 1 3 7 98 ∷ claims_any 2 ∷ claims_any 3 ∷ []))
    (after (sends_in 0 0 2 7 97 ∷ sends_in 0 1 3 7 98 ∷ claims_any 3 ∷ claims_any 2 ∷ []))

-- a message that was collected isn't there again
abbrev pub Collected : Type 0
Collected =
    ¬ AreAlike (after ((1, request.Recv false 0 None None) ∷ sends_in 0 0 1 7 97 ∷ []))
    (after ((1, request.Recv false 0 None None) ∷ sends_in 0 0 1 7 97 ∷ (1, request.Collect 1) ∷ []))

-- two synchronous sends to one receive: which of them is complete is kept
abbrev pub sends_sync : ℕ → ℕ → Call
sends_sync from byte = (from, request.Send true 0 1 7 (byte ∷ []))

abbrev pub SynchronousPartner : Type 0
SynchronousPartner =
    ¬ AreAlike (after ((1, request.Recv false 0 None None) ∷ sends_sync 0 97 ∷ sends_sync 2 98 ∷ []))
    (after ((1, request.Recv false 0 None None) ∷ sends_sync 2 98 ∷ sends_sync 0 97 ∷ []))

pub record WorkedHubs : Type 0 where
  pub two_ranks : ToTwoRanks
  pub one_rank : ToOneRank
  pub one_source : OfOneRank
  pub claims : ByTwoClaims
  pub collected : Collected
  pub partner : SynchronousPartner
