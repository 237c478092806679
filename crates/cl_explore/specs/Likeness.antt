-- What is compared of a standing and a node that is kept, part by part.
use Rattle.std.specs.Prelude.{ℕ, ◌≡◌, List, slice_get, Some}
use Rattle.mp_hub.specs.Hub.{HubView}
use Rattle.mp_alike_laws.specs.Renaming.{Renaming}
use Rattle.mp_alike_laws.specs.Alike.{AlikeHubs as SameHubs}
use Rattle.mp_alike.specs.Names.{IsListed}
use Rattle.cl_state.specs.Rank.{Rank}
use Rattle.cl_contests.specs.Below.{AlikeHubs}
use Rattle.cl_explore.specs.How.{How, by_contest}

-- ---- hubs

-- alike by these names, as this search compares them
abbrev pub AreHubsIn : How → Renaming → HubView → HubView → Type 0
AreHubsIn (by_contest contest) names a b = AlikeHubs contest.wild names a b
AreHubsIn _ names a b = SameHubs names a b

-- the list gives names by which they are
pub record AreNamedIn (how : How) (to : List ℕ) (a b : HubView) : Type 0 where
  pub names : Renaming
  pub listed : IsListed names to
  pub alike : AreHubsIn how names a b

-- ---- ranks

-- ranks of the same number know the same of their cluster
abbrev pub HaveSameSites : List Rank → List Rank → Type 0
HaveSameSites ranks others =
    (r : ℕ) (rank other : Rank) → slice_get ranks r ≡ Some rank → slice_get others r ≡ Some other
    → other.site ≡ rank.site
