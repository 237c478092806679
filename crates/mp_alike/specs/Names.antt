-- Names of posts as a list: the place in another hub of each post of a hub.
use Rattle.std.specs.Prelude.{ℕ, ◌≡◌, List, get_or}
use Rattle.mp_hub.specs.Hub.{HubView}
use Rattle.mp_alike_laws.specs.Renaming.{Renaming}
use Rattle.mp_alike_laws.specs.Alike.{AlikeHubs}
use Rattle.mp_source_laws.specs.Alike as live

-- where the post at a place stands in the other hub; behind the end of the list each place stays as it is
abbrev pub renamed : List ℕ → ℕ → ℕ
renamed to place = get_or to place place

abbrev pub IsListed : Renaming → List ℕ → Type 0
IsListed names to = (place : ℕ) → names.to place ≡ renamed to place

-- the list gives names by which the one hub is alike the other
pub record AreAlikeBy (to : List ℕ) (a b : HubView) : Type 0 where
  pub names : Renaming
  pub listed : IsListed names to
  pub alike : AlikeHubs names a b

-- the list gives names by which they are alike where posts that are over may be any that are, whoever asks for any source
pub record AreLiveAlikeBy (to : List ℕ) (a b : HubView) : Type 0 where
  pub names : Renaming
  pub listed : IsListed names to
  pub alike : (wild : live.Wild) → live.AlikeHubs wild names a b
