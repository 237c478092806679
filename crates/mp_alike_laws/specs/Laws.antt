-- The laws of alike hubs.
use Rattle.std.specs.Prelude.{ℕ, ◌≡◌, List, [], ◌∷◌, ◌++◌}
use Rattle.rv_image_types.specs.declared.images.Link.{Link}
use Rattle.mp_types.specs.declared.requests.Request.{Request}
use Rattle.mp_hub.specs.Hub.{Call, HubView, hub_after, reply_of}
use Rattle.mp_alike_laws.specs.Renaming.{Renaming, request_by}
use Rattle.mp_alike_laws.specs.Alike.{AlikeHubs}

abbrev pub AreAlike : HubView → HubView → Type 0
AreAlike a b = (names : Renaming) × AlikeHubs names a b

-- a hub is alike itself, and likeness goes both ways and on
pub record LikenessLaw : Type 0 where
  pub itself : (a : HubView) → AreAlike a a
  pub back : (a b : HubView) → AreAlike a b → AreAlike b a
  pub on : (a b c : HubView) → AreAlike a b → AreAlike b c → AreAlike a c

-- alike hubs answer alike: the same reply to the same request, by the names that each has for posts, and they stay
-- alike by these names
pub record AnswersLaw : Type 0 where
  pub reply : (names : Renaming) (links others : List Link) (calls theirs : List Call) (rank : ℕ) (q : Request)
      → AlikeHubs names (hub_after links calls) (hub_after others theirs)
      → reply_of others theirs rank (request_by names q) ≡ reply_of links calls rank q
  pub stays : (names : Renaming) (links others : List Link) (calls theirs : List Call) (rank : ℕ) (q : Request)
      → AlikeHubs names (hub_after links calls) (hub_after others theirs)
      → AlikeHubs names (hub_after links (calls ++ (rank, q) ∷ []))
      (hub_after others (theirs ++ (rank, request_by names q) ∷ []))
