-- The laws of alike hubs.
use Rattle.std.specs.Prelude.{ℕ, zero, suc, ◌≡◌, true, List, [], ◌∷◌, ◌++◌, Option, Some, None}
use Rattle.std.specs.List.{slice_get}
use Rattle.rv_image_types.specs.declared.images.Link.{Link}
use Rattle.mp_types.specs.declared.requests.Request.{Request}
use Rattle.mp_types.specs.declared.requests.Request.TheVariants as request
use Rattle.mp_hub.specs.Hub.{Call, HubView, hub_after, reply_of}
use Rattle.mp_alike_laws.specs.Renaming.{Renaming, request_by}
use Rattle.mp_match.specs.Board.{Board}
use Rattle.mp_source_laws.specs.Alike.{AlikeHubs, IsOverSend, Wild}

abbrev pub AreAlike : Wild → HubView → HubView → Type 0
AreAlike wild a b = (names : Renaming) × AlikeHubs wild names a b

-- a hub is alike itself, and likeness goes both ways and on
pub record LikenessLaw : Type 0 where
  pub itself : (wild : Wild) (a : HubView) → AreAlike wild a a
  pub back : (wild : Wild) (a b : HubView) → AreAlike wild a b → AreAlike wild b a
  pub on : (wild : Wild) (a b c : HubView) → AreAlike wild a b → AreAlike wild b c → AreAlike wild a c

-- a source is named, or the rank may ask for any
abbrev pub AsksFrom : Wild → ℕ → ℕ → Option ℕ → Type 0
AsksFrom wild rank comm None = wild rank comm ≡ true
AsksFrom wild rank comm (Some source) = Unit {0}

-- a receive, a probe or a claim of any source is made only where that is allowed for
abbrev pub AsksWithin : Wild → ℕ → Request → Type 0
AsksWithin wild rank (request.Recv now comm source tag) = AsksFrom wild rank comm source
AsksWithin wild rank (request.Probe comm source tag) = AsksFrom wild rank comm source
AsksWithin wild rank (request.Claim comm source tag) = AsksFrom wild rank comm source
AsksWithin wild rank _ = Unit {0}

-- the post of this number is no send that is over
abbrev pub IsNoOverSend : Board → ℕ → Type 0
IsNoOverSend b zero = Unit {0}
IsNoOverSend b (suc place) = ¬ IsOverSend b place

-- whether a send is complete is asked only of sends that aren't over: a rank forgets the number of a standard send
abbrev pub AsksOfLive : Board → Request → Type 0
AsksOfLive b (request.Finished post) = IsNoOverSend b post
AsksOfLive b (request.All posts) = (i post : ℕ) → slice_get posts i ≡ Some post → IsNoOverSend b post
AsksOfLive b _ = Unit {0}

-- alike hubs answer such requests alike: the same reply, by the names that each has for posts, and they stay alike by
-- these names
pub record AnswersLaw : Type 0 where
  pub reply : (wild : Wild) (names : Renaming) (links others : List Link) (calls theirs : List Call) (rank : ℕ)
      (q : Request) → AsksWithin wild rank q → AsksOfLive (hub_after links calls).board q
      → AlikeHubs wild names (hub_after links calls) (hub_after others theirs)
      → reply_of others theirs rank (request_by names q) ≡ reply_of links calls rank q
  pub stays : (wild : Wild) (names : Renaming) (links others : List Link) (calls theirs : List Call) (rank : ℕ)
      (q : Request) → AsksWithin wild rank q → AsksOfLive (hub_after links calls).board q
      → AlikeHubs wild names (hub_after links calls) (hub_after others theirs)
      → AlikeHubs wild names (hub_after links (calls ++ (rank, q) ∷ []))
      (hub_after others (theirs ++ (rank, request_by names q) ∷ []))
