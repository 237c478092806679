-- What is asked in vain of alike hubs.
use Rattle.std.specs.Prelude.{ℕ, ◌≡◌, Bool, List}
use Rattle.rv_image_types.specs.declared.images.Link.{Link}
use Rattle.mp_types.specs.declared.requests.Request.{Request}
use Rattle.mp_hub.specs.Hub.{Call, hub_after}
use Rattle.mp_hub.specs.Vain.{asks_in_vain}
use Rattle.mp_wait_laws.specs.Waits.{WaitsFor}
use Rattle.mp_alike_laws.specs.Renaming.{Renaming, request_by}
use Rattle.mp_source_laws.specs.Alike.{AlikeHubs, Wild}
use Rattle.mp_source_laws.specs.Laws.{AsksOfLive}

-- a request that isn't about a send that is over, asked of alike hubs, by the names that each has for posts
pub record AskingLaw : Type 0 where
  -- it is asked of both in vain or of neither, also where any source is asked for
  pub vain : (wild : Wild) (names : Renaming) (links others : List Link) (calls theirs : List Call) (rank : ℕ)
      (q : Request) → AsksOfLive (hub_after links calls).board q
      → AlikeHubs wild names (hub_after links calls) (hub_after others theirs)
      → asks_in_vain (hub_after others theirs) rank (request_by names q) ≡ asks_in_vain (hub_after links calls) rank q
  -- and the same ranks could bring it
  pub waits : (member : ℕ → ℕ → Bool) (among : ℕ → Bool) (wild : Wild) (names : Renaming) (links others : List Link)
      (calls theirs : List Call) (rank : ℕ) (q : Request) → AsksOfLive (hub_after links calls).board q
      → AlikeHubs wild names (hub_after links calls) (hub_after others theirs)
      → WaitsFor member among links calls rank q
      → WaitsFor member among others theirs rank (request_by names q)
