-- The laws of clashes.
use Rattle.std.specs.Prelude.{ℕ, ◌+◌, ◌<◌, ◌≡◌, ◌≢◌, ◌⊎◌, List, length}
use Rattle.rv_image_types.specs.declared.images.Link.{Link}
use Rattle.mp_types.specs.declared.requests.Request.{Request}
use Rattle.mp_types.specs.declared.codes.Code.TheVariants.{BadRequest}
use Rattle.mp_types.specs.declared.replies.Reply.TheVariants.{Code, NotYet}
use Rattle.mp_hub.specs.Hub.{Call, hub_after, outcome}
use Rattle.mp_source_laws.specs.Alike.{Wild}
use Rattle.mp_clash_laws.specs.Exchanges.{BringsNothing, CollectsLater, IsLook, IsPosting, IsRefused, MayExchange, NoRace, NoSync, WaitsWithin}

-- sends and receives of two ranks that make no race may be exchanged: both ranks are told the same and the hubs are
-- alike, or one of them receives the other's message, which it collects later where it posted its receive first
abbrev pub PostsLaw : Type 0
PostsLaw =
    (wild : Wild) (links : List Link) (calls : List Call) (r s : ℕ) (q p : Request) → r ≢ s → IsPosting q → IsPosting p
    → length (hub_after links calls).board.lines + 1 < 65536 → WaitsWithin wild (hub_after links calls)
    → NoRace wild q p → NoSync r q s p
    → MayExchange wild (hub_after links calls) r q s p
    ⊎ (CollectsLater wild (hub_after links calls) r q s p ⊎ CollectsLater wild (hub_after links calls) s p r q)

-- a call that is refused stays so behind a send or a receive of another rank, and changes nothing
abbrev pub RefusedLaw : Type 0
RefusedLaw =
    (links : List Link) (calls : List Call) (r s : ℕ) (q x : Request) → r ≢ s → IsPosting q
    → length (hub_after links calls).board.lines < 65536 → IsRefused (hub_after links calls) s x
    → (outcome (hub_after links calls) s x ≡ (Code BadRequest, hub_after links calls))
    × (outcome (outcome (hub_after links calls) r q).1 s x
    ≡ (Code BadRequest, (outcome (hub_after links calls) r q).1))

-- a call that is told that nothing is there changes nothing, and is told so behind a send or a receive of another rank too
-- that brings it nothing
abbrev pub VainLookLaw : Type 0
VainLookLaw =
    (links : List Link) (calls : List Call) (r s : ℕ) (q x : Request) → r ≢ s → IsPosting q → IsLook x → BringsNothing q s x
    → (outcome (hub_after links calls) s x).0 ≡ NotYet
    → (outcome (hub_after links calls) s x ≡ (NotYet, hub_after links calls))
    × (outcome (outcome (hub_after links calls) r q).1 s x ≡ (NotYet, (outcome (hub_after links calls) r q).1))
