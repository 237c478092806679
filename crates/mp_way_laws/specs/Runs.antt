-- What happens at such a hub, and calls that name their sources.
use Rattle.std.specs.Prelude.{ℕ, ◌≡◌, List, [], ◌∷◌, Option, Some, None}
use Rattle.mp_types.specs.declared.requests.Request.{Request}
use Rattle.mp_types.specs.declared.requests.Request.TheVariants as request
use Rattle.mp_match.specs.declared.posts.Sent.{Sent}
use Rattle.mp_way_laws.specs.Way.{IsNext, WayView, arrival, outcome}

-- a call of a rank, or the arrival of the message of the send at a place
pub data Event : Type 0 where
  call : ℕ → Request → Event
  arrives : ℕ → Sent → Event

abbrev pub Happens : WayView → Event → WayView → Type 0
Happens old (call rank q) new = new ≡ (outcome old rank q).1
Happens old (arrives place sent) new = IsNext old place sent × (new ≡ arrival old place sent)

-- one behind the other
abbrev pub HappenOn : WayView → List Event → WayView → Type 0
HappenOn old [] new = new ≡ old
HappenOn old (e ∷ es) new = (mid : WayView) × Happens old e mid × HappenOn mid es new

-- ---- calls that name their sources

abbrev pub IsNamed : Option ℕ → Type 0
IsNamed None = ⊥
IsNamed (Some source) = Unit {0}

-- a receive or a probe of a named source, and no claim
abbrev pub NamesSource : Request → Type 0
NamesSource (request.Recv now comm source tag) = IsNamed source
NamesSource (request.Probe comm source tag) = IsNamed source
NamesSource (request.Claim comm source tag) = ⊥
NamesSource (request.Claimed now message) = ⊥
NamesSource _ = Unit {0}

abbrev pub NameSources : List Event → Type 0
NameSources [] = Unit {0}
NameSources (call rank q ∷ es) = NamesSource q × NameSources es
NameSources (arrives place sent ∷ es) = NameSources es
