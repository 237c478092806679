-- The laws of whom a rank waits for.
use Rattle.std.specs.Prelude.{ℕ, ◌≡◌, ◌↔◌, Bool, true, false, List, [], ◌∷◌, ◌++◌}
use Rattle.rv_image_types.specs.declared.images.Link.{Link}
use Rattle.mp_types.specs.declared.requests.Request.{Request}
use Rattle.mp_types.specs.declared.requests.Request.TheVariants as request
use Rattle.mp_types.specs.declared.replies.Reply.TheVariants.{NotYet}
use Rattle.mp_match.specs.declared.posts.Post.TheVariants.{Send}
use Rattle.mp_hub.specs.Hub.{Call, hub_after, reply_of}
use Rattle.mp_hub.specs.Vain.{asks_in_vain}
use Rattle.mp_wait_laws.specs.Waits.{WaitsFor}

-- a send is in a communicator of which its sender is a member
abbrev pub SendsAsMember : (ℕ → ℕ → Bool) → ℕ → Request → Type 0
SendsAsMember member rank (request.Send sync comm dest tag bytes) = member comm rank ≡ true
SendsAsMember member rank _ = Unit {0}

pub record WaitsLaw : Type 0 where
  -- a call of a rank that isn't among them brings it nothing: it waits for the same ranks still
  pub others : (member : ℕ → ℕ → Bool) (among : ℕ → Bool) (links : List Link) (calls : List Call)
      (rank other : ℕ) (q call : Request)
      → among rank ≡ true → among other ≡ false → SendsAsMember member other call
      → WaitsFor member among links calls rank q
      → WaitsFor member among links (calls ++ (other, call) ∷ []) rank q
  -- and its own call, which isn't answered yet, leaves the hub as it was
  pub own : (member : ℕ → ℕ → Bool) (among : ℕ → Bool) (links : List Link) (calls : List Call) (rank : ℕ) (q : Request)
      → WaitsFor member among links calls rank q
      → hub_after links (calls ++ (rank, q) ∷ []) ≡ hub_after links calls

-- a call is answered NotYet exactly where it is told so without making it
abbrev pub VainLaw : Type 0
VainLaw =
    (links : List Link) (calls : List Call) (rank : ℕ) (q : Request)
    → (asks_in_vain (hub_after links calls) rank q ≡ true) ↔ (reply_of links calls rank q ≡ NotYet)
