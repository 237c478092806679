-- What a call is told, against what it would be told once all has arrived.
use Rattle.std.specs.Prelude.{ℕ, ◌≡◌, true, false, List, Option}
use Rattle.rv_image_types.specs.declared.images.Link.{Link}
use Rattle.mp_types.specs.declared.messages.Message.{Message}
use Rattle.mp_types.specs.declared.requests.Request.{Request}
use Rattle.mp_types.specs.declared.requests.Request.TheVariants as request
use Rattle.mp_types.specs.declared.replies.Reply.{Reply}
use Rattle.mp_types.specs.declared.replies.Reply.TheVariants.{Got, NotYet, Posted}
use Rattle.mp_probe.specs.Claims.{next_number}
use Rattle.mp_hub.specs.Hub.{HubView, outcome as outcome_at_once}
use Rattle.mp_way_laws.specs.Way.{WayView, all_arrived, outcome}
use Rattle.mp_way_laws.specs.Runs.{NamesSource}
use Rattle.mp_way_laws.specs.Laws.{IsCameTo}

-- two hubs are the same, but for how many posts were compared to find partners
pub record IsSameHub (a b : HubView) : Type 0 where
  pub links : a.links ≡ b.links
  pub lines : a.board.lines ≡ b.board.lines
  pub bodies : a.board.bodies ≡ b.board.bodies
  pub claims : a.claims ≡ b.claims
  pub sides : a.sides ≡ b.sides

-- what the call is told, and the hub behind it
abbrev pub reply_on_way : WayView → ℕ → Request → Reply
reply_on_way w rank q = (outcome w rank q).0

abbrev pub behind : WayView → ℕ → Request → WayView
behind w rank q = (outcome w rank q).1

-- the same of a hub at which all has arrived
abbrev pub reply_at_once : WayView → ℕ → Request → Reply
reply_at_once w rank q = (outcome_at_once (all_arrived w) rank q).0

abbrev pub behind_at_once : WayView → ℕ → Request → HubView
behind_at_once w rank q = (outcome_at_once (all_arrived w) rank q).1

-- how a rank's call on the way goes with the same call once all has arrived
pub data IsToldAs (w : WayView) (rank : ℕ) (q : Request) : Type 0 where
  -- nothing is there yet, and nothing has changed
  in_vain : reply_on_way w rank q ≡ NotYet → behind w rank q ≡ w → IsToldAs w rank q
  -- it is told the same, and does the same
  same : reply_on_way w rank q ≡ reply_at_once w rank q
      → IsSameHub (all_arrived (behind w rank q)) (behind_at_once w rank q)
      → IsToldAs w rank q
  -- a receive of a message on its way is posted. Once all has arrived it has that message at once, and so has the
  -- question for it that follows the post
  waits : (comm : ℕ) (source tag : Option ℕ) (m : Message) → q ≡ request.Recv true comm source tag
      → reply_on_way w rank q ≡ Posted (next_number w.hub.board) false
      → reply_at_once w rank q ≡ Got m
      → reply_at_once (behind w rank q) rank (request.Collect (next_number w.hub.board)) ≡ Got m
      → IsSameHub (behind_at_once (behind w rank q) rank (request.Collect (next_number w.hub.board)))
      (behind_at_once w rank q)
      → IsToldAs w rank q
  -- a synchronous send whose receive was posted is complete once its message has arrived, and until then it isn't (3.4)
  synchronous : (comm dest tag : ℕ) (bytes : List ℕ) → q ≡ request.Send true comm dest tag bytes
      → reply_on_way w rank q ≡ Posted (next_number w.hub.board) false
      → reply_at_once w rank q ≡ Posted (next_number w.hub.board) true
      → IsSameHub (all_arrived (behind w rank q)) (behind_at_once w rank q)
      → IsToldAs w rank q

-- wherever events lead whose calls name their sources, each such call goes so
abbrev pub AnswerLaw : Type 0
AnswerLaw =
    (links : List Link) (w : WayView) → IsCameTo links w → (rank : ℕ) (q : Request) → NamesSource q → IsToldAs w rank q
