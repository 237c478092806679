-- What a call makes, for which the hub takes memory, and where a send finds no room.
use Rattle.std.specs.Prelude.{◌≡◌, ◌≤◌, Bool, true, false, [], ◌∷◌}
use Rattle.mp_types.specs.declared.requests.Request.{Request}
use Rattle.mp_types.specs.declared.requests.Request.TheVariants as request
use Rattle.mp_types.specs.declared.replies.Reply.{Reply}
use Rattle.mp_types.specs.declared.replies.Reply.TheVariants.{Code, Posted, Got, NotYet, Done, Seen, Held, AllGot}
use Rattle.mp_types.specs.declared.replies.Reply.TheVariants.{Link as OnLink, Cut}
use Rattle.mp_types.specs.Carried.{carried_by_reply}
use Rattle.mp_match.specs.Board.{held_count}
use Rattle.mp_hub.specs.Hub.{HubView}

-- whether a reply tells of a post, a claim or a side, or has a message
abbrev pub brings : Reply → Bool
brings (Code code) = false
brings (Posted post done) = true
brings (Got message) = true
brings NotYet = false
brings Done = false
brings (Seen envelope) = false
brings (Held message envelope) = true
brings (AllGot []) = false
brings (AllGot (got ∷ gots)) = true
brings (OnLink link) = true
brings (Cut parts size) = false

-- whether a call makes what wasn't there: a post, a claim, a side, or a list of messages
abbrev pub makes : Request → Reply → Bool
makes (request.Send sync comm dest tag bytes) r = brings r
makes (request.Recv now comm source tag) r = true
makes (request.Collect post) r = false
makes (request.Finished post) r = false
makes (request.Probe comm source tag) r = false
makes (request.Claim comm source tag) r = brings r
makes (request.Claimed now message) r = false
makes (request.All posts) r = brings r
makes (request.Init sends comm peer tag parts size) r = brings r
makes (request.Cut link) r = false

-- a call for which no memory is taken though its reply is given twice: it makes nothing, and its reply carries nothing
abbrev pub TakesNothing : Request → Reply → Type 0
TakesNothing q r = (makes q r ≡ false) × (carried_by_reply r ≡ 0)

-- a send where 65,536 messages are held
abbrev pub IsFullFor : HubView → Request → Type 0
IsFullFor h (request.Send sync comm dest tag bytes) = 65536 ≤ held_count h.board.bodies
IsFullFor h _ = ⊥
