-- Worked rows: messages that arrive in another order than they were sent. A message has one byte.
use Rattle.std.specs.Prelude.{ℕ, ◌≡◌, true, false, List, [], ◌∷◌, Option, Some, None}
use Rattle.mp_types.specs.declared.requests.Request.{Request}
use Rattle.mp_types.specs.declared.requests.Request.TheVariants as request
use Rattle.mp_types.specs.declared.replies.Reply.{Reply}
use Rattle.mp_types.specs.declared.replies.Reply.TheVariants.{Done, Got, NotYet, Posted, Seen}
use Rattle.mp_hub.specs.Hub.{sending}
use Rattle.mp_hub.specs.RankRows.{envelope_in, message_in}
use Rattle.mp_way_laws.specs.Way.{WayView, arrival, outcome, way_at_start}
use Rattle.mp_way_laws.specs.Runs.{Event, arrives, call}
use Rattle.mp_way_laws.specs.Answers.{reply_at_once}

-- what the events lead to, and what a call is then told
abbrev pub on : WayView → List Event → WayView
on w [] = w
on w (call rank q ∷ es) = on (outcome w rank q).1 es
on w (arrives place sent ∷ es) = on (arrival w place sent) es

abbrev pub told : List Event → ℕ → Request → Reply
told es rank q = (outcome (on (way_at_start []) es) rank q).0

-- and what it would be told if each message had arrived as soon as it was sent
abbrev pub told_at_once : List Event → ℕ → Request → Reply
told_at_once es rank q = reply_at_once (on (way_at_start []) es) rank q

-- a send of one byte with tag 7, and the arrival of its message
abbrev pub sends : ℕ → ℕ → ℕ → Event
sends from to byte = call from (request.Send false 0 to 7 (byte ∷ []))

abbrev pub comes : ℕ → ℕ → ℕ → ℕ → Event
comes place from to byte = arrives place (sending from false 0 to 7 (byte ∷ []))

abbrev pub receives : ℕ → Option ℕ → Event
receives rank source = call rank (request.Recv false 0 source None)

-- a message on its way isn't found
abbrev pub OnItsWay : Type 0
OnItsWay =
    (told (sends 1 0 97 ∷ []) 0 (request.Probe 0 (Some 1) None) ≡ NotYet)
    × (told (sends 1 0 97 ∷ comes 0 1 0 97 ∷ []) 0 (request.Probe 0 (Some 1) None) ≡ Seen (envelope_in 0 1 7))

-- rank 1 sends to rank 0 and then to rank 2, and rank 2 to rank 0 because of that: a receive of any source gets the
-- message that arrives first, and it may be that of rank 2
abbrev pub Overtaken : Type 0
Overtaken =
    told (sends 1 0 97 ∷ sends 1 2 98 ∷ comes 1 1 2 98 ∷ sends 2 0 99 ∷ comes 2 2 0 99 ∷ comes 0 1 0 97 ∷ []) 0
    (request.Recv true 0 None None)
    ≡ Got (message_in 0 2 7 99)

-- a receive that names its source gets that one's message, whichever arrives first
abbrev pub Named : Type 0
Named =
    told (sends 1 0 97 ∷ sends 1 2 98 ∷ comes 1 1 2 98 ∷ sends 2 0 99 ∷ comes 2 2 0 99 ∷ comes 0 1 0 97 ∷ []) 0
    (request.Recv true 0 (Some 1) None)
    ≡ Got (message_in 0 1 7 97)

-- of two messages the second arrives first, of another source: the receive that was posted first for any source has it
abbrev pub FirstToArrive : Type 0
FirstToArrive =
    told (receives 0 None ∷ sends 1 0 97 ∷ sends 2 0 98 ∷ comes 2 2 0 98 ∷ comes 1 1 0 97 ∷ []) 0 (request.Collect 1)
    ≡ Got (message_in 0 2 7 98)

-- a synchronous send whose receive was posted is complete once its message has arrived
abbrev pub Synchronous : Type 0
Synchronous =
    (told (receives 0 (Some 1) ∷ []) 1 (request.Send true 0 0 7 (97 ∷ [])) ≡ Posted 2 false)
    × (told (receives 0 (Some 1) ∷ call 1 (request.Send true 0 0 7 (97 ∷ [])) ∷ []) 1 (request.Finished 2) ≡ NotYet)
    × (told (receives 0 (Some 1) ∷ call 1 (request.Send true 0 0 7 (97 ∷ []))
    ∷ arrives 1 (sending 1 true 0 0 7 (97 ∷ [])) ∷ []) 1 (request.Finished 2)
    ≡ Done)

-- a receive of a message on its way is posted, and asks for it until it comes. Once all has arrived it has the message
-- at once, or by its first question
abbrev pub Waits : Type 0
Waits =
    (told (sends 1 0 97 ∷ []) 0 (request.Recv true 0 (Some 1) None) ≡ Posted 2 false)
    × (told_at_once (sends 1 0 97 ∷ []) 0 (request.Recv true 0 (Some 1) None) ≡ Got (message_in 0 1 7 97))
    × (told (sends 1 0 97 ∷ receives 0 (Some 1) ∷ []) 0 (request.Collect 2) ≡ NotYet)
    × (told_at_once (sends 1 0 97 ∷ receives 0 (Some 1) ∷ []) 0 (request.Collect 2) ≡ Got (message_in 0 1 7 97))
    × (told (sends 1 0 97 ∷ receives 0 (Some 1) ∷ comes 0 1 0 97 ∷ []) 0 (request.Collect 2)
    ≡ Got (message_in 0 1 7 97))

-- a synchronous send whose receive was posted would be complete at once
abbrev pub SynchronousAtOnce : Type 0
SynchronousAtOnce =
    (told (receives 0 (Some 1) ∷ []) 1 (request.Send true 0 0 7 (97 ∷ [])) ≡ Posted 2 false)
    × (told_at_once (receives 0 (Some 1) ∷ []) 1 (request.Send true 0 0 7 (97 ∷ [])) ≡ Posted 2 true)
    × (told_at_once [] 1 (request.Send true 0 0 7 (97 ∷ [])) ≡ Posted 1 false)

pub record WorkedWays : Type 0 where
  pub on_its_way : OnItsWay
  pub overtaken : Overtaken
  pub named : Named
  pub first : FirstToArrive
  pub synchronous : Synchronous
  pub waits : Waits
  pub synchronous_at_once : SynchronousAtOnce
