-- Worked rows: messages that were collected are any that were. A message has one byte.
use Rattle.std.specs.Prelude.{ℕ, true, false, List, [], ◌∷◌, Option, Some, None}
use Rattle.mp_types.specs.declared.requests.Request.TheVariants as request
use Rattle.mp_hub.specs.Hub.{Call, HubView}
use Rattle.mp_hub.specs.RankRows.{receives_in, sends_in}
use Rattle.mp_alike_laws.specs.Rows.{after, sends_sync}
use Rattle.mp_source_laws.specs.Alike.{Wild}
use Rattle.mp_source_laws.specs.Laws.{AreAlike}

-- each rank may ask for any source
abbrev pub anybody : Wild
anybody rank comm = true

-- these two ranks send to rank 2, which receives from these sources
abbrev pub received_from : ℕ → ℕ → Option ℕ → Option ℕ → HubView
received_from one other first second =
    after (sends_in 0 one 2 7 97 ∷ sends_in 0 other 2 7 98 ∷ receives_in 0 2 first ∷ receives_in 0 2 second ∷ [])

-- from rank 0 first or from rank 1 first: the hubs are alike
abbrev pub InEitherOrder : Type 0
InEitherOrder = AreAlike anybody (received_from 0 1 (Some 0) (Some 1)) (received_from 0 1 (Some 1) (Some 0))

-- from ranks 0 and 1, or twice from rank 0
abbrev pub WhoeverSent : Type 0
WhoeverSent = AreAlike anybody (received_from 0 1 None None) (received_from 0 0 None None)

-- rank 0 sends to a receive of rank 1, which is collected then, or isn't yet: these two aren't alike
abbrev pub sent_to_receive : List Call → HubView
sent_to_receive then = after ((1, request.Recv false 0 None None) ∷ sends_in 0 0 1 7 97 ∷ then)

abbrev pub StillHeld : Type 0
StillHeld = ¬ AreAlike anybody (sent_to_receive []) (sent_to_receive ((1, request.Collect 1) ∷ []))

-- of two synchronous sends to one receive only the first is complete, and its rank may still ask whether it is: so these
-- two aren't alike
abbrev pub first_complete : ℕ → ℕ → HubView
first_complete one other =
    after ((1, request.Recv false 0 None None) ∷ sends_sync one 97 ∷ sends_sync other 97 ∷ (1, request.Collect 1) ∷ [])

abbrev pub SynchronousSend : Type 0
SynchronousSend = ¬ AreAlike anybody (first_complete 0 2) (first_complete 2 0)

pub record WorkedHubs : Type 0 where
  pub order : InEitherOrder
  pub sender : WhoeverSent
  pub held : StillHeld
  pub synchronous : SynchronousSend
