-- Worked rows: calls that may be exchanged, and calls that clash. A message has one byte.
use Rattle.std.specs.Prelude.{◌≡◌, true, false, [], ◌∷◌, None}
use Rattle.mp_types.specs.declared.replies.Reply.TheVariants.{NotYet, Posted, Seen}
use Rattle.mp_types.specs.declared.requests.Request.TheVariants as request
use Rattle.mp_hub.specs.Hub.{reply_of}
use Rattle.mp_hub.specs.RankRows.{envelope_in, sends_in}
use Rattle.mp_alike_laws.specs.Rows.{after}
use Rattle.mp_source_laws.specs.Alike.{Wild}
use Rattle.mp_source_laws.specs.Laws.{AreAlike}
use Rattle.mp_clash_laws.specs.Exchanges.{CollectsLater}

-- nobody asks for any source, and everybody may
abbrev pub nobody : Wild
nobody rank comm = false

abbrev pub everybody : Wild
everybody rank comm = true

-- ranks 0 and 1 send to rank 2, which names its sources: whichever is first, the hubs are alike
abbrev pub NamedSources : Type 0
NamedSources =
    AreAlike nobody (after (sends_in 0 0 2 7 97 ∷ sends_in 0 1 2 7 98 ∷ []))
    (after (sends_in 0 1 2 7 98 ∷ sends_in 0 0 2 7 97 ∷ []))

-- where it may ask for any source they aren't: the two sends clash
abbrev pub AnySource : Type 0
AnySource =
    ¬ AreAlike everybody (after (sends_in 0 0 2 7 97 ∷ sends_in 0 1 2 7 98 ∷ []))
    (after (sends_in 0 1 2 7 98 ∷ sends_in 0 0 2 7 97 ∷ []))

-- rank 1 is given the message of rank 0 at once, or posts its receive first and collects it behind the send
abbrev pub PostedFirst : Type 0
PostedFirst =
    CollectsLater nobody (after []) 1 (request.Recv true 0 None None) 0 (request.Send false 0 1 7 (97 ∷ []))

-- a synchronous send is told whether its receive is posted: the two clash
abbrev pub SynchronousSend : Type 0
SynchronousSend =
    (reply_of [] [] 0 (request.Send true 0 1 7 (97 ∷ [])) ≡ Posted 1 false)
    × (reply_of [] ((1, request.Recv false 0 None None) ∷ []) 0 (request.Send true 0 1 7 (97 ∷ [])) ≡ Posted 2 true)

-- rank 1 polls for a message of any source, and there is none: rank 0's send to rank 2 brings it nothing, and its send to
-- rank 1 brings it one
abbrev pub PolledMessage : Type 0
PolledMessage =
    (reply_of [] [] 1 (request.Probe 0 None None) ≡ NotYet)
    × (reply_of [] (sends_in 0 0 2 7 97 ∷ []) 1 (request.Probe 0 None None) ≡ NotYet)
    × (reply_of [] (sends_in 0 0 1 7 97 ∷ []) 1 (request.Probe 0 None None) ≡ Seen (envelope_in 0 0 7))

pub record WorkedClashes : Type 0 where
  pub named : NamedSources
  pub any : AnySource
  pub posted : PostedFirst
  pub synchronous : SynchronousSend
  pub polled : PolledMessage
