-- Worked calls beside those of the hub's own laws, and journals with given clocks.
use Rattle.std.specs.Prelude.{ℕ, ◌≡◌, true, false, [], ◌∷◌, Option, Some, None}
use Rattle.mp_types.specs.declared.requests.Request.TheVariants as request
use Rattle.mp_types.specs.declared.replies.Reply.TheVariants.{Posted, NotYet, Seen, Link as OnLink}
use Rattle.mp_hub.specs.Hub.{Call}
use Rattle.mp_hub.specs.Rows.{replies, sends, sending_side, receiving_side, two_links, envelope}

-- rank 1 probes for the tag, from any source
abbrev pub probes : Option ℕ → Call
probes tag = (1, request.Probe 0 None tag)

-- a probe sees the message of its tag alone, and leaves it there
abbrev pub AProbeTakesNothing : Type 0
AProbeTakesNothing =
    replies [] (sends 7 97 ∷ probes (Some 9) ∷ probes (Some 7) ∷ probes None ∷ [])
    ≡ Posted 1 true ∷ NotYet ∷ Seen (envelope 7) ∷ Seen (envelope 7) ∷ []

-- the receiving side in another communicator
abbrev pub elsewhere : ℕ → ℕ → ℕ → Call
elsewhere tag parts size = (1, request.Init false 1 0 tag parts size)

-- sides in two communicators are no pair, and so have two links
abbrev pub CommunicatorsAreKeptApart : Type 0
CommunicatorsAreKeptApart =
    replies two_links (sending_side 5 4 64 ∷ elsewhere 5 4 64 ∷ receiving_side 5 4 64 ∷ [])
    ≡ OnLink 0 ∷ OnLink 1 ∷ OnLink 0 ∷ []

-- the second side of a pair has the first one's link, whichever that is
abbrev pub APairHasOneLink : Type 0
APairHasOneLink =
    replies two_links (sending_side 5 4 64 ∷ sending_side 6 1 8 ∷ receiving_side 6 1 8 ∷ receiving_side 5 4 64 ∷ [])
    ≡ OnLink 0 ∷ OnLink 1 ∷ OnLink 1 ∷ OnLink 0 ∷ []

pub record MoreWorkedCalls : Type 0 where
  pub probe : AProbeTakesNothing
  pub comms : CommunicatorsAreKeptApart
  pub link : APairHasOneLink
