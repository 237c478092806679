-- Worked calls of several communicators and of three ranks: what the definitions answer, computed.
use Rattle.std.specs.Prelude.{ℕ, ◌≡◌, true, false, [], ◌∷◌, Option, Some, None}
use Rattle.mp_types.specs.declared.messages.Envelope.{Envelope}
use Rattle.mp_types.specs.declared.messages.Message.{Message}
use Rattle.mp_types.specs.declared.requests.Request.TheVariants as request
use Rattle.mp_types.specs.declared.codes.Code.TheVariants.{BadRequest}
use Rattle.mp_types.specs.declared.replies.Reply.TheVariants.{Code, Posted, Got, NotYet, Done, Seen, Held, AllGot}
use Rattle.mp_hub.specs.Hub.{Call}
use Rattle.mp_hub.specs.Rows.{replies}

-- a rank sends one byte in the communicator to the rank with the tag
abbrev pub sends_in : ℕ → ℕ → ℕ → ℕ → ℕ → Call
sends_in comm from to tag byte = (from, request.Send false comm to tag (byte ∷ []))

-- a rank receives of any tag at once
abbrev pub receives_in : ℕ → ℕ → Option ℕ → Call
receives_in comm rank source = (rank, request.Recv true comm source None)

abbrev pub envelope_in : ℕ → ℕ → ℕ → Envelope
envelope_in comm source tag = record { comm = comm; source = source; tag = tag; count = 1 }

abbrev pub message_in : ℕ → ℕ → ℕ → ℕ → Message
message_in comm source tag byte = record { envelope = envelope_in comm source tag; bytes = byte ∷ [] }

-- two sends of one tag in communicators 1 and 0: each receive has the one of its communicator, whichever is first
abbrev pub CommunicatorsAreKeptApart : Type 0
CommunicatorsAreKeptApart =
    replies [] (sends_in 1 0 1 7 97 ∷ sends_in 0 0 1 7 98 ∷ receives_in 0 1 None ∷ receives_in 0 1 None
    ∷ receives_in 1 1 None ∷ [])
    ≡ Posted 1 true ∷ Posted 2 true ∷ Got (message_in 0 0 7 98) ∷ Posted 4 false ∷ Got (message_in 1 0 7 97) ∷ []

-- ranks 0 and 2 send to rank 1, and rank 0 to rank 2: a receive has those to its own rank, of the source that it asks
-- for
abbrev pub RanksAreKeptApart : Type 0
RanksAreKeptApart =
    replies [] (sends_in 0 0 1 7 97 ∷ sends_in 0 2 1 7 98 ∷ sends_in 0 0 2 7 99 ∷ receives_in 0 1 (Some 2)
    ∷ (2, request.Probe 0 None None) ∷ (0, request.Probe 0 None None) ∷ receives_in 0 1 None
    ∷ receives_in 0 2 None ∷ [])
    ≡ Posted 1 true ∷ Posted 2 true ∷ Posted 3 true ∷ Got (message_in 0 2 7 98)
    ∷ Seen (envelope_in 0 0 7) ∷ NotYet ∷ Got (message_in 0 0 7 97) ∷ Got (message_in 0 0 7 99) ∷ []

-- two sends of one tag, and two receives that ask for just that: the first has the first, whichever is collected first
abbrev pub OneTagGoesInOrder : Type 0
OneTagGoesInOrder =
    replies [] ((1, request.Recv false 0 (Some 0) (Some 7)) ∷ (1, request.Recv false 0 (Some 0) (Some 7))
    ∷ sends_in 0 0 1 7 97 ∷ sends_in 0 0 1 7 98 ∷ (1, request.Collect 2) ∷ (1, request.Collect 1) ∷ [])
    ≡ Posted 1 false ∷ Posted 2 false ∷ Posted 3 true ∷ Posted 4 true
    ∷ Got (message_in 0 0 7 98) ∷ Got (message_in 0 0 7 97) ∷ []

-- a standard send is complete, a synchronous one once its claimed message is received; sends give no message, and the
-- posts of a receive and of a received claim give theirs in the order in which they are asked for
abbrev pub SendsAndClaimsTogether : Type 0
SendsAndClaimsTogether =
    replies [] (sends_in 0 0 1 1 97 ∷ (0, request.Send true 0 1 2 (98 ∷ [])) ∷ (0, request.All (1 ∷ 2 ∷ []))
    ∷ (1, request.Claim 0 None (Some 2)) ∷ (0, request.All (1 ∷ 2 ∷ [])) ∷ (1, request.All (3 ∷ []))
    ∷ (1, request.Claimed false 3) ∷ (0, request.All (1 ∷ 2 ∷ [])) ∷ (1, request.Recv false 0 None (Some 1))
    ∷ (1, request.All (4 ∷ 3 ∷ [])) ∷ (1, request.All (4 ∷ [])) ∷ (0, request.All (2 ∷ 1 ∷ [])) ∷ [])
    ≡ Posted 1 true ∷ Posted 2 false ∷ NotYet
    ∷ Held 3 (envelope_in 0 0 2) ∷ NotYet ∷ Code BadRequest
    ∷ Posted 3 false ∷ AllGot (None ∷ None ∷ []) ∷ Posted 4 false
    ∷ AllGot (Some (message_in 0 0 1 97) ∷ Some (message_in 0 0 2 98) ∷ []) ∷ Code BadRequest
    ∷ AllGot (None ∷ None ∷ []) ∷ []

-- rank 1's receive and rank 0's send: nobody else may ask for them, together with others or alone, and they stay
abbrev pub PostsAreTheirRanks : Type 0
PostsAreTheirRanks =
    replies [] ((1, request.Recv false 0 None None) ∷ (0, request.Send true 0 1 7 (97 ∷ [])) ∷ (0, request.Collect 1)
    ∷ (2, request.Collect 1) ∷ (1, request.Finished 2) ∷ (0, request.All (2 ∷ 1 ∷ [])) ∷ (1, request.All (1 ∷ 2 ∷ []))
    ∷ (1, request.Collect 3) ∷ (1, request.Collect 0) ∷ (1, request.Collect 1) ∷ (0, request.Finished 2) ∷ [])
    ≡ Posted 1 false ∷ Posted 2 true ∷ Code BadRequest
    ∷ Code BadRequest ∷ Code BadRequest ∷ Code BadRequest ∷ Code BadRequest
    ∷ Code BadRequest ∷ Code BadRequest ∷ Got (message_in 0 0 7 97) ∷ Done ∷ []

pub record WorkedRanks : Type 0 where
  pub comms : CommunicatorsAreKeptApart
  pub ranks : RanksAreKeptApart
  pub order : OneTagGoesInOrder
  pub all : SendsAndClaimsTogether
  pub theirs : PostsAreTheirRanks
