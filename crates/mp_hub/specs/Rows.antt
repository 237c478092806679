-- Worked calls: what the definitions answer, computed.
use Rattle.std.specs.Prelude.{ℕ, ◌≡◌, true, false, List, [], ◌∷◌, Option, Some, None}
use Rattle.rv_image_types.specs.declared.images.Link.{Link}
use Rattle.mp_types.specs.declared.messages.Envelope.{Envelope}
use Rattle.mp_types.specs.declared.messages.Message.{Message}
use Rattle.mp_types.specs.declared.requests.Request.TheVariants as request
use Rattle.mp_types.specs.declared.codes.Code.TheVariants.{BadRequest, NoChannel, Shape, BadMessage}
use Rattle.mp_types.specs.declared.replies.Reply.{Reply}
use Rattle.mp_types.specs.declared.replies.Reply.TheVariants.{Code, Posted, Got, NotYet, Done, Held, AllGot}
use Rattle.mp_types.specs.declared.replies.Reply.TheVariants.{Link as OnLink, Cut}
use Rattle.mp_hub.specs.Hub.{HubView, Call, outcome, hub_at_start}

-- the replies to some calls, in their order
abbrev pub replies_on : HubView → List Call → List Reply
replies_on h [] = []
replies_on h (c ∷ cs) = (outcome h c.0 c.1).0 ∷ replies_on (outcome h c.0 c.1).1 cs

abbrev pub replies : List Link → List Call → List Reply
replies links calls = replies_on (hub_at_start links) calls

-- ---- ranks 0 and 1 in communicator 0; a message has one byte

-- rank 0 sends rank 1 the byte with the tag
abbrev pub sends : ℕ → ℕ → Call
sends tag byte = (0, request.Send false 0 1 tag (byte ∷ []))

abbrev pub sends_sync : ℕ → ℕ → Call
sends_sync tag byte = (0, request.Send true 0 1 tag (byte ∷ []))

-- rank 1 receives from any source
abbrev pub receives_now : Option ℕ → Call
receives_now tag = (1, request.Recv true 0 None tag)

abbrev pub posts_receive : Option ℕ → Option ℕ → Call
posts_receive source tag = (1, request.Recv false 0 source tag)

abbrev pub envelope : ℕ → Envelope
envelope tag = record { comm = 0; source = 0; tag = tag; count = 1 }

abbrev pub message : ℕ → ℕ → Message
message tag byte = record { envelope = envelope tag; bytes = byte ∷ [] }

abbrev pub got : ℕ → ℕ → Reply
got tag byte = Got (message tag byte)

-- two sends with tags 7 and 9: a receive of tag 9 takes the second, one of any tag then the first
abbrev pub TagsAreKeptApart : Type 0
TagsAreKeptApart =
    replies [] (sends 7 97 ∷ sends 9 98 ∷ receives_now (Some 9) ∷ receives_now None ∷ [])
    ≡ Posted 1 true ∷ Posted 2 true ∷ got 9 98 ∷ got 7 97 ∷ []

-- receive 1 takes any message, receive 2 just tag 7 of rank 0: of two with tag 7 the first is receive 1's
abbrev pub TheEarlierReceiveIsFirst : Type 0
TheEarlierReceiveIsFirst =
    replies [] (posts_receive None None ∷ posts_receive (Some 0) (Some 7) ∷ sends 7 120 ∷ (1, request.Collect 2)
    ∷ sends 7 121 ∷ (1, request.Collect 2) ∷ (1, request.Collect 1) ∷ (1, request.Collect 1) ∷ [])
    ≡ Posted 1 false ∷ Posted 2 false ∷ Posted 3 true ∷ NotYet
    ∷ Posted 4 true ∷ got 7 121 ∷ got 7 120 ∷ Code BadRequest ∷ []

-- a synchronous send is finished once its message, which was claimed, is received: by the rank that claimed it, once
abbrev pub AClaimedMessageIsReceivedOnce : Type 0
AClaimedMessageIsReceivedOnce =
    replies [] (sends_sync 3 122 ∷ (0, request.Finished 1) ∷ (1, request.Claim 0 None None) ∷ (0, request.Finished 1)
    ∷ (1, request.Probe 0 None None) ∷ (0, request.Claimed true 2) ∷ (1, request.Claimed true 2)
    ∷ (0, request.Finished 1) ∷ (1, request.Claimed true 2) ∷ [])
    ≡ Posted 1 false ∷ NotYet ∷ Held 2 (envelope 3) ∷ NotYet
    ∷ NotYet ∷ Code BadMessage ∷ got 3 122 ∷ Done ∷ Code BadMessage ∷ []

-- a claimed message may be received by a post, which is the claim's own, and collected later
abbrev pub AClaimIsItsReceivesPost : Type 0
AClaimIsItsReceivesPost =
    replies [] (sends 3 122 ∷ (1, request.Claim 0 None None) ∷ (1, request.Collect 2) ∷ (1, request.Claimed false 2)
    ∷ (1, request.Collect 2) ∷ (1, request.Claim 0 None None) ∷ [])
    ≡ Posted 1 true ∷ Held 2 (envelope 3) ∷ Code BadRequest ∷ Posted 2 false ∷ got 3 122 ∷ NotYet ∷ []

-- two receives complete together or not at all
abbrev pub AllOrNone : Type 0
AllOrNone =
    replies [] (posts_receive None (Some 1) ∷ posts_receive None (Some 2) ∷ sends 2 122 ∷ (1, request.All (1 ∷ 2 ∷ []))
    ∷ sends 1 121 ∷ (1, request.All (1 ∷ 1 ∷ [])) ∷ (1, request.All (1 ∷ 2 ∷ [])) ∷ (1, request.Collect 1)
    ∷ (1, request.All []) ∷ [])
    ≡ Posted 1 false ∷ Posted 2 false ∷ Posted 3 true ∷ NotYet ∷ Posted 4 true ∷ Code BadRequest
    ∷ AllGot (Some (message 1 121) ∷ Some (message 2 122) ∷ []) ∷ Code BadRequest ∷ AllGot [] ∷ []

-- rank 0 begins the sending side, rank 1 the receiving side, with so many partitions of so many bytes
abbrev pub sending_side : ℕ → ℕ → ℕ → Call
sending_side tag parts size = (0, request.Init true 0 1 tag parts size)

abbrev pub receiving_side : ℕ → ℕ → ℕ → Call
receiving_side tag parts size = (1, request.Init false 0 0 tag parts size)

-- two links, both from rank 0 to rank 1
abbrev pub two_links : List Link
two_links = record { from = 0; to = 1 } ∷ record { from = 0; to = 1 } ∷ []

-- a pair has one link and one total; a refused side isn't counted; the third transfer finds no link
abbrev pub LinksAreReserved : Type 0
LinksAreReserved =
    replies two_links (sending_side 5 4 64 ∷ receiving_side 5 4 32 ∷ receiving_side 5 4 64
    ∷ receiving_side 6 1 8 ∷ sending_side 7 1 8 ∷ [])
    ≡ OnLink 0 ∷ Code Shape ∷ OnLink 0 ∷ OnLink 1 ∷ Code NoChannel ∷ []

-- two pairs of one transfer: a refused side between them isn't counted, and each receiver has its own sender's link
abbrev pub PairsGoByNumber : Type 0
PairsGoByNumber =
    replies two_links (sending_side 5 4 64 ∷ sending_side 5 1 8 ∷ receiving_side 5 1 8 ∷ receiving_side 5 4 64
    ∷ receiving_side 5 1 8 ∷ [])
    ≡ OnLink 0 ∷ OnLink 1 ∷ Code Shape ∷ OnLink 0 ∷ OnLink 1 ∷ []

-- 3 of 64 bytes are 2 of 96; 256 bytes aren't 512, though the low byte of both totals is 0
abbrev pub TotalsAreCompared : Type 0
TotalsAreCompared =
    replies two_links (sending_side 5 3 64 ∷ receiving_side 5 2 96 ∷ sending_side 6 4 64 ∷ receiving_side 6 8 64 ∷ [])
    ≡ OnLink 0 ∷ OnLink 0 ∷ OnLink 1 ∷ Code Shape ∷ []

-- rank 0 sends over the second link alone
abbrev pub LinksJoinTheirRanks : Type 0
LinksJoinTheirRanks =
    replies (record { from = 1; to = 0 } ∷ record { from = 0; to = 1 } ∷ [])
    (sending_side 5 1 8 ∷ sending_side 6 1 8 ∷ [])
    ≡ OnLink 1 ∷ Code NoChannel ∷ []

abbrev pub asks_cut : ℕ → ℕ → Call
asks_cut rank link = (rank, request.Cut link)

-- rank 1 is told how rank 0 cut the transfer, once it did; rank 0 isn't told, nor is anyone of a link that isn't there
abbrev pub TheReceiverIsToldTheCut : Type 0
TheReceiverIsToldTheCut =
    replies two_links (asks_cut 1 0 ∷ receiving_side 5 2 96 ∷ asks_cut 1 0 ∷ sending_side 5 3 64 ∷ asks_cut 1 0
    ∷ asks_cut 0 0 ∷ asks_cut 1 1 ∷ asks_cut 1 2 ∷ [])
    ≡ NotYet ∷ OnLink 0 ∷ NotYet ∷ OnLink 0 ∷ Cut 3 64 ∷ Code BadRequest ∷ NotYet ∷ Code BadRequest ∷ []

pub record WorkedCalls : Type 0 where
  pub tags : TagsAreKeptApart
  pub order : TheEarlierReceiveIsFirst
  pub claim : AClaimedMessageIsReceivedOnce
  pub claim_post : AClaimIsItsReceivesPost
  pub all : AllOrNone
  pub links : LinksAreReserved
  pub pairs : PairsGoByNumber
  pub totals : TotalsAreCompared
  pub ranks : LinksJoinTheirRanks
  pub cut : TheReceiverIsToldTheCut
