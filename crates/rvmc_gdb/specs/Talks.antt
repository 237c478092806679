-- A session over a stream of bytes: what is written is the answers to the packets that the stream holds, in order.
use Rattle.std.specs.Prelude.{ℕ, ◌≡◌, Bool, true, false, not, ◌&&◌, List, [], ◌++◌, Option, Some, None, if◌then◌else◌}
use Rattle.std.specs.Str.{bytes_eq}
use Rattle.rvmc_protocol.specs.Packets.Frames.{acknowledgement, packet_of}
use Rattle.rvmc_protocol.specs.Packets.Reading.{Place, next_place, outside_of, told}
use Rattle.rvmc_protocol.specs.declared.packets.reader.Message.{Message}
use Rattle.rvmc_protocol.specs.declared.packets.reader.Message.TheVariants.{Again, Arrived, Packet, Wrong}
use Rattle.rvmc_protocol.specs.Requests.{request_in}
use Rattle.rvmc_protocol.specs.declared.requests.Request.{Request}
use Rattle.rvmc_gdb.specs.Answers.{Answers, kills, leaves, most, quiets}
use Rattle.rvmc_gdb.specs.Following.{Follows}
use Rattle.rvmc_gdb.specs.Serving.{Serving}
use Rattle.rvmc_gdb.specs.declared.server.Flow.{Flow}
use Rattle.rvmc_gdb.specs.declared.server.Flow.TheVariants.{Ended, On}

-- how a session stands; whether packets are acknowledged; the packet that was written last; the payload that it answers, as
-- long as the client doesn't say that it has arrived; and whether the client left
pub record Talk : Type 0 where
  pub serving : Serving
  pub wanted : Bool
  pub last : List ℕ
  pub unread : Option (List ℕ)
  pub ended : Bool

-- whether it goes on
abbrev pub flow_of : Bool → Flow
flow_of true = Ended
flow_of false = On

abbrev pub talk_begun : Serving → Talk
talk_begun serving = record { serving = serving; wanted = true; last = []; unread = None; ended = false }

-- ---- one message

-- the packet of an answer, unless the client wants none
abbrev pub written : Request → List ℕ → List ℕ
written request reply = if kills request then [] else packet_of reply

abbrev pub talk_after : Talk → List ℕ → Request → Serving → List ℕ → Talk
talk_after old payload request serving reply = record {
  serving = serving;
  wanted = old.wanted && not (quiets request);
  last = written request reply;
  unread = Some payload;
  ended = leaves request;
}

-- the request of a payload is answered
pub record Hears (old : Talk) (payload : List ℕ) (request : Request) (new : Talk) (text : List ℕ) : Type 0 where
  pub reply : List ℕ
  pub answers : Answers old.serving request new.serving reply
  pub stands : new ≡ talk_after old payload request new.serving reply
  pub is : text ≡ written request reply

-- a packet that repeats the one before it, where the client doesn't say that the answer has arrived: the client waited for
-- the acknowledgement, and sent the packet once more. Where packets aren't acknowledged none is such
abbrev pub is_unread : Option (List ℕ) → List ℕ → Bool
is_unread None payload = false
is_unread (Some before) payload = bytes_eq before payload

abbrev pub repeats : Talk → List ℕ → Bool
repeats talk payload = talk.wanted && is_unread talk.unread payload

-- and such a packet isn't answered twice
abbrev pub HearsUnless : Bool → Talk → List ℕ → Talk → List ℕ → Type 0
HearsUnless true old payload new text = (new ≡ old) × (text ≡ [])
HearsUnless false old payload new text = Hears old payload (request_in payload) new text

-- this payload is answered, and the client doesn't say yet that it has the answer; or it does
abbrev pub unread_by : Talk → List ℕ → Talk
unread_by talk payload = record talk { unread = Some payload }

abbrev pub read : Talk → Talk
read talk = record talk { unread = None }

-- behind its acknowledgement a packet is answered; one with a wrong sum isn't, and the last packet is written again where
-- it is asked for
abbrev pub Replies : Talk → Message → Talk → List ℕ → Type 0
Replies old (Packet payload) new text = HearsUnless (repeats old payload) old payload new text
Replies old Wrong new text = (new ≡ old) × (text ≡ [])
Replies old Again new text = (new ≡ old) × (text ≡ old.last)
Replies old Arrived new text = (new ≡ read old) × (text ≡ [])

pub record Meets (old : Talk) (message : Message) (new : Talk) (text : List ℕ) : Type 0 where
  pub reply : List ℕ
  pub replies : Replies old message new reply
  pub is : text ≡ acknowledgement old.wanted message ++ reply

-- where the client has left nothing more is heard
abbrev pub MeetsUnless : Bool → Talk → Message → Talk → List ℕ → Type 0
MeetsUnless true old message new text = (new ≡ old) × (text ≡ [])
MeetsUnless false old message new text = Meets old message new text

-- ---- messages, one after another

abbrev pub MeetsNext : Talk → Message → Talk → List ℕ → Type 0
MeetsNext old message new text = MeetsUnless old.ended old message new text

abbrev pub Converses : Talk → List Message → Talk → List ℕ → Type 0
Converses old messages new text = Follows MeetsNext old messages new text

-- ---- bytes, one after another

-- how a session stands, and what was read of the stream
pub record Connection : Type 0 where
  pub place : Place
  pub talk : Talk

abbrev pub connected : Serving → Connection
connected serving = record { place = outside_of most; talk = talk_begun serving }

-- what a byte tells is met, if it tells something
abbrev pub MeetsTold : Talk → Option Message → Talk → List ℕ → Type 0
MeetsTold old None new text = (new ≡ old) × (text ≡ [])
MeetsTold old (Some message) new text = MeetsNext old message new text

pub record Takes (old : Connection) (byte : ℕ) (new : Connection) (text : List ℕ) : Type 0 where
  pub read : new.place ≡ next_place old.place byte
  pub meets : MeetsTold old.talk (told old.place byte) new.talk text

abbrev pub Serves : Connection → List ℕ → Connection → List ℕ → Type 0
Serves old bytes new text = Follows Takes old bytes new text
