-- Deeds: events with all that they met outside their rank. Their stamps, and the rank alone.
use Rattle.std.specs.Prelude.{◌≡◌, ℕ, ◌<◌, ◌+◌, ◌^◌, ◌⊎◌, max, List, [], ◌∷◌, Option, Some, None, length}
use Rattle.mp_types.specs.declared.requests.Request.{Request}
use Rattle.mp_types.specs.declared.replies.Reply.{Reply}
use Rattle.cl_state.specs.declared.asking.Ask.{Ask}
use Rattle.cl_state.specs.declared.asking.Answer.{Answer}
use Rattle.cl_trace.specs.declared.events.Kind.{Kind}
use Rattle.cl_trace.specs.declared.events.Event.{Event}
use Rattle.cl_state.specs.Rank.{Rank}
use Rattle.cl_state.specs.Asked.{asked}
use Rattle.cl_state.specs.Told.{told}

-- what an event was, with all that it met: the rank's clock
-- and the hub's reply; the box, its gate's stamp and its bytes
pub data Act : Type 0 where
  Plain : Act
  Local : Act
  Hub : (clock : ℕ) (request : Request) (reply : Reply) → Act
  Ready : (link part : ℕ) (bytes : List ℕ) → Act
  Take : (link part gate : ℕ) (bytes : List ℕ) → Act
  Miss : (link part : ℕ) → Act
  Freed : (link part gate : ℕ) → Act
  Held : Act
  Idle : Act

abbrev pub kind_of : Act → Kind
kind_of Act.Plain = Kind.Plain
kind_of Act.Local = Kind.Local
kind_of (Act.Hub clock request reply) = Kind.Hub reply
kind_of (Act.Ready link part bytes) = Kind.Ready
kind_of (Act.Take link part gate bytes) = Kind.Take
kind_of (Act.Miss link part) = Kind.Miss
kind_of (Act.Freed link part gate) = Kind.Freed
kind_of Act.Held = Kind.Held
kind_of Act.Idle = Kind.Idle

abbrev pub request_of : Act → Option Request
request_of (Act.Hub clock request reply) = Some request
request_of _ = None

-- what the rank is told
abbrev pub answer_of : Act → Answer
answer_of Act.Plain = Answer.Alone
answer_of Act.Local = Answer.Alone
answer_of (Act.Hub clock request reply) = Answer.Reply reply
answer_of (Act.Ready link part bytes) = Answer.Alone
answer_of (Act.Take link part gate bytes) = Answer.Taken bytes
answer_of (Act.Miss link part) = Answer.Missed
answer_of (Act.Freed link part gate) = Answer.Freed
answer_of Act.Held = Answer.Alone
answer_of Act.Idle = Answer.Alone

pub record Deed : Type 0 where
  pub rank : ℕ
  pub hart : ℕ
  pub stamp : ℕ
  pub act : Act

abbrev pub event_of : Deed → Event
event_of d = record { hart = d.hart; stamp = d.stamp; kind = kind_of d.act; request = request_of d.act }

-- the act is one that answers what was asked
abbrev pub Suits : Ask → Act → Type 0
Suits asks Act.Plain = asks ≡ Ask.Plain
Suits asks Act.Local = asks ≡ Ask.Local
Suits asks (Act.Hub clock request reply) = asks ≡ Ask.Hub request
Suits asks (Act.Ready link part bytes) = asks ≡ Ask.Ready link part bytes
Suits asks (Act.Take link part gate bytes) = asks ≡ Ask.Look link part
Suits asks (Act.Miss link part) = (asks ≡ Ask.Look link part) ⊎ (asks ≡ Ask.Freed link part)
Suits asks (Act.Freed link part gate) = asks ≡ Ask.Freed link part
Suits asks Act.Held = asks ≡ Ask.Held
Suits asks Act.Idle = asks ≡ Ask.Idle

-- the stamp of an act at a rank's clock. A gate's stamp is
-- passed; the hub's clock too, which the rank alone doesn't see
abbrev pub IsStamp : ℕ → Act → ℕ → Type 0
IsStamp clock (Act.Hub at request reply) stamp = (at ≡ clock) × (clock < stamp)
IsStamp clock (Act.Take link part gate bytes) stamp = stamp ≡ max clock gate + 1
IsStamp clock (Act.Freed link part gate) stamp = stamp ≡ max clock gate + 1
IsStamp clock _ stamp = stamp ≡ clock + 1

-- the rank's part of a step: the hart is there, its act answers what it asked, the stamp is right, and the rank is told
abbrev pub RankMoves : Rank → Deed → Rank → Type 0
RankMoves old d new =
    (d.hart < length old.harts)
    × (d.stamp < 2 ^ 62)
    × Suits (asked old d.hart) d.act
    × IsStamp old.clock d.act d.stamp
    × (new ≡ told old d.hart (answer_of d.act) d.stamp)

-- one part goes through its deeds, each from where the one before left it
abbrev pub PartRun : {S D : Type 0} → (S → D → S → Type 0) → S → List D → S → Type 0
PartRun Move old [] new = new ≡ old
PartRun {S} Move old (d ∷ ds) new = (mid : S) × Move old d mid × PartRun Move mid ds new
