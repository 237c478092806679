-- The laws of sessions.
use Rattle.std.specs.Prelude.{ℕ, ◌≡◌, ◌<◌, ◌*◌, ◌↔◌, true, List, [], ◌++◌, drop, take, Some}
use Rattle.rv_hart.specs.State.{State}
use Rattle.cl_machine.specs.Cluster.{Cluster}
use Rattle.rvmc_motions.specs.declared.marks.Mover.{Mover}
use Rattle.rvmc_motions.specs.Turns.{IsHistory}
use Rattle.rvmc_protocol.specs.Packets.Frames.{Holds}
use Rattle.rvmc_protocol.specs.declared.packets.reader.Message.{Message}
use Rattle.rvmc_protocol.specs.Replies.Digits.{register_text}
use Rattle.rvmc_gdb.specs.Serving.{Serving}
use Rattle.rvmc_gdb.specs.Moving.{Backwards, Forwards}
use Rattle.rvmc_gdb.specs.Shown.{register_value, registers_text}
use Rattle.rvmc_gdb.specs.Answers.{most}
use Rattle.rvmc_gdb.specs.Talks.{Connection, Converses, Serves, talk_begun, connected}

-- ---- the whole of a session

-- what is written is what is answered to the messages that the stream holds by the grammar of packets, in order: nothing is
-- answered to what is no packet
abbrev pub HeardLaw : Type 0
HeardLaw =
    (serving : Serving) (bytes : List ℕ) (messages : List Message) (new : Connection) (text : List ℕ)
    → Holds most bytes messages → Serves (connected serving) bytes new text
    → Converses (talk_begun serving) messages new.talk text

-- it doesn't matter in which pieces the bytes come
abbrev pub PiecesLaw : Type 0
PiecesLaw =
    (old new : Connection) (first second : List ℕ) (text : List ℕ)
    → (Serves old (first ++ second) new text)
    ↔ ((between : Connection) × (one : List ℕ) × (other : List ℕ) × Serves old first between one
    × Serves between second new other × (text ≡ one ++ other))

-- where the client has left nothing is written any more
abbrev pub LeftLaw : Type 0
LeftLaw =
    (old new : Connection) (bytes text : List ℕ) → old.talk.ended ≡ true → Serves old bytes new text
    → (new.talk ≡ old.talk) × (text ≡ [])

-- ---- registers

-- one register and all of them say the same: each has 16 digits, in the order of the numbers
abbrev pub AgreeLaw : Type 0
AgreeLaw =
    (hart : State) (number value : ℕ) → register_value number hart ≡ Some value
    → take 16 (drop (16 * number) (registers_text hart)) ≡ register_text value

-- ---- motions

-- a motion's answer is told at one place, and is one text: of a session that stands somewhere no other answer is right
pub record OneAnswerLaw : Type 0 where
  pub on : (old one other : Serving) (mover : Mover) (s t : List ℕ) (history : ℕ → Cluster)
      → IsHistory old.debugging.image old.debugging.steps history
      → Forwards old mover one s → Forwards old mover other t → (one ≡ other) × (s ≡ t)
  pub back : (old one other : Serving) (mover : Mover) (s t : List ℕ) (history : ℕ → Cluster)
      → IsHistory old.debugging.image old.debugging.steps history
      → Backwards old mover one s → Backwards old mover other t → (one ≡ other) × (s ≡ t)

-- ---- the record

-- nothing that is asked changes the record, and a rank that is there is meant from then on
pub record RecordStaysLaw : Type 0 where
  pub image : (old new : Connection) (bytes text : List ℕ) → Serves old bytes new text
      → new.talk.serving.debugging.image ≡ old.talk.serving.debugging.image
  pub steps : (old new : Connection) (bytes text : List ℕ) → Serves old bytes new text
      → new.talk.serving.debugging.steps ≡ old.talk.serving.debugging.steps
  pub rank : (old new : Connection) (bytes text : List ℕ) → Serves old bytes new text
      → old.talk.serving.rank < old.talk.serving.debugging.image.ranks
      → new.talk.serving.rank < new.talk.serving.debugging.image.ranks
