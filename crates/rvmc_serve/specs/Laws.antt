-- The laws of sessions over a stream.
use Rattle.std.specs.Prelude.{◌≡◌, ℕ, List, [], ◌++◌, None, Ok, Option, Some}
use Rattle.cl_debug.specs.Debugging.{Debugging}
use Rattle.cl_debug.specs.declared.faults.DebugFault.{DebugFault}
use Rattle.cl_machine.specs.declared.steps.Step.{Step}
use Rattle.cl_text.specs.Reading.{reading_record}
use Rattle.rv_image_types.specs.declared.images.ImageParts.{ImageParts}
use Rattle.rvmc_gdb.specs.Answers.{most}
use Rattle.rvmc_gdb.specs.Serving.{opened}
use Rattle.rvmc_gdb.specs.Talks.{Converses, Talk, talk_begun}
use Rattle.rvmc_gdb.specs.Below.{IsTextOfWords}
use Rattle.rvmc_protocol.specs.Monitor.Lines.{words_in}
use Rattle.rvmc_protocol.specs.Packets.Frames.{Holds}
use Rattle.rvmc_protocol.specs.declared.packets.reader.Message.{Message}
use Rattle.rvmc_serve.specs.Lines.{AnswersLine, AnswersLines, IsWordSession, lines_in, refusal_text}
use Rattle.rvmc_serve.specs.Sessions.{IsSession}
use Rattle.rvmc_words.specs.declared.debug.DebugWord.{DebugWord}

-- behind a record stands what holds some messages by the grammar of packets: what is written is what the session of that
-- record's rank, from its first step on, answers to them, in order
abbrev pub AnswersLaw : Type 0
AnswersLaw =
    (rank : Option ℕ) (spelled packets text : List ℕ) (image : ImageParts) (steps : List Step) (messages : List Message)
    → reading_record spelled ≡ Ok (image, steps) → Holds most packets messages
    → IsSession rank (spelled ++ packets) text None
    → (talk : Talk)
    × Converses (talk_begun (opened (record { image = image; steps = steps; place = 0; breaks = [] }) rank)) messages talk text

-- a record behind which nothing stands is answered by nothing
abbrev pub QuietLaw : Type 0
QuietLaw =
    (rank : Option ℕ) (spelled text : List ℕ) (image : ImageParts) (steps : List Step)
    → reading_record spelled ≡ Ok (image, steps) → IsSession rank spelled text None → text ≡ []

-- behind a record come any bytes: what is written is the answers to their lines, in order, from before its first step on
abbrev pub LinesLaw : Type 0
LinesLaw =
    (spelled typed text : List ℕ) (image : ImageParts) (steps : List Step)
    → reading_record spelled ≡ Ok (image, steps) → IsWordSession (spelled ++ typed) text None
    → (new : Debugging)
    × AnswersLines (record { image = image; steps = steps; place = 0; breaks = [] }) (lines_in typed) new text

-- the answer to a line is what `debug` prints for its words from there on, and behind that the fault of a word that was refused
abbrev pub LineLaw : Type 0
LineLaw =
    (old new : Debugging) (line text : List ℕ) (words : List DebugWord)
    → words_in line ≡ Some words → AnswersLine old line new text
    → (printed : List ℕ) × (fault : Option DebugFault) × IsTextOfWords old words printed fault
    × (text ≡ printed ++ refusal_text fault)
