-- A session of `debug -`: what is written is a function of all bytes of the input, which are a record and lines behind it.
use Rattle.std.specs.Prelude.{◌≡◌, ◌≢◌, ◌⊎◌, ⊤, ℕ, ◌==◌, ◌||◌, if◌then◌else◌, List, [], ◌++◌, codes, length, map}
use Rattle.std.specs.Prelude.{Option, Some, None, Ok, Err}
use Rattle.std.specs.List.{slice_split}
use Rattle.cl_debug.specs.Debugging.{Debugging}
use Rattle.cl_debug.specs.declared.faults.DebugFault.{DebugFault}
use Rattle.cl_debug.specs.declared.faults.DebugFault.TheVariants as debug
use Rattle.cl_machine.specs.declared.steps.Step.{Step}
use Rattle.cl_text.specs.Reading.{reading_record}
use Rattle.rv_image_types.specs.declared.images.ImageParts.{ImageParts}
use Rattle.rvmc_gdb.specs.Following.{Follows}
use Rattle.rvmc_gdb.specs.Typing.{fault_text}
use Rattle.rvmc_protocol.specs.Monitor.Lines.{words_in}
use Rattle.rvmc_gdb.specs.Below.{Fault, IsRunUpTo, StopsAt, newline}
use Rattle.rvmc_gdb.specs.Below.faults
use Rattle.rvmc_serve.specs.Sessions.{IsStream, Reading, Refuses}
use Rattle.rvmc_words.specs.declared.debug.DebugWord.{DebugWord}

-- ---- lines

-- a tab and a carriage return are blanks too
abbrev pub typed_byte : ℕ → ℕ
typed_byte byte = if (byte == 9) || (byte == 13) then 32 else byte

-- the lines are between the newlines. The last one needs no newline
abbrev pub lines_in : List ℕ → List (List ℕ)
lines_in bytes = slice_split (λ byte. byte == 10) (map typed_byte bytes)

-- ---- the answer to a line

abbrev pub unknown_words_text : List ℕ
unknown_words_text = codes "rvmc: no such word: rvmc debug --help lists them" ++ newline

-- what is printed behind the texts of the words: the fault of the one that was refused
abbrev pub refusal_text : Option DebugFault → List ℕ
refusal_text None = []
refusal_text (Some fault) = fault_text fault

-- want of memory is no answer
abbrev pub IsTold : Option DebugFault → Type 0
IsTold None = ⊤
IsTold (Some fault) = fault ≢ debug.Memory

-- the words are done one after another, and print what they do for `debug`; where one is refused, its fault is printed, and
-- the debugger stays there
pub record DebugsLine (old : Debugging) (words : List DebugWord) (new : Debugging) (text : List ℕ) : Type 0 where
  pub printed : List ℕ
  pub fault : Option DebugFault
  pub stops : StopsAt old words new printed fault
  pub told : IsTold fault
  pub is : text ≡ printed ++ refusal_text fault

-- a line with a text that is no word does nothing
abbrev pub AnswersWords : Debugging → Option (List DebugWord) → Debugging → List ℕ → Type 0
AnswersWords old None new text = (new ≡ old) × (text ≡ unknown_words_text)
AnswersWords old (Some words) new text = DebugsLine old words new text

abbrev pub AnswersLine : Debugging → List ℕ → Debugging → List ℕ → Type 0
AnswersLine old line new text = AnswersWords old (words_in line) new text

-- lines, one after another: each is answered from where the one before it left the debugger
abbrev pub AnswersLines : Debugging → List (List ℕ) → Debugging → List ℕ → Type 0
AnswersLines old lines new text = Follows AnswersLine old lines new text

-- ---- the record

-- the steps are a run of the image, and the debugger is before the first of them
pub record IsBegunOn (image : ImageParts) (steps : List Step) (debugging : Debugging) : Type 0 where
  pub run : IsRunUpTo image steps (length steps)
  pub is : debugging ≡ record { image = image; steps = steps; place = 0; breaks = [] }

abbrev pub IsBegun : Reading → Debugging → Type 0
IsBegun (Ok (image, steps)) debugging = IsBegunOn image steps debugging
IsBegun (Err fault) debugging = ⊥

-- ---- all of it

-- all lines are answered
abbrev pub AnswersAll : Debugging → List ℕ → List ℕ → Type 0
AnswersAll old behind text = (new : Debugging) × AnswersLines old (lines_in behind) new text

-- the first of them are
abbrev pub AnswersSome : Debugging → List ℕ → List ℕ → Type 0
AnswersSome old behind text =
    (lines : List (List ℕ)) × (others : List (List ℕ)) × (lines_in behind ≡ lines ++ others)
    × (new : Debugging) × AnswersLines old lines new text

abbrev pub IsWholeTyped : Reading → List ℕ → List ℕ → Type 0
IsWholeTyped read behind text = (debugging : Debugging) × IsBegun read debugging × AnswersAll debugging behind text

-- a session that is cut short has written nothing, or the answers to the first lines
abbrev pub IsCutTyped : Reading → List ℕ → List ℕ → Type 0
IsCutTyped read behind text =
    (text ≡ []) ⊎ ((debugging : Debugging) × IsBegun read debugging × AnswersSome debugging behind text)

-- what is written, by the fault that ends the session, if one does. Where a read fails, and where memory is refused, it is cut
-- short; where there is no record, or none that is a run, as for a session of gdb with all ranks, nothing is written
abbrev pub WritesTyped : Reading → List ℕ → List ℕ → Option Fault → Type 0
WritesTyped read behind text None = IsWholeTyped read behind text
WritesTyped read behind text (Some faults.Memory) = IsCutTyped read behind text
WritesTyped read behind text (Some faults.Read) = IsCutTyped read behind text
WritesTyped read behind text (Some fault) = Refuses None read fault × (text ≡ [])

pub record IsWordSession (bytes text : List ℕ) (ended : Option Fault) : Type 0 where
  pub front : List ℕ
  pub behind : List ℕ
  pub stream : IsStream bytes front behind
  pub writes : WritesTyped (reading_record front) behind text ended
