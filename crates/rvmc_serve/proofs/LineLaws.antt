-- What is written behind a record, and for a line.
use Rattle.std.specs.Prelude.{ℕ, ◌≡◌, List, Option, Some, None, Ok}
use Rattle.std.proofs.Common.{ap, subst, ◌∙◌}
use Rattle.cl_debug.specs.Debugging.{Debugging}
use Rattle.cl_debug.specs.declared.faults.DebugFault.{DebugFault}
use Rattle.cl_text.specs.Reading.{reading_record}
use Rattle.rvmc_gdb.specs.Below.{IsTextOfWords, StopsAt}
use Rattle.rvmc_serve.proofs.Answered.{front_of}
use Rattle.rvmc_serve.specs.Laws.{LineLaw, LinesLaw}
use Rattle.rvmc_serve.specs.Lines.{AnswersLines, AnswersWords, DebugsLine, IsWholeTyped, lines_in}
use Rattle.rvmc_serve.specs.Sessions.{Reading}
use Rattle.rvmc_words.specs.declared.debug.DebugWord.{DebugWord}

pub lines_law : LinesLaw
lines_law spelled typed text image steps read session =
    let same = front_of spelled typed session.front session.behind image steps read session.stream in
    let reads : reading_record session.front ≡ Ok (image, steps) = ap reading_record same.0 ∙ read in
    let whole : IsWholeTyped (Ok (image, steps)) typed text =
    subst (λ (bytes : List ℕ). IsWholeTyped (Ok (image, steps)) bytes text) same.1
    (subst (λ (r : Reading). IsWholeTyped r session.behind text) reads session.writes) in (
      whole.2.0,
      subst (λ (d : Debugging). AnswersLines d (lines_in typed) whole.2.0 text) whole.1.is whole.2.1,
    )

text_of : (old new : Debugging) (words : List DebugWord) (printed : List ℕ) (fault : Option DebugFault)
    → StopsAt old words new printed fault → IsTextOfWords old words printed fault
text_of old new words printed None walks = (new, walks)
text_of old new words printed (Some fault) (n, word, at, is, walks, refuses, stays) = (n, word, at, is, walks, refuses)

pub line_law : LineLaw
line_law old new line text words meant answers =
    let does : DebugsLine old words new text =
    subst (λ (found : Option (List DebugWord)). AnswersWords old found new text) meant answers in
    (does.printed, does.fault, text_of old new words does.printed does.fault does.stops, does.is)
