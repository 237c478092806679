-- Lines of progress behind lines of progress.
use Rattle.std.proofs.Common.{◌≡◌, ◌∙◌, ℕ, min, Bool, false, true, List, [], ◌++◌, Option, Some, None, ap, append-nil, length, refl, subst, sym, take}
use Rattle.std.specs.Io.{StartsWith}
use Rattle.std.specs.Io.KnownBytes.{Appends}
use Rattle.std.proofs.KnownBytes.{Appends-trans, Keeps-refl, Keeps-trans}
use Rattle.std.proofs.lemmas.List.{append_assoc, length-take, take_min}
use Rattle.cl_lines.specs.Beginnings.{AppendsBeginning}
use Rattle.cl_lines.specs.Progress.{AreProgress, IsDue, progress_line}
use Rattle.cl_lines.specs.Telling.{AppendsProgress, TellsProgress}
use Rattle.cl_lines.specs.declared.progress.Progress.{Progress}

-- nothing at all
pub no_progress : (old : Option (List ℕ)) → AppendsProgress old old
no_progress old = ([], AreProgress.none, nothing old)
  where
    nothing : (old : Option (List ℕ)) → Appends old old []
    nothing None = tt
    nothing (Some xs) = sym (append-nil xs)

-- the beginning of a line
pub progress_from_beginning : (progress : Progress) (line : List ℕ) (old new : Option (List ℕ)) → IsDue progress.states
    → line ≡ progress_line progress → AppendsBeginning line old new → AppendsProgress old new
progress_from_beginning progress line old new due is (count, appends) =
    (take count line, AreProgress.more AreProgress.none (record { progress = progress; due = due; begins = begins }) refl, appends)
  where
    begins : StartsWith (progress_line progress) (take count line)
    begins = ap (λ n. take n (progress_line progress)) (length-take count line) ∙ (ap (λ l. take (min count (length l)) (progress_line progress)) is ∙ (take_min count (progress_line progress) ∙ ap (take count) (sym is)))

are_behind : (lines more : List ℕ) → AreProgress lines → AreProgress more → AreProgress (lines ++ more)
are_behind lines more are AreProgress.none = subst AreProgress (sym (append-nil lines)) are
are_behind lines more are (AreProgress.more {before} {line} them it is) =
    AreProgress.more (are_behind lines before are them) it (ap (λ l. lines ++ l) is ∙ sym (append_assoc lines before line))

-- lines behind lines
pub progress_behind : (old mid new : Option (List ℕ)) → AppendsProgress old mid → AppendsProgress mid new → AppendsProgress old new
progress_behind old mid new (lines, are, there) (more, them, behind) =
    (lines ++ more, are_behind lines more are them, Appends-trans old mid new lines more there behind)

pub nothing_told : (wanted : Bool) (old : Option (List ℕ)) → TellsProgress wanted old old
nothing_told false old = Keeps-refl old
nothing_told true old = no_progress old

pub told_behind : (wanted : Bool) (old mid new : Option (List ℕ)) → TellsProgress wanted old mid → TellsProgress wanted mid new
    → TellsProgress wanted old new
told_behind false old mid new = Keeps-trans old mid new
told_behind true old mid new = progress_behind old mid new
