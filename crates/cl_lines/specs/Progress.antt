-- Lines that say how far a search came.
use Rattle.std.specs.Prelude.{ℕ, ◌==◌, ◌≡◌, ◌<◌, ◌≤◌, ◌*◌, ◌^◌, if◌then◌else◌, List, [], ◌++◌, codes}
use Rattle.std.specs.Fmt.{decimal}
use Rattle.std.specs.Io.{StartsWith}
use Rattle.cl_lines.specs.declared.progress.Progress.{Progress}

-- ---- one line

-- after how many states there is one: 100, 200, .. 900, 1,000, 2,000, .. 9,000, 10,000 and so on
pub record IsDue (states : ℕ) : Type 0 where
  pub digit : ℕ
  pub zeros : ℕ
  pub first : 0 < digit
  pub last : digit < 10
  pub hundreds : 2 ≤ zeros
  pub spelled : states ≡ digit * 10 ^ zeros

abbrev pub ends_word : ℕ → List ℕ
ends_word ends = if ends == 1 then codes "end" else codes "ends"

-- `searched 3000 states in pass 1: 2 ends, 411 left`, and a line break
abbrev pub progress_line : Progress → List ℕ
progress_line progress =
    codes "searched " ++ (decimal progress.states ++ (codes " states in pass " ++ (decimal progress.pass
    ++ (codes ": " ++ (decimal progress.ends ++ (codes " " ++ (ends_word progress.ends
    ++ (codes ", " ++ (decimal progress.left ++ codes " left\n")))))))))

-- ---- all of them

-- where one is due it stands there, or as much of it as could be written
pub record IsProgress (bytes : List ℕ) : Type 0 where
  pub progress : Progress
  pub due : IsDue progress.states
  pub begins : StartsWith (progress_line progress) bytes

-- one behind another
pub data AreProgress : List ℕ → Type 0 where
  none : AreProgress []
  more : {before line bytes : List ℕ} → AreProgress before → IsProgress line → bytes ≡ before ++ line → AreProgress bytes
