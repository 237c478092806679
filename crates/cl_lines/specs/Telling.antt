-- What stands where lines of progress were written.
use Rattle.std.specs.Prelude.{ℕ, Bool, false, true, List, Option}
use Rattle.std.specs.Io.KnownBytes.{Appends, Keeps}
use Rattle.cl_lines.specs.Progress.{AreProgress}

-- what was there stays, and behind it stand those alone
abbrev pub AppendsProgress : Option (List ℕ) → Option (List ℕ) → Type 0
AppendsProgress old new = (lines : List ℕ) × AreProgress lines × Appends old new lines

-- the same where they are wanted, and else nothing
abbrev pub TellsProgress : Bool → Option (List ℕ) → Option (List ℕ) → Type 0
TellsProgress false old new = Keeps old new
TellsProgress true old new = AppendsProgress old new
