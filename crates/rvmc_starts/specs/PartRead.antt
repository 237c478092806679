-- What the text that stands first tells of a start.
use Rattle.std.specs.Prelude.{ℕ, ◌≡◌, ◌<◌, ◌^◌, ◌++◌, List, [], ◌∷◌, MatchOption, IsTrue, Option, drop, length}
use Rattle.rvmc_starts.specs.Parts.{is_part, part_text}
use Rattle.rvmc_starts.specs.Starts.{AreBytes}
use Rattle.rvmc_starts.specs.declared.parts.EndText.{EndText}
use Rattle.rvmc_starts.specs.declared.parts.Part.{Part}
use Rattle.rvmc_starts.specs.declared.reading.PartRead.{PartRead}

-- the length of each text is a number of 64 bits
abbrev pub AreShort : List EndText → Type 0
AreShort [] = Unit {0}
AreShort (end ∷ ends) = (length end.body < 2 ^ 64) × AreShort ends

-- the numbers fit their types
pub record FitsPart (part : Part) : Type 0 where
  pub number : part.number < 2 ^ 64
  pub count : part.count < 2 ^ 64
  pub split : part.split < 2 ^ 64
  pub size : part.image.size < 2 ^ 64
  pub digest : part.image.digest < 2 ^ 64
  pub harts : AreBytes part.harts
  pub ends : length part.ends < 2 ^ 64
  pub bodies : AreShort part.ends
  pub states : part.states < 2 ^ 64
  pub left : part.left < 2 ^ 64
  pub status : part.status < 256

-- the bytes begin with no text of a part
abbrev pub BeginsWithNone : List ℕ → Type 0
BeginsWithNone bytes = (part : Part) (rest : List ℕ) → FitsPart part → IsTrue (is_part part) → ¬ (bytes ≡ part_text part ++ rest)

-- the bytes begin with the text of this part, of this length
pub record BeginsWith (bytes : List ℕ) (read : PartRead) : Type 0 where
  pub is : IsTrue (is_part read.part)
  pub text : bytes ≡ part_text read.part ++ drop read.length bytes
  pub length_is : read.length ≡ length (part_text read.part)

abbrev pub IsPartRead : List ℕ → Option PartRead → Type 0
IsPartRead bytes found = MatchOption found (BeginsWithNone bytes) (BeginsWith bytes)
