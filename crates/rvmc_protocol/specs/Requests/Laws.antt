-- The laws of requests.
use Rattle.std.specs.Prelude.{◌≡◌, ℕ, ◌<◌, List, ◌∷◌, ◌++◌, Some, codes, false}
use Rattle.std.specs.Fmt.{digits}
use Rattle.rvmc_protocol.specs.Requests.Pieces.{number_in}
use Rattle.rvmc_protocol.specs.Requests.{request_in}
use Rattle.rvmc_protocol.specs.declared.requests.points.Point.{Point}
use Rattle.rvmc_protocol.specs.declared.requests.points.Point.TheVariants.{Before, HardwareBefore, Written, Read, Touched}
use Rattle.rvmc_protocol.specs.declared.requests.Request.TheVariants.{Description, ThreadList, Alive, ThreadText}
use Rattle.rvmc_protocol.specs.declared.requests.Request.TheVariants.{Register, Bytes, RawBytes, Insert, Remove}

-- the digits that are written of a number, with no zeros before them
abbrev pub hex : ℕ → List ℕ
hex number = digits 16 false number

-- a number of 64 bits
abbrev pub IsWord : ℕ → Type 0
IsWord number = number < 18446744073709551616

-- the digits that are written of a number are read as that number
abbrev pub NumberLaw : Type 0
NumberLaw = (number : ℕ) → IsWord number → number_in (hex number) ≡ Some number

-- two numbers, as they are written, with a comma between them
abbrev pub pair : ℕ → ℕ → List ℕ
pair first second = hex first ++ 44 ∷ hex second

-- the number of a point
abbrev pub point_number : Point → ℕ
point_number Before = 0
point_number HardwareBefore = 1
point_number Written = 2
point_number Read = 3
point_number Touched = 4

-- what is written of each request with numbers is read as that request, with these numbers
pub record SpelledLaw : Type 0 where
  pub description : (from count : ℕ) → IsWord from → IsWord count
      → request_in (codes "qXfer:features:read:target.xml:" ++ pair from count) ≡ Description from count
  pub thread_list : (from count : ℕ) → IsWord from → IsWord count
      → request_in (codes "qXfer:threads:read::" ++ pair from count) ≡ ThreadList from count
  pub thread_text : (thread : ℕ) → IsWord thread → request_in (codes "qThreadExtraInfo," ++ hex thread) ≡ ThreadText thread
  pub alive : (thread : ℕ) → IsWord thread → request_in (codes "T" ++ hex thread) ≡ Alive thread
  pub register : (number : ℕ) → IsWord number → request_in (codes "p" ++ hex number) ≡ Register number
  pub bytes : (address count : ℕ) → IsWord address → IsWord count
      → request_in (codes "m" ++ pair address count) ≡ Bytes address count
  pub raw_bytes : (address count : ℕ) → IsWord address → IsWord count
      → request_in (codes "x" ++ pair address count) ≡ RawBytes address count
  pub insert : (point : Point) (address size : ℕ) → IsWord address → IsWord size
      → request_in (codes "Z" ++ (hex (point_number point) ++ 44 ∷ pair address size)) ≡ Insert point address size
  pub remove : (point : Point) (address size : ℕ) → IsWord address → IsWord size
      → request_in (codes "z" ++ (hex (point_number point) ++ 44 ∷ pair address size)) ≡ Remove point address size
