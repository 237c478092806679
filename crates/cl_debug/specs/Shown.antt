-- What a debugger shows of the cluster at its place.
use Rattle.std.specs.Prelude.{ℕ, ◌≡◌, ◌≢◌, List, slice_get, Some}
use Rattle.rv_hart.specs.State.{State}
use Rattle.rv_image_types.specs.declared.images.ImageParts.{ImageParts}
use Rattle.rv_image_types.specs.declared.images.Symbol.{Symbol}
use Rattle.rv_memory.specs.Access.{IsReadable}
use Rattle.rv_memory.specs.Memory.{bytes_at}
use Rattle.cl_state.specs.Rank.{Rank}
use Rattle.cl_machine.specs.Cluster.{Cluster}
use Rattle.cl_debug.specs.Debugging.{Debugging}
use Rattle.cl_debug.specs.Places.{IsAt, IsHartOf}

-- the hart of these numbers, as it is at the place
abbrev pub ShowsHart : Debugging → ℕ → ℕ → State → Type 0
ShowsHart debugging rank hart state =
    (cluster : Cluster) → IsAt debugging.image debugging.steps debugging.place cluster
    → IsHartOf cluster rank hart state

-- the rank of this number, as it is at the place
abbrev pub ShowsRank : Debugging → ℕ → Rank → Type 0
ShowsRank debugging rank owner =
    (cluster : Cluster) → IsAt debugging.image debugging.steps debugging.place cluster
    → slice_get cluster.ranks rank ≡ Some owner

-- the bytes of a rank's memory from an address on, as they are at the place
abbrev pub ShowsBytes : Debugging → ℕ → ℕ → ℕ → List ℕ → Type 0
ShowsBytes debugging rank address count bytes =
    (cluster : Cluster) → IsAt debugging.image debugging.steps debugging.place cluster
    → (owner : Rank) × (slice_get cluster.ranks rank ≡ Some owner) × (bytes ≡ bytes_at owner.memory address count)

-- some of these bytes are outside the rank's memory
abbrev pub IsOutside : Debugging → ℕ → ℕ → ℕ → Type 0
IsOutside debugging rank address count =
    (cluster : Cluster) (owner : Rank) → IsAt debugging.image debugging.steps debugging.place cluster
    → slice_get cluster.ranks rank ≡ Some owner → ¬ (IsReadable owner.memory address count)

-- the image has a symbol of this name at this address
pub record IsSymbolOf (image : ImageParts) (name : List ℕ) (address : ℕ) : Type 0 where
  pub symbol : Symbol
  pub number : ℕ
  pub listed : slice_get image.symbols number ≡ Some symbol
  pub named : symbol.name ≡ name
  pub there : symbol.address ≡ address

-- no symbol of the image has this name
abbrev pub HasNoSymbol : ImageParts → List ℕ → Type 0
HasNoSymbol image name = (number : ℕ) (symbol : Symbol) → slice_get image.symbols number ≡ Some symbol
    → symbol.name ≢ name
