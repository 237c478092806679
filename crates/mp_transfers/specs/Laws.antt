-- Which link a pair has, for all links and all sides (MPI 4.1, chapter 4.2).
use Rattle.std.specs.Prelude.{◌≡◌, ℕ, ◌<◌, List, slice_get, Some, None}
use Rattle.rv_image_types.specs.declared.images.Link.{Link}
use Rattle.mp_transfers.specs.declared.sides.Setup.{Setup}
use Rattle.mp_transfers.specs.declared.sides.Side.{Side}
use Rattle.mp_transfers.specs.Inits.{lowest_link}

-- the link goes from the transfer's sender to its receiver
abbrev pub Joins : Setup → Link → Type 0
Joins s l = (l.from ≡ s.from) × (l.to ≡ s.to)

-- some side has the link
abbrev pub IsTaken : List Side → ℕ → Type 0
IsTaken sides link = (i : ℕ) × (t : Side) × (slice_get sides i ≡ Some t) × (t.link ≡ link)

-- a transfer is given a link that goes its way and that no side has; all such links below it are taken, and where it is
-- given none, all of them
pub record LinkLaw : Type 0 where
  pub joins : (links : List Link) (sides : List Side) (s : Setup) (n : ℕ) → lowest_link links sides s ≡ Some n
      → (l : Link) × (slice_get links n ≡ Some l) × Joins s l
  pub free : (links : List Link) (sides : List Side) (s : Setup) (n : ℕ) → lowest_link links sides s ≡ Some n
      → ¬ IsTaken sides n
  pub lowest : (links : List Link) (sides : List Side) (s : Setup) (n : ℕ) → lowest_link links sides s ≡ Some n
      → (lower : ℕ) (l : Link) → lower < n → slice_get links lower ≡ Some l → Joins s l → IsTaken sides lower
  pub none : (links : List Link) (sides : List Side) (s : Setup) → lowest_link links sides s ≡ None
      → (k : ℕ) (l : Link) → slice_get links k ≡ Some l → Joins s l → IsTaken sides k
