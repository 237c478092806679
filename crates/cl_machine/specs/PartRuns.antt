-- What parts that stand beside one another go through, each alone.
use Rattle.std.specs.Prelude.{ℕ, List, ◌≡◌, slice_get, slice_set, Option, None, Some}
use Rattle.cl_machine.specs.Parts.{own, PartRunAt}

-- one event moves part number k of the list, or none
abbrev pub PartsMoveAt : {S D : Type 0} → (S → D → S → Type 0) → Option ℕ → List S → D → List S → Type 0
PartsMoveAt Move None old d new = new ≡ old
PartsMoveAt {S} Move (Some k) old d new =
    (s : S) × (t : S) × (slice_get old k ≡ Some s) × Move s d t × (new ≡ slice_set old k t)

abbrev pub PartsMove : {S D : Type 0} → (S → D → S → Type 0) → (D → Option ℕ) → List S → D → List S → Type 0
PartsMove Move at old d new = PartsMoveAt Move (at d) old d new

-- each part alone goes through its own events
abbrev pub EachPartRuns : {S D : Type 0} → (S → D → S → Type 0) → (D → Option ℕ) → List S → List D → List S → Type 0
EachPartRuns Move at old ds new = (i : ℕ) → PartRunAt Move (slice_get old i) (own at i ds) (slice_get new i)
