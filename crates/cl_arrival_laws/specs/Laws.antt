-- Laws of partitions over whole runs: what is taken from a box, and in which phase (MPI 4.1, chapter 4.2).
use Rattle.std.specs.Prelude.{ℕ, ◌+◌, ◌<◌, List, [], ◌∷◌, ◌++◌, ◌≡◌, length, map, slice_get, Some}
use Rattle.std.specs.List.{filter_map}
use Rattle.rv_image_types.specs.declared.images.ImageParts.{ImageParts}
use Rattle.rv_image_types.specs.declared.images.Link.{Link}
use Rattle.rv_image_types.specs.Image.{IsImage}
use Rattle.part_phase.specs.Phases.{receiving_at}
use Rattle.part_phase.specs.declared.receiving.RecvPhase.{RecvPhase}
use Rattle.cl_state.specs.Rank.{Rank, loaded}
use Rattle.cl_deeds.specs.Deeds.{Act, Deed, RankMoves}
use Rattle.cl_deeds.specs.Alone.{IsAlone}
use Rattle.cl_machine.specs.Boxes.{Thing, box_number}
use Rattle.cl_machine.specs.declared.steps.Step.{Step}
use Rattle.cl_machine.specs.Cluster.{Cluster, IsRun, loaded_cluster}
use Rattle.cl_machine.specs.Joined.{got_of, made_of, thing_of}
use Rattle.cl_machine.specs.Parts.{own}
use Rattle.cl_machine.specs.Product.{box_at}
use Rattle.cl_arrival_laws.specs.Arrival.{AreDeedsOf, ArrivesInPhase, IsInPhase, LiesIn, PlacesBox, ReportsArrived}
use Rattle.cl_arrival_laws.specs.Arrival.{is_receiving, is_sending, phases_begun}

-- ---- boxes

-- what these deeds made ready in a box, in their order: each with the stamp of its Ready
abbrev pub made_at : ℕ → List Deed → List Thing
made_at box ds = filter_map made_of (own box_at box ds)

-- and what they took from it: each with the stamp of the Ready that its Take found
abbrev pub taken_at : ℕ → List Deed → List Thing
taken_at box ds = map thing_of (filter_map got_of (own box_at box ds))

-- the list begins with these
abbrev pub BeginsWith : {X : Type 0} → List X → List X → Type 0
BeginsWith {X} whole xs = (rest : List X) × (whole ≡ xs ++ rest)

-- at each box of each link, what the sender made ready begins with what the receiver took
abbrev pub TakesWhatWasMade : List Link → (ℕ → List Deed) → Type 0
TakesWhatWasMade links deeds =
    (link part : ℕ) (l : Link) → slice_get links link ≡ Some l → part < 16
    → BeginsWith (made_at (box_number link part) (deeds l.from)) (taken_at (box_number link part) (deeds l.to))

-- in every run, what was taken from a box is a beginning of what was made ready there, stamps included
abbrev pub PrefixLaw : Type 0
PrefixLaw =
    (image : ImageParts) (steps : List Step) (final : Cluster) → IsImage image
    → IsRun (loaded_cluster image) steps final
    → (deeds : ℕ → List Deed) × AreDeedsOf image steps final deeds × TakesWhatWasMade image.links deeds

-- ---- phases

-- the k-th thing that a receiver takes from a box, from 0, it takes in its phase k
abbrev pub TakeLaw : Type 0
TakeLaw =
    (image : ImageParts) (r : ℕ) (ds : List Deed) (old new : Rank) (d : Deed) (link box gate : ℕ) (bytes : List ℕ)
    → IsAlone (loaded image r) ds old → RankMoves old d new → d.act ≡ Act.Take link box gate bytes
    → IsInPhase (is_receiving link) (length (taken_at (box_number link box) ds)) (loaded image r) ds old

-- and the k-th thing that a sender makes ready in a box, from 0, it makes in its phase k
abbrev pub ReadyLaw : Type 0
ReadyLaw =
    (image : ImageParts) (r : ℕ) (ds : List Deed) (old new : Rank) (d : Deed) (link part : ℕ) (bytes : List ℕ)
    → IsAlone (loaded image r) ds old → RankMoves old d new → d.act ≡ Act.Ready link part bytes
    → IsInPhase (is_sending link) (length (made_at (box_number link part) ds)) (loaded image r) ds old

-- ---- arrived

-- each byte of a partition lies in a box of the sender's cut that these deeds took so often
abbrev pub IsTakenTimes : ℕ → RecvPhase → ℕ → ℕ → List Deed → Type 0
IsTakenTimes times p link part ds =
    (byte : ℕ) → LiesIn part p.size byte
    → (box : ℕ) × LiesIn box p.bytes byte × (box < p.boxes) × (length (taken_at (box_number link box) ds) ≡ times)

-- before a partition is reported arrived in the phase k of a receiver, from 0, each of its bytes lies in a box that was
-- taken k + 1 times: in that phase too
abbrev pub ArrivedLaw : Type 0
ArrivedLaw =
    (image : ImageParts) (r : ℕ) (ds : List Deed) (old new : Rank) (d : Deed) (link part k : ℕ)
    → IsAlone (loaded image r) ds old → RankMoves old d new → ReportsArrived old d link part
    → phases_begun (is_receiving link) (loaded image r) (ds ++ d ∷ []) ≡ k + 1
    → IsTakenTimes (k + 1) (receiving_at new.phases link) link part (ds ++ d ∷ [])

-- each Take writes the bytes that it took to their place
abbrev pub WriteLaw : Type 0
WriteLaw =
    (old new : Rank) (d : Deed) (link box gate : ℕ) (bytes : List ℕ)
    → RankMoves old d new → d.act ≡ Act.Take link box gate bytes → PlacesBox old new link box bytes

-- so it is in every run
abbrev pub ArrivalLaw : Type 0
ArrivalLaw =
    (image : ImageParts) (steps : List Step) (final : Cluster) → IsImage image
    → IsRun (loaded_cluster image) steps final → ArrivesInPhase image steps final
