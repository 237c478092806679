-- The gate rule of one rank alone, at each box that it makes things in.
use Rattle.std.specs.Prelude.{ℕ, ◌<◌, List, [], ◌∷◌, ◌≡◌, ◌≢◌, slice_get, Some, ⊤}
use Rattle.std.specs.List.{AllByRecursion}
use Rattle.rv_image_types.specs.declared.images.ImageParts.{ImageParts}
use Rattle.rv_image_types.specs.declared.images.Link.{Link}
use Rattle.cl_state.specs.declared.asking.Ask.{Ask}
use Rattle.cl_state.specs.declared.asking.Ask.TheVariants as ask
use Rattle.cl_state.specs.Asked.{asked}
use Rattle.cl_state.specs.Rank.{Rank, loaded}
use Rattle.cl_deeds.specs.Deeds.{Act, Deed}
use Rattle.cl_deeds.specs.Alone.{IsAlone}
use Rattle.cl_machine.specs.Boxes.{box_number}
use Rattle.cl_machine.specs.Joined.{OnItsSide}
use Rattle.cl_machine.specs.Parts.{own}
use Rattle.cl_machine.specs.Product.{box_at}

-- the gate of a box, as the rank knows it that makes things there
pub data Gate : Type 0 where
  Unused : Gate  -- nothing was made there yet
  Shut : Gate  -- what was made last wasn't seen taken
  Free : Gate  -- it was

abbrev pub gate_after : Gate → Act → Gate
gate_after gate (Act.Ready link part bytes) = Gate.Shut
gate_after gate (Act.Freed link part stamp) = Gate.Free
gate_after gate _ = gate

-- ---- what a rank did

-- a thing is made only where the gate isn't shut, and one is seen taken only once one was made
abbrev pub MayAct : Gate → Act → Type 0
MayAct gate (Act.Ready link part bytes) = gate ≢ Gate.Shut
MayAct gate (Act.Freed link part stamp) = gate ≢ Gate.Unused
MayAct gate _ = ⊤

-- the deeds at one box, in their order
abbrev pub KeepsGate : Gate → List Deed → Type 0
KeepsGate gate [] = ⊤
KeepsGate gate (d ∷ ds) = MayAct gate d.act × KeepsGate (gate_after gate d.act) ds

-- whatever it meets outside, each rank touches boxes on its own side only, and keeps the gate rule at each box
abbrev pub RanksKeepGates : ImageParts → Type 0
RanksKeepGates image =
    (r : ℕ) (ds : List Deed) (new : Rank) → IsAlone (loaded image r) ds new
    → AllByRecursion (λ (d : Deed). OnItsSide image.links r d.act) ds
    × ((b : ℕ) → KeepsGate Gate.Unused (own box_at b ds))

abbrev pub GatesKeptLaw : Type 0
GatesKeptLaw = (image : ImageParts) → RanksKeepGates image

-- ---- and what it asks next, whether or not the answer is a miss

abbrev pub gate_along : Gate → List Deed → Gate
gate_along gate [] = gate
gate_along gate (d ∷ ds) = gate_along (gate_after gate d.act) ds

-- the gate of a box after all these deeds
abbrev pub gate_of : List Deed → ℕ → ℕ → Gate
gate_of ds link part = gate_along Gate.Unused (own box_at (box_number link part) ds)

abbrev pub SendsOn : List Link → ℕ → ℕ → Type 0
SendsOn links rank link = (l : Link) × (slice_get links link ≡ Some l) × (l.from ≡ rank)

abbrev pub ReceivesOn : List Link → ℕ → ℕ → Type 0
ReceivesOn links rank link = (l : Link) × (slice_get links link ≡ Some l) × (l.to ≡ rank)

-- the sender makes a thing where the gate isn't shut, and asks whether one was taken once one was made; only the
-- receiver looks for one
abbrev pub MayAsk : List Link → ℕ → List Deed → Ask → Type 0
MayAsk links rank ds (ask.Ready link part bytes) =
    SendsOn links rank link × (part < 16) × (gate_of ds link part ≢ Gate.Shut)
MayAsk links rank ds (ask.Freed link part) =
    SendsOn links rank link × (part < 16) × (gate_of ds link part ≢ Gate.Unused)
MayAsk links rank ds (ask.Look link part) = ReceivesOn links rank link × (part < 16)
MayAsk links rank ds _ = ⊤

abbrev pub QuestionsLaw : Type 0
QuestionsLaw =
    (image : ImageParts) (r : ℕ) (ds : List Deed) (new : Rank) (hart : ℕ) → IsAlone (loaded image r) ds new
    → MayAsk image.links r ds (asked new hart)
