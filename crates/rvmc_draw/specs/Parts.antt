-- Partitions: the steps that made one ready, the arrow from the last of them to the step that took it, and those that no
-- step took.
use Rattle.std.specs.Prelude.{ℕ, ◌+◌, ◌*◌, ◌-◌, ◌^◌, ◌==◌, nat_lt, not, if◌then◌else◌, Bool, false, List, [], ◌∷◌, ◌++◌}
use Rattle.std.specs.Prelude.{filter, length, min, Option, Some, None}
use Rattle.std.specs.List.{flat_map, last_or, list_any, slice_get, slice_set}
use Rattle.rvmc_draw.specs.declared.deeds.Deed.{Deed}
use Rattle.rvmc_draw.specs.declared.drawing.Arrow.{Arrow}
use Rattle.rvmc_draw.specs.declared.drawing.Carried.TheVariants.{Partition}
use Rattle.rvmc_draw.specs.declared.drawing.Spot.{Spot}
use Rattle.rvmc_draw.specs.declared.parts.Cell.{Cell}
use Rattle.rvmc_draw.specs.declared.parts.Untaken.{Untaken}

-- the place of a link's partition among all boxes: each link has 16
abbrev pub box_place : ℕ × ℕ → ℕ
box_place box = 16 * box.0 + box.1

-- ---- the steps that made a box ready

abbrev pub spot_at : ℕ → Option (ℕ × ℕ) → Spot → List Spot
spot_at place None spot = []
spot_at place (Some box) spot = if (box_place box == place) then spot ∷ [] else []

-- in order
abbrev pub readies : ℕ → List Deed → List Spot
readies place deeds = flat_map (λ (d : Deed). spot_at place d.ready d.spot) deeds

-- the box behind these steps: they began so many phases of it, and this one was the last
abbrev pub cell_of : List Deed → ℕ → Cell
cell_of deeds place = record {
  phase = min (length (readies place deeds)) (2 ^ 64 - 1);
  last = last_or None (readies place deeds);
}

-- ---- one step

-- from the step that made the box ready last to this one, in the phase that it began
abbrev pub arrow_from : ℕ × ℕ → Spot → Cell → List Arrow
arrow_from box to cell = elim cell.last [
  | None ↦ []
  | Some from ↦
      record { from = from; to = Some to; dest = to.rank; carried = Partition box.0 box.1 cell.phase } ∷ []
]

abbrev pub arrow_if_there : ℕ × ℕ → Spot → Option Cell → List Arrow
arrow_if_there box to None = []
arrow_if_there box to (Some cell) = arrow_from box to cell

abbrev pub arrow_to_taker : (ℕ → Option Cell) → Option (ℕ × ℕ) → Spot → List Arrow
arrow_to_taker cell_at None to = []
arrow_to_taker cell_at (Some box) to = arrow_if_there box to (cell_at (box_place box))

-- the arrow to a step that took a partition, where the boxes before it are these
abbrev pub arrows_taken : (ℕ → Option Cell) → Deed → List Arrow
arrows_taken cell_at d = arrow_to_taker cell_at d.taken d.spot

-- ---- what no step took

-- this is the partition of this box
abbrev pub is_box_at : ℕ → Option (ℕ × ℕ) → Bool
is_box_at place None = false
is_box_at place (Some box) = box_place box == place

abbrev pub place_of : Untaken → ℕ
place_of one = box_place (one.link, one.part)

-- none of these steps took it
abbrev pub is_untaken : List Deed → Untaken → Bool
is_untaken deeds one = not (list_any (λ (d : Deed). is_box_at (place_of one) d.taken) deeds)

-- the partition that a step makes ready, in the phase that it begins behind these others; there are so many boxes
abbrev pub untaken_made : ℕ → List Deed → Option (ℕ × ℕ) → Spot → List Untaken
untaken_made boxes before None spot = []
untaken_made boxes before (Some box) spot =
    if nat_lt (box_place box) boxes
    then
    record {
      from = spot;
      link = box.0;
      part = box.1;
      phase = min (length (readies (box_place box) before) + 1) (2 ^ 64 - 1);
    }
    ∷ []
    else []

-- of the partitions that these steps made ready, behind those others, the ones that no later step took
abbrev pub untaken_after : ℕ → List Deed → List Deed → List Untaken
untaken_after boxes before [] = []
untaken_after boxes before (d ∷ deeds) =
    filter (is_untaken deeds) (untaken_made boxes before d.ready d.spot) ++ untaken_after boxes (before ++ d ∷ []) deeds

abbrev pub untaken_of : ℕ → List Deed → List Untaken
untaken_of boxes deeds = untaken_after boxes [] deeds
