-- What is held of the steps so far, and what a step more makes of it.
use Rattle.std.specs.List.{slice_get, slice_set}
use Rattle.std.specs.Option.{is_some}
use Rattle.std.specs.Prelude.{ℕ, ◌+◌, ◌*◌, ◌-◌, ◌^◌, if◌then◌else◌, List, [], ◌∷◌, min, Option, Some, None, nat_lt, Bool, not, filter, map}
use Rattle.std.specs.Prelude.{length, ◌≡◌, ◌≤◌, ◌++◌}
use Rattle.mp_match.specs.PostPairs.{pairs}
use Rattle.rvmc_draw.specs.Board.{arrows_to, lines_with, partners_of, posts_made, spot_if, spots_made}
use Rattle.rvmc_draw.specs.Looks.{begun_at, lane_of, begun_by, ended_by}
use Rattle.rvmc_draw.specs.Marks.{Sign, shape_behind, is_marked, marks_by, shape_there, sign_of, told_by}
use Rattle.rvmc_draw.specs.Parts.{box_place, arrows_taken, cell_of, is_box_at, place_of, untaken_of}
use Rattle.rvmc_draw.specs.Walks.{IsTable, Scope, arrows_of, bars_of, begun_of, got_places, marks_of, last_shape_of}
use Rattle.rvmc_draw.specs.declared.deeds.Deed.{Deed}
use Rattle.rvmc_draw.specs.declared.drawing.Bar.{Bar}
use Rattle.rvmc_draw.specs.declared.drawing.Shape.{Shape}
use Rattle.rvmc_draw.specs.declared.drawing.Spot.{Spot}
use Rattle.rvmc_draw.specs.declared.parts.Cell.{Cell}
use Rattle.rvmc_draw.specs.declared.parts.Untaken.{Untaken}
use Rattle.rvmc_draw.specs.declared.views.View.{View}
use Rattle.rvmc_draw.specs.declared.walks.Sizes.{Sizes}
use Rattle.rvmc_draw.specs.declared.walks.Walk.{Walk}

abbrev pub begun_in : List (Option Bar) → ℕ → Option Bar
begun_in all lane = begun_at (slice_get all lane)

abbrev pub shapes_set : View → List (Option Shape) → ℕ → Option (Option Shape) → Deed → List (Option Shape)
shapes_set view shapes place None d = shapes
shapes_set view shapes place (Some last) d = slice_set shapes place (shape_behind view last d)

-- those of all harts behind a step
abbrev pub shapes_with : View → ℕ → List (Option Shape) → Deed → List (Option Shape)
shapes_with view harts shapes d =
    shapes_set view shapes (lane_of harts d.spot) (slice_get shapes (lane_of harts d.spot)) d

-- of so many before it: the first 5,000 are kept
abbrev pub kept_by : ℕ → List ℕ → List Sign → List (Sign × List ℕ)
kept_by count tip signs = if nat_lt count 5000 then map (λ (s : Sign). (s, tip)) signs else []

abbrev pub no_cell : Cell
no_cell = record { phase = 0; last = None }

-- the box, made ready once more
abbrev pub made_ready : Cell → Spot → Cell
made_ready cell spot = record { phase = min (cell.phase + 1) (2 ^ 64 - 1); last = Some spot }

-- with another thing in its place, if it is one of them
abbrev pub cell_set : List Cell → ℕ → Option Cell → Spot → List Cell
cell_set cells place None spot = cells
cell_set cells place (Some cell) spot = slice_set cells place (made_ready cell spot)

abbrev pub cells_if : List Cell → Option (ℕ × ℕ) → Spot → List Cell
cells_if cells None spot = cells
cells_if cells (Some box) spot = cell_set cells (box_place box) (slice_get cells (box_place box)) spot

-- all boxes behind a step
abbrev pub cells_with : List Cell → Deed → List Cell
cells_with cells d = cells_if cells d.ready d.spot

-- what is left of the partitions that no step took where one is taken
abbrev pub untaken_without : List Untaken → Option (ℕ × ℕ) → List Untaken
untaken_without untaken None = untaken
untaken_without untaken (Some box) =
    filter (λ (one : Untaken). not (is_box_at (place_of one) (Some box))) untaken

-- the partition of a box that is made ready once more, if there is such a box
abbrev pub made_once_more : ℕ × ℕ → Spot → Option Cell → List Untaken
made_once_more box spot None = []
made_once_more box spot (Some cell) =
    record { from = spot; link = box.0; part = box.1; phase = (made_ready cell spot).phase } ∷ []

abbrev pub made_by : List Cell → Option (ℕ × ℕ) → Spot → List Untaken
made_by cells None spot = []
made_by cells (Some box) spot = made_once_more box spot (slice_get cells (box_place box))

-- those that no step took, behind a step
abbrev pub untaken_with : List Cell → List Untaken → Deed → List Untaken
untaken_with cells untaken d = untaken_without untaken d.taken ++ made_by cells d.ready d.spot

abbrev pub scope_of : Sizes → View → Scope
scope_of sizes view =
    record { ranks = sizes.ranks; harts = sizes.harts; boxes = 16 * sizes.links; view = view }

pub record IsWalked (scope : Scope) (deeds : List Deed) (walk : Walk) : Type 0 where
  pub ranks : walk.board.ranks ≡ scope.ranks
  pub lines : walk.board.lines.items ≡ pairs (posts_made deeds)
  pub spots : walk.board.spots.items ≡ spots_made deeds
  pub got : walk.board.got.items ≡ got_places deeds
  pub cells : IsTable scope.boxes (cell_of deeds) walk.parts.cells.items
  pub untaken : walk.parts.untaken.items ≡ untaken_of scope.boxes deeds
  pub looks_harts : walk.looks.harts ≡ scope.harts
  pub begun : IsTable (scope.ranks * scope.harts) (begun_of scope.harts deeds) walk.looks.begun.items
  pub marks_harts : walk.marks.harts ≡ scope.harts
  pub view : walk.marks.view ≡ scope.view
  pub shapes : IsTable (scope.ranks * scope.harts) (last_shape_of scope.view scope.harts deeds) walk.marks.shapes.items
  pub arrows : walk.arrows.items ≡ arrows_of scope deeds
  pub bars : walk.bars.items ≡ bars_of scope deeds
  pub count : walk.marks.count ≡ length (marks_of scope deeds)
  pub few : walk.marks.count ≤ length deeds
  pub kept : walk.marks.count ≤ 5000 → map sign_of walk.marks.kept.items ≡ marks_of scope deeds

-- its mark, if it has one
abbrev pub signs_taken : Walk → Deed → List Sign
signs_taken walk d =
    marks_by walk.marks.view (is_some (begun_in walk.looks.begun.items (lane_of walk.looks.harts d.spot)))
    (slice_get walk.marks.shapes.items (lane_of walk.marks.harts d.spot)) d

-- that of it which is kept, with this tip
abbrev pub tips_taken : Walk → Deed → List ℕ → List (Sign × List ℕ)
tips_taken walk d tip = kept_by walk.marks.count tip (signs_taken walk d)

-- a step was taken: each part of the walk by its own rule
pub record Takes (old : Walk) (d : Deed) (tip : List ℕ) (new : Walk) : Type 0 where
  pub ranks : new.board.ranks ≡ old.board.ranks
  pub lines : new.board.lines.items ≡ lines_with old.board.lines.items d.made
  pub spots : new.board.spots.items ≡ old.board.spots.items ++ spot_if d.made d.spot
  pub got : new.board.got.items
      ≡ old.board.got.items ++ partners_of (lines_with old.board.lines.items d.made) d.got.items
  pub cells : new.parts.cells.items ≡ cells_with old.parts.cells.items d
  pub untaken : new.parts.untaken.items ≡ untaken_with old.parts.cells.items old.parts.untaken.items d
  pub arrows : new.arrows.items
      ≡ (old.arrows.items ++ arrows_to old.board.ranks old.board.lines.items old.board.spots.items d)
      ++ arrows_taken (slice_get old.parts.cells.items) d
  pub looks_harts : new.looks.harts ≡ old.looks.harts
  pub begun : new.looks.begun.items
      ≡ slice_set old.looks.begun.items (lane_of old.looks.harts d.spot)
      (begun_by (begun_in old.looks.begun.items (lane_of old.looks.harts d.spot)) d)
  pub bars : new.bars.items
      ≡ old.bars.items ++ ended_by (begun_in old.looks.begun.items (lane_of old.looks.harts d.spot)) d
  pub marks_harts : new.marks.harts ≡ old.marks.harts
  pub view : new.marks.view ≡ old.marks.view
  pub shapes : new.marks.shapes.items ≡ shapes_with old.marks.view old.marks.harts old.marks.shapes.items d
  pub count : new.marks.count ≡ old.marks.count + length (signs_taken old d)
  pub kept : map told_by new.marks.kept.items ≡ map told_by old.marks.kept.items ++ tips_taken old d tip

abbrev pub is_marked_in : Walk → Deed → Bool
is_marked_in walk d =
    is_marked walk.marks.view (is_some (begun_in walk.looks.begun.items (lane_of walk.looks.harts d.spot)))
    (shape_there (slice_get walk.marks.shapes.items (lane_of walk.marks.harts d.spot))) d
