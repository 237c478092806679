-- All that a picture shows of a list of steps.
use Rattle.std.specs.Prelude.{ℕ, ◌≡◌, ◌≤◌, ◌+◌, ◌*◌, ◌==◌, nat_lt, if◌then◌else◌, Bool, List, [], ◌∷◌, ◌++◌, filter, length, map}
use Rattle.std.specs.Prelude.{Option, Some, None}
use Rattle.std.specs.List.{slice_get, slice_set}
use Rattle.std.specs.Option.{is_some}
use Rattle.mp_match.specs.PostPairs.{pairs}
use Rattle.rvmc_draw.specs.Board.{arrows_to, lines_with, partners_of, posts_made, spot_if, spots_made}
use Rattle.rvmc_draw.specs.Looks.{begun_at, begun_by, ended_by, lane_of}
use Rattle.rvmc_draw.specs.Marks.{Sign, is_marked, marks_by, shape_behind, shape_there, sign_of, told_by}
use Rattle.rvmc_draw.specs.Parts.{arrows_taken, cell_of}
use Rattle.rvmc_draw.specs.declared.deeds.Deed.{Deed}
use Rattle.rvmc_draw.specs.declared.drawing.Arrow.{Arrow}
use Rattle.rvmc_draw.specs.declared.drawing.Bar.{Bar}
use Rattle.rvmc_draw.specs.declared.drawing.Shape.{Shape}
use Rattle.rvmc_draw.specs.declared.drawing.Spot.{Spot}
use Rattle.rvmc_draw.specs.declared.views.View.{View}
use Rattle.rvmc_draw.specs.declared.walks.Sizes.{Sizes}
use Rattle.rvmc_draw.specs.declared.walks.Walk.{Walk}

-- the cluster's ranks, harts a rank and boxes, and the steps that are shown
pub record Scope : Type 0 where
  pub ranks : ℕ
  pub harts : ℕ
  pub boxes : ℕ
  pub view : View

-- what each step adds, after the steps before it; all of it in order
abbrev pub each_after : {A : Type 0} → (List Deed → Deed → List A) → List Deed → List Deed → List A
each_after adds before [] = []
each_after adds before (d ∷ deeds) = adds before d ++ each_after adds (before ++ d ∷ []) deeds

-- what stands at a place, where there are so many
abbrev pub within : {A : Type 0} → ℕ → (ℕ → A) → ℕ → Option A
within count at place = if nat_lt place count then Some (at place) else None

-- ---- a hart

-- its steps among these
abbrev pub of_lane : ℕ → ℕ → List Deed → List Deed
of_lane harts lane deeds = filter (λ (d : Deed). lane_of harts d.spot == lane) deeds

-- its bar behind some steps of its own
abbrev pub begun_after : Option Bar → List Deed → Option Bar
begun_after begun [] = begun
begun_after begun (d ∷ deeds) = begun_after (begun_by begun d) deeds

abbrev pub begun_of : ℕ → List Deed → ℕ → Option Bar
begun_of harts deeds lane = begun_after None (of_lane harts lane deeds)

abbrev pub begun_before : Scope → List Deed → Spot → Option Bar
begun_before scope before spot =
    begun_at (within (scope.ranks * scope.harts) (begun_of scope.harts before) (lane_of scope.harts spot))

-- its last shape behind some steps of its own
abbrev pub shape_after : View → Option Shape → List Deed → Option Shape
shape_after view last [] = last
shape_after view last (d ∷ deeds) = shape_after view (shape_behind view last d) deeds

abbrev pub last_shape_of : View → ℕ → List Deed → ℕ → Option Shape
last_shape_of view harts deeds lane = shape_after view None (of_lane harts lane deeds)

abbrev pub shape_before : Scope → List Deed → Spot → Option (Option Shape)
shape_before scope before spot =
    within (scope.ranks * scope.harts) (last_shape_of scope.view scope.harts before) (lane_of scope.harts spot)

-- ---- all of them

-- the arrows to a step: of messages and claims, of what could have been taken, and of a partition
abbrev pub arrows_by : Scope → List Deed → Deed → List Arrow
arrows_by scope before d =
    arrows_to scope.ranks (pairs (posts_made before)) (spots_made before) d
    ++ arrows_taken (within scope.boxes (cell_of before)) d

abbrev pub arrows_of : Scope → List Deed → List Arrow
arrows_of scope deeds = each_after (arrows_by scope) [] deeds

-- the bar that a step ends
abbrev pub bars_by : Scope → List Deed → Deed → List Bar
bars_by scope before d = ended_by (begun_before scope before d.spot) d

abbrev pub bars_of : Scope → List Deed → List Bar
bars_of scope deeds = each_after (bars_by scope) [] deeds

-- the mark of a step
abbrev pub mark_by : Scope → List Deed → Deed → List Sign
mark_by scope before d =
    marks_by scope.view (is_some (begun_before scope before d.spot)) (shape_before scope before d.spot) d

abbrev pub marks_of : Scope → List Deed → List Sign
marks_of scope deeds = each_after (mark_by scope) [] deeds

-- the places of the sends whose messages a step got
abbrev pub got_after : List Deed → Deed → List ℕ
got_after before d = partners_of (pairs (posts_made (before ++ d ∷ []))) d.got.items

abbrev pub got_places : List Deed → List ℕ
got_places deeds = each_after got_after [] deeds

-- ---- what the walk knows

-- what stands at each place of a table
abbrev pub IsTable : {A : Type 0} → ℕ → (ℕ → A) → List A → Type 0
IsTable count at xs = (place : ℕ) → slice_get xs place ≡ within count at place
