-- Marks: which steps have one, and what is said of it here. What stands beside a mark, and how many steps it stands for,
-- is not.
use Rattle.std.specs.Prelude.{ℕ, ◌&&◌, not, nat_lt, if◌then◌else◌, Bool, true, false, List, [], ◌∷◌, map, Option, Some, None}
use Rattle.std.specs.List.{slice_get, slice_set}
use Rattle.std.specs.Option.{is_some}
use Rattle.rvmc_draw.specs.Board.{wildcard_in}
use Rattle.rvmc_draw.specs.Looks.{lane_of}
use Rattle.rvmc_draw.specs.Views.{is_in_view}
use Rattle.rvmc_draw.specs.declared.deeds.Deed.{Deed}
use Rattle.rvmc_draw.specs.declared.drawing.Mark.{Mark}
use Rattle.rvmc_draw.specs.declared.drawing.Shape.{Shape}
use Rattle.rvmc_draw.specs.declared.drawing.Spot.{Spot}
use Rattle.rvmc_draw.specs.declared.views.View.{View}

-- a mark's step, its shape, and whether it has the ring of a receive or a claim of any source
pub record Sign : Type 0 where
  pub spot : Spot
  pub shape : Shape
  pub wild : Bool

abbrev pub sign_of : Mark → Sign
sign_of mark = record { spot = mark.spot; shape = mark.shape; wild = mark.wild }

-- with what is told of it
abbrev pub told_by : Mark → Sign × List ℕ
told_by mark = (sign_of mark, mark.tip.items)

abbrev pub sign_by : Deed → Shape → Sign
sign_by d shape = record { spot = d.spot; shape = shape; wild = is_some (wildcard_in d.made) }

-- ---- rows

-- output that follows output of the hart, and partitions found to be taken that follow such, go on with a row
abbrev pub is_row : Option Shape → Option Shape → Bool
is_row (Some Shape.Put) (Some Shape.Put) = true
is_row (Some Shape.Freed) (Some Shape.Freed) = true
is_row shape last = false

-- the last shape of a hart behind a step of its own: that of the step, if it is shown and has one
abbrev pub shape_behind : View → Option Shape → Deed → Option Shape
shape_behind view last d = if is_in_view view d.spot && is_some d.shape then d.shape else last

abbrev pub shape_there : Option (Option Shape) → Option Shape
shape_there None = None
shape_there (Some shape) = shape

-- ---- which steps have a mark

-- a step that is shown and has a shape; but one look in vain more of a hart that looked in vain before has none, and no
-- step that goes on with a row
abbrev pub is_marked : View → Bool → Option Shape → Deed → Bool
is_marked view begun last d =
    is_in_view view d.spot && is_some d.shape && not (d.vain && begun) && not (is_row d.shape last)

abbrev pub sign_if : Deed → Option Shape → List Sign
sign_if d None = []
sign_if d (Some shape) = sign_by d shape ∷ []

abbrev pub marks_by : View → Bool → Option (Option Shape) → Deed → List Sign
marks_by view begun last d = if is_marked view begun (shape_there last) d then sign_if d d.shape else []
