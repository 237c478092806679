-- What of a picture is shown.
use Rattle.std.specs.Prelude.{◌&&◌, ◌||◌, nat_le, nat_lt, if◌then◌else◌, Bool, false, List, [], ◌∷◌, Option, Some, None}
use Rattle.rvmc_draw.specs.declared.drawing.Arrow.{Arrow}
use Rattle.rvmc_draw.specs.declared.drawing.Bar.{Bar}
use Rattle.rvmc_draw.specs.declared.drawing.Carried.{Carried}
use Rattle.rvmc_draw.specs.declared.drawing.Carried.TheVariants.{Could}
use Rattle.rvmc_draw.specs.declared.drawing.Spot.{Spot}
use Rattle.rvmc_draw.specs.declared.views.View.{View}

-- a step from the one place to before the other
abbrev pub is_in_view : View → Spot → Bool
is_in_view view spot = nat_le view.from spot.place && nat_lt spot.place view.to

abbrev pub has_end : View → Option Spot → Bool
has_end view None = false
has_end view (Some to) = is_in_view view to

abbrev pub is_carried_seen : View → Spot → Option Spot → Carried → Bool
is_carried_seen view from to (Could tag count) = has_end view to
is_carried_seen view from to other = is_in_view view from || has_end view to

-- an arrow one of whose steps is shown; of those to a receive that could have taken a message, where that is shown
abbrev pub is_arrow_seen : View → Arrow → Bool
is_arrow_seen view arrow = is_carried_seen view arrow.from arrow.to arrow.carried

-- a bar that has a place in common with the view
abbrev pub is_bar_seen : View → Bar → Bool
is_bar_seen view bar = nat_lt bar.first.place view.to && nat_le view.from bar.last

unfoldable pub arrow_in_view : View → Arrow → List Arrow
arrow_in_view view arrow = if is_arrow_seen view arrow then arrow ∷ [] else []

unfoldable pub bar_in_view : View → Bar → List Bar
bar_in_view view bar = if is_bar_seen view bar then bar ∷ [] else []
