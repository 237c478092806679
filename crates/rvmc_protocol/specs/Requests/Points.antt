-- Breakpoints and watchpoints.
use Rattle.std.specs.Prelude.{ℕ, List, Option, Some, None, ◌==◌, if◌then◌else◌, option_and_then, option_map}
use Rattle.rvmc_protocol.specs.Requests.Pieces.{cut, number_in, numbers_in}
use Rattle.rvmc_protocol.specs.declared.requests.points.Point.{Point}
use Rattle.rvmc_protocol.specs.declared.requests.points.Point.TheVariants.{Before, HardwareBefore, Written, Read, Touched}

-- the point of a number
abbrev pub point_of : ℕ → Option Point
point_of number =
    if number == 0 then Some Before
    else if number == 1 then Some HardwareBefore
    else if number == 2 then Some Written
    else if number == 3 then Some Read
    else if number == 4 then Some Touched
    else None

-- a point, an address and a size, with commas between them
unfoldable pub spot_in : List ℕ → Option (Point × ℕ × ℕ)
spot_in text =
    option_and_then (λ sides. option_and_then (λ number. option_and_then (λ point.
    option_map (λ numbers. (point, numbers.0, numbers.1)) (numbers_in sides.1)) (point_of number))
    (number_in sides.0)) (cut 44 text)
