use Rattle.std.proofs.Common.{◌≡◌, ℕ, ◌*◌, ◌-◌, ◌<◌, ◌^◌}
use Rattle.cl_debug.specs.Spacing.{multiples}
use Rattle.cl_debug.proofs.spacing.spacing_for.Given as goal

-- the spacing is 1,024 times a power of two, and no lower power is enough
abbrev pub invariant-loop-spacing : goal.invariant-loop-spacing
invariant-loop-spacing l =
    (0 < l.spacing) × (power : ℕ) × (l.spacing ≡ 1024 * 2 ^ power)
    × ((other : ℕ) → other < power → 64 < multiples (1024 * 2 ^ other) l.len)

abbrev pub decreases-loop-spacing : goal.decreases-loop-spacing
decreases-loop-spacing l = 2 ^ 64 - l.spacing
