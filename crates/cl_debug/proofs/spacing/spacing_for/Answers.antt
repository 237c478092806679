use Rattle.std.proofs.Common.{◌≡◌, ℕ, ◌+◌, ◌*◌, ◌<◌, ◌^◌, arith, subst, pow-add}
use borrow.Author.Count.{below_more}
use Rattle.cl_debug.specs.Spacing.{multiples}
use Rattle.cl_debug.proofs.spacing.spacing_for.Goals as goal

-- twice the spacing is the next power's
doubled : (spacing power : ℕ) → spacing ≡ 1024 * 2 ^ power → spacing * 2 ≡ 1024 * 2 ^ (power + 1)
doubled spacing power is = omega (arith, is, pow-add 2 power 1)

pub loop-spacing-preserved : goal.loop-spacing-preserved
loop-spacing-preserved c =
    let inv = c.loop-spacing.invariant in
    let large : 64 < multiples c.loop-spacing.spacing c.args.len = omega (arith, c.loop-spacing-test.true) in (
      omega (arith, inv.0),
      inv.1 + 1,
      doubled c.loop-spacing.spacing inv.1 inv.2,
      below_more (λ other. 64 < multiples (1024 * 2 ^ other) c.args.len) inv.1 inv.3
          (subst (λ s. 64 < multiples s c.args.len) inv.2 large),
    )
