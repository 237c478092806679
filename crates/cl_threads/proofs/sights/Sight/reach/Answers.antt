use Rattle.std.proofs.Common.{arith, subst, sym}
use Rattle.cl_threads.specs.Pacing.{IsSlowest}
use Rattle.cl_threads.proofs.Paced.{none_in_the_way, by_slowest}
use Rattle.cl_threads.proofs.sights.Sight.reach.Goals as goal

pub returns-in-None : goal.returns-in-None
returns-in-None c =
    λ number low. (
      λ _. none_in_the_way c.args.self.now.counts 8 c.args.lead number (sym c.args.self.now.whole)
          (subst (λ s. IsSlowest c.args.self.now.counts 8 s) c.in-None.is c.slowest.ensures.slowest),
      λ _. omega (arith, low),
    )

pub returns-in-Some : goal.returns-in-Some
returns-in-Some c =
    λ number low.
    let counts = c.args.self.now.counts in
    let by =
    by_slowest counts 8 c.args.lead number c.in-Some.slowest (sym c.args.self.now.whole)
    (subst (λ s. IsSlowest counts 8 s) c.in-Some.is c.slowest.ensures.slowest) in (
      λ reached. by.0 (omega (arith, reached, c.saturating_add.ensures)),
      λ may. let within = by.1 may in omega (arith, within, low, c.saturating_add.ensures),
    )
