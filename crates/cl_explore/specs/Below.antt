-- What crates above this one name of those below it.
pub use Rattle.cl_contest_laws.specs.Lists.{IsContestGraph, IsOneOf, StartsWell}
pub use Rattle.cl_contests.specs.Below.{Contest, IsGood, IsSettled}
pub use Rattle.cl_deadlock.specs.Why.{AreBelow, IsVerdictOf}
pub use Rattle.cl_names_laws.specs.Named.{hart_by, mode_by, rank_by}
pub use Rattle.cl_deeds.specs.Orders.{IsOrder, in_slot}
pub use Rattle.mp_alike_laws.specs.Renaming.{Renaming, no_renaming}
