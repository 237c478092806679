-- What crates above this one name of those below it.
pub use Rattle.rvmc_inspect.specs.Below.{Fault, IsDeadlockVerdict, TakesAtMost, fault_of_debug, fault_of_record}
pub use Rattle.rvmc_inspect.specs.Below.{listing, newline}
pub use Rattle.rvmc_inspect.specs.Below.faults
pub use Rattle.rvmc_inspect.specs.Texts.{hart_waits_text}
pub use Rattle.rvmc_inspect.specs.Waits.{waits}
pub use Rattle.rvmc_inspect.specs.Why.{IsWhy, company_text}
pub use Rattle.rvmc_inspect.specs.WordTexts.{padded_hex}
pub use Rattle.rvmc_inspect.specs.Words.{Does, IsSpot, IsTextOfWords, IsUnknown, Refuses, StopsAt, TellsBytes}
pub use Rattle.rvmc_inspect.specs.Words.{WantsMemory}
pub use Rattle.rvmc_inspect.specs.declared.awaited.Wait.TheVariants as wait
pub use Rattle.rvmc_inspect.specs.declared.awaited.Wait.{Wait}
