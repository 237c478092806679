-- What crates above this one name of those below it.
pub use Rattle.cl_replay.specs.InnerReplaying.{BreaksAt}
pub use Rattle.rvmc_sights.specs.Below.{Does, Fault, IsSpot, IsTextOfWords, IsUnknown, IsWhy, Refuses, StopsAt}
pub use Rattle.rvmc_sights.specs.Below.{TakesAtMost, TellsBytes, WantsMemory, company_text, fault_of_debug}
pub use Rattle.rvmc_sights.specs.Below.{fault_of_record, hart_waits_text, listing, newline, padded_hex}
pub use Rattle.rvmc_sights.specs.Below.faults
pub use Rattle.rvmc_sights.specs.Pieces.{IsMoved}
