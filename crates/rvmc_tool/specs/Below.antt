-- What crates above this one name of those below it.
pub use Rattle.rvmc_runs.specs.Runs.{IsLeftByThreads, IsOne, IsOneUntilStuck, IsRecordOf, IsRunAnswer, IsRunBy}
pub use Rattle.rvmc_runs.specs.Runs.{IsTextOf, IsThreadsUntilStuck, IsTold, IsToldOfThreads}
pub use Rattle.rvmc_serve.specs.Below.{Connection, Converses, Ended, HeardLaw, Hears, Serves, Serving, Talk, connected}
pub use Rattle.rvmc_serve.specs.Below.{flow_of, most, talk_begun}
pub use Rattle.rvmc_serve.specs.Below.flows
pub use Rattle.rvmc_serve.specs.Laws.{AnswersLaw}
pub use Rattle.rvmc_serve.specs.Sessions.{IsSession}
pub use Rattle.rvmc_views.specs.Records.{IsChecked, SaysOfRecord, SaysOfSteps}
