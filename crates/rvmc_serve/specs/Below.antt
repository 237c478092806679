-- What crates above this one name of those below it.
pub use Rattle.rvmc_gdb.specs.Answers.{most}
pub use Rattle.rvmc_gdb.specs.Laws.{HeardLaw}
pub use Rattle.rvmc_gdb.specs.Serving.{Serving}
pub use Rattle.rvmc_gdb.specs.Talks.{Connection, Converses, Hears, Serves, Talk, connected, flow_of, talk_begun}
pub use Rattle.rvmc_gdb.specs.declared.server.Flow.TheVariants as flows
pub use Rattle.rvmc_gdb.specs.declared.server.Flow.TheVariants.{Ended}
