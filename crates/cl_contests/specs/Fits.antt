-- What makes a cluster fit for all ranks to be let go, of one rank.
use Rattle.std.specs.Prelude.{ℕ}
use Rattle.cl_state.specs.Asked.{asked}
use Rattle.cl_state.specs.Rank.{Rank}
use Rattle.cl_state_laws.specs.Awake.{StandsAtCall}
use Rattle.cl_machine.specs.Cluster.{Cluster}
use Rattle.cl_reduction_laws.specs.Below.{AskWithin}
use Rattle.cl_reduction_laws.specs.Clusters.{Search}
use Rattle.cl_reduction_laws.specs.Complete.{PollWithin}
use Rattle.cl_reduction_laws.specs.Patterns.{IsAllowed, pattern_of}
use Rattle.cl_reduction_laws.specs.Settled.{RestsIfWaiting}

-- what its hart asks is within the patterns, the hart waits in vain where it makes a call that is made anew, finds what it
-- claims or rests, and stands at the call that it is to make anew
pub record IsFitRank (search : Search) (c : Cluster) (r : ℕ) (rank : Rank) : Type 0 where
  pub allowed : IsAllowed search.patterns r (pattern_of rank (search.harts r))
  pub within : AskWithin search.wild r (asked rank (search.harts r))
  pub polls : PollWithin search.polls_of_complete r rank (search.harts r)
  pub rests : RestsIfWaiting search c r rank
  pub stands : StandsAtCall rank (search.harts r)
