-- How a search goes: which turns are taken at once, beside those that need only their rank.
use Rattle.std.specs.Prelude.{ℕ, ◌<◌, ◌≡◌, Bool, List, false, length, true}
use Rattle.cl_machine.specs.Cluster.{Cluster}
use Rattle.cl_order_laws.specs.Closed.{Node}
use Rattle.cl_order_laws.specs.Laws.{AreAlike as AreSame}
use Rattle.mp_hub.specs.Hub.{HubView}
use Rattle.cl_moves.specs.Posts.{most_posts}
use Rattle.cl_moves.specs.Standing.{by_order}
use Rattle.cl_contests.specs.Below.{AreAlike, Contest, IsFit}
use Rattle.cl_contest_laws.specs.Below.{AreAlikeNodes}
use Rattle.cl_contest_laws.specs.Lists.{StartsWell}
use Rattle.cl_contests.specs.Kept.{search_of}
use Rattle.cl_contests.specs.Waiting.{OnlyWaits}
use Rattle.cl_contests.specs.declared.patterns.AskedBy.{AskedBy}
use Rattle.cl_explore.specs.declared.course.Manner.{Manner}
use Rattle.cl_explore.specs.declared.course.Way.{Way}
use Rattle.cl_explore.specs.declared.course.Way.TheVariants as ways
use Rattle.cl_explore.specs.declared.halt.Halt.{Halt}
use Rattle.cl_explore.specs.declared.halt.Halt.TheVariants as halt

-- no others; calls for what is there; or turns that nobody contests, by these patterns
pub data How : Type 0 where
  plainly : How
  at_once : How
  by_contest : Contest → How

abbrev pub how_of : Way → Bool → List AskedBy → How
how_of ways.Plainly may_wait kept = plainly
how_of ways.AtOnce may_wait kept = at_once
how_of ways.First may_wait kept = by_contest (search_of may_wait kept)

abbrev pub how_in : Manner → How
how_in manner = how_of manner.way manner.patterns.now.may_wait manner.patterns.now.kept.items

-- ---- which nodes are alike

-- clusters as this search compares them: where turns go first that nobody contests, whatever the order of messages from
-- different sources where nobody asks for any source
abbrev pub AreAlikeIn : How → Cluster → Cluster → Type 0
AreAlikeIn (by_contest contest) one other = AreAlike contest.wild one other
AreAlikeIn _ one other = AreSame one other

-- nodes, at the same places of the order; there each rank has one hart
abbrev pub AreAlikeFor : How → List ℕ → Node → Node → Type 0
AreAlikeFor (by_contest contest) order one other = AreAlike contest.wild one.cluster other.cluster
AreAlikeFor _ order one other = AreAlikeNodes (by_order order) one other

-- ---- what has to be known of a cluster, beside what is reached from it

-- where calls for what is there are made at once, few posts were made
abbrev pub HasRoom : How → HubView → Type 0
HasRoom at_once hub = length hub.board.lines < most_posts
HasRoom _ hub = Unit {0}

-- where turns go first that nobody contests, all ranks may be let go
abbrev pub IsFitFor : How → Cluster → Type 0
IsFitFor (by_contest contest) cluster = IsFit contest cluster
IsFitFor _ cluster = Unit {0}

-- and the search begins at a cluster of ranks with one hart each
abbrev pub MayBegin : How → List ℕ → Node → Type 0
MayBegin (by_contest contest) order start = StartsWell contest (by_order order) start.cluster
MayBegin _ order start = Unit {0}

-- moves are halted for what ranks ask only where turns go first, and never for ranks that need buffers
abbrev pub IsHaltOf : Way → Halt → Type 0
IsHaltOf goes (halt.Fault fault) = Unit {0}
IsHaltOf goes halt.Outside = goes ≡ ways.First
IsHaltOf goes halt.Needed = ⊥

-- standard sends may wait for their receives: only where turns go first that nobody contests, and no rank goes first that
-- rests
abbrev pub MayWaitIn : How → Type 0
MayWaitIn (by_contest contest) = contest.may_wait ≡ true
MayWaitIn _ = ⊥

-- ranks only wait for named ranks
abbrev pub OnlyWaitIn : How → Type 0
OnlyWaitIn (by_contest contest) = OnlyWaits contest
OnlyWaitIn _ = ⊥

-- whether standard sends may wait, as an answer
abbrev pub waits_in : How → Bool
waits_in (by_contest contest) = contest.may_wait
waits_in _ = false
