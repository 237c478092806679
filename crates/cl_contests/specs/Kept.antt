-- Patterns that are kept in a list, and the search that they stand for.
use Rattle.std.specs.Prelude.{ℕ, ◌==◌, ◌&&◌, Bool, true, false, not, List, if◌then◌else◌}
use Rattle.std.specs.List.{list_any}
use Rattle.mp_source_laws.specs.Alike.{Wild}
use Rattle.cl_reduction_laws.specs.Clusters.{Search}
use Rattle.cl_reduction_laws.specs.Complete.{PollsOfComplete}
use Rattle.cl_reduction_laws.specs.Patterns.{Pattern as Asked, Patterns, by_receiver, by_sender, claim, initialisation, poll, poll_of_cuts, poll_of_sends, receive, send}
use Rattle.cl_contests.specs.declared.patterns.AskedBy.{AskedBy}
use Rattle.cl_contests.specs.declared.patterns.Pattern.{Pattern}
use Rattle.cl_contests.specs.declared.patterns.Pattern.TheVariants as pattern

abbrev pub is_same_bool : Bool → Bool → Bool
is_same_bool a b = if a then b else not b

-- the kept pattern is this one
abbrev pub is_pattern : Pattern → Asked → Bool
is_pattern (pattern.Send sync dest comm) (send its to other) =
    is_same_bool sync its && ((dest == to) && (comm == other))
is_pattern pattern.Receive receive = true
is_pattern pattern.Poll poll = true
is_pattern pattern.PollOfSends poll_of_sends = true
is_pattern pattern.Claim claim = true
is_pattern (pattern.Initialisation sends comm peer tag bytes) (initialisation gives other whom label many) =
    is_same_bool sends gives && ((comm == other) && (peer == whom) && (tag == label) && (bytes == many))
is_pattern pattern.PollOfCuts poll_of_cuts = true
is_pattern (pattern.BySender link) (by_sender other) = link == other
is_pattern (pattern.ByReceiver link) (by_receiver other) = link == other
is_pattern _ _ = false

-- it is a receive or a probe of any source in this communicator
abbrev pub is_any_source : Pattern → ℕ → Bool
is_any_source (pattern.AnySource comm) other = comm == other
is_any_source _ other = false

-- it is a poll of a synchronous send that was complete as it was made
abbrev pub is_poll_of_complete : Pattern → Bool
is_poll_of_complete pattern.PollOfComplete = true
is_poll_of_complete _ = false

-- what each rank may ask
abbrev pub patterns_of : List AskedBy → Patterns
patterns_of kept r p = list_any (λ (a : AskedBy). (a.rank == r) && is_pattern a.pattern p) kept

-- in which communicators it may ask for any source
abbrev pub wild_of : List AskedBy → Wild
wild_of kept r comm = list_any (λ (a : AskedBy). (a.rank == r) && is_any_source a.pattern comm) kept

-- whether it may poll such sends
abbrev pub polls_of : List AskedBy → PollsOfComplete
polls_of kept r = list_any (λ (a : AskedBy). (a.rank == r) && is_poll_of_complete a.pattern) kept

-- the first hart of each rank takes its turns. Standard sends may wait for their receives, or don't
abbrev pub search_of : Bool → List AskedBy → Search
search_of may_wait kept =
    record {
      wild = wild_of kept;
      polls_of_complete = polls_of kept;
      patterns = patterns_of kept;
      harts = λ r. 0;
      may_wait = may_wait;
    }
