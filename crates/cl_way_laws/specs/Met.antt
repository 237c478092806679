-- Synchronous sends whose receive was posted before them: each is complete as soon as its message arrives (MPI 4.1,
-- 3.4).
use Rattle.std.specs.Prelude.{ℕ, zero, suc, ◌==◌, ◌&&◌, nat_lt, Bool, false, cond, List, map, Option, Some, None}
use Rattle.std.specs.List.{slice_get}
use Rattle.std.specs.Option.{option_map}
use Rattle.mp_match.specs.declared.posts.Line.{Line}
use Rattle.mp_match.specs.declared.posts.Post.{Post}
use Rattle.mp_match.specs.declared.posts.Post.TheVariants as post
use Rattle.mp_match.specs.Board.{is_receive}
use Rattle.mp_request.specs.declared.entries.OpenRequest.{OpenRequest}
use Rattle.mp_request.specs.declared.entries.Progress.{Progress}
use Rattle.mp_request.specs.declared.entries.Progress.TheVariants.{Finished, OnPost}
use Rattle.mp_request.specs.declared.entries.State.{State}
use Rattle.mp_request.specs.declared.entries.State.TheVariants.{Ordinary, Inactive, Active}
use Rattle.mp_request.specs.declared.entries.Transfer.{Transfer}
use Rattle.mp_request.specs.declared.entries.Transfer.TheVariants as transfer
use Rattle.mp_request.specs.Table.{Table}
use Rattle.cl_state.specs.Rank.{Rank}

-- ---- posts

-- a synchronous send of the rank
abbrev pub is_sync_of : ℕ → Post → Bool
is_sync_of rank (post.Send s) = s.sync && (s.envelope.source == rank)
is_sync_of rank (post.Receive a) = false
is_sync_of rank (post.Claim a) = false

-- the partner is a receive that was posted before the post at this place
abbrev pub is_before : List Line → ℕ → Option ℕ → Bool
is_before lines place None = false
is_before lines place (Some other) = nat_lt other place && is_receive (slice_get lines other)

-- it is a synchronous send of the rank with such a partner
abbrev pub is_met_line : List Line → ℕ → ℕ → Option Line → Bool
is_met_line lines rank place None = false
is_met_line lines rank place (Some line) = is_sync_of rank line.post && is_before lines place line.partner

-- the post of this number is a synchronous send of the rank, and its receive was posted before it. 0 is no post's number
abbrev pub is_met : List Line → ℕ → ℕ → Bool
is_met lines rank zero = false
is_met lines rank (suc place) = is_met_line lines rank place (slice_get lines place)

-- ---- a rank whose requests of such sends are complete

abbrev pub met_progress : (ℕ → Bool) → Transfer → Progress → Progress
met_progress is (transfer.Send sync buffer count dest tag comm) (OnPost post) = cond (sync && is post) Finished (OnPost post)
met_progress is t progress = progress

abbrev pub met_state : (ℕ → Bool) → Transfer → State → State
met_state is t (Ordinary progress) = Ordinary (met_progress is t progress)
met_state is t Inactive = Inactive
met_state is t (Active progress) = Active (met_progress is t progress)

abbrev pub met_open : (ℕ → Bool) → OpenRequest → OpenRequest
met_open is request = record { transfer = request.transfer; state = met_state is request.transfer request.state }

abbrev pub met_table : (ℕ → Bool) → Table → Table
met_table is table = map (option_map (met_open is)) table

abbrev pub met_by : (ℕ → Bool) → Rank → Rank
met_by is rank = record rank { requests = met_table is rank.requests }

-- the rank, where each of its requests is complete whose synchronous send has a receive that was posted before it
abbrev pub met : List Line → Rank → Rank
met lines rank = met_by (is_met lines rank.site.number) rank
