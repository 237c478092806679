-- Messages that nobody received. A matched probe takes a message out of matching and doesn't receive it: the send may wait until
-- MRECV or IMRECV does (MPI 4.1, 3.4 and 3.8.3).
use Rattle.std.specs.Prelude.{ℕ, ◌&&◌, Bool, true, false, Option, Some, None}
use Rattle.mp_match.specs.declared.posts.Line.{Line}
use Rattle.mp_match.specs.declared.posts.Sent.{Sent}
use Rattle.mp_match.specs.Board.{claim_at, line_of}
use Rattle.mp_hub.specs.Claimed.{waits_for_receive}
use Rattle.mp_hub.specs.Hub.{HubView}
use Rattle.cl_rest_laws.specs.Unpaired.{is_send}

-- nobody received the message of a send that has no partner, or whose partner is a matched probe at this place that waits for
-- its receive
abbrev pub lacks_receive_by : HubView → Option ℕ → Bool
lacks_receive_by h None = true
lacks_receive_by h (Some place) = waits_for_receive h (claim_at h.board (Some place))

abbrev pub lacks_receive : HubView → Line → Bool
lacks_receive h line = lacks_receive_by h line.partner

-- the line is a send of which this holds, and nobody received its message
abbrev pub is_unreceived : (Sent → Bool) → HubView → Line → Bool
is_unreceived p h line = is_send p (Some line.post) && lacks_receive h line

abbrev pub is_unreceived_in : (Sent → Bool) → HubView → Option Line → Bool
is_unreceived_in p h None = false
is_unreceived_in p h (Some line) = is_unreceived p h line

-- the post of this number is; 0 is no post's number
abbrev pub is_unreceived_at : (Sent → Bool) → HubView → ℕ → Bool
is_unreceived_at p h number = is_unreceived_in p h (line_of h.board number)
