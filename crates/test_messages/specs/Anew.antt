-- A hub with one message that was claimed, as lists: rank 0 sent rank 1 the byte 120 with tag 7, synchronously, and rank
-- 1 claimed it. Places are numbers less 1.
use Rattle.std.specs.Prelude.{ℕ, true, List, [], ◌∷◌, Option, Some, None}
use Rattle.mp_types.specs.declared.requests.Request.TheVariants as request
use Rattle.mp_match.specs.declared.posts.Post.TheVariants.{Send, Claim}
use Rattle.mp_match.specs.declared.posts.Line.{Line}
use Rattle.mp_match.specs.Board.{Board}
use Rattle.mp_probe.specs.declared.handles.Waiting.{Waiting}
use Rattle.mp_hub.specs.Hub.{HubView, Call}
use Rattle.test_messages.specs.Boards.{sent, any}

abbrev pub claimed_lines : List Line
claimed_lines = record { post = Send sent; partner = Some 1 } ∷ record { post = Claim any; partner = Some 0 } ∷ []

abbrev pub claimed_bodies : List (Option (List ℕ))
claimed_bodies = Some (120 ∷ []) ∷ None ∷ []

abbrev pub claimed_board : Board
claimed_board = record { lines = claimed_lines; bodies = claimed_bodies; compared = 0 }

-- the handle is the claim's number
abbrev pub one_waiting : List Waiting
one_waiting = record { message = 2; rank = 1 } ∷ []

abbrev pub claimed_hub : HubView
claimed_hub = record { links = []; board = claimed_board; claims = one_waiting; sides = [] }

-- the calls that make it
abbrev pub claiming_calls : List Call
claiming_calls = (0, request.Send true 0 1 7 (120 ∷ [])) ∷ (1, request.Claim 0 None None) ∷ []
