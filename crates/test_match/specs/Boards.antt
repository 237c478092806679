-- Boards of two posts or three for rank 1, in communicator 0. Each message has one byte.
use Rattle.std.specs.Prelude.{ℕ, false, List, [], ◌∷◌, Option, Some, None}
use Rattle.mp_types.specs.declared.messages.Envelope.{Envelope}
use Rattle.mp_match.specs.declared.posts.Sent.{Sent}
use Rattle.mp_match.specs.declared.posts.Selection.{Selection}
use Rattle.mp_match.specs.declared.posts.Post.TheVariants.{Send, Receive}
use Rattle.mp_match.specs.declared.posts.Line.{Line}
use Rattle.mp_match.specs.Board.{Board, no_posts, send_posted, receive_posted}

abbrev pub envelope : ℕ → Envelope
envelope tag = record { comm = 0; source = 0; tag = tag; count = 1 }

abbrev pub sending : ℕ → Sent
sending tag = record { sync = false; dest = 1; envelope = envelope tag }

-- the same in another communicator
abbrev pub sending_in : ℕ → ℕ → Sent
sending_in comm tag =
    record { sync = false; dest = 1; envelope = record { comm = comm; source = 0; tag = tag; count = 1 } }

abbrev pub asked : Option ℕ → Selection
asked tag = record { rank = 1; comm = 0; source = Some 0; tag = tag }

-- posts 1 and 2 are sends, the first of the higher tag
abbrev pub two_sent : Board
two_sent = send_posted (send_posted no_posts (sending 9) (1 ∷ [])) (sending 3) (2 ∷ [])

-- post 1 takes any tag and post 2 tag 3
abbrev pub two_receives : Board
two_receives = receive_posted (receive_posted no_posts (asked None)) (asked (Some 3))

-- a receive of any source and any tag waits
abbrev pub receive_of_any : Board
receive_of_any = receive_posted no_posts (record { rank = 1; comm = 0; source = None; tag = None })

-- post 3 received the first send, and wasn't collected yet
abbrev pub one_received : Board
one_received = receive_posted two_sent (asked None)

-- the same posts as the lines are kept: places are numbers less 1
abbrev pub lines_received : List Line
lines_received =
    record { post = Send (sending 9); partner = Some 2 } ∷ record { post = Send (sending 3); partner = None }
    ∷ record { post = Receive (asked None); partner = Some 0 } ∷ []

-- what is held once post 3 was collected
abbrev pub bodies_left : List (Option (List ℕ))
bodies_left = None ∷ Some (2 ∷ []) ∷ None ∷ []
