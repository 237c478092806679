-- Boards of one message: rank 0 sends rank 1 the byte 120 in communicator 0, with tag 7, and waits for its receive.
use Rattle.std.specs.Prelude.{true, [], ◌∷◌, None}
use Rattle.mp_types.specs.declared.messages.Envelope.{Envelope}
use Rattle.mp_types.specs.declared.messages.Message.{Message}
use Rattle.mp_match.specs.declared.posts.Sent.{Sent}
use Rattle.mp_match.specs.declared.posts.Selection.{Selection}
use Rattle.mp_match.specs.Board.{Board, no_posts, send_posted, receive_posted, claim_posted, without}

abbrev pub envelope : Envelope
envelope = record { comm = 0; source = 0; tag = 7; count = 1 }

abbrev pub sent : Sent
sent = record { sync = true; dest = 1; envelope = envelope }

abbrev pub message : Message
message = record { envelope = envelope; bytes = 120 ∷ [] }

-- rank 1 takes whatever there is
abbrev pub any : Selection
any = record { rank = 1; comm = 0; source = None; tag = None }

-- post 1 is the send
abbrev pub one_sent : Board
one_sent = send_posted no_posts sent (120 ∷ [])

-- post 2 is the receive that has its message
abbrev pub one_received : Board
one_received = receive_posted one_sent any

-- post 2 is the claim that has its message
abbrev pub one_claimed : Board
one_claimed = claim_posted one_sent any

-- the message was collected
abbrev pub one_collected : Board
one_collected = without one_received 0

-- the claim's message was collected
abbrev pub one_claim_collected : Board
one_claim_collected = without one_claimed 0
