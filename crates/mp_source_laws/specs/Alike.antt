-- Alike hubs: the same but for the numbers of posts that are no claims, for the order of messages from different
-- sources where nobody asks for any source, and for messages that were received and collected.
use Rattle.std.specs.Prelude.{ℕ, ◌<◌, ◌≤◌, ◌≡◌, ◌⊎◌, Bool, true, false, length, filter, Some, None}
use Rattle.std.specs.List.{slice_get}
use Rattle.std.specs.Option.{option_map}
use Rattle.mp_match.specs.declared.posts.Line.{Line}
use Rattle.mp_match.specs.declared.posts.Post.TheVariants.{Send, Receive, Claim}
use Rattle.mp_match.specs.declared.posts.Selection.{Selection}
use Rattle.mp_match.specs.declared.posts.Sent.{Sent}
use Rattle.mp_match.specs.Board.{Board}
use Rattle.mp_transfers.specs.declared.sides.Setup.{Setup}
use Rattle.mp_transfers.specs.Inits.{is_reserved, is_same_side, sender_over}
use Rattle.mp_hub.specs.Hub.{HubView}
use Rattle.mp_alike_laws.specs.Renaming.{Renaming, line_by}
use Rattle.mp_alike_laws.specs.Alike.{IsUnpaired, maker}

-- whether a rank may ask in a communicator for a message of any source
abbrev pub Wild : Type 0
Wild = ℕ → ℕ → Bool

-- ---- posts that are over

-- the message of this standard send was collected: its rank was told at once that it is complete (MPI 4.1, 3.4), and
-- nobody is given it any more
pub record IsOverSend (b : Board) (place : ℕ) : Type 0 where
  pub sent : Sent
  pub partner : ℕ
  pub there : slice_get b.lines place ≡ Some (record { post = Send sent; partner = Some partner })
  pub standard : sent.sync ≡ false
  pub gone : slice_get b.bodies place ≡ Some None

-- this receive was collected
pub record IsOverReceive (b : Board) (place : ℕ) : Type 0 where
  pub what : Selection
  pub partner : ℕ
  pub there : slice_get b.lines place ≡ Some (record { post = Receive what; partner = Some partner })
  pub gone : slice_get b.bodies partner ≡ Some None

abbrev pub IsOver : Board → ℕ → Type 0
IsOver b place = IsOverSend b place ⊎ IsOverReceive b place

-- ---- boards

-- the post at the place is the same as the one at its other place, with the partner that corresponds
abbrev pub IsSameAt : Renaming → Board → Board → ℕ → Type 0
IsSameAt names a b place = slice_get b.lines (names.to place) ≡ option_map (line_by names) (slice_get a.lines place)

-- or both are sends that are over, or receives that are, of whatever ranks
pub data IsAlikeAt (names : Renaming) (a b : Board) (place : ℕ) : Type 0 where
  is_same : IsSameAt names a b place → IsAlikeAt names a b place
  over_sends : IsOverSend a place → IsOverSend b (names.to place) → IsAlikeAt names a b place
  over_receives : IsOverReceive a place → IsOverReceive b (names.to place) → IsAlikeAt names a b place

pub record AlikeBoards (wild : Wild) (names : Renaming) (a b : Board) : Type 0 where
  -- as many posts in all, so that the next one has the same number in both
  pub many : length b.lines ≡ length a.lines
  pub next : (place : ℕ) → length a.lines ≤ place → names.to place ≡ place
  -- each post has one that is alike
  pub lines : (place : ℕ) → IsAlikeAt names a b place
  -- and the same message, or none where it was collected
  pub bodies : (place : ℕ) → slice_get b.bodies (names.to place) ≡ slice_get a.bodies place
  -- a claim keeps its number, for guests hold it
  pub claims : (place : ℕ) (line : Line) (what : Selection) → slice_get a.lines place ≡ Some line
      → line.post ≡ Claim what → names.to place ≡ place
  -- the posts of each rank that aren't over correspond in their order
  pub ranks : (i j : ℕ) (m n : Line) → i < j → slice_get a.lines i ≡ Some m → slice_get a.lines j ≡ Some n
      → maker m.post ≡ maker n.post → ¬ IsOver a i → ¬ IsOver a j → names.to i < names.to j
  -- and so do the sends without a partner to each destination in each communicator where it may ask for any source
  pub sends : (i j : ℕ) (s t : Sent) → i < j → IsUnpaired a.lines i s → IsUnpaired a.lines j t → s.dest ≡ t.dest
      → s.envelope.comm ≡ t.envelope.comm → wild s.dest s.envelope.comm ≡ true → names.to i < names.to j

pub record AlikeHubs (wild : Wild) (names : Renaming) (a b : HubView) : Type 0 where
  pub links : b.links ≡ a.links
  pub board : AlikeBoards wild names a.board b.board
  -- the same messages are claimed and not received
  pub claims : b.claims ≡ a.claims
  -- of each transfer each side was initialised as often, in the same order, with the same cuts and links
  pub sides : (s : Setup) → filter (is_same_side s) b.sides ≡ filter (is_same_side s) a.sides
  pub reserved : (link : ℕ) → is_reserved b.sides link ≡ is_reserved a.sides link
  pub senders : (link : ℕ) → sender_over b.sides link ≡ sender_over a.sides link
