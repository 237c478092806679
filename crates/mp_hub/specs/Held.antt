-- Which messages are held whatever was asked: those that somebody may still be given.
use Rattle.std.specs.Prelude.{ℕ, suc, ◌≡◌, true, List, length, Some, None}
use Rattle.std.specs.List.{All, slice_get}
use Rattle.mp_match.specs.declared.posts.Sent.{Sent}
use Rattle.mp_match.specs.declared.posts.Selection.{Selection}
use Rattle.mp_match.specs.declared.posts.Post.TheVariants.{Send, Claim}
use Rattle.mp_match.specs.Pairs.{partner_at}
use Rattle.mp_match.specs.PostPairs.{pairs, posts_of}
use Rattle.mp_match.specs.Board.{Board, is_held}
use Rattle.mp_probe.specs.declared.handles.Waiting.{Waiting}

-- the handle is the number of the rank's claim, and its message is held
pub record IsHeldFor (b : Board) (w : Waiting) : Type 0 where
  pub place : ℕ
  pub claim : Selection
  pub number : w.message ≡ suc place
  pub posted : slice_get (posts_of b.lines) place ≡ Some (Claim claim)
  pub rank : claim.rank ≡ w.rank
  pub send : ℕ
  pub has : partner_at b.lines place ≡ Some send
  pub held : is_held (slice_get b.bodies send) ≡ true

-- the pairs are those of the posts; a send without a partner holds its message, and so does the send of each claim that
-- wasn't received
pub record AreHeld (b : Board) (ws : List Waiting) : Type 0 where
  pub paired : b.lines ≡ pairs (posts_of b.lines)
  pub even : length b.bodies ≡ length b.lines
  pub sends : (place : ℕ) (s : Sent) → slice_get b.lines place ≡ Some (record { post = Send s; partner = None })
      → is_held (slice_get b.bodies place) ≡ true
  pub claims : All (IsHeldFor b) ws
