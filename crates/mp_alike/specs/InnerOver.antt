-- Posts that are over, line by line.
use Rattle.std.specs.Prelude.{ℕ, ◌≡◌, false, Some, None}
use Rattle.std.specs.List.{slice_get}
use Rattle.mp_match.specs.declared.posts.Line.{Line}
use Rattle.mp_match.specs.declared.posts.Post.TheVariants.{Send, Receive}
use Rattle.mp_match.specs.declared.posts.Selection.{Selection}
use Rattle.mp_match.specs.declared.posts.Sent.{Sent}
use Rattle.mp_match.specs.Board.{Board}

pub record IsPairedStandard (line : Line) : Type 0 where
  pub sent : Sent
  pub partner : ℕ
  pub is : line ≡ record { post = Send sent; partner = Some partner }
  pub standard : sent.sync ≡ false

pub record HasCollected (b : Board) (line : Line) : Type 0 where
  pub what : Selection
  pub partner : ℕ
  pub is : line ≡ record { post = Receive what; partner = Some partner }
  pub gone : slice_get b.bodies partner ≡ Some None
