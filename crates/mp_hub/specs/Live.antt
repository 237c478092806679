-- Posts for which no rank can wait any more.
use Rattle.std.specs.Prelude.{ℕ, ◌≡◌, Some, true}
use Rattle.mp_match.specs.declared.posts.Line.{Line}
use Rattle.mp_match.specs.Board.{line_of}
use Rattle.mp_hub.specs.Hub.{HubView, is_ready}

-- the post, if there is one, is ready, whichever rank asks
abbrev pub IsReadyToAll : HubView → ℕ → Type 0
IsReadyToAll h number = (line : Line) (rank : ℕ) → line_of h.board number ≡ Some line → is_ready h rank number ≡ true
