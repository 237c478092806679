-- Posts without a partner, by their numbers.
use Rattle.std.specs.Prelude.{ℕ, Option}
use Rattle.mp_match.specs.declared.posts.Post.{Post}
use Rattle.mp_match.specs.Board.{Board, line_of}
use Rattle.mp_match.specs.Free.{free_in}

-- the post of this number, where it has no partner
abbrev pub free_post : Board → ℕ → Option Post
free_post b number = free_in (line_of b number)
