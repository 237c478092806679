-- Posts that have no partner.
use Rattle.std.specs.Prelude.{cond, Option, Some, None}
use Rattle.mp_match.specs.declared.posts.Line.{Line}
use Rattle.mp_match.specs.declared.posts.Post.{Post}
use Rattle.mp_match.specs.Pairs.{is_free}

abbrev pub free_in : Option Line → Option Post
free_in None = None
free_in (Some line) = cond (is_free line.partner) (Some line.post) None
