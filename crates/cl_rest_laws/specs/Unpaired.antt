-- Posts that are sends of some kind.
use Rattle.std.specs.Prelude.{Bool, false, Option, Some, None}
use Rattle.mp_match.specs.declared.posts.Post.{Post}
use Rattle.mp_match.specs.declared.posts.Post.TheVariants.{Send, Receive, Claim}
use Rattle.mp_match.specs.declared.posts.Sent.{Sent}

-- a send of which it holds
abbrev pub is_send : (Sent → Bool) → Option Post → Bool
is_send p None = false
is_send p (Some (Send s)) = p s
is_send p (Some (Receive a)) = false
is_send p (Some (Claim a)) = false
