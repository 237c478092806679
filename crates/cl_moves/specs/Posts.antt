-- How many posts a hub has at most where calls for what is there are made at once.
use Rattle.std.specs.Prelude.{ℕ}

-- fewer than the messages that a hub holds
abbrev pub most_posts : ℕ
most_posts = 65535
