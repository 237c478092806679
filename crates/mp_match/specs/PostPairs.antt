-- The pairs of a list of posts.
use Rattle.std.specs.Prelude.{List, [], ◌∷◌, map}
use Rattle.mp_match.specs.declared.posts.Post.{Post}
use Rattle.mp_match.specs.declared.posts.Line.{Line}
use Rattle.mp_match.specs.Pairs.{add}

abbrev pub pairs_on : List Line → List Post → List Line
pairs_on lines [] = lines
pairs_on lines (p ∷ ps) = pairs_on (add lines p) ps

-- the posts, each with the place of its partner
abbrev pub pairs : List Post → List Line
pairs ps = pairs_on [] ps

-- the posts of the lines
abbrev pub posts_of : List Line → List Post
posts_of lines = map (λ (line : Line). line.post) lines
