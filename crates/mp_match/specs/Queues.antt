-- The queues of the posts that wait.
use Rattle.std.specs.Prelude.{◌≡◌, ℕ, ◌+◌, Bool, cond, List, [], ◌∷◌, Option, Some, None}
use Rattle.mp_match.specs.declared.posts.Selection.{Selection}
use Rattle.mp_match.specs.declared.posts.Post.{Post}
use Rattle.mp_match.specs.declared.posts.Post.TheVariants.{Send, Receive, Claim}
use Rattle.mp_match.specs.declared.posts.Line.{Line}
use Rattle.mp_match.specs.Waiting.{key_of, is_open_at}

-- ---- keys

-- a message stands under its own source and tag
abbrev pub message_key : Post → Option Selection
message_key (Send s) = Some (key_of s)
message_key (Receive a) = None
message_key (Claim a) = None

-- ---- queues: a list of places for each key

-- the places, from i on, of the lines that pass
abbrev pub places : (Line → Bool) → ℕ → List Line → List ℕ
places t i [] = []
places t i (line ∷ lines) = cond (t line) (i ∷ places t (i + 1) lines) (places t (i + 1) lines)

-- each queue has the posts of its key that have no partner, in the order of posts
abbrev pub AreQueued : (Post → Option Selection) → (Selection → List ℕ) → List Line → Type 0
AreQueued key f lines = (k : Selection) → f k ≡ places (is_open_at key k) 0 lines
