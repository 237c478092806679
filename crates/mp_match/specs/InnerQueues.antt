-- How a queue changes.
use Rattle.std.specs.Prelude.{ℕ, cond, List, [], ◌∷◌, ◌++◌, Option, Some, None, drop}
use Rattle.mp_match.specs.declared.posts.Selection.{Selection}
use Rattle.mp_match.specs.Waiting.{same_key}

-- the place behind the others of its queue
abbrev pub pushed : (Selection → List ℕ) → Option Selection → ℕ → Selection → List ℕ
pushed f None place k = f k
pushed f (Some q) place k = cond (same_key k q) (f q ++ place ∷ []) (f k)

-- without the first of a queue
abbrev pub popped : (Selection → List ℕ) → Option Selection → Selection → List ℕ
popped f None k = f k
popped f (Some q) k = cond (same_key k q) (drop 1 (f q)) (f k)
