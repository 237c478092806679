-- The posts that a rank names, and those of which it may yet ask.
use Rattle.std.specs.Prelude.{ℕ, ◌≡◌, Bool, true}
use Rattle.mp_alike_laws.specs.Renaming.{Renaming, number_by}
use Rattle.cl_names_laws.specs.Named.{rank_with}
use Rattle.cl_state.specs.Rank.{Rank}

-- the renaming leaves the posts of this set as they are
abbrev pub Keeps : (ℕ → Bool) → Renaming → Type 0
Keeps set names = (place : ℕ) → set place ≡ true → names.to place ≡ place

-- the rank is the same by all of these names, where standard sends are numbered so
abbrev pub IsSameBy : (Renaming → ℕ → ℕ) → (ℕ → Bool) → Rank → Type 0
IsSameBy sends set rank = (names : Renaming) → Keeps set names → rank_with names (sends names) rank ≡ rank

-- it names no other posts
abbrev pub NamesOnly : (ℕ → Bool) → Rank → Type 0
NamesOnly = IsSameBy number_by

-- the post of a standard send has the number that it had
abbrev pub as_before : Renaming → ℕ → ℕ
as_before names post = post

-- its standard sends aside it names no other posts: it awaits no others
abbrev pub AwaitsOnly : (ℕ → Bool) → Rank → Type 0
AwaitsOnly = IsSameBy as_before
