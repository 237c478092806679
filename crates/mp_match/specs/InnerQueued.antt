-- The keys of queues, and what is found among them.
use Rattle.std.specs.Prelude.{ℕ, ◌+◌, ◌==◌, ◌&&◌, Bool, false, cond, min, List, [], ◌∷◌, Option, Some, None, slice_get}
use Rattle.std.specs.declared.alloc.Global.{Global}
use Rattle.std.specs.declared.collections.VecDeque.{VecDeque}
use Rattle.mp_match.specs.declared.posts.Selection.{Selection}
use Rattle.mp_match.specs.Pairs.{admits}

abbrev pub Entry : Type 0
Entry = Selection × VecDeque ℕ Global

abbrev pub least : Option ℕ → Option ℕ → Option ℕ
least None o = o
least (Some a) None = Some a
least (Some a) (Some b) = Some (min a b)

-- whether what is selected has this value, which is never a wildcard in the key of a message
abbrev pub admits_key : Option ℕ → Option ℕ → Bool
admits_key wanted None = false
admits_key wanted (Some x) = admits wanted x

-- whether the messages of the key are accepted
abbrev pub accepts_key : Selection → Selection → Bool
accepts_key a k =
    (k.rank == a.rank) && (k.comm == a.comm) && admits_key a.source k.source && admits_key a.tag k.tag

-- the first of all keys of the rank and the communicator, and of the next communicator
abbrev pub first_key : Selection → Selection
first_key a = record { rank = a.rank; comm = a.comm; source = None; tag = None }

abbrev pub next_key : Selection → Selection
next_key a = record { rank = a.rank; comm = a.comm + 1; source = None; tag = None }

-- the least of the place and the first places of the queues whose messages are accepted
abbrev pub least_accepted : Selection → Option ℕ → List Entry → Option ℕ
least_accepted a o [] = o
least_accepted a o (e ∷ es) =
    least_accepted a (cond (accepts_key a e.0) (least o (slice_get (e.1).items 0)) o) es
