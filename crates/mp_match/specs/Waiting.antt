-- Posts that wait for a partner, in queues by key.
use Rattle.std.specs.Prelude.{ℕ, ◌+◌, ◌==◌, ◌&&◌, Bool, true, false, List, Option, Some, None}
use Rattle.std.specs.List.{position_from}
use Rattle.mp_match.specs.declared.posts.Sent.{Sent}
use Rattle.mp_match.specs.declared.posts.Selection.{Selection}
use Rattle.mp_match.specs.declared.posts.Post.{Post}
use Rattle.mp_match.specs.declared.posts.Post.TheVariants.{Send, Receive, Claim}
use Rattle.mp_match.specs.declared.posts.Line.{Line}
use Rattle.mp_match.specs.Pairs.{is_free}

-- ---- keys

-- a wildcard is the same as a wildcard only
abbrev pub same_option : Option ℕ → Option ℕ → Bool
same_option None None = true
same_option None (Some y) = false
same_option (Some x) None = false
same_option (Some x) (Some y) = x == y

-- whether both select the same, wildcards and all
abbrev pub same_key : Selection → Selection → Bool
same_key a b =
    (a.rank == b.rank) && ((a.comm == b.comm) && (same_option a.source b.source && same_option a.tag b.tag))

abbrev pub is_key : Selection → Option Selection → Bool
is_key k None = false
is_key k (Some q) = same_key k q

-- what receives may ask for that accept the send: this source or any, and this tag or any
abbrev pub key_with : Sent → Option ℕ → Option ℕ → Selection
key_with s source tag = record { rank = s.dest; comm = s.envelope.comm; source = source; tag = tag }

abbrev pub key_of : Sent → Selection
key_of s = key_with s (Some s.envelope.source) (Some s.envelope.tag)

-- a receive stands under what it asks for
abbrev pub receive_key : Post → Option Selection
receive_key (Send s) = None
receive_key (Receive a) = Some a
receive_key (Claim a) = None

-- ---- queues: a list of places for each key

-- a post of the key that has no partner
abbrev pub is_open_at : (Post → Option Selection) → Selection → Line → Bool
is_open_at key k line = is_free line.partner && is_key k (key line.post)

-- ---- comparing

abbrev pub first_waiting : List Line → Selection → Option ℕ
first_waiting lines k = position_from (is_open_at receive_key k) 0 lines

abbrev pub one_if : Option ℕ → ℕ
one_if None = 0
one_if (Some place) = 1

-- a send compares the first waiting receives of those that accept it: of its source or any, and its tag or any
abbrev pub compared_for : List Line → Sent → ℕ
compared_for lines s =
    one_if (first_waiting lines (key_of s))
    + one_if (first_waiting lines (key_with s (Some s.envelope.source) None))
    + one_if (first_waiting lines (key_with s None (Some s.envelope.tag)))
    + one_if (first_waiting lines (key_with s None None))
