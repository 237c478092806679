-- Posts and their pairs (MPI 4.1, chapters 3.2.4 and 3.5). A post's place is its number less 1.
use Rattle.std.specs.Prelude.{ℕ, zero, suc, ◌==◌, ◌&&◌, Bool, true, false, List, [], ◌∷◌, ◌++◌, length, Option, Some}
use Rattle.std.specs.Prelude.{None}
use Rattle.std.specs.List.{position_from, slice_get}
use Rattle.mp_match.specs.declared.posts.Sent.{Sent}
use Rattle.mp_match.specs.declared.posts.Selection.{Selection}
use Rattle.mp_match.specs.declared.posts.Post.{Post}
use Rattle.mp_match.specs.declared.posts.Post.TheVariants.{Send, Receive, Claim}
use Rattle.mp_match.specs.declared.posts.Line.{Line}

-- a wildcard admits any value, else the value itself is asked for
abbrev pub admits : Option ℕ → ℕ → Bool
admits None x = true
admits (Some y) x = x == y

-- a receive accepts a message to its rank, in its communicator, of its source and its tag (3.2.4)
abbrev pub accepts : Selection → Sent → Bool
accepts a s =
    (s.dest == a.rank) && (s.envelope.comm == a.comm) && admits a.source s.envelope.source
    && admits a.tag s.envelope.tag

-- whether a new post may have this earlier one as its partner: a claim takes a message that is there, and no later one
abbrev pub may_pair : Post → Post → Bool
may_pair (Send s) (Receive a) = accepts a s
may_pair (Receive a) (Send s) = accepts a s
may_pair (Claim a) (Send s) = accepts a s
may_pair _ _ = false

abbrev pub is_free : Option ℕ → Bool
is_free None = true
is_free (Some k) = false

abbrev pub fits : Post → Line → Bool
fits new line = is_free line.partner && may_pair new line.post

-- the least place of a post without a partner that the new one may have
abbrev pub partner_for : List Line → Post → Option ℕ
partner_for lines new = position_from (fits new) 0 lines

-- the post at place q has the partner k
abbrev pub partner_set : List Line → ℕ → ℕ → List Line
partner_set [] q k = []
partner_set (line ∷ lines) zero k = record line { partner = Some k } ∷ lines
partner_set (line ∷ lines) (suc q) k = line ∷ partner_set lines q k

-- the post at the place, if any, has the partner k
abbrev pub partners_set : List Line → Option ℕ → ℕ → List Line
partners_set lines None k = lines
partners_set lines (Some q) k = partner_set lines q k

-- the new post, at the end, is told to its partner
abbrev pub partners_told : List Line → Option ℕ → List Line
partners_told lines o = partners_set lines o (length lines)

-- a new post, and its partner where there is one
abbrev pub add : List Line → Post → List Line
add lines new =
    partners_told lines (partner_for lines new) ++ record { post = new; partner = partner_for lines new } ∷ []

abbrev pub partner_of_line : Option Line → Option ℕ
partner_of_line None = None
partner_of_line (Some line) = line.partner

-- the pairs as a map over places
abbrev pub partner_at : List Line → ℕ → Option ℕ
partner_at lines i = partner_of_line (slice_get lines i)
