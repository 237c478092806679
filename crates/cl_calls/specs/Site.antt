-- Communicators and positions in them (MPI 4.1, chapter 7.2).
use Rattle.std.specs.Prelude.{ℕ, ◌==◌, List, [], get_or, position, Option}
use Rattle.cl_calls.specs.declared.sites.Site.{Site}

-- the members of a communicator; one that isn't there has none
abbrev pub members : Site → ℕ → List ℕ
members site comm = get_or site.comms comm []

-- the position of a rank among members, if it is one
abbrev pub position_of : ℕ → List ℕ → Option ℕ
position_of rank ranks = position (λ x. x == rank) ranks

-- the rank at a position of a communicator
abbrev pub member : Site → ℕ → ℕ → ℕ
member site comm position = get_or (members site comm) position 0
