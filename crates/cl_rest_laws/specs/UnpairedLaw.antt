-- How many sends have no partner, in alike hubs.
use Rattle.std.specs.Prelude.{ℕ, ◌≡◌, Bool, List, Some}
use Rattle.std.specs.List.{count_by}
use Rattle.mp_match.specs.declared.posts.Line.{Line}
use Rattle.mp_match.specs.declared.posts.Sent.{Sent}
use Rattle.mp_match.specs.Free.{free_in}
use Rattle.mp_hub.specs.Hub.{HubView}
use Rattle.mp_alike_laws.specs.Renaming.{Renaming}
use Rattle.mp_source_laws.specs.Alike.{AlikeHubs, Wild}
use Rattle.cl_rest_laws.specs.Unpaired.{is_send}

-- the line is a send without a partner, of which it holds
abbrev pub is_unpaired : (Sent → Bool) → Line → Bool
is_unpaired p line = is_send p (free_in (Some line))

-- how many of these lines are
abbrev pub unpaired_count : (Sent → Bool) → List Line → ℕ
unpaired_count p lines = count_by (is_unpaired p) lines

-- alike hubs have as many of each kind
abbrev pub UnpairedLaw : Type 0
UnpairedLaw =
    (wild : Wild) (names : Renaming) (h k : HubView) (p : Sent → Bool) → AlikeHubs wild names h k
    → unpaired_count p k.board.lines ≡ unpaired_count p h.board.lines
