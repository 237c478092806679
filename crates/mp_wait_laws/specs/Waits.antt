-- Who could bring what a rank asks for, where the hub answers that it isn't there yet.
use Rattle.std.specs.Prelude.{ℕ, ◌≡◌, ◌==◌, ◌&&◌, Bool, true, false, List, Option, Some, None}
use Rattle.std.specs.List.{slice_get}
use Rattle.rv_image_types.specs.declared.images.Link.{Link}
use Rattle.mp_types.specs.declared.requests.Request.{Request}
use Rattle.mp_types.specs.declared.requests.Request.TheVariants as request
use Rattle.mp_types.specs.declared.replies.Reply.TheVariants.{NotYet}
use Rattle.mp_match.specs.declared.posts.Line.{Line}
use Rattle.mp_match.specs.declared.posts.Post.TheVariants.{Send, Receive, Claim}
use Rattle.mp_match.specs.declared.posts.Selection.{Selection}
use Rattle.mp_match.specs.Board.{line_of}
use Rattle.mp_match.specs.Pairs.{admits}
use Rattle.mp_hub.specs.Hub.{Call, HubView, hub_after, is_ready, reply_of, selecting}

-- of all ranks these alone could: the ones that the test names
abbrev pub OnlyOf : (ℕ → Bool) → (ℕ → Bool) → Type 0
OnlyOf among could = (k : ℕ) → could k ≡ true → among k ≡ true

-- whether rank k could send to one who selects so: a member of the communicator that the selection admits as a source
-- (MPI 4.1, 3.2.4). `member comm k` tells whether rank k is a member
abbrev pub could_send : (ℕ → ℕ → Bool) → Selection → ℕ → Bool
could_send member a k = admits a.source k && member a.comm k

-- whether rank k could make the other side of a post: a send waits for its destination, a receive for a sender
abbrev pub could_pair : (ℕ → ℕ → Bool) → Option Line → ℕ → Bool
could_pair member None k = false
could_pair member (Some line) k =
    elim line.post [ Send s ↦ s.dest == k | Receive a ↦ could_send member a k | Claim a ↦ could_send member a k ]

abbrev pub is_from : ℕ → Option Link → Bool
is_from rank None = false
is_from rank (Some l) = l.from == rank

-- whether rank k sends over the link
abbrev pub sends_over : List Link → ℕ → ℕ → Bool
sends_over links link k = is_from k (slice_get links link)

-- what the rank asks for could come from these ranks alone. Several posts complete together (3.7.5), so that one of
-- them is enough that isn't ready and is up to these ranks. How a link's transfer is cut is its sender's (4.2)
abbrev pub IsUpTo : (ℕ → ℕ → Bool) → (ℕ → Bool) → HubView → ℕ → Request → Type 0
IsUpTo member among hub rank (request.Collect post) = OnlyOf among (could_pair member (line_of hub.board post))
IsUpTo member among hub rank (request.Finished post) = OnlyOf among (could_pair member (line_of hub.board post))
IsUpTo member among hub rank (request.Probe comm source tag) =
    OnlyOf among (could_send member (selecting rank comm source tag))
IsUpTo member among hub rank (request.Claim comm source tag) =
    OnlyOf among (could_send member (selecting rank comm source tag))
IsUpTo member among hub rank (request.All posts) =
    (i : ℕ) × (post : ℕ)
    × (slice_get posts i ≡ Some post)
    × (is_ready hub rank post ≡ false)
    × OnlyOf among (could_pair member (line_of hub.board post))
IsUpTo member among hub rank (request.Cut link) = OnlyOf among (sends_over hub.links link)
IsUpTo member among hub rank _ = ⊥

-- after these calls the rank isn't answered yet, and none but these ranks could bring what it asks for
abbrev pub WaitsFor : (ℕ → ℕ → Bool) → (ℕ → Bool) → List Link → List Call → ℕ → Request → Type 0
WaitsFor member among links calls rank q =
    (reply_of links calls rank q ≡ NotYet) × IsUpTo member among (hub_after links calls) rank q
