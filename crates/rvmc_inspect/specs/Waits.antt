-- What a hart waits for: what it asks in its next turn, where that isn't there.
use Rattle.std.specs.Prelude.{ℕ, if◌then◌else◌, Bool, false, List, [], ◌∷◌, get_or, option_to_list, slice_get}
use Rattle.std.specs.Prelude.{Option, Some, None}
use Rattle.std.specs.List.{flat_map}
use Rattle.rv_image_types.specs.declared.images.Link.{Link}
use Rattle.mp_types.specs.declared.requests.Request.{Request}
use Rattle.mp_types.specs.declared.requests.Request.TheVariants as request
use Rattle.mp_match.specs.declared.posts.Post.{Post}
use Rattle.mp_match.specs.declared.posts.Post.TheVariants.{Send, Receive, Claim}
use Rattle.mp_match.specs.Board.{line_of}
use Rattle.mp_match.specs.Live.{post_in}
use Rattle.mp_hub.specs.Hub.{HubView, is_ready}
use Rattle.mp_hub.specs.Vain.{asks_in_vain}
use Rattle.mp_request.specs.declared.entries.Partitions.{Partitions}
use Rattle.mp_request.specs.Table.{request_at}
use Rattle.part_box.specs.declared.settled.Settled.{Settled}
use Rattle.part_phase.specs.declared.phases.Phase.{Phase}
use Rattle.part_phase.specs.Phases.{sending_at}
use Rattle.part_phase.specs.Sending.{next_to_free}
use Rattle.cl_calls.specs.declared.calls.Call.{Call}
use Rattle.cl_calls.specs.declared.calls.Call.TheVariants as call
use Rattle.cl_calls.specs.Calls.{call_named}
use Rattle.cl_calls.specs.Checks.{sending_side}
use Rattle.cl_state.specs.declared.asking.Ask.{Ask}
use Rattle.cl_state.specs.declared.asking.Ask.TheVariants as ask
use Rattle.cl_state.specs.Asked.{asked, no_hart}
use Rattle.cl_state.specs.Rank.{Rank}
use Rattle.rvmc_inspect.specs.declared.awaited.Wait.{Wait}
use Rattle.rvmc_inspect.specs.declared.awaited.Wait.TheVariants as wait

-- ---- at the hub

-- a send waits for its receiver, also where its message was claimed, and a receive or a claim for a message
abbrev pub post_wait : Post → Wait
post_wait (Send s) = wait.Receiver s.dest
post_wait (Receive a) = wait.Message a.source a.tag a.comm
post_wait (Claim a) = wait.Message a.source a.tag a.comm

abbrev pub line_waits : Option Post → List Wait
line_waits None = []
line_waits (Some post) = post_wait post ∷ []

-- a post that is ready waits for nothing
abbrev pub unready_wait : HubView → ℕ → ℕ → List Wait
unready_wait hub rank post = if is_ready hub rank post then [] else line_waits (post_in (line_of hub.board post))

-- of several posts those that aren't ready
abbrev pub unready_waits : HubView → ℕ → List ℕ → List Wait
unready_waits hub rank posts = flat_map (unready_wait hub rank) posts

abbrev pub shape_of : ℕ → Option Link → Option Wait
shape_of link None = None
shape_of link (Some joins) = Some (wait.Shape link joins.from)

abbrev pub shape_wait : List Link → ℕ → Option Wait
shape_wait links link = shape_of link (slice_get links link)

abbrev pub request_waits : HubView → ℕ → Request → List Wait
request_waits hub rank (request.Collect post) = unready_wait hub rank post
request_waits hub rank (request.Finished post) = unready_wait hub rank post
request_waits hub rank (request.Probe comm source tag) = wait.Message source tag comm ∷ []
request_waits hub rank (request.Claim comm source tag) = wait.Message source tag comm ∷ []
request_waits hub rank (request.All posts) = unready_waits hub rank posts
request_waits hub rank (request.Cut link) = option_to_list (shape_wait hub.links link)
request_waits hub rank _ = []

-- a request that would be answered now waits for nothing
abbrev pub hub_waits : HubView → ℕ → Request → List Wait
hub_waits hub rank q = if asks_in_vain hub rank q then request_waits hub rank q else []

-- ---- at the boxes

abbrev pub is_full_box : Option Settled → Bool
is_full_box None = false
is_full_box (Some settled) = settled.full

abbrev pub part_holds : Option (List Settled) → ℕ → Bool
part_holds None part = false
part_holds (Some parts) part = is_full_box (slice_get parts part)

-- whether something stands in the box of a link's partition
abbrev pub box_is_full : List (List Settled) → ℕ → ℕ → Bool
box_is_full boxes link part = part_holds (slice_get boxes link) part

-- a partition comes from the link's sender, and is taken by its receiver
abbrev pub partition_of : ℕ → ℕ → Option Link → Option Wait
partition_of link part None = None
partition_of link part (Some joins) = Some (wait.Partition part link joins.from)

abbrev pub partition_wait : List Link → ℕ → ℕ → Option Wait
partition_wait links link part = partition_of link part (slice_get links link)

abbrev pub taken_of : ℕ → ℕ → Option Link → Option Wait
taken_of link part None = None
taken_of link part (Some joins) = Some (wait.Taken part link joins.to)

abbrev pub taken_wait : List Link → ℕ → ℕ → Option Wait
taken_wait links link part = taken_of link part (slice_get links link)

-- ---- at its own rank

abbrev pub own_part : ℕ → Option ℕ → Option Wait
own_part link None = None
own_part link (Some part) = Some (wait.OwnPartition part link)

-- the lowest partition of the side's phase that wasn't taken
abbrev pub side_wait : List Phase → Option Partitions → Option Wait
side_wait phases None = None
side_wait phases (Some side) = own_part side.link (next_to_free (sending_at phases side.link))

abbrev pub own_wait : Rank → Call → Option Wait
own_wait rank (call.Wait c) = side_wait rank.phases (sending_side (request_at rank.requests c.handle))
own_wait rank _ = None

-- ---- a hart

-- of a hart that makes this call, and asks this
abbrev pub asked_waits : HubView → List (List Settled) → Rank → Call → Ask → List Wait
asked_waits hub boxes rank c (ask.Hub q) = hub_waits hub rank.site.number q
asked_waits hub boxes rank c (ask.Look link part) =
    if box_is_full boxes link part then [] else option_to_list (partition_wait hub.links link part)
asked_waits hub boxes rank c (ask.Freed link part) =
    if box_is_full boxes link part then option_to_list (taken_wait hub.links link part) else []
asked_waits hub boxes rank c ask.Held = option_to_list (own_wait rank c)
asked_waits hub boxes rank c _ = []

unfoldable pub waits : HubView → List (List Settled) → Rank → ℕ → List Wait
waits hub boxes rank hart =
    asked_waits hub boxes rank (call_named (get_or rank.harts hart no_hart)) (asked rank hart)
