-- The text that `explore` prints for ranks that need buffers.
use Rattle.std.specs.Prelude.{ℕ, ◌-◌, ◌||◌, cond, Bool, false, is_some, List, [], ◌∷◌, ◌++◌, codes, Option, Some, None, slice_get}
use Rattle.std.specs.Prelude.{if◌then◌else◌, option_map}
use Rattle.std.specs.List.{flat_map}
use Rattle.std.specs.Option.{option_to_list}
use Rattle.rv_hart.specs.State.{State, at_pc}
use Rattle.rv_hart.specs.declared.state.Mode.{Mode}
use Rattle.rv_hart.specs.declared.state.Mode.TheVariants.{Running}
use Rattle.rv_image_types.specs.declared.images.ImageParts.{ImageParts}
use Rattle.rv_image_types.specs.declared.images.Symbol.{Symbol}
use Rattle.mp_match.specs.FreePosts.{free_post}
use Rattle.mp_hub.specs.Claimed.{is_only_claimed}
use Rattle.mp_hub.specs.Hub.{HubView}
use Rattle.mp_request.specs.declared.entries.OpenRequest.{OpenRequest}
use Rattle.mp_request.specs.declared.entries.Transfer.{Transfer}
use Rattle.mp_request.specs.declared.entries.Transfer.TheVariants as transfer
use Rattle.mp_request.specs.Table.{request_at}
use Rattle.cl_calls.specs.Calls.{call_named}
use Rattle.cl_calls.specs.Site.{member}
use Rattle.cl_calls.specs.declared.calls.Call.{Call}
use Rattle.cl_calls.specs.declared.calls.Call.TheVariants.{Send}
use Rattle.cl_calls.specs.declared.sites.Site.{Site}
use Rattle.cl_state.specs.Rank.{Rank}
use Rattle.cl_state.specs.Room.{rank_of}
use Rattle.cl_state.specs.declared.state.RankState.{RankState}
use Rattle.cl_replay.specs.declared.states.ClusterState.{ClusterState}
use Rattle.cl_rest_laws.specs.Rests.{handles_ahead, post_of_send, says_buffered}
use Rattle.rvmc_report.specs.Report.{newline}
use Rattle.rvmc_inspect.specs.Texts.{hart_head, hart_waits_text, waiting_text}
use Rattle.rvmc_inspect.specs.Waits.{waits}
use Rattle.rvmc_inspect.specs.Why.{live_ranks, rank_names}
use Rattle.rvmc_inspect.specs.declared.awaited.Wait.{Wait}
use Rattle.rvmc_inspect.specs.declared.awaited.Wait.TheVariants as wait
use Rattle.rvmc_explore.specs.declared.needs.Rest.{Rest}

-- ---- a rank that rests behind a send

-- a hart that runs and is held up rests behind a SEND, which its registers still spell: where it was when it made the call, an
-- ECALL of 4 bytes, and which rank is to receive
abbrev pub rest_in : Site → State → Mode → Call → Option Rest
rest_in site hart Running (Send s) =
    Some (record { hart = at_pc hart (hart.pc - 4); to = member site s.comm s.dest })
rest_in site hart mode made = None

abbrev pub rest_of_hart : Site → Option State → Option Rest
rest_of_hart site None = None
rest_of_hart site (Some hart) = rest_in site hart hart.mode (call_named hart)

-- of its first hart, since ranks that may rest have one
abbrev pub rest_of : Rank → Option Rest
rest_of rank = rest_of_hart rank.site (slice_get rank.harts 0)

-- ---- a rank that is about to wait for its sends

-- the rank to which a request sends, by its number in the image
abbrev pub sends_by : Transfer → Option ℕ
sends_by (transfer.Send sync buffer count dest tag comm) = Some dest
sends_by _ = None

abbrev pub sends_to : Option OpenRequest → Option ℕ
sends_to None = None
sends_to (Some request) = sends_by request.transfer

-- no receive has the message of this post
abbrev pub lacks_receive_at : HubView → ℕ → Bool
lacks_receive_at hub number = is_some (free_post hub.board number) || is_only_claimed hub number

-- the receiver of this request, if it is of a standard send whose message nobody received
abbrev pub left_to : HubView → Option ℕ → Option ℕ → Option ℕ
left_to hub None to = None
left_to hub (Some number) to = cond (lacks_receive_at hub number) to None

abbrev pub receiver_at : HubView → Option OpenRequest → Option ℕ
receiver_at hub request = left_to hub (post_of_send request) (sends_to request)

-- that it receives is what completes this request
abbrev pub send_wait : HubView → Rank → ℕ → List Wait
send_wait hub rank handle =
    option_to_list (option_map (λ to. wait.Receiver to) (receiver_at hub (request_at rank.requests handle)))

-- and all requests of the call that the rank's hart is about to make, in the order of their handles
abbrev pub sends_ahead : HubView → Rank → List Wait
sends_ahead hub rank = flat_map (send_wait hub rank) (handles_ahead rank 0)

-- of a hart that says that its sends are buffered none waits
abbrev pub awaited_sends : HubView → Rank → Option State → List Wait
awaited_sends hub rank None = []
awaited_sends hub rank (Some hart) = if says_buffered hart then [] else sends_ahead hub rank

-- ---- ranks that are held up

-- `rank 0 hart 0 waits at give+0x1c [0x24] in SEND for rank 1 to receive`, as `why` tells of a hart that waits in SSEND
abbrev pub rest_line : List Symbol → ℕ → Rank → State → List Wait → List ℕ
rest_line symbols number rank hart found =
    hart_head number 0 ++ (waiting_text false symbols rank.memory hart found ++ newline)

-- a rank that rests behind a send; and of another one what `why` tells of its harts
abbrev pub behind_text : ImageParts → ClusterState → ℕ → RankState → Option Rest → List ℕ
behind_text image state number own (Some rest) =
    rest_line image.symbols number (rank_of own) rest.hart (wait.Receiver rest.to ∷ [])
behind_text image state number own None =
    hart_waits_text false image.symbols state.hub state.boxes.items number (rank_of own)

-- a rank that waits for these sends too, in a call in which it may wait for messages
abbrev pub held_rank_text : ImageParts → ClusterState → ℕ → RankState → Option State → List Wait → List ℕ
held_rank_text image state number own (Some hart) (w ∷ more) =
    rest_line image.symbols number (rank_of own) hart
    (waits state.hub state.boxes.items (rank_of own) 0 ++ w ∷ more)
held_rank_text image state number own hart found = behind_text image state number own (rest_of (rank_of own))

abbrev pub held_text_at : ImageParts → ClusterState → ℕ → Option RankState → List ℕ
held_text_at image state number None = []
held_text_at image state number (Some own) =
    let hart = slice_get (rank_of own).harts 0 in
    held_rank_text image state number own hart (awaited_sends state.hub (rank_of own) hart)

-- the line of a rank that rests, and of another one what `why` tells of its harts; if the rank is there
abbrev pub held_text : ImageParts → ClusterState → ℕ → List ℕ
held_text image state number = held_text_at image state number (slice_get state.ranks.items number)

-- ---- all of it

-- `needs buffering: ranks 0 1`: of these ranks, those that have not stopped
abbrev pub need_line : ClusterState → List ℕ → List ℕ
need_line state ranks = codes "needs buffering: " ++ (rank_names (live_ranks state ranks) ++ newline)

-- how these ranks are held up, in order, and that they need buffers
abbrev pub need_text : ImageParts → ClusterState → List ℕ → List ℕ
need_text image state ranks = flat_map (held_text image state) ranks ++ need_line state ranks
