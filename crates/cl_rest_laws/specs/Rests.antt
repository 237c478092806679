-- Where a rank may rest: behind a standard send that nobody received, and before a call that completes one. MPI lets such a
-- send wait for its receive (MPI 4.1, 3.4), and calls a program unsafe that needs it to go on (3.5).
use Rattle.std.specs.Prelude.{ℕ, ◌-◌, ◌≡◌, ◌==◌, ◌&&◌, ◌||◌, nat_lt, not, Bool, true, false, List, [], ◌∷◌, length, Option, Some, None}
use Rattle.std.specs.List.{list_all, list_any, slice_get}
use Rattle.rv_memory.specs.Access.{word_at}
use Rattle.rv_memory.specs.Memory.{Memory}
use Rattle.rv_hart.specs.State.{State}
use Rattle.rv_hart.specs.declared.state.Mode.{Mode}
use Rattle.rv_hart.specs.declared.state.Mode.TheVariants.{Running, Waiting, Ended, Trapped}
use Rattle.rv_hart.specs.declared.state.Wait.TheVariants.{Post, Again}
use Rattle.mp_types.specs.declared.requests.Request.TheVariants as request
use Rattle.mp_match.specs.declared.posts.Sent.{Sent}
use Rattle.mp_hub.specs.Hub.{HubView, is_ready}
use Rattle.mp_request.specs.declared.entries.OpenRequest.{OpenRequest}
use Rattle.mp_request.specs.declared.entries.Progress.{Progress}
use Rattle.mp_request.specs.declared.entries.Progress.TheVariants as progress
use Rattle.mp_request.specs.declared.entries.State.{State as RequestState}
use Rattle.mp_request.specs.declared.entries.State.TheVariants.{Ordinary, Inactive, Active}
use Rattle.mp_request.specs.Table.{request_at}
use Rattle.cl_calls.specs.declared.calls.Call.{Call}
use Rattle.cl_calls.specs.declared.calls.Call.TheVariants as call
use Rattle.cl_calls.specs.declared.calls.Sending.{Sending}
use Rattle.cl_calls.specs.declared.sites.Site.{Site}
use Rattle.cl_calls.specs.Calls.{argument, call_named}
use Rattle.cl_calls.specs.Handles.{handles_in}
use Rattle.cl_calls.specs.Needs.{array_at}
use Rattle.cl_calls.specs.Site.{member, members}
use Rattle.cl_state.specs.declared.asking.Doing.{Doing}
use Rattle.cl_state.specs.declared.asking.Doing.TheVariants.{Go}
use Rattle.cl_state.specs.declared.asking.Ask.{Ask}
use Rattle.cl_state.specs.Asked.{asked, doing, is_ecall, part_of}
use Rattle.cl_state.specs.Rank.{Rank}
use Rattle.cl_state_laws.specs.Vain.{mode_of}
use Rattle.cl_machine.specs.Cluster.{Cluster}
use Rattle.cl_order_laws.specs.Alike.{hub_of}
use Rattle.cl_rest_laws.specs.Unreceived.{is_unreceived, is_unreceived_at}

-- ---- the send behind which a hart stands

-- the message is one that rank r sends by a SEND with these arguments, to a member of the communicator
abbrev pub is_sent_with : Site → ℕ → Sending → Sent → Bool
is_sent_with site r s m =
    (nat_lt s.dest (length (members site s.comm)) && not m.sync)
    && (((m.envelope.source == r) && (m.dest == member site s.comm s.dest))
    && ((m.envelope.tag == s.tag) && (m.envelope.comm == s.comm)))

-- by this call of rank r, if that is a SEND
abbrev pub is_message_of : Site → ℕ → Call → Sent → Bool
is_message_of site r (call.Send s) m = is_sent_with site r s m
is_message_of site r _ m = false

-- the hart is neither stopped nor polls a post
abbrev pub is_free_to_go : Mode → Bool
is_free_to_go Running = true
is_free_to_go (Waiting Again) = true
is_free_to_go (Waiting (Post post)) = false
is_free_to_go (Ended code) = false
is_free_to_go (Trapped cause pc) = false

-- a SEND says in a5, which the machine doesn't read, that its message is buffered by whoever sends it: the eight letters of
-- `buffered`. Such a send never waits. The C library says so of what it sends for itself
abbrev pub buffered_word : ℕ
buffered_word = 0x6465726566667562

abbrev pub says_buffered : State → Bool
says_buffered hart = argument hart 5 == buffered_word

-- the call that was made wasn't refused, for its code in a0 is 0, and doesn't say that it is buffered
abbrev pub may_wait_for_receipt : State → Bool
may_wait_for_receipt hart = (argument hart 0 == 0) && not (says_buffered hart)

-- the instruction before the one at its pc is an ECALL, of 4 bytes
abbrev pub is_behind_call : Memory → State → Bool
is_behind_call memory hart = nat_lt 3 hart.pc && is_ecall (word_at memory (hart.pc - 4))

-- the hart stands behind a call that may wait
abbrev pub stands_behind_call : Rank → ℕ → Bool
stands_behind_call rank hart =
    is_free_to_go (mode_of rank hart)
    && (is_behind_call rank.memory (part_of rank hart).hart && may_wait_for_receipt (part_of rank hart).hart)

-- which call its registers spell: behind a call they still do, but for the code in a0
abbrev pub spelled : Rank → ℕ → Call
spelled rank hart = call_named (part_of rank hart).hart

-- the hart stands behind a SEND, and nobody received its message, of which this holds. Messages of one rank to one rank in one
-- communicator with one tag are matched in the order in which they were sent (3.5): if one of them wasn't received, the last one
-- wasn't, unless a matched probe took an earlier one. Then the hart rests for that one
abbrev pub rests_behind : (Sent → Bool) → HubView → ℕ → Rank → ℕ → Bool
rests_behind p hub r rank hart =
    stands_behind_call rank hart
    && list_any (is_unreceived (λ m. is_message_of rank.site r (spelled rank hart) m && p m) hub) hub.board.lines

-- ---- the sends that a call is to complete

-- the post of a standard send that is open (3.7.2), or of a persistent one that was started (3.9)
abbrev pub post_sent : Progress → Option ℕ
post_sent (progress.Sent post) = Some post
post_sent progress.Finished = None
post_sent (progress.OnPost post) = None
post_sent progress.InPhase = None

abbrev pub post_in : RequestState → Option ℕ
post_in (Ordinary going) = post_sent going
post_in Inactive = None
post_in (Active going) = post_sent going

abbrev pub post_of_send : Option OpenRequest → Option ℕ
post_of_send None = None
post_of_send (Some request) = post_in request.state

-- nobody received the message of this post, which is a standard send of rank r, and of which this holds
abbrev pub is_open_post : (Sent → Bool) → HubView → ℕ → Option ℕ → Bool
is_open_post p hub r None = false
is_open_post p hub r (Some post) =
    is_unreceived_at (λ m. ((m.envelope.source == r) && not m.sync) && p m) hub post

-- the handles whose requests a WAIT or WAITALL completes, unless its arguments are refused
abbrev pub handles_waited_for : Memory → Doing → List ℕ
handles_waited_for memory (Go (call.Wait c)) = c.handle ∷ []
handles_waited_for memory (Go (call.Waitall s)) = handles_in memory (array_at s.array s.count)
handles_waited_for memory _ = []

-- those of the call that the hart is about to make
abbrev pub handles_ahead : Rank → ℕ → List ℕ
handles_ahead rank hart = handles_waited_for rank.memory (doing rank.site (part_of rank hart))

-- the hart is about to wait for such a send, and doesn't say in a5 that it is buffered
abbrev pub rests_before : (Sent → Bool) → HubView → ℕ → Rank → ℕ → Bool
rests_before p hub r rank hart =
    not (says_buffered (part_of rank hart).hart)
    && list_any (λ handle. is_open_post p hub r (post_of_send (request_at rank.requests handle)))
    (handles_ahead rank hart)

-- ---- where a hart rests

-- for a message of which this holds
abbrev pub rests_in : (Sent → Bool) → HubView → ℕ → Rank → ℕ → Bool
rests_in p hub r rank hart = rests_behind p hub r rank hart || rests_before p hub r rank hart

abbrev pub rests_if : (Sent → Bool) → HubView → ℕ → Option Rank → ℕ → Bool
rests_if p hub r None hart = false
rests_if p hub r (Some rank) hart = rests_in p hub r rank hart

-- the hart of rank r rests
abbrev pub rests : Cluster → ℕ → ℕ → Bool
rests c r hart = rests_if (λ m. true) (hub_of c.journal) r (slice_get c.ranks r) hart

-- until rank k receives what was sent to it
abbrev pub rests_for : Cluster → ℕ → ℕ → ℕ → Bool
rests_for c r hart k = rests_if (λ m. m.dest == k) (hub_of c.journal) r (slice_get c.ranks r) hart

-- ---- what else its call waits for

-- if the call that it is about to make is a WAITALL, each other request of it that asks the hub for something can complete
abbrev pub IsElseReady : Cluster → ℕ → Rank → ℕ → Type 0
IsElseReady c r rank hart =
    (posts : List ℕ) → asked rank hart ≡ Ask.Hub (request.All posts)
    → list_all (λ number. is_ready (hub_of c.journal) r number) posts ≡ true

-- a send's receipt alone holds the hart up: if its send doesn't wait, it goes on in its next turn
abbrev pub MayGoOn : Cluster → ℕ → Rank → ℕ → Type 0
MayGoOn c r rank hart = (rests c r hart ≡ true) × IsElseReady c r rank hart
