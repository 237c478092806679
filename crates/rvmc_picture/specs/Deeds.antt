-- What a step did, as far as a picture shows it: of what its hart asked, what the hub told, and how it left the hart.
use Rattle.std.specs.Prelude.{ℕ, ◌≡◌, if◌then◌else◌, Bool, true, false, List, [], option_to_list}
use Rattle.std.specs.Prelude.{Option, Some, None}
use Rattle.std.specs.List.{list_any}
use Rattle.std.specs.Option.{is_some}
use Rattle.rv_hart.specs.State.{State}
use Rattle.rv_hart.specs.declared.state.Mode.{Mode}
use Rattle.rv_hart.specs.declared.state.Mode.TheVariants.{Waiting, Ended, Trapped}
use Rattle.mp_types.specs.declared.replies.Reply.{Reply}
use Rattle.mp_types.specs.declared.replies.Reply.TheVariants as reply
use Rattle.mp_types.specs.declared.requests.Request.{Request}
use Rattle.mp_types.specs.declared.requests.Request.TheVariants as request
use Rattle.mp_match.specs.declared.posts.Post.{Post}
use Rattle.mp_hub.specs.Histories.{got_by, post_made}
use Rattle.cl_calls.specs.Calls.{call_named}
use Rattle.cl_calls.specs.declared.calls.Call.{Call}
use Rattle.cl_calls.specs.declared.calls.Call.TheVariants as call
use Rattle.cl_state.specs.declared.asking.Ask.{Ask}
use Rattle.cl_state.specs.declared.asking.Ask.TheVariants as ask
use Rattle.cl_trace.specs.declared.events.Kind.{Kind}
use Rattle.cl_machine.specs.declared.steps.Step.{Step}
use Rattle.rvmc_draw.specs.declared.deeds.Deed.{Deed}
use Rattle.rvmc_draw.specs.declared.drawing.Shape.{Shape}
use Rattle.rvmc_draw.specs.declared.drawing.Spot.{Spot}
use Rattle.rvmc_sights.specs.Gave.{is_refused}
use Rattle.rvmc_sights.specs.Lines.{box_in}

-- ---- messages and partitions

-- what the hub was asked
abbrev pub request_in : Ask → Option Request
request_in (ask.Hub q) = Some q
request_in a = None

-- the post that a call of the hub made
abbrev pub posts_by : ℕ → Reply → Option Request → List Post
posts_by rank r None = []
posts_by rank r (Some q) = post_made rank q r

abbrev pub made_in : ℕ → Kind → Ask → List Post
made_in rank (Kind.Hub r) a = posts_by rank r (request_in a)
made_in rank kind a = []

-- the numbers of the posts whose messages it got, where the next post would have this one
abbrev pub numbers_by : ℕ → Reply → Option Request → List ℕ
numbers_by next r None = []
numbers_by next r (Some q) = got_by next q r

abbrev pub got_in : ℕ → Kind → Ask → List ℕ
got_in next (Kind.Hub r) a = numbers_by next r (request_in a)
got_in next kind a = []

-- the partition that it made ready, and the one that it took
abbrev pub ready_in : Kind → Ask → Option (ℕ × ℕ)
ready_in Kind.Ready a = box_in a
ready_in kind a = None

abbrev pub took_in : Kind → Ask → Option (ℕ × ℕ)
took_in Kind.Take a = box_in a
took_in kind a = None

-- ---- looks in vain

-- a call that was posted waits where its hart does
abbrev pub is_in_wait : Mode → Bool
is_in_wait (Waiting w) = true
is_in_wait mode = false

abbrev pub is_vain_reply : Reply → Mode → Bool
is_vain_reply reply.NotYet mode = true
is_vain_reply (reply.Posted post done) mode = is_in_wait mode
is_vain_reply r mode = false

-- what was asked for isn't there yet
abbrev pub is_vain : Kind → Mode → Bool
is_vain (Kind.Hub r) mode = is_vain_reply r mode
is_vain Kind.Miss mode = true
is_vain Kind.Held mode = true
is_vain kind mode = false

-- ---- how it is shown

-- an instruction is shown where it traps
abbrev pub trap_shape : Mode → Option Shape
trap_shape (Trapped cause at) = Some Shape.Trap
trap_shape mode = None

-- calls that talk to other ranks, or look at what was begun with them
abbrev pub is_talk : Call → Bool
is_talk (call.Send s) = true
is_talk (call.Ssend s) = true
is_talk (call.Recv r status) = true
is_talk (call.Isend s) = true
is_talk (call.Issend s) = true
is_talk (call.Irecv r) = true
is_talk (call.Test c) = true
is_talk (call.Wait c) = true
is_talk (call.Iprobe p) = true
is_talk (call.Probe p) = true
is_talk (call.Improbe p) = true
is_talk (call.Mprobe p) = true
is_talk (call.Imrecv m) = true
is_talk (call.Mrecv m status) = true
is_talk (call.Testall s) = true
is_talk (call.Waitall s) = true
is_talk (call.Pready handle part) = true
is_talk (call.Parrived handle part) = true
is_talk c = false

abbrev pub is_put : Call → Bool
is_put (call.Put buffer count) = true
is_put c = false

-- a call that needs only its rank, and wasn't refused
abbrev pub done_shape : Call → Option Shape
done_shape c = if is_put c then Some Shape.Put else (if is_talk c then Some Shape.Other else None)

abbrev pub local_shape : Call → State → Mode → Option Shape
local_shape c after (Ended code) = Some Shape.Exit
local_shape c after (Trapped cause at) = Some Shape.Trap
local_shape c after mode = if is_refused after mode then Some Shape.Refused else done_shape c

abbrev pub posted_shape : Option Request → Shape
posted_shape (Some (request.Send true comm dest tag bytes)) = Shape.SyncSend
posted_shape (Some (request.Send false comm dest tag bytes)) = Shape.Send
posted_shape (Some (request.Recv now comm source tag)) = Shape.Posted
posted_shape q = Shape.Other

-- several posts gave a message, or sends alone are complete
abbrev pub all_shape : Bool → Shape
all_shape true = Shape.Got
all_shape false = Shape.Done

abbrev pub hub_shape : Option Request → Reply → Option Shape
hub_shape q (reply.Code code) = Some Shape.Refused
hub_shape q (reply.Posted post done) = Some (posted_shape q)
hub_shape q (reply.Got m) = Some Shape.Got
hub_shape q reply.NotYet = Some Shape.Look
hub_shape q reply.Done = Some Shape.Done
hub_shape q (reply.Seen e) = Some Shape.Seen
hub_shape q (reply.Held handle e) = Some Shape.Claimed
hub_shape q (reply.AllGot gots) = Some (all_shape (list_any (λ got. is_some got) gots))
hub_shape q (reply.Link link) = None
hub_shape q (reply.Cut parts size) = None

abbrev pub shape_in : Kind → Ask → Call → State → Option Shape
shape_in Kind.Plain a c after = trap_shape after.mode
shape_in Kind.Local a c after = local_shape c after after.mode
shape_in (Kind.Hub r) a c after = hub_shape (request_in a) r
shape_in Kind.Ready a c after = Some Shape.Ready
shape_in Kind.Take a c after = Some Shape.Taken
shape_in Kind.Miss a c after = Some Shape.Look
shape_in Kind.Freed a c after = Some Shape.Freed
shape_in Kind.Held a c after = Some Shape.Look
shape_in Kind.Idle a c after = None

-- ---- all of it

-- what the steps of these kinds asked; the others ask for nothing that is shown
abbrev pub ask_met : Kind → Ask → Ask
ask_met (Kind.Hub r) a = a
ask_met Kind.Ready a = a
ask_met Kind.Take a = a
ask_met kind a = ask.Plain

abbrev pub spot_of : ℕ → Step → Spot
spot_of place e = record { place = place; rank = e.rank; hart = e.hart }

-- what the step at a place did, whose hart asked this, and was so before it and so after it; the next post has this number
pub record IsDeedBy (place : ℕ) (e : Step) (a : Ask) (before after : State) (next : ℕ) (d : Deed) : Type 0 where
  pub spot : d.spot ≡ spot_of place e
  pub shape : d.shape ≡ shape_in e.kind a (call_named before) after
  pub vain : d.vain ≡ is_vain e.kind after.mode
  pub made : option_to_list d.made ≡ made_in e.rank e.kind a
  pub got : d.got.items ≡ got_in next e.kind a
  pub ready : d.ready ≡ ready_in e.kind a
  pub taken : d.taken ≡ took_in e.kind a
