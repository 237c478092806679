-- What a step of each kind asks of a rank, of the hub and of a box, and what it leaves of them.
use Rattle.std.specs.Prelude.{ℕ, ◌≡◌, ◌⊎◌, ◌<◌, ◌≤◌, ◌+◌, ◌++◌, ◌∷◌, [], max, length, List}
use Rattle.std.specs.Prelude.{Option, Some, None, true, false}
use Rattle.rv_image_types.specs.declared.images.Link.{Link}
use Rattle.mp_types.specs.Carried.{carried_by_request}
use Rattle.mp_types.specs.declared.requests.Request.{Request}
use Rattle.mp_types.specs.declared.replies.Reply.{Reply}
use Rattle.mp_hub.specs.Made.{makes}
use Rattle.mp_hub.specs.Hub.{Call, HubView, reply_of}
use Rattle.mp_hub.specs.Outcomes.{StandsFor}
use Rattle.part_box.specs.declared.settled.Settled.{Settled}
use Rattle.cl_state.specs.declared.asking.Answer.{Answer}
use Rattle.cl_state.specs.declared.asking.Ask.{Ask}
use Rattle.cl_state.specs.Asked.{asked, doing, part_of}
use Rattle.cl_state.specs.Right.{growth_of}
use Rattle.cl_state.specs.Rank.{Rank}
use Rattle.cl_state.specs.Told.{told}
use Rattle.cl_trace.specs.declared.events.Kind.{Kind}
use Rattle.cl_deeds.specs.Memory.{LacksPages}
use Rattle.cl_machine.specs.Keys.{bytes_in}
use Rattle.cl_machine.specs.Boxes.{box_number}
use Rattle.cl_machine.specs.declared.steps.Step.{Step}
use Rattle.cl_replay.specs.declared.faults.StepFault.{StepFault}
use Rattle.cl_replay.specs.Boxes.{ChangesBox, filled, settled_at, vacant}

-- the rank was told this answer to what the step's hart asked
abbrev pub IsTold : Rank → Step → Answer → Rank → Type 0
IsTold old e answer new = new ≡ told old e.hart answer e.stamp

-- the hart asks this, and the stamp is the next of its rank
abbrev pub AsksNext : Rank → Step → Ask → Type 0
AsksNext rank e ask = (asked rank e.hart ≡ ask) × (e.stamp ≡ rank.clock + 1)

-- what a hart asks in a step of a kind that touches its rank alone
abbrev pub quiet_ask : Kind → Option Ask
quiet_ask Kind.Local = Some Ask.Local
quiet_ask Kind.Held = Some Ask.Held
quiet_ask Kind.Idle = Some Ask.Idle
quiet_ask _ = None

abbrev pub IsQuiet : Rank → Step → Type 0
IsQuiet rank e = (ask : Ask) × (quiet_ask e.kind ≡ Some ask) × AsksNext rank e ask

-- whether a partition was made ready, or taken, is asked
abbrev pub IsLook : Ask → Type 0
IsLook (Ask.Look link part) = Unit {0}
IsLook (Ask.Freed link part) = Unit {0}
IsLook _ = ⊥

-- a look at a box in vain, whatever stands there
abbrev pub IsMiss : Rank → Step → Type 0
IsMiss rank e = (ask : Ask) × IsLook ask × AsksNext rank e ask

-- a partition is made ready in an empty box
pub record IsReady (rank : Rank) (boxes : List (List Settled)) (e : Step) : Type 0 where
  pub link : ℕ
  pub part : ℕ
  pub bytes : List ℕ
  pub settled : Settled
  pub asks : AsksNext rank e (Ask.Ready link part bytes)
  pub there : settled_at boxes (box_number link part) ≡ Some settled
  pub empty : settled.full ≡ false

pub record Readies (old : Rank) (before : List (List Settled)) (e : Step) (new : Rank)
    (after : List (List Settled)) : Type 0 where
  pub ready : IsReady old before e
  pub words : List ℕ
  pub spelled : ready.bytes ≡ bytes_in old.site.version words
  pub told : IsTold old e Answer.Alone new
  pub changes : ChangesBox before (box_number ready.link ready.part) (filled e.stamp words) after

-- what stands in a box is taken
pub record IsTake (rank : Rank) (boxes : List (List Settled)) (e : Step) : Type 0 where
  pub link : ℕ
  pub part : ℕ
  pub settled : Settled
  pub asks : asked rank e.hart ≡ Ask.Look link part
  pub there : settled_at boxes (box_number link part) ≡ Some settled
  pub full : settled.full ≡ true
  pub stamp : e.stamp ≡ max rank.clock settled.stamp + 1

pub record Takes (old : Rank) (before : List (List Settled)) (e : Step) (new : Rank)
    (after : List (List Settled)) : Type 0 where
  pub take : IsTake old before e
  pub told : IsTold old e (Answer.Taken (bytes_in old.site.version take.settled.words)) new
  pub changes : ChangesBox before (box_number take.link take.part) (vacant e.stamp) after

-- a box is seen empty by its sender
pub record IsFreed (rank : Rank) (boxes : List (List Settled)) (e : Step) : Type 0 where
  pub link : ℕ
  pub part : ℕ
  pub settled : Settled
  pub asks : asked rank e.hart ≡ Ask.Freed link part
  pub there : settled_at boxes (box_number link part) ≡ Some settled
  pub empty : settled.full ≡ false
  pub stamp : e.stamp ≡ max rank.clock settled.stamp + 1

-- the hub, at this clock, gives this reply to what the hart asks
pub record IsCall (rank : Rank) (hub : HubView) (clock : ℕ) (e : Step) (reply : Reply) (links : List Link)
    (calls : List Call) : Type 0 where
  pub request : Request
  pub asks : asked rank e.hart ≡ Ask.Hub request
  pub stamp : e.stamp ≡ max rank.clock clock + 1
  pub gives : reply ≡ reply_of links calls e.rank request

pub record Calls (old : Rank) (before : HubView) (clock : ℕ) (e : Step) (reply : Reply) (new : Rank) (after : HubView)
    (links : List Link) (calls : List Call) : Type 0 where
  pub call : IsCall old before clock e reply links calls
  pub told : IsTold old e (Answer.Reply reply) new
  pub stands : StandsFor after links (calls ++ (e.rank, call.request) ∷ [])

-- why a step wasn't done that puts nothing out and asks nothing of the hub: there is none, or a page was refused
abbrev pub AloneFault : Rank → Step → Type 0 → StepFault → Type 0
AloneFault rank e step StepFault.NotAStep = ¬ step
AloneFault rank e step StepFault.Memory = LacksPages rank e.hart

-- why a quiet step wasn't done: there is none, or a page was refused, or room for its bytes behind the output
abbrev pub QuietFault : Rank → Step → StepFault → Type 0
QuietFault rank e StepFault.NotAStep = ¬ IsQuiet rank e
QuietFault rank e StepFault.Memory =
    LacksPages rank e.hart
    ⊎ ((e.kind ≡ Kind.Local) × (0 < growth_of (doing rank.site (part_of rank e.hart))))

-- a hub to which no more calls were made than its clock tells
abbrev pub HasCalls : HubView → ℕ → List Link → List Call → Type 0
HasCalls hub clock links calls = StandsFor hub links calls × (length calls ≤ clock)

-- a hub's request for which memory is taken: it carries bytes or posts, or makes what wasn't there
abbrev pub RequestTakesMemory : Rank → Step → List Link → List Call → Type 0
RequestTakesMemory rank e links calls =
    (request : Request) × (asked rank e.hart ≡ Ask.Hub request)
    × ((0 < carried_by_request request) ⊎ (makes request (reply_of links calls e.rank request) ≡ true))

-- why a call wasn't made
abbrev pub CallFault : Rank → HubView → ℕ → Step → Reply → StepFault → Type 0
CallFault rank hub clock e reply StepFault.NotAStep =
    (links : List Link) (calls : List Call) → HasCalls hub clock links calls
    → ¬ IsCall rank hub clock e reply links calls
CallFault rank hub clock e reply StepFault.Memory =
    (links : List Link) (calls : List Call) → HasCalls hub clock links calls
    → LacksPages rank e.hart ⊎ RequestTakesMemory rank e links calls
