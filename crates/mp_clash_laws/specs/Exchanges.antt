-- Two calls of two ranks that may be exchanged.
use Rattle.std.specs.Prelude.{ℕ, ◌+◌, ◌<◌, ◌≡◌, ◌≢◌, ◌&&◌, true, false, length, Option, Some, None}
use Rattle.std.specs.List.{list_all, slice_get}
use Rattle.mp_types.specs.declared.messages.Message.{Message}
use Rattle.mp_types.specs.declared.replies.Reply.{Reply}
use Rattle.mp_types.specs.declared.replies.Reply.TheVariants.{Posted, Got}
use Rattle.mp_types.specs.declared.requests.Request.{Request}
use Rattle.mp_types.specs.declared.requests.Request.TheVariants as request
use Rattle.mp_match.specs.declared.posts.Post.TheVariants.{Receive}
use Rattle.mp_match.specs.declared.posts.Selection.{Selection}
use Rattle.mp_match.specs.Board.{is_send_of, line_of}
use Rattle.mp_hub.specs.Hub.{HubView, are_distinct, is_known, may_collect, outcome}
use Rattle.mp_alike_laws.specs.Renaming.{Renaming, number_by}
use Rattle.mp_source_laws.specs.Alike.{AlikeHubs, Wild}
use Rattle.mp_source_laws.specs.Laws.{AsksFrom}

-- a post that a reply tells of has the number that it has by other names
abbrev pub reply_by : Renaming → Reply → Reply
reply_by names (Posted post done) = Posted (number_by names post) done
reply_by names r = r

-- the hub behind a call of one rank and then one of another
abbrev pub behind : HubView → ℕ → Request → ℕ → Request → HubView
behind h r q s p = (outcome (outcome h r q).1 s p).1

-- of the calls q of rank r and p of rank s each is told the same, by these names, whichever is first
pub record AreTold (names : Renaming) (h : HubView) (r : ℕ) (q : Request) (s : ℕ) (p : Request) : Type 0 where
  pub mine : (outcome h r q).0 ≡ reply_by names (outcome (outcome h s p).1 r q).0
  pub theirs : (outcome (outcome h r q).1 s p).0 ≡ reply_by names (outcome h s p).0

-- each post that was there keeps its number
abbrev pub KeepsOld : Renaming → HubView → Type 0
KeepsOld names h = (place : ℕ) → place < length h.board.lines → names.to place ≡ place

-- whichever is first, both are told the same and the hubs are alike
pub record MayExchange (wild : Wild) (h : HubView) (r : ℕ) (q : Request) (s : ℕ) (p : Request) : Type 0 where
  pub names : Renaming
  pub old : KeepsOld names h
  pub told : AreTold names h r q s p
  pub hubs : AlikeHubs wild names (behind h s p r q) (behind h r q s p)

-- the number of the next post
abbrev pub next_of : HubView → ℕ
next_of h = length h.board.lines + 1

-- a receive of r takes the message of s at once where that was sent before, and else is posted and collects it behind
-- the send
pub record CollectsLater (wild : Wild) (h : HubView) (r : ℕ) (q : Request) (s : ℕ) (p : Request) : Type 0 where
  pub names : Renaming
  pub old : KeepsOld names h
  pub comm : ℕ
  pub source : Option ℕ
  pub tag : Option ℕ
  pub asks : q ≡ request.Recv true comm source tag
  pub message : Message
  pub at_once : (outcome (outcome h s p).1 r q).0 ≡ Got message
  pub posted : (outcome h r q).0 ≡ Posted (next_of h) false
  pub theirs : (outcome (outcome h r q).1 s p).0 ≡ reply_by names (outcome h s p).0
  pub later : (outcome (behind h r q s p) r (request.Collect (next_of h))).0 ≡ Got message
  pub hubs : AlikeHubs wild names (behind h s p r q)
      (outcome (behind h r q s p) r (request.Collect (next_of h))).1

-- ---- what is known of a hub, and which calls make no race

-- each receive of any source that waits is of a rank that may ask for any
abbrev pub WaitsWithin : Wild → HubView → Type 0
WaitsWithin wild h =
    (place : ℕ) (a : Selection) → slice_get h.board.lines place ≡ Some (record { post = Receive a; partner = None })
    → AsksFrom wild a.rank a.comm a.source

-- calls that make a post, which a standard send and a receive do
abbrev pub IsPosting : Request → Type 0
IsPosting (request.Send sync comm dest tag bytes) = Unit {0}
IsPosting (request.Recv now comm source tag) = Unit {0}
IsPosting _ = ⊥

-- not both are sends to one rank in one communicator where it may ask for any source
abbrev pub NoRace : Wild → Request → Request → Type 0
NoRace wild (request.Send a comm dest tag bytes) (request.Send b other to label others) =
    dest ≡ to → comm ≡ other → wild dest comm ≡ true → ⊥
NoRace wild _ _ = Unit {0}

-- a synchronous send to the rank that receives is told whether its receive was posted
abbrev pub NoSync : ℕ → Request → ℕ → Request → Type 0
NoSync r (request.Recv now comm source tag) s (request.Send true other dest label bytes) = dest ≢ r
NoSync r (request.Send true comm dest tag bytes) s (request.Recv now other source label) = dest ≢ s
NoSync r _ s _ = Unit {0}

-- what the rank names isn't its own, or was collected, or is named twice: its call is refused
abbrev pub IsRefused : HubView → ℕ → Request → Type 0
IsRefused h s (request.Collect post) = may_collect h s post ≡ false
IsRefused h s (request.Finished post) = is_send_of s (line_of h.board post) ≡ false
IsRefused h s (request.All posts) = (are_distinct posts && list_all (λ n. is_known h s n) posts) ≡ false
IsRefused h s _ = ⊥

-- calls that collect or look: of those that make no post these are told whether something is there
abbrev pub IsLook : Request → Type 0
IsLook (request.Collect post) = Unit {0}
IsLook (request.Finished post) = Unit {0}
IsLook (request.All posts) = Unit {0}
IsLook (request.Probe comm source tag) = Unit {0}
IsLook _ = ⊥

-- the send or receive q of another rank brings rank s nothing that it looks for by p: a send is told of at its destination
-- alone, and a receive by the looks of a rank that waits for a synchronous send to be received
abbrev pub BringsNothing : Request → ℕ → Request → Type 0
BringsNothing (request.Send sync comm dest tag bytes) s p = dest ≢ s
BringsNothing (request.Recv now comm source tag) s (request.Collect post) = Unit {0}
BringsNothing (request.Recv now comm source tag) s (request.Probe other from label) = Unit {0}
BringsNothing _ s p = ⊥
