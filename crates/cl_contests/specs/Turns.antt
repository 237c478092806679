-- Single turns of first harts, and where several of them lead.
use Rattle.std.specs.Prelude.{ℕ, ◌+◌, ◌≡◌, ◌≢◌, ◌<◌, ◌^◌, ◌⊎◌, Bool, true, false, List, length, slice_get, Option, Some, None}
use Rattle.rv_image_types.specs.declared.images.ImageParts.{ImageParts}
use Rattle.mp_types.specs.declared.replies.Reply.TheVariants.{NotYet}
use Rattle.mp_types.specs.declared.requests.Request.{Request}
use Rattle.mp_clash_laws.specs.Exchanges.{IsPosting}
use Rattle.cl_state.specs.declared.asking.Ask.{Ask}
use Rattle.cl_state.specs.declared.state.RankState.{RankState}
use Rattle.cl_state.specs.Asked.{asked, doing, part_of}
use Rattle.cl_state.specs.Room.{rank_of}
use Rattle.cl_state_laws.specs.Vain.{waits_on}
use Rattle.cl_trace.specs.Traces.{kind_of_bare}
use Rattle.cl_trace.specs.declared.events.Bare.{Bare}
use Rattle.cl_trace.specs.declared.events.Kind.{Kind}
use Rattle.cl_machine.specs.declared.steps.Step.{Step}
use Rattle.cl_order_laws.specs.Closed.{Node}
use Rattle.cl_reduction_laws.specs.Below.{AreAlike, AskWithin}
use Rattle.cl_moves.specs.Cycles.{GoesRoundAt}
use Rattle.cl_moves.specs.Standing.{StandsAt}
use Rattle.cl_moves.specs.Sure.{IsReadyKind}
use Rattle.cl_moves.specs.declared.standing.Standing.{Standing}
use Rattle.cl_rests.specs.Telling.{IsRestAt}
use Rattle.cl_reduction_laws.specs.Clusters.{Search, awake_cluster}
use Rattle.cl_reduction_laws.specs.Complete.{PollWithin}
use Rattle.cl_reduction_laws.specs.Patterns.{InitMayPass, IsAllowed, IsInitialisation, MayMeet, MayPass, Pattern, pattern_of}
use Rattle.cl_reduction_laws.specs.Settled.{AllWithin}
use Rattle.cl_contests.specs.declared.patterns.AskedBy.{AskedBy}
use Rattle.cl_contests.specs.Going.{IsFirstHart, LeadsOn, SettlesFrom}
use Rattle.cl_contests.specs.Kept.{wild_of}

-- the rank doesn't rest, if standard sends may wait for their receives
abbrev pub MayGoFirst : Bool → Standing → ℕ → Type 0
MayGoFirst may_wait standing r = may_wait ≡ true → IsRestAt standing r false

-- ---- turns that need only their rank

-- a turn of this kind is what is asked, and it goes on
abbrev pub IsBusyKind : Ask → Kind → Type 0
IsBusyKind Ask.Plain kind = kind ≡ Kind.Plain
IsBusyKind Ask.Local kind = kind ≡ Kind.Local
IsBusyKind _ kind = ⊥

abbrev pub IsBusyIfSome : Ask → Option Bare → Type 0
IsBusyIfSome ask None = Unit {0}
IsBusyIfSome ask (Some kind) = IsBusyKind ask (kind_of_bare kind)

-- the next turn of a rank that may go first, which needs only the rank and goes on, and polls no send that it may not poll
pub record IsBusyTurn (search : Search) (standing : Standing) (e : Step) : Type 0 where
  pub own : RankState
  pub there : slice_get standing.cluster.ranks.items e.rank ≡ Some own
  pub hart_is : e.hart ≡ 0
  pub inside : 0 < length own.harts.items
  pub stamp_is : e.stamp ≡ own.clock + 1
  pub low : e.stamp < 2 ^ 62
  pub busy : IsBusyKind (asked (rank_of own) 0) e.kind
  pub polls : PollWithin search.polls_of_complete e.rank (rank_of own) 0
  pub anyway : MayGoFirst search.may_wait standing e.rank

abbrev pub IsBusyNext : Search → Standing → Option Step → Type 0
IsBusyNext search standing None = Unit {0}
IsBusyNext search standing (Some e) = IsBusyTurn search standing e

-- by each order that names the first hart alone
abbrev pub GoesAlone : Search → Standing → Standing → Type 0
GoesAlone search old new = (order : List ℕ) → IsFirstHart order → LeadsOn order old new (SettlesFrom search)

-- by each order that names the first hart alone, the rank goes round by itself for ever
abbrev pub GoesRoundAlone : Standing → Standing → ℕ → Type 0
GoesRoundAlone old new r = (order : List ℕ) → IsFirstHart order → GoesRoundAt order old new r

-- ---- what ranks ask

-- the rank's first hart asks within the patterns
abbrev pub AsksWithin : Search → ℕ → RankState → Type 0
AsksWithin search r own =
    IsAllowed search.patterns r (pattern_of (rank_of own) 0)
    × AskWithin search.wild r (asked (rank_of own) 0)
    × PollWithin search.polls_of_complete r (rank_of own) 0

-- whichever node the standing is, each rank asks within the patterns there
abbrev pub TellsWithin : Search → Standing → Bool → Type 0
TellsWithin search standing within =
    within ≡ true → (image : ImageParts) (here : Node) → StandsAt image standing here → AllWithin search here.cluster

-- ---- turns that nobody contests

-- a send or a receive, or an initialisation, that may pass whatever other ranks may ask
pub data IsUncontested (search : Search) (r : ℕ) (q : Request) : Type 0 where
  can_post : IsPosting q → ((s : ℕ) (p : Pattern) → s ≢ r → IsAllowed search.patterns s p → MayPass search.wild r q s p)
      → IsUncontested search r q
  can_begin : IsInitialisation q
      → ((s : ℕ) (p : Pattern) → s ≢ r → IsAllowed search.patterns s p → InitMayPass r q s p)
      → IsUncontested search r q

-- the next turn of a rank that may go first, a call for what is there, or one that nobody contests
pub record IsFirstTurn (search : Search) (standing : Standing) (e : Step) : Type 0 where
  pub own : RankState
  pub there : slice_get standing.cluster.ranks.items e.rank ≡ Some own
  pub hart_is : e.hart ≡ 0
  pub request : Request
  pub asks : asked (rank_of own) 0 ≡ Ask.Hub request
  pub first : IsReadyKind request e.kind ⊎ IsUncontested search e.rank request
  pub anyway : MayGoFirst search.may_wait standing e.rank

abbrev pub IsFirstNext : Search → Standing → Option Step → Type 0
IsFirstNext search standing None = Unit {0}
IsFirstNext search standing (Some e) = IsFirstTurn search standing e

-- of the call of a rank's first hart
abbrev pub IsFirstCall : Search → ℕ → Request → Option Step → Type 0
IsFirstCall search rank request None = Unit {0}
IsFirstCall search rank request (Some e) =
    (e.rank ≡ rank) × (e.hart ≡ 0) × (IsReadyKind request e.kind ⊎ IsUncontested search rank request)

-- where each rank asked within the patterns all the way
abbrev pub GoesWithin : Search → Standing → Standing → Bool → Type 0
GoesWithin search old new within =
    within ≡ true → (order : List ℕ) → IsFirstHart order → LeadsOn order old new (SettlesFrom search)

-- ---- turns at boxes

-- a turn that fills or empties a box, or finds it empty
abbrev pub IsFilling : Kind → Type 0
IsFilling Kind.Ready = Unit {0}
IsFilling Kind.Take = Unit {0}
IsFilling Kind.Freed = Unit {0}
IsFilling _ = ⊥

-- a partition is made ready
abbrev pub IsMaking : Ask → Type 0
IsMaking (Ask.Ready link part bytes) = Unit {0}
IsMaking _ = ⊥

-- the rank makes a partition ready, or makes its call anew until a partition came or was taken; and no other rank is on the
-- same side of the link
pub record IsMeeting (search : Search) (r : ℕ) (own : RankState) : Type 0 where
  pub waits : IsMaking (asked (rank_of own) 0) ⊎ (waits_on (doing own.site (part_of (rank_of own) 0)) ≡ true)
  pub pass : (s : ℕ) (p : Pattern) → s ≢ r → IsAllowed search.patterns s p → MayMeet (asked (rank_of own) 0) p

-- the next turn of such a rank that may go first, which finds what it asks for
pub record IsMeetingTurn (search : Search) (standing : Standing) (e : Step) : Type 0 where
  pub own : RankState
  pub there : slice_get standing.cluster.ranks.items e.rank ≡ Some own
  pub hart_is : e.hart ≡ 0
  pub fills : IsFilling e.kind
  pub meets : IsMeeting search e.rank own
  pub anyway : MayGoFirst search.may_wait standing e.rank

-- of a turn that asks this, by what it was found to be
abbrev pub IsMeetingCall : Search → ℕ → Bool → Ask → Option Step → Type 0
IsMeetingCall search rank waits ask None = Unit {0}
IsMeetingCall search rank waits ask (Some e) =
    (e.rank ≡ rank) × (e.hart ≡ 0) × IsFilling e.kind × (IsMaking ask ⊎ (waits ≡ true))
    × ((s : ℕ) (p : Pattern) → s ≢ rank → IsAllowed search.patterns s p → MayMeet ask p)

abbrev pub IsMeetingNext : Search → Standing → Option Step → Type 0
IsMeetingNext search standing None = Unit {0}
IsMeetingNext search standing (Some e) = IsMeetingTurn search standing e

-- ---- polls of what isn't there

-- the next turn of a rank, which makes a call that is made anew until there is something, and is told that nothing is there
pub record IsVainTurn (standing : Standing) (e : Step) : Type 0 where
  pub own : RankState
  pub there : slice_get standing.cluster.ranks.items e.rank ≡ Some own
  pub hart_is : e.hart ≡ 0
  pub on : waits_on (doing own.site (part_of (rank_of own) 0)) ≡ true
  pub kind_is : (e.kind ≡ Kind.Hub NotYet) ⊎ (e.kind ≡ Kind.Miss)

abbrev pub IsVainNext : Standing → Option Step → Type 0
IsVainNext standing None = Unit {0}
IsVainNext standing (Some e) = IsVainTurn standing e

abbrev pub IsVainCall : ℕ → Option Step → Type 0
IsVainCall rank None = Unit {0}
IsVainCall rank (Some e) = (e.rank ≡ rank) × (e.hart ≡ 0) × ((e.kind ≡ Kind.Hub NotYet) ⊎ (e.kind ≡ Kind.Miss))

-- the same but for who is awake, by each order that names the first hart alone, and in each search
abbrev pub GoesInVain : Standing → Standing → Bool → Type 0
GoesInVain old new polled =
    polled ≡ true → (order : List ℕ) (kept : List AskedBy) → IsFirstHart order
    → LeadsOn order old new (λ here there. AreAlike (wild_of kept) (awake_cluster here) (awake_cluster there))
