-- A turn of a rank: what it does to the rank, its trace and the desk, and why there is none.
use Rattle.std.specs.Prelude.{◌≡◌, ℕ, ◌<◌, ◌+◌, ◌^◌, ◌⊎◌, List, [], ◌∷◌, ◌++◌, Result, Ok, Err, Option}
use Rattle.mp_types.specs.declared.requests.Request.{Request}
use Rattle.mp_types.specs.declared.replies.Reply.{Reply}
use Rattle.cl_journal.specs.declared.journal.HubFault.{HubFault}
use Rattle.cl_journal.specs.declared.journal.HubFault.TheVariants as fault
use Rattle.cl_journal.specs.Replaying.{HubHistory}
use Rattle.cl_journal.specs.Calls.{Calls, IsRefusal}
use Rattle.cl_trace.specs.declared.events.Event.{Event}
use Rattle.cl_state.specs.declared.asking.Ask.{Ask}
use Rattle.cl_state.specs.Rank.{Rank}
use Rattle.cl_state.specs.Asked.{asked}
use Rattle.cl_deeds.specs.Deeds.{Act, Deed, event_of, RankMoves}
use Rattle.cl_sides.specs.Sides.{Sides}
use Rattle.cl_rank.specs.RankSides.{KeysMove}
use Rattle.cl_rank.specs.Sides.{box_id_of}
use Rattle.cl_rank.specs.declared.stops.Stop.{Stop}
use Rattle.cl_rank.specs.declared.stops.Stop.TheVariants as stop
use Rattle.cl_deeds.specs.Turns.{AllStopped, IsActive}
use Rattle.cl_deeds.specs.Memory.{TurnTakesMemory}

-- what a desk may do in a call: the desk before, the rank, the hart, the
-- rank's clock, the request, what was answered with its stamp, the desk after
abbrev pub DeskRule : Type 0 → Type 1
DeskRule D = D → ℕ → ℕ → ℕ → Request → Result (Reply × ℕ) HubFault → D → Type 0

-- a call of the hub itself: one entry more, or a refusal that leaves it
abbrev pub Answered : DeskRule HubHistory
Answered before rank hart clock request (Ok told) after = Calls before after rank hart clock request told
Answered before rank hart clock request (Err fault) after = IsRefusal before rank clock fault × (after ≡ before)

-- what an act tells the desk: a hub act its call, any other nothing
abbrev pub TellsAct : {D : Type 0} → DeskRule D → ℕ → ℕ → ℕ → D → D → Act → Type 0
TellsAct gives rank hart stamp before after (Act.Hub clock request reply) =
    gives before rank hart clock request (Ok (reply, stamp)) after
TellsAct gives rank hart stamp before after _ = after ≡ before

abbrev pub Tells : {D : Type 0} → DeskRule D → D → D → Deed → Type 0
Tells gives before after d = TellsAct gives d.rank d.hart d.stamp before after d.act

-- what contracts see of a rank that takes turns: its state, its events so far, its sides, and the box that its last
-- turn asked, by its link and its number there
pub record RankView : Type 0 where
  pub rank : Rank
  pub events : List Event
  pub sides : Sides
  pub asked_box : Option (ℕ × ℕ)

-- a turn of a hart: a deed by which the rank moves, with its event behind the events before, what it told the desk, and
-- what it made of the keys
pub record IsTurn {D : Type 0} (gives : DeskRule D) (hart : ℕ) (old new : RankView) (desk left : D) : Type 0 where
  pub deed : Deed
  pub rank : deed.rank ≡ old.rank.site.number
  pub by : deed.hart ≡ hart
  pub event : new.events ≡ old.events ++ event_of deed ∷ []
  pub moves : RankMoves old.rank deed new.rank
  pub tells : Tells gives desk left deed
  pub keys : KeysMove old.rank.site.version deed.stamp deed.act old.sides new.sides
  pub box : new.asked_box ≡ box_id_of deed.act

-- what a desk's refusal carries
abbrev pub IsFault : HubFault → Type 0
IsFault fault.Memory = Unit {0}
IsFault (fault.ClockFull c) = c + 1 ≡ 2 ^ 62
IsFault (fault.Calls n) = n ≡ 1048576

abbrev pub stop_of : HubFault → Stop
stop_of fault.Memory = stop.Memory
stop_of (fault.ClockFull c) = stop.ClockFull c
stop_of (fault.Calls n) = stop.Calls n

-- the desk refused the request that the hart asked for
abbrev pub Refuses : {D : Type 0} → DeskRule D → ℕ → Rank → D → D → HubFault → Type 0
Refuses gives hart rank before after f =
    (request : Request) × (asked rank hart ≡ Ask.Hub request)
    × gives before rank.site.number hart rank.clock request (Err f) after

-- why a rank stops of itself before a turn of a hart, whose trace has room for so many events more. All harts being
-- stopped is asked first, then the budget, then its clock; memory is refused only to a turn that takes some
abbrev pub IsCause : ℕ → Rank → ℕ → ℕ → ℕ → Stop → Type 0
IsCause hart rank room turns budget stop.AllEnded = AllStopped rank
IsCause hart rank room turns budget stop.Budget = (¬ (AllStopped rank)) × (turns ≡ budget)
IsCause hart rank room turns budget (stop.ClockFull c) =
    (¬ (AllStopped rank)) × (turns < budget) × (rank.clock ≡ c) × (c + 1 ≡ 2 ^ 62)
IsCause hart rank room turns budget stop.Memory = IsActive rank turns budget × TurnTakesMemory rank room hart
IsCause hart rank room turns budget (stop.Calls n) = ⊥

-- why a rank stops before a turn of a hart: of itself, the desk being told nothing, or else by the desk's refusal
abbrev pub StopHolds : {D : Type 0} → DeskRule D → ℕ → Rank → ℕ → ℕ → ℕ → D → D → Stop → Type 0
StopHolds gives hart rank room turns budget before after s =
    (IsCause hart rank room turns budget s × (after ≡ before))
    ⊎
    (IsActive rank turns budget × ((f : HubFault) × (s
    ≡ stop_of f) × IsFault f × Refuses gives hart rank before after f))
