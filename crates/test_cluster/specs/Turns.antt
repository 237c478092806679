-- What a turn leaves.
use Rattle.std.specs.Prelude.{ℕ, ◌≡◌, ◌+◌, ◌<◌, max, List, [], ◌∷◌, ◌++◌, Some}
use Rattle.rv_hart.specs.declared.state.Mode.TheVariants.{Running, Waiting, Ended, Trapped}
use Rattle.mp_types.specs.declared.requests.Request.{Request}
use Rattle.mp_types.specs.declared.replies.Reply.{Reply}
use Rattle.mp_hub.specs.Hub.{reply_of}
use Rattle.cl_journal.specs.Journal.{calls_of}
use Rattle.cl_journal.specs.Replaying.{HubHistory, clock_of}
use Rattle.cl_journal.specs.declared.entries.Entry.{Entry}
use Rattle.cl_trace.specs.declared.events.Event.{Event}
use Rattle.cl_trace.specs.declared.events.Kind.{Kind}
use Rattle.cl_state.specs.Rank.{Rank}
use Rattle.rv_hart.specs.State.{State}
use Rattle.rv_memory.specs.declared.fault.Cause.{Cause}
use Rattle.rv_hart.specs.declared.state.Wait.{Wait}
use Rattle.cl_deeds.specs.Turns.{AllStopped}

-- one event more: of this hart, with a stamp above the rank's clock before, which is its clock now
pub record LeavesOne (hart : ℕ) (old new : Rank) (before after : List Event) : Type 0 where
  pub event : Event
  pub behind : after ≡ before ++ event ∷ []
  pub hart_is : event.hart ≡ hart
  pub above : old.clock < event.stamp
  pub clock_is : new.clock ≡ event.stamp

-- one event more, of this kind
pub record EndsWith (kind : Kind) (before after : List Event) : Type 0 where
  pub event : Event
  pub behind : after ≡ before ++ event ∷ []
  pub kind_is : event.kind ≡ kind

-- one entry more, of the rank and the hart at the rank's clock, and one event with its request, reply and stamp
pub record Enters (request : Request) (hart : ℕ) (rank : Rank) (before after : List Event)
    (hub left : HubHistory) : Type 0 where
  pub entry : Entry
  pub entered : left.entries ≡ hub.entries ++ entry ∷ []
  pub rank_is : entry.rank ≡ rank.site.number
  pub hart_is : entry.hart ≡ hart
  pub clock_is : entry.clock ≡ rank.clock
  pub request_is : entry.request ≡ request
  pub behind : after ≡ before
      ++ record { hart = hart; stamp = entry.stamp; kind = Kind.Hub entry.reply; request = Some request } ∷ []

-- the reply of a hub after some calls, at the stamp above both clocks
pub record IsReplied (rank clock : ℕ) (request : Request) (told : Reply × ℕ) : Type 0 where
  pub hub : HubHistory
  pub reply_is : told.0 ≡ reply_of hub.links (calls_of hub.entries) rank request
  pub stamp_is : told.1 ≡ max clock (clock_of hub) + 1

-- of a rank with two harts: one ended and one trapped are all; one that runs, or waits, isn't
pub record StoppedRows : Type 0 where
  pub over : (rank : Rank) (a b : State) (code pc : ℕ) (cause : Cause)
      → rank.harts ≡ a ∷ b ∷ [] → a.mode ≡ Ended code → b.mode ≡ Trapped cause pc → AllStopped rank
  pub runs : (rank : Rank) (a b : State) → rank.harts ≡ a ∷ b ∷ [] → b.mode ≡ Running → ¬ (AllStopped rank)
  pub waits : (rank : Rank) (a b : State) (w : Wait) → rank.harts ≡ a ∷ b ∷ [] → a.mode ≡ Waiting w
      → ¬ (AllStopped rank)
