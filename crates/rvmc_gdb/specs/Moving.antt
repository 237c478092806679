-- What is answered to what chooses threads and moves them: a motion leads where rvmc_motions says, and is told there.
use Rattle.std.specs.Prelude.{ℕ, ◌≡◌, Bool, true, false, List, Option, Some, None}
use Rattle.std.specs.Option.{unwrap_or}
use Rattle.cl_debug.specs.Debugging.{Debugging, at_place}
use Rattle.rvmc_motions.specs.declared.marks.Halt.{Halt}
use Rattle.rvmc_motions.specs.declared.marks.Motion.{Motion}
use Rattle.rvmc_motions.specs.declared.marks.Motion.TheVariants as motions
use Rattle.rvmc_motions.specs.declared.marks.Mover.{Mover}
use Rattle.rvmc_motions.specs.Motions.{GoesBackwards, GoesForwards}
use Rattle.rvmc_protocol.specs.Replies.Stops.{stop_text}
use Rattle.rvmc_protocol.specs.declared.replies.stops.Stop.TheVariants as stops
use Rattle.rvmc_protocol.specs.declared.requests.threads.Move.{Move}
use Rattle.rvmc_protocol.specs.declared.requests.threads.Move.TheVariants.{Go, Step, Stop}
use Rattle.rvmc_protocol.specs.declared.requests.threads.Thread.{Thread}
use Rattle.rvmc_protocol.specs.declared.requests.threads.Thread.TheVariants.{All, Any, One}
use Rattle.rvmc_gdb.specs.declared.session.Goal.{Goal}
use Rattle.rvmc_gdb.specs.declared.session.Who.{Who}
use Rattle.rvmc_gdb.specs.Goals.{goal_ahead, goal_behind, goal_who, with_goal}
use Rattle.rvmc_gdb.specs.Serving.{Serving, done, own_thread, ranks_of, refused, who_of, with_who}

-- ---- the thread that is meant

-- the hart of this thread is meant, if there is one
abbrev pub SelectsWho : Serving → Option Who → Serving → List ℕ → Type 0
SelectsWho old None new text = (new ≡ old) × (text ≡ refused)
SelectsWho old (Some who) new text = (new ≡ with_who old who) × (text ≡ done)

abbrev pub Selects : Serving → Thread → Serving → List ℕ → Type 0
Selects old All new text = (new ≡ old) × (text ≡ done)
Selects old Any new text = (new ≡ old) × (text ≡ done)
Selects old (One thread) new text = SelectsWho old (who_of old thread) new text

-- ---- the thread that a step moves

abbrev pub with_moved : Serving → Option Who → Serving
with_moved serving moved = record serving { moved = moved }

abbrev pub SelectsMovedWho : Serving → Option Who → Serving → List ℕ → Type 0
SelectsMovedWho old None new text = (new ≡ old) × (text ≡ refused)
SelectsMovedWho old (Some who) new text = (new ≡ with_moved old (Some who)) × (text ≡ done)

abbrev pub SelectsMoved : Serving → Thread → Serving → List ℕ → Type 0
SelectsMoved old All new text = (new ≡ with_moved old None) × (text ≡ done)
SelectsMoved old Any new text = (new ≡ with_moved old None) × (text ≡ done)
SelectsMoved old (One thread) new text = SelectsMovedWho old (who_of old thread) new text

-- ---- motions

abbrev pub mover_of : Serving → Who → Motion → Mover
mover_of serving who motion = record { ranks = ranks_of serving; rank = who.rank; hart = who.hart; motion = motion }

-- the hart that is meant
abbrev pub own_who : Serving → Who
own_who serving = record { rank = serving.rank; hart = serving.hart }

-- the one that a step moves where no thread is named
abbrev pub moved_who : Serving → Who
moved_who serving = unwrap_or serving.moved (own_who serving)

-- where a motion ended: its hart is meant from then on
abbrev pub halt_who : Halt → Who
halt_who halt = record { rank = halt.rank; hart = halt.hart }

abbrev pub halted : Serving → Halt → Debugging → Serving
halted old halt debugging = with_who (record old { debugging = debugging }) (halt_who halt)

-- and that is told
abbrev pub halt_text : Serving → Halt → List ℕ
halt_text serving halt = stop_text halt.stop (own_thread serving)

-- the session went forwards to where this motion ends, and tells why it ends there
pub record Forwards (old : Serving) (mover : Mover) (new : Serving) (text : List ℕ) : Type 0 where
  pub halt : Halt
  pub goes : GoesForwards old.debugging old.marks mover halt new.debugging
  pub stands : new ≡ halted old halt new.debugging
  pub told : text ≡ halt_text new halt

-- and backwards
pub record Backwards (old : Serving) (mover : Mover) (new : Serving) (text : List ℕ) : Type 0 where
  pub halt : Halt
  pub goes : GoesBackwards old.debugging old.marks mover halt new.debugging
  pub stands : new ≡ halted old halt new.debugging
  pub told : text ≡ halt_text new halt

-- a step of a thread's hart, if there is one
abbrev pub Steps : Serving → Option Who → Serving → List ℕ → Type 0
Steps old None new text = (new ≡ old) × (text ≡ refused)
Steps old (Some who) new text = Forwards old (mover_of old who motions.Step) new text

abbrev pub StepsThread : Serving → Thread → Serving → List ℕ → Type 0
StepsThread old All new text = Forwards old (mover_of old (moved_who old) motions.Step) new text
StepsThread old Any new text = Forwards old (mover_of old (moved_who old) motions.Step) new text
StepsThread old (One thread) new text = Steps old (who_of old thread) new text

-- that the threads stand, for no cause
abbrev pub standing_text : Serving → List ℕ
standing_text serving = stop_text stops.Step (own_thread serving)

-- ---- runs: to the place that was asked for, where it lies that way, or else to where the motion ends. A run forgets that
-- place, and a step doesn't

-- where one rank is served that hart's is from then on, so a hart that was to be moved may be of another one
abbrev pub moved_anywhere : Bool → Option Who → Option Who
moved_anywhere true moved = moved
moved_anywhere false moved = None

abbrev pub arrived : Serving → Goal → Serving
arrived old goal =
    with_who
    (record old {
      debugging = at_place old.debugging goal.place;
      moved = moved_anywhere old.all old.moved;
      goal = None;
    })
    (goal_who goal)

abbrev pub Arrives : Serving → Goal → Serving → List ℕ → Type 0
Arrives old goal new text = (new ≡ arrived old goal) × (text ≡ stop_text stops.There (own_thread new))

abbrev pub RunsOn : Option Goal → Serving → Serving → List ℕ → Type 0
RunsOn (Some goal) old new text = Arrives old goal new text
RunsOn None old new text = Forwards (with_goal old None) (mover_of old (own_who old) motions.Run) new text

abbrev pub RunsBackTo : Option Goal → Serving → Serving → List ℕ → Type 0
RunsBackTo (Some goal) old new text = Arrives old goal new text
RunsBackTo None old new text = Backwards (with_goal old None) (mover_of old (own_who old) motions.Run) new text

abbrev pub Moves : Serving → Move → Serving → List ℕ → Type 0
Moves old Go new text = RunsOn (goal_ahead old) old new text
Moves old (Step thread) new text = StepsThread old thread new text
Moves old Stop new text = (new ≡ old) × (text ≡ standing_text old)

abbrev pub StepsBack : Serving → Serving → List ℕ → Type 0
StepsBack old new text = Backwards old (mover_of old (moved_who old) motions.Step) new text

abbrev pub RunsBack : Serving → Serving → List ℕ → Type 0
RunsBack old new text = RunsBackTo (goal_behind old) old new text
