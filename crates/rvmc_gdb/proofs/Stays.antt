-- Whatever is asked, the record stays.
use mathlib.Core.Logic.{inl, inr}
use Rattle.std.specs.Prelude.{ℕ, ◌≡◌, ◌<◌, Bool, true, false, List, [], ◌∷◌, Option, Some, None, if◌then◌else◌, nat_lt}
use Rattle.std.proofs.Common.{refl, sym, ap, subst, ◌∙◌, ltb-true}
use Rattle.rv_image_types.specs.declared.images.ImageParts.{ImageParts}
use Rattle.cl_debug.specs.Debugging.{Debugging, at_place}
use Rattle.cl_debug.specs.declared.faults.DebugFault.{DebugFault}
use Rattle.rvmc_protocol.specs.declared.monitor.typed.Typed.{Typed}
use Rattle.rvmc_protocol.specs.declared.monitor.typed.Typed.TheVariants as typed
use Rattle.rvmc_protocol.specs.Monitor.Typed.{typed_word}
use Rattle.rvmc_motions.specs.declared.marks.Mark.{Mark}
use Rattle.rvmc_motions.specs.declared.marks.Mover.{Mover}
use Rattle.rvmc_protocol.specs.Packets.Reading.{told}
use Rattle.rvmc_protocol.specs.declared.packets.reader.Message.{Message}
use Rattle.rvmc_protocol.specs.declared.packets.reader.Message.TheVariants.{Again, Arrived, Packet, Wrong}
use Rattle.rvmc_protocol.specs.Requests.{request_in}
use Rattle.rvmc_protocol.specs.declared.requests.Request.{Request}
use Rattle.rvmc_protocol.specs.declared.requests.Request.TheVariants as request
use Rattle.rvmc_protocol.specs.declared.requests.threads.Move.TheVariants as move
use Rattle.rvmc_protocol.specs.declared.requests.threads.Thread.{Thread}
use Rattle.rvmc_protocol.specs.declared.requests.threads.Thread.TheVariants as thread
use Rattle.rvmc_words.specs.declared.debug.DebugWord.TheVariants as word
use Rattle.rvmc_gdb.specs.Answers.{Answers}
use Rattle.rvmc_gdb.specs.Laws.{RecordStaysLaw}
use Rattle.rvmc_gdb.specs.declared.session.Who.{Who}
use Rattle.rvmc_gdb.specs.declared.ends.Found.{Found}
use Rattle.rvmc_gdb.specs.declared.ends.Side.{Side}
use Rattle.rvmc_gdb.specs.declared.ends.Side.TheVariants.{Gets, Sends}
use Rattle.rvmc_gdb.specs.declared.session.Goal.{Goal}
use Rattle.rvmc_gdb.specs.Goals.{goal_ahead, goal_behind, with_goal}
use Rattle.rvmc_gdb.specs.Moving.{Arrives, RunsBackTo, RunsOn}
use Rattle.rvmc_gdb.specs.Moving.{Backwards, Forwards, Selects, SelectsMoved, SelectsMovedWho, SelectsWho, Steps, StepsThread}
use Rattle.rvmc_gdb.specs.Points.{Sets}
use Rattle.rvmc_gdb.specs.Serving.{Serving, who_of, with_who}
use Rattle.rvmc_gdb.specs.Talks.{Connection, HearsUnless, MeetsTold, MeetsUnless, Replies, Serves, Talk, read, repeats}
use Rattle.rvmc_gdb.specs.Typing.{Debugs, Prints, PrintsChange, PrintsChangeIf, PrintsFound, PrintsGoal, with_rank}
use Rattle.rvmc_words.specs.declared.debug.Spot.{Spot}

-- the same image and the same steps, and a rank that is there
record IsKept (old new : Serving) : Type 0 where
  image : new.debugging.image ≡ old.debugging.image
  steps : new.debugging.steps ≡ old.debugging.steps
  rank : old.rank < old.debugging.image.ranks → new.rank < new.debugging.image.ranks

kept_same : (old : Serving) → IsKept old old
kept_same old = record { image = refl; steps = refl; rank = λ there. there }

kept_as : (old one new : Serving) → new ≡ one → IsKept old one → IsKept old new
kept_as old one new is kept = subst (λ (s : Serving). IsKept old s) (sym is) kept

kept_then : (old between new : Serving) → IsKept old between → IsKept between new → IsKept old new
kept_then old between new a b =
    record { image = b.image ∙ a.image; steps = b.steps ∙ a.steps; rank = λ there. b.rank (a.rank there) }

-- at another place of the same record
kept_at : (old new : Serving) (n : ℕ) → new.rank ≡ old.rank → new.debugging ≡ at_place old.debugging n → IsKept old new
kept_at old new n rank moved =
    let image = ap (λ (d : Debugging). d.image) moved in
    record {
      image = image;
      steps = ap (λ (d : Debugging). d.steps) moved;
      rank = λ there.
          subst (λ r. r < new.debugging.image.ranks) (sym rank)
          (subst (λ (i : ImageParts). old.rank < i.ranks) (sym image) there);
    }

-- whichever rank is meant, it is there
rank_there : (ranks rank own : ℕ) (there : Bool) → nat_lt rank ranks ≡ there → own < ranks
    → (if there then rank else own) < ranks
rank_there ranks rank own true low inside = ltb-true rank ranks low
rank_there ranks rank own false low inside = inside

kept_or : (old new : Serving) (n rank : ℕ)
    → new.rank ≡ (if nat_lt rank new.debugging.image.ranks then rank else old.rank)
    → new.debugging ≡ at_place old.debugging n → IsKept old new
kept_or old new n rank is moved =
    let image = ap (λ (d : Debugging). d.image) moved in
    record {
      image = image;
      steps = ap (λ (d : Debugging). d.steps) moved;
      rank = λ there.
          subst (λ r. r < new.debugging.image.ranks) (sym is)
          (rank_there new.debugging.image.ranks rank old.rank (nat_lt rank new.debugging.image.ranks) refl
          (subst (λ (i : ImageParts). old.rank < i.ranks) (sym image) there));
    }

-- ---- motions

kept_on : (old new : Serving) (mover : Mover) (text : List ℕ) → Forwards old mover new text → IsKept old new
kept_on old new mover text a =
    kept_or old new new.debugging.place a.halt.rank (ap (λ (s : Serving). s.rank) a.stands) a.goes.moved

kept_back : (old new : Serving) (mover : Mover) (text : List ℕ) → Backwards old mover new text → IsKept old new
kept_back old new mover text a =
    kept_or old new new.debugging.place a.halt.rank (ap (λ (s : Serving). s.rank) a.stands) a.goes.moved

kept_steps : (old new : Serving) (who : Option Who) (text : List ℕ) → Steps old who new text → IsKept old new
kept_steps old new None text a = kept_as old old new a.0 (kept_same old)
kept_steps old new (Some who) text a = kept_on old new _ text a

kept_thread : (old new : Serving) (which : Thread) (text : List ℕ) → StepsThread old which new text → IsKept old new
kept_thread old new thread.All text a = kept_on old new _ text a
kept_thread old new thread.Any text a = kept_on old new _ text a
kept_thread old new (thread.One number) text a = kept_steps old new (who_of old number) text a

kept_who : (old new : Serving) (who : Option Who) (text : List ℕ) → SelectsWho old who new text → IsKept old new
kept_who old new None text a = kept_as old old new a.0 (kept_same old)
kept_who old new (Some who) text a =
    kept_as old (with_who old who) new a.0
    (record {
      image = refl;
      steps = refl;
      rank = rank_there old.debugging.image.ranks who.rank old.rank (nat_lt who.rank old.debugging.image.ranks) refl;
    })

kept_moved : (old new : Serving) (who : Option Who) (text : List ℕ) → SelectsMovedWho old who new text → IsKept old new
kept_moved old new None text a = kept_as old old new a.0 (kept_same old)
kept_moved old new (Some who) text a = kept_as old _ new a.0 (record { image = refl; steps = refl; rank = λ there. there })

kept_select : (old new : Serving) (which : Thread) (text : List ℕ) → Selects old which new text → IsKept old new
kept_select old new thread.All text a = kept_as old old new a.0 (kept_same old)
kept_select old new thread.Any text a = kept_as old old new a.0 (kept_same old)
kept_select old new (thread.One number) text a = kept_who old new (who_of old number) text a

kept_select_moved : (old new : Serving) (which : Thread) (text : List ℕ) → SelectsMoved old which new text → IsKept old new
kept_select_moved old new thread.All text a = kept_as old _ new a.0 (record { image = refl; steps = refl; rank = λ there. there })
kept_select_moved old new thread.Any text a = kept_as old _ new a.0 (record { image = refl; steps = refl; rank = λ there. there })
kept_select_moved old new (thread.One number) text a = kept_moved old new (who_of old number) text a

kept_sets : (old new : Serving) (marks : Option (List Mark)) (text : List ℕ) → Sets old marks new text → IsKept old new
kept_sets old new None text a = kept_as old old new a.0 (kept_same old)
kept_sets old new (Some marks) text a = kept_as old _ new a.0 (record { image = refl; steps = refl; rank = λ there. there })

kept_goal : (old new : Serving) (goal : Option Goal) → new ≡ with_goal old goal → IsKept old new
kept_goal old new goal is = kept_as old (with_goal old goal) new is (record { image = refl; steps = refl; rank = λ there. there })

-- ---- runs, also to a place that was asked for

kept_arrived : (old new : Serving) (goal : Goal) (text : List ℕ) → Arrives old goal new text → IsKept old new
kept_arrived old new goal text a =
    kept_or old new goal.place goal.rank
    (ap (λ (s : Serving). s.rank) a.0
    ∙ sym (ap (λ (s : Serving). if nat_lt goal.rank s.debugging.image.ranks then goal.rank else old.rank) a.0))
    (ap (λ (s : Serving). s.debugging) a.0)

kept_run : (old new : Serving) (goal : Option Goal) (text : List ℕ) → RunsOn goal old new text → IsKept old new
kept_run old new (Some goal) text a = kept_arrived old new goal text a
kept_run old new None text a = kept_then old (with_goal old None) new (kept_goal old (with_goal old None) None refl) (kept_on (with_goal old None) new _ text a)

kept_run_back : (old new : Serving) (goal : Option Goal) (text : List ℕ) → RunsBackTo goal old new text → IsKept old new
kept_run_back old new (Some goal) text a = kept_arrived old new goal text a
kept_run_back old new None text a = kept_then old (with_goal old None) new (kept_goal old (with_goal old None) None refl) (kept_back (with_goal old None) new _ text a)

-- ---- words behind `monitor`

kept_debugging : (old new : Serving) → new ≡ record old { debugging = new.debugging } → new.debugging ≡ old.debugging → IsKept old new
kept_debugging old new stands same = kept_at old new old.debugging.place (ap (λ (s : Serving). s.rank) stands) same

kept_rank : (old new : Serving) (rank : ℕ) (there : Bool) → nat_lt rank old.debugging.image.ranks ≡ there
    → new ≡ (if there then with_rank old rank else old) → IsKept old new
kept_rank old new rank true low is =
    kept_as old (with_rank old rank) new is
    (record { image = refl; steps = refl; rank = λ there. ltb-true rank old.debugging.image.ranks low })
kept_rank old new rank false low is = kept_as old old new is (kept_same old)

kept_go : (old new : Serving) (n : ℕ) (fault : Option DebugFault) (text : List ℕ)
    → new ≡ record old { debugging = new.debugging } → Debugs old (word.Go n) fault new.debugging text → IsKept old new
kept_go old new n None text stands a = kept_at old new n (ap (λ (s : Serving). s.rank) stands) a.1
kept_go old new n (Some fault) text stands a = kept_debugging old new stands a.2

kept_place : (old new : Serving) (fault : Option DebugFault) (text : List ℕ)
    → new ≡ record old { debugging = new.debugging } → Debugs old word.Place fault new.debugging text → IsKept old new
kept_place old new None text stands a = kept_debugging old new stands a.0
kept_place old new (Some fault) text stands a = kept_debugging old new stands a.2

kept_aim : (old new : Serving) (none : List ℕ) (goal : Option Goal) (text : List ℕ) → PrintsGoal none old goal new text → IsKept old new
kept_aim old new none None text a = kept_goal old new None a.0
kept_aim old new none (Some goal) text a = kept_goal old new (Some goal) a.0

kept_found : (old new : Serving) (side : Side) (found : Option Found) (text : List ℕ) → PrintsFound side found old new text
    → IsKept old new
kept_found old new side None text a = kept_aim old new _ None text a
kept_found old new side (Some found) text a = kept_aim old new _ _ a.0 a.1

kept_change_if : (old new : Serving) (there : Bool) (mark : Mark) (text : List ℕ) → PrintsChangeIf there mark old new text → IsKept old new
kept_change_if old new false mark text a = kept_goal old new None a.0
kept_change_if old new true mark text a = kept_aim old new _ a.0 text a.2

kept_change : (old new : Serving) (at : Spot) (text : List ℕ) → PrintsChange at old new text → IsKept old new
kept_change old new at text (inl a) = kept_change_if old new _ _ text a.2.2
kept_change old new at text (inr a) = kept_goal old new None a.1

kept_prints : (old new : Serving) (word : Typed) (text : List ℕ) → Prints old word new text → IsKept old new
kept_prints old new typed.Help text a = kept_as old old new a.0 (kept_same old)
kept_prints old new typed.Why text a = kept_as old old new a.0 (kept_same old)
kept_prints old new (typed.Rank rank) text a = kept_rank old new rank (nat_lt rank old.debugging.image.ranks) refl a.0
kept_prints old new (typed.Go n) text a = kept_go old new n a.fault a.printed a.stands a.debugs
kept_prints old new typed.Place text a = kept_place old new a.fault text a.stands a.debugs
kept_prints old new (typed.Regs rank hart) text a = shown a.fault a.debugs
  where
    shown : (fault : Option DebugFault) → Debugs old (word.Regs rank hart) fault new.debugging text → IsKept old new
    shown None d = kept_debugging old new a.stands d.0
    shown (Some fault) d = kept_debugging old new a.stands d.2
kept_prints old new (typed.Bytes rank at count) text a = shown a.fault a.debugs
  where
    shown : (fault : Option DebugFault) → Debugs old (word.Bytes rank at count) fault new.debugging text → IsKept old new
    shown None d = kept_debugging old new a.stands d.0
    shown (Some fault) d = kept_debugging old new a.stands d.2
kept_prints old new typed.Sent text a = kept_found old new Gets a.0 text a.2
kept_prints old new typed.Got text a = kept_found old new Sends a.0 text a.2
kept_prints old new (typed.LastWrite at) text a = kept_change old new at text a
kept_prints old new typed.Unknown text a = kept_as old old new a.0 (kept_same old)

-- ---- requests

kept : (old new : Serving) (asked : Request) (text : List ℕ) → Answers old asked new text → IsKept old new
kept old new request.Supported text a = kept_as old old new a.0 (kept_same old)
kept old new (request.Description from count) text a = kept_as old old new a.0 (kept_same old)
kept old new (request.ThreadList from count) text a = kept_as old old new a.0 (kept_same old)
kept old new request.HostInfo text a = kept_as old old new a.0 (kept_same old)
kept old new request.ProcessInfo text a = kept_as old old new a.0 (kept_same old)
kept old new request.Why text a = kept_as old old new a.0 (kept_same old)
kept old new (request.Select which) text a = kept_select old new which text a
kept old new (request.SelectMoved which) text a = kept_select_moved old new which text a
kept old new (request.Alive number) text a = kept_as old old new a.0 (kept_same old)
kept old new request.Current text a = kept_as old old new a.0 (kept_same old)
kept old new request.FirstThreads text a = kept_as old old new a.0 (kept_same old)
kept old new request.MoreThreads text a = kept_as old old new a.0 (kept_same old)
kept old new (request.ThreadText number) text a = kept_as old old new a.0 (kept_same old)
kept old new request.Registers text a = kept_as old old new a.0 (kept_same old)
kept old new (request.Register number) text a = kept_as old old new a.0 (kept_same old)
kept old new (request.Bytes address count) text a = kept_as old old new a.0 (kept_same old)
kept old new (request.RawBytes address count) text a = kept_as old old new a.0 (kept_same old)
kept old new request.Moves text a = kept_as old old new a.0 (kept_same old)
kept old new (request.Move move.Go) text a = kept_run old new (goal_ahead old) text a
kept old new (request.Move (move.Step which)) text a = kept_thread old new which text a
kept old new (request.Move move.Stop) text a = kept_as old old new a.0 (kept_same old)
kept old new request.StepBack text a = kept_back old new _ text a
kept old new request.GoBack text a = kept_run_back old new (goal_behind old) text a
kept old new (request.Insert point address size) text a = kept_sets old new _ text a.sets
kept old new (request.Remove point address size) text a =
    kept_as old _ new a.0 (record { image = refl; steps = refl; rank = λ there. there })
kept old new request.Detach text a = kept_as old old new a.0 (kept_same old)
kept old new request.Kill text a = kept_as old old new a.0 (kept_same old)
kept old new (request.Monitor typed) text a = kept_prints old new (typed_word typed) a.printed a.prints
kept old new request.NoAcknowledgements text a = kept_as old old new a.0 (kept_same old)
kept old new request.Change text a = kept_as old old new a.0 (kept_same old)
kept old new request.Unknown text a = kept_as old old new a.0 (kept_same old)

-- ---- messages and bytes

kept_talk : (old new one : Talk) → new ≡ one → one.serving ≡ old.serving → IsKept old.serving new.serving
kept_talk old new one is same =
    kept_as old.serving old.serving new.serving (ap (λ (t : Talk). t.serving) is ∙ same) (kept_same old.serving)

kept_heard : (again : Bool) (old new : Talk) (payload text : List ℕ) → HearsUnless again old payload new text
    → IsKept old.serving new.serving
kept_heard true old new payload text a = kept_talk old new old a.0 refl
kept_heard false old new payload text a = kept old.serving new.serving (request_in payload) a.reply a.answers

kept_reply : (old new : Talk) (message : Message) (text : List ℕ) → Replies old message new text → IsKept old.serving new.serving
kept_reply old new (Packet payload) text a = kept_heard (repeats old payload) old new payload text a
kept_reply old new Wrong text a = kept_as old.serving old.serving new.serving (ap (λ (t : Talk). t.serving) a.0) (kept_same old.serving)
kept_reply old new Again text a = kept_as old.serving old.serving new.serving (ap (λ (t : Talk). t.serving) a.0) (kept_same old.serving)
kept_reply old new Arrived text a = kept_talk old new (read old) a.0 refl

kept_unless : (ended : Bool) (old new : Talk) (message : Message) (text : List ℕ) → MeetsUnless ended old message new text
    → IsKept old.serving new.serving
kept_unless true old new message text a =
    kept_as old.serving old.serving new.serving (ap (λ (t : Talk). t.serving) a.0) (kept_same old.serving)
kept_unless false old new message text a = kept_reply old new message a.reply a.replies

kept_told : (told : Option Message) (old new : Talk) (text : List ℕ) → MeetsTold old told new text → IsKept old.serving new.serving
kept_told None old new text a =
    kept_as old.serving old.serving new.serving (ap (λ (t : Talk). t.serving) a.0) (kept_same old.serving)
kept_told (Some message) old new text a = kept_unless old.ended old new message text a

kept_all : (old new : Connection) (bytes text : List ℕ) → Serves old bytes new text → IsKept old.talk.serving new.talk.serving
kept_all old new [] text a =
    kept_as old.talk.serving old.talk.serving new.talk.serving (ap (λ (c : Connection). c.talk.serving) a.0)
    (kept_same old.talk.serving)
kept_all old new (byte ∷ bytes) text a =
    kept_then old.talk.serving a.0.talk.serving new.talk.serving
    (kept_told (told old.place byte) old.talk a.0.talk a.1 a.3.meets) (kept_all a.0 new bytes a.2 a.4)

pub record_stays_law : RecordStaysLaw
record_stays_law = record {
  image = λ old new bytes text serves. (kept_all old new bytes text serves).image;
  steps = λ old new bytes text serves. (kept_all old new bytes text serves).steps;
  rank = λ old new bytes text serves there. (kept_all old new bytes text serves).rank there;
}
