-- What turns leave, and why there is none.
use Rattle.std.specs.Prelude.{ℕ, ◌≡◌, ◌+◌, ◌<◌, ◌^◌, Bool, true, false, ◌&&◌, List, [], ◌∷◌, ◌++◌, Result, Ok, Err}
use Rattle.std.specs.Prelude.{OnOk, IfOk, IfErr}
use Rattle.std.specs.List.{list_all}
use Rattle.std.proofs.Common.{refl, sym, ap, ◌∙◌, subst, arith}
use mathlib.Core.Logic.{inl, inr}
use Rattle.rv_hart.specs.State.{State, is_stopped}
use Rattle.mp_types.specs.declared.requests.Request.{Request}
use Rattle.mp_types.specs.declared.replies.Reply.{Reply}
use Rattle.cl_journal.specs.Replaying.{HubHistory}
use Rattle.cl_journal.specs.declared.journal.HubFault.{HubFault}
use Rattle.cl_trace.specs.declared.events.Event.{Event}
use Rattle.cl_trace.specs.declared.events.Kind.{Kind}
use Rattle.cl_state.specs.declared.asking.Ask.{Ask}
use Rattle.cl_state.specs.Asked.{asked}
use Rattle.cl_state.specs.Rank.{Rank}
use Rattle.cl_rank.specs.declared.stops.Stop.{Stop}
use Rattle.cl_deeds.specs.Deeds.{Act, Suits, IsStamp, kind_of, request_of}
use Rattle.cl_deeds.specs.Turns.{AllStopped, IsActive}
use Rattle.cl_rank.specs.Turning.{Answered, DeskRule, IsTurn, RankView, StopHolds, TellsAct}
use Rattle.cl_deeds.specs.Turns.{all_stopped as all_stopped_of}
use Rattle.cl_deeds.proofs.Alone.{clock_moved, stamp_above}
use Rattle.test_cluster.specs.Turns.{EndsWith, Enters, IsReplied, LeavesOne, StoppedRows}

-- what follows on Ok
pub on_ok : {X E P Q : Type 0} (r : Result X E) → (P → Q) → OnOk r P → OnOk r Q
on_ok (Ok x) f p = f p
on_ok (Err e) f p = tt

module _ {D : Type 0} (gives : DeskRule D) (hart : ℕ) (rank : Rank) (room turns budget : ℕ) (before after : D) where
  -- the causes exclude one another
  budget_told : (s : Stop) → ¬ (AllStopped rank) → turns ≡ budget
      → StopHolds gives hart rank room turns budget before after s → s ≡ Stop.Budget
  budget_told s runs used (inr h) = absurd (omega (arith, used, h.0.left))
  budget_told Stop.AllEnded runs used (inl h) = absurd (runs h.0)
  budget_told Stop.Budget runs used (inl h) = refl
  budget_told Stop.Memory runs used (inl h) = absurd (omega (arith, used, h.0.0.left))
  budget_told (Stop.ClockFull c) runs used (inl h) = absurd (omega (arith, used, h.0.1))
  budget_told (Stop.Calls n) runs used (inl h) = absurd h.0

  end_told : (s : Stop) → AllStopped rank → StopHolds gives hart rank room turns budget before after s → s ≡ Stop.AllEnded
  end_told s stopped (inr h) = absurd (h.0.runs stopped)
  end_told Stop.AllEnded stopped (inl h) = refl
  end_told Stop.Budget stopped (inl h) = absurd (h.0.0 stopped)
  end_told Stop.Memory stopped (inl h) = absurd (h.0.0.runs stopped)
  end_told (Stop.ClockFull c) stopped (inl h) = absurd (h.0.0 stopped)
  end_told (Stop.Calls n) stopped (inl h) = absurd h.0

  full_told : (s : Stop) → ¬ (AllStopped rank) → turns < budget → rank.clock + 1 ≡ 2 ^ 62
      → StopHolds gives hart rank room turns budget before after s → s ≡ Stop.ClockFull rank.clock
  full_told s runs left full (inr h) = absurd (omega (arith, full, h.0.low))
  full_told Stop.AllEnded runs left full (inl h) = absurd (runs h.0)
  full_told Stop.Budget runs left full (inl h) = absurd (omega (arith, left, h.0.1))
  full_told Stop.Memory runs left full (inl h) = absurd (omega (arith, full, h.0.0.low))
  full_told (Stop.ClockFull c) runs left full (inl h) = ap Stop.ClockFull (sym h.0.2)
  full_told (Stop.Calls n) runs left full (inl h) = absurd h.0

  pub used_budget : {X : Type 0} (r : Result X Stop) → ¬ (AllStopped rank) → turns ≡ budget
      → OnOk r (IsActive rank turns budget)
      → IfErr r (λ s. StopHolds gives hart rank room turns budget before after s) → r ≡ Err Stop.Budget
  used_budget (Ok x) runs used active holds = absurd (omega (arith, used, active.left))
  used_budget (Err s) runs used active holds = ap Err (budget_told s runs used holds)

  pub all_stopped : {X : Type 0} (r : Result X Stop) → AllStopped rank → OnOk r (IsActive rank turns budget)
      → IfErr r (λ s. StopHolds gives hart rank room turns budget before after s) → r ≡ Err Stop.AllEnded
  all_stopped (Ok x) stopped active holds = absurd (active.runs stopped)
  all_stopped (Err s) stopped active holds = ap Err (end_told s stopped holds)

  pub full_clock : {X : Type 0} (r : Result X Stop) → ¬ (AllStopped rank) → turns < budget → rank.clock + 1 ≡ 2 ^ 62
      → OnOk r (IsActive rank turns budget)
      → IfErr r (λ s. StopHolds gives hart rank room turns budget before after s) → r ≡ Err (Stop.ClockFull rank.clock)
  full_clock (Ok x) runs left full active holds = absurd (omega (arith, full, active.low))
  full_clock (Err s) runs left full active holds = ap Err (full_told s runs left full holds)

abbrev event : ℕ → ℕ → Act → Event
event hart stamp act = record { hart = hart; stamp = stamp; kind = kind_of act; request = request_of act }

-- a hart that idles leaves an idle event, and tells nobody
by_idle : (rank hart stamp : ℕ) (hub left : HubHistory) (act : Act) → Suits Ask.Idle act
    → TellsAct Answered rank hart stamp hub left act
    → (kind_of act ≡ Kind.Idle) × (left ≡ hub)
by_idle rank hart stamp hub left Act.Plain h t = absurd (cc)
by_idle rank hart stamp hub left Act.Local h t = absurd (cc)
by_idle rank hart stamp hub left (Act.Hub clock request reply) h t = absurd (cc)
by_idle rank hart stamp hub left (Act.Ready link part bytes) h t = absurd (cc)
by_idle rank hart stamp hub left (Act.Take link part gate bytes) h t = absurd (cc)
by_idle rank hart stamp hub left (Act.Miss link part) (inl h) t = absurd (cc)
by_idle rank hart stamp hub left (Act.Miss link part) (inr h) t = absurd (cc)
by_idle rank hart stamp hub left (Act.Freed link part gate) h t = absurd (cc)
by_idle rank hart stamp hub left Act.Held h t = absurd (cc)
by_idle rank hart stamp hub left Act.Idle h t = (refl, t)

-- a hart that asks the hub has its call entered
by_call : (request : Request) (hart : ℕ) (old : Rank) (before after : List Event) (hub left : HubHistory) (stamp : ℕ)
    (act : Act) → Suits (Ask.Hub request) act → IsStamp old.clock act stamp
    → TellsAct Answered old.site.number hart stamp hub left act
    → after ≡ before ++ event hart stamp act ∷ [] → Enters request hart old before after hub left
by_call request hart old before after hub left stamp Act.Plain h s t e = absurd (cc)
by_call request hart old before after hub left stamp Act.Local h s t e = absurd (cc)
by_call request hart old before after hub left stamp (Act.Hub clock made reply) h s t e =
    let same : made ≡ request = cc in
    record {
      entry = record {
        rank = old.site.number;
        hart = hart;
        clock = clock;
        stamp = stamp;
        request = made;
        reply = reply;
      };
      entered = t.entries;
      rank_is = refl;
      hart_is = refl;
      clock_is = s.0;
      request_is = same;
      behind = e ∙ ap (λ q. before ++ event hart stamp (Act.Hub clock q reply) ∷ []) same;
    }
by_call request hart old before after hub left stamp (Act.Ready link part bytes) h s t e = absurd (cc)
by_call request hart old before after hub left stamp (Act.Take link part gate bytes) h s t e = absurd (cc)
by_call request hart old before after hub left stamp (Act.Miss link part) (inl h) s t e = absurd (cc)
by_call request hart old before after hub left stamp (Act.Miss link part) (inr h) s t e = absurd (cc)
by_call request hart old before after hub left stamp (Act.Freed link part gate) h s t e = absurd (cc)
by_call request hart old before after hub left stamp Act.Held h s t e = absurd (cc)
by_call request hart old before after hub left stamp Act.Idle h s t e = absurd (cc)

module _ (hart : ℕ) (old new : RankView) (hub left : HubHistory) (turn : IsTurn Answered hart old new hub left) where
  -- the deed's hart and rank are those of the turn
  answers : (asks : Ask) → asked old.rank hart ≡ asks → Suits asks turn.deed.act
  answers asks e = subst (λ a. Suits a turn.deed.act) e
      (subst (λ h. Suits (asked old.rank h) turn.deed.act) turn.by turn.moves.2)

  tells : TellsAct Answered old.rank.site.number hart turn.deed.stamp hub left turn.deed.act
  tells = subst (λ r. TellsAct Answered r hart turn.deed.stamp hub left turn.deed.act) turn.rank
      (subst (λ h. TellsAct Answered turn.deed.rank h turn.deed.stamp hub left turn.deed.act) turn.by turn.tells)

  behind : new.events ≡ old.events ++ event hart turn.deed.stamp turn.deed.act ∷ []
  behind = turn.event ∙ ap (λ h. old.events ++ event h turn.deed.stamp turn.deed.act ∷ []) turn.by

  pub leaves_one : LeavesOne hart old.rank new.rank old.events new.events
  leaves_one = record {
    event = event hart turn.deed.stamp turn.deed.act;
    behind = behind;
    hart_is = refl;
    above = stamp_above old.rank.clock turn.deed.stamp turn.deed.act turn.moves.3;
    clock_is = clock_moved old.rank new.rank turn.deed turn.moves;
  }

  pub idles : asked old.rank hart ≡ Ask.Idle → EndsWith Kind.Idle old.events new.events × (left ≡ hub)
  idles e =
      let act = turn.deed.act in
      let idle = by_idle old.rank.site.number hart turn.deed.stamp hub left act (answers Ask.Idle e) tells in
      (record { event = event hart turn.deed.stamp act; behind = behind; kind_is = idle.0 }, idle.1)

  pub enters : (request : Request) → asked old.rank hart ≡ Ask.Hub request
      → Enters request hart old.rank old.events new.events hub left
  enters request e =
      by_call request hart old.rank old.events new.events hub left turn.deed.stamp turn.deed.act
      (answers (Ask.Hub request) e) turn.moves.3 tells behind

-- what a locked hub answered
pub replied : (rank hart clock : ℕ) (request : Request) (r : Result (Reply × ℕ) HubFault)
    → ((j : HubHistory) × (k : HubHistory) × Answered j rank hart clock request r k) → IfOk r (IsReplied rank clock request)
replied rank hart clock request (Ok told) h = record { hub = h.0; reply_is = h.2.reply; stamp_is = h.2.stamp }
replied rank hart clock request (Err fault) h = tt

-- of two harts both are asked
both : (rank : Rank) (a b : State) → rank.harts ≡ a ∷ b ∷ []
    → all_stopped_of rank ≡ (is_stopped a.mode && (is_stopped b.mode && true))
both rank a b e = ap (λ (hs : List State). list_all (λ (h : State). is_stopped h.mode) hs) e

second : (x y : Bool) → y ≡ false → (x && (y && true)) ≡ true → ⊥
second true true e h = absurd (cc)
second true false e h = absurd (cc)
second false y e h = absurd (cc)

first : (x y : Bool) → x ≡ false → (x && (y && true)) ≡ true → ⊥
first true y e h = absurd (cc)
first false y e h = absurd (cc)

pub stopped_rows : StoppedRows
stopped_rows = record {
  over = λ rank a b code pc cause e p q. both rank a b e ∙ ap (λ m. is_stopped m && (is_stopped b.mode && true)) p
      ∙ ap (λ m. is_stopped m && true) q;
  runs = λ rank a b e q h. second (is_stopped a.mode) (is_stopped b.mode) (ap is_stopped q) (sym (both rank a b e) ∙ h);
  waits = λ rank a b w e p h. first (is_stopped a.mode) (is_stopped b.mode) (ap is_stopped p)
      (sym (both rank a b e) ∙ h);
}
