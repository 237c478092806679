-- Instructions of a hart, one after another, as plain turns of its rank.
use Rattle.std.proofs.Common.{ℕ, zero, suc, ◌≡◌, ◌<◌, ◌≤◌, ◌+◌, ◌^◌, List, [], ◌∷◌, ◌++◌, Option, None, length, refl, sym, ap}
use Rattle.std.proofs.Common.{subst, ◌∙◌, arith, append_assoc, append-nil}
use Rattle.std.proofs.lemmas.List.{length-append}
use Rattle.part_channel.specs.Channels.{ChannelView}
use Rattle.part_channel.specs.Receiving.{RecvView}
use Rattle.part_channel.specs.Sending.{SendView}
use Rattle.cl_trace.specs.declared.events.Bare.TheVariants as bare
use Rattle.cl_trace.specs.declared.events.Event.{Event}
use Rattle.cl_trace.specs.BareRuns.{bare_events}
use Rattle.cl_trace.specs.Rising.{last_stamp}
use Rattle.cl_trace.proofs.Rising.{last_stamp-bare}
use Rattle.cl_trace.proofs.Runs.{length-bare}
use Rattle.cl_state.specs.declared.asking.Answer.TheVariants as answer
use Rattle.cl_state.specs.declared.state.RankState.{RankState}
use Rattle.cl_state.specs.Rank.{Rank}
use Rattle.cl_state.specs.Room.{rank_of}
use Rattle.cl_state.proofs.Moves.{told_at}
use Rattle.cl_rank.specs.declared.ranks.Rank.{Rank as Running}
use Rattle.cl_deeds.specs.Deeds.{event_of}
use Rattle.cl_rank.specs.Fitting.{RequestsFit}
use Rattle.cl_rank.specs.Plains.{IsPlainStep, IsPlainTurn, Repeats, plain_deed}
use Rattle.cl_sides.specs.Sides.{AreChannelsOf, AreSides, sides_in}
use Rattle.cl_rank.specs.Turning.{RankView}
use Rattle.cl_rank.specs.Views.{place_in, view_of}
use Rattle.cl_rank.proofs.Plain.{plain_moved}
use Rattle.cl_rank.proofs.Turned.{clock_told}
use Rattle.cl_rank.proofs.Went.{Keeps}

-- one step more
pub repeats_more : {S : Type 0} (Step : S → S → Type 0) (n : ℕ) (old mid new : S) → Repeats Step n old mid → Step mid new
    → Repeats Step (n + 1) old new
repeats_more Step zero old mid new same step = (new, subst (λ s. Step s new) same step, refl)
repeats_more Step (suc n) old mid new steps step =
    let count : suc (n + 1) ≡ suc n + 1 = omega arith in
    subst (λ k. Repeats Step k old new) count (steps.0, steps.1, repeats_more Step n steps.0 mid new steps.2 step)

abbrev pub seen : Rank → List Event → List (ℕ × SendView) → List (ℕ × RecvView) → Option (ℕ × ℕ) → RankView
seen rank events sends recvs box = record { rank = rank; events = events; sides = sides_in sends recvs; asked_box = box }

-- what a rank with these sides keeps
pub record Kept (old new : Rank) (sends : List (ℕ × SendView)) (recvs : List (ℕ × RecvView)) : Type 0 where
  pub sides : AreSides new.site.version new.phases new.clock (sides_in sends recvs)
  pub fit : RequestsFit new.requests new.phases
  pub own : (channels : List ChannelView) → AreChannelsOf old.site.version channels (sides_in sends recvs)
      → AreChannelsOf new.site.version channels (sides_in sends recvs)

module _ (hart : ℕ) (sends : List (ℕ × SendView)) (recvs : List (ℕ × RecvView)) where
  pub kept_by : (n : ℕ) (old new : Rank) → AreSides old.site.version old.phases old.clock (sides_in sends recvs)
      → RequestsFit old.requests old.phases → Repeats (IsPlainStep hart) n old new → Kept old new sends recvs
  kept_by zero old new sides fit same =
      subst (λ (r : Rank). Kept old r sends recvs) (sym same) (record { sides = sides; fit = fit; own = λ cs own. own })
  kept_by (suc n) old new sides fit steps =
      let m = plain_moved old steps.0 hart sends recvs sides fit steps.1.asks steps.1.tells in
      let later = kept_by n steps.0 new m.sides m.fit steps.2 in
      record { sides = later.sides; fit = later.fit; own = λ cs own. later.own cs (m.own cs own) }

  -- one step is a turn
  turn_by : (old new : Rank) (events : List Event) (box : Option (ℕ × ℕ)) → hart < length old.harts
      → old.clock + 1 < 2 ^ 62 → IsPlainStep hart old new
      → IsPlainTurn hart (seen old events sends recvs box)
      (seen new (events ++ event_of (plain_deed old hart) ∷ []) sends recvs None)
  turn_by old new events box there low step = record {
    runs = step.runs;
    moves = (there, low, step.asks, refl, step.tells);
    event = refl;
    sides_stay = refl;
    asks_none = refl;
  }

  -- where it leads to more turns, there is one turn more
  module _ (old mid : Rank) (step : IsPlainStep hart old mid) where
    abbrev one : Event
    one = event_of (plain_deed old hart)

    clock_then : mid.clock ≡ old.clock + 1
    clock_then = clock_told old mid hart answer.Alone (old.clock + 1) step.tells

    harts_then : length mid.harts ≡ length old.harts
    harts_then = ap (λ (r : Rank). length r.harts) step.tells ∙ (told_at old hart answer.Alone (old.clock + 1)).harts

    turns_then : (n : ℕ) (new : Rank) (events : List Event) (box : Option (ℕ × ℕ)) → hart < length old.harts
        → old.clock + 1 < 2 ^ 62
        → Repeats (IsPlainTurn hart) n (seen mid (events ++ one ∷ []) sends recvs None)
        (seen new ((events ++ one ∷ []) ++ bare_events hart bare.Plain mid.clock n) sends recvs None)
        → Repeats (IsPlainTurn hart) (suc n) (seen old events sends recvs box)
        (seen new (events ++ bare_events hart bare.Plain old.clock (suc n)) sends recvs None)
    turns_then n new events box there low rest =
        let all : (events ++ one ∷ []) ++ bare_events hart bare.Plain mid.clock n
        ≡ events ++ bare_events hart bare.Plain old.clock (suc n) =
        append_assoc events (one ∷ []) (bare_events hart bare.Plain mid.clock n)
        ∙ ap (λ c. events ++ one ∷ bare_events hart bare.Plain c n) clock_then in (
          seen mid (events ++ one ∷ []) sends recvs None,
          turn_by old mid events box there low step,
          subst (λ es. Repeats (IsPlainTurn hart) n (seen mid (events ++ one ∷ []) sends recvs None)
              (seen new es sends recvs None)) all rest,
        )

  -- so several are as many, behind one that asked no box
  pub turns_on : (n : ℕ) (old new : Rank) (events : List Event) → hart < length old.harts → old.clock + n < 2 ^ 62
      → Repeats (IsPlainStep hart) n old new
      → Repeats (IsPlainTurn hart) n (seen old events sends recvs None)
      (seen new (events ++ bare_events hart bare.Plain old.clock n) sends recvs None)
  turns_on zero old new events there low same =
      ap (λ (r : Rank). seen r (events ++ []) sends recvs None) same
      ∙ ap (λ es. seen old es sends recvs None) (append-nil events)
  turns_on (suc n) old new events there low steps =
      let clock = clock_then old steps.0 steps.1 in
      let harts = harts_then old steps.0 steps.1 in
      turns_then old steps.0 steps.1 n new events None there (omega (arith, low))
      (turns_on n steps.0 new (events ++ event_of (plain_deed old hart) ∷ []) (omega (arith, there, harts))
      (omega (arith, low, clock)) steps.2)

  -- and behind any
  pub turns_first : (n : ℕ) (old new : Rank) (events : List Event) (box : Option (ℕ × ℕ)) → 0 < n
      → hart < length old.harts → old.clock + n < 2 ^ 62 → Repeats (IsPlainStep hart) n old new
      → Repeats (IsPlainTurn hart) n (seen old events sends recvs box)
      (seen new (events ++ bare_events hart bare.Plain old.clock n) sends recvs None)
  turns_first zero old new events box some there low steps = absurd (omega (arith, some))
  turns_first (suc n) old new events box some there low steps =
      let clock = clock_then old steps.0 steps.1 in
      let harts = harts_then old steps.0 steps.1 in
      turns_then old steps.0 steps.1 n new events box there (omega (arith, low))
      (turns_on n steps.0 new (events ++ event_of (plain_deed old hart) ∷ []) (omega (arith, there, harts))
      (omega (arith, low, clock)) steps.2)

-- what a rank keeps after them, with their events behind those before
pub plain_keeps : (r : Running) (hart n : ℕ) (new : RankState) (events : List Event)
    → Repeats (IsPlainStep hart) n (rank_of r.state) (rank_of new) → new.clock ≡ r.state.clock + n
    → r.state.clock + n < 2 ^ 62 → length r.trace.events + n ≤ r.budget
    → events ≡ r.trace.events ++ bare_events hart bare.Plain r.state.clock n
    → Keeps new events r.budget (sides_in r.sends.items r.recvs.items) None r.again
plain_keeps r hart n new events steps clock low left noted =
    let kept = kept_by hart r.sends.items r.recvs.items n (rank_of r.state) (rank_of new) r.sides r.fit steps in
    let all = ap (λ (es : List Event). length es) noted in
    let both = length-append r.trace.events (bare_events hart bare.Plain r.state.clock n) in
    let more = length-bare hart bare.Plain r.state.clock n in
    let last = last_stamp-bare 0 r.trace.events hart bare.Plain r.state.clock n r.stamped in
    let same = ap (last_stamp 0) noted in
    record {
      low = omega (arith, clock, low);
      within = omega (arith, all, both, more, left);
      stamped = omega (arith, last, same, clock);
      sides = kept.sides;
      fit = kept.fit;
      room = tt;
    }

-- and where there was none the rank is as it was
pub no_turns : (r : Running) (hart n : ℕ) (new : RankState) (events : List Event) → n ≡ 0 → new ≡ r.state
    → events ≡ r.trace.events
    → Repeats (IsPlainTurn hart) n (view_of r)
    (seen (rank_of new) events r.sends.items r.recvs.items (place_in r.asked_box))
no_turns r hart n new events none state same =
    subst (λ k. Repeats (IsPlainTurn hart) k (view_of r)
    (seen (rank_of new) events r.sends.items r.recvs.items (place_in r.asked_box))) (sym none)
    (ap (λ (s : RankState). seen (rank_of s) events r.sends.items r.recvs.items (place_in r.asked_box)) state
    ∙ ap (λ es. seen (rank_of r.state) es r.sends.items r.recvs.items (place_in r.asked_box)) same)
