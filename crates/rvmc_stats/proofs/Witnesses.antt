-- What one step more makes of the tables, of their contracts alone.
use Rattle.std.specs.Prelude.{ℕ, zero, suc, ◌+◌, ◌≡◌, ◌≢◌, ◌<◌, ◌≤◌, ◌==◌, ◌&&◌, ◌||◌, not, nat_lt, Bool, true, false, cond}
use Rattle.std.specs.Prelude.{List, [], ◌∷◌, ◌++◌, get_or, length, Option, Some, None}
use Rattle.std.specs.List.{count_by, flat_map}
use Rattle.std.proofs.Common.{refl, sym, ap, ◌∙◌, subst, append-nil, arith, rules}
use Rattle.std.proofs.lemmas.Grind.{common_steps, flat_map-append}
use Rattle.mp_types.specs.declared.messages.Message.{Message}
use Rattle.mp_types.specs.declared.replies.Reply.TheVariants as reply
use Rattle.rv_hart.specs.declared.state.Mode.{Mode}
use Rattle.rv_hart.specs.declared.state.Mode.TheVariants.{Waiting}
use Rattle.rv_hart.specs.declared.state.Wait.{Wait}
use Rattle.cl_calls.specs.Calls.{argument}
use Rattle.cl_trace.specs.declared.events.Kind.{Kind}
use Rattle.rvmc_stats.specs.Hottest.{AreHottest, is_hotter}
use Rattle.rvmc_stats.specs.Tallies.{capped, cell_at, count_at}
use Rattle.rvmc_stats.specs.Counted.{Received, Taken, all_received, bytes_between, call_row, calls_made, is_call, rows_of_calls}
use Rattle.rvmc_stats.specs.Counted.{is_from_to, is_made, is_turn_by, messages_by_kind, messages_of, outcome_place}
use Rattle.rvmc_stats.specs.Counted.{received_by, received_in, size_in_bytes}
use Rattle.rvmc_stats.specs.Laws.{FallingLaw, FirstLaw, IsOneMore, OwnRankLaw, PlainLaw, RefusedLaw, WaitingLaw, WholeMessageLaw}
use Rattle.rvmc_stats.specs.Tables.{AreOf}
use Rattle.rvmc_stats.specs.declared.tables.Tables.{Tables}
use Rattle.rvmc_stats.proofs.Counters.{count_more, sum_more}

plus_none : (n : ℕ) → n + 0 ≡ n
plus_none n = omega arith

both_same : (a b : ℕ) → ((a == a) && (b == b)) ≡ true
both_same a b = grind (arith, common_steps)

module _ (ranks words : ℕ) (all : List Taken) (old : Tables) (t : Taken) (new : Tables)
    (more : IsOneMore ranks words all old t new) where
  are_more : AreOf ranks words (all ++ t ∷ []) new
  are_more = more.adds.adds ranks words all more.are

  own_rank_of : (rank : ℕ) → rank < ranks
      → count_at new.taken rank ≡ capped (count_by (is_turn_by rank) all + cond (rank == t.step.rank) 1 0)
  own_rank_of rank below = are_more.taken.each rank below ∙ ap capped (count_more (is_turn_by rank) all t)

  received_more : all_received (all ++ t ∷ []) ≡ all_received all ++ received_in t
  received_more = flat_map-append received_in all (t ∷ []) ∙ ap (λ ms. all_received all ++ ms) (append-nil (received_in t))

  -- no message more
  no_message : messages_by_kind t.step.kind ≡ [] → (from to : ℕ) → from < ranks → to < ranks
      → cell_at new.mail.messages from to ≡ cell_at old.mail.messages from to
  no_message none from to from_there to_there =
      let same : all_received (all ++ t ∷ []) ≡ all_received all =
      received_more ∙ ap (λ ms. all_received all ++ received_by t.step.rank ms) none ∙ append-nil (all_received all)
      in
      (are_more.mail.messages.each from from_there).each to to_there
      ∙ ap (λ ms. capped (messages_of ms from to)) same
      ∙ sym ((more.are.mail.messages.each from from_there).each to to_there)

  -- one message more
  whole_message_of : (m : Message) → messages_by_kind t.step.kind ≡ m ∷ [] → m.envelope.source < ranks
      → t.step.rank < ranks
      → cell_at new.mail.bytes m.envelope.source t.step.rank
      ≡ capped (bytes_between (all_received all) m.envelope.source t.step.rank + length m.bytes)
  whole_message_of m one from_there to_there =
      let from = m.envelope.source in
      let to = t.step.rank in
      let r : Received = record { to = to; message = m } in
      let same : all_received (all ++ t ∷ []) ≡ all_received all ++ r ∷ [] =
      received_more ∙ ap (λ ms. all_received all ++ received_by to ms) one
      in
      (are_more.mail.bytes.each from from_there).each to to_there
      ∙ ap (λ ms. capped (bytes_between ms from to)) same
      ∙ ap capped (sum_more size_in_bytes (is_from_to from to) (all_received all) r)
      ∙ ap (λ b. capped (bytes_between (all_received all) from to + cond b (length m.bytes) 0)) (both_same from to)

  -- no call more of a number and an outcome
  no_call : (number outcome : ℕ) → number < rows_of_calls → outcome < 21 → is_made number outcome t ≡ false
      → cell_at new.calls number outcome ≡ cell_at old.calls number outcome
  no_call number outcome number_there outcome_there none =
      (are_more.calls.each number number_there).each outcome outcome_there
      ∙ ap capped (count_more (is_made number outcome) all t)
      ∙ ap (λ b. capped (calls_made all number outcome + cond b 1 0)) none
      ∙ ap capped (plus_none (calls_made all number outcome))
      ∙ sym ((more.are.calls.each number number_there).each outcome outcome_there)

pub own_rank : OwnRankLaw
own_rank = own_rank_of

pub refused : RefusedLaw
refused = record {
  checks = λ ranks words all old t new more kind. no_message ranks words all old t new more (ap messages_by_kind kind);
  hub = λ ranks words all old t new code more kind. no_message ranks words all old t new more (ap messages_by_kind kind);
}

pub whole_message : WholeMessageLaw
whole_message ranks words all old t new m more kind =
    whole_message_of ranks words all old t new more m (ap messages_by_kind kind)

none_after : (a b : Bool) → (a && (b && false)) ≡ false
none_after true true = refl
none_after true false = refl
none_after false b = refl

other_place : (outcome : ℕ) → outcome ≢ 18 → (outcome == 18) ≡ false
other_place outcome other = grind (arith, common_steps)

pub waiting : WaitingLaw
waiting ranks words all old t new w more mode number outcome number_there outcome_there other =
    no_call ranks words all old t new more number outcome number_there outcome_there
    (ap (λ (m : Mode). is_call t.step.kind && ((number == call_row (argument t.before 7)) && (outcome == outcome_place t.after m))) mode
    ∙ ap (λ b. is_call t.step.kind && ((number == call_row (argument t.before 7)) && b)) (other_place outcome other)
    ∙ none_after (is_call t.step.kind) (number == call_row (argument t.before 7)))

pub plain : PlainLaw
plain ranks words all old t new more kind number outcome number_there outcome_there =
    no_call ranks words all old t new more number outcome number_there outcome_there
    (ap (λ (k : Kind). is_call k && ((number == call_row (argument t.before 7)) && (outcome == outcome_place t.after t.after.mode))) kind)

-- ---- places

second : (a b : Bool) → (a && b) ≡ true → b ≡ true
second true b both = both
second false b both = absurd (cc)

hotter_has_more : (counts : List ℕ) (a b : ℕ) → is_hotter counts a b ≡ true → count_at counts b ≤ count_at counts a
hotter_has_more counts a b hotter = grind (arith, common_steps)

pub falling : FallingLaw
falling counts len most a b last rest hottest =
    hotter_has_more counts a b (second (not (count_at counts b == 0)) (is_hotter counts a b) (hottest.1.0.left))

cooler_has_less : (counts : List ℕ) (other a : ℕ) → is_hotter counts other a ≡ false
    → count_at counts other ≤ count_at counts a
cooler_has_less counts other a cooler = grind (arith, common_steps)

pub first_has_most : FirstLaw
first_has_most counts len most a other rest hottest below = go (not (count_at counts other == 0) && true) refl
  where
    go : (b : Bool) → (not (count_at counts other == 0) && true) ≡ b → count_at counts other ≤ count_at counts a
    go true left = cooler_has_less counts other a (hottest.0.first other below left)
    go false none =
        let empty : count_at counts other ≡ 0 = grind (arith, common_steps) in
        omega (arith, empty)
