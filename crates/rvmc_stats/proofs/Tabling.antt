-- Steps that are counted one after another.
use Rattle.std.specs.Prelude.{ℕ, ◌+◌, ◌*◌, ◌/◌, ◌%◌, ◌≡◌, ◌==◌, ◌&&◌, if◌then◌else◌, not, Bool, true, false, cond, List, []}
use Rattle.std.specs.Prelude.{◌∷◌, ◌++◌, replicate}
use Rattle.std.proofs.Common.{refl, sym, ap, ◌∙◌, subst, append-nil, arith}
use Rattle.std.proofs.lemmas.Grind.{flat_map-append}
use Rattle.cl_calls.specs.Calls.{argument}
use Rattle.rvmc_stats.proofs.Tallying.{grid_more, grid_none, grid_same, tally_more, tally_none, tally_same}
use Rattle.rvmc_stats.specs.Counts.{IsGrid, IsTally}
use Rattle.rvmc_stats.specs.MoreAt.{added, added_in}
use Rattle.rvmc_stats.proofs.Counters.{both, count_more, no_word, word_is}
use Rattle.rvmc_stats.specs.Counted.{Taken, call_row, calls_made, is_at, is_call, is_stopped_turn, is_made, is_turn_by, is_turn}
use Rattle.rvmc_stats.specs.Counted.{is_wait, is_waiting_turn, kind_place, messages_by_kind, outcome_place, all_received}
use Rattle.rvmc_stats.specs.Counted.{received_by, received_in, rows_of_calls, taken_by, turns_at, turns_of, waits_of}
use Rattle.rvmc_stats.specs.Tables.{AreOf, AreOfMail}
use Rattle.rvmc_stats.specs.Adding.{Adds, AddsMail}
use Rattle.rvmc_stats.specs.declared.mail.Mail.{Mail}
use Rattle.rvmc_stats.specs.declared.tables.Tables.{Tables}

-- none
pub no_steps : (ranks words : ℕ) (tables : Tables) → tables.taken ≡ replicate ranks 0
    → tables.waits ≡ replicate ranks 0 → tables.turns ≡ replicate ranks (replicate 9 0)
    → tables.calls ≡ replicate rows_of_calls (replicate 21 0) → AreOfMail ranks [] tables.mail
    → tables.places ≡ replicate words 0 → AreOf ranks words [] tables
no_steps ranks words tables taken waits turns calls mail places = record {
  taken = subst (λ t. IsTally ranks (λ r. 0) t) (sym taken) (tally_none ranks);
  waits = subst (λ t. IsTally ranks (λ r. 0) t) (sym waits) (tally_none ranks);
  turns = subst (λ g. IsGrid ranks 9 (λ r c. 0) g) (sym turns) (grid_none ranks 9);
  calls = subst (λ g. IsGrid rows_of_calls 21 (λ r c. 0) g) (sym calls) (grid_none rows_of_calls 21);
  mail = mail;
  places = subst (λ t. IsTally words (λ r. 0) t) (sym places) (tally_none words);
}

plus_none : (n : ℕ) → n + 0 ≡ n
plus_none n = omega arith

-- one more
module _ (ranks words : ℕ) (all : List Taken) (t : Taken) where
  abbrev more : List Taken
  more = all ++ t ∷ []

  taken_more : (counts : List ℕ) → IsTally ranks (taken_by all) counts
      → IsTally ranks (taken_by more) (added counts t.step.rank 1)
  taken_more counts is =
      tally_more ranks (taken_by all) (taken_by more) counts t.step.rank 1 is (λ r below. count_more (is_turn_by r) all t)

  turns_more : (cells : List (List ℕ)) → IsGrid ranks 9 (turns_of all) cells
      → IsGrid ranks 9 (turns_of more) (added_in cells t.step.rank (kind_place t.step.kind) 1)
  turns_more cells is =
      grid_more ranks 9 (turns_of all) (turns_of more) cells t.step.rank (kind_place t.step.kind) 1 is
      (λ r c within below. count_more (is_turn r c) all t
      ∙ ap (λ n. turns_of all r c + n) (both (r == t.step.rank) (c == kind_place t.step.kind) 1))

  waits_more : (waits : Bool) → is_wait t.step.kind ≡ waits → (counts : List ℕ) → IsTally ranks (waits_of all) counts
      → IsTally ranks (waits_of more) (cond waits (added counts t.step.rank 1) counts)
  waits_more true waits counts is =
      tally_more ranks (waits_of all) (waits_of more) counts t.step.rank 1 is
      (λ r below. count_more (is_waiting_turn r) all t
      ∙ ap (λ b. waits_of all r + cond (b && (r == t.step.rank)) 1 0) waits)
  waits_more false waits counts is =
      tally_same ranks (waits_of all) (waits_of more) counts is
      (λ r below. count_more (is_waiting_turn r) all t
      ∙ ap (λ b. waits_of all r + cond (b && (r == t.step.rank)) 1 0) waits ∙ plus_none (waits_of all r))

  abbrev number : ℕ
  number = call_row (argument t.before 7)

  abbrev outcome : ℕ
  outcome = outcome_place t.after t.after.mode

  calls_more : (made : Bool) → is_call t.step.kind ≡ made → (cells : List (List ℕ)) → IsGrid rows_of_calls 21 (calls_made all) cells
      → IsGrid rows_of_calls 21 (calls_made more) (cond made (added_in cells number outcome 1) cells)
  calls_more true made cells is =
      grid_more rows_of_calls 21 (calls_made all) (calls_made more) cells number outcome 1 is
      (λ r c within below. count_more (is_made r c) all t
      ∙ ap (λ b. calls_made all r c + cond (b && ((r == number) && (c == outcome))) 1 0) made
      ∙ ap (λ n. calls_made all r c + n) (both (r == number) (c == outcome) 1))
  calls_more false made cells is =
      grid_same rows_of_calls 21 (calls_made all) (calls_made more) cells is
      (λ r c within below. count_more (is_made r c) all t
      ∙ ap (λ b. calls_made all r c + cond (b && ((r == number) && (c == outcome))) 1 0) made
      ∙ plus_none (calls_made all r c))

  mail_more : (old new : Mail) → AddsMail old (received_by t.step.rank (messages_by_kind t.step.kind)) new
      → AreOfMail ranks (all_received all) old → AreOfMail ranks (all_received more) new
  mail_more old new adds is =
      let one : all_received (t ∷ []) ≡ received_in t = append-nil (received_in t) in
      let same : all_received more ≡ all_received all ++ received_in t =
      flat_map-append received_in all (t ∷ []) ∙ ap (λ ms. all_received all ++ ms) one in
      subst (λ ms. AreOfMail ranks ms new) (sym same) (adds.adds ranks (all_received all) is)

  places_more : (idle whole : Bool) → is_stopped_turn t.step.kind ≡ idle → (t.before.pc % 4 == 0) ≡ whole → (counts : List ℕ)
      → IsTally words (turns_at all) counts
      → IsTally words (turns_at more) (cond (not idle && whole) (added counts (t.before.pc / 4) 1) counts)
  places_more true whole idle is_whole counts is =
      tally_same words (turns_at all) (turns_at more) counts is
      (λ w below. count_more (is_at w) all t
      ∙ ap (λ b. turns_at all w + cond (not b && (t.before.pc == 4 * w)) 1 0) idle ∙ plus_none (turns_at all w))
  places_more false true idle is_whole counts is =
      tally_more words (turns_at all) (turns_at more) counts (t.before.pc / 4) 1 is
      (λ w below. count_more (is_at w) all t
      ∙ ap (λ b. turns_at all w + cond (not b && (t.before.pc == 4 * w)) 1 0) idle
      ∙ ap (λ b. turns_at all w + cond b 1 0) (word_is t.before.pc w is_whole))
  places_more false false idle is_whole counts is =
      tally_same words (turns_at all) (turns_at more) counts is
      (λ w below. count_more (is_at w) all t
      ∙ ap (λ b. turns_at all w + cond (not b && (t.before.pc == 4 * w)) 1 0) idle
      ∙ ap (λ b. turns_at all w + cond b 1 0) (no_word t.before.pc w is_whole) ∙ plus_none (turns_at all w))

-- in all tables
pub one_step : (old new : Tables) (t : Taken) → new.taken ≡ added old.taken t.step.rank 1
    → new.waits ≡ (if is_wait t.step.kind then added old.waits t.step.rank 1 else old.waits)
    → new.turns ≡ added_in old.turns t.step.rank (kind_place t.step.kind) 1
    → new.calls ≡ (if is_call t.step.kind
    then added_in old.calls (call_row (argument t.before 7)) (outcome_place t.after t.after.mode) 1
    else old.calls)
    → AddsMail old.mail (received_by t.step.rank (messages_by_kind t.step.kind)) new.mail
    → new.places ≡ (if not (is_stopped_turn t.step.kind) && (t.before.pc % 4 == 0) then added old.places (t.before.pc / 4) 1 else old.places)
    → Adds old t new
one_step old new t taken waits turns calls mail places = record {
  adds = λ ranks words all is. record {
    taken = subst (λ c. IsTally ranks (taken_by (all ++ t ∷ [])) c) (sym taken) (taken_more ranks words all t old.taken is.taken);
    waits = subst (λ c. IsTally ranks (waits_of (all ++ t ∷ [])) c) (sym waits)
        (waits_more ranks words all t (is_wait t.step.kind) refl old.waits is.waits);
    turns = subst (λ c. IsGrid ranks 9 (turns_of (all ++ t ∷ [])) c) (sym turns) (turns_more ranks words all t old.turns is.turns);
    calls = subst (λ c. IsGrid rows_of_calls 21 (calls_made (all ++ t ∷ [])) c) (sym calls)
        (calls_more ranks words all t (is_call t.step.kind) refl old.calls is.calls);
    mail = mail_more ranks words all t old.mail new.mail mail is.mail;
    places = subst (λ c. IsTally words (turns_at (all ++ t ∷ [])) c) (sym places)
        (places_more ranks words all t (is_stopped_turn t.step.kind) (t.before.pc % 4 == 0) refl refl old.places is.places);
  };
}
