-- Words that are refused, and lines of harts that wait.
use Rattle.std.specs.Prelude.{ℕ, Bool, zero, suc, ◌≡◌, false, List, [], ◌∷◌, ◌++◌, codes, slice_get, take, Option, Some, None}
use Rattle.std.specs.Fmt.{digits}
use Rattle.std.specs.List.{enumerate_from, flat_map}
use Rattle.std.proofs.Common.{refl, sym, ap, subst, arith}
use Rattle.std.proofs.lemmas.Option.{same_Some}
use Rattle.cl_debug.specs.Debugging.{Debugging}
use Rattle.cl_debug.specs.Shown.{HasNoSymbol, IsSymbolOf}
use Rattle.cl_debug.specs.declared.faults.DebugFault.{DebugFault}
use Rattle.cl_debug.specs.declared.faults.DebugFault.TheVariants as faults
use Rattle.cl_state.specs.Rank.{Rank}
use Rattle.mp_hub.specs.Hub.{HubView}
use Rattle.part_box.specs.declared.settled.Settled.{Settled}
use Rattle.rv_hart.specs.State.{State}
use Rattle.rv_hart.specs.declared.state.Mode.TheVariants.{Waiting}
use Rattle.rv_hart.specs.declared.state.Wait.{Wait as HartWait}
use Rattle.rvmc_inspect.specs.Texts.{doing_text, hart_head, hart_line, hart_waits_text, waiting_place, waiting_text, waits_text}
use Rattle.rvmc_inspect.specs.Waits.{waits}
use Rattle.rvmc_places.specs.Callers.{callers_text}
use Rattle.rvmc_places.specs.OwnCalls.{is_in_library}
use Rattle.rvmc_inspect.specs.Words.{IsTextOfWords, Refuses, Walks}
use Rattle.rvmc_inspect.specs.declared.awaited.Wait.TheVariants.{Receiver}
use Rattle.rvmc_report.specs.Report.{newline}
use Rattle.rvmc_words.specs.declared.debug.DebugWord.{DebugWord}
use Rattle.rvmc_words.specs.declared.debug.DebugWord.TheVariants as word
use Rattle.rvmc_words.specs.declared.debug.Spot.TheVariants.{Name}
use Rattle.test_program.proofs.Texts.{itself, put_before, put_behind}
use Rattle.test_program.specs.Texts.{StandsIn}

-- ---- an unknown name

module _ (old : Debugging) (rank count : ℕ) (name : List ℕ) (unknown : HasNoSymbol old.image name) where
  no_symbol : (address : ℕ) → ¬ IsSymbolOf old.image name address
  no_symbol address is = unknown is.number is.symbol is.listed is.named

  refused : (fault : DebugFault) → Refuses old fault (word.Bytes rank (Name name) count) → fault ≡ faults.NoSymbol
  refused faults.Memory is = absurd (no_symbol is.0 is.1)
  refused (faults.PastEnd len) is = absurd is
  refused faults.NoSymbol is = refl
  refused faults.NoRank is = absurd (no_symbol is.0 is.1)
  refused faults.NoHart is = absurd is
  refused faults.Range is = absurd (no_symbol is.0 is.1)
  refused (faults.NotARun n) is = absurd is

  at_place : (n : ℕ) (asked : DebugWord) (new : Debugging) (fault : DebugFault) (text : List ℕ)
      → slice_get (word.Bytes rank (Name name) count ∷ []) n ≡ Some asked
      → (n ≡ 0 → new ≡ old) → Refuses new fault asked → fault ≡ faults.NoSymbol
  at_place zero asked new fault text there same is =
      let asks : asked ≡ word.Bytes rank (Name name) count = sym (same_Some _ asked there) in
      refused fault (subst (λ d. Refuses d fault (word.Bytes rank (Name name) count)) (same refl)
      (subst (λ w. Refuses new fault w) asks is))
  at_place (suc n) asked new fault text there same is = absurd (cc)

  walked : (n : ℕ) (new : Debugging) (text : List ℕ) → Walks old (take n (word.Bytes rank (Name name) count ∷ [])) new text → n ≡ 0 → new ≡ old
  walked zero new text walks none = walks.0
  walked (suc n) new text walks none = absurd (omega (arith, none))

  pub told : (text : List ℕ) (fault : Option DebugFault)
      → IsTextOfWords old (word.Bytes rank (Name name) count ∷ []) text fault → fault ≡ Some faults.NoSymbol
  told text None is = absurd (no_symbol is.1.3.1 is.1.3.2)
  told text (Some fault) is =
      ap (λ (f : DebugFault). Some f) (at_place is.0 is.1 is.2 fault text is.3 (walked is.0 is.2 text is.4) is.5)

-- ---- two things that are waited for

both : (inside : Bool) → waits_text inside (Receiver 1 ∷ Receiver 2 ∷ []) ≡ codes "rank 1 to receive; rank 2 to receive"
unfolding digits
both inside = refl

-- the line of such a hart
line_has : (piece head standing before_name waiting behind : List ℕ) → StandsIn piece waiting
    → StandsIn piece (head ++ ((before_name ++ (standing ++ waiting)) ++ behind))
line_has piece head standing before_name waiting behind h =
    put_before piece head ((before_name ++ (standing ++ waiting)) ++ behind)
    (put_behind piece (before_name ++ (standing ++ waiting)) behind
    (put_before piece before_name (standing ++ waiting) (put_before piece standing waiting h)))

module _ (hub : HubView) (boxes : List (List Settled)) (r : ℕ) (rank : Rank) (hart : State) (wait : HartWait)
    (one : rank.harts ≡ hart ∷ []) (mode : hart.mode ≡ Waiting wait)
    (two : waits hub boxes rank 0 ≡ Receiver 1 ∷ Receiver 2 ∷ []) where
  hart_told : StandsIn (codes " for rank 1 to receive; rank 2 to receive")
      (hart_line false [] rank.memory r 0 hart (Receiver 1 ∷ Receiver 2 ∷ []))
  unfolding hart_line waiting_text callers_text
  hart_told =
      subst
      (λ m. StandsIn (codes " for rank 1 to receive; rank 2 to receive")
      (hart_head r 0 ++ (doing_text false [] rank.memory hart (Receiver 1 ∷ Receiver 2 ∷ []) m ++ newline))) (sym mode)
      (line_has (codes " for rank 1 to receive; rank 2 to receive") (hart_head r 0)
      (waiting_place false [] rank.memory hart) (codes "waits at ")
      (codes " for " ++ waits_text (is_in_library [] rank.memory hart) (Receiver 1 ∷ Receiver 2 ∷ [])) newline
      (subst (λ text. StandsIn (codes " for rank 1 to receive; rank 2 to receive") (codes " for " ++ text))
      (sym (both (is_in_library [] rank.memory hart)))
      (itself (codes " for rank 1 to receive; rank 2 to receive"))))

  line_told : StandsIn (codes " for rank 1 to receive; rank 2 to receive")
      (hart_line false [] rank.memory r 0 hart (waits hub boxes rank 0))
  line_told =
      subst
      (λ found. StandsIn (codes " for rank 1 to receive; rank 2 to receive") (hart_line false [] rank.memory r 0 hart found))
      (sym two) hart_told

  pub all_told : StandsIn (codes " for rank 1 to receive; rank 2 to receive") (hart_waits_text false [] hub boxes r rank)
  all_told =
      subst
      (λ harts. StandsIn (codes " for rank 1 to receive; rank 2 to receive")
      (flat_map (λ (h : ℕ × State). hart_line false [] rank.memory r h.0 h.1 (waits hub boxes rank h.0))
      (enumerate_from 0 harts))) (sym one)
      (put_behind (codes " for rank 1 to receive; rank 2 to receive")
      (hart_line false [] rank.memory r 0 hart (waits hub boxes rank 0)) [] line_told)
