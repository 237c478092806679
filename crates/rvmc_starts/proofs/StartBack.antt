-- A start that is written is read back.
use Rattle.std.proofs.Common.{◌≡◌, ◌<◌, ◌≤◌, ◌+◌, ◌^◌, ◌∙◌, ◌&&◌, ◌==◌, ℕ, suc, zero, Bool, true, false, refl, sym, ap, arith, List, [], ◌∷◌, ◌++◌, length, map, not, replicate, Some, append-nil, nat_lt, lt-ltb, ltb-true, eqb-true, eq-eqb, length-append, subst, ◌≢◌, true≢false}
use Rattle.std.specs.Prelude.{if◌then◌else◌}
use Rattle.std.specs.Char.{digit_value}
use Rattle.std.specs.Fmt.{decimal}
use Rattle.std.specs.List.{flat_map, join_by}
use Rattle.std.proofs.lemmas.Fmt.{decimal_nonempty}
use Rattle.cl_turns.specs.declared.Turn.{Turn}
use Rattle.rvmc_words.specs.Number.{number_in}
use Rattle.rvmc_starts.specs.Hex.{hex_word}
use Rattle.rvmc_starts.specs.StartFits.{AreTurns, IsStart}
use Rattle.rvmc_starts.specs.Starts.{numbers_text, place_in, place_text, start_in, start_text}
use Rattle.rvmc_starts.specs.Sums.{sum_text}
use Rattle.rvmc_starts.specs.Turns.{each_item, item_in, joins, one, run_text, runs_from, turns_in, turns_text}
use Rattle.rvmc_starts.specs.declared.starts.Start.{Start}
use Rattle.rvmc_starts.specs.declared.turns.Run.{Run}
use Rattle.rvmc_starts.proofs.Hexes.{both}
use Rattle.rvmc_starts.proofs.Numbers.{hex_back, lacks_decimal, lacks_hex, lacks_numbers, number_back, numbers_back}
use Rattle.rvmc_starts.proofs.ReadBack.{lacks_sum, sum_back}
use Rattle.rvmc_starts.proofs.Separators.{EachLacks, cut_at, cut_list, cut_none, cut_words, lacks, lacks_both, lacks_list}

-- ---- one item

-- a run that an item can write
pub record IsRun (run : Run) : Type 0 where
  pub rank : run.turn.rank < 256
  pub some : 1 ≤ run.count
  pub most : run.count ≤ 16777216
  pub alone : run.turn.misses ≡ true → run.count ≡ 1

rank_back : (rank : ℕ) → rank < 256 → number_in 0 255 (decimal rank) ≡ Some rank
rank_back rank small = number_back 0 255 rank (omega arith) (omega (arith, small)) (omega (arith, small))

digits : (c rank : ℕ) → rank < 256 → 10 ≤ digit_value c → lacks c (decimal rank) ≡ true
digits c rank small high = lacks_decimal c rank (omega (arith, small)) high

missed_back : (rank : ℕ) → rank < 256 → item_in (decimal rank ++ 45 ∷ []) ≡ Some (one (record { rank = rank; misses = true }))
unfolding item_in
missed_back rank small = rw (cut_at 45 (decimal rank) [] (digits 45 rank small (omega arith)), rank_back rank small) refl

one_back : (rank : ℕ) → rank < 256 → item_in (decimal rank) ≡ Some (one (record { rank = rank; misses = false }))
unfolding item_in
one_back rank small =
    rw (cut_none 45 (decimal rank) (digits 45 rank small (omega arith)), cut_none 120 (decimal rank) (digits 120 rank small (omega arith)), rank_back rank small) refl

many_back : (rank count : ℕ) → rank < 256 → 2 ≤ count → count ≤ 16777216
    → item_in (decimal rank ++ 120 ∷ decimal count) ≡ Some (record { turn = record { rank = rank; misses = false }; count = count })
unfolding item_in
many_back rank count small some most =
    let fits : count < 2 ^ 64 = omega (arith, most) in
    let plain : lacks 45 (decimal rank ++ 120 ∷ decimal count) ≡ true =
    lacks_both 45 (decimal rank) (120 ∷ decimal count) (digits 45 rank small (omega arith)) (lacks_decimal 45 count fits (omega arith)) in
    rw (
      cut_none 45 (decimal rank ++ 120 ∷ decimal count) plain,
      cut_at 120 (decimal rank) (decimal count) (digits 120 rank small (omega arith)),
      cut_none 120 (decimal count) (lacks_decimal 120 count fits (omega arith)),
      rank_back rank small,
      number_back 2 16777216 count some most fits,
    ) refl

abbrev made : ℕ → Bool → ℕ → Run
made rank misses count = record { turn = record { rank = rank; misses = misses }; count = count }

item_made : (rank : ℕ) (misses : Bool) (count : ℕ) → rank < 256 → 1 ≤ count → count ≤ 16777216 → (misses ≡ true → count ≡ 1)
    → item_in (run_text (made rank misses count)) ≡ Some (made rank misses count)
item_made rank true count small some most alone =
    subst (λ n. item_in (run_text (made rank true n)) ≡ Some (made rank true n)) (sym (alone refl)) (missed_back rank small)
item_made rank false count small some most alone = go (count == 1) refl
  where
    go : (b : Bool) → (count == 1) ≡ b → item_in (run_text (made rank false count)) ≡ Some (made rank false count)
    go true e =
        subst (λ n. item_in (run_text (made rank false n)) ≡ Some (made rank false n)) (sym (eqb-true count 1 e))
        (ap item_in (append-nil (decimal rank)) ∙ one_back rank small)
    go false e =
        let differs : count ≢ 1 = λ same. true≢false (sym (eq-eqb count 1 same) ∙ e) in
        rw e (many_back rank count small (omega (arith, some, differs)) most)

run_back : (run : Run) → IsRun run → item_in (run_text run) ≡ Some run
run_back run is = item_made run.turn.rank run.turn.misses run.count is.rank is.some is.most is.alone

tail_lacks : (c count : ℕ) (misses single : Bool) → count < 2 ^ 64 → 10 ≤ digit_value c → (45 == c) ≡ false → (120 == c) ≡ false
    → lacks c (if misses then 45 ∷ [] else (if single then [] else (120 ∷ decimal count))) ≡ true
tail_lacks c count true single fits high minus times = rw minus refl
tail_lacks c count false true fits high minus times = refl
tail_lacks c count false false fits high minus times = rw (times, lacks_decimal c count fits high) refl

run_lacks : (c : ℕ) (run : Run) → IsRun run → 10 ≤ digit_value c → (45 == c) ≡ false → (120 == c) ≡ false → lacks c (run_text run) ≡ true
run_lacks c run is high minus times =
    lacks_both c (decimal run.turn.rank) _ (digits c run.turn.rank is.rank high)
    (tail_lacks c run.count run.turn.misses (run.count == 1) (omega (arith, is.most)) high minus times)

-- ---- all items

abbrev AreRuns : List Run → Type 0
AreRuns [] = Unit {0}
AreRuns (run ∷ runs) = IsRun run × AreRuns runs

-- the turns of a run, and of runs
abbrev run_turns : Run → List Turn
run_turns run = replicate run.count run.turn

each_back : (runs : List Run) → AreRuns runs → each_item (map run_text runs) ≡ Some (flat_map run_turns runs)
each_back [] are = refl
each_back (run ∷ runs) are = rw (run_back run are.0, each_back runs are.1) refl

each_lacks : (c : ℕ) (runs : List Run) → AreRuns runs → 10 ≤ digit_value c → (45 == c) ≡ false → (120 == c) ≡ false → EachLacks c run_text runs
each_lacks c [] are high minus times = tt
each_lacks c (run ∷ runs) are high minus times =
    (run_lacks c run are.0 high minus times, each_lacks c runs are.1 high minus times)

-- ---- the runs of turns

is_one : (turn : Turn) → turn.rank < 256 → IsRun (one turn)
is_one turn small = record { rank = small; some = omega arith; most = omega arith; alone = λ _. refl }

-- a run and one turn more
abbrev longer : Run → Run
longer run = record { turn = run.turn; count = run.count + 1 }

joins_parts : (run : Run) (turn : Turn) → joins run turn ≡ true
    → ((run.turn.rank == turn.rank) ≡ true) × ((not run.turn.misses ≡ true) × ((not turn.misses ≡ true) × (nat_lt run.count 16777216 ≡ true)))
joins_parts run turn e =
    let halves = both ((run.turn.rank == turn.rank) && (not run.turn.misses && not turn.misses)) (nat_lt run.count 16777216) e in
    let same = both (run.turn.rank == turn.rank) (not run.turn.misses && not turn.misses) halves.0 in
    let sees = both (not run.turn.misses) (not turn.misses) same.1 in
    (same.0, (sees.0, (sees.1, halves.1)))

longer_is : (run : Run) (turn : Turn) → IsRun run → joins run turn ≡ true → IsRun (longer run)
longer_is run turn is e =
    let parts = joins_parts run turn e in
    let below : run.count < 16777216 = ltb-true run.count 16777216 parts.1.1.1 in
    record {
      rank = is.rank;
      some = omega arith;
      most = omega (arith, below);
      alone = λ misses. absurd (true≢false (sym parts.1.0 ∙ ap not misses));
    }

are_from : (run : Run) (turns : List Turn) → IsRun run → AreTurns turns → AreRuns (runs_from run turns)
are_from run [] is are = (is, tt)
are_from run (turn ∷ turns) is are =
    go (joins run turn) refl (λ more. are_from (longer run) turns more are.1) (are_from (one turn) turns (is_one turn are.0) are.1)
  where
    go : (b : Bool) → joins run turn ≡ b → (IsRun (longer run) → AreRuns (runs_from (longer run) turns)) → AreRuns (runs_from (one turn) turns)
        → AreRuns (if b then runs_from (longer run) turns else run ∷ runs_from (one turn) turns)
    go true e joined apart = joined (longer_is run turn is e)
    go false e joined apart = (is, apart)

no_miss : (misses : Bool) → not misses ≡ true → misses ≡ false
no_miss false e = refl
no_miss true e = absurd (true≢false (sym e))

abbrev made_turn : ℕ → Bool → Turn
made_turn rank misses = record { rank = rank; misses = misses }

same_turn : (one two : Turn) → one.rank ≡ two.rank → one.misses ≡ two.misses → one ≡ two
same_turn one two e f =
    ap (λ rank. made_turn rank one.misses) e ∙ ap (made_turn two.rank) f

one_more : (count : ℕ) (turn : Turn) (turns : List Turn) → replicate (count + 1) turn ++ turns ≡ replicate count turn ++ turn ∷ turns
one_more zero turn turns = refl
one_more (suc count) turn turns =
    let next : suc count + 1 ≡ suc (count + 1) = omega arith in
    rw next (ap (λ more. turn ∷ more) (one_more count turn turns))

turns_from : (run : Run) (turns : List Turn) → flat_map run_turns (runs_from run turns) ≡ run_turns run ++ turns
turns_from run [] = refl
turns_from run (turn ∷ turns) = go (joins run turn) refl (turns_from (longer run) turns) (turns_from (one turn) turns)
  where
    go : (b : Bool) → joins run turn ≡ b → flat_map run_turns (runs_from (longer run) turns) ≡ run_turns (longer run) ++ turns
        → flat_map run_turns (runs_from (one turn) turns) ≡ run_turns (one turn) ++ turns
        → flat_map run_turns (if b then runs_from (longer run) turns else run ∷ runs_from (one turn) turns) ≡ run_turns run ++ turn ∷ turns
    go true e joined apart =
        let parts = joins_parts run turn e in
        let same : run.turn ≡ turn = same_turn run.turn turn (eqb-true run.turn.rank turn.rank parts.0) (no_miss run.turn.misses parts.1.0 ∙ sym (no_miss turn.misses parts.1.1.0)) in
        joined ∙ (one_more run.count run.turn turns ∙ ap (λ next. replicate run.count run.turn ++ next ∷ turns) same)
    go false e joined apart = ap (λ more. run_turns run ++ more) apart

some_runs : (run : Run) (turns : List Turn) → 0 < length (runs_from run turns)
some_runs run [] = omega arith
some_runs run (turn ∷ turns) = go (joins run turn) (some_runs (longer run) turns)
  where
    go : (b : Bool) → 0 < length (runs_from (longer run) turns) → 0 < length (if b then runs_from (longer run) turns else run ∷ runs_from (one turn) turns)
    go true more = more
    go false more = omega arith

-- runs are read
runs_back : (runs : List Run) → 0 < length runs → AreRuns runs → turns_in (join_by run_text (44 ∷ []) runs) ≡ Some (flat_map run_turns runs)
unfolding turns_in
runs_back [] some are = absurd (omega (arith, some))
runs_back (run ∷ runs) some are =
    let rank_fits : run.turn.rank < 2 ^ 64 = omega (arith, are.0.rank) in
    let text = join_by run_text (44 ∷ []) (run ∷ runs) in
    let more : 0 < length text =
    omega (
      arith,
      decimal_nonempty run.turn.rank rank_fits,
      length-append (run_text run) (flat_map (λ next. (44 ∷ []) ++ run_text next) runs),
      length-append (decimal run.turn.rank) (if run.turn.misses then 45 ∷ [] else (if (run.count == 1) then [] else (120 ∷ decimal run.count))),
    ) in
    rw (lt-ltb 0 (length text) more, cut_list 44 run_text run runs (each_lacks 44 (run ∷ runs) are (omega arith) refl refl)) (each_back (run ∷ runs) are)

pub turns_back : (turns : List Turn) → AreTurns turns → turns_in (turns_text turns) ≡ Some turns
unfolding turns_in turns_text
turns_back [] are = refl
turns_back (turn ∷ turns) are =
    runs_back (runs_from (one turn) turns) (some_runs (one turn) turns) (are_from (one turn) turns (is_one turn are.0) are.1)
    ∙ ap Some (turns_from (one turn) turns)

pub lacks_turns : (c : ℕ) (turns : List Turn) → AreTurns turns → 10 ≤ digit_value c → (45 == c) ≡ false → (120 == c) ≡ false → (44 == c) ≡ false
    → lacks c (turns_text turns) ≡ true
unfolding turns_text
lacks_turns c [] are high minus times comma = refl
lacks_turns c (turn ∷ turns) are high minus times comma =
    let runs = are_from (one turn) turns (is_one turn are.0) are.1 in
    lacks_list c 44 run_text (runs_from (one turn) turns) comma (each_lacks c (runs_from (one turn) turns) runs high minus times)

-- ---- the whole

place_back : (number count : ℕ) → 1 ≤ number → number ≤ count → count < 2 ^ 64 → place_in (place_text number count) ≡ Some (record { number = number; count = count })
unfolding place_in
place_back number count first last fits =
    rw (
      cut_at 47 (decimal number) (decimal count) (lacks_decimal 47 number (omega (arith, last, fits)) (omega arith)),
      cut_none 47 (decimal count) (lacks_decimal 47 count fits (omega arith)),
      number_back 1 18446744073709551615 count (omega (arith, first, last)) (omega (arith, fits)) fits,
      number_back 1 count number first last (omega (arith, last, fits)),
    ) refl

-- what `put_start` writes `start_in` reads
pub start_back : (start : Start) → IsStart start → start_in (start_text start) ≡ Some start
unfolding start_in start_text
start_back start is =
    let place = place_text start.number start.count in
    let number_fits : start.number < 2 ^ 64 = omega (arith, is.last, is.count) in
    let parts = cut_words 58 place (sum_text start.image ∷ hex_word start.split ∷ numbers_text start.harts ∷ turns_text start.turns ∷ []) (
      lacks_both 58 (decimal start.number) (47 ∷ decimal start.count) (lacks_decimal 58 start.number number_fits (omega arith)) (lacks_decimal 58 start.count is.count (omega arith)),
      (
        lacks_sum 58 start.image is.size (omega arith) refl,
        (
          lacks_hex 58 start.split (omega arith),
          (
            lacks_numbers 58 start.harts is.harts (omega arith) refl,
            (lacks_turns 58 start.turns is.turns (omega arith) refl refl refl, tt),
          ),
        ),
      ),
    ) in
    rw (
      parts,
      place_back start.number start.count is.first is.last is.count,
      sum_back start.image is.size is.digest,
      hex_back start.split is.split,
      numbers_back start.harts is.some is.harts,
      turns_back start.turns is.turns,
    ) refl
