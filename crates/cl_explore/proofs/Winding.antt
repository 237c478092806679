-- Turns that are kept as runs, and wound off again.
use Rattle.std.specs.Prelude.{ℕ, zero, suc, ◌+◌, ◌-◌, ◌<◌, ◌≡◌, List, [], ◌∷◌, ◌++◌, length, reverse, slice_get, Some, take}
use Rattle.std.proofs.Common.{refl, sym, ap, ◌∙◌, subst, arith}
use Rattle.std.proofs.lemmas.List.{append-nil, append_assoc, length-append, reverse-append}
use Rattle.std.proofs.lemmas.Option.{same_Some}
use Rattle.cl_machine.specs.declared.steps.Step.{Step}
use Rattle.cl_order_laws.specs.Alike.{at_stamp}
use Rattle.cl_explore.specs.Runs.{Continues, all_turns, later, run_turns}
use Rattle.cl_explore.specs.declared.runs.Run.{Run}

pub all_more : (runs : List Run) (run : Run) → all_turns (runs ++ run ∷ []) ≡ all_turns runs ++ run_turns run
all_more [] run = append-nil (run_turns run)
all_more (x ∷ runs) run =
    ap (λ es. run_turns x ++ es) (all_more runs run) ∙ sym (append_assoc (run_turns x) (all_turns runs) (run_turns run))

-- a run of one turn more
pub run_more : (run new : Run) (step : Step) → Continues run step → new.turn ≡ run.turn → new.last ≡ suc run.last
    → run_turns new ≡ run_turns run ++ step ∷ []
run_more run new step is turn last =
    let first = run.turn.stamp in
    let count : suc run.last - first ≡ suc (run.last - first) = omega (arith, is.up) in
    let stamp : first + suc (run.last - first) ≡ suc run.last = omega (arith, is.up) in
    let one : run_turns new ≡ run.turn ∷ later run.turn (suc run.last - first) =
    (λ i. turn i ∷ later (turn i) (last i - (turn i).stamp)) in
    one ∙ (ap (λ n. run.turn ∷ later run.turn n) count
    ∙ ap (λ e. run.turn ∷ (later run.turn (run.last - first) ++ e ∷ [])) (ap (at_stamp run.turn) stamp ∙ sym is.next))

-- the turns up to one stamp are those up to the one before, and one more
pub wound : (turn : Step) (stamp : ℕ) → turn.stamp < stamp
    → later turn (stamp - turn.stamp) ≡ later turn (stamp - 1 - turn.stamp) ++ at_stamp turn stamp ∷ []
wound turn stamp up =
    let first = turn.stamp in
    let count : stamp - first ≡ suc (stamp - 1 - first) = omega (arith, up) in
    let same : first + suc (stamp - 1 - first) ≡ stamp = omega (arith, up) in
    ap (later turn) count ∙ ap (λ n. later turn (stamp - 1 - first) ++ at_stamp turn n ∷ []) same

-- a run of one turn
pub run_one : (run : Run) (step : Step) → run.turn ≡ at_stamp step run.last → run.last ≡ step.stamp
    → run_turns run ≡ step ∷ []
run_one run step turn last =
    let same : run.turn ≡ step = turn ∙ ap (at_stamp step) last in
    let stamp : run.turn.stamp ≡ step.stamp = ap (λ (e : Step). e.stamp) same in
    let none : run.last - run.turn.stamp ≡ 0 = omega (arith, stamp, last) in
    ap (λ n. run.turn ∷ later run.turn n) none ∙ ap (λ e. e ∷ []) same

-- one turn more is wound off
pub one_wound : (turn one : Step) (stamp first : ℕ) (back new all : List Step) → first ≡ turn.stamp → first < stamp
    → one ≡ at_stamp turn stamp → new ≡ back ++ one ∷ [] → back ++ reverse (later turn (stamp - first)) ≡ all
    → new ++ reverse (later turn (stamp - 1 - first)) ≡ all
one_wound turn one stamp first back new all is up same more before =
    let rest = later turn (stamp - 1 - first) in
    let turns : later turn (stamp - first) ≡ rest ++ one ∷ [] =
    subst (λ k. later turn (stamp - k) ≡ later turn (stamp - 1 - k) ++ one ∷ []) (sym is)
    (wound turn stamp (subst (λ k. k < stamp) is up) ∙ ap (λ e. later turn (stamp - 1 - turn.stamp) ++ e ∷ []) (sym same)) in
    let back_again : reverse (later turn (stamp - first)) ≡ one ∷ reverse rest =
    ap reverse turns ∙ reverse-append rest (one ∷ []) in
    ap (λ es. es ++ reverse rest) more
    ∙ (append_assoc back (one ∷ []) (reverse rest) ∙ (ap (λ es. back ++ es) (sym back_again) ∙ before))

-- one run more is wound off
pub run_back : (left before : List Run) (run : Run) (back new all : List Step) → left ≡ before ++ run ∷ []
    → new ≡ back ++ reverse (run_turns run) → back ++ reverse (all_turns left) ≡ all
    → new ++ reverse (all_turns before) ≡ all
run_back left before run back new all is more was =
    let turns : reverse (all_turns left) ≡ reverse (run_turns run) ++ reverse (all_turns before) =
    ap (λ rs. reverse (all_turns rs)) is
    ∙ (ap reverse (all_more before run) ∙ reverse-append (all_turns before) (run_turns run)) in
    ap (λ es. es ++ reverse (all_turns before)) more
    ∙ (append_assoc back (reverse (run_turns run)) (reverse (all_turns before)) ∙ (ap (λ es. back ++ es) (sym turns) ∙ was))

-- ---- how many

later_length : (turn : Step) (n : ℕ) → length (later turn n) ≡ n
later_length turn zero = refl
later_length turn (suc n) =
    let e = later_length turn n in
    omega (arith, e, length-append (later turn n) (at_stamp turn (turn.stamp + suc n) ∷ []))

pub run_length : (run : Run) → length (run_turns run) ≡ suc (run.last - run.turn.stamp)
run_length run = ap suc (later_length run.turn (run.last - run.turn.stamp))

-- the turns of the first so many runs
pub counted_next : (runs : List Run) (place : ℕ) (run : Run) → slice_get runs place ≡ Some run
    → length (all_turns (take (suc place) runs)) ≡ length (all_turns (take place runs)) + length (run_turns run)
counted_next [] place run at = absurd (cc)
counted_next (x ∷ runs) zero run at =
    let none : length (run_turns run) ≡ 0 + length (run_turns run) = omega arith in
    ap (λ (r : Run). length (run_turns r ++ [])) (same_Some x run at) ∙ (ap length (append-nil (run_turns run)) ∙ none)
counted_next (x ∷ runs) (suc place) run at =
    let e = counted_next runs place run at in
    let a = length-append (run_turns x) (all_turns (take (suc place) runs)) in
    let b = length-append (run_turns x) (all_turns (take place runs)) in
    omega (arith, e, a, b)

pub counted_all : (runs : List Run) → length (all_turns (take (length runs) runs)) ≡ length (all_turns runs)
counted_all [] = refl
counted_all (x ∷ runs) =
    let e = counted_all runs in
    let a = length-append (run_turns x) (all_turns (take (length runs) runs)) in
    let b = length-append (run_turns x) (all_turns runs) in
    omega (arith, e, a, b)
