-- One step of the loops over the turns of a start and over their texts.
use Rattle.std.proofs.Common.{◌≡◌, ◌<◌, ◌≤◌, ◌+◌, ◌∙◌, ℕ, Bool, true, false, ◌&&◌, refl, sym, ap, arith, List, [], ◌∷◌, ◌++◌, length, drop, get_or, append_assoc, append-nil, map, Option, Some, None, replicate, add-one}
use Rattle.std.proofs.Math.Seq.{drop-cons}
use Rattle.std.proofs.lemmas.List.{drop_all}
use Rattle.std.proofs.lemmas.Bool.{ltb-true}
use Rattle.std.specs.Prelude.{◌==◌, nat_lt, not, option_map}
use Rattle.cl_turns.specs.declared.Turn.{Turn}
use Rattle.rvmc_starts.specs.Turns.{each_item, item_in, joins, one, runs_from}
use Rattle.rvmc_starts.specs.declared.turns.Run.{Run}

-- from i on there is what stands at i, and the rest
cons_at : {X : Type 0} (xs : List X) (i : ℕ) (d : X) → i < length xs → drop i xs ≡ get_or xs i d ∷ drop (i + 1) xs
cons_at xs i d lt = rw (add-one, drop-cons xs i d) refl

-- ---- texts of items

join_maps : (items more : List Turn) (found : Option (List Turn))
    → option_map (λ rest. items ++ rest) (option_map (λ turns. more ++ turns) found) ≡ option_map (λ rest. (items ++ more) ++ rest) found
join_maps items more None = refl
join_maps items more (Some rest) = ap Some (sym (append_assoc items more rest))

pub items_more : {X : Type 0} (f : X → List ℕ) (texts : List X) (i : ℕ) (d : X) (items : List Turn) (run : Run) (found : Option (List Turn)) → i < length texts
    → item_in (f (get_or texts i d)) ≡ Some run → found ≡ option_map (λ rest. items ++ rest) (each_item (map f (drop i texts)))
    → found ≡ option_map (λ rest. (items ++ replicate run.count run.turn) ++ rest) (each_item (map f (drop (i + 1) texts)))
items_more f texts i d items run found lt is same =
    let here : each_item (map f (drop i texts)) ≡ option_map (λ turns. replicate run.count run.turn ++ turns) (each_item (map f (drop (i + 1) texts))) =
    rw (cons_at texts i d lt, is) refl in
    same ∙ (ap (option_map (λ rest. items ++ rest)) here ∙ join_maps items (replicate run.count run.turn) (each_item (map f (drop (i + 1) texts))))

pub items_none : {X : Type 0} (f : X → List ℕ) (texts : List X) (i : ℕ) (d : X) (items : List Turn) (found : Option (List Turn)) → i < length texts
    → item_in (f (get_or texts i d)) ≡ None → found ≡ option_map (λ rest. items ++ rest) (each_item (map f (drop i texts))) → None ≡ found
items_none f texts i d items found lt is same =
    let here : each_item (map f (drop i texts)) ≡ None = rw (cons_at texts i d lt, is) refl in
    sym (same ∙ ap (option_map (λ rest. items ++ rest)) here)

pub items_all : {X : Type 0} (f : X → List ℕ) (texts : List X) (i : ℕ) (items : List Turn) (found : Option (List Turn)) → length texts ≤ i
    → found ≡ option_map (λ rest. items ++ rest) (each_item (map f (drop i texts))) → Some items ≡ found
items_all f texts i items found le same =
    sym (same ∙ rw (drop_all i texts le) (ap Some (append-nil items)))

-- ---- runs of turns

pub runs_joined : (others : List Turn) (i : ℕ) (turn : Turn) (runs : List Run) (run : Run) (all : List Run) → i < length others
    → joins run (get_or others i turn) ≡ true → runs ++ runs_from run (drop i others) ≡ all
    → runs ++ runs_from (record { turn = run.turn; count = run.count + 1 }) (drop (i + 1) others) ≡ all
runs_joined others i turn runs run all lt join same =
    let here : runs_from run (drop i others) ≡ runs_from (record { turn = run.turn; count = run.count + 1 }) (drop (i + 1) others) =
    rw (cons_at others i turn lt, join) refl in
    ap (λ rest. runs ++ rest) (sym here) ∙ same

pub runs_split : (others : List Turn) (i : ℕ) (turn : Turn) (runs : List Run) (run : Run) (all : List Run) → i < length others
    → joins run (get_or others i turn) ≡ false → runs ++ runs_from run (drop i others) ≡ all
    → (runs ++ run ∷ []) ++ runs_from (one (get_or others i turn)) (drop (i + 1) others) ≡ all
runs_split others i turn runs run all lt apart same =
    let here : runs_from run (drop i others) ≡ run ∷ runs_from (one (get_or others i turn)) (drop (i + 1) others) =
    rw (cons_at others i turn lt, apart) refl in
    append_assoc runs (run ∷ []) (runs_from (one (get_or others i turn)) (drop (i + 1) others)) ∙ (ap (λ rest. runs ++ rest) (sym here) ∙ same)

right_of : (p q : Bool) → (p && q) ≡ true → q ≡ true
right_of true q h = h
right_of false q h = absurd cc

-- a run that a turn joins has room for one more
pub joins_fit : (run : Run) (turn : Turn) → joins run turn ≡ true → run.count + 1 ≤ 16777216
joins_fit run turn join =
    let few : run.count < 16777216 =
    ltb-true run.count 16777216 (right_of ((run.turn.rank == turn.rank) && (not run.turn.misses && not turn.misses)) (nat_lt run.count 16777216) join) in
    omega (arith, few)
