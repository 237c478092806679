-- The pages that the step stores in were made, so that it takes no memory, and it is the step over the memory before.
use Rattle.std.proofs.Common.{◌≡◌, ◌∙◌, ap, sym, rules}
use Rattle.std.specs.Prelude.{IsOk, OnErr, Result, Ok, Err}
use Rattle.rv_hart.specs.State.{State}
use Rattle.rv_hart.specs.Stores.{store_range, IsThere}
use Rattle.rv_hart.specs.declared.stores.StoreRange.{StoreRange}
use Rattle.rv_memory.specs.Memory.{Memory}
use Rattle.rv_hart.proofs.Placed.{placed, stepped-placed, store_range-placed, there-placed}
use Rattle.rv_hart.proofs.stepping.step_with.Goals as goal

no_err : {A E : Type 0} (r : Result A E) (P : Type 0) → IsOk r → OnErr r P
no_err (Ok x) P ok = search rules
no_err (Err e) P ok = search rules

made : (h : State) (m m' : Memory) (r : StoreRange) → r ≡ store_range h m → m' ≡ placed m r → m' ≡ placed m (store_range h m)
made h m m' r e p = p ∙ ap (placed m) e

there : (h : State) (m m' : Memory) → m' ≡ placed m (store_range h m) → IsThere m' (store_range h m')
there h m m' p = rw (p, store_range-placed h m (store_range h m)) (there-placed h m)

pub returns-clause-effect : goal.returns-clause-effect
returns-clause-effect c =
    let p = made c.args.hart.now c.args.memory.now c.place.new.self c.store_range-range.result c.store_range-range.ensures (c.place.ensures.placed c.if-not-place.false) in
    rw (ap (Rattle.rv_hart.specs.Stepped.stepped c.args.hart.now) p ∙ stepped-placed c.args.hart.now c.args.memory.now) at c.step.ensures.effect

pub returns-clause-enough : goal.returns-clause-enough
returns-clause-enough c =
    let p = made c.args.hart.now c.args.memory.now c.place.new.self c.store_range-range.result c.store_range-range.ensures (c.place.ensures.placed c.if-not-place.false) in
    λ _. c.step.ensures.takes_no_memory (there c.args.hart.now c.args.memory.now c.place.new.self p)

pub returns-clause-memory : goal.returns-clause-memory
returns-clause-memory c =
    let p = made c.args.hart.now c.args.memory.now c.place.new.self c.store_range-range.result c.store_range-range.ensures (c.place.ensures.placed c.if-not-place.false) in
    no_err c.step.result _ (c.step.ensures.takes_no_memory (there c.args.hart.now c.args.memory.now c.place.new.self p))

pub returns-clause-kept : goal.returns-clause-kept
returns-clause-kept c =
    let p = made c.args.hart.now c.args.memory.now c.place.new.self c.store_range-range.result c.store_range-range.ensures (c.place.ensures.placed c.if-not-place.false) in
    no_err c.step.result _ (c.step.ensures.takes_no_memory (there c.args.hart.now c.args.memory.now c.place.new.self p))
