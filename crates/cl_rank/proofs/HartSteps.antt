-- Instructions of a hart, one after another, as plain steps of its rank.
use Rattle.std.proofs.Common.{◌≡◌, ◌+◌, ℕ, zero, suc, List, [], ◌∷◌, refl, sym, ap, ◌∙◌, subst, arith}
use Rattle.std.specs.Prelude.{Some, Bool, true, false, ◌&&◌, slice_get, slice_set}
use Rattle.std.specs.List.{list_all}
use Rattle.rv_hart.specs.State.{State, is_stopped}
use Rattle.rv_hart.specs.Stepped.{stepped}
use Rattle.rv_hart.specs.declared.state.Mode.TheVariants.{Running}
use Rattle.rv_memory.specs.Access.{word_at}
use Rattle.rv_memory.specs.Memory.{Memory}
use Rattle.cl_state.specs.Asked.{is_ecall}
use Rattle.cl_state.specs.Rank.{Rank}
use Rattle.cl_rank.specs.Plains.{IsHartStep, IsPlainStep, Repeats}
use Rattle.cl_plain.proofs.Called.{asks_plain, told_plain}

both_hold : (a b : Bool) → (a && b) ≡ true → (a ≡ true) × (b ≡ true)
both_hold true b is = (refl, is)
both_hold false b is = absurd (cc)

never_both : (a : Bool) → a ≡ false → a ≡ true → ⊥
never_both true off on = cc
never_both false off on = cc

-- a running hart isn't stopped
some_runs : (hs : List State) (i : ℕ) (h : State) → slice_get hs i ≡ Some h → h.mode ≡ Running
    → list_all (λ (x : State). is_stopped x.mode) hs ≡ true → ⊥
some_runs [] i h there running all = cc
some_runs (x ∷ hs) zero h there running all =
    let same : x ≡ h = (cc) in
    never_both (is_stopped x.mode) (ap (λ (y : State). is_stopped y.mode) same ∙ ap is_stopped running)
    (both_hold (is_stopped x.mode) (list_all (λ (y : State). is_stopped y.mode) hs) all).0
some_runs (x ∷ hs) (suc i) h there running all =
    some_runs hs i h there running
    (both_hold (is_stopped x.mode) (list_all (λ (y : State). is_stopped y.mode) hs) all).1

-- what is put where it was
set_same : (hs : List State) (i : ℕ) (h : State) → slice_get hs i ≡ Some h → slice_set hs i h ≡ hs
set_same [] i h there = refl
set_same (x ∷ hs) zero h there = (let same : x ≡ h = (cc) in ap (λ y. y ∷ hs) (sym same))
set_same (x ∷ hs) (suc i) h there = ap (λ ys. x ∷ ys) (set_same hs i h there)

-- what was written twice was written once
set_again : (hs : List State) (i : ℕ) (x y : State) → slice_set (slice_set hs i x) i y ≡ slice_set hs i y
set_again [] i x y = refl
set_again (z ∷ hs) zero x y = refl
set_again (z ∷ hs) (suc i) x y = ap (λ zs. z ∷ zs) (set_again hs i x y)

get_set : (hs : List State) (i : ℕ) (x y : State) → slice_get hs i ≡ Some x → slice_get (slice_set hs i y) i ≡ Some y
get_set [] i x y there = absurd (cc)
get_set (z ∷ hs) zero x y there = refl
get_set (z ∷ hs) (suc i) x y there = get_set hs i x y there

-- a rank with another state of one of its harts, another memory and another clock
abbrev pub gone_on : Rank → ℕ → State × Memory → ℕ → Rank
gone_on r hart at clock = record r { memory = at.1; harts = slice_set r.harts hart at.0; clock = clock }

-- the rank has this hart and this memory
pub record Has (r : Rank) (hart : ℕ) (at : State × Memory) : Type 0 where
  pub there : slice_get r.harts hart ≡ Some at.0
  pub memory : r.memory ≡ at.1

stays : (r : Rank) (hart : ℕ) (at : State × Memory) → Has r hart at → gone_on r hart at (r.clock + 0) ≡ r
stays r hart at has =
    let clock : r.clock + 0 ≡ r.clock = omega arith in
    ap (λ c. gone_on r hart at c) clock
    ∙ ap (λ (m : Memory). gone_on r hart (at.0, m) r.clock) (sym has.memory)
    ∙ ap (λ (hs : List State). record r { harts = hs }) (set_same r.harts hart at.0 has.there)

one_step : (r : Rank) (hart : ℕ) (old new : State × Memory) → Has r hart old → IsHartStep old new
    → IsPlainStep hart r (gone_on r hart new (r.clock + 1))
one_step r hart old new has step =
    let no_call = ap (λ (m : Memory). is_ecall (word_at m old.0.pc)) has.memory ∙ step.no_call in record {
      runs = some_runs r.harts hart old.0 has.there step.running;
      asks = asks_plain r hart old.0 has.there step.running no_call;
      tells = ap (λ (at : State × Memory). gone_on r hart at (r.clock + 1)) step.steps
          ∙ ap (λ (m : Memory). gone_on r hart ((stepped old.0 m).state, (stepped old.0 m).memory) (r.clock + 1))
          (sym has.memory)
          ∙ sym (told_plain r hart old.0 has.there step.running no_call (r.clock + 1));
    }

-- steps of the hart are as many of the rank
pub hart_steps : (n : ℕ) (r : Rank) (hart : ℕ) (old new : State × Memory) → Has r hart old
    → Repeats IsHartStep n old new → Repeats (IsPlainStep hart) n r (gone_on r hart new (r.clock + n))
hart_steps zero r hart old new has same =
    ap (λ (at : State × Memory). gone_on r hart at (r.clock + 0)) same ∙ stays r hart old has
hart_steps (suc n) r hart old new has steps =
    let at = steps.0 in
    let mid = gone_on r hart at (r.clock + 1) in
    let clock : r.clock + 1 + n ≡ r.clock + suc n = omega arith in
    let end : gone_on mid hart new (mid.clock + n) ≡ gone_on r hart new (r.clock + suc n) =
    ap (λ c. gone_on mid hart new c) clock
    ∙ ap (λ (hs : List State). record r { memory = new.1; harts = hs; clock = r.clock + suc n })
    (set_again r.harts hart at.0 new.0) in (
      mid,
      one_step r hart old at has steps.1,
      subst (λ (to : Rank). Repeats (IsPlainStep hart) n mid to) end
          (hart_steps n mid hart at new (record { there = get_set r.harts hart old.0 at.0 has.there; memory = refl })
          steps.2),
    )
