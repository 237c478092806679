-- Ways, one more instruction and one more way at a time.
use Rattle.std.proofs.Common.{ℕ, suc, ◌≡◌, ◌∙◌, ◌+◌, ◌-◌, ◌<◌, ◌≤◌, is_some, true, false, refl, ap, arith}
use Rattle.std.specs.Prelude.{Option, Some, None}
use Rattle.rv_hart.specs.State.{State}
use Rattle.rv_memory.specs.Memory.{Memory}
use Rattle.rvmc_places.specs.Pointers.{pointer_at, pointer_behind}
use Rattle.rvmc_places.specs.Ways.{advanced, instruction_at, leads, led, way, way_among}
use Rattle.rvmc_places.specs.declared.frames.Frame.{Frame}
use Rattle.rvmc_places.specs.declared.pointers.Pointer.{Pointer}
use Rattle.rvmc_places.specs.declared.ways.Progress.{Progress}
use Rattle.rvmc_places.specs.declared.ways.Progress.TheVariants.{On, Out, Lost}
use Rattle.rvmc_places.specs.declared.ways.Spot.{Spot}

-- ---- a way

pub leads_nowhere : (memory : Memory) (left : ℕ) (next : Progress) → next ≡ Lost → leads memory left next ≡ None
leads_nowhere memory left next is = ap (leads memory left) is

pub leads_out : (memory : Memory) (left : ℕ) (next : Progress) (hart : State) → next ≡ Out hart
    → leads memory left next ≡ led memory hart
leads_out memory left next hart is = ap (leads memory left) is

pub leads_on : (memory : Memory) (n : ℕ) (next : Progress) (spot : Spot) → n < 512 → next ≡ On spot
    → leads memory (512 - n) next ≡ leads memory (512 - (n + 1)) (advanced memory spot)
leads_on memory n next spot less is =
    let more : 512 - n ≡ suc (512 - (n + 1)) = omega (arith, less) in
    ap (leads memory (512 - n)) is ∙ ap (λ left. leads memory left (On spot)) more

pub too_long : (memory : Memory) (n : ℕ) (next : Progress) (spot : Spot) → 512 ≤ n → next ≡ On spot
    → leads memory (512 - n) next ≡ None
too_long memory n next spot end is =
    let none : 512 - n ≡ 0 = omega (arith, end) in
    ap (leads memory (512 - n)) is ∙ ap (λ left. leads memory left (On spot)) none

-- ---- all ways

pub one_more : (memory : Memory) (hart : State) (n : ℕ) → n < 256
    → way_among memory hart (256 - n) None ≡ way_among memory hart (256 - (n + 1)) (way memory hart n)
one_more memory hart n less =
    let more : 256 - n ≡ suc (256 - (n + 1)) = omega (arith, less) in
    let this : 255 - (256 - (n + 1)) ≡ n = omega (arith, less) in
    ap (λ left. way_among memory hart left None) more
    ∙ ap (λ k. way_among memory hart (256 - (n + 1)) (way memory hart k)) this

pub no_more : (memory : Memory) (hart : State) (n : ℕ) → 256 ≤ n → way_among memory hart (256 - n) None ≡ None
no_more memory hart n end =
    let none : 256 - n ≡ 0 = omega (arith, end) in ap (λ left. way_among memory hart left None) none

-- one that leads out, and one that doesn't
pub found : (memory : Memory) (hart : State) (left : ℕ) (next : Option Frame) → is_some next ≡ true
    → way_among memory hart left next ≡ next
found memory hart left (Some frame) some = refl
found memory hart left None some = cc

pub none_found : (memory : Memory) (hart : State) (left : ℕ) (next : Option Frame) → is_some next ≡ false
    → way_among memory hart left next ≡ way_among memory hart left None
none_found memory hart left None none = refl
none_found memory hart left (Some frame) none = cc

-- ---- what s0 is

pub behind_one : (memory : Memory) (at count n : ℕ) (pointer : Pointer) → n < count
    → pointer_at memory at (count - n) pointer
    ≡ pointer_at memory (at + 4) (count - (n + 1)) (pointer_behind (instruction_at memory at) pointer)
behind_one memory at count n pointer less =
    let more : count - n ≡ suc (count - (n + 1)) = omega (arith, less) in
    ap (λ left. pointer_at memory at left pointer) more

pub behind_all : (memory : Memory) (at count n : ℕ) (pointer : Pointer) → count ≤ n
    → pointer_at memory at (count - n) pointer ≡ pointer
behind_all memory at count n pointer end =
    let none : count - n ≡ 0 = omega (arith, end) in ap (λ left. pointer_at memory at left pointer) none
