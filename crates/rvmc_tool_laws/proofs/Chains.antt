-- Chains of frames rise, and are what the memory holds.
use Rattle.std.proofs.Common.{ℕ, zero, suc, ◌≡◌, ◌∙◌, ◌+◌, ◌-◌, ◌<◌, ◌≤◌, ◌⊎◌, inl, inr, Bool, true, false, cond, nat_eq, subst, List, [], ◌∷◌, length, true≢false, map, refl, sym, ap, arith}
use Rattle.std.specs.Prelude.{is_some, nat_lt, slice_get, slice_index, Option, Some, None}
use Rattle.std.proofs.lemmas.List.{length-map}
use Rattle.std.proofs.lemmas.Option.{none-some, same_Some}
use Rattle.std.specs.Option.{option_or}
use Rattle.std.proofs.lemmas.Bool.{eqb-false, eqb-true, ltb-true}
use Rattle.rv_hart.specs.State.{State}
use Rattle.rv_image_types.specs.declared.images.Symbol.{Symbol}
use Rattle.rv_memory.specs.Memory.{Memory}
use Rattle.rvmc_places.specs.Frames.{caller_frame, caller_frame_by, frame_above, frame_at, frames, frames_from, own_frame, returned, risen}
use Rattle.rvmc_places.specs.Pointers.{kept_pointer}
use Rattle.rvmc_places.specs.Ways.{called_at, way, way_among, way_out}
use Rattle.rvmc_tool_laws.specs.Frames.{FramesRiseLaw, HeldFramesLaw, IsCallers}
use Rattle.rvmc_places.specs.declared.frames.Frame.{Frame}
use Rattle.rvmc_places.specs.declared.pointers.Keeps.{Keeps}
use Rattle.rvmc_places.specs.declared.pointers.Keeps.TheVariants.{Leaf, Stored, Unknown, Without}

-- the caller's frame is higher
above : (symbols : List Symbol) (memory : Memory) (frame next : Frame) → frame_above symbols memory frame ≡ Some next
    → (frame.pointer < next.pointer) × (caller_frame symbols memory frame ≡ Some next)
above symbols memory frame next is = by (caller_frame symbols memory frame) refl
  where
    by : (o : Option Frame) → caller_frame symbols memory frame ≡ o
        → (frame.pointer < next.pointer) × (caller_frame symbols memory frame ≡ Some next)
    by None e = absurd (none-some next (sym (ap (risen frame) e) ∙ is))
    by (Some found) e = higher (nat_lt frame.pointer found.pointer) refl
      where
        risen_is : risen frame (Some found) ≡ Some next
        risen_is = sym (ap (risen frame) e) ∙ is

        higher : (b : Bool) → nat_lt frame.pointer found.pointer ≡ b
            → (frame.pointer < next.pointer) × (caller_frame symbols memory frame ≡ Some next)
        higher true lower =
            let same : found ≡ next = same_Some found next (sym (ap (λ b. cond b (Some found) None) lower) ∙ risen_is) in
            (subst (λ (f : Frame). frame.pointer < f.pointer) same (ltb-true _ _ lower), e ∙ ap Some same)
        higher false lower =
            absurd (none-some next (sym (ap (λ b. cond b (Some found) None) lower) ∙ risen_is))

-- one of the last ways leads out, or none of them does
some_way : (memory : Memory) (hart : State) (left : ℕ) (first : Option Frame) (next : Frame)
    → way_among memory hart left first ≡ Some next
    → (first ≡ Some next) ⊎ ((number : ℕ) × (number < 256) × (way memory hart number ≡ Some next))
some_way memory hart left (Some found) next is = inl is
some_way memory hart zero None next is = inl is
some_way memory hart (suc left) None next is =
    elim (some_way memory hart left (way memory hart (255 - left)) next is) as (λ _. (None ≡ Some next) ⊎ ((number : ℕ) × (number < 256) × (way memory hart number ≡ Some next))) [
      | inl this ↦ inr (255 - left, omega arith, this)
      | inr other ↦ inr other
    ]

no_way : (memory : Memory) (hart : State) (left : ℕ) (first : Option Frame) → way_among memory hart left first ≡ None
    → (first ≡ None) × ((number : ℕ) → number < 256 → 256 ≤ number + left → way memory hart number ≡ None)
no_way memory hart left (Some found) is = absurd (none-some found (sym is))
no_way memory hart zero None is = (refl, λ number below from. absurd (omega (arith, below, from)))
no_way memory hart (suc left) None is =
    let rest = no_way memory hart left (way memory hart (255 - left)) is in
    (refl, λ number below from. here rest.0 rest.1 number below from (nat_eq number (255 - left)) refl)
  where
    here : way memory hart (255 - left) ≡ None
        → ((number : ℕ) → number < 256 → 256 ≤ number + left → way memory hart number ≡ None) → (number : ℕ)
        → number < 256 → 256 ≤ number + suc left → (b : Bool) → nat_eq number (255 - left) ≡ b
        → way memory hart number ≡ None
    here this others number below from true same = ap (way memory hart) (eqb-true _ _ same) ∙ this
    here this others number below from false other =
        others number below (omega (arith, below, from, eqb-false number (255 - left) other))

-- the caller's frame is one of its ways', or by its frame pointer
callers : (symbols : List Symbol) (memory : Memory) (frame next : Frame) (keeps : Keeps)
    → caller_frame_by keeps memory frame ≡ Some next → IsCallers keeps memory frame next
unfolding way_out
callers symbols memory frame next Unknown is = is
callers symbols memory frame next Stored is = is
callers symbols memory frame next Leaf is = is
callers symbols memory frame next Without is = by (way_out memory (returned frame)) refl
  where
    by : (o : Option Frame) → way_out memory (returned frame) ≡ o → IsCallers Without memory frame next
    by (Some found) e =
        let same : Some found ≡ Some next = sym (ap (λ o. option_or o (frame_at memory frame.above)) e) ∙ is in
        elim (some_way memory (returned frame) 256 None next (e ∙ same)) as (λ _. IsCallers Without memory frame next) [
          | inl none ↦ absurd (none-some next none)
          | inr found ↦ inl found
        ]
    by None e =
        let nowhere = no_way memory (returned frame) 256 None e in
        inr (
          λ number below. nowhere.1 number below (omega arith),
          sym (ap (λ o. option_or o (frame_at memory frame.above)) e) ∙ is,
        )

-- the next frame of a chain
next_is : (symbols : List Symbol) (memory : Memory) (most : ℕ) (first : Option Frame) (k : ℕ) (frame next : Frame)
    → slice_get (frames_from symbols memory most first) k ≡ Some frame → slice_get (frames_from symbols memory most first) (suc k) ≡ Some next
    → frame_above symbols memory frame ≡ Some next
next_is symbols memory zero first k frame next this that = absurd (cc)
next_is symbols memory (suc most) None k frame next this that = absurd (cc)
next_is symbols memory (suc zero) (Some first) k frame next this that = absurd (cc)
next_is symbols memory (suc (suc most)) (Some first) zero frame next this that = by (frame_above symbols memory first) refl
  where
    by : (o : Option Frame) → frame_above symbols memory first ≡ o → frame_above symbols memory frame ≡ Some next
    by None e = absurd (true≢false (ap is_some (sym that ∙ ap (λ o. slice_get (frames_from symbols memory (suc most) o) 0) e)))
    by (Some found) e =
        let same : first ≡ frame = same_Some first frame this in
        let found_next : Some found ≡ Some next = sym (ap (λ o. slice_get (frames_from symbols memory (suc most) o) 0) e) ∙ that in
        ap (frame_above symbols memory) (sym same) ∙ e ∙ found_next
next_is symbols memory (suc (suc most)) (Some first) (suc k) frame next this that = next_is symbols memory (suc most) (frame_above symbols memory first) k frame next this that

at_most : (symbols : List Symbol) (memory : Memory) (most : ℕ) (first : Option Frame) → length (frames_from symbols memory most first) ≤ most
at_most symbols memory zero first = omega arith
at_most symbols memory (suc most) None = omega arith
at_most symbols memory (suc most) (Some first) = let less = at_most symbols memory most (frame_above symbols memory first) in omega (arith, less)

one_more : (k : ℕ) → k + 1 ≡ suc k
one_more k = omega arith

pub held : HeldFramesLaw
held symbols memory hart k frame next this that =
    let there = ap (slice_get (frames symbols memory hart)) (sym (one_more k)) ∙ that in
    callers symbols memory frame next (kept_pointer symbols memory (called_at frame))
    (above symbols memory frame next (next_is symbols memory 64 (own_frame symbols memory hart) k frame next this there)).1

-- an element at each number below the length
element : {X : Type 0} (xs : List X) (k : ℕ) → k < length xs → (x : X) × (slice_get xs k ≡ Some x)
element [] k below = absurd (omega (arith, below))
element (x ∷ xs) zero below = (x, refl)
element (x ∷ xs) (suc k) below = element xs k (omega (arith, below))

-- and its frame pointer
pointer_at : (chain : List Frame) (k : ℕ) (frame : Frame) → slice_get chain k ≡ Some frame → slice_index (map (λ f. f.pointer) chain) k ≡ frame.pointer
pointer_at [] k frame e = absurd (cc)
pointer_at (f ∷ chain) zero frame e = ap (λ f. f.pointer) (same_Some f frame e)
pointer_at (f ∷ chain) (suc k) frame e = pointer_at chain k frame e

pub rise : FramesRiseLaw
rise symbols memory hart = (
  λ k below.
      let chain = frames symbols memory hart in
      let count = length-map chain (λ f. f.pointer) in
      let this = element chain k (omega (arith, below, count)) in
      let that = element chain (suc k) (omega (arith, below, count)) in
      let higher = (above symbols memory this.0 that.0 (next_is symbols memory 64 (own_frame symbols memory hart) k this.0 that.0 this.1 that.1)).0 in
      let here = pointer_at chain k this.0 this.1 in
      let there = ap (slice_index (map (λ f. f.pointer) chain)) (one_more k) ∙ pointer_at chain (suc k) that.0 that.1 in
      omega (arith, higher, here, there),
  at_most symbols memory 64 (own_frame symbols memory hart),
)
