-- A step that was refused leaves the rank as it was.
use Rattle.std.proofs.Common.{◌≡◌, ℕ, ap, sym, ◌∙◌, subst, List, length, get_or, Some, slice_set}
use Rattle.std.specs.Prelude.{IsOk, OnErr, Result, Ok, Err, true, slice_get}
use Rattle.std.specs.Result.{is_err}
use Rattle.std.specs.Global.{Vec}
use Rattle.std.specs.Vec.{with_item}
use Rattle.std.proofs.Math.Nat.{ℕ_set}
use Rattle.std.proofs.lemmas.Option.{get_or_from_slice_get}
use Rattle.std.proofs.lemmas.List.{length-set, set-get_or}
use Rattle.rv_hart.specs.State.{State}
use Rattle.rv_memory.specs.Memory.{Memory}
use Rattle.cl_state.specs.declared.state.RankState.{RankState}

-- the same elements, whatever proof counts them
same_vec : (v : Vec State) (xs : List State) → v.items ≡ xs → (long : v.len ≡ length xs)
    → record v { items = xs; ok = (long, v.ok.1) } ≡ v
same_vec v xs same =
    subst (λ (ys : List State). (long : v.len ≡ length ys) → record v { items = ys; ok = (long, v.ok.1) } ≡ v) same
    (λ long. ap (λ (q : v.len ≡ length v.items). record v { items = v.items; ok = (q, v.ok.1) })
    (ℕ_set v.len (length v.items) long v.ok.0))

-- an element that is put back
put_back : (v : Vec State) (i : ℕ) (h : State) → h ≡ get_or v.items i h → with_item v i h ≡ v
put_back v i h is =
    same_vec v (slice_set v.items i h) (sym (ap (λ (x : State). slice_set v.items i x) is ∙ set-get_or v.items i h))
    (v.ok.0 ∙ sym (length-set v.items i h))

pub unstepped : (s : RankState) (i : ℕ) (old h : State) (m : Memory) → old ≡ get_or s.harts.items i old → h ≡ old
    → m ≡ s.memory → record s { memory = m; harts = with_item s.harts i h } ≡ s
unstepped s i old h m is same kept =
    ap (λ (x : Memory). record s { memory = x; harts = with_item s.harts i h }) kept
    ∙ ap (λ (x : State). record s { harts = with_item s.harts i x }) same
    ∙ ap (λ (hs : Vec State). record s { harts = hs }) (put_back s.harts i old is)

-- what is refused is an error
pub refused : {A E P : Type 0} (r : Result A E) → is_err r ≡ true → (P → IsOk r) → P → ⊥
refused (Ok x) wrong sure p = cc
refused (Err e) wrong sure p = let never = sure p in cc

pub on_err : {A E : Type 0} (r : Result A E) (P : Type 0) → is_err r ≡ true → OnErr r P → P
on_err (Ok x) P wrong is = cc
on_err (Err e) P wrong is = is

-- what is read at a place is what is there
pub at_index : (hs : List State) (i : ℕ) (at h : State) → slice_get hs i ≡ Some at → h ≡ get_or hs i h → at ≡ h
at_index hs i at h there is = sym (get_or_from_slice_get hs i at h there) ∙ sym is
