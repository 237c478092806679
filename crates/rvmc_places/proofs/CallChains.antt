-- Chains of frames, one more at a time.
use Rattle.std.proofs.Common.{ℕ, zero, suc, ◌≡◌, ◌∙◌, ◌+◌, ◌-◌, ◌<◌, ◌≤◌, List, [], ◌∷◌, ◌++◌, refl, sym, ap, append-nil, append_assoc, arith}
use Rattle.std.specs.Prelude.{Option, Some, None}
use Rattle.rv_image_types.specs.declared.images.Symbol.{Symbol}
use Rattle.rv_memory.specs.Memory.{Memory}
use Rattle.rvmc_places.specs.Callers.{call_place, calls_text}
use Rattle.rvmc_places.specs.Frames.{frame_above, frames_from}
use Rattle.rvmc_places.specs.Ways.{called_at}
use Rattle.rvmc_places.specs.declared.frames.Frame.{Frame}

-- no frame, and none above it
frames_none : (symbols : List Symbol) (memory : Memory) (most : ℕ) → frames_from symbols memory most None ≡ []
frames_none symbols memory zero = refl
frames_none symbols memory (suc most) = refl

-- where there are no more
pub none_left : (symbols : List Symbol) (memory : Memory) (n : ℕ) (next : Option Frame) → next ≡ None → frames_from symbols memory (64 - n) next ≡ []
none_left symbols memory n next is = ap (frames_from symbols memory (64 - n)) is ∙ frames_none symbols memory (64 - n)

pub all_told : (symbols : List Symbol) (memory : Memory) (n : ℕ) (next : Option Frame) → 64 ≤ n → frames_from symbols memory (64 - n) next ≡ []
all_told symbols memory n next end = let none : 64 - n ≡ 0 = omega (arith, end) in ap (λ most. frames_from symbols memory most next) none

-- and where there is one
pub one_left : (symbols : List Symbol) (memory : Memory) (n : ℕ) (next above : Option Frame) (frame : Frame) → n < 64 → next ≡ Some frame → above ≡ frame_above symbols memory frame
    → frames_from symbols memory (64 - n) next ≡ frame ∷ frames_from symbols memory (64 - (n + 1)) above
one_left symbols memory n next above frame less is higher =
    let more : 64 - n ≡ suc (64 - (n + 1)) = omega (arith, less) in
    ap (frames_from symbols memory (64 - n)) is ∙ ap (λ most. frames_from symbols memory most (Some frame)) more
    ∙ ap (λ o. frame ∷ frames_from symbols memory (64 - (n + 1)) o) (sym higher)

-- their calls
module _ (before behind : List ℕ) (symbols : List Symbol) (old text : List ℕ) (whole left : List Frame)
    (so_far : old ++ calls_text before behind symbols whole ≡ text ++ calls_text before behind symbols left) where
  pub last_call : left ≡ [] → text ≡ old ++ calls_text before behind symbols whole
  last_call none = sym (so_far ∙ ap (λ fs. text ++ calls_text before behind symbols fs) none ∙ append-nil text)

  pub next_call : (frame : Frame) (rest : List Frame) (new : List ℕ) → left ≡ frame ∷ rest
      → new ≡ text ++ (before ++ (call_place symbols (called_at frame) ++ behind))
      → old ++ calls_text before behind symbols whole ≡ new ++ calls_text before behind symbols rest
  next_call frame rest new more added =
      so_far ∙ ap (λ fs. text ++ calls_text before behind symbols fs) more
      ∙ sym (append_assoc text (before ++ (call_place symbols (called_at frame) ++ behind)) (calls_text before behind symbols rest))
      ∙ ap (λ t. t ++ calls_text before behind symbols rest) (sym added)
