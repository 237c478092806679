-- The call by the program itself, looked for frame by frame.
use Rattle.std.proofs.Common.{ℕ, ◌≡◌, ◌∙◌, Bool, true, false, cond, List, [], ◌∷◌, ap, sym}
use Rattle.std.specs.Prelude.{Option, Some, None}
use Rattle.rv_image_types.specs.declared.images.Symbol.{Symbol}
use Rattle.rvmc_places.specs.Ways.{called_at}
use Rattle.rvmc_places.specs.OwnCalls.{has_line, own_call_from}
use Rattle.rvmc_places.specs.declared.frames.Frame.{Frame}
use Rattle.rvmc_places.specs.declared.own_calls.OwnCall.{OwnCall}

module _ (symbols : List Symbol) (whole : Option OwnCall) (inner : ℕ) (left : List Frame)
    (so_far : whole ≡ own_call_from symbols inner left) where
  -- where there are no more frames
  pub no_call : left ≡ [] → None ≡ whole
  no_call none = sym (so_far ∙ ap (own_call_from symbols inner) none)

  step : (frame : Frame) (rest : List Frame) (b : Bool) → left ≡ frame ∷ rest → has_line symbols (called_at frame) ≡ b
      → whole
      ≡ cond b (Some (record { at = called_at frame; inner = inner })) (own_call_from symbols (called_at frame) rest)
  step frame rest b more is =
      so_far ∙ ap (own_call_from symbols inner) more
      ∙ ap (λ b. cond b (Some (record { at = called_at frame; inner = inner })) (own_call_from symbols (called_at frame) rest)) is

  -- a call that has a line
  pub this_call : (frame : Frame) (rest : List Frame) (at : ℕ) → left ≡ frame ∷ rest → at ≡ called_at frame → has_line symbols at ≡ true
      → Some (record { at = at; inner = inner }) ≡ whole
  this_call frame rest at more same is =
      sym (step frame rest true more (ap (has_line symbols) (sym same) ∙ is)
      ∙ ap (λ at. Some (record { at = at; inner = inner })) (sym same))

  -- and one that has none
  pub further : (frame : Frame) (rest : List Frame) (at : ℕ) → left ≡ frame ∷ rest → at ≡ called_at frame → has_line symbols at ≡ false
      → whole ≡ own_call_from symbols at rest
  further frame rest at more same is =
      step frame rest false more (ap (has_line symbols) (sym same) ∙ is)
      ∙ ap (λ at. own_call_from symbols at rest) (sym same)
