-- The calls that led to where a hart is, as text.
use Rattle.std.specs.Prelude.{ℕ, Bool, true, false, List, [], ◌++◌, codes}
use Rattle.std.specs.List.{flat_map}
use Rattle.rv_hart.specs.State.{State}
use Rattle.rv_image_types.specs.declared.images.Symbol.{Symbol}
use Rattle.rv_memory.specs.Memory.{Memory}
use Rattle.rvmc_places.specs.Frames.{frames}
use Rattle.rvmc_places.specs.declared.frames.Frame.{Frame}
use Rattle.rvmc_places.specs.Places.{place_name}
use Rattle.rvmc_places.specs.Ways.{called_at}

-- where a function was called, as `life.c:41 in step`
abbrev pub call_place : List Symbol → ℕ → List ℕ
call_place symbols at = place_name symbols at

-- the calls of these frames, each between the same texts
abbrev pub calls_text : List ℕ → List ℕ → List Symbol → List Frame → List ℕ
calls_text before behind symbols chain =
    flat_map (λ frame. before ++ (call_place symbols (called_at frame) ++ behind)) chain

-- the calls that led to where a hart is, the last one first and a line each, if they are asked for
unfoldable pub callers_text : Bool → List Symbol → Memory → State → List ℕ
callers_text true symbols memory hart = calls_text (codes "  called from ") (codes "\n") symbols (frames symbols memory hart)
callers_text false symbols memory hart = []
