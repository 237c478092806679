use Rattle.std.proofs.Common.{◌≡◌, ℕ, ◌<◌}
use Rattle.std.specs.Prelude.{slice_get, Some}
use Rattle.rv_image_types.specs.declared.images.Symbol.{Symbol}
use Rattle.cl_debug.proofs.debugging.Debugger.symbol.Given as goal

-- none of the symbols before this one has the name
abbrev pub invariant-loop-symbol : goal.invariant-loop-symbol
invariant-loop-symbol l =
    (k : ℕ) → k < l.symbol-index → (symbol : Symbol) → slice_get l.self.image.symbols k ≡ Some symbol
    → symbol.name ≡ l.name → ⊥
