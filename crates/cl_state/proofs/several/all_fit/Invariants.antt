use Rattle.std.proofs.Common.{◌≡◌, length}
use Rattle.std.specs.List.{list_all}
use Rattle.cl_state.specs.Several.{dealt, fits_one, pendings}
use Rattle.cl_state.proofs.several.all_fit.Given as goal

abbrev pub invariant-loop-handle : goal.invariant-loop-handle
invariant-loop-handle l =
    list_all (λ d. fits_one l.site d.0 d.1) (dealt (pendings l.requests l.handles) l.gots)
    ≡ list_all (λ d. fits_one l.site d.0 d.1) (dealt (pendings l.requests l.rest) l.behind)

abbrev pub decreases-loop-handle : goal.decreases-loop-handle
decreases-loop-handle l = length l.rest
