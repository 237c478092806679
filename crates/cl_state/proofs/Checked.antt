-- A call is checked with as many bytes of output as there are.
use Rattle.std.proofs.Common.{◌≡◌, ℕ, ap, length, sym}
use Rattle.cl_calls.specs.declared.sites.Site.{Site}
use Rattle.cl_calls.specs.Calls.{call_named}
use Rattle.cl_calls.specs.Checks.{checks, first_fault}
use Rattle.cl_calls.specs.Needs.{needs_of}
use Rattle.cl_state.specs.Asked.{Part, checked, go_or_refuse}

pub checked_on : (site : Site) (part : Part) (written : ℕ) → length part.out ≡ written
    → go_or_refuse
    (first_fault (checks site part.memory part.requests part.phases written (needs_of (call_named part.hart))))
    (call_named part.hart)
    ≡ checked site part
checked_on site part written same =
    ap (λ (n : ℕ). go_or_refuse
    (first_fault (checks site part.memory part.requests part.phases n (needs_of (call_named part.hart))))
    (call_named part.hart)) (sym same)
