-- The codes of refusals.
use Rattle.mp_types.specs.declared.codes.Code.{Code}
use Rattle.mp_types.specs.declared.codes.Code.TheVariants as code
use Rattle.mp_request.specs.declared.refusals.Refusal.{Refusal}
use Rattle.mp_request.specs.declared.refusals.Refusal.TheVariants.{BadRequest, Full, Active}

abbrev pub code_of : Refusal → Code
code_of BadRequest = code.BadRequest
code_of Full = code.Full
code_of Active = code.Active
