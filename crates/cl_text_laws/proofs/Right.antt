-- Requests that are inside the limits, as the checks of the calls leave them.
use Rattle.std.specs.Prelude.{ℕ, ◌<◌, ◌≤◌, ⊤, length, Option, Some, None}
use Rattle.std.specs.List.{AllByRecursion}
use Rattle.mp_types.specs.declared.requests.Request.{Request}
use Rattle.mp_types.specs.declared.requests.Request.TheVariants as request
use Rattle.mp_request.specs.declared.entries.OpenRequest.{OpenRequest}
use Rattle.mp_request.specs.declared.entries.Transfer.{Transfer}
use Rattle.mp_request.specs.declared.entries.Transfer.TheVariants as transfer
use Rattle.mp_request.specs.Table.{Table}
use Rattle.mp_hub.specs.Hub.{Call}
use Rattle.cl_text.specs.Limits.{FitsCut}

-- what a send hands on
pub record FitsSend (number label size : ℕ) : Type 0 where
  pub comm : number < 8
  pub tag : label ≤ 32767
  pub count : size ≤ 4096

-- what replies to this request, and to later ones, hand on of it
abbrev pub IsRight : Request → Type 0
IsRight (request.Send sync comm dest tag bytes) = FitsSend comm tag (length bytes)
IsRight (request.All posts) = length posts ≤ 255
IsRight (request.Init sends comm peer tag parts size) = FitsCut parts size
IsRight _ = ⊤

-- a call of one of 8 ranks
pub record IsRightCall (call : Call) : Type 0 where
  pub rank : call.0 < 8
  pub request : IsRight call.1

-- what a start of a request may send
abbrev pub IsRightTransfer : Transfer → Type 0
IsRightTransfer (transfer.Send sync buffer count dest tag comm) = FitsSend comm tag count
IsRightTransfer _ = ⊤

abbrev pub IsRightOpen : Option OpenRequest → Type 0
IsRightOpen None = ⊤
IsRightOpen (Some r) = IsRightTransfer r.transfer

-- all requests of a rank
abbrev pub IsRightTable : Table → Type 0
IsRightTable table = AllByRecursion IsRightOpen table
