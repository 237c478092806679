-- A rank sends where it is a member.
use Rattle.std.specs.Prelude.{◌≡◌, ℕ, Bool, true, List, Some}
use Rattle.mp_types.specs.declared.requests.Request.TheVariants as request
use Rattle.mp_request.specs.declared.entries.OpenRequest.{OpenRequest}
use Rattle.mp_request.specs.declared.entries.Transfer.{Transfer}
use Rattle.mp_request.specs.declared.entries.Transfer.TheVariants as transfer
use Rattle.mp_request.specs.Table.{Table, no_requests, request_at}
use Rattle.cl_calls.specs.Checks.{is_comm}
use Rattle.cl_calls.specs.declared.sites.Site.{Site}
use Rattle.cl_state.specs.declared.asking.Answer.{Answer}
use Rattle.cl_state.specs.declared.asking.Ask.{Ask}
use Rattle.cl_state.specs.Asked.{asked}
use Rattle.cl_state.specs.Rank.{Rank}
use Rattle.cl_state.specs.Told.{told}

-- a send's communicator has the rank as a member
abbrev pub IsInside : Site → Transfer → Type 0
IsInside site (transfer.Send sync buffer count dest tag comm) = is_comm site (Some comm) ≡ true
IsInside site _ = Unit {0}

-- and so has that of each open request
abbrev pub AreInside : Site → Table → Type 0
AreInside site table = (handle : ℕ) (r : OpenRequest) → request_at table handle ≡ Some r → IsInside site r.transfer

-- the check of a call that opens a send is enough for each start of it (MPI 4.1, 3.9): what is open stays so
pub record MembersLaw : Type 0 where
  pub first : (site : Site) → AreInside site no_requests
  pub kept : (rank : Rank) (hart stamp : ℕ) (answer : Answer) → AreInside rank.site rank.requests
      → AreInside rank.site (told rank hart answer stamp).requests
  pub sends : (rank : Rank) (hart comm dest tag : ℕ) (sync : Bool) (bytes : List ℕ)
      → AreInside rank.site rank.requests
      → asked rank hart ≡ Ask.Hub (request.Send sync comm dest tag bytes) → is_comm rank.site (Some comm) ≡ true
