-- What contracts see of requests that complete together.
use Rattle.std.specs.Prelude.{List}
use Rattle.mp_request.specs.Table.{Table}
use Rattle.cl_state.specs.declared.several.Deal.{Deal}
use Rattle.cl_state.specs.declared.several.Giving.{Giving}
use Rattle.cl_state.specs.Several.{Given, given, pendings}

abbrev pub given_by : Giving → Given
given_by g =
    record { buffer = g.buffer; bytes = g.bytes.now; source = g.source; tag = g.tag; truncated = g.truncated }

-- what all of them give, in the array's order
abbrev pub given_in : Deal → Table → List Given
given_in deal table = given deal.site.now (pendings table deal.handles.now) deal.gots.now
