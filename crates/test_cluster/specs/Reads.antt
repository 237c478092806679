-- What a reader of a trace meets.
use Rattle.std.specs.Prelude.{◌≡◌, Option, None, Some}
use Rattle.cl_trace.specs.Cursors.{seen_event}
use Rattle.cl_trace.specs.declared.cursors.Seen.{Seen}
use Rattle.cl_trace.specs.declared.events.Event.{Event}

-- this event was read
abbrev pub Reads : Event → Option Seen → Type 0
Reads event None = ⊥
Reads event (Some seen) = seen_event seen ≡ event
