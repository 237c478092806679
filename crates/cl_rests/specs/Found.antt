-- What a rank's first hart stands behind, and whether it rests.
use Rattle.std.specs.Prelude.{ℕ, ◌≡◌, cond, Bool, true, false, List, Option, Some, None}
use Rattle.std.specs.List.{slice_get}
use Rattle.rv_image_types.specs.declared.images.ImageParts.{ImageParts}
use Rattle.cl_calls.specs.declared.calls.Call.{Call}
use Rattle.cl_calls.specs.declared.calls.Call.TheVariants as call
use Rattle.cl_calls.specs.declared.calls.Sending.{Sending}
use Rattle.cl_state.specs.declared.asking.Doing.{Doing}
use Rattle.cl_state.specs.declared.asking.Doing.TheVariants.{Go}
use Rattle.cl_state.specs.Rank.{Rank}
use Rattle.cl_rest_laws.specs.Rests.{rests_if, spelled, stands_behind_call}
use Rattle.cl_order_laws.specs.Alike.{hub_of}
use Rattle.cl_order_laws.specs.Closed.{Node}
use Rattle.cl_moves.specs.Standing.{StandsAt}
use Rattle.cl_moves.specs.declared.standing.Standing.{Standing}
use Rattle.cl_rests.specs.Sought.{is_to}

-- what the call sends, if it is a SEND
abbrev pub sent_by : Call → Option Sending
sent_by (call.Send s) = Some s
sent_by _ = None

-- what is sent by the SEND behind which the rank's first hart stands, if it stands behind one
abbrev pub sent_behind : Rank → Option Sending
sent_behind rank = cond (stands_behind_call rank 0) (sent_by (spelled rank 0)) None

-- the turn is a WAIT or WAITALL
abbrev pub is_wait : Doing → Bool
is_wait (Go (call.Wait c)) = true
is_wait (Go (call.Waitall s)) = true
is_wait _ = false

-- ---- of a standing

-- whichever node it is, the rank's first hart rests there for a message to one of these, or doesn't
abbrev pub TellsRestsTo : Standing → ℕ → Option (List ℕ) → Bool → Type 0
TellsRestsTo standing rank to found =
    (image : ImageParts) (here : Node) → StandsAt image standing here
    → found ≡ rests_if (is_to to) (hub_of here.cluster.journal) rank (slice_get here.cluster.ranks rank) 0
