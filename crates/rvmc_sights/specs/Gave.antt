-- What a call gave.
use Rattle.std.specs.Prelude.{ℕ, ◌/◌, ◌%◌, ◌==◌, ◌&&◌, if◌then◌else◌, not, Bool, false, List, [], ◌∷◌, ◌++◌, codes}
use Rattle.std.specs.Prelude.{Option, Some, None, take}
use Rattle.std.specs.Fmt.{decimal, digit_glyph}
use Rattle.std.specs.List.{flat_map}
use Rattle.rv_hart.specs.State.{State, read}
use Rattle.rv_hart.specs.declared.state.Mode.{Mode}
use Rattle.rv_hart.specs.declared.state.Mode.TheVariants.{Running, Waiting, Ended, Trapped}
use Rattle.mp_types.specs.declared.messages.Envelope.{Envelope}
use Rattle.mp_types.specs.declared.messages.Message.{Message}
use Rattle.mp_types.specs.declared.replies.Reply.{Reply}
use Rattle.mp_types.specs.declared.replies.Reply.TheVariants as reply
use Rattle.cl_calls.specs.declared.calls.Call.{Call}
use Rattle.cl_calls.specs.declared.calls.Call.TheVariants as call
use Rattle.cl_trace.specs.declared.events.Kind.{Kind}
use Rattle.rvmc_sights.specs.Arguments.{wild_text}
use Rattle.rvmc_stats.specs.Names.{code_name}

-- each thing that a call gave stands behind an arrow

-- ---- messages

-- `message from rank S tag T, N bytes`, where the rank is the sender's in the cluster
abbrev pub met_envelope_text : Envelope → List ℕ
met_envelope_text e =
    codes " -> message from rank "
    ++ (decimal e.source ++ (codes " tag " ++ (decimal e.tag ++ (codes ", " ++ (decimal e.count ++ codes " bytes")))))

-- a byte in two hex digits, behind a blank
abbrev pub byte_text : ℕ → List ℕ
byte_text byte = codes " " ++ (digit_glyph false (byte / 16) ∷ digit_glyph false (byte % 16) ∷ [])

-- with its first sixteen bytes
abbrev pub met_message_text : Message → List ℕ
met_message_text m = met_envelope_text m.envelope ++ (codes ":" ++ flat_map byte_text (take 16 m.bytes))

abbrev pub met_if_any : Option Message → List ℕ
met_if_any None = []
met_if_any (Some m) = met_message_text m

-- ---- replies and boxes

-- what the hub told besides how the call ended
abbrev pub told_by_reply : Reply → List ℕ
told_by_reply (reply.Got m) = met_message_text m
told_by_reply (reply.Seen e) = met_envelope_text e
told_by_reply (reply.Held handle e) = met_envelope_text e
told_by_reply (reply.AllGot gots) = flat_map met_if_any gots
told_by_reply (reply.Link link) = codes " -> link " ++ decimal link
told_by_reply (reply.Cut parts size) =
    codes " -> cut into " ++ (decimal parts ++ (codes " partitions of " ++ (decimal size ++ codes " bytes")))
told_by_reply _ = []

abbrev pub kind_text : Kind → List ℕ
kind_text (Kind.Hub r) = told_by_reply r
kind_text _ = []

-- the box that is asked
abbrev pub box_text : Option (ℕ × ℕ) → List ℕ
box_text None = []
box_text (Some box) = codes " -> link " ++ (decimal box.0 ++ (codes " partition " ++ decimal box.1))

-- ---- how it ended

-- what a call leaves in a1, if anything
abbrev pub value_name : Call → Option (List ℕ)
value_name (call.Rank comm) = Some (codes "rank ")
value_name (call.Size comm) = Some (codes "size ")
value_name call.Hart = Some (codes "hart ")
value_name (call.Isend s) = Some (codes "handle ")
value_name (call.Issend s) = Some (codes "handle ")
value_name (call.Irecv r) = Some (codes "handle ")
value_name (call.Imrecv m) = Some (codes "handle ")
value_name (call.SendInit s) = Some (codes "handle ")
value_name (call.RecvInit r) = Some (codes "handle ")
value_name (call.PsendInit t) = Some (codes "handle ")
value_name (call.PrecvInit t) = Some (codes "handle ")
value_name (call.Test c) = Some (codes "flag ")
value_name (call.Testall s) = Some (codes "flag ")
value_name (call.Iprobe p) = Some (codes "flag ")
value_name (call.Parrived handle part) = Some (codes "flag ")
value_name (call.Improbe p) = Some (codes "message handle ")
value_name (call.Mprobe p) = Some (codes "message handle ")
value_name _ = None

abbrev pub named_value_text : Option (List ℕ) → ℕ → List ℕ
named_value_text None value = []
named_value_text (Some name) value = codes " -> " ++ (name ++ wild_text value)

-- the code of a call that returned, where it isn't 0
abbrev pub code_text : ℕ → List ℕ
code_text code = if (code == 0) then [] else codes " -> " ++ code_name code

-- a hart that waits makes the call again; one that ended has made its last
abbrev pub end_text : Call → State → Mode → List ℕ
end_text c after Running = code_text (read after 10) ++ named_value_text (value_name c) (read after 11)
end_text c after (Waiting w) = codes " -> waits"
end_text c after (Ended code) = []
end_text c after (Trapped cause at) = []

-- a call was refused that returned with a code other than OK and TRUNCATED
abbrev pub is_refusal : ℕ → Bool
is_refusal code = not (code == 0) && not (code == 7)

abbrev pub is_refused : State → Mode → Bool
is_refused after Running = is_refusal (read after 10)
is_refused after _ = false
