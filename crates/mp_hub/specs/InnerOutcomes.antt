-- The outcome of a call, as its parts have it.
use Rattle.std.specs.Prelude.{◌≡◌}
use Rattle.mp_types.specs.declared.replies.Reply.{Reply}
use Rattle.mp_hub.specs.Hub.{HubView}

-- the outcome is this reply and this hub
abbrev pub IsOutcome : Reply × HubView → Reply → HubView → Type 0
IsOutcome o r h = (r ≡ o.0) × (h ≡ o.1)
