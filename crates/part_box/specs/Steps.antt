-- What a step makes of what its key knows.
use Rattle.std.specs.Prelude.{ℕ, [], ◌∷◌, ◌++◌, length, None, true, false, if◌then◌else◌, is_some, unwrap_or}
use Rattle.part_box.specs.declared.view.Sending.{Sending}
use Rattle.part_box.specs.declared.view.Receiving.{Receiving}
use Rattle.part_box.specs.Gate.{ready_stamp, taken_stamp}

abbrev pub nothing_sent : Sending
nothing_sent = record { made = []; filled = []; is_open = true; front = 0; loads = [] }

abbrev pub nothing_received : Receiving
nothing_received = record { got = []; seen = None; copied = []; loads = [] }

-- The sender's steps

-- the filled words are ready under this stamp
abbrev pub with_made : Sending → ℕ → Sending
with_made s stamp = record s {
  made = s.made ++ record { stamp = stamp; words = s.filled } ∷ [];
  filled = [];
  is_open = false;
  front = stamp;
}

-- this gate word was loaded: it shows a take, or nothing
abbrev pub with_freed : Sending → ℕ → Sending
with_freed s gate = record s {
  is_open = if is_some (taken_stamp gate) then true else s.is_open;
  front = unwrap_or (taken_stamp gate) s.front;
  loads = s.loads ++ record { word = gate; count = length s.made } ∷ [];
}

-- The receiver's steps

-- this gate word was loaded: it shows a thing, or nothing
abbrev pub with_look : Receiving → ℕ → Receiving
with_look r gate = record r {
  seen = ready_stamp gate;
  loads = r.loads ++ record { word = gate; count = length r.got } ∷ [];
}

-- the copied words are taken under this stamp
abbrev pub with_got : Receiving → ℕ → Receiving
with_got r stamp = record r {
  got = r.got ++ record { stamp = unwrap_or r.seen 0; words = r.copied; taken = stamp } ∷ [];
  seen = None;
  copied = [];
}
