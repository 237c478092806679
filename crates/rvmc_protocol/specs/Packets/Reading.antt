-- A stream read byte by byte: what is kept of it, and what the next byte tells.
use Rattle.std.specs.Prelude.{ℕ, ◌==◌, if◌then◌else◌, List, [], ◌∷◌, ◌++◌, length, nat_lt, Option, Some, None}
use Rattle.std.specs.Option.{option_to_list}
use Rattle.rvmc_protocol.specs.Packets.Frames.{asked, message_of}
use Rattle.rvmc_protocol.specs.declared.packets.reader.Message.{Message}
use Rattle.rvmc_protocol.specs.declared.packets.reader.Stage.{Stage}
use Rattle.rvmc_protocol.specs.declared.packets.reader.Stage.TheVariants.{Outside, Text, Beyond, Sum, Digit}

-- how long a text may be, where the stream stands, and the text of the packet that it stands in
pub record Place : Type 0 where
  pub most : ℕ
  pub stage : Stage
  pub text : List ℕ

abbrev pub outside_of : ℕ → Place
outside_of most = record { most = most; stage = Outside; text = [] }

abbrev pub begun : ℕ → Place
begun most = record { most = most; stage = Text; text = [] }

-- one more byte of a text, if there is room for it
abbrev pub longer : ℕ → List ℕ → ℕ → Place
longer most text byte =
    if nat_lt (length text) most then record { most = most; stage = Text; text = text ++ byte ∷ [] }
    else record { most = most; stage = Beyond; text = [] }

-- where the stream stands behind the next byte
abbrev pub place_after : ℕ → Stage → List ℕ → ℕ → Place
place_after most Outside text byte = if byte == 36 then begun most else outside_of most
place_after most Text text byte =
    if byte == 36 then begun most
    else if byte == 35 then record { most = most; stage = Sum; text = text } else longer most text byte
place_after most Beyond text byte =
    if byte == 36 then begun most
    else if byte == 35 then outside_of most else record { most = most; stage = Beyond; text = [] }
place_after most Sum text byte = record { most = most; stage = Digit byte; text = text }
place_after most (Digit high) text byte = outside_of most

-- what the next byte tells
abbrev pub told_at : Stage → List ℕ → ℕ → Option Message
told_at Outside text byte = asked byte
told_at Text text byte = None
told_at Beyond text byte = None
told_at Sum text byte = None
told_at (Digit high) text byte = Some (message_of text high byte)

abbrev pub next_place : Place → ℕ → Place
next_place place byte = place_after place.most place.stage place.text byte

abbrev pub told : Place → ℕ → Option Message
told place byte = told_at place.stage place.text byte

-- all that a stream tells, from a place on
abbrev pub all_told : Place → List ℕ → List Message
all_told place [] = []
all_told place (byte ∷ rest) = option_to_list (told place byte) ++ all_told (next_place place byte) rest
