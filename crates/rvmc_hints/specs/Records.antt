-- Bytes that begin as a record does, and aren't one.
use Rattle.std.specs.Prelude.{ℕ, ◌+◌, ◌*◌, ◌-◌, ◌^◌, min, nat_le, nat_lt, if◌then◌else◌, List, length, take, drop}
use Rattle.std.specs.Prelude.{Option, None, Some}
use Rattle.std.specs.Int.{Width, w32, w64, byte_len, from_le_bytes}
use Rattle.rvmc_hints.specs.declared.hint.Hint.{Hint}
use Rattle.rvmc_hints.specs.declared.hint.Hint.TheVariants as hint
use Rattle.rvmc_hints.specs.declared.seen.Seen.{Seen}
use Rattle.rvmc_hints.specs.declared.seen.Seen.TheVariants as seen

-- the number at an offset, the lowest byte first, where all its bytes are there
abbrev pub number_at : Width → ℕ → List ℕ → Option ℕ
number_at width offset bytes =
    if nat_le (offset + byte_len width) (length bytes)
    then Some (from_le_bytes width (take (byte_len width) (drop offset bytes))) else None

-- the head and the image, and 16 bytes for each step where their number is there; at most what 64 bits hold
abbrev pub with_steps : ℕ → Option ℕ → ℕ
with_steps head None = head
with_steps head (Some steps) = min (2 ^ 64 - 1) (16 * steps + head)

-- the head has 20 bytes. Behind 12 of them is the image, and behind that the number of steps
abbrev pub with_image : List ℕ → Option ℕ → ℕ
with_image bytes None = 20
with_image bytes (Some image) = with_steps (image + 20) (number_at w64 (image + 12) bytes)

-- how many bytes a record has at least that begins so: the length of its image is at byte 8
abbrev pub least_length : List ℕ → ℕ
least_length bytes = with_image bytes (number_at w32 8 bytes)

-- a record that ends too early
abbrev pub short_in : List ℕ → Option Hint
short_in bytes = if nat_lt (length bytes) (least_length bytes) then Some (hint.Least (least_length bytes)) else None

-- bytes that begin as a record does, and aren't one of this version
abbrev pub magic_in : Seen → Option Hint
magic_in seen.Record = Some hint.Version
magic_in _ = None
