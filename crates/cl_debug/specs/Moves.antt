-- What a debugger is after a move.
use Rattle.std.specs.Prelude.{◌≡◌, ◌⊎◌, ◌+◌, ◌<◌, Bool, IsTrue, IsFalse, length}
use Rattle.cl_debug.specs.Debugging.{Debugging, at_place}
use Rattle.cl_debug.specs.Places.{IsStop}

-- it went one step on, or it was at the end and stayed
abbrev pub MovedOn : Debugging → Bool → Debugging → Type 0
MovedOn old moved new =
    (IsTrue moved × (old.place < length old.steps) × (new ≡ at_place old (old.place + 1)))
    ⊎ (IsFalse moved × (old.place ≡ length old.steps) × (new ≡ old))

-- it went one step back, or it was at the start and stayed
abbrev pub MovedBack : Debugging → Bool → Debugging → Type 0
MovedBack old moved new =
    (IsTrue moved × (new.place + 1 ≡ old.place) × (new ≡ at_place old new.place))
    ⊎ (IsFalse moved × (old.place ≡ 0) × (new ≡ old))

-- it went to where a run stops
abbrev pub RanOn : Debugging → Debugging → Type 0
RanOn old new = IsStop old.image old.steps old.breaks old.place new.place × (new ≡ at_place old new.place)
