-- What a turn of a rank takes memory for.
use Rattle.std.specs.Prelude.{ℕ, ◌≡◌, ◌<◌, ◌⊎◌}
use Rattle.cl_state.specs.Asked.{asked, doing, part_of}
use Rattle.cl_state.specs.Rank.{Rank}
use Rattle.cl_state.specs.Right.{growth_of}
use Rattle.cl_state.specs.TurnRoom.{carried}
use Rattle.cl_state.specs.Writes.{missing_for, writes_in}

-- the hart's turn puts bytes behind the output
abbrev pub PutsOut : Rank → ℕ → Type 0
PutsOut rank hart = 0 < growth_of (doing rank.site (part_of rank hart))

-- a page that it may write isn't there
abbrev pub LacksPages : Rank → ℕ → Type 0
LacksPages rank hart =
    let part = part_of rank hart in
    0 < missing_for rank.memory.pages (writes_in rank.site hart (doing rank.site part) part)

-- what it asks the hub carries bytes or posts
abbrev pub Carries : Rank → ℕ → Type 0
Carries rank hart = 0 < carried (asked rank hart)

-- the turn takes memory: for its event, where the trace has room for no more, or for one of these
abbrev pub TurnTakesMemory : Rank → ℕ → ℕ → Type 0
TurnTakesMemory rank room hart = (room ≡ 0) ⊎ PutsOut rank hart ⊎ LacksPages rank hart ⊎ Carries rank hart
