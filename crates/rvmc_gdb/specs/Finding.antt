-- Places of a record that are looked for, and what is told of them.
use Rattle.std.specs.Prelude.{ℕ, zero, suc, ◌≡◌, ◌-◌, ◌==◌, ◌&&◌, min, nat_lt, if◌then◌else◌, Bool, false, List, [], ◌∷◌, ◌++◌}
use Rattle.std.specs.Prelude.{codes, length, slice_get, Option, Some, None}
use Rattle.std.specs.Fmt.{decimal}
use Rattle.std.specs.Option.{unwrap_or}
use Rattle.rv_image_types.specs.declared.images.Symbol.{Symbol}
use Rattle.cl_machine.specs.declared.steps.Step.{Step}
use Rattle.cl_debug.specs.Debugging.{Debugging, at_place}
use Rattle.rvmc_draw.specs.declared.drawing.Arrow.{Arrow}
use Rattle.rvmc_picture.specs.Pictures.{AreArrows}
use Rattle.rvmc_motions.specs.declared.marks.Halt.{Halt}
use Rattle.rvmc_motions.specs.declared.marks.Mark.{Mark}
use Rattle.rvmc_motions.specs.declared.marks.Mover.{Mover}
use Rattle.rvmc_motions.specs.Motions.{GoesBackwards}
use Rattle.rvmc_protocol.specs.declared.replies.stops.Stop.{Stop}
use Rattle.rvmc_protocol.specs.declared.replies.stops.Stop.TheVariants as stops
use Rattle.rvmc_picture.specs.Below.{newline}
use Rattle.rvmc_words.specs.declared.debug.Spot.{Spot}
use Rattle.rvmc_words.specs.declared.debug.Spot.TheVariants.{Address, Line, Name}
use Rattle.rvmc_gdb.specs.declared.ends.Found.{Found}
use Rattle.rvmc_gdb.specs.declared.ends.Side.{Side}
use Rattle.rvmc_gdb.specs.declared.session.Goal.{Goal}
use Rattle.rvmc_gdb.specs.declared.session.Who.{Who}
use Rattle.rvmc_gdb.specs.Ends.{nearest}
use Rattle.rvmc_gdb.specs.Goals.{goal_who}
use Rattle.rvmc_gdb.specs.Shown.{IsLine}

-- ---- what is told of a place: the line that `why` has of its hart there, the place, and which way it lies

-- the line, or nothing where there is none
abbrev pub IsLineAt : Debugging → Who → List ℕ → Type 0
IsLineAt debugging who text = (line : Option (List ℕ)) × IsLine debugging who line × (text ≡ unwrap_or line [])

abbrev pub way_text : ℕ → ℕ → List ℕ
way_text here there =
    if nat_lt there here then codes ": reverse-continue goes there" ++ newline
    else if nat_lt here there then codes ": continue goes there" ++ newline
    else codes ": here" ++ newline

abbrev pub place_line : ℕ → ℕ → ℕ → List ℕ
place_line here there len =
    (codes "at " ++ (decimal there ++ (codes " of " ++ decimal len))) ++ way_text here there

abbrev pub goal_text : List ℕ → ℕ → ℕ → ℕ → List ℕ
goal_text line here there len = line ++ newline ++ place_line here there len

abbrev pub TellsGoal : Debugging → Goal → List ℕ → Type 0
TellsGoal debugging goal text =
    (line : List ℕ) × IsLineAt (at_place debugging goal.place) (goal_who goal) line
    × (text ≡ goal_text line debugging.place goal.place (length debugging.steps))

-- ---- what a hart gets, or sends, in one of its last two turns, or first from here on; of what stopped gdb at a watchpoint
-- the last turn but one tells, since gdb goes on by an instruction there

abbrev pub is_turn_of : Who → Option Step → Bool
is_turn_of who None = false
is_turn_of who (Some e) = e.rank == who.rank && e.hart == who.hart

-- the place so many turns of a hart back, or the first
abbrev pub turns_back : ℕ → List Step → Who → ℕ → ℕ
turns_back zero steps who place = place
turns_back (suc left) steps who zero = zero
turns_back (suc left) steps who (suc place) =
    if is_turn_of who (slice_get steps place) then turns_back left steps who place
    else turns_back (suc left) steps who place

abbrev pub IsEnd : Debugging → Side → Who → Option Found → Type 0
IsEnd debugging side who found =
    (arrows : List Arrow) × AreArrows debugging.image debugging.steps arrows
    × (found ≡ nearest side who (turns_back 2 debugging.steps who debugging.place) arrows)

-- ---- what changed bytes last

-- the bytes of a symbol reach as far as the next one; of them eight are watched at most.
-- The distance to a symbol that is behind the address, or 8
abbrev pub room : ℕ → Symbol → ℕ
room address symbol = if nat_lt address symbol.address then symbol.address - address else 8

-- the least of all
abbrev pub least_room : ℕ → List Symbol → ℕ
least_room address [] = 8
least_room address (symbol ∷ symbols) = min (room address symbol) (least_room address symbols)

abbrev pub named_bytes : ℕ → List Symbol → ℕ
named_bytes address symbols = min 8 (least_room address symbols)

-- eight of an address
abbrev pub bytes_of_spot : List Symbol → Spot → ℕ → ℕ
bytes_of_spot symbols (Address number) address = 8
bytes_of_spot symbols (Name name) address = named_bytes address symbols
bytes_of_spot symbols (Line file number) address = 8

-- where a motion ended, unless it was the start of the record
abbrev pub write_goal : Stop → Halt → ℕ → Option Goal
write_goal stops.Begin halt place = None
write_goal other halt place = Some (record { place = place; rank = halt.rank; hart = halt.hart })

-- a motion backwards that stops for nothing else leads there
pub record FindsWrite (debugging : Debugging) (mark : Mark) (mover : Mover) (goal : Option Goal) : Type 0 where
  pub halt : Halt
  pub behind : Debugging
  pub goes : GoesBackwards debugging (mark ∷ []) mover halt behind
  pub is : goal ≡ write_goal halt.stop halt behind.place
