-- The two ends of a message, of a claim, and of a partition: the steps that an arrow of the record's picture joins. Which post
-- of the hub has which partner is what the arrows say (rvmc_draw, specs/Board).
use Rattle.std.specs.Prelude.{ℕ, ◌==◌, ◌&&◌, nat_le, if◌then◌else◌, Bool, true, false, List, [], ◌∷◌, ◌++◌, codes}
use Rattle.std.specs.Prelude.{Option, Some, None, option_map}
use Rattle.std.specs.Fmt.{decimal}
use Rattle.rvmc_draw.specs.declared.drawing.Arrow.{Arrow}
use Rattle.rvmc_draw.specs.declared.drawing.Carried.{Carried}
use Rattle.rvmc_draw.specs.declared.drawing.Carried.TheVariants.{Message, Could, Claim, Partition}
use Rattle.rvmc_draw.specs.declared.drawing.Spot.{Spot}
use Rattle.rvmc_picture.specs.Below.{newline}
use Rattle.rvmc_protocol.specs.Replies.Threads.{name_text}
use Rattle.rvmc_gdb.specs.declared.ends.Found.{Found}
use Rattle.rvmc_gdb.specs.declared.ends.Side.{Side}
use Rattle.rvmc_gdb.specs.declared.ends.Side.TheVariants.{Gets, Sends}
use Rattle.rvmc_gdb.specs.declared.session.Goal.{Goal}
use Rattle.rvmc_gdb.specs.declared.session.Who.{Who}

-- ---- which arrows tell of what a hart gets, or sends

-- what a receive could have taken it doesn't take; and a claim isn't where a message is got
abbrev pub counts : Side → Carried → Bool
counts side (Message tag count) = true
counts Gets (Claim tag count) = true
counts Sends (Claim tag count) = false
counts side (Could tag count) = false
counts side (Partition link part phase) = true

-- the step on that side, and on the other
abbrev pub own_spot : Side → Arrow → Option Spot
own_spot Gets arrow = arrow.to
own_spot Sends arrow = Some arrow.from

abbrev pub other_spot : Side → Arrow → Option Spot
other_spot Gets arrow = Some arrow.from
other_spot Sends arrow = arrow.to

-- ---- what a hart gets, or sends, first from a place on

abbrev pub own_from : Who → ℕ → Option Spot → Option ℕ
own_from who from None = None
own_from who from (Some spot) =
    if spot.rank == who.rank && (spot.hart == who.hart && nat_le from spot.place) then Some spot.place else None

abbrev pub own_place : Side → Who → ℕ → Arrow → Option ℕ
own_place side who from arrow =
    if counts side arrow.carried then own_from who from (own_spot side arrow) else None

abbrev pub arrow_if : Side → Who → ℕ → Arrow → Option Found
arrow_if side who from arrow =
    option_map (λ place. record { place = place; arrow = arrow }) (own_place side who from arrow)

-- the one of the lesser place, and the first of two that have the same
abbrev pub earlier : Option Found → Option Found → Option Found
earlier None other = other
earlier (Some first) None = Some first
earlier (Some first) (Some second) = if nat_le first.place second.place then Some first else Some second

-- the earliest of all
abbrev pub nearest : Side → Who → ℕ → List Arrow → Option Found
nearest side who from [] = None
nearest side who from (arrow ∷ arrows) = earlier (arrow_if side who from arrow) (nearest side who from arrows)

-- ---- the other end: the place before its step, and its hart; none where nobody got it

abbrev pub spot_goal : Spot → Goal
spot_goal spot = record { place = spot.place; rank = spot.rank; hart = spot.hart }

abbrev pub other_end : Side → Arrow → Option Goal
other_end side arrow = option_map spot_goal (other_spot side arrow)

-- ---- what is told of an arrow: a row for each thing that it carries

abbrev pub message_text : ℕ → ℕ → List ℕ
message_text tag count =
    codes "message of " ++ (decimal count ++ (codes " bytes, tag " ++ (decimal tag ++ codes ", sent")))

abbrev pub sent_text : Carried → List ℕ
sent_text (Message tag count) = message_text tag count
sent_text (Claim tag count) = message_text tag count
sent_text (Could tag count) = message_text tag count
sent_text (Partition link part phase) =
    codes "partition " ++ (decimal part ++ (codes " of link " ++ (decimal link ++ codes ", made ready")))

abbrev pub got_word : Carried → List ℕ
got_word (Message tag count) = codes "got"
got_word (Claim tag count) = codes "claimed"
got_word (Could tag count) = codes "not taken"
got_word (Partition link part phase) = codes "taken"

abbrev pub spot_text : Spot → List ℕ
spot_text spot =
    (codes " at " ++ (decimal spot.place ++ codes " by ")) ++ name_text spot.rank spot.hart

abbrev pub got_text : Carried → Option Spot → List ℕ
got_text carried None = got_word carried ++ codes " by nobody"
got_text carried (Some spot) = got_word carried ++ spot_text spot

abbrev pub begin_text : Arrow → List ℕ
begin_text arrow = sent_text arrow.carried ++ spot_text arrow.from ++ codes ", "

abbrev pub arrow_text : Arrow → List ℕ
arrow_text arrow = begin_text arrow ++ got_text arrow.carried arrow.to ++ newline

-- and where there is no arrow
abbrev pub verb : Side → List ℕ
verb Gets = codes " gets"
verb Sends = codes " sends"

abbrev pub nothing_text : Side → Who → List ℕ
nothing_text side who = name_text who.rank who.hart ++ verb side ++ (codes " nothing from here on" ++ newline)
