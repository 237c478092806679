-- The title of an arrow.
use Rattle.std.specs.Prelude.{ℕ, List, ◌++◌, codes, Option, Some, None}
use Rattle.std.specs.Fmt.{decimal}
use Rattle.rvmc_draw.specs.declared.drawing.Arrow.{Arrow}
use Rattle.rvmc_draw.specs.declared.drawing.Carried.{Carried}
use Rattle.rvmc_draw.specs.declared.drawing.Carried.TheVariants.{Message, Claim, Could, Partition}
use Rattle.rvmc_draw.specs.declared.drawing.Spot.{Spot}

abbrev pub spot_text : Spot → List ℕ
spot_text spot = codes "step " ++ (decimal spot.place ++ (codes " of rank " ++ decimal spot.rank))

-- where it goes to
abbrev pub arrow_end_text : Option Spot → ℕ → List ℕ
arrow_end_text (Some to) dest = spot_text to
arrow_end_text None dest = codes "rank " ++ (decimal dest ++ codes ", where nobody got it")

abbrev pub sent_text : ℕ → ℕ → List ℕ
sent_text tag count = codes "tag " ++ (decimal tag ++ (codes ", " ++ (decimal count ++ codes " bytes")))

abbrev pub cargo_text : Carried → List ℕ
cargo_text (Message tag count) = sent_text tag count
cargo_text (Claim tag count) = codes "claimed, " ++ sent_text tag count
cargo_text (Could tag count) = codes "could have been taken, " ++ sent_text tag count
cargo_text (Partition link part phase) =
    codes "link "
    ++ (decimal link ++ (codes " partition " ++ (decimal part ++ (codes " phase " ++ decimal phase))))

abbrev pub arrow_title : Arrow → List ℕ
arrow_title a =
    spot_text a.from ++ (codes " to " ++ (arrow_end_text a.to a.dest ++ (codes ": " ++ cargo_text a.carried)))
