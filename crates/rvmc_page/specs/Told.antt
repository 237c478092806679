-- What is told beside the machine, as text: names, the program, what is on its way, and whom harts wait for at the end.
use Rattle.std.specs.Prelude.{ℕ, if◌then◌else◌, List, [], ◌++◌, codes, Option, Some, None}
use Rattle.std.specs.Fmt.{decimal}
use Rattle.std.specs.List.{flat_map}
use Rattle.rv_image_types.specs.declared.images.ImageParts.{ImageParts}
use Rattle.rv_image_types.specs.declared.images.Symbol.{Symbol}
use Rattle.rvmc_draw.specs.declared.drawing.Arrow.{Arrow}
use Rattle.rvmc_draw.specs.declared.drawing.Carried.{Carried}
use Rattle.rvmc_draw.specs.declared.drawing.Carried.TheVariants.{Message, Claim, Could, Partition}
use Rattle.rvmc_draw.specs.declared.drawing.Row.{Row}
use Rattle.rvmc_draw.specs.declared.drawing.Spot.{Spot}
use Rattle.rvmc_picture.specs.Below.{listing, newline}
use Rattle.rvmc_page.specs.Escaped.{spelled_byte, escaped_in_lines}
use Rattle.rvmc_page.specs.Starts.{hex}

-- a symbol, as `1a4 go`
unfoldable pub symbol_entry : Symbol → List ℕ
symbol_entry symbol = hex symbol.address ++ (codes " " ++ (flat_map spelled_byte symbol.name ++ newline))

abbrev pub names_text : List Symbol → List ℕ
names_text symbols = flat_map symbol_entry symbols

-- the program as `dis` lists it
abbrev pub program_text : ImageParts → List ℕ
program_text image = flat_map escaped_in_lines (listing image)

-- ---- what is on its way

-- the step that got it, or `-` where nobody did
abbrev pub arrival_text : Option Spot → List ℕ
arrival_text None = codes "-"
arrival_text (Some spot) = decimal spot.place

-- from the step that sent it to the one that got it, from a rank to a rank, as `12 30 0 1`
abbrev pub way_text : Arrow → List ℕ
way_text a =
    decimal a.from.place
    ++ (codes " " ++ (arrival_text a.to ++ (codes " " ++ (decimal a.from.rank ++ (codes " " ++ decimal a.dest)))))

-- a message with its tag and its bytes, as `m 12 30 0 1 7 8`, or a partition with its link, number and phase, as
-- `p 12 30 0 1 0 3 1`. What was claimed is still on its way, and what could have been never was
abbrev pub carried_bytes : Arrow → Carried → List ℕ
carried_bytes a (Message tag count) =
    codes "m " ++ (way_text a ++ (codes " " ++ (decimal tag ++ (codes " " ++ (decimal count ++ newline)))))
carried_bytes a (Partition link part phase) =
    codes "p "
    ++ (way_text a
    ++ (codes " " ++ (decimal link ++ (codes " " ++ (decimal part ++ (codes " " ++ (decimal phase ++ newline)))))))
carried_bytes a (Claim tag count) = []
carried_bytes a (Could tag count) = []

unfoldable pub arrow_text : Arrow → List ℕ
arrow_text a = carried_bytes a a.carried

abbrev pub arrows_text : List Arrow → List ℕ
arrows_text arrows = flat_map arrow_text arrows

-- ---- the end

-- a hart that waits there, as `0 1 s 2 3`: its rank and itself, `s` where the rank is in a deadlock or else `w`, and the
-- ranks that it waits for
unfoldable pub wait_entry : Row → List ℕ
wait_entry row =
    decimal row.rank
    ++ (codes " "
    ++ (decimal row.hart
    ++ (codes " "
    ++ ((if row.stuck then codes "s" else codes "w")
    ++ (flat_map (λ rank. codes " " ++ decimal rank) row.awaited.items ++ newline)))))

abbrev pub wait_entries : List Row → List ℕ
wait_entries rows = flat_map wait_entry rows

-- what `why` tells there
abbrev pub told_text : List ℕ → List ℕ
told_text told = flat_map escaped_in_lines told
