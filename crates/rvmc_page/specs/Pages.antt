-- The text of a page, and the data that stand in it.
use Rattle.std.specs.Prelude.{ℕ, List, [], ◌∷◌, ◌++◌, codes, Option, Some, None}
use Rattle.std.specs.Fmt.{decimal}
use Rattle.std.specs.List.{flat_map}
use Rattle.rv_image_types.specs.declared.images.ImageParts.{ImageParts}
use Rattle.rvmc_changes.specs.Changes.{Difference}
use Rattle.rvmc_picture.specs.Below.{newline}
use Rattle.rvmc_page.specs.Starts.{starts_text}
use Rattle.rvmc_page.specs.Steps.{changes_text}
use Rattle.rvmc_page.specs.Texts.{texts_text}
use Rattle.rvmc_page.specs.Told.{arrows_text, names_text, program_text, told_text, wait_entries}
use Rattle.rvmc_page.specs.declared.pages.Page.{Page}
use Rattle.rvmc_page.specs.declared.pages.Part.{Part}
use Rattle.rvmc_page.specs.declared.pages.Part.TheVariants as part
use Rattle.rvmc_page.specs.declared.pages.Shown.{Shown}
use Rattle.rvmc_page.specs.declared.frame.TheConstants.{BODY, FOOT, HEAD, NO_PICTURE}
use Rattle.rvmc_page.specs.declared.script.TheConstants.{SCRIPT}
use Rattle.rvmc_page.specs.declared.show.TheConstants.{SHOW}

-- ---- the data

-- what is told of a drawing, if there is one: what is on its way, who waits for whom at the end, and `why`'s words
abbrev pub ways_text : Option Shown → List ℕ
ways_text None = []
ways_text (Some shown) = arrows_text shown.drawing.arrows.items

abbrev pub awaited_text : Option Shown → List ℕ
awaited_text None = []
awaited_text (Some shown) = wait_entries shown.drawing.rows.items

abbrev pub told_lines : Option Shown → List ℕ
told_lines None = []
told_lines (Some shown) = told_text shown.drawing.told.items

-- the first place; the machine there; the program; its symbols; the sources; and what is told of the drawing
abbrev pub data_of : ImageParts → Page → Part → List ℕ
data_of image page part.First = decimal page.from ++ newline
data_of image page part.Start = starts_text page.start.items
data_of image page part.Program = program_text image
data_of image page part.Names = names_text image.symbols
data_of image page part.Texts = texts_text page.texts.now
data_of image page part.Ways = ways_text page.shown
data_of image page part.Waits = awaited_text page.shown
data_of image page part.Told = told_lines page.shown

-- ---- the text

abbrev pub part_name : Part → List ℕ
part_name part.First = codes "first"
part_name part.Start = codes "start"
part_name part.Program = codes "program"
part_name part.Names = codes "names"
part_name part.Texts = codes "texts"
part_name part.Ways = codes "ways"
part_name part.Waits = codes "waits"
part_name part.Told = codes "told"

-- a part stands in an element of its own, which shows and runs nothing (HTML, 4.12.1: a data block)
unfoldable pub part_lines : ImageParts → Page → Part → List ℕ
part_lines image page p =
    codes "<script type=text/plain id=page-"
    ++ (part_name p ++ (codes ">" ++ (data_of image page p ++ codes "</script>\n")))

-- the changes of the steps stand in a comment, which shows nothing either (HTML, 13.1.6), and which a browser reads in a third
-- of the time
abbrev pub steps_opening : List ℕ
steps_opening = codes "<div hidden id=page-steps><!--"

abbrev pub steps_closing : List ℕ
steps_closing = codes "--></div>\n"

-- the parts before the changes of the steps, and those behind them
abbrev pub first_parts : List Part
first_parts = part.First ∷ part.Start ∷ []

abbrev pub last_parts : List Part
last_parts = part.Program ∷ part.Names ∷ part.Texts ∷ part.Ways ∷ part.Waits ∷ part.Told ∷ []

-- the picture, or that there is none
abbrev pub picture_text : Option Shown → List ℕ
picture_text None = NO_PICTURE.now
picture_text (Some shown) = shown.picture.items

-- what stands before the changes of the steps, and behind them. What is the same in every page stands in capitals
unfoldable pub before_steps : ImageParts → Page → List ℕ
before_steps image page =
    HEAD.now
    ++ (picture_text page.shown
    ++ (BODY.now ++ (flat_map (part_lines image page) first_parts ++ steps_opening)))

unfoldable pub behind_steps : ImageParts → Page → List ℕ
behind_steps image page = steps_closing ++ (flat_map (part_lines image page) last_parts ++ (SCRIPT.now ++ (SHOW.now ++ FOOT.now)))

abbrev pub page_of : ImageParts → Page → List Difference → List ℕ
page_of image page changes = before_steps image page ++ (changes_text changes ++ behind_steps image page)
