-- The places of the text with most turns, as text.
use Rattle.std.specs.Prelude.{ℕ, ◌≡◌, ◌*◌, List, ◌++◌, codes, length, None}
use Rattle.std.specs.Fmt.{decimal}
use Rattle.std.specs.List.{flat_map}
use Rattle.rv_image_types.specs.declared.images.Symbol.{Symbol}
use Rattle.rvmc_places.specs.Places.{named_address_text}
use Rattle.rvmc_stats.specs.Hottest.{AreHottest}
use Rattle.rvmc_stats.specs.Tallies.{count_at}

-- the turns at a word of the text, its address, and the symbol nearest before it
unfoldable pub place_line : List Symbol → List ℕ → ℕ → List ℕ
place_line symbols counts word =
    decimal (count_at counts word) ++ (codes " " ++ (named_address_text symbols (4 * word) ++ codes "\n"))

abbrev pub place_lines : List Symbol → List ℕ → List ℕ → List ℕ
place_lines symbols counts words = flat_map (place_line symbols counts) words

unfoldable pub places_head : List ℕ
places_head = codes "\nturns place\n"

-- the ten with most turns stand behind a text, the first ones first
pub record HasPlaceLines (symbols : List Symbol) (counts old new : List ℕ) : Type 0 where
  pub words : List ℕ
  pub are : AreHottest counts (length counts) 10 None words
  pub text : new ≡ old ++ place_lines symbols counts words

abbrev pub HasPlaces : List Symbol → List ℕ → List ℕ → List ℕ → Type 0
HasPlaces symbols counts old new = HasPlaceLines symbols counts (old ++ places_head) new
