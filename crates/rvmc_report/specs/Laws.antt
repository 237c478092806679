-- Laws of a listing.
use Rattle.std.specs.Prelude.{◌≡◌, ℕ, ◌/◌, [], length}
use Rattle.std.specs.List.{flat_map, range_with_len}
use Rattle.rv_image_types.specs.declared.images.ImageParts.{ImageParts}
use Rattle.rv_image_types.specs.Image.{IsImage, symbol_names}
use Rattle.rv_image_types.specs.Names.{RisingNames}
use Rattle.rvmc_report.specs.Listing.{word_line, symbols_at, listing}

-- an image without symbols is listed word by word, a line each
abbrev pub WordsAloneLaw : Type 0
WordsAloneLaw =
    (image : ImageParts) → image.symbols ≡ []
    → listing image ≡ flat_map (word_line image.text) (range_with_len 0 (length image.text / 4))

-- the names that stand before a word rise in the order of their bytes
abbrev pub NamesRiseLaw : Type 0
NamesRiseLaw =
    (image : ImageParts) (address : ℕ) → IsImage image → RisingNames (symbol_names (symbols_at image.symbols address))
