-- The names before a word, and the listing of an image that has none.
use Rattle.std.proofs.Common.{◌≡◌, ℕ, ◌*◌, ◌/◌, ◌==◌, Bool, true, false, cond, List, [], ◌∷◌, ◌++◌, length, ap}
use Rattle.std.specs.List.{AllByRecursion, flat_map, range_with_len}
use Rattle.std.specs.List.Sorted.{IsStrictlySortedBy}
use Rattle.std.specs.Ordering.{nat_cmp}
use Rattle.std.specs.Cmp.Lexicographic.{slice_cmp}
use Rattle.std.specs.declared.cmp.Ordering.TheVariants.{Less}
use Rattle.rv_image_types.specs.declared.images.Symbol.{Symbol}
use Rattle.rv_image_types.specs.Image.{symbol_names}
use Rattle.rv_image_types.specs.Names.{RisingNames}
use Rattle.rvmc_report.specs.Listing.{name_line, symbols_at, word_line}
use Rattle.rvmc_report.specs.Laws.{NamesRiseLaw, WordsAloneLaw}

pub words_alone : WordsAloneLaw
words_alone image none = ap (λ (symbols : List Symbol). flat_map (λ number. flat_map name_line (symbols_at symbols (4 * number)) ++ word_line image.text number) (range_with_len 0 (length image.text / 4))) none

abbrev IsBelow : List ℕ → List Symbol → Type 0
IsBelow name symbols = AllByRecursion (λ other. slice_cmp nat_cmp name other ≡ Less) (symbol_names symbols)

-- what is below all of them is below those that are kept
below_kept : (address : ℕ) (name : List ℕ) (symbols : List Symbol) → IsBelow name symbols → IsBelow name (symbols_at symbols address)
below_kept address name [] below = tt
below_kept address name (symbol ∷ symbols) below = go (symbol.address == address) (below_kept address name symbols below.1)
  where
    go : (kept : Bool) → IsBelow name (symbols_at symbols address) → IsBelow name (cond kept (symbol ∷ symbols_at symbols address) (symbols_at symbols address))
    go true rest = (below.0, rest)
    go false rest = rest

rise : (address : ℕ) (symbols : List Symbol) → RisingNames (symbol_names symbols) → RisingNames (symbol_names (symbols_at symbols address))
unfolding IsStrictlySortedBy
rise address [] rising = tt
rise address (symbol ∷ symbols) rising = go (symbol.address == address) (rise address symbols rising.1)
  where
    go : (kept : Bool) → RisingNames (symbol_names (symbols_at symbols address)) → RisingNames (symbol_names (cond kept (symbol ∷ symbols_at symbols address) (symbols_at symbols address)))
    go true rest = (below_kept address symbol.name symbols rising.0, rest)
    go false rest = rest

pub names_rise : NamesRiseLaw
names_rise image address is = rise address image.symbols is.rising
