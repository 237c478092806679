-- What the text of a place tells.
use Rattle.std.specs.Prelude.{ℕ, ◌≡◌, true, List}
use Rattle.std.specs.List.{AllByRecursion}
use Rattle.rv_image_types.specs.declared.images.Symbol.{Symbol}
use Rattle.rv_image_types.specs.Names.{is_symbol_name}
use Rattle.rvmc_places.specs.Places.{line_at, place_name}

-- two places with one text have one line, or neither has one
abbrev pub OneLineLaw : Type 0
OneLineLaw =
    (symbols : List Symbol) (one other : ℕ) → AllByRecursion (λ (s : Symbol). is_symbol_name s.name ≡ true) symbols
    → place_name symbols one ≡ place_name symbols other → line_at symbols one ≡ line_at symbols other
