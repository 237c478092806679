-- Places that are told one after another.
use Rattle.std.specs.Prelude.{ℕ, ◌≡◌, ◌-◌, List, ◌++◌, length, Option, None}
use Rattle.rv_image_types.specs.declared.images.Symbol.{Symbol}
use Rattle.rvmc_stats.specs.Hottest.{AreHottest}
use Rattle.rvmc_list.specs.Places.{place_lines}

-- so many of them do, the last of which is this one
pub record ArePlaced (symbols : List Symbol) (counts : List ℕ) (n : ℕ) (last : Option ℕ) (old new : List ℕ)
    : Type 0 where
  pub words : List ℕ
  pub are : (rest : List ℕ) → AreHottest counts (length counts) (10 - n) last rest
      → AreHottest counts (length counts) 10 None (words ++ rest)
  pub text : new ≡ old ++ place_lines symbols counts words
