-- What a memory's pages hold: one that is there its bytes, one that isn't zeros. Pages that the text fills needn't be
-- held: they are read from the text.
use Rattle.std.specs.Prelude.{◌≡◌, ℕ, ◌*◌, ◌≤◌, List, [], ◌∷◌, ◌++◌, length, replicate, take, drop, Option, Some, None}
use Rattle.std.specs.Prelude.{Bool, true, false, if◌then◌else◌, nat_le}

unfoldable pub blank_page : List ℕ
blank_page = replicate 4096 0

abbrev pub page_bytes : Option (List ℕ) → List ℕ
page_bytes None = blank_page
page_bytes (Some bytes) = bytes

abbrev pub is_there : Option (List ℕ) → Bool
is_there None = false
is_there (Some bytes) = true

-- a page as it is read, where `text` is what there is of the text from the page's first byte on: one that isn't held is
-- there where the text fills it
abbrev pub shown_page : List ℕ → Option (List ℕ) → Option (List ℕ)
shown_page text (Some bytes) = Some bytes
shown_page text None = if nat_le 4096 (length text) then Some (take 4096 text) else None

-- the pages as they are read
abbrev pub shown : List ℕ → List (Option (List ℕ)) → List (Option (List ℕ))
shown text [] = []
shown text (page ∷ pages) = shown_page text page ∷ shown (drop 4096 text) pages

-- the bytes of all pages, one page behind the other
abbrev pub all_bytes : List (Option (List ℕ)) → List ℕ
all_bytes [] = []
all_bytes (page ∷ pages) = page_bytes page ++ all_bytes pages

-- every page has 4,096 bytes
abbrev pub AreWhole : List (Option (List ℕ)) → Type 0
AreWhole [] = Unit {0}
AreWhole (page ∷ pages) = (length (page_bytes page) ≡ 4096) × AreWhole pages

-- every page is of zeros
abbrev pub AreBlank : List (List ℕ) → Type 0
AreBlank [] = Unit {0}
AreBlank (page ∷ pages) = (page ≡ blank_page) × AreBlank pages

-- the pages of a memory of 4,096 to 1,048,576 bytes, and its text, which is their first bytes
pub record IsHeld (text : List ℕ) (pages : List (Option (List ℕ))) : Type 0 where
  pub whole : AreWhole pages
  pub least : 1 ≤ length pages
  pub most : length pages ≤ 256
  pub text_inside : length text ≤ 4096 * length pages
  pub text_first : text ≡ take (length text) (all_bytes pages)
