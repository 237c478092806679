-- Bytes of an input as they are printed.
use Rattle.std.proofs.Common.{◌≡◌, ◌∙◌, ℕ, Bool, true, false, List, codes, refl, sym}
use Rattle.std.specs.Prelude.{if◌then◌else◌}
use Rattle.std.specs.Str.{IsUtf8, is_utf8}
use Rattle.std.proofs.lemmas.Str.{IsUtf8-from_is_utf8, is_utf8-from_IsUtf8}
use Rattle.rvmc_hints.specs.Texts.{shown_text}

-- UTF-8 as it is
pub as_it_is : (bytes text : List ℕ) → IsUtf8 bytes → text ≡ bytes → text ≡ shown_text bytes
as_it_is bytes text is same = same ∙ sym (plain (is_utf8 bytes) (is_utf8-from_IsUtf8 bytes is))
  where
    plain : (b : Bool) → b ≡ true → (if b then bytes else codes "?") ≡ bytes
    plain true e = refl
    plain false e = cc

-- what isn't UTF-8 as `?`
pub as_unknown : (bytes : List ℕ) → (IsUtf8 bytes → ⊥) → codes "?" ≡ shown_text bytes
as_unknown bytes other = unknown (is_utf8 bytes) (IsUtf8-from_is_utf8 bytes)
  where
    unknown : (b : Bool) → (b ≡ true → IsUtf8 bytes) → codes "?" ≡ (if b then bytes else codes "?")
    unknown true is = absurd (other (is refl))
    unknown false is = refl
