use Rattle.std.proofs.Common.{rules, ◌≡◌, Bool, true, false, refl, List, ℕ}
use Rattle.std.specs.Str.{IsUtf8, is_utf8}
use Rattle.std.proofs.lemmas.Str.{IsUtf8-from_is_utf8, is_utf8-from_IsUtf8}
use Rattle.rvmc_starts.specs.Reading.{text_cut_in}
use Rattle.rvmc_starts.proofs.reading.text_line.Goals as goal

not_text : (bytes : List ℕ) → ¬ (IsUtf8 bytes) → is_utf8 bytes ≡ false
not_text bytes none = go _ refl
  where
    go : (b : Bool) → is_utf8 bytes ≡ b → is_utf8 bytes ≡ false
    go true is = absurd (none (IsUtf8-from_is_utf8 bytes is))
    go false is = is

pub returns-in-Ok-clause-line : goal.returns-in-Ok-clause-line
unfolding text_cut_in
returns-in-Ok-clause-line c =
    let text = is_utf8-from_IsUtf8 c.in_ok-cut.cut.line.now c.in-Ok.ensures.cases.1 in
    rw (← c.in_ok-cut.ensures.line, text) (search rules)

pub returns-in-Err : goal.returns-in-Err
unfolding text_cut_in
returns-in-Err c =
    let text = not_text c.in_ok-cut.cut.line.now c.in-Err.ensures.cases.0 in
    rw (← c.in_ok-cut.ensures.line, text) (search rules)
