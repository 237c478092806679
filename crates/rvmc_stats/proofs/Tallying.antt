-- Lists and tables that count one thing more.
use Rattle.std.specs.Prelude.{ℕ, ◌+◌, ◌-◌, ◌^◌, ◌≡◌, ◌≢◌, ◌<◌, ◌==◌, ◌&&◌, if◌then◌else◌, min, Bool, true, false, List, []}
use Rattle.std.specs.Prelude.{cond, get_or, length, replicate, set}
use Rattle.std.proofs.Common.{refl, sym, ap, ◌∙◌, subst, arith, rules}
use Rattle.std.proofs.lemmas.Grind.{common_steps}
use Rattle.std.proofs.lemmas.List.{get_or-replicate, get_or-set_other, get_or-set_same, length-replicate, length-set}
use Rattle.rvmc_stats.specs.Counts.{IsGrid, IsTally}
use Rattle.rvmc_stats.specs.MoreAt.{added, added_in}
use Rattle.rvmc_stats.specs.Tallies.{capped, cell_at, count_at}

-- what is added to a number that was told as 64 bits hold it
capped_more : (n more : ℕ) → capped (capped n + more) ≡ capped (n + more)
capped_more n more = omega arith

-- so much more at one place
abbrev pub more_at : ℕ → ℕ → ℕ → ℕ
more_at place more k = if k == place then more else 0

pub tally_more : (len : ℕ) (number next : ℕ → ℕ) (counts : List ℕ) (place more : ℕ) → IsTally len number counts
    → ((k : ℕ) → k < len → next k ≡ number k + more_at place more k) → IsTally len next (added counts place more)
tally_more len number next counts place more is adds = record {
  len_is = length-set counts place (capped (count_at counts place + more)) ∙ is.len_is;
  each = λ k below. go k below (k == place) refl;
}
  where
    go : (k : ℕ) → k < len → (b : Bool) → (k == place) ≡ b → count_at (added counts place more) k ≡ capped (next k)
    go k below true same =
        let e : k ≡ place = grind (arith, common_steps) in
        let within : place < length counts = (let l = is.len_is in omega (arith, below, e, l)) in
        let adds_here : next k ≡ number k + more = adds k below ∙ ap (λ b. number k + cond b more 0) same in
        ap (λ j. count_at (added counts place more) j) e
        ∙ get_or-set_same counts place (capped (count_at counts place + more)) 0 within
        ∙ ap (λ j. capped (count_at counts j + more)) (sym e)
        ∙ ap (λ n. capped (n + more)) (is.each k below)
        ∙ capped_more (number k) more
        ∙ ap capped (sym adds_here)
    go k below false same =
        let other : k ≢ place = grind (arith, common_steps) in
        let adds_here : next k ≡ number k + 0 = adds k below ∙ ap (λ b. number k + cond b more 0) same in
        let same_number : number k ≡ next k = omega (arith, adds_here) in
        get_or-set_other counts place k (capped (count_at counts place + more)) 0 other ∙ is.each k below
        ∙ ap capped same_number

-- nothing more
pub tally_same : (len : ℕ) (number next : ℕ → ℕ) (counts : List ℕ) → IsTally len number counts
    → ((k : ℕ) → k < len → next k ≡ number k) → IsTally len next counts
tally_same len number next counts is same = record {
  len_is = is.len_is;
  each = λ k below. is.each k below ∙ ap capped (sym (same k below));
}

plus_none : (n : ℕ) → n + 0 ≡ n
plus_none n = omega arith

-- so much more in one row and one column
abbrev pub more_in : ℕ → ℕ → ℕ → ℕ → ℕ → ℕ
more_in row column more r c = if r == row then more_at column more c else 0

pub grid_more : (rows columns : ℕ) (number next : ℕ → ℕ → ℕ) (cells : List (List ℕ)) (row column more : ℕ)
    → IsGrid rows columns number cells
    → ((r c : ℕ) → r < rows → c < columns → next r c ≡ number r c + more_in row column more r c)
    → IsGrid rows columns next (added_in cells row column more)
grid_more rows columns number next cells row column more is adds = record {
  rows_are = length-set cells row (added (get_or cells row []) column more) ∙ is.rows_are;
  each = λ r below. go r below (r == row) refl;
}
  where
    go : (r : ℕ) → r < rows → (b : Bool) → (r == row) ≡ b
        → IsTally columns (next r) (get_or (added_in cells row column more) r [])
    go r below true same =
        let e : r ≡ row = grind (arith, common_steps) in
        let within : row < length cells = (let l = is.rows_are in omega (arith, below, e, l)) in
        let stands : get_or (added_in cells row column more) r [] ≡ added (get_or cells r []) column more =
        ap (λ j. get_or (added_in cells row column more) j []) e
        ∙ get_or-set_same cells row (added (get_or cells row []) column more) [] within
        ∙ ap (λ j. added (get_or cells j []) column more) (sym e)
        in
        subst (λ counts. IsTally columns (next r) counts) (sym stands)
        (tally_more columns (number r) (next r) (get_or cells r []) column more (is.each r below)
        (λ c within. adds r c below within ∙ ap (λ b. number r c + cond b (more_at column more c) 0) same))
    go r below false same =
        let other : r ≢ row = grind (arith, common_steps) in
        let stands = get_or-set_other cells row r (added (get_or cells row []) column more) [] other in
        subst (λ counts. IsTally columns (next r) counts) (sym stands)
        (tally_same columns (number r) (next r) (get_or cells r []) (is.each r below)
        (λ c within. adds r c below within ∙ ap (λ b. number r c + cond b (more_at column more c) 0) same
        ∙ plus_none (number r c)))

-- nothing more
pub grid_same : (rows columns : ℕ) (number next : ℕ → ℕ → ℕ) (cells : List (List ℕ)) → IsGrid rows columns number cells
    → ((r c : ℕ) → r < rows → c < columns → next r c ≡ number r c) → IsGrid rows columns next cells
grid_same rows columns number next cells is same = record {
  rows_are = is.rows_are;
  each = λ r below. tally_same columns (number r) (next r) (get_or cells r []) (is.each r below)
      (λ c within. same r c below within);
}

-- nothing at all
pub tally_none : (len : ℕ) → IsTally len (λ k. 0) (replicate len 0)
tally_none len = record {
  len_is = length-replicate len 0;
  each = λ k below. get_or-replicate len k 0 0 below;
}

pub grid_none : (rows columns : ℕ) → IsGrid rows columns (λ r c. 0) (replicate rows (replicate columns 0))
grid_none rows columns = record {
  rows_are = length-replicate rows (replicate columns 0);
  each = λ r below. subst (λ counts. IsTally columns (λ c. 0) counts)
      (sym (get_or-replicate rows r (replicate columns 0) [] below)) (tally_none columns);
}
