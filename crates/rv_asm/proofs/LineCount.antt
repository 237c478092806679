-- A source has at most one line more than bytes.
use Rattle.std.proofs.Common.{◌==◌, ℕ, suc, ◌+◌, ◌≤◌, Bool, true, false, cond, List, [], ◌∷◌, length, arith}
use Rattle.std.specs.List.{onto_first, slice_split}
use Rattle.std.specs.Str.Lines.{lines, lines_of_parts}

onto : (x : ℕ) (ps : List (List ℕ)) → length (onto_first x ps) ≤ suc (length ps)
onto x [] = omega arith
onto x (p ∷ ps) = omega arith

cut : (b : Bool) (x : ℕ) (ps : List (List ℕ)) → length (cond b ([] ∷ ps) (onto_first x ps)) ≤ suc (length ps)
cut true x ps = omega arith
cut false x ps = onto x ps

split_fits : (p : ℕ → Bool) (bs : List ℕ) → length (slice_split p bs) ≤ length bs + 1
split_fits p [] = omega arith
split_fits p (b ∷ bs) = omega (arith, cut (p b) b (slice_split p bs), split_fits p bs)

last : (b : Bool) (x : List ℕ) → length (cond b [] (x ∷ [])) ≤ 1
last true x = omega arith
last false x = omega arith

parted : (ps : List (List ℕ)) → length (lines_of_parts ps) ≤ length ps
parted [] = omega arith
parted (p ∷ []) = last (length p == 0) p
parted (p ∷ q ∷ ps) = omega (arith, parted (q ∷ ps))

pub lines_fit : (bs : List ℕ) → length (lines bs) ≤ length bs + 1
lines_fit bs = omega (arith, parted (slice_split (λ b. b == 10) bs), split_fits (λ b. b == 10) bs)
