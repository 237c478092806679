-- Beginnings of lines, piece by piece.
use Rattle.std.proofs.Common.{◌∙◌, ℕ, List, ◌+◌, ◌-◌, subst, Option, Some, None, append-nil, length, sym, take, drop}
use Rattle.std.specs.Io.KnownBytes.{Appends, Keeps}
use Rattle.std.proofs.KnownBytes.{Appends-kept, Appends-trans}
use Rattle.std.proofs.Math.Seq.{take-add}
use Rattle.std.proofs.lemmas.List.{take_rest}
use Rattle.cl_lines.specs.Beginnings.{AppendsBeginning}

-- one more piece of a line, of what was left of it
pub beginning_goes_on : (line : List ℕ) (old mid new : Option (List ℕ)) (done count : ℕ) → Appends old mid (take done line)
    → Appends mid new (take count (take (length line - done) (drop done line))) → Appends old new (take (done + count) line)
beginning_goes_on line old mid new done count before then =
    let piece : Appends mid new (take count (drop done line)) = subst (λ (rest : List ℕ). Appends mid new (take count rest)) (take_rest line done) then in
    rw (take-add done count line) (Appends-trans old mid new _ _ before piece)

-- no piece of it, where nothing is taken
pub none_taken : (text : List ℕ) (old new : Option (List ℕ)) → Keeps old new → Appends old new (take 0 text)
none_taken text None new keeps = tt
none_taken text (Some xs) None keeps = absurd keeps
none_taken text (Some xs) (Some ys) keeps = keeps ∙ sym (append-nil xs)

pub nothing_taken : (text : List ℕ) (old new : Option (List ℕ)) → Appends old new (take 0 text) → Keeps old new
nothing_taken text None new appends = tt
nothing_taken text (Some xs) None appends = absurd appends
nothing_taken text (Some xs) (Some ys) appends = appends ∙ append-nil xs

-- what was written stays
pub beginning_stays : (line : List ℕ) (old mid new : Option (List ℕ)) (done : ℕ) → Appends old mid (take done line) → Keeps mid new
    → AppendsBeginning line old new
beginning_stays line old mid new done before keeps = (done, Appends-kept old mid new (take done line) before keeps)
