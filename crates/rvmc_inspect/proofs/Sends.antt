-- Sends, one more at a time.
use Rattle.std.proofs.Common.{◌≡◌, ◌∙◌, ◌<◌, ℕ, zero, suc, ◌+◌, List, [], ◌∷◌, ◌++◌, ap, sym, append-nil, append_assoc, arith, length, take}
use Rattle.std.specs.List.{slice_get}
use Rattle.std.specs.Prelude.{Some}
use Rattle.mp_match.specs.declared.posts.Line.{Line}
use Rattle.mp_match.specs.Free.{free_in}
use Rattle.rvmc_inspect.specs.Unreceived.{sent_in, unreceived}

-- of one line more
pub one_more : (lines : List Line) (k : ℕ) → k < length lines
    → unreceived (take (k + 1) lines) ≡ unreceived (take k lines) ++ sent_in (free_in (slice_get lines k))
one_more [] k below = absurd (omega (arith, below))
one_more (line ∷ lines) zero below = append-nil (sent_in (free_in (Some line)))
one_more (line ∷ lines) (suc k) below =
    let next = one_more lines k (omega (arith, below)) in
    let one : suc k + 1 ≡ suc (k + 1) = omega arith in
    rw one (ap (λ rest. sent_in (free_in (Some line)) ++ rest) next
    ∙ sym (append_assoc (sent_in (free_in (Some line))) (unreceived (take k lines)) (sent_in (free_in (slice_get lines k)))))
