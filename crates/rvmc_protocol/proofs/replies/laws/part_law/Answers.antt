use Rattle.std.proofs.Common.{◌∙◌, ◌++◌, List, ℕ, ap, drop, sym, take}
use Rattle.std.proofs.lemmas.List.{drop-drop, take-append-drop}
use Rattle.rvmc_protocol.proofs.replies.laws.part_law.Goals as goal

pub returns : goal.returns
returns c whole from count more =
    ap (λ (rest : List ℕ). take count (drop from whole) ++ rest) (sym (drop-drop count from whole))
    ∙ take-append-drop count (drop from whole)
