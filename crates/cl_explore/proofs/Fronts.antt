-- Tables of requests up to the last open handle, by other names of posts.
use Rattle.std.proofs.Common.{◌≡◌, ◌∙◌, ◌-◌, ℕ, zero, suc, List, ◌∷◌, ◌++◌, Option, None, length, map, refl, ap}
use Rattle.std.specs.Prelude.{replicate}
use Rattle.std.specs.Option.{option_map}
use Rattle.std.proofs.lemmas.List.{length-map, map-append}
use Rattle.mp_request.specs.declared.entries.OpenRequest.{OpenRequest}
use Rattle.mp_request.specs.Kept.{whole_table}
use Rattle.mp_alike_laws.specs.Renaming.{Renaming}
use Rattle.cl_names_laws.specs.Named.{open_by, table_by}

nothing_by : (names : Renaming) (n : ℕ) → replicate n None ≡ map (option_map (open_by names)) (replicate n None)
nothing_by names zero = refl
nothing_by names (suc n) = ap (λ xs. None ∷ xs) (nothing_by names n)

-- what is behind them names nothing by any names
pub filled_by : (names : Renaming) (slots : List (Option OpenRequest))
    → whole_table (table_by names slots) ≡ table_by names (whole_table slots)
filled_by names slots =
    ap (λ n. table_by names slots ++ replicate (255 - n) None) (length-map slots (option_map (open_by names)))
    ∙ ap (λ xs. table_by names slots ++ xs) (nothing_by names (255 - length slots))
    ∙ sym (map-append (option_map (open_by names)) slots (replicate (255 - length slots) None))
  where
    sym : {A : Type 0} {x y : A} → x ≡ y → y ≡ x
    sym e = cc
