-- Lines that are put one after another, and those that are folded.
use Rattle.std.specs.Prelude.{ℕ, ◌+◌, ◌≡◌, Bool, true, false, cond, List, [], ◌∷◌, ◌++◌, map, Option, Some, None}
use Rattle.std.specs.List.{filter}
use Rattle.std.proofs.Common.{refl, sym, ap, ◌∙◌, append_assoc, arith}
use Rattle.rv_image_types.specs.declared.images.Symbol.{Symbol}
use Rattle.rvmc_list.specs.Phases.{Scene}
use Rattle.rvmc_list.specs.Folding.{Line, folded_at_front, is_wanted, scene_line, lines_of, lines_text, folded_text}
use Rattle.rvmc_list.specs.Pieces.{behind, closing, is_folded, opened, opened_by, piece, piece_of}
use Rattle.rvmc_list.specs.declared.folding.Wanted.{Wanted}

with_end : (t m r : List ℕ) → (t ++ (m ++ 10 ∷ [])) ++ r ≡ t ++ (m ++ (10 ∷ r))
with_end t m r = append_assoc t (m ++ 10 ∷ []) r ∙ ap (λ x. t ++ x) (append_assoc m (10 ∷ []) r)

-- one line more
pub behind_more : (begun : Option ℕ) (folded : Bool) (text : List ℕ) (lines : List Line)
    → behind begun (record { folded = folded; text = text } ∷ lines)
    ≡ piece begun folded text ++ behind (opened begun folded) lines
behind_more None true text lines =
    let same : folded_at_front lines ≡ 0 + folded_at_front lines = omega arith in
    with_end text (folded_text (folded_at_front lines)) (lines_text true lines)
    ∙ ap (λ n. text ++ (folded_text n ++ (10 ∷ lines_text true lines))) same
behind_more None false text lines = refl
behind_more (Some more) true text lines =
    let same : more + (1 + folded_at_front lines) ≡ more + 1 + folded_at_front lines = omega arith in
    ap (λ n. folded_text n ++ (10 ∷ lines_text true lines)) same
behind_more (Some more) false text lines =
    let same : more + 0 ≡ more = omega arith in
    let rest = lines_text false lines in
    ap (λ n. folded_text n ++ (10 ∷ ((text ++ 10 ∷ []) ++ rest))) same
    ∙ sym (append_assoc (folded_text more ++ 10 ∷ []) (text ++ 10 ∷ []) rest
    ∙ append_assoc (folded_text more) (10 ∷ []) ((text ++ 10 ∷ []) ++ rest))

-- no line more
pub behind_none : (begun : Option ℕ) → behind begun [] ≡ closing begun
behind_none None = refl
behind_none (Some more) = let same : more + 0 ≡ more = omega arith in ap (λ n. folded_text n ++ 10 ∷ []) same

-- one scene more
pub scene_more : (symbols : List Symbol) (wanted : Wanted) (begun : Option ℕ) (scene : Scene) (rest : List Scene)
    → behind begun (lines_of symbols wanted (scene ∷ rest))
    ≡ piece_of begun (scene_line symbols wanted scene) (is_wanted wanted scene.sight.step)
    ++ behind (opened_by wanted begun scene.sight.step) (lines_of symbols wanted rest)
scene_more symbols wanted begun scene rest = go (is_wanted wanted scene.sight.step)
  where
    kept : List Scene
    kept = filter (λ (s : Scene). is_wanted wanted s.sight.step) rest

    go : (told : Bool) → behind begun (map (scene_line symbols wanted) (cond told (scene ∷ kept) kept))
        ≡ piece_of begun (scene_line symbols wanted scene) told
        ++ behind (cond told (opened begun (is_folded wanted scene.sight.step)) begun)
        (map (scene_line symbols wanted) kept)
    go true = behind_more begun (is_folded wanted scene.sight.step) (scene_line symbols wanted scene).text
        (map (scene_line symbols wanted) kept)
    go false = refl
