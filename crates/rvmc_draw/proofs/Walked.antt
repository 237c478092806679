-- All that a picture shows, behind a step more.
use Rattle.std.specs.Prelude.{ℕ, zero, suc, ◌≡◌, ◌≤◌, ◌<◌, ◌⊎◌, ◌+◌, ◌*◌, nat_lt, if◌then◌else◌, Bool, true, false, List, [], ◌∷◌}
use Rattle.std.specs.Prelude.{◌++◌, length, map, min, replicate, ◌-◌, ◌^◌, Option, Some, None}
use Rattle.std.specs.List.{slice_get, slice_set}
use Rattle.std.specs.Option.{is_some}
use Rattle.std.proofs.Common.{refl, sym, ap, ◌∙◌, subst, append_assoc, arith, inl, inr, slice_index_or}
use Rattle.std.proofs.lemmas.Bool.{lt-ltb}
use Rattle.std.proofs.lemmas.List.{length-append, map-append}
use Rattle.mp_match.specs.PostPairs.{pairs}
use Rattle.rvmc_draw.specs.Board.{arrows_to, lines_with, partners_of, posts_made, spot_if, spots_made}
use Rattle.rvmc_draw.specs.Laws.{IsBoardOf}
use Rattle.rvmc_draw.specs.Looks.{begun_at, begun_by, ended_by, lane_of}
use Rattle.rvmc_draw.specs.Held.{begun_in}
use Rattle.rvmc_draw.specs.Marks.{Sign, is_marked, marks_by, shape_there, sign_if, sign_of, told_by}
use Rattle.rvmc_draw.specs.Held.{kept_by, shapes_with}
use Rattle.rvmc_draw.specs.Parts.{arrow_if_there, arrow_to_taker, arrows_taken, box_place, cell_of}
use Rattle.rvmc_draw.specs.Held.{cells_with, no_cell}
use Rattle.rvmc_draw.specs.Walks.{IsTable, Scope, arrows_by, arrows_of, bars_by, bars_of, begun_before}
use Rattle.rvmc_draw.specs.Held.{IsWalked, Takes}
use Rattle.rvmc_draw.specs.Walks.{begun_of, got_after, got_places, mark_by, marks_of, shape_before, last_shape_of, within}
use Rattle.rvmc_draw.specs.Held.{signs_taken, tips_taken}
use Rattle.rvmc_draw.specs.declared.deeds.Deed.{Deed}
use Rattle.rvmc_draw.specs.declared.drawing.Bar.{Bar}
use Rattle.rvmc_draw.specs.declared.drawing.Mark.{Mark}
use Rattle.rvmc_draw.specs.declared.drawing.Shape.{Shape}
use Rattle.rvmc_draw.specs.declared.walks.Walk.{Walk}
use Rattle.rvmc_draw.proofs.Boards.{board_kept}
use Rattle.rvmc_draw.proofs.Tables.{begun_more, cells_more, each_from, each_more, shapes_more, table_none}
use Rattle.rvmc_draw.proofs.NeverTaken.{untaken_more}

-- ---- marks

pub signs_told : (marks : List Mark) → map (λ (t : Sign × List ℕ). t.0) (map told_by marks) ≡ map sign_of marks
signs_told [] = refl
signs_told (mark ∷ marks) = ap (λ l. sign_of mark ∷ l) (signs_told marks)

-- where fewer than 5,000 were kept, all are
signs_kept : (count : ℕ) (tip : List ℕ) (signs : List Sign) → nat_lt count 5000 ≡ true
    → map (λ (t : Sign × List ℕ). t.0) (kept_by count tip signs) ≡ signs
signs_kept count tip signs few =
    ap (λ b. map (λ (t : Sign × List ℕ). t.0) (if b then map (λ (s : Sign). (s, tip)) signs else [])) few ∙ go signs
  where
    go : (ss : List Sign) → map (λ (t : Sign × List ℕ). t.0) (map (λ (s : Sign). (s, tip)) ss) ≡ ss
    go [] = refl
    go (s ∷ ss) = ap (λ l. s ∷ l) (go ss)

one_at_most : (o : Option Shape) (b : Bool) (d : Deed) → length (if b then sign_if d o else []) ≤ 1
one_at_most None true d = omega arith
one_at_most (Some shape) true d = omega arith
one_at_most o false d = omega arith

-- none were added, or one was where fewer than 5,000 were kept
fits_or_none : (signs : List Sign) (count : ℕ) → count + length signs ≤ 5000 → (signs ≡ []) ⊎ (nat_lt count 5000 ≡ true)
fits_or_none [] count fits = inl refl
fits_or_none (s ∷ ss) count fits = inr (lt-ltb count 5000 (omega (arith, fits)))

signs_most : (scope : Scope) (old : Walk) (d : Deed) → length (signs_taken old d) ≤ 1
signs_most scope old d =
    one_at_most d.shape
    (is_marked old.marks.view (is_some (begun_in old.looks.begun.items (lane_of old.looks.harts d.spot)))
    (shape_there (slice_get old.marks.shapes.items (lane_of old.marks.harts d.spot))) d) d

-- ---- one step more
module _ (scope : Scope) (deeds : List Deed) (old : Walk) (d : Deed) (tip : List ℕ) (new : Walk)
    (w : IsWalked scope deeds old) (t : Takes old d tip new) where
  board : IsBoardOf (deeds ++ d ∷ []) (lines_with old.board.lines.items d.made) (old.board.spots.items ++ spot_if d.made d.spot)
  board = board_kept deeds d old.board.lines.items old.board.spots.items
      (record { lines_are = w.lines; spots_are = w.spots })

  looks_lane : lane_of old.looks.harts d.spot ≡ lane_of scope.harts d.spot
  looks_lane = ap (λ h. lane_of h d.spot) w.looks_harts

  marks_lane : lane_of old.marks.harts d.spot ≡ lane_of scope.harts d.spot
  marks_lane = ap (λ h. lane_of h d.spot) w.marks_harts

  begun_is : begun_in old.looks.begun.items (lane_of old.looks.harts d.spot) ≡ begun_before scope deeds d.spot
  begun_is =
      ap (begun_in old.looks.begun.items) looks_lane ∙ ap begun_at (w.begun (lane_of scope.harts d.spot))

  shape_is : slice_get old.marks.shapes.items (lane_of old.marks.harts d.spot) ≡ shape_before scope deeds d.spot
  shape_is = ap (slice_get old.marks.shapes.items) marks_lane ∙ w.shapes (lane_of scope.harts d.spot)

  signs_are : signs_taken old d ≡ mark_by scope deeds d
  signs_are =
      ap (λ v. marks_by v (is_some (begun_in old.looks.begun.items (lane_of old.looks.harts d.spot)))
      (slice_get old.marks.shapes.items (lane_of old.marks.harts d.spot)) d) w.view
      ∙ ap (λ o. marks_by scope.view (is_some o)
      (slice_get old.marks.shapes.items (lane_of old.marks.harts d.spot)) d) begun_is
      ∙ ap (λ o. marks_by scope.view (is_some (begun_before scope deeds d.spot)) o d) shape_is

  taken_is : arrows_taken (slice_get old.parts.cells.items) d ≡ arrows_taken (within scope.boxes (cell_of deeds)) d
  taken_is = go d.taken
    where
      go : (o : Option (ℕ × ℕ)) → arrow_to_taker (slice_get old.parts.cells.items) o d.spot
          ≡ arrow_to_taker (within scope.boxes (cell_of deeds)) o d.spot
      go None = refl
      go (Some box) = ap (arrow_if_there box d.spot) (w.cells (box_place box))

  arrows_are : new.arrows.items ≡ old.arrows.items ++ arrows_by scope deeds d
  arrows_are =
      t.arrows
      ∙ append_assoc old.arrows.items
      (arrows_to old.board.ranks old.board.lines.items old.board.spots.items d)
      (arrows_taken (slice_get old.parts.cells.items) d)
      ∙ ap (λ r. old.arrows.items
      ++ (arrows_to r old.board.lines.items old.board.spots.items d ++ arrows_taken (slice_get old.parts.cells.items) d))
      w.ranks
      ∙ ap (λ ls. old.arrows.items
      ++ (arrows_to scope.ranks ls old.board.spots.items d ++ arrows_taken (slice_get old.parts.cells.items) d)) w.lines
      ∙ ap (λ ss. old.arrows.items
      ++ (arrows_to scope.ranks (pairs (posts_made deeds)) ss d ++ arrows_taken (slice_get old.parts.cells.items) d))
      w.spots
      ∙ ap (λ more. old.arrows.items
      ++ (arrows_to scope.ranks (pairs (posts_made deeds)) (spots_made deeds) d ++ more)) taken_is

  got_are : new.board.got.items ≡ old.board.got.items ++ got_after deeds d
  got_are = t.got ∙ ap (λ ls. old.board.got.items ++ partners_of ls d.got.items) board.lines_are

  count_is : new.marks.count ≡ length (marks_of scope (deeds ++ d ∷ []))
  count_is =
      t.count
      ∙ ap (λ n. n + length (signs_taken old d)) w.count
      ∙ ap (λ ss. length (marks_of scope deeds) + length ss) signs_are
      ∙ sym (length-append (marks_of scope deeds) (mark_by scope deeds d))
      ∙ ap length (sym (each_from (mark_by scope) [] deeds d))

  kept_signs : map sign_of new.marks.kept.items
      ≡ map sign_of old.marks.kept.items ++ map (λ (s : Sign × List ℕ). s.0) (tips_taken old d tip)
  kept_signs =
      sym (signs_told new.marks.kept.items)
      ∙ ap (map (λ (s : Sign × List ℕ). s.0)) t.kept
      ∙ map-append (λ (s : Sign × List ℕ). s.0) (map told_by old.marks.kept.items) (tips_taken old d tip)
      ∙ ap (λ l. l ++ map (λ (s : Sign × List ℕ). s.0) (tips_taken old d tip)) (signs_told old.marks.kept.items)

  tips_are : (signs_taken old d ≡ []) ⊎ (nat_lt old.marks.count 5000 ≡ true)
      → map (λ (s : Sign × List ℕ). s.0) (tips_taken old d tip) ≡ signs_taken old d
  tips_are (inl none) =
      ap (λ ss. map (λ (s : Sign × List ℕ). s.0) (kept_by old.marks.count tip ss)) none
      ∙ none_kept (nat_lt old.marks.count 5000) ∙ sym none
    where
      none_kept : (b : Bool)
          → map (λ (s : Sign × List ℕ). s.0) (if b then map (λ (s : Sign). (s, tip)) [] else []) ≡ []
      none_kept true = refl
      none_kept false = refl
  tips_are (inr few) = signs_kept old.marks.count tip (signs_taken old d) few

  kept_are : new.marks.count ≤ 5000 → map sign_of new.marks.kept.items ≡ marks_of scope (deeds ++ d ∷ [])
  kept_are most =
      let count = t.count in
      let fits : old.marks.count + length (signs_taken old d) ≤ 5000 = omega (arith, most, count) in
      let before : old.marks.count ≤ 5000 = omega (arith, fits) in
      kept_signs
      ∙ ap (λ l. l ++ map (λ (s : Sign × List ℕ). s.0) (tips_taken old d tip)) (w.kept before)
      ∙ ap (λ l. marks_of scope deeds ++ l) (tips_are (fits_or_none (signs_taken old d) old.marks.count fits))
      ∙ ap (λ l. marks_of scope deeds ++ l) signs_are
      ∙ sym (each_from (mark_by scope) [] deeds d)

  begun_table : IsTable (scope.ranks * scope.harts) (begun_of scope.harts (deeds ++ d ∷ [])) new.looks.begun.items
  begun_table =
      subst (λ l. IsTable (scope.ranks * scope.harts) (begun_of scope.harts (deeds ++ d ∷ [])) l)
      (sym (t.begun ∙ ap (λ n. slice_set old.looks.begun.items n (begun_by (begun_in old.looks.begun.items n) d))
      looks_lane))
      (begun_more (scope.ranks * scope.harts) scope.harts deeds d old.looks.begun.items w.begun)

  shapes_table : IsTable (scope.ranks * scope.harts) (last_shape_of scope.view scope.harts (deeds ++ d ∷ []))
      new.marks.shapes.items
  shapes_table =
      subst (λ l. IsTable (scope.ranks * scope.harts) (last_shape_of scope.view scope.harts (deeds ++ d ∷ [])) l)
      (sym (t.shapes ∙ ap (λ v. shapes_with v old.marks.harts old.marks.shapes.items d) w.view
      ∙ ap (λ h. shapes_with scope.view h old.marks.shapes.items d) w.marks_harts))
      (shapes_more (scope.ranks * scope.harts) scope.view scope.harts deeds d old.marks.shapes.items w.shapes)

  pub walked_more : IsWalked scope (deeds ++ d ∷ []) new
  walked_more = record {
    ranks = t.ranks ∙ w.ranks;
    lines = t.lines ∙ board.lines_are;
    spots = t.spots ∙ board.spots_are;
    got = each_more got_after deeds d old.board.got.items new.board.got.items w.got got_are;
    cells = subst (λ l. IsTable scope.boxes (cell_of (deeds ++ d ∷ [])) l) (sym t.cells)
        (cells_more scope.boxes deeds d old.parts.cells.items w.cells);
    untaken = untaken_more scope.boxes deeds d old.parts.cells.items old.parts.untaken.items new.parts.untaken.items
        w.cells w.untaken t.untaken;
    looks_harts = t.looks_harts ∙ w.looks_harts;
    begun = begun_table;
    marks_harts = t.marks_harts ∙ w.marks_harts;
    view = t.view ∙ w.view;
    shapes = shapes_table;
    arrows = each_more (arrows_by scope) deeds d old.arrows.items new.arrows.items w.arrows arrows_are;
    bars = each_more (bars_by scope) deeds d old.bars.items new.bars.items w.bars
        (t.bars ∙ ap (λ o. old.bars.items ++ ended_by o d) begun_is);
    count = count_is;
    few = (let count = t.count in let few = w.few in let most = signs_most scope old d in
        omega (arith, count, few, most, length-append deeds (d ∷ [])));
    kept = kept_are;
  }

-- ---- before the first

pub walked_none : (scope : Scope) (walk : Walk) → walk.board.ranks ≡ scope.ranks → walk.board.lines.items ≡ []
    → walk.board.spots.items ≡ [] → walk.board.got.items ≡ []
    → walk.parts.cells.items ≡ replicate scope.boxes no_cell → walk.parts.untaken.items ≡ []
    → walk.looks.harts ≡ scope.harts → walk.looks.begun.items ≡ replicate (scope.ranks * scope.harts) None
    → walk.marks.harts ≡ scope.harts → walk.marks.view ≡ scope.view
    → walk.marks.shapes.items ≡ replicate (scope.ranks * scope.harts) None
    → walk.arrows.items ≡ [] → walk.bars.items ≡ [] → walk.marks.count ≡ 0 → walk.marks.kept.items ≡ []
    → IsWalked scope [] walk
walked_none scope walk ranks lines spots got cells untaken looks_harts begun marks_harts view shapes arrows bars count kept = record {
  ranks = ranks;
  lines = lines;
  spots = spots;
  got = got;
  cells = subst (λ l. IsTable scope.boxes (cell_of []) l) (sym cells)
      (table_none scope.boxes no_cell (cell_of []) (λ place. no_cell_is));
  untaken = untaken;
  looks_harts = looks_harts;
  begun = subst (λ l. IsTable (scope.ranks * scope.harts) (begun_of scope.harts []) l) (sym begun)
      (table_none (scope.ranks * scope.harts) None (begun_of scope.harts []) (λ place. refl));
  marks_harts = marks_harts;
  view = view;
  shapes = subst (λ l. IsTable (scope.ranks * scope.harts) (last_shape_of scope.view scope.harts []) l) (sym shapes)
      (table_none (scope.ranks * scope.harts) None (last_shape_of scope.view scope.harts []) (λ place. refl));
  arrows = arrows;
  bars = bars;
  count = count;
  few = omega (arith, count);
  kept = λ most. ap (map sign_of) kept;
}
  where
    no_cell_is : record { phase = min 0 (2 ^ 64 - 1); last = None } ≡ no_cell
    no_cell_is = ap (λ n. record { phase = n; last = None }) (omega arith)

-- ---- a mark that stands for one step more tells the same

pub told_set : (marks : List Mark) (k : ℕ) (d mark : Mark) → k < length marks
    → told_by mark ≡ told_by (slice_index_or marks k d) → map told_by (slice_set marks k mark) ≡ map told_by marks
told_set [] k d mark within same = absurd (let w = within in omega (arith, w))
told_set (m ∷ marks) zero d mark within same = ap (λ t. t ∷ map told_by marks) same
told_set (m ∷ marks) (suc k) d mark within same =
    ap (λ l. told_by m ∷ l) (told_set marks k d mark (let w = within in omega (arith, w)) same)
