-- Steps that are added one after another.
use Rattle.std.specs.Prelude.{ℕ, zero, suc, ◌+◌, ◌*◌, ◌<◌, ◌≤◌, ◌≡◌, nat_lt, if◌then◌else◌, Bool, true, false, List, [], ◌∷◌, ◌++◌}
use Rattle.std.specs.Prelude.{length, map, slice_get, take, Option, Some, None, option_map}
use Rattle.std.specs.List.{All, flat_map}
use Rattle.std.proofs.Common.{refl, sym, ap, ◌∙◌, subst, arith}
use Rattle.std.proofs.lemmas.List.{length-append, length-map}
use Rattle.std.proofs.lemmas.List.Elements.{All-append, All-cons, All-nil}
use Rattle.std.proofs.lemmas.Option.{slice_get-map, slice_get_within}
use Rattle.rv_image_types.specs.declared.images.ImageParts.{ImageParts}
use Rattle.mp_match.proofs.OrderKept.{posts_pairs}
use Rattle.mp_match.specs.PostPairs.{pairs}
use Rattle.mp_match.specs.declared.posts.Line.{Line}
use Rattle.cl_machine.specs.Cluster.{IsRun, loaded_cluster}
use Rattle.cl_machine.specs.declared.steps.Step.{Step}
use Rattle.cl_replay.proofs.Runs.{holds_further, reached_more}
use Rattle.cl_replay.specs.InnerReplaying.{ReplayFaultHolds}
use Rattle.cl_replay.specs.Replaying.{IsReached}
use Rattle.cl_replay.specs.States.{ClusterStandsFor}
use Rattle.cl_replay.specs.Steps.{Leads}
use Rattle.cl_replay.specs.declared.replaying.ReplayFault.{ReplayFault}
use Rattle.cl_replay.specs.declared.states.ClusterState.{ClusterState}
use Rattle.cl_state.specs.Asked.{asked}
use Rattle.cl_state.specs.Rank.{Rank}
use Rattle.cl_state.specs.Room.{rank_of}
use Rattle.cl_state.specs.declared.state.RankState.{RankState}
use Rattle.rvmc_draw.specs.Board.{lost, posts_made, spots_made}
use Rattle.rvmc_draw.specs.Looks.{open_to}
use Rattle.rvmc_draw.specs.Views.{arrow_in_view, bar_in_view}
use Rattle.rvmc_draw.specs.Marks.{Sign, sign_by, sign_if, sign_of, told_by}
use Rattle.rvmc_draw.specs.Held.{kept_by}
use Rattle.rvmc_draw.specs.Parts.{untaken_of}
use Rattle.rvmc_draw.specs.Walks.{Scope, arrows_of, bars_of}
use Rattle.rvmc_draw.specs.Held.{IsWalked, is_marked_in, scope_of, tips_taken}
use Rattle.rvmc_draw.specs.declared.deeds.Deed.{Deed}
use Rattle.rvmc_draw.specs.declared.drawing.Arrow.{Arrow}
use Rattle.rvmc_draw.specs.declared.drawing.Drawing.{Drawing}
use Rattle.rvmc_draw.specs.declared.drawing.Mark.{Mark}
use Rattle.rvmc_draw.specs.declared.drawing.Row.{Row}
use Rattle.rvmc_draw.specs.declared.drawing.Shape.{Shape}
use Rattle.rvmc_draw.specs.declared.views.View.{View}
use Rattle.rvmc_draw.specs.declared.walks.Sizes.{Sizes}
use Rattle.rvmc_draw.specs.declared.walks.Walk.{Walk}
use Rattle.rvmc_sights.proofs.Sights.{IsSeen, each_more, seen_at}
use Rattle.rvmc_sights.specs.Lines.{hart_of, sight_of, sight_text}
use Rattle.rvmc_sights.specs.Sights.{IsSightAt}
use Rattle.rvmc_picture.specs.Deeds.{IsDeedBy, ask_met}
use Rattle.rvmc_picture.specs.Pictures.{AreArrows, AreDeeds, DrawFaultHolds, HasTooMany, IsDeedAt, IsDrawing, IsEndAt, IsTipOf}
use Rattle.rvmc_picture.specs.Pictures.{arrows_in, arrows_with, furthest, scope_in}
use Rattle.rvmc_picture.specs.Walking.{IsDrawn, shown_arrows}
use Rattle.rvmc_picture.specs.Walking.{ArePut, IsPutAt, IsWalkedTo, Puts}
use Rattle.rvmc_picture.specs.declared.pictures.DrawFault.TheVariants as fault

-- ---- what a step did

rank_there : (ranks : List Rank) (states : List RankState) → ranks ≡ map rank_of states → (r : ℕ) (s : RankState)
    → slice_get states r ≡ Some s → slice_get ranks r ≡ Some (rank_of s)
rank_there ranks states are r s there =
    ap (λ rs. slice_get rs r) are ∙ slice_get-map rank_of states r ∙ ap (option_map rank_of) there

posts_count : (deeds : List Deed) (lines : List Line) → lines ≡ pairs (posts_made deeds)
    → length lines ≡ length (posts_made deeds)
posts_count deeds lines are =
    ap length are ∙ sym (length-map (pairs (posts_made deeds)) (λ (l : Line). l.post))
    ∙ ap length (posts_pairs (posts_made deeds))

take_front : {A : Type 0} (xs ys : List A) (k : ℕ) → k ≤ length xs → take k (xs ++ ys) ≡ take k xs
take_front xs ys zero within = refl
take_front [] ys (suc k) within = absurd (let w = within in omega (arith, w))
take_front (x ∷ xs) ys (suc k) within = ap (λ l. x ∷ l) (take_front xs ys k (let w = within in omega (arith, w)))

take_whole : {A : Type 0} (xs ys : List A) → take (length xs) (xs ++ ys) ≡ xs
take_whole [] ys = refl
take_whole (x ∷ xs) ys = ap (λ l. x ∷ l) (take_whole xs ys)

-- ---- what is told of a mark

all_kept : (P : Sign × List ℕ → Type 0) (count : ℕ) (tip : List ℕ) (b : Bool) (d : Deed) (o : Option Shape)
    → ((shape : Shape) → P (sign_by d shape, tip)) → All P (kept_by count tip (if b then sign_if d o else []))
all_kept P count tip b d o each = go (nat_lt count 5000) b o
  where
    go : (few c : Bool) (shape : Option Shape)
        → All P (if few then map {B = Sign × List ℕ} (λ (s : Sign). (s, tip)) (if c then sign_if d shape else []) else [])
    go true true None = All-nil P
    go true true (Some shape) = All-cons P (sign_by d shape, tip) [] (each shape) (All-nil P)
    go true false shape = All-nil P
    go false c shape = All-nil P

none_told : (P : Sign × List ℕ → Type 0) (marks : List Mark) → map sign_of marks ≡ [] → All P (map told_by marks)
none_told P [] none = All-nil P
none_told P (m ∷ marks) none = absurd (cc)

-- ---- one step more

module _ (image : ImageParts) (steps : List Step) (scope : Scope) (n : ℕ) (state : ClusterState) (walk : Walk)
    (put : ArePut image steps scope n state walk) (e : Step) (there : slice_get steps n ≡ Some e)
    (new : ClusterState) (leads : Leads state e new) (after : Walk)
    (puts : Puts image.symbols state n e new walk after) where
  seen : IsSeen image steps n state e new
  seen = seen_at image steps n state put.reached e there new leads

  is_put : IsPutAt image.symbols n e (rank_of seen.s) (rank_of seen.t) walk after
  is_put = puts seen.s seen.t seen.s_there seen.t_there seen.s_hart seen.t_hart

  counted : IsDeedBy (length put.deeds) e (ask_met e.kind (asked (rank_of seen.s) e.hart)) (hart_of e (rank_of seen.s))
      (hart_of e (rank_of seen.t)) (length (posts_made put.deeds) + 1) is_put.deed
  counted =
      subst (λ m. IsDeedBy m e (ask_met e.kind (asked (rank_of seen.s) e.hart)) (hart_of e (rank_of seen.s))
      (hart_of e (rank_of seen.t)) (length (posts_made put.deeds) + 1) is_put.deed) (sym put.are.count)
      (subst (λ k. IsDeedBy n e (ask_met e.kind (asked (rank_of seen.s) e.hart)) (hart_of e (rank_of seen.s))
      (hart_of e (rank_of seen.t)) (k + 1) is_put.deed)
      (posts_count put.deeds walk.board.lines.items put.walked.lines) is_put.is)

  deed_at : IsDeedAt image steps put.deeds is_put.deed
  deed_at =
      let led = leads image put.reached.cluster put.reached.stands in
      record {
        old = put.reached.cluster;
        run = subst (λ m. IsRun (loaded_cluster image) (take m steps) put.reached.cluster) (sym put.are.count)
            put.reached.run;
        step = e;
        there = subst (λ m. slice_get steps m ≡ Some e) (sym put.are.count) there;
        new = led.0;
        leads = led.1;
        own = rank_of seen.s;
        after = rank_of seen.t;
        own_there = rank_there put.reached.cluster.ranks state.ranks.items put.reached.stands.ranks_are e.rank seen.s
            seen.s_there;
        after_there = rank_there led.0.ranks new.ranks.items led.2.ranks_are e.rank seen.t seen.t_there;
        is = counted;
      }

  deeds_more : AreDeeds image steps (n + 1) (put.deeds ++ is_put.deed ∷ [])
  deeds_more = record {
    count = (let count = put.are.count in omega (arith, count, length-append put.deeds (is_put.deed ∷ [])));
    each = each_more (λ k d. IsDeedAt image steps (take k (put.deeds ++ is_put.deed ∷ [])) d) put.deeds is_put.deed
        (λ k d at. subst (λ before. IsDeedAt image steps before d)
        (sym (take_front put.deeds (is_put.deed ∷ []) k
        (let below = slice_get_within put.deeds k d at in omega (arith, below))))
        (put.are.each k d at))
        (subst (λ before. IsDeedAt image steps before is_put.deed)
        (sym (take_whole put.deeds (is_put.deed ∷ []))) deed_at);
  }

  told : (shape : Shape)
      → IsTipOf image steps (
        sign_by is_put.deed shape,
        sight_text image.symbols (sight_of n e (rank_of seen.s) (rank_of seen.t)),
      )
  told shape = (
    sight_of n e (rank_of seen.s) (rank_of seen.t),
    subst (λ m. IsSightAt image steps m (sight_of n e (rank_of seen.s) (rank_of seen.t)))
        (ap (λ spot. spot.place) (sym is_put.is.spot)) seen.sight,
    refl,
  )

  tips_more : All (IsTipOf image steps) (map told_by after.marks.kept.items)
  tips_more =
      subst (All (IsTipOf image steps)) (sym is_put.tips)
      (All-append (IsTipOf image steps) (map told_by walk.marks.kept.items)
      (tips_taken walk is_put.deed (sight_text image.symbols (sight_of n e (rank_of seen.s) (rank_of seen.t))))
      put.tips
      (all_kept (IsTipOf image steps) walk.marks.count
      (sight_text image.symbols (sight_of n e (rank_of seen.s) (rank_of seen.t)))
      (is_marked_in walk is_put.deed) is_put.deed is_put.deed.shape told))

  pub put_more : ArePut image steps scope (n + 1) new after
  put_more = record {
    reached = reached_more image steps n state put.reached e there new leads;
    deeds = put.deeds ++ is_put.deed ∷ [];
    are = deeds_more;
    walked = is_put.walked scope put.deeds put.walked;
    tips = tips_more;
  }

-- before the first step
pub put_none : (image : ImageParts) (steps : List Step) (scope : Scope) (state : ClusterState) (walk : Walk)
    → ClusterStandsFor image state (loaded_cluster image) → IsWalked scope [] walk
    → ArePut image steps scope 0 state walk
put_none image steps scope state walk stands walked = record {
  reached = record { cluster = loaded_cluster image; run = refl; stands = stands };
  deeds = [];
  are = record { count = refl; each = λ k d at. absurd (cc) };
  walked = walked;
  tips = none_told (IsTipOf image steps) walk.marks.kept.items
      (walked.kept (let count = walked.count in omega (arith, count)));
}

-- ---- the drawing

pub scope_same : (image : ImageParts) (sizes : Sizes) (view : View) → sizes.ranks ≡ image.ranks
    → sizes.harts ≡ image.harts → sizes.links ≡ length image.links → scope_of sizes view ≡ scope_in image view
scope_same image sizes view ranks harts links =
    ap (λ r. record { ranks = r; harts = sizes.harts; boxes = 16 * sizes.links; view = view }) ranks
    ∙ ap (λ h. record { ranks = image.ranks; harts = h; boxes = 16 * sizes.links; view = view }) harts
    ∙ ap (λ l. record { ranks = image.ranks; harts = image.harts; boxes = 16 * l; view = view }) links

module _ (image : ImageParts) (steps : List Step) (view : View) (state : ClusterState) (walk : Walk)
    (put : ArePut image steps (scope_in image view) (length steps) state walk) where
  abbrev all_shown : List Arrow
  all_shown =
      flat_map (arrow_in_view view)
      (arrows_with image.links (arrows_of (scope_in image view) put.deeds)
      (untaken_of (16 * length image.links) put.deeds))

  pub are_shown : shown_arrows image.links view walk.board walk.parts.untaken.items walk.arrows.items
      ≡ arrows_in image view put.deeds
  are_shown =
      ap (λ l. flat_map (arrow_in_view view) (arrows_with image.links l walk.parts.untaken.items)
      ++ lost view walk.board.lines.items walk.board.spots.items walk.board.got.items) put.walked.arrows
      ∙ ap (λ l. flat_map (arrow_in_view view) (arrows_with image.links (arrows_of (scope_in image view) put.deeds) l)
      ++ lost view walk.board.lines.items walk.board.spots.items walk.board.got.items) put.walked.untaken
      ∙ ap (λ l. all_shown ++ lost view l walk.board.spots.items walk.board.got.items) put.walked.lines
      ∙ ap (λ l. all_shown ++ lost view (pairs (posts_made put.deeds)) l walk.board.got.items) put.walked.spots
      ∙ ap (λ l. all_shown ++ lost view (pairs (posts_made put.deeds)) (spots_made put.deeds) l) put.walked.got

  pub is_drawing : walk.marks.count ≤ 5000 → (rows : List Row) (told : List ℕ) → IsEndAt image steps view.to rows told
      → (drawing : Drawing) → IsDrawn image view (length steps) walk rows told drawing
      → IsDrawing image steps view drawing
  is_drawing few rows told end drawing d = record {
    deeds = put.deeds;
    are = put.are;
    ranks = d.ranks;
    harts = d.harts;
    from = d.from;
    to = d.to;
    marks = ap (map sign_of) d.marks ∙ put.walked.kept few;
    tips = subst (λ l. All (IsTipOf image steps) (map told_by l)) (sym d.marks) put.tips;
    arrows = d.arrows ∙ are_shown;
    bars = record {
      begun = walk.looks.begun.items;
      known = put.walked.begun;
      are = d.bars
          ∙ ap (λ l. flat_map (bar_in_view view) (l ++ flat_map (open_to (length steps)) walk.looks.begun.items))
          put.walked.bars
          ∙ ap (λ n. flat_map (bar_in_view view)
          (bars_of (scope_in image view) put.deeds ++ flat_map (open_to n) walk.looks.begun.items)) (sym put.are.count);
    };
    ending = subst (IsEndAt image steps view.to drawing.rows.items) (sym d.told_is)
        (subst (λ (r : List Row). IsEndAt image steps view.to r told) (sym d.rows_are) end);
  }

  pub too_many : 5000 < walk.marks.count → HasTooMany image steps view walk.marks.count
  too_many many = record { deeds = put.deeds; are = put.are; marks = put.walked.count; many = many }

-- the drawing of a walk through all steps
pub walked_drawing : (image : ImageParts) (steps : List Step) (view : View) (walk : Walk) (rows : List Row)
    (told : List ℕ) → IsWalkedTo image steps view walk rows told → walk.marks.count ≤ 5000 → (drawing : Drawing)
    → IsDrawn image view (length steps) walk rows told drawing → IsDrawing image steps view drawing
walked_drawing image steps view walk rows told walked few drawing d =
    is_drawing image steps view walked.last walk walked.all few rows told walked.ending drawing d

-- and its arrows
pub walked_arrows : (image : ImageParts) (steps : List Step) (walk : Walk) (rows : List Row) (told : List ℕ)
    → IsWalkedTo image steps (record { from = 0; to = length steps }) walk rows told
    → AreArrows image steps
    (shown_arrows image.links (record { from = 0; to = length steps }) walk.board walk.parts.untaken.items
    walk.arrows.items)
walked_arrows image steps walk rows told walked = record {
  deeds = walked.all.deeds;
  are = walked.all.are;
  all = are_shown image steps (record { from = 0; to = length steps }) walked.last walk walked.all;
}

-- why not all steps were added is why there is no drawing
pub draw_fault : (image : ImageParts) (steps : List Step) (view : View) → furthest view steps ≤ length steps
    → (why : ReplayFault) → ReplayFaultHolds image steps (length steps) why
    → DrawFaultHolds image steps view (fault.Replay why)
draw_fault image steps view within why h =
    holds_further image steps (length steps) (furthest view steps) (omega arith) within why h
