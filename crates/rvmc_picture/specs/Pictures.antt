-- The drawing of a record.
use Rattle.std.specs.Prelude.{ℕ, ◌≡◌, ◌<◌, ◌≤◌, ◌+◌, ◌*◌, max, List, ◌∷◌, ◌++◌, length, map}
use Rattle.std.specs.Prelude.{slice_get, take, Option, Some, None, []}
use Rattle.std.specs.List.{All, flat_map}
use Rattle.std.specs.Option.{unwrap_or}
use Rattle.rv_image_types.specs.declared.images.ImageParts.{ImageParts}
use Rattle.rv_image_types.specs.declared.images.Link.{Link}
use Rattle.mp_match.specs.PostPairs.{pairs}
use Rattle.cl_state.specs.Asked.{asked}
use Rattle.cl_state.specs.Rank.{Rank}
use Rattle.cl_machine.specs.Cluster.{Cluster, IsRun, IsStep, loaded_cluster}
use Rattle.cl_machine.specs.declared.steps.Step.{Step}
use Rattle.cl_replay.specs.InnerReplaying.{ReplayFaultHolds}
use Rattle.cl_replay.specs.Replaying.{IsReached}
use Rattle.cl_replay.specs.declared.states.ClusterState.{ClusterState}
use Rattle.rvmc_draw.specs.Board.{lost, posts_made, spots_made}
use Rattle.rvmc_draw.specs.Looks.{open_to}
use Rattle.rvmc_draw.specs.Marks.{Sign, sign_of, told_by}
use Rattle.rvmc_draw.specs.Parts.{untaken_of}
use Rattle.rvmc_draw.specs.Views.{arrow_in_view, bar_in_view}
use Rattle.rvmc_draw.specs.Walks.{IsTable, Scope, arrows_of, bars_of, begun_of, got_places, marks_of}
use Rattle.rvmc_draw.specs.declared.deeds.Deed.{Deed}
use Rattle.rvmc_draw.specs.declared.drawing.Arrow.{Arrow}
use Rattle.rvmc_draw.specs.declared.drawing.Bar.{Bar}
use Rattle.rvmc_draw.specs.declared.drawing.Carried.TheVariants.{Partition}
use Rattle.rvmc_draw.specs.declared.drawing.Drawing.{Drawing}
use Rattle.rvmc_draw.specs.declared.drawing.Row.{Row}
use Rattle.rvmc_draw.specs.declared.parts.Untaken.{Untaken}
use Rattle.rvmc_draw.specs.declared.views.View.{View}
use Rattle.rvmc_draw.specs.declared.walks.Walk.{Walk}
use Rattle.rvmc_sights.specs.Lines.{Sight, hart_of, sight_text}
use Rattle.rvmc_sights.specs.Sights.{IsSightAt}
use Rattle.rvmc_picture.specs.Deeds.{IsDeedBy, ask_met}
use Rattle.rvmc_picture.specs.Ends.{IsToldEnd}
use Rattle.rvmc_picture.specs.declared.pictures.DrawFault.{DrawFault}
use Rattle.rvmc_picture.specs.declared.pictures.DrawFault.TheVariants as fault

-- ---- what each step did

-- the step behind so many others did this: it leads from one cluster of the run to the next, and its hart asked and was
-- left as its rank says before and after it; the hub had as many posts as the steps before it made
pub record IsDeedAt (image : ImageParts) (steps : List Step) (before : List Deed) (d : Deed) : Type 0 where
  pub old : Cluster
  pub run : IsRun (loaded_cluster image) (take (length before) steps) old
  pub step : Step
  pub there : slice_get steps (length before) ≡ Some step
  pub new : Cluster
  pub leads : IsStep old step new
  pub own : Rank
  pub after : Rank
  pub own_there : slice_get old.ranks step.rank ≡ Some own
  pub after_there : slice_get new.ranks step.rank ≡ Some after
  pub is : IsDeedBy (length before) step (ask_met step.kind (asked own step.hart)) (hart_of step own) (hart_of step after)
      (length (posts_made before) + 1) d

-- the first n steps did these, in order
pub record AreDeeds (image : ImageParts) (steps : List Step) (n : ℕ) (deeds : List Deed) : Type 0 where
  pub count : length deeds ≡ n
  pub each : (k : ℕ) (d : Deed) → slice_get deeds k ≡ Some d → IsDeedAt image steps (take k deeds) d

-- what is told of a mark is the line of its step, as `list` has it
abbrev pub IsTipOf : ImageParts → List Step → Sign × List ℕ → Type 0
IsTipOf image steps told =
    (sight : Sight) × IsSightAt image steps told.0.spot.place sight × (told.1 ≡ sight_text image.symbols sight)

-- ---- the drawing

abbrev pub scope_in : ImageParts → View → Scope
scope_in image view =
    record { ranks = image.ranks; harts = image.harts; boxes = 16 * length image.links; view = view }

-- this is told of the state to which so many steps lead: of the place where the picture ends
pub record IsEndAt (image : ImageParts) (steps : List Step) (to : ℕ) (rows : List Row) (told : List ℕ) : Type 0 where
  pub state : ClusterState
  pub reached : IsReached image steps to state
  pub end : IsToldEnd image state rows told

-- the receiver's rank of a link
abbrev pub receiver_of : List Link → ℕ → ℕ
receiver_of links number = elim (slice_get links number) [ None ↦ 0 | Some link ↦ link.to ]

-- the arrow of a partition that no step took: from the step that made it ready, to the receiver's rank
abbrev pub arrow_untaken : List Link → Untaken → Arrow
arrow_untaken links one = record {
  from = one.from;
  to = None;
  dest = receiver_of links one.link;
  carried = Partition one.link one.part one.phase;
}

unfoldable pub one_untaken : List Link → Untaken → List Arrow
one_untaken links one = arrow_untaken links one ∷ []

-- all arrows to a step, and then those of partitions that no step took
abbrev pub arrows_with : List Link → List Arrow → List Untaken → List Arrow
arrows_with links arrows untaken = arrows ++ flat_map (one_untaken links) untaken

-- those that are shown of the arrows of steps, with the messages that nobody got
abbrev pub arrows_in : ImageParts → View → List Deed → List Arrow
arrows_in image view deeds =
    flat_map (arrow_in_view view)
    (arrows_with image.links (arrows_of (scope_in image view) deeds) (untaken_of (16 * length image.links) deeds))
    ++ lost view (pairs (posts_made deeds)) (spots_made deeds) (got_places deeds)

-- all arrows of a record's steps
pub record AreArrows (image : ImageParts) (steps : List Step) (arrows : List Arrow) : Type 0 where
  pub deeds : List Deed
  pub are : AreDeeds image steps (length steps) deeds
  pub all : arrows ≡ arrows_in image (record { from = 0; to = length steps }) deeds

-- the bars that a step ended, and those that none did
pub record AreBars (scope : Scope) (deeds : List Deed) (view : View) (bars : List Bar) : Type 0 where
  pub begun : List (Option Bar)
  pub known : IsTable (scope.ranks * scope.harts) (begun_of scope.harts deeds) begun
  pub are : bars ≡ flat_map (bar_in_view view) (bars_of scope deeds ++ flat_map (open_to (length deeds)) begun)

-- of the steps of a run, of which those in the view are shown
pub record IsDrawing (image : ImageParts) (steps : List Step) (view : View) (drawing : Drawing) : Type 0 where
  pub deeds : List Deed
  pub are : AreDeeds image steps (length steps) deeds
  pub ranks : drawing.ranks ≡ image.ranks
  pub harts : drawing.harts ≡ image.harts
  pub from : drawing.from ≡ view.from
  pub to : drawing.to ≡ view.to
  pub marks : map sign_of drawing.marks.items ≡ marks_of (scope_in image view) deeds
  pub tips : All (IsTipOf image steps) (map told_by drawing.marks.items)
  pub arrows : drawing.arrows.items ≡ arrows_in image view deeds
  pub bars : AreBars (scope_in image view) deeds view drawing.bars.items
  pub ending : IsEndAt image steps view.to drawing.rows.items drawing.told.items

-- ---- why there is none

abbrev pub view_of : ℕ → Option ℕ → List Step → View
view_of from to steps = record { from = from; to = unwrap_or to (length steps) }

-- the steps are replayed, all of them and up to the places that are drawn
abbrev pub furthest : View → List Step → ℕ
furthest view steps = max (length steps) (max view.from view.to)

-- more steps have a mark than are drawn
pub record HasTooMany (image : ImageParts) (steps : List Step) (view : View) (count : ℕ) : Type 0 where
  pub deeds : List Deed
  pub are : AreDeeds image steps (length steps) deeds
  pub marks : count ≡ length (marks_of (scope_in image view) deeds)
  pub many : 5000 < count

-- why the steps weren't replayed, or too many marks
abbrev pub DrawFaultHolds : ImageParts → List Step → View → DrawFault → Type 0
DrawFaultHolds image steps view (fault.Replay why) = ReplayFaultHolds image steps (furthest view steps) why
DrawFaultHolds image steps view (fault.TooMany count) =
    (furthest view steps ≤ length steps) × HasTooMany image steps view count
