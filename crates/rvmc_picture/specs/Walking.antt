-- How the steps of a record are walked through, one after another.
use Rattle.std.specs.Prelude.{ℕ, ◌≡◌, ◌<◌, ◌≤◌, ◌+◌, List, [], ◌∷◌, ◌++◌, length, map, slice_get, Option, Some, None}
use Rattle.std.specs.List.{All, flat_map}
use Rattle.rv_image_types.specs.declared.images.ImageParts.{ImageParts}
use Rattle.rv_image_types.specs.declared.images.Link.{Link}
use Rattle.rv_image_types.specs.declared.images.Symbol.{Symbol}
use Rattle.cl_machine.specs.declared.steps.Step.{Step}
use Rattle.cl_replay.specs.Replaying.{IsReached}
use Rattle.cl_replay.specs.declared.states.ClusterState.{ClusterState}
use Rattle.cl_state.specs.Asked.{asked}
use Rattle.cl_state.specs.Rank.{Rank}
use Rattle.cl_state.specs.Room.{rank_of}
use Rattle.cl_state.specs.declared.state.RankState.{RankState}
use Rattle.rvmc_draw.specs.Board.{lost}
use Rattle.rvmc_draw.specs.Held.{IsWalked, tips_taken}
use Rattle.rvmc_draw.specs.Looks.{open_to}
use Rattle.rvmc_draw.specs.Marks.{told_by}
use Rattle.rvmc_draw.specs.Views.{arrow_in_view, bar_in_view}
use Rattle.rvmc_draw.specs.Walks.{Scope}
use Rattle.rvmc_draw.specs.declared.board.Board.{Board}
use Rattle.rvmc_draw.specs.declared.deeds.Deed.{Deed}
use Rattle.rvmc_draw.specs.declared.drawing.Arrow.{Arrow}
use Rattle.rvmc_draw.specs.declared.drawing.Drawing.{Drawing}
use Rattle.rvmc_draw.specs.declared.drawing.Row.{Row}
use Rattle.rvmc_draw.specs.declared.parts.Untaken.{Untaken}
use Rattle.rvmc_draw.specs.declared.views.View.{View}
use Rattle.rvmc_draw.specs.declared.walks.Walk.{Walk}
use Rattle.rvmc_sights.specs.Lines.{hart_of, sight_of, sight_text}
use Rattle.rvmc_sights.specs.Seen.{IsSeenBefore}
use Rattle.rvmc_picture.specs.Deeds.{IsDeedBy, ask_met}
use Rattle.rvmc_picture.specs.Pictures.{AreDeeds, IsEndAt, IsTipOf, arrows_with, scope_in}
use Rattle.rvmc_picture.specs.declared.walking.Before.{Before}

-- what is known of a step before it is done; nothing is only where the rank hasn't the step's hart
abbrev pub IsBefore : Step → Rank → Option Before → Type 0
IsBefore e rank None = length rank.harts ≤ e.hart
IsBefore e rank (Some b) = IsSeenBefore e rank (Some b.seen) × (b.ask ≡ ask_met e.kind (asked rank e.hart))

abbrev pub IsLookedAt : ClusterState → Step → Option Before → Type 0
IsLookedAt state e before =
    (s : RankState) → slice_get state.ranks.items e.rank ≡ Some s → IsBefore e (rank_of s) before

-- a step was added whose rank was so before it and so after it
pub record IsPutAt (symbols : List Symbol) (place : ℕ) (e : Step) (before after : Rank) (old new : Walk) : Type 0 where
  pub deed : Deed
  pub is : IsDeedBy place e (ask_met e.kind (asked before e.hart)) (hart_of e before) (hart_of e after)
      (length old.board.lines.items + 1) deed
  pub walked : (scope : Scope) (deeds : List Deed) → IsWalked scope deeds old → IsWalked scope (deeds ++ deed ∷ []) new
  pub tips : map told_by new.marks.kept.items
      ≡ map told_by old.marks.kept.items ++ tips_taken old deed (sight_text symbols (sight_of place e before after))

-- whatever its rank was before and after it
abbrev pub Puts : List Symbol → ClusterState → ℕ → Step → ClusterState → Walk → Walk → Type 0
Puts symbols old place e new walk after =
    (s t : RankState) → slice_get old.ranks.items e.rank ≡ Some s → slice_get new.ranks.items e.rank ≡ Some t
    → e.hart < length s.harts.items → e.hart < length t.harts.items
    → IsPutAt symbols place e (rank_of s) (rank_of t) walk after

-- the first n steps were added, and the state is the cluster to which they lead
pub record ArePut (image : ImageParts) (steps : List Step) (scope : Scope) (n : ℕ) (state : ClusterState) (walk : Walk)
    : Type 0 where
  pub reached : IsReached image steps n state
  pub deeds : List Deed
  pub are : AreDeeds image steps n deeds
  pub walked : IsWalked scope deeds walk
  pub tips : All (IsTipOf image steps) (map told_by walk.marks.kept.items)

-- all steps were added, and this is told of the state to which those before the view's end lead
pub record IsWalkedTo (image : ImageParts) (steps : List Step) (view : View) (walk : Walk) (rows : List Row)
    (told : List ℕ) : Type 0 where
  pub last : ClusterState
  pub all : ArePut image steps (scope_in image view) (length steps) last walk
  pub ending : IsEndAt image steps view.to rows told

-- the arrows that are shown of what a board and the boxes hold
abbrev pub shown_arrows : List Link → View → Board → List Untaken → List Arrow → List Arrow
shown_arrows links view board untaken arrows =
    flat_map (arrow_in_view view) (arrows_with links arrows untaken)
    ++ lost view board.lines.items board.spots.items board.got.items

-- what is shown of a walk through all steps, of whose end this is told
pub record IsDrawn (image : ImageParts) (view : View) (end : ℕ) (walk : Walk) (rows : List Row) (told : List ℕ)
    (drawing : Drawing) : Type 0 where
  pub ranks : drawing.ranks ≡ image.ranks
  pub harts : drawing.harts ≡ image.harts
  pub from : drawing.from ≡ view.from
  pub to : drawing.to ≡ view.to
  pub marks : drawing.marks.items ≡ walk.marks.kept.items
  pub arrows : drawing.arrows.items
      ≡ shown_arrows image.links view walk.board walk.parts.untaken.items walk.arrows.items
  pub bars : drawing.bars.items
      ≡ flat_map (bar_in_view view) (walk.bars.items ++ flat_map (open_to end) walk.looks.begun.items)
  pub rows_are : drawing.rows.items ≡ rows
  pub told_is : drawing.told.items ≡ told
