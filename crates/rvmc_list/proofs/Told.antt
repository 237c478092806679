-- Steps that are told one after another.
use Rattle.std.specs.Prelude.{ℕ, ◌+◌, ◌-◌, ◌<◌, ◌≤◌, ◌≡◌, List, [], ◌∷◌, ◌++◌, length, slice_get, take}
use Rattle.std.specs.Prelude.{Option, Some, None, false}
use Rattle.std.proofs.Common.{refl, sym, ap, ◌∙◌, subst, add-one, append_assoc, append-nil, arith}
use Rattle.std.proofs.lemmas.List.{length-append}
use Rattle.std.proofs.lemmas.Option.{same_Some}
use Rattle.rv_image_types.specs.declared.images.ImageParts.{ImageParts}
use Rattle.cl_machine.proofs.Tables.{run_more}
use Rattle.cl_machine.specs.Cluster.{IsRun, loaded_cluster}
use Rattle.cl_machine.specs.declared.steps.Step.{Step}
use Rattle.cl_replay.proofs.Runs.{holds_further, take_next}
use Rattle.cl_replay.specs.InnerReplaying.{ReplayFaultHolds}
use Rattle.cl_replay.specs.Replaying.{IsReached}
use Rattle.cl_replay.specs.Steps.{Leads}
use Rattle.cl_replay.specs.declared.replaying.ReplayFault.{ReplayFault}
use Rattle.cl_replay.specs.declared.states.ClusterState.{ClusterState}
use Rattle.cl_state.specs.Asked.{asked}
use Rattle.cl_state.specs.Rank.{Rank}
use Rattle.cl_state.specs.Room.{rank_of}
use Rattle.rvmc_sights.specs.Lines.{Sight, box_in, sight_of}
use Rattle.rvmc_sights.specs.Sights.{IsSightAt}
use Rattle.rvmc_sights.proofs.Sights.{IsSeen, each_more, seen_at}
use Rattle.rvmc_list.specs.Folding.{is_wanted, scene_line, lines_of, scenes_text}
use Rattle.rvmc_list.specs.List.{AreScenes, AreSights, IsSceneAt, ListFaultHolds, replayed_to, names_no_rank}
use Rattle.rvmc_list.specs.Meeting.{AreOfBoxes, IsCountedTo, IsMet, IsMetBy, behind_box}
use Rattle.rvmc_list.specs.Phases.{Scene}
use Rattle.rvmc_list.specs.Pieces.{behind, closing, opened_by, piece_of}
use Rattle.rvmc_list.specs.Putting.{ArePut, AreTold, IsPut, Puts}
use Rattle.rvmc_list.specs.declared.folding.Wanted.{Wanted}
use Rattle.rvmc_list.specs.declared.phases.Phases.{Phases}
use Rattle.rvmc_list.specs.declared.walk.ListFault.TheVariants as fault
use Rattle.rvmc_list.proofs.Folds.{behind_none, scene_more}
use Rattle.rvmc_list.proofs.BoxCounts.{boxes_more, phase_is_known}

-- one sight more
pub sights_more : (image : ImageParts) (steps : List Step) (from n : ℕ) → from ≤ n → (sights : List Sight)
    → AreSights image steps from n sights → (sight : Sight) → IsSightAt image steps n sight
    → AreSights image steps from (n + 1) (sights ++ sight ∷ [])
sights_more image steps from n forwards sights are sight seen =
    let here : from + length sights ≡ n = (let count = are.count in omega (arith, forwards)) in
    record {
      count = (let count = are.count in omega (arith, forwards, length-append sights (sight ∷ [])));
      each = each_more (λ k x. IsSightAt image steps (from + k) x) sights sight are.each
          (subst (λ k. IsSightAt image steps k sight) (sym here) seen);
    }

-- one scene more
pub scenes_more : (image : ImageParts) (steps : List Step) (from n : ℕ) → from ≤ n → (scenes : List Scene)
    → AreScenes image steps from n scenes → (scene : Scene) → IsSceneAt image steps n scene
    → AreScenes image steps from (n + 1) (scenes ++ scene ∷ [])
scenes_more image steps from n forwards scenes are scene seen =
    let here : from + length scenes ≡ n = (let count = are.count in omega (arith, forwards)) in
    record {
      count = (let count = are.count in omega (arith, forwards, length-append scenes (scene ∷ [])));
      each = each_more (λ k x. IsSceneAt image steps (from + k) x) scenes scene are.each
          (subst (λ k. IsSceneAt image steps k scene) (sym here) seen);
    }

-- one step more, which met a box or none
module _ (image : ImageParts) (steps : List Step) (n : ℕ) (state : ClusterState) (phases : Phases)
    (to : IsCountedTo image steps n state phases) (e : Step) (there : slice_get steps n ≡ Some e)
    (new : ClusterState) (leads : Leads state e new) (phase : Option ℕ) (after : Phases)
    (met : IsMet state e phases phase after) where
  seen : IsSeen image steps n state e new
  seen = seen_at image steps n state to.reached e there new leads

  is_met : IsMetBy e (asked (rank_of seen.s) e.hart) phases phase after
  is_met = met seen.s seen.s_there seen.s_hart

  abbrev scene : Scene
  scene = record { sight = sight_of n e (rank_of seen.s) (rank_of seen.t); phase = phase }

  is_scene : IsSceneAt image steps n scene
  unfolding seen seen_at
  is_scene = record {
    sight = seen.sight;
    phase = is_met.phase_is
        ∙ phase_is_known to.reached.cluster.boxes phases to.phases_are e.kind (asked (rank_of seen.s) e.hart);
  }

  pub counted_more : IsCountedTo image steps (n + 1) new after
  unfolding seen seen_at
  counted_more =
      let led = leads image to.reached.cluster to.reached.stands in
      let rank_is : led.1.0 ≡ rank_of seen.s =
      same_Some led.1.0 (rank_of seen.s) (sym led.1.1 ∙ seen.sight.before_there)
      in
      record {
        reached = record {
          cluster = led.0;
          run = subst (λ es. IsRun (loaded_cluster image) es led.0)
              (sym (ap (λ k. take k steps) (add-one n) ∙ take_next steps n e there))
              (run_more (take n steps) (loaded_cluster image) to.reached.cluster led.0 e to.reached.run led.1);
          stands = led.2;
        };
        phases_are = subst (λ ps. AreOfBoxes led.0.boxes ps) (sym is_met.counted_is)
            (subst (λ (r : Rank). AreOfBoxes led.0.boxes (behind_box e.kind (box_in (asked r e.hart)) phases)) rank_is
            (boxes_more to.reached.cluster e led.0 led.1 phases to.phases_are));
      }

  -- and was put
  module _ (wanted : Wanted) (from : ℕ) (forwards : from ≤ n) (begun : Option ℕ) (old text : List ℕ)
      (put : ArePut image steps wanted from n state phases begun old text)
      (next : Option ℕ) (told : List ℕ) (puts : Puts image.symbols wanted state n phase e new text begun told next) where
    is_put : IsPut wanted begun (scene_line image.symbols wanted scene) e text told next
    is_put = puts seen.s seen.t seen.s_there seen.t_there seen.s_hart seen.t_hart

    text_more : (rest : List Scene)
        → old ++ scenes_text image.symbols wanted ((put.scenes ++ scene ∷ []) ++ rest)
        ≡ told ++ behind next (lines_of image.symbols wanted rest)
    text_more rest =
        let lines = lines_of image.symbols wanted rest in
        let piece = piece_of begun (scene_line image.symbols wanted scene) (is_wanted wanted e) in
        ap (λ scenes. old ++ scenes_text image.symbols wanted scenes) (append_assoc put.scenes (scene ∷ []) rest)
        ∙ put.text (scene ∷ rest)
        ∙ ap (λ more. text ++ more) (scene_more image.symbols wanted begun scene rest)
        ∙ sym (append_assoc text piece (behind (opened_by wanted begun e) lines))
        ∙ ap (λ t. t ++ behind (opened_by wanted begun e) lines) (sym is_put.text)
        ∙ ap (λ o. told ++ behind o lines) (sym is_put.open_is)

    pub put_more : ArePut image steps wanted from (n + 1) new after next old told
    put_more = record {
      counted_to = counted_more;
      scenes = put.scenes ++ scene ∷ [];
      are = scenes_more image steps from n forwards put.scenes put.are scene is_scene;
      text = text_more;
    }

-- before the first step
pub put_none : (image : ImageParts) (steps : List Step) (wanted : Wanted) (from : ℕ) (state : ClusterState)
    (phases : Phases) (text : List ℕ) → IsCountedTo image steps from state phases
    → ArePut image steps wanted from from state phases None text text
put_none image steps wanted from state phases text to = record {
  counted_to = to;
  scenes = [];
  are = record { count = omega arith; each = λ k x at. absurd (cc) };
  text = λ rest. refl;
}

-- behind the last one
pub told_all : (image : ImageParts) (steps : List Step) (wanted : Wanted) (n to : ℕ) (state : ClusterState)
    (phases : Phases) (begun : Option ℕ) (old text after : List ℕ)
    → ArePut image steps wanted wanted.from n state phases begun old text
    → n - wanted.from ≡ to - wanted.from → after ≡ text ++ closing begun → AreTold image steps wanted to old after
told_all image steps wanted n to state phases begun old text after put same closed = record {
  scenes = put.scenes;
  are = record { count = put.are.count ∙ same; each = put.are.each };
  text = closed ∙ ap (λ more. text ++ more) (sym (behind_none begun)) ∙ sym (put.text [])
      ∙ ap (λ scenes. old ++ scenes_text image.symbols wanted scenes) (append-nil put.scenes);
}

-- why the steps before a place weren't all done is why there is no list
pub list_fault : (image : ImageParts) (steps : List Step) (wanted : Wanted) (to : ℕ) → to ≤ replayed_to wanted steps
    → names_no_rank wanted.rank image.ranks ≡ false → replayed_to wanted steps ≤ length steps → (why : ReplayFault)
    → ReplayFaultHolds image steps to why → ListFaultHolds image steps wanted (fault.Replay why)
list_fault image steps wanted to most rank within why h =
    (rank, holds_further image steps to (replayed_to wanted steps) most within why h)
