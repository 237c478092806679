-- A step that was done is put.
use Rattle.std.specs.Prelude.{ℕ, ◌≡◌, true, cond, List, [], ◌++◌, Option, Some}
use Rattle.std.proofs.Common.{sym, ap, ◌∙◌}
use Rattle.rv_image_types.specs.declared.images.Symbol.{Symbol}
use Rattle.cl_machine.specs.declared.steps.Step.{Step}
use Rattle.cl_replay.specs.declared.states.ClusterState.{ClusterState}
use Rattle.cl_state.specs.Room.{rank_of}
use Rattle.rvmc_sights.specs.Lines.{Sight, sight_of}
use Rattle.rvmc_sights.specs.Seen.{seen}
use Rattle.rvmc_list.specs.Folding.{is_wanted, scene_line}
use Rattle.rvmc_list.specs.Phases.{Scene}
use Rattle.rvmc_list.specs.Pieces.{is_folded, opened, piece}
use Rattle.rvmc_list.specs.Putting.{IsDone, Puts}
use Rattle.rvmc_list.specs.declared.folding.Wanted.{Wanted}
use Rattle.rvmc_list.specs.declared.walk.Done.{Done}

pub put_done : (symbols : List Symbol) (wanted : Wanted) (old : ClusterState) (place : ℕ) (phase : Option ℕ) (e : Step)
    (new : ClusterState) (text : List ℕ) (begun : Option ℕ) (after : List ℕ) (next : Option ℕ) (done : Done)
    → IsDone old e new (Some done) → is_wanted wanted e ≡ true
    → after ≡ text ++ piece begun (is_folded wanted e)
    (scene_line symbols wanted (record { sight = seen place e done.before done.after; phase = phase })).text
    → next ≡ opened begun (is_folded wanted e) → Puts symbols wanted old place phase e new text begun after next
put_done symbols wanted old place phase e new text begun after next done is_done told text_is next_is s t s_there t_there s_hart t_hart =
    let same = is_done s t s_there t_there s_hart t_hart place in
    let scene : Scene = record { sight = sight_of place e (rank_of s) (rank_of t); phase = phase } in
    record {
      text = text_is
          ∙ ap (λ (x : Sight). text ++ piece begun (is_folded wanted e)
          (scene_line symbols wanted (record { sight = x; phase = phase })).text) same
          ∙ ap (λ b. text ++ cond b (piece begun (is_folded wanted e) (scene_line symbols wanted scene).text) []) (sym told);
      open_is = next_is ∙ ap (λ b. cond b (opened begun (is_folded wanted e)) begun) (sym told);
    }
