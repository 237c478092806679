-- Alike ends have one text.
use Rattle.std.specs.Prelude.{ℕ, ◌≡◌, ◌++◌, List, [], Bool, true, false}
use Rattle.std.specs.List.{list_any}
use Rattle.std.proofs.Common.{sym, ap, ◌∙◌}
use Rattle.rv_image_types.specs.Image.{IsImage}
use Rattle.rv_image_types.specs.declared.images.ImageParts.{ImageParts}
use Rattle.cl_state.specs.Rank.{Rank}
use Rattle.cl_machine.specs.Cluster.{Cluster}
use Rattle.cl_explore.specs.Ends.{AreAlikeEnds}
use Rattle.cl_replay.specs.States.{ClusterStandsFor}
use Rattle.cl_replay.specs.declared.states.ClusterState.{ClusterState}
use Rattle.rvmc_explore.specs.Ends.{IsEndText, IsWaitText, any_waits, end_ranks_text, one_waits}
use Rattle.rvmc_explore.specs.OneList.{lines_from, rank_lines, some_waits}
use Rattle.rvmc_explore.proofs.EndTexts.{lines_alike, lines_of_states, waits_alike, waits_of_states}
use Rattle.rvmc_text_laws.specs.Laws.{AreAlikeStates}
use Rattle.rvmc_text_laws.specs.OneText.{EndTextLaw}
use Rattle.rvmc_text_laws.proofs.Why.{why_law}

module _ (order : List ℕ) (image : ImageParts) (s t : ClusterState) (alike : AreAlikeStates image s t) where
  ends : AreAlikeEnds alike.one alike.other
  ends = (alike.wild, alike.alike)

  lines_over : (state : ClusterState) (cluster : Cluster) → ClusterStandsFor image state cluster
      → end_ranks_text order state.ranks.items ≡ rank_lines order cluster
  lines_over state cluster stands =
      lines_of_states order 0 state.ranks.items ∙ ap (lines_from order 0) (sym stands.ranks_are)

  waits_over : (state : ClusterState) (cluster : Cluster) → ClusterStandsFor image state cluster
      → any_waits order state.ranks.items ≡ some_waits order cluster
  waits_over state cluster stands =
      waits_of_states order state.ranks.items
      ∙ ap (list_any (λ (rank : Rank). one_waits order rank.harts)) (sym stands.ranks_are)

  waiting_same : IsImage image → (b c : Bool) → b ≡ c → (x y : List ℕ) → IsWaitText b image s x → IsWaitText c image t y
      → x ≡ y
  waiting_same right true true same x y one other = why_law false image s t x y right alike one other
  waiting_same right false false same x y one other = one ∙ sym other
  waiting_same right true false same x y one other = absurd (cc)
  waiting_same right false true same x y one other = absurd (cc)

  end_text_same : IsImage image → (x y : List ℕ) → IsEndText order image s [] x → IsEndText order image t [] y → x ≡ y
  end_text_same right x y one other =
      let lines =
      lines_over s alike.one (alike.first).stands ∙ sym (lines_alike order alike.one alike.other ends)
      ∙ sym (lines_over t alike.other (alike.second).stands) in
      let waits =
      waits_over s alike.one (alike.first).stands ∙ sym (waits_alike order alike.one alike.other ends)
      ∙ sym (waits_over t alike.other (alike.second).stands) in
      let waiting = waiting_same right (any_waits order s.ranks.items) (any_waits order t.ranks.items) waits one.waiting
      other.waiting one.told other.told in
      one.spelled ∙ (λ i. lines i ++ waiting i) ∙ sym other.spelled

pub end_text_law : EndTextLaw
end_text_law order image a b x y right alike one other = end_text_same order image a b alike right x y one other
