-- Ranks that take no turn stay as they are.
use Rattle.std.specs.Prelude.{ℕ, ◌+◌, ◌<◌, ◌≤◌, ◌≡◌, List, [], ◌∷◌, length, map, option_map, slice_get, slice_set, Some}
use Rattle.std.proofs.Common.{sym, ap, ◌∙◌, subst, arith, inl, inr}
use Rattle.std.proofs.lemmas.Bool.{cases_eq}
use Rattle.std.proofs.lemmas.List.{length-map, length-set}
use Rattle.std.proofs.lemmas.Option.{slice_get-map, slice_get_within}
use Rattle.rv_image_types.specs.declared.images.ImageParts.{ImageParts}
use Rattle.cl_state.specs.Rank.{Rank}
use Rattle.cl_state.specs.Room.{rank_of}
use Rattle.cl_state.specs.Told.{told}
use Rattle.cl_state.specs.declared.asking.Answer.{Answer}
use Rattle.cl_trace.specs.declared.events.Kind.{Kind}
use Rattle.cl_machine.specs.Cluster.{CaseOf, Cluster, IsRun, IsStep}
use Rattle.cl_machine.specs.declared.steps.Step.{Step}
use Rattle.cl_machine.proofs.Lists.{get-set_other, get-set_same}
use Rattle.mp_hub.specs.Hub.{HubView}
use Rattle.cl_replay.specs.Kept.{IsBeside, IsRestored, RanksAt, ranks_at, with_hub}
use Rattle.cl_order_laws.specs.Closed.{Node, Turns, had_after, one_more}
use Rattle.cl_order_laws.proofs.Covered.{had_here, had_other}
use Rattle.cl_moves.specs.Standing.{IsWay, StandsAt, by_order}
use Rattle.cl_moves.specs.declared.standing.Standing.{Standing}
use Rattle.cl_explore.specs.Kept.{AreSameBeside, HaveStayed, IsLiveOf, KeptStandsAt}
use Rattle.cl_explore.specs.declared.kept.KeptNode.{KeptNode}
use Rattle.cl_explore.proofs.Lists.{at_inside, inside_or_past, set_is}

-- ---- in the machine

-- of the ranks a step changes its own alone
ranks_after : (old new : Cluster) (e : Step) (x : Rank) (kind : Kind) → CaseOf old e x kind new
    → (y : Rank) × (new.ranks ≡ slice_set old.ranks e.rank y)
ranks_after old new e x Kind.Plain c = (told x e.hart Answer.Alone e.stamp, ap (λ (k : Cluster). k.ranks) c.2)
ranks_after old new e x Kind.Local c = (told x e.hart Answer.Alone e.stamp, ap (λ (k : Cluster). k.ranks) c.2)
ranks_after old new e x (Kind.Hub reply) c =
    (told x e.hart (Answer.Reply reply) e.stamp, ap (λ (k : Cluster). k.ranks) c.4)
ranks_after old new e x Kind.Ready c = (told x e.hart Answer.Alone e.stamp, ap (λ (k : Cluster). k.ranks) c.8)
ranks_after old new e x Kind.Take c = (told x e.hart (Answer.Taken c.2) e.stamp, ap (λ (k : Cluster). k.ranks) c.8)
ranks_after old new e x Kind.Miss c = (told x e.hart Answer.Missed e.stamp, ap (λ (k : Cluster). k.ranks) c.4)
ranks_after old new e x Kind.Freed c = (told x e.hart Answer.Freed e.stamp, ap (λ (k : Cluster). k.ranks) c.7)
ranks_after old new e x Kind.Held c = (told x e.hart Answer.Alone e.stamp, ap (λ (k : Cluster). k.ranks) c.2)
ranks_after old new e x Kind.Idle c = (told x e.hart Answer.Alone e.stamp, ap (λ (k : Cluster). k.ranks) c.2)

step_stays : (old new : Cluster) (e : Step) (r : ℕ) → IsStep old e new → (e.rank ≡ r → ⊥)
    → slice_get new.ranks r ≡ slice_get old.ranks r
step_stays old new e r step other =
    let after = ranks_after old new e step.0 e.kind step.4 in
    ap (λ (rs : List Rank). slice_get rs r) after.1 ∙ get-set_other old.ranks e.rank r after.0 other

-- no turn is taken back
had_grows : (had : Turns) (es : List Step) (r : ℕ) → had r ≤ had_after had es r
had_grows had [] r = omega (arith)
had_grows had (e ∷ es) r = let more = had_grows (one_more had e.rank) es r in elim (cases_eq e.rank r) [
  | inl same ↦
      let one : one_more had e.rank r ≡ had r + 1 = subst (λ k. one_more had e.rank k ≡ had k + 1) same (had_here had e.rank) in
      omega (arith, more, one)
  | inr other ↦ let one = had_other had e.rank r other in omega (arith, more, one)
]

-- a rank that has had as many turns as before is as it was
run_stays : (es : List Step) (old new : Cluster) (had : Turns) (r : ℕ) → IsRun old es new → had_after had es r ≡ had r
    → slice_get new.ranks r ≡ slice_get old.ranks r
run_stays [] old new had r run same = ap (λ (c : Cluster). slice_get c.ranks r) run
run_stays (e ∷ es) old new had r run same = elim (cases_eq e.rank r) [
  | inl own ↦
      let one : one_more had e.rank r ≡ had r + 1 = subst (λ k. one_more had e.rank k ≡ had k + 1) own (had_here had e.rank) in
      let more = had_grows (one_more had e.rank) es r in absurd (omega (arith, one, more, same))
  | inr other ↦
      run_stays es run.0 new (one_more had e.rank) r run.2 (same ∙ sym (had_other had e.rank r other))
      ∙ step_stays old run.0 e r run.1 other
]

-- ---- in a search

pub have_stayed : (image : ImageParts) (order : List ℕ) (k : KeptNode) (standing : Standing) (before here : Node)
    → KeptStandsAt image k before → StandsAt image standing here
    → IsWay (by_order order) before standing.steps.items here → HaveStayed k standing
have_stayed image order k standing before here kept at way = record {
  counted = kept.each ∙ ap (λ (rs : List Rank). length rs) kept.ranks_are;
  many =
      at.each ∙ (ap (λ (rs : List Rank). length rs) (at.stands).ranks_are
      ∙ length-map standing.cluster.ranks.items rank_of);
  each = λ r n was now.
      let same : had_after before.had standing.steps.items r ≡ before.had r =
      ap (λ (had : Turns). had r) (sym way.had) ∙ (at.had r n now ∙ sym (kept.had r n was)) in
      let stays = run_stays standing.steps.items before.cluster here.cluster before.had r way.run same in
      ap (λ (rs : List Rank). slice_get rs r) (sym kept.ranks_are)
      ∙ (sym stays ∙ ap (λ (rs : List Rank). slice_get rs r) (at.stands).ranks_are);
}

module _ (k : KeptNode) (standing : Standing) (rank : ℕ) (beside : AreSameBeside standing.had.items k.had.items rank)
    (stayed : HaveStayed k standing) where
  -- all ranks but this one are as they were kept
  others_are : (r : ℕ) → (r ≡ rank → ⊥)
      → slice_get k.cluster.ranks r ≡ slice_get (map rank_of standing.cluster.ranks.items) r
  others_are r other =
      inside_or_past k.had.items k.cluster.ranks (map rank_of standing.cluster.ranks.items) r (sym stayed.counted)
      (length-map standing.cluster.ranks.items rank_of ∙ (sym stayed.many ∙ beside.many))
      (λ n at. stayed.each r n at (beside.each r other ∙ at))

  pub kept_beside : (kept : RanksAt) → rank < length standing.cluster.ranks.items → rank < length k.cluster.ranks
      → IsBeside standing.cluster k.cluster.ranks rank kept → kept ≡ ranks_at standing.cluster
  kept_beside kept here there is =
      let own = at_inside standing.cluster.ranks.items rank here in
      let mine : slice_get (map rank_of standing.cluster.ranks.items) rank ≡ Some (rank_of own.0) =
      slice_get-map rank_of standing.cluster.ranks.items rank ∙ ap (option_map rank_of) own.1 in
      let ranks : kept.ranks ≡ map rank_of standing.cluster.ranks.items =
      is.ranks own.0 own.1
      ∙ set_is k.cluster.ranks (map rank_of standing.cluster.ranks.items) rank (rank_of own.0) there others_are mine in
      λ i. record { ranks = ranks i; clock = is.clock i; boxes = is.boxes i }

  pub is_restored : (new : Standing) (hub : HubView) → rank < length standing.cluster.ranks.items
      → rank < length k.cluster.ranks → hub ≡ k.whole
      → IsRestored (with_hub k.cluster hub) standing.cluster rank new.cluster → new.whole ≡ k.whole → new.had.items ≡ k.had.items
      → new.steps.items ≡ [] → IsLiveOf k new
  is_restored new hub here there same is whole had steps =
      let own = at_inside k.cluster.ranks rank there in
      let mine : rank < length (map rank_of standing.cluster.ranks.items) =
      subst (λ c. rank < c) (sym (length-map standing.cluster.ranks.items rank_of)) here in
      let ranks : map rank_of new.cluster.ranks.items ≡ k.cluster.ranks =
      is.ranks own.0 own.1
      ∙ set_is (map rank_of standing.cluster.ranks.items) k.cluster.ranks rank own.0 mine
      (λ r other. sym (others_are r other)) own.1 in
      record {
        cluster = λ i. record { ranks = ranks i; hub = (is.hub ∙ same) i; clock = is.clock i; boxes = is.boxes i };
        whole = whole;
        had = had;
        steps = steps;
      }

-- ---- one rank is brought back

module _ (k : KeptNode) (old new : Standing) (hub : HubView) (rank n : ℕ) (at : slice_get k.had.items rank ≡ Some n)
    (is : IsRestored (with_hub k.cluster hub) old.cluster rank new.cluster) (had : new.had.items ≡ slice_set old.had.items rank n)
    (stayed : HaveStayed k old) where
  abbrev before : List Rank
  before = map rank_of old.cluster.ranks.items

  abbrev after : List Rank
  after = map rank_of new.cluster.ranks.items

  own : (x : Rank) × (slice_get k.cluster.ranks rank ≡ Some x)
  own = at_inside k.cluster.ranks rank (subst (λ c. rank < c) stayed.counted (slice_get_within k.had.items rank n at))

  ranks : after ≡ slice_set before rank own.0
  ranks = is.ranks own.0 own.1

  many : length new.had.items ≡ length new.cluster.ranks.items
  many =
      ap length had
      ∙ (length-set old.had.items rank n
      ∙ (stayed.many
      ∙ (sym (length-map old.cluster.ranks.items rank_of)
      ∙ (sym (ap length ranks ∙ length-set before rank own.0) ∙ length-map new.cluster.ranks.items rank_of))))

  pub brought_back : rank < length old.cluster.ranks.items → HaveStayed k new
  brought_back inside = record {
    counted = stayed.counted;
    many = many;
    each = λ r m was now. elim (cases_eq rank r) [
      | inl same ↦
          let was_rank = at_inside before rank
          (subst (λ c. rank < c) (sym (length-map old.cluster.ranks.items rank_of)) inside) in
          subst (λ i. slice_get k.cluster.ranks i ≡ slice_get after i) same
          (own.1
          ∙ sym (ap (λ (rs : List Rank). slice_get rs rank) ranks
          ∙ get-set_same before rank was_rank.0 own.0 was_rank.1))
      | inr other ↦
          stayed.each r m was
          (sym (get-set_other old.had.items rank r n other) ∙ (ap (λ hs. slice_get hs r) (sym had) ∙ now))
          ∙ sym (ap (λ (rs : List Rank). slice_get rs r) ranks ∙ get-set_other before rank r own.0 other)
    ];
  }
