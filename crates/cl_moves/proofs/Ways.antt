-- One turn more on the way to a node.
use Rattle.std.specs.Prelude.{ℕ, zero, suc, replicate, ◌+◌, ◌≡◌, ◌<◌, ◌≤◌, ◌==◌, List, [], ◌∷◌, ◌++◌, length, slice_get, slice_set, Option, Some}
use Rattle.std.proofs.Common.{refl, sym, ap, ◌∙◌, subst, arith, inl, inr}
use Rattle.std.proofs.lemmas.Bool.{cases_eq, eq-eqb, ne_eqb, cond-true, cond-false}
use Rattle.std.proofs.lemmas.List.{length-append, length-map, length-replicate, length-set}
use Rattle.std.proofs.lemmas.Option.{same_Some, slice_get_within}
use Rattle.rv_image_types.specs.declared.images.ImageParts.{ImageParts}
use Rattle.cl_machine.specs.Cluster.{CaseOf, Cluster, IsStep, loaded_cluster}
use Rattle.cl_machine.specs.declared.steps.Step.{Step}
use Rattle.cl_machine.proofs.Tables.{run_more}
use Rattle.cl_order_laws.specs.Closed.{FollowPlans, Node, Plans, Turns, had_after, one_more}
use Rattle.cl_order_laws.proofs.Each.{was_there}
use Rattle.mp_wait_laws.proofs.Sets.{get-set_other}
use Rattle.cl_trace.specs.declared.events.Kind.{Kind}
use Rattle.cl_state.specs.Rank.{Rank, below, loaded}
use Rattle.cl_state.specs.Room.{rank_of}
use Rattle.rv_image_types.specs.Image.{IsImage}
use Rattle.cl_replay.specs.States.{ClusterStandsFor}
use Rattle.cl_replay.specs.Steps.{Leads, LeadsNowhere}
use Rattle.mp_types.specs.declared.requests.Request.{Request}
use Rattle.mp_hub.specs.Hub.{hub_at_start}
use Rattle.cl_moves.specs.Whole.{Follows, IsAskedBy}
use Rattle.cl_moves.proofs.Following.{whole_follows}
use Rattle.cl_moves.specs.Standing.{HasNoTurn, HaveHad, IsStart, IsWay, Took, node_of}
use Rattle.cl_moves.specs.declared.standing.Standing.{Standing}

pub had_here : (had : Turns) (r : ℕ) → one_more had r r ≡ had r + 1
had_here had r = cond-true (r == r) (had r + 1) (had r) (eq-eqb r r refl)

pub had_other : (had : Turns) (r s : ℕ) → (r ≡ s → ⊥) → one_more had r s ≡ had s
had_other had r s other = cond-false (s == r) (had s + 1) (had s) (ne_eqb s r (λ e. other (sym e)))

-- ---- one step more

follow_more : (plans : Plans) (had : Turns) (es : List Step) (e : Step) → FollowPlans plans had es
    → e.hart ≡ plans e.rank (had_after had es e.rank) → FollowPlans plans had (es ++ e ∷ [])
follow_more plans had [] e follow hart = (hart, tt)
follow_more plans had (x ∷ es) e follow hart = (follow.0, follow_more plans (one_more had x.rank) es e follow.1 hart)

after_more : (had : Turns) (es : List Step) (e : Step) → had_after had (es ++ e ∷ []) ≡ one_more (had_after had es) e.rank
after_more had [] e = refl
after_more had (x ∷ es) e = after_more (one_more had x.rank) es e

pub way_more : (plans : Plans) (start here : Node) (es : List Step) (e : Step) (next : Cluster)
    → IsWay plans start es here → e.hart ≡ plans e.rank (here.had e.rank) → IsStep here.cluster e next
    → IsWay plans start (es ++ e ∷ []) (node_of next (one_more here.had e.rank))
way_more plans start here es e next way hart step = record {
  run = run_more es start.cluster here.cluster next e way.run step;
  follow = follow_more plans start.had es e way.follow (hart ∙ ap (λ (had : Turns). plans e.rank (had e.rank)) way.had);
  had = ap (λ (had : Turns). one_more had e.rank) way.had ∙ sym (after_more start.had es e);
}

-- ---- the turns that were had

had_more : (counts : List ℕ) (had : Turns) (r n : ℕ) → HaveHad counts had → slice_get counts r ≡ Some n
    → HaveHad (slice_set counts r (n + 1)) (one_more had r)
had_more counts had r n have there s m at = elim (cases_eq r s) [
  | inl same ↦
      let here : slice_get (slice_set counts r (n + 1)) r ≡ Some m =
      subst (λ k. slice_get (slice_set counts r (n + 1)) k ≡ Some m) (sym same) at in
      let is : n + 1 ≡ m = (was_there counts r (n + 1) m here).0 in
      subst (λ k. one_more had r k ≡ m) same (had_here had r ∙ ap (λ k. k + 1) (have r n there) ∙ is)
  | inr apart ↦
      had_other had r s apart ∙ have s m (sym (get-set_other counts r s (n + 1) apart) ∙ at)
]

-- as many ranks as before
case_many : (old : Cluster) (e : Step) (rank : Rank) (kind : Kind) (new : Cluster) → CaseOf old e rank kind new
    → length new.ranks ≡ length old.ranks
case_many old e rank Kind.Plain new c = ap (λ (k : Cluster). length k.ranks) c.2 ∙ length-set old.ranks e.rank _
case_many old e rank Kind.Local new c = ap (λ (k : Cluster). length k.ranks) c.2 ∙ length-set old.ranks e.rank _
case_many old e rank Kind.Held new c = ap (λ (k : Cluster). length k.ranks) c.2 ∙ length-set old.ranks e.rank _
case_many old e rank Kind.Idle new c = ap (λ (k : Cluster). length k.ranks) c.2 ∙ length-set old.ranks e.rank _
case_many old e rank (Kind.Hub r) new c = ap (λ (k : Cluster). length k.ranks) c.4 ∙ length-set old.ranks e.rank _
case_many old e rank Kind.Ready new c = ap (λ (k : Cluster). length k.ranks) c.8 ∙ length-set old.ranks e.rank _
case_many old e rank Kind.Take new c = ap (λ (k : Cluster). length k.ranks) c.8 ∙ length-set old.ranks e.rank _
case_many old e rank Kind.Miss new c = ap (λ (k : Cluster). length k.ranks) c.4 ∙ length-set old.ranks e.rank _
case_many old e rank Kind.Freed new c = ap (λ (k : Cluster). length k.ranks) c.7 ∙ length-set old.ranks e.rank _

pub step_many : (old new : Cluster) (e : Step) → IsStep old e new → length new.ranks ≡ length old.ranks
step_many old new e step = case_many old e step.0 e.kind new step.4

-- ---- a standing

pub took : (old new : Standing) (e : Step) (n : ℕ) (q : Option Request) → slice_get old.had.items e.rank ≡ Some n
    → Leads old.cluster e new.cluster → IsAskedBy old.cluster e q → Follows old.whole e.rank q new.whole
    → new.had.items ≡ slice_set old.had.items e.rank (n + 1) → new.steps.items ≡ old.steps.items ++ e ∷ [] → Took old e new
took old new e n q there leads asks follows had steps = λ image plans start here stands way hart.
    let led = leads image here.cluster stands.stands in (
      led.0,
      led.1,
      record {
        stands = led.2;
        whole = whole_follows image old.cluster here.cluster led.0 e q old.whole new.whole stands.stands led.1 asks follows
            stands.whole;
        had = subst (λ counts. HaveHad counts (one_more here.had e.rank)) (sym had)
            (had_more old.had.items here.had e.rank n stands.had there);
        each = ap length had ∙ length-set old.had.items e.rank (n + 1) ∙ stands.each
            ∙ sym (step_many here.cluster led.0 e led.1);
        few = subst (λ n. n < 256) (sym (step_many here.cluster led.0 e led.1)) stands.few;
      },
      subst (λ es. IsWay plans start es (node_of led.0 (one_more here.had e.rank))) (sym steps)
          (way_more plans start here old.steps.items e led.0 way hart led.1),
    )

pub no_turn : (old : Standing) (e : Step) → LeadsNowhere old.cluster e → HasNoTurn old e
no_turn old e nowhere = λ image here next stands step. nowhere image here.cluster next stands.stands step

-- the rank isn't there
pub no_such_rank : (old : Standing) (e : Step) → length old.had.items ≤ e.rank → HasNoTurn old e
no_such_rank old e past = λ image here next stands step.
    let inside = slice_get_within here.cluster.ranks e.rank step.0 step.1 in
    absurd (omega (arith, past, inside, stands.each))

-- ---- the first standing

zeros : (count r n : ℕ) → slice_get (replicate count 0) r ≡ Some n → 0 ≡ n
zeros zero r n at = absurd (cc)
zeros (suc count) zero n at = same_Some 0 n at
zeros (suc count) (suc r) n at = zeros count r n at

below_many : (n : ℕ) → length (below n) ≡ n
below_many zero = refl
below_many (suc n) = length-append (below n) (n ∷ []) ∙ (let same = below_many n in omega (arith, same))

pub starts : (image : ImageParts) (standing : Standing) → IsImage image
    → ClusterStandsFor image standing.cluster (loaded_cluster image) → standing.whole ≡ hub_at_start image.links
    → standing.had.items ≡ replicate (length standing.cluster.ranks.items) 0 → standing.steps.items ≡ []
    → IsStart image standing
starts image standing right stands whole had none =
    let ranks : length (loaded_cluster image).ranks ≡ length standing.cluster.ranks.items =
    ap (λ (rs : List Rank). length rs) stands.ranks_are ∙ length-map standing.cluster.ranks.items rank_of in
    let many : length (loaded_cluster image).ranks ≡ image.ranks =
    length-map (below image.ranks) (loaded image) ∙ below_many image.ranks in
    record {
      stands = record {
        stands = stands;
        whole = whole;
        had = λ r n at. zeros (length standing.cluster.ranks.items) r n
            (subst (λ xs. slice_get xs r ≡ Some n) had at);
        each = ap length had ∙ length-replicate (length standing.cluster.ranks.items) 0 ∙ sym ranks;
        few = let limit = right.few_ranks in omega (arith, many, limit);
      };
      steps = none;
    }
