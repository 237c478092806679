-- Verdicts of lists whose last step is known.
use Rattle.std.specs.Prelude.{ℕ, ◌≡◌, ◌↔◌, ◌+◌, ◌++◌, ◌∷◌, [], List, length, max, slice_get, take, Option, None}
use Rattle.std.specs.Prelude.{Some}
use Rattle.std.specs.List.{last_or}
use Rattle.std.proofs.Common.{refl, sym, ap, ◌∙◌, subst, arith, length-append}
use Rattle.std.proofs.lemmas.List.{take_all, take_at}
use Rattle.std.proofs.lemmas.Option.{same_Some, slice_get_within}
use mathlib.Core.Logic.{inl, inr}
use Rattle.rv_image_types.specs.declared.images.ImageParts.{ImageParts}
use Rattle.cl_state.specs.declared.asking.Answer.{Answer}
use Rattle.cl_state.specs.declared.asking.Ask.{Ask}
use Rattle.cl_state.specs.Rank.{Rank}
use Rattle.cl_state.specs.Asked.{asked}
use Rattle.cl_trace.specs.declared.events.Kind.{Kind}
use Rattle.cl_machine.specs.Boxes.{Box, Holds, box_number}
use Rattle.cl_machine.specs.Cluster.{CaseOf, Cluster, IsStep, loaded_cluster, only_told}
use Rattle.cl_machine.specs.Journal.{reply_in}
use Rattle.cl_machine.specs.Laws.{ComesAfter, IsGood}
use Rattle.cl_machine.specs.declared.steps.Step.{Step}
use Rattle.cl_machine.proofs.Verdicts.{step_by_step}
use Rattle.cl_check.specs.declared.checking.Verdict.{Verdict}
use Rattle.cl_check.specs.Checks.{IsOrderedRun, IsVerdict}
use Rattle.cl_check.proofs.Verdicts.{one_verdict}
use Rattle.test_cluster.specs.Checks.{Asks, ComesNext, EndsWith, HasAnotherReply, Idles, MissesFull}
use Rattle.test_cluster.specs.Checks.{TakesAtAnother, TakesNothing}

-- no steps are a run in order
pub nothing_is_good : (image : ImageParts) (steps : List Step) → steps ≡ [] → (found : Verdict)
    → IsVerdict image steps found → found ≡ Verdict.Good
nothing_is_good image steps none found is =
    one_verdict image steps found Verdict.Good is
    (subst (IsOrderedRun image) (sym none) (record { cluster = loaded_cluster image; run = refl; in_order = tt }))

module _ (image : ImageParts) (steps front : List Step) (cluster : Cluster) (e : Step)
    (ends : EndsWith image steps front cluster e) where
  -- with the last step the others stay a run in order just where it is a step from there, and comes next
  with_last : IsGood (loaded_cluster image) (front ++ e ∷ [])
      ↔ (((next : Cluster) × IsStep cluster e next) × ComesNext front e)
  with_last = step_by_step (loaded_cluster image) cluster front e ends.run ends.in_order

  before_last : take (length front) steps ≡ front
  before_last = ap (take (length front)) ends.whole ∙ take_at front (e ∷ []) (length front) refl

  long : length steps ≡ length front + 1
  long = ap length ends.whole ∙ length-append front (e ∷ [])

  pub bad_at_last : ¬ (((next : Cluster) × IsStep cluster e next) × ComesNext front e) → (found : Verdict)
      → IsVerdict image steps found → found ≡ Verdict.BadAt (length front)
  bad_at_last wrong found is = one_verdict image steps found (Verdict.BadAt (length front)) is (
    omega (arith, long),
    subst (IsOrderedRun image) (sym before_last)
        (record { cluster = cluster; run = ends.run; in_order = ends.in_order }),
    λ h.
        let all : take (length front + 1) steps ≡ front ++ e ∷ []
        = take_all (length front + 1) steps (omega (arith, long)) ∙ ends.whole in
        wrong (with_last.0 (subst (IsGood (loaded_cluster image)) all ((h.cluster, h.run), h.in_order))),
  )

  pub no_step : ((next : Cluster) → ¬ IsStep cluster e next) → (found : Verdict) → IsVerdict image steps found
      → found ≡ Verdict.BadAt (length front)
  no_step nowhere = bad_at_last (λ h. nowhere h.0.0 h.0.1)

  pub too_early : ¬ ComesNext front e → (found : Verdict) → IsVerdict image steps found
      → found ≡ Verdict.BadAt (length front)
  too_early early = bad_at_last (λ h. early h.1)

  pub good_with_last : (next : Cluster) → IsStep cluster e next → ComesNext front e → (found : Verdict)
      → IsVerdict image steps found → found ≡ Verdict.Good
  good_with_last next step comes found is =
      let good = with_last.1 ((next, step), comes) in
      one_verdict image steps found Verdict.Good is (subst (IsOrderedRun image) (sym ends.whole) (record {
        cluster = good.0.0;
        run = good.0.1;
        in_order = good.1;
      }))

-- ---- steps that the machine hasn't

module _ (cluster : Cluster) (e : Step) (rank : Rank) (there : slice_get cluster.ranks e.rank ≡ Some rank) where
  -- a hart looks at one box
  pub looked : (link part l p : ℕ) (looks : Asks cluster e (Ask.Look link part)) → asked rank e.hart ≡ Ask.Look l p
      → (looks.rank ≡ rank) × (box_number link part ≡ box_number l p)
  looked link part l p looks asks =
      let same : looks.rank ≡ rank = same_Some looks.rank rank (sym looks.there ∙ there) in
      let ask : Ask.Look link part ≡ Ask.Look l p = sym looks.asks ∙ ap (λ r. asked r e.hart) same ∙ asks in
      let at_link : link ≡ l = (cc) in
      let at_part : part ≡ p = (cc) in
      (same, (cc))

  -- in which one thing stands
  boxed : (a b : ℕ) (one other : Box) → a ≡ b → slice_get cluster.boxes a ≡ Some one
      → slice_get cluster.boxes b ≡ Some other → one ≡ other
  boxed a b one other same at_one at_other =
      same_Some one other (sym at_one ∙ ap (slice_get cluster.boxes) same ∙ at_other)

module _ (cluster : Cluster) (e : Step) where
  pub takes_nothing : TakesNothing cluster e → (next : Cluster) → ¬ IsStep cluster e next
  takes_nothing t next step =
      let case : CaseOf cluster e step.0 Kind.Take next = subst (λ k. CaseOf cluster e step.0 k next) t.takes step.4 in
      let look = looked cluster e step.0 step.1 t.link t.part case.0 case.1 t.looks case.4 in
      let box : t.box ≡ case.3 = boxed cluster e step.0 step.1 _ _ t.box case.3 look.1 t.there case.5 in
      let held : Holds t.box case.2 = subst (λ b. Holds b case.2) (sym box) case.6 in
      let within = slice_get_within t.box.made t.box.taken _ held in
      absurd (omega (arith, within, t.empty))

  pub takes_at_another : TakesAtAnother cluster e → (next : Cluster) → ¬ IsStep cluster e next
  takes_at_another t next step =
      let case : CaseOf cluster e step.0 Kind.Take next = subst (λ k. CaseOf cluster e step.0 k next) t.takes step.4 in
      let look = looked cluster e step.0 step.1 t.link t.part case.0 case.1 t.looks case.4 in
      let box : t.box ≡ case.3 = boxed cluster e step.0 step.1 _ _ t.box case.3 look.1 t.there case.5 in
      t.other (case.7 ∙ sym (ap (λ (r : Rank). max r.clock case.3.stamp + 1) look.0)
      ∙ sym (ap (λ (b : Box). max t.looks.rank.clock b.stamp + 1) box))

  pub has_another_reply : HasAnotherReply cluster e → (next : Cluster) → ¬ IsStep cluster e next
  has_another_reply t next step =
      let case : CaseOf cluster e step.0 (Kind.Hub t.reply) next
      = subst (λ k. CaseOf cluster e step.0 k next) t.calls step.4 in
      let same : t.asks.rank ≡ step.0 = same_Some t.asks.rank step.0 (sym t.asks.there ∙ step.1) in
      let ask : Ask.Hub t.request ≡ Ask.Hub case.0
      = sym t.asks.asks ∙ ap (λ r. asked r e.hart) same ∙ case.1 in
      let request : t.request ≡ case.0 = (cc) in
      t.other (case.2 ∙ sym (ap (reply_in cluster.journal e.rank) request))

  -- ---- steps that it has

  pub idles : (i : Idles cluster e) → (next : Cluster) × IsStep cluster e next
  idles i =
      let s = i.stopped in
      let next = only_told cluster e s.rank Answer.Alone in
      let case : CaseOf cluster e s.rank Kind.Idle next = (s.asks, s.next, refl) in
      (next, (s.rank, s.there, s.hart, s.below, subst (λ k. CaseOf cluster e s.rank k next) (sym i.idle) case))

  pub misses_full : (m : MissesFull cluster e) → (next : Cluster) × IsStep cluster e next
  misses_full m =
      let s = m.looks in
      let next = only_told cluster e s.rank Answer.Missed in
      let case : CaseOf cluster e s.rank Kind.Miss next = (m.link, m.part, inl s.asks, s.next, refl) in
      (next, (s.rank, s.there, s.hart, s.below, subst (λ k. CaseOf cluster e s.rank k next) (sym m.misses) case))

-- ---- a step of the same rank and stamp doesn't come next

last-push : (o : Option Step) (es : List Step) (e : Step) → last_or o (es ++ e ∷ []) ≡ Some e
last-push o [] e = refl
last-push o (x ∷ es) e = last-push (Some x) es e

pub not_twice : (front : List Step) (one two : Step) → two.stamp ≡ one.stamp → two.rank ≡ one.rank
    → ¬ ComesNext (front ++ one ∷ []) two
not_twice front one two stamp rank comes =
    let before : ComesAfter (Some one) two = subst (λ o. ComesAfter o two) (last-push None front one) comes in
    elim before [
      | inl less ↦ absurd (omega (arith, less, stamp))
      | inr same ↦ absurd (omega (arith, same.1, rank))
    ]
