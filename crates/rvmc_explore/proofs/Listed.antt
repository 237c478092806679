-- Outcomes, one behind another.
use Rattle.std.specs.Prelude.{ℕ, zero, suc, ◌+◌, ◌^◌, ◌<◌, ◌≤◌, ◌≡◌, ◌⊎◌, ◌||◌, List, [], ◌∷◌, ◌++◌, Bool, true, false, cond, drop, length, slice_get, slice_set, Some}
use Rattle.std.specs.Str.{bytes_eq}
use Rattle.std.proofs.Common.{refl, sym, ap, ◌∙◌, subst, arith, drop-cons, inl, inr}
use Rattle.std.proofs.Math.Bool.{or-false}
use Rattle.std.proofs.lemmas.Bool.{cases_eq}
use Rattle.std.proofs.lemmas.List.{append-nil, append_assoc, drop_all, length-append, map-append}
use Rattle.std.proofs.lemmas.List.Recursion.{or_push}
use Rattle.std.proofs.lemmas.List.Sums.{count_by-le-length, sum_by-cons, sum_by_push}
use Rattle.std.proofs.lemmas.Option.{get_or_from_slice_get, same_Some, slice_get_within}
use Rattle.std.proofs.lemmas.Slice.Eq.{bytes_eq-Decides}
use Rattle.rv_image_types.specs.Image.{IsImage}
use Rattle.rv_image_types.specs.declared.images.ImageParts.{ImageParts}
use Rattle.cl_order_laws.specs.Closed.{Node}
use Rattle.cl_moves.specs.Standing.{IsWay, by_order, first_node}
use Rattle.cl_machine.proofs.Lists.{get-set_other, get-set_same}
use Rattle.cl_explore.proofs.Lists.{at_inside, at_last, stays_at, was_or_new}
use Rattle.cl_explore.specs.Covering.{AreNodes}
use Rattle.cl_explore.specs.Diving.{IsEndAt}
use Rattle.cl_explore.specs.Ends.{ExploredFrom, Findings}
use Rattle.cl_explore.specs.declared.companies.Company.{Company}
use Rattle.cl_explore.specs.declared.kept.KeptNode.{KeptNode}
use Rattle.cl_replay.specs.States.{ClusterStandsFor}
use Rattle.rvmc_starts.specs.declared.parts.EndText.{EndText}
use Rattle.rvmc_explore.specs.Ends.{IsEndText}
use Rattle.rvmc_explore.specs.InnerOutcomes.{AddsEnd, AddsOne, AddsStuck, AreHeard, AreToldBeside, AreToldEnds, BeginsWith, HaveRoom, IsOutcomeOf, LeadThere, bodies_told, one_end_more}
use Rattle.rvmc_explore.specs.Outcomes.{AreApart, AreCounted, AreTold, HasBody, IsEndBody, IsEndOutcome, IsHeard, IsNeedOutcome, IsOutcome, IsStuckBody, IsStuckOutcome, TellsStuck, any_need, ends_with}
use Rattle.rvmc_explore.specs.Searched.{AreSound, GoesTo, IsExplored, IsWithin}
use Rattle.rvmc_explore.specs.Starting.{AreEndsTold, IsEndTold}
use Rattle.rvmc_explore.specs.Telling.{AddsOutcome, AddsOutcomes}
use Rattle.rvmc_explore.specs.declared.outcomes.Outcome.{Outcome}
use Rattle.rvmc_explore.proofs.EndTexts.{stands_kept}
use Rattle.rvmc_explore.proofs.Unmarked.{AreWhole, others_run_on, unled}

-- ---- what was found is among the nodes

pub within : (image : ImageParts) (order : List ℕ) (start : Node) (found : Findings) → IsImage image
    → ExploredFrom image order start found → IsWithin found
within image order start found right explored = record {
  ends = λ k i is.
      let end = explored.sound k i is in
      let inside : i < length explored.nodes = slice_get_within explored.nodes i end.0 end.1 in
      omega (arith, inside, explored.are.many);
  companies = λ k company is.
      let one = explored.stuck right k company is in
      let inside : company.node < length explored.nodes = slice_get_within explored.nodes company.node one.0 one.1 in
      omega (arith, inside, explored.are.many);
}

-- ---- one more

-- whether some outcome is of ranks that need buffers doesn't change by one that isn't
pub needs_added : (old new : List Outcome) (added : Outcome) → added.need ≡ false → new ≡ old ++ added ∷ []
    → any_need new ≡ any_need old
needs_added old new added no_need is =
    ap any_need is
    ∙ (or_push any_need (λ o. o.need) refl (λ x xs. refl) old added
    ∙ (ap (λ b. any_need old || b) no_need ∙ or-false (any_need old)))

-- a text is told, and those that were told are, and no more ranks that need buffers
pub record Grows (old new : List Outcome) (body : List ℕ) : Type 0 where
  pub stays : (text : List ℕ) → HasBody old text → HasBody new text
  pub here : HasBody new body
  pub still_apart : AreApart old → AreApart new
  pub begins : (first : List Outcome) → BeginsWith first old → BeginsWith first new
  pub needs : any_need new ≡ any_need old

-- by an outcome behind the others, none of which has its text
module _ (old new : List Outcome) (added : Outcome) (unlike : HasBody old added.body.items → ⊥)
    (is : new ≡ old ++ added ∷ []) where
  pub was_or_added : (k : ℕ) (outcome : Outcome) → slice_get new k ≡ Some outcome
      → (slice_get old k ≡ Some outcome) ⊎ ((k ≡ length old) × (added ≡ outcome))
  was_or_added k outcome at =
      elim (was_or_new old added k outcome (subst (λ os. slice_get os k ≡ Some outcome) is at)) [
        | inl was ↦ inl was
        | inr last ↦ inr (last.0, same_Some added outcome last.1)
      ]

  pub added_apart : AreApart old → AreApart new
  added_apart apart i j one other at there equal = elim (was_or_added i one at) [
    | inl first ↦ elim (was_or_added j other there) [
      | inl second ↦ apart i j one other first second equal
      | inr last ↦ absurd (unlike (i, one, first, equal ∙ ap (λ (o : Outcome). o.body.items) (sym last.1)))
    ]
    | inr last ↦ elim (was_or_added j other there) [
      | inl second ↦ absurd (unlike (j, other, second, sym equal ∙ ap (λ (o : Outcome). o.body.items) (sym last.1)))
      | inr again ↦ last.0 ∙ sym again.0
    ]
  ]

  by_added : added.need ≡ false → Grows old new added.body.items
  by_added no_need = record {
    stays = λ text has. (
      has.0,
      has.1,
      subst (λ os. slice_get os has.0 ≡ Some has.1) (sym is) (stays_at old added has.0 has.1 has.2),
      has.3,
    );
    here = (
      length old,
      added,
      subst (λ os. slice_get os (length old) ≡ Some added) (sym is) (at_last old added),
      refl,
    );
    still_apart = added_apart;
    begins = λ first (more, begun). (
      more ++ added.body.items ∷ [],
      ap bodies_told is ∙ map-append (λ (o : Outcome). o.body.items) old (added ∷ [])
          ∙ ap (λ bs. bs ++ added.body.items ∷ []) begun ∙ append_assoc (bodies_told first) more (added.body.items ∷ []),
    );
    needs = needs_added old new added no_need is;
  }

module _ (kept : List KeptNode) (old new : List Outcome) (node : ℕ) (body : List ℕ) (ends : ℕ)
    (adds : AddsOne kept old node body ends new) where
  unlike_others : HasBody old ((adds.1).0).body.items → ⊥
  unlike_others has = adds.0 (subst (HasBody old) (((adds.1).1).body_is) has)

  -- it was there, or it is this one
  was_one : (k : ℕ) (outcome : Outcome) → slice_get new k ≡ Some outcome
      → (slice_get old k ≡ Some outcome) ⊎ IsOutcomeOf kept node body ends false outcome
  was_one k outcome at = elim (was_or_added old new (adds.1).0 unlike_others (adds.1).2 k outcome at) [
    | inl was ↦ inl was
    | inr last ↦ inr (subst (IsOutcomeOf kept node body ends false) last.1 (adds.1).1)
  ]

  by_one : Grows old new body
  by_one =
      subst (Grows old new) (((adds.1).1).body_is)
      (by_added old new (adds.1).0 unlike_others (adds.1).2 ((adds.1).1).need_is)

-- an outcome that is there was there before, but for how many ends it has
abbrev WasAt : List Outcome → ℕ → Outcome → Type 0
WasAt old k outcome =
    (before : Outcome) × (slice_get old k ≡ Some before) × (before.way ≡ outcome.way)
    × (before.body.items ≡ outcome.body.items) × (before.need ≡ outcome.need)

-- other counts leave the texts as they are
same_bodies : (told : List Outcome) (place : ℕ) (one other : Outcome) → slice_get told place ≡ Some one
    → other.body.items ≡ one.body.items → bodies_told (slice_set told place other) ≡ bodies_told told
same_bodies [] place one other at same = absurd (cc)
same_bodies (x ∷ told) zero one other at same =
    ap (λ b. b ∷ bodies_told told) (same ∙ ap (λ (o : Outcome). o.body.items) (sym (same_Some x one at)))
same_bodies (x ∷ told) (suc place) one other at same =
    ap (λ bs. x.body.items ∷ bs) (same_bodies told place one other at same)

-- nor do they change which of them are of ranks that need buffers
same_needs : (told : List Outcome) (place : ℕ) (one other : Outcome) → slice_get told place ≡ Some one
    → other.need ≡ one.need → any_need (slice_set told place other) ≡ any_need told
same_needs [] place one other at same = absurd (cc)
same_needs (x ∷ told) zero one other at same =
    ap (λ b. b || any_need told) (same ∙ ap (λ (o : Outcome). o.need) (sym (same_Some x one at)))
same_needs (x ∷ told) (suc place) one other at same = ap (λ b. x.need || b) (same_needs told place one other at same)

-- by one end more of the outcome at a place
module _ (old new : List Outcome) (place : ℕ) (one : Outcome) (at_place : slice_get old place ≡ Some one)
    (is : new ≡ slice_set old place (one_end_more one)) where
  counted_at : slice_get new place ≡ Some (one_end_more one)
  counted_at = ap (λ os. slice_get os place) is ∙ get-set_same old place one (one_end_more one) at_place

  others_at : (k : ℕ) → (place ≡ k → ⊥) → slice_get new k ≡ slice_get old k
  others_at k other = ap (λ os. slice_get os k) is ∙ get-set_other old place k (one_end_more one) other

  -- it is the one there, or another that was there
  of_which : (k : ℕ) (outcome : Outcome) → slice_get new k ≡ Some outcome
      → ((place ≡ k) × (one_end_more one ≡ outcome)) ⊎ ((place ≡ k → ⊥) × (slice_get old k ≡ Some outcome))
  of_which k outcome at = elim (cases_eq place k) [
    | inl same ↦
        let there : slice_get new k ≡ Some (one_end_more one) =
        subst (λ n. slice_get new n ≡ Some (one_end_more one)) same counted_at in
        inl (same, same_Some (one_end_more one) outcome (sym there ∙ at))
    | inr other ↦ inr (other, sym (others_at k other) ∙ at)
  ]

  was_there : (k : ℕ) (outcome : Outcome) → slice_get new k ≡ Some outcome → WasAt old k outcome
  was_there k outcome at = elim (of_which k outcome at) [
    | inl here ↦ (
      one,
      subst (λ n. slice_get old n ≡ Some one) here.0 at_place,
      ap (λ (o : Outcome). o.way) here.1,
      ap (λ (o : Outcome). o.body.items) here.1,
      ap (λ (o : Outcome). o.need) here.1,
    )
    | inr other ↦ (outcome, other.1, refl, refl, refl)
  ]

  stays_there : (text : List ℕ) → HasBody old text → HasBody new text
  stays_there text has = elim (cases_eq place has.0) [
    | inl same ↦
        let its : one ≡ has.1 =
        same_Some one has.1 (sym at_place ∙ subst (λ n. slice_get old n ≡ Some has.1) (sym same) has.2) in
        (place, one_end_more one, counted_at, ap (λ (o : Outcome). o.body.items) its ∙ has.3)
    | inr other ↦ (has.0, has.1, others_at has.0 other ∙ has.2, has.3)
  ]

  by_count : (body : List ℕ) → one.body.items ≡ body → Grows old new body
  by_count body same = record {
    stays = stays_there;
    here = (place, one_end_more one, counted_at, same);
    still_apart = λ apart i j this other here there equal.
        let first = was_there i this here in
        let second = was_there j other there in
        apart i j first.0 second.0 first.1 second.1 (first.3 ∙ (equal ∙ sym second.3));
    begins = λ first (more, begun). (
      more,
      ap bodies_told is ∙ same_bodies old place one (one_end_more one) at_place refl ∙ begun,
    );
    needs = ap any_need is ∙ same_needs old place one (one_end_more one) at_place refl;
  }

by_end : (kept : List KeptNode) (old new : List Outcome) (node : ℕ) (body : List ℕ) → AddsEnd kept old node body new
    → Grows old new body
by_end kept old new node body (inl (place, at, counts)) = by_count old new place at.0 at.1 (counts at.0 at.1) body at.2
by_end kept old new node body (inr adds) = by_one kept old new node body 1 adds

was_end : (kept : List KeptNode) (old new : List Outcome) (node : ℕ) (body : List ℕ) → AddsEnd kept old node body new
    → (k : ℕ) (outcome : Outcome) → slice_get new k ≡ Some outcome
    → WasAt old k outcome ⊎ IsOutcomeOf kept node body 1 false outcome
was_end kept old new node body (inl (place, at, counts)) k outcome there =
    inl (was_there old new place at.0 at.1 (counts at.0 at.1) k outcome there)
was_end kept old new node body (inr adds) k outcome there = elim (was_one kept old new node body 1 adds k outcome there) [
  | inl was ↦ inl (outcome, was, refl, refl, refl)
  | inr one ↦ inr one
]

pub by_stuck : (kept : List KeptNode) (old new : List Outcome) (node : ℕ) (body : List ℕ) → AddsStuck kept old node body new
    → Grows old new body
by_stuck kept old new node body (inl same) = record {
  stays = λ text has. subst (λ os. HasBody os text) (sym same.1) has;
  here = subst (λ os. HasBody os body) (sym same.1) same.0;
  still_apart = λ apart. subst AreApart (sym same.1) apart;
  begins = λ first begun. subst (BeginsWith first) (sym same.1) begun;
  needs = ap any_need same.1;
}
by_stuck kept old new node body (inr adds) = by_one kept old new node body 0 adds

pub was_stuck : (kept : List KeptNode) (old new : List Outcome) (node : ℕ) (body : List ℕ) → AddsStuck kept old node body new
    → (k : ℕ) (outcome : Outcome) → slice_get new k ≡ Some outcome
    → (slice_get old k ≡ Some outcome) ⊎ IsOutcomeOf kept node body 0 false outcome
was_stuck kept old new node body (inl same) k outcome at = inl (subst (λ os. slice_get os k ≡ Some outcome) same.1 at)
was_stuck kept old new node body (inr adds) k outcome at = was_one kept old new node body 0 adds k outcome at

-- an end's outcome is one, however many ends it has
of_same_end : (order : List ℕ) (image : ImageParts) (one other : Outcome) → one.way ≡ other.way
    → one.body.items ≡ other.body.items → one.need ≡ other.need → IsEndOutcome order image one
    → IsEndOutcome order image other
of_same_end order image one other way body need is = record {
  node = is.node;
  led = subst (λ es. IsWay (by_order order) (first_node image) es is.node) way is.led;
  end = is.end;
  state = is.state;
  stands = is.stands;
  told = subst (IsEndText order image is.state []) body is.told;
  no_need = sym need ∙ is.no_need;
}

-- and so is that of ranks that need buffers
of_same_need : (order : List ℕ) (image : ImageParts) (one other : Outcome) → one.way ≡ other.way
    → one.body.items ≡ other.body.items → one.need ≡ other.need → IsNeedOutcome order image one
    → IsNeedOutcome order image other
of_same_need order image one other way body need is = record {
  node = is.node;
  led = subst (λ es. IsWay (by_order order) (first_node image) es is.node) way is.led;
  ranks = is.ranks;
  need = is.need;
  state = is.state;
  stands = is.stands;
  told = sym body ∙ is.told;
  of_need = sym need ∙ is.of_need;
}

of_same : (order : List ℕ) (image : ImageParts) (one other : Outcome) → one.way ≡ other.way
    → one.body.items ≡ other.body.items → one.need ≡ other.need → IsHeard order image one → IsHeard order image other
of_same order image one other way body need (inl end) = inl (of_same_end order image one other way body need end)
of_same order image one other way body need (inr needs) = inr (of_same_need order image one other way body need needs)

-- what turns lead to where nobody goes on, and whose text is told there, is one of an end
pub end_outcome : (order : List ℕ) (image : ImageParts) (kept : List KeptNode) (nodes : List Node)
    → AreNodes image order kept nodes → (number : ℕ) → IsEndAt order nodes number → (outcome : Outcome)
    → LeadThere kept number outcome.way → IsEndBody order image kept number outcome.body.items → outcome.need ≡ false
    → IsEndOutcome order image outcome
end_outcome order image kept nodes are number end outcome leads body no_need =
    let it = body.is in
    let v = are.each number it.what it.there in
    let same : v.0 ≡ end.0 = same_Some v.0 end.0 (sym v.1 ∙ end.1) in
    record {
      node = end.0;
      led = leads image order nodes end.0 are end.1;
      end = end.2;
      state = body.state;
      stands = subst (λ (n : Node). ClusterStandsFor image body.state n.cluster) same ((v.2).stands body.state it.same);
      told = body.told;
      no_need = no_need;
    }

-- ---- how many ends have a text

-- 1 if a text is this one
abbrev one_if : List ℕ → List ℕ → ℕ
one_if body text = cond (bytes_eq body text) 1 0

pub with_same : (bodies : List (List ℕ)) (body text : List ℕ) → body ≡ text
    → ends_with (bodies ++ body ∷ []) text ≡ ends_with bodies text + 1
with_same bodies body text same =
    sum_by_push (λ b. one_if b text) bodies body
    ∙ ap (λ b. ends_with bodies text + cond b 1 0) ((bytes_eq-Decides body text).1 same)

not_one : (body text : List ℕ) → (body ≡ text → ⊥) → one_if body text ≡ 0
not_one body text other = of (bytes_eq body text) refl
  where
    of : (b : Bool) → bytes_eq body text ≡ b → one_if body text ≡ 0
    of true is = absurd (other ((bytes_eq-Decides body text).0 is))
    of false is = ap (λ b. cond b 1 0) is

pub with_other : (bodies : List (List ℕ)) (body text : List ℕ) → (body ≡ text → ⊥)
    → ends_with (bodies ++ body ∷ []) text ≡ ends_with bodies text
with_other bodies body text other =
    let more : ends_with (bodies ++ body ∷ []) text ≡ ends_with bodies text + one_if body text =
    sum_by_push (λ b. one_if b text) bodies body in
    let none = not_one body text other in
    omega (arith, more, none)

pub with_none : (bodies : List (List ℕ)) (text : List ℕ)
    → ((k : ℕ) (body : List ℕ) → slice_get bodies k ≡ Some body → body ≡ text → ⊥) → ends_with bodies text ≡ 0
with_none [] text none = refl
with_none (body ∷ bodies) text none =
    let more : ends_with (body ∷ bodies) text ≡ one_if body text + ends_with bodies text =
    sum_by-cons (λ b. one_if b text) body bodies in
    let first = not_one body text (none 0 body refl) in
    let rest = with_none bodies text (λ k b. none (suc k) b) in
    omega (arith, more, first, rest)

-- each outcome has as many ends as there are of these texts that are its own
abbrev AreCountedBy : List (List ℕ) → List Outcome → Type 0
AreCountedBy bodies told =
    (k : ℕ) (outcome : Outcome) → slice_get told k ≡ Some outcome → outcome.ends ≡ ends_with bodies outcome.body.items

abbrev AreThere : List (List ℕ) → List Outcome → Type 0
AreThere bodies told = (k : ℕ) (body : List ℕ) → slice_get bodies k ≡ Some body → HasBody told body

-- an outcome that is new has none of them
none_yet : (bodies : List (List ℕ)) (told : List Outcome) (body text : List ℕ) → AreThere bodies told
    → (HasBody told body → ⊥) → text ≡ body → ends_with bodies text ≡ 0
none_yet bodies told body text there new is =
    with_none bodies text (λ k b at same. new (subst (HasBody told) (same ∙ is) (there k b at)))

counted_end : (kept : List KeptNode) (bodies : List (List ℕ)) (old new : List Outcome) (node : ℕ) (body : List ℕ)
    → AreApart old → AreThere bodies old → AddsEnd kept old node body new → AreCountedBy bodies old
    → AreCountedBy (bodies ++ body ∷ []) new
counted_end kept bodies old new node body apart there (inl (place, at, counts)) each = λ k outcome now.
    elim (of_which old new place at.0 at.1 (counts at.0 at.1) k outcome now) [
      | inl here ↦
          let text : at.0.body.items ≡ outcome.body.items = ap (λ (o : Outcome). o.body.items) here.1 in
          let more : at.0.ends + 1 ≡ outcome.ends = ap (λ (o : Outcome). o.ends) here.1 in
          let were : at.0.ends ≡ ends_with bodies outcome.body.items = each place at.0 at.1 ∙ ap (ends_with bodies) text in
          let sum = with_same bodies body outcome.body.items (sym at.2 ∙ text) in
          omega (arith, more, were, sum)
      | inr other ↦
          each k outcome other.1
          ∙ sym (with_other bodies body outcome.body.items
          (λ same. other.0 (apart place k at.0 outcome at.1 other.1 (at.2 ∙ same))))
    ]
counted_end kept bodies old new node body apart there (inr adds) each = λ k outcome now.
    elim (was_one kept old new node body 1 adds k outcome now) [
      | inl was ↦
          each k outcome was
          ∙ sym (with_other bodies body outcome.body.items (λ same. adds.0 (k, outcome, was, sym same)))
      | inr one ↦
          let none = none_yet bodies old body outcome.body.items there adds.0 one.body_is in
          let sum = with_same bodies body outcome.body.items (sym one.body_is) in
          omega (arith, one.ends_are, none, sum)
    ]

counted_stuck : (kept : List KeptNode) (bodies : List (List ℕ)) (old new : List Outcome) (node : ℕ) (body : List ℕ)
    → AreThere bodies old → AddsStuck kept old node body new → AreCountedBy bodies old → AreCountedBy bodies new
counted_stuck kept bodies old new node body there (inl same) each = subst (AreCountedBy bodies) (sym same.1) each
counted_stuck kept bodies old new node body there (inr adds) each = λ k outcome now.
    elim (was_one kept old new node body 0 adds k outcome now) [
      | inl was ↦ each k outcome was
      | inr one ↦ one.ends_are ∙ sym (none_yet bodies old body outcome.body.items there adds.0 one.body_is)
    ]

-- ---- the ends

-- so far, of the first so many: a text of each
pub record BodiesSoFar (order : List ℕ) (image : ImageParts) (found : Findings) (count : ℕ) (told : List Outcome)
    : Type 0 where
  pub bodies : List (List ℕ)
  pub many : length bodies ≡ count
  pub each : (k node : ℕ) (body : List ℕ) → slice_get found.ends k ≡ Some node → slice_get bodies k ≡ Some body
      → IsEndBody order image found.kept node body
  pub there : AreThere bodies told
  pub counted : AreCountedBy bodies told

pub record EndsSoFar (order : List ℕ) (image : ImageParts) (found : Findings) (heard : List Outcome) (count : ℕ)
    (told : List Outcome) : Type 0 where
  pub each : (k : ℕ) (outcome : Outcome) → slice_get told k ≡ Some outcome → IsHeard order image outcome
  pub apart : AreApart told
  pub texts : BodiesSoFar order image found count told
  pub begins : BeginsWith heard told
  pub needs : any_need told ≡ any_need heard

pub no_ends : (order : List ℕ) (image : ImageParts) (found : Findings) (heard : List Outcome)
    → AreHeard order image heard → EndsSoFar order image found heard 0 heard
no_ends order image found heard are = record {
  each = are.each;
  apart = are.apart;
  texts = record {
    bodies = [];
    many = refl;
    each = λ k node body at text. absurd (cc);
    there = λ k body at. absurd (cc);
    counted = are.uncounted;
  };
  begins = ([], sym (append-nil (bodies_told heard)));
  needs = refl;
}

-- where each has fewer ends than there can be, it may have one more
pub have_room : (order : List ℕ) (image : ImageParts) (found : Findings) (heard : List Outcome) (count : ℕ)
    (told : List Outcome) → count + 1 < 2 ^ 64 → EndsSoFar order image found heard count told → HaveRoom told
have_room order image found heard count told few so_far k outcome at =
    let texts = so_far.texts in
    let its = texts.counted k outcome at in
    let most = count_by-le-length (λ body. bytes_eq body outcome.body.items) texts.bodies in
    omega (arith, few, its, most, texts.many)

texts_more : (order : List ℕ) (image : ImageParts) (found : Findings) (count node : ℕ) (body : List ℕ)
    (old new : List Outcome) → slice_get found.ends count ≡ Some node → IsEndBody order image found.kept node body
    → AddsEnd found.kept old node body new → AreApart old → BodiesSoFar order image found count old
    → BodiesSoFar order image found (count + 1) new
texts_more order image found count node body old new at is adds apart so_far =
    let grows = by_end found.kept old new node body adds in
    record {
      bodies = so_far.bodies ++ body ∷ [];
      many = length-append so_far.bodies (body ∷ []) ∙ ap (λ n. n + 1) so_far.many;
      each = λ k n text here there. elim (was_or_new so_far.bodies body k text there) [
        | inl was ↦ so_far.each k n text here was
        | inr last ↦
            let place : k ≡ count = last.0 ∙ so_far.many in
            let its : node ≡ n = same_Some node n (sym at ∙ subst (λ j. slice_get found.ends j ≡ Some n) place here) in
            subst (λ m. IsEndBody order image found.kept m text) its
            (subst (IsEndBody order image found.kept node) (same_Some body text last.1) is)
      ];
      there = λ k text has. elim (was_or_new so_far.bodies body k text has) [
        | inl was ↦ grows.stays text (so_far.there k text was)
        | inr last ↦ subst (HasBody new) (same_Some body text last.1) grows.here
      ];
      counted = counted_end found.kept so_far.bodies old new node body apart so_far.there adds so_far.counted;
    }

pub one_end : (order : List ℕ) (image : ImageParts) (found : Findings) (explored : IsExplored image order found)
    (heard : List Outcome) (count node : ℕ) (body : List ℕ) (old new : List Outcome)
    → slice_get found.ends count ≡ Some node → IsEndBody order image found.kept node body
    → AddsEnd found.kept old node body new → EndsSoFar order image found heard count old
    → EndsSoFar order image found heard (count + 1) new
one_end order image found explored heard count node body old new at is adds so_far =
    let grows = by_end found.kept old new node body adds in
    let its = explored.1 in
    record {
      each = λ k outcome there. elim (was_end found.kept old new node body adds k outcome there) [
        | inl was ↦ of_same order image was.0 outcome was.2 was.3 was.4 (so_far.each k was.0 was.1)
        | inr one ↦ inl (end_outcome order image found.kept its.nodes its.are node (its.sound count node at) outcome
            one.leads (subst (IsEndBody order image found.kept node) (sym one.body_is) is) one.need_is)
      ];
      apart = grows.still_apart so_far.apart;
      texts = texts_more order image found count node body old new at is adds so_far.apart so_far.texts;
      begins = grows.begins heard so_far.begins;
      needs = grows.needs ∙ so_far.needs;
    }

pub all_ends : (order : List ℕ) (image : ImageParts) (found : Findings) (heard : List Outcome) (count : ℕ)
    (told : List Outcome) → count ≡ length found.ends → EndsSoFar order image found heard count told
    → AreToldEnds order image found told
all_ends order image found heard count told all so_far =
    let texts = so_far.texts in
    record {
      each = so_far.each;
      apart = so_far.apart;
      counted = record {
        bodies = texts.bodies;
        many = texts.many ∙ all;
        of = texts.each;
        there = texts.there;
        each = texts.counted;
      };
    }

-- ---- the companies

pub record StuckSoFar (order : List ℕ) (image : ImageParts) (found : Findings) (heard : List Outcome) (count : ℕ)
    (told : List Outcome) : Type 0 where
  pub each : (k : ℕ) (outcome : Outcome) → slice_get told k ≡ Some outcome → IsOutcome order image found outcome
  pub apart : AreApart told
  pub counted : AreCounted order image found told
  pub stuck : (k : ℕ) (company : Company) → k < count → slice_get found.companies k ≡ Some company
      → GoesTo found.leads found.ends company.node ⊎ TellsStuck image found.kept told company
  pub begins : BeginsWith heard told
  pub needs : any_need told ≡ any_need heard

pub as_outcome : (order : List ℕ) (image : ImageParts) (found : Findings) (outcome : Outcome) → IsHeard order image outcome
    → IsOutcome order image found outcome
as_outcome order image found outcome (inl end) = inl end
as_outcome order image found outcome (inr need) = inr (inr (inl need))

pub ends_alone : (order : List ℕ) (image : ImageParts) (found : Findings) (heard told : List Outcome)
    → AreToldEnds order image found told → BeginsWith heard told → any_need told ≡ any_need heard
    → StuckSoFar order image found heard 0 told
ends_alone order image found heard told are begun needs = record {
  each = λ k outcome at. as_outcome order image found outcome (are.each k outcome at);
  apart = are.apart;
  counted = are.counted;
  stuck = λ k company low at. absurd (omega (arith, low));
  begins = begun;
  needs = needs;
}

pub still_counted : (order : List ℕ) (image : ImageParts) (found : Findings) (old new : List Outcome) (node : ℕ)
    (body : List ℕ) → AddsStuck found.kept old node body new → AreCounted order image found old
    → AreCounted order image found new
still_counted order image found old new node body adds are = record {
  bodies = are.bodies;
  many = are.many;
  of = are.of;
  there = λ k text at. (by_stuck found.kept old new node body adds).stays text (are.there k text at);
  each = counted_stuck found.kept are.bodies old new node body are.there adds are.each;
}

-- what is told of ranks that are stuck in a node that isn't marked
stuck_outcome : (order : List ℕ) (image : ImageParts) (found : Findings) → IsExplored image order found → IsImage image
    → (marks : List Bool) → AreWhole found marks → (count : ℕ) (company : Company) (body : List ℕ) (outcome : Outcome)
    → slice_get found.companies count ≡ Some company → (slice_get marks company.node ≡ Some true → ⊥)
    → IsStuckBody image found.kept company body → IsOutcomeOf found.kept company.node body 0 false outcome
    → IsStuckOutcome order image found outcome
stuck_outcome order image found (start, explored) right marks (many, complete) count company body outcome at unset is of =
    let told = subst (IsStuckBody image found.kept company) (sym of.body_is) is in
    let it = told.is in
    let one = explored.stuck right count company at in
    record {
      place = count;
      company = company;
      noted = at;
      told = told;
      node = one.0;
      led = of.leads image order explored.nodes one.0 explored.are one.1;
      stands = stands_kept image order start found explored company.node it.what one.0 told.state it.there one.1 it.same;
      stuck = one.2;
      unled = unled image order start found explored marks many complete company.node unset;
      others = others_run_on image order start found explored marks many complete right count company at one.0 one.1 unset;
      no_ends = of.ends_are;
      no_need = of.need_is;
    }

pub one_company : (order : List ℕ) (image : ImageParts) (found : Findings) → IsExplored image order found → IsImage image
    → (heard : List Outcome) (count : ℕ) (marks : List Bool) (company : Company) (old new : List Outcome)
    → slice_get found.companies count ≡ Some company → AreSound found.leads found.ends marks → AreWhole found marks
    → AreToldBeside image found.kept marks company old new
    → StuckSoFar order image found heard count old → StuckSoFar order image found heard (count + 1) new
one_company order image found explored right heard count marks company old new at sound whole (inl marked) so_far =
    subst (λ os. StuckSoFar order image found heard (count + 1) os) (sym marked.1) (record {
      each = so_far.each;
      apart = so_far.apart;
      counted = so_far.counted;
      stuck = λ k c low there. elim (cases_eq count k) [
        | inl same ↦
            let is : company ≡ c =
            same_Some company c (sym at ∙ subst (λ j. slice_get found.companies j ≡ Some c) (sym same) there) in
            inl (subst (λ (x : Company). GoesTo found.leads found.ends x.node) is (sound company.node marked.0))
        | inr other ↦ so_far.stuck k c (omega (arith, low, other)) there
      ];
      begins = so_far.begins;
      needs = so_far.needs;
    })
one_company order image found explored right heard count marks company old new at sound whole (inr more) so_far =
    let body = (more.1).0 in
    let is = (more.1).1 in
    let adds = (more.1).2 in
    let grows = by_stuck found.kept old new company.node body adds in
    record {
      each = λ k outcome there. elim (was_stuck found.kept old new company.node body adds k outcome there) [
        | inl was ↦ so_far.each k outcome was
        | inr one ↦
            inr (inl (stuck_outcome order image found explored right marks whole count company body outcome at more.0 is one))
      ];
      apart = grows.still_apart so_far.apart;
      counted = still_counted order image found old new company.node body adds so_far.counted;
      stuck = λ k c low there. elim (cases_eq count k) [
        | inl same ↦
            let its : company ≡ c =
            same_Some company c (sym at ∙ subst (λ j. slice_get found.companies j ≡ Some c) (sym same) there) in
            inr (subst (TellsStuck image found.kept new) its (body, grows.here, is))
        | inr other ↦ elim (so_far.stuck k c (omega (arith, low, other)) there) [
          | inl leads ↦ inl leads
          | inr t ↦ inr (t.0, grows.stays t.0 t.1, t.2)
        ]
      ];
      begins = grows.begins heard so_far.begins;
      needs = grows.needs ∙ so_far.needs;
    }

pub all_told : (order : List ℕ) (image : ImageParts) (found : Findings) (heard : List Outcome) (count : ℕ)
    (told : List Outcome) → length found.companies ≤ count → StuckSoFar order image found heard count told
    → AreTold order image found told
all_told order image found heard count told all so_far = record {
  each = so_far.each;
  apart = so_far.apart;
  counted = so_far.counted;
  stuck = λ k company at.
      let inside = slice_get_within found.companies k company at in
      so_far.stuck k company (omega (arith, all, inside)) at;
}

-- each end is told
pub end_told : (order : List ℕ) (image : ImageParts) (found : Findings) (told : List Outcome)
    → AreTold order image found told → (k node : ℕ) → slice_get found.ends k ≡ Some node
    → (body : List ℕ) × HasBody told body × IsEndBody order image found.kept node body
end_told order image found told are k node at =
    let counted = are.counted in
    let inside = slice_get_within found.ends k node at in
    let body = at_inside counted.bodies k (omega (arith, inside, counted.many)) in
    (body.0, counted.there k body.0 body.1, counted.of k node body.0 at body.1)

-- ---- their text

drop_more : (xs : List Outcome) (j : ℕ) (x : Outcome) → slice_get xs j ≡ Some x → drop j xs ≡ x ∷ drop (j + 1) xs
drop_more xs j x is =
    let next : suc j ≡ j + 1 = omega arith in
    drop-cons xs j x (slice_get_within xs j x is) ∙ ap (λ y. y ∷ drop (suc j) xs) (get_or_from_slice_get xs j x x is)
    ∙ ap (λ n. x ∷ drop n xs) next

-- an outcome is told, and those behind it
pub one_more : (told : List Outcome) (place : ℕ) (outcome : Outcome) (old mid whole : List ℕ)
    → slice_get told place ≡ Some outcome → AddsOutcome (place + 1) outcome old mid
    → AddsOutcomes (place + 1 + 1) (drop (place + 1) told) mid whole
    → AddsOutcomes (place + 1) (drop place told) old whole
one_more told place outcome old mid whole is one rest = rw (drop_more told place outcome is) (mid, one, rest)

-- no outcome is left
pub none_left : (told : List Outcome) (place : ℕ) (text : List ℕ) → length told ≤ place
    → AddsOutcomes (place + 1) (drop place told) text text
none_left told place text past = rw (drop_all place told past) refl

-- ---- what is told of a start, outcome by outcome

-- of the first so many
pub record ToldSoFar (outcomes : List Outcome) (count : ℕ) (told : List EndText) : Type 0 where
  pub many : length told ≡ count
  pub each : (k : ℕ) (outcome : Outcome) (end : EndText) → slice_get outcomes k ≡ Some outcome
      → slice_get told k ≡ Some end → IsEndTold outcome end

pub none_told : (outcomes : List Outcome) (told : List EndText) → told ≡ [] → ToldSoFar outcomes 0 told
none_told outcomes told none = record {
  many = ap length none;
  each = λ k outcome end is at.
      let no_one : slice_get [] k ≡ Some end = subst (λ ts. slice_get ts k ≡ Some end) none at in absurd (cc);
}

pub one_told : (outcomes : List Outcome) (count : ℕ) (end : EndText) (old new : List EndText)
    → ((outcome : Outcome) → slice_get outcomes count ≡ Some outcome → IsEndTold outcome end)
    → new ≡ old ++ end ∷ [] → ToldSoFar outcomes count old → ToldSoFar outcomes (count + 1) new
one_told outcomes count end old new is more so_far = record {
  many = ap length more ∙ (length-append old (end ∷ []) ∙ ap (λ n. n + 1) so_far.many);
  each = λ k outcome x there at. elim (was_or_new old end k x (subst (λ ts. slice_get ts k ≡ Some x) more at)) [
    | inl was ↦ so_far.each k outcome x there was
    | inr last ↦
        let place : k ≡ count = last.0 ∙ so_far.many in
        subst (IsEndTold outcome) (same_Some end x last.1)
        (is outcome (subst (λ n. slice_get outcomes n ≡ Some outcome) place there))
  ];
}

pub each_told : (outcomes : List Outcome) (count : ℕ) (told : List EndText) → count ≡ length outcomes
    → ToldSoFar outcomes count told → AreEndsTold outcomes told
each_told outcomes count told all so_far = record { many = so_far.many ∙ all; each = so_far.each }
