-- Outcomes that were heard of while a search went on, and what was told of them.
use Rattle.std.specs.Prelude.{ℕ, suc, ◌+◌, ◌<◌, ◌≡◌, List, [], ◌∷◌, ◌++◌, Bool, false, true, IfErr, Option, drop, length, slice_get, Some, Result, Ok, Err}
use Rattle.std.specs.Io.KnownBytes.{Appends}
use Rattle.std.proofs.KnownBytes.{Appends-nil, Appends-trans}
use Rattle.std.proofs.Common.{refl, sym, ap, ◌∙◌, subst, arith, inl, inr}
use Rattle.std.proofs.lemmas.List.{append-nil, append_assoc}
use Rattle.std.proofs.lemmas.Option.{same_Some, slice_get_within}
use Rattle.rv_image_types.specs.declared.images.ImageParts.{ImageParts}
use Rattle.cl_order_laws.specs.Closed.{Node}
use Rattle.cl_explore.specs.Listening.{IsEndNode, IsNeedNode}
use Rattle.cl_explore.specs.declared.kept.KeptNode.{KeptNode}
use Rattle.cl_replay.specs.States.{ClusterStandsFor}
use Rattle.rvmc_report.specs.Report.{newline}
use Rattle.rvmc_explore.specs.InnerOutcomes.{AreHeard, BeginsWith, IsNew, IsOutcomeOf, bodies_told}
use Rattle.rvmc_explore.specs.Outcomes.{HasBody, IsEndBody, IsHeard, IsNeedBody, IsNeedOutcome, any_need}
use Rattle.rvmc_explore.specs.Telling.{AddsOutcome, AddsOutcomes, IsBegun, Tells, outcome_number}
use Rattle.rvmc_explore.specs.InnerTelling.{WereTold}
use Rattle.rvmc_explore.specs.declared.outcomes.Outcome.{Outcome}
use Rattle.rvmc_explore.proofs.Listed.{added_apart, end_outcome, needs_added, was_or_added}

-- ---- an end that was heard of

-- its node is there
pub end_inside : (image : ImageParts) (order : List ℕ) (kept : List KeptNode) (node : ℕ) → IsEndNode image order kept node
    → node < length kept
end_inside image order kept node (nodes, are, end) =
    let inside = slice_get_within nodes node end.0 end.1 in omega (arith, inside, are.many)

pub new_outcome : (image : ImageParts) (order : List ℕ) (kept : List KeptNode) (node : ℕ) (body : List ℕ)
    (told : List Outcome) (outcome : Outcome) → IsEndNode image order kept node → IsEndBody order image kept node body
    → IsOutcomeOf kept node body 0 false outcome → (HasBody told body → ⊥) → IsNew order image told outcome
new_outcome image order kept node body told outcome (nodes, are, end) is of unlike = record {
  is = inl (end_outcome order image kept nodes are node end outcome of.leads
      (subst (IsEndBody order image kept node) (sym of.body_is) is) of.need_is);
  uncounted = of.ends_are;
  new = λ has. unlike (subst (HasBody told) of.body_is has);
}

-- ---- ranks that need buffers that were heard of

-- their node is there
pub need_inside : (image : ImageParts) (order : List ℕ) (kept : List KeptNode) (node : ℕ) (ranks : List ℕ)
    → IsNeedNode image order kept node ranks → node < length kept
need_inside image order kept node ranks (nodes, are, there) =
    let inside = slice_get_within nodes node there.0 there.1 in omega (arith, inside, are.many)

pub new_need : (image : ImageParts) (order : List ℕ) (kept : List KeptNode) (node : ℕ) (ranks body : List ℕ)
    (told : List Outcome) (outcome : Outcome) → IsNeedNode image order kept node ranks
    → IsNeedBody image kept node ranks body → IsOutcomeOf kept node body 0 true outcome → (HasBody told body → ⊥)
    → IsNew order image told outcome × IsNeedOutcome order image outcome
new_need image order kept node ranks body told outcome (nodes, are, there) is of unlike =
    let it = is.is in
    let v = are.each node it.what it.there in
    let same : v.0 ≡ there.0 = same_Some v.0 there.0 (sym v.1 ∙ there.1) in
    let one : IsNeedOutcome order image outcome =
    record {
      node = there.0;
      led = of.leads image order nodes there.0 are there.1;
      ranks = ranks;
      need = there.2;
      state = is.state;
      stands = subst (λ (n : Node). ClusterStandsFor image is.state n.cluster) same ((v.2).stands is.state it.same);
      told = of.body_is ∙ is.spelled;
      of_need = of.need_is;
    } in (
      record {
        is = inr one;
        uncounted = of.ends_are;
        new = λ has. unlike (subst (HasBody told) of.body_is has);
      },
      one,
    )

-- ---- lists of them

pub none_heard : (order : List ℕ) (image : ImageParts) (told : List Outcome) → told ≡ [] → AreHeard order image told
none_heard order image told none =
    let no : (k : ℕ) (outcome : Outcome) → slice_get told k ≡ Some outcome → ⊥ =
    λ k outcome at.
    let no_one : slice_get [] k ≡ Some outcome = subst (λ os. slice_get os k ≡ Some outcome) none at in absurd (cc) in
    record {
      each = λ k outcome at. absurd (no k outcome at);
      uncounted = λ k outcome at. absurd (no k outcome at);
      apart = λ i j one other here there equal. absurd (no i one here);
    }

pub heard_more : (order : List ℕ) (image : ImageParts) (old new : List Outcome) (outcome : Outcome)
    → IsNew order image old outcome → new ≡ old ++ outcome ∷ [] → AreHeard order image old
    → AreHeard order image new
heard_more order image old new outcome one is heard = record {
  each = λ k other at. elim (was_or_added old new outcome one.new is k other at) [
    | inl was ↦ heard.each k other was
    | inr last ↦ subst (λ (o : Outcome). IsHeard order image o) last.1 one.is
  ];
  uncounted = λ k other at. elim (was_or_added old new outcome one.new is k other at) [
    | inl was ↦ heard.uncounted k other was
    | inr last ↦ subst (λ (o : Outcome). o.ends ≡ 0) last.1 one.uncounted
  ];
  apart = added_apart old new outcome one.new is heard.apart;
}

-- ---- where standard sends copy their messages

-- nothing is told yet
pub none_needed : (told : List Outcome) → told ≡ [] → any_need told ≡ false
none_needed told none = ap any_need none

-- an end more leaves it so
pub none_needed_more : (buffered : Bool) (old new : List Outcome) (outcome : Outcome) → outcome.need ≡ false
    → new ≡ old ++ outcome ∷ [] → (buffered ≡ true → any_need old ≡ false) → buffered ≡ true → any_need new ≡ false
none_needed_more buffered old new outcome no_need is none copied =
    needs_added old new outcome no_need is ∙ none copied

-- where they may wait
pub none_copied : (known asked : Bool) (told : List Outcome) → asked ≡ known → asked ≡ false → known ≡ true
    → any_need told ≡ false
none_copied known asked told same waits copied =
    let no : true ≡ false = sym copied ∙ (sym same ∙ waits) in absurd (cc)

-- ---- their texts

-- one more behind the others
pub told_more : (number : ℕ) (told : List Outcome) (outcome : Outcome) (old mid new : List ℕ)
    → AddsOutcomes number told old mid → AddsOutcome (number + length told) outcome mid new
    → AddsOutcomes number (told ++ outcome ∷ []) old new
told_more number [] outcome old mid new same one =
    let none : number + 0 ≡ number = omega arith in
    (new, subst (λ n. AddsOutcome n outcome old new) none (subst (λ (t : List ℕ). AddsOutcome (number + 0) outcome t new) same one), refl)
told_more number (first ∷ told) outcome old mid new (here, is, rest) one =
    let next : number + suc (length told) ≡ number + 1 + length told = omega arith in
    (here, is, told_more (number + 1) told outcome here mid new rest (subst (λ n. AddsOutcome n outcome mid new) next one))

-- behind another text
one_behind : (number : ℕ) (outcome : Outcome) (before old new : List ℕ) → AddsOutcome number outcome old new
    → AddsOutcome number outcome (before ++ old) (before ++ new)
one_behind number outcome before old new (headed, (more, head), is) = (
  before ++ headed,
  (more, ap (λ (t : List ℕ). before ++ t) head ∙ sym (append_assoc before old (outcome_number number ++ (more ++ newline)))),
  ap (λ (t : List ℕ). before ++ t) is ∙ sym (append_assoc before headed outcome.body.items),
)

pub one_behind_all : (number : ℕ) (outcome : Outcome) (before new : List ℕ) → AddsOutcome number outcome [] new
    → AddsOutcome number outcome before (before ++ new)
one_behind_all number outcome before new one =
    subst (λ (t : List ℕ). AddsOutcome number outcome t (before ++ new)) (append-nil before)
    (one_behind number outcome before [] new one)

behind : (number : ℕ) (told : List Outcome) (before old new : List ℕ) → AddsOutcomes number told old new
    → AddsOutcomes number told (before ++ old) (before ++ new)
behind number [] before old new same = ap (λ (t : List ℕ). before ++ t) same
behind number (outcome ∷ told) before old new (mid, one, rest) = (
  before ++ mid,
  one_behind number outcome before old mid one,
  behind (number + 1) told before mid new rest,
)

abbrev pub tail_of : {A : Type 0} → List A → List A
tail_of [] = []
tail_of (x ∷ xs) = xs

abbrev pub first_or : {A : Type 0} → A → List A → A
first_or d [] = d
first_or d (x ∷ xs) = x

-- where a list begins with the texts of another, it is told by what tells that one and those that are left
from_begun : (number : ℕ) (first told : List Outcome) (more : List (List ℕ)) → bodies_told told ≡ bodies_told first ++ more
    → (old mid new : List ℕ) → AddsOutcomes number first old mid
    → AddsOutcomes (number + length first) (drop (length first) told) mid new
    → AddsOutcomes number told old new
from_begun number [] told more same old mid new is rest =
    let none : number + 0 ≡ number = omega arith in
    subst (λ n. AddsOutcomes n told old new) none (subst (λ (t : List ℕ). AddsOutcomes (number + 0) told t new) is rest)
from_begun number (one ∷ first) [] more same old mid new is rest = absurd (cc)
from_begun number (one ∷ first) (two ∷ told) more same old mid new (here, (headed, head, spelled), them) rest =
    let text : two.body.items ≡ one.body.items = ap (first_or []) same in
    let others : bodies_told told ≡ bodies_told first ++ more = ap tail_of same in
    let next : number + suc (length first) ≡ number + 1 + length first = omega arith in (
      here,
      (headed, head, spelled ∙ ap (λ (t : List ℕ). headed ++ t) (sym text)),
      from_begun (number + 1) first told more others here mid new them
          (subst (λ n. AddsOutcomes n (drop (length first) told) mid new) next rest),
    )

pub all_behind : (first told : List Outcome) → BeginsWith first told → (text rest : List ℕ) → AddsOutcomes 1 first [] text
    → AddsOutcomes (length first + 1) (drop (length first) told) [] rest → AddsOutcomes 1 told [] (text ++ rest)
all_behind first told (more, same) text rest is them =
    let next : length first + 1 ≡ 1 + length first = omega arith in
    from_begun 1 first told more same [] text (text ++ rest) is
    (subst (λ (t : List ℕ). AddsOutcomes (1 + length first) (drop (length first) told) t (text ++ rest)) (append-nil text)
    (behind (1 + length first) (drop (length first) told) text [] rest
    (subst (λ n. AddsOutcomes n (drop (length first) told) [] rest) next them)))

-- ---- what was told so far

pub none_told : (told : List Outcome) (taken : Bool) (before now : Option (List ℕ)) → told ≡ [] → now ≡ before
    → WereTold told taken before now
none_told told taken before now none same = (
  [],
  subst (λ os. AddsOutcomes 1 os [] []) (sym none) refl,
  λ all. subst (λ o. Appends before o []) (sym same) (Appends-nil before),
)

pub one_told_more : (told new : List Outcome) (outcome : Outcome) (was taken : Bool) (before mid now : Option (List ℕ))
    (piece : List ℕ) → new ≡ told ++ outcome ∷ [] → AddsOutcome (length told + 1) outcome [] piece
    → (taken ≡ true → (was ≡ true) × Appends mid now piece) → WereTold told was before mid
    → WereTold new taken before now
one_told_more told new outcome was taken before mid now piece is one puts (text, lines, held) =
    let next : length told + 1 ≡ 1 + length told = omega arith in (
      text ++ piece,
      subst (λ os. AddsOutcomes 1 os [] (text ++ piece)) (sym is)
          (told_more 1 told outcome [] text (text ++ piece) lines
          (one_behind_all (1 + length told) outcome text piece
          (subst (λ n. AddsOutcome n outcome [] piece) next one))),
      λ all. let v = puts all in Appends-trans before mid now text piece (held v.0) v.1,
    )

pub begun_by : (order : List ℕ) (image : ImageParts) (buffered : Bool) (told : List Outcome) (text : List ℕ)
    → AreHeard order image told → (buffered ≡ true → any_need told ≡ false) → AddsOutcomes 1 told [] text
    → IsBegun image order buffered text
begun_by order image buffered told text heard no_need lines = record {
  told = told;
  each = heard.each;
  no_need = no_need;
  apart = heard.apart;
  lines = lines;
}

-- whatever the error is
pub whatever_err : {A E : Type 0} (result : Result A E) (P : Type 0) → P → IfErr result (λ fault. P)
whatever_err (Ok value) P is = tt
whatever_err (Err fault) P is = is

-- where memory was refused, what was told is what was found so far
pub cut_by : (order : List ℕ) (image : ImageParts) (buffered : Bool) (told : List Outcome) (taken : Bool)
    (before now : Option (List ℕ)) → AreHeard order image told → (buffered ≡ true → any_need told ≡ false)
    → WereTold told taken before now → taken ≡ true
    → (text : List ℕ) × IsBegun image order buffered text × Appends before now text
cut_by order image buffered told taken before now heard no_need (text, lines, held) all =
    (text, begun_by order image buffered told text heard no_need lines, held all)

-- and with the rest behind it all is told
pub whole_by : (order : List ℕ) (image : ImageParts) (buffered : Bool) (states turns status : ℕ) (told : List Outcome)
    (taken : Bool) (before mid now : Option (List ℕ)) (rest : List ℕ) → WereTold told taken before mid → taken ≡ true
    → ((text : List ℕ) → AddsOutcomes 1 told [] text → Tells image order buffered states turns (text ++ rest) status)
    → Appends mid now rest → (text : List ℕ) × Tells image order buffered states turns text status × Appends before now text
whole_by order image buffered states turns status told taken before mid now rest (text, lines, held) all tells puts =
    (text ++ rest, tells text lines, Appends-trans before mid now text rest (held all) puts)
