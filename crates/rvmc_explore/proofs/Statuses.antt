-- What a status says of all runs, and that two searches have the same.
use Rattle.std.specs.Prelude.{ℕ, ◌≡◌, ◌==◌, ◌&&◌, ◌||◌, ◌⊎◌, ◌++◌, List, Bool, false, true, if◌then◌else◌, length, not}
use Rattle.std.proofs.Common.{refl, sym, ◌∙◌, ap, arith, inl, inr, subst}
use Rattle.std.proofs.lemmas.Bool.{eqb-true}
use Rattle.std.proofs.lemmas.List.{append_assoc}
use Rattle.rv_image_types.specs.Image.{IsImage}
use Rattle.rv_image_types.specs.declared.images.ImageParts.{ImageParts}
use Rattle.cl_deadlock_laws.proofs.Reached.{comes_reached}
use Rattle.cl_explore.specs.Below.{AreBelow, IsOrder}
use Rattle.cl_explore.specs.Ends.{Findings}
use Rattle.cl_explore.specs.Needing.{AreSought, SaysNeeds}
use Rattle.cl_explore.specs.declared.needs.Needs.{Needs}
use Rattle.cl_explore.specs.declared.needs.Needs.TheVariants as needs
use Rattle.cl_moves.specs.Standing.{first_node}
use Rattle.rvmc_explore.specs.Endless.{NeverNeeds, NeverStuck, SaysGoing, SaysUnending}
use Rattle.rvmc_explore.specs.Hangs.{NeverHangs, SaysHanging}
use Rattle.rvmc_explore.specs.Outcomes.{ListsNeed}
use Rattle.rvmc_explore.specs.StatusLaw.{SaysWhyBuffered, StatusLaw, TellsWhereEndless}
use Rattle.rvmc_explore.specs.declared.outcomes.Outcome.{Outcome}
use Rattle.rvmc_explore.specs.Telling.{Tells, any_end, ends_lines, has_stuck, is_all, is_some_company, is_somebody, is_unknown, last_line, needs_line, trapped_in, unending_line, waits_in}
use Rattle.rvmc_explore.proofs.OneList.{one_list_law}

-- ---- where all is told

-- no state is left, and it isn't unknown whether ranks need buffers
pub all_is : (left : ℕ) (known : Needs) → is_all left known ≡ true → (left ≡ 0) × (is_unknown known ≡ false)
all_is left known all = of (left == 0) refl (is_unknown known) refl all
  where
    of : (a : Bool) → (left == 0) ≡ a → (b : Bool) → is_unknown known ≡ b → (a && not b) ≡ true
        → (left ≡ 0) × (is_unknown known ≡ false)
    of true none false is both = (eqb-true left 0 none, is)
    of true none true is both = absurd (cc)
    of false some b is both = absurd (cc)

-- ---- what 0 and 8 say

neither : (status other : ℕ) → status ≡ other → (other ≡ 0 → ⊥) → (other ≡ 8 → ⊥) → (status ≡ 0) ⊎ (status ≡ 8) → ⊥
neither status other is no_zero no_eight which = elim which [
  | inl none ↦ no_zero (sym is ∙ none)
  | inr eight ↦ no_eight (sym is ∙ eight)
]

-- none left, nobody stuck, and whether some runs go on for ever
abbrev MeansQuiet : Bool → Bool → Bool → ℕ → Type 0
MeansQuiet all stuck unending status =
    (all ≡ true) × (stuck ≡ false) × (status ≡ 0 → unending ≡ false) × (status ≡ 8 → unending ≡ true)

by_cases : (all trapped stuck unending : Bool) (status : ℕ)
    → status ≡ (if all then (if trapped then 3 else (if stuck then 7 else (if unending then 8 else 0))) else 4)
    → (status ≡ 0) ⊎ (status ≡ 8) → MeansQuiet all stuck unending status
by_cases false trapped stuck unending status is which =
    absurd (neither status 4 is (λ e. omega (arith, e)) (λ e. omega (arith, e)) which)
by_cases true true stuck unending status is which =
    absurd (neither status 3 is (λ e. omega (arith, e)) (λ e. omega (arith, e)) which)
by_cases true false true unending status is which =
    absurd (neither status 7 is (λ e. omega (arith, e)) (λ e. omega (arith, e)) which)
by_cases true false false true status is which = (refl, refl, λ none. absurd (omega (arith, is, none)), λ eight. refl)
by_cases true false false false status is which = (refl, refl, λ none. refl, λ eight. absurd (omega (arith, is, eight)))

-- the status is 4 where not all is told, and only there
not_all : (status : ℕ) (all trapped stuck unending : Bool)
    → status ≡ (if all then (if trapped then 3 else (if stuck then 7 else (if unending then 8 else 0))) else 4)
    → all ≡ false → status ≡ 4
not_all status false trapped stuck unending is none = is
not_all status true trapped stuck unending is none = absurd (cc)

all_by : (status : ℕ) (all trapped stuck unending : Bool)
    → status ≡ (if all then (if trapped then 3 else (if stuck then 7 else (if unending then 8 else 0))) else 4)
    → ¬ (status ≡ 4) → all ≡ true
all_by status true trapped stuck unending is other = refl
all_by status false trapped stuck unending is other = absurd (other is)

never_all : (b : Bool) → (b && false) ≡ false
never_all true = refl
never_all false = refl

or_last : (a b : Bool) → (a || b) ≡ false → b ≡ false
or_last true b none = absurd (cc)
or_last false b none = none

neither_of : (a b : Bool) → (a || b) ≡ false → a ≡ false
neither_of true b none = absurd (cc)
neither_of false b none = refl

no_company : (found : Findings) (ends need : Bool) → ((ends || is_some_company found.companies) || need) ≡ false
    → length found.companies ≡ 0
no_company found true need none = absurd (cc)
no_company found false need none = of (length found.companies == 0) refl (neither_of (is_some_company found.companies) need none)
  where
    of : (b : Bool) → (length found.companies == 0) ≡ b → not b ≡ false → length found.companies ≡ 0
    of true is none = eqb-true (length found.companies) 0 is
    of false is none = absurd (cc)

status_at : (image : ImageParts) (order : List ℕ) (buffered : Bool) (states turns : ℕ) (text : List ℕ) (status : ℕ)
    → (tells : Tells image order buffered states turns text status) → (status ≡ 0) ⊎ (status ≡ 8)
    → NeverStuck image order (first_node image) × (((tells.listed).found).left ≡ 0)
    × (status ≡ 0 → tells.unending ≡ false) × (status ≡ 8 → tells.unending ≡ true)
    × (is_unknown (tells.listed).needs ≡ false) × (is_somebody (tells.listed).needs ≡ false) × (tells.hanging ≡ false)
status_at image order buffered states turns text status tells which =
    let found = (tells.listed).found in
    let known = (tells.listed).needs in
    let is = by_cases (is_all found.left known) (any_end trapped_in found.kept found.ends)
    ((has_stuck order found || is_somebody known) || tells.hanging) tells.unending status tells.status_is which in
    let all = all_is found.left known is.0 in
    let quiet = neither_of (has_stuck order found || is_somebody known) tells.hanging is.1 in
    let none = no_company found (any_end (waits_in order) found.kept found.ends) (is_somebody known) quiet in (
      tells.none_stuck all.0 none,
      all.0,
      is.2,
      is.3,
      all.1,
      or_last (has_stuck order found) (is_somebody known) quiet,
      or_last (has_stuck order found || is_somebody known) tells.hanging is.1,
    )

-- ---- ranks that need buffers

-- unless they weren't looked for, a search that knows of none says that no run comes to any
nobody_needs : (image : ImageParts) (order : List ℕ) (buffered : Bool) (states turns : ℕ) (text : List ℕ) (status : ℕ)
    → (tells : Tells image order buffered states turns text status) → is_unknown (tells.listed).needs ≡ false
    → is_somebody (tells.listed).needs ≡ false → AreSought buffered image → NeverNeeds image order (first_node image)
nobody_needs image order buffered states turns text status tells known none sought =
    of (tells.listed).needs known none (tells.listed).needs_are
  where
    of : (n : Needs) → is_unknown n ≡ false → is_somebody n ≡ false
        → SaysNeeds buffered image (tells.listed).found (ListsNeed image order tells.told) n
        → NeverNeeds image order (first_node image)
    of needs.Unsought a b says = absurd (says sought)
    of needs.Nobody a b says = tells.none_need says.1 says.2
    of needs.Somebody a b says = absurd (cc)
    of needs.Unknown a b says = absurd (cc)

-- nor does a run hang if sends wait, if each can come to an end
never_hangs_by : (image : ImageParts) (order : List ℕ) (buffered : Bool) (states turns : ℕ) (text : List ℕ) (status : ℕ)
    → (tells : Tells image order buffered states turns text status) → is_unknown (tells.listed).needs ≡ false
    → is_somebody (tells.listed).needs ≡ false → tells.hanging ≡ false → tells.unending ≡ false → AreSought buffered image
    → NeverHangs order (first_node image)
never_hangs_by image order buffered states turns text status tells known none quiet ends sought =
    of (tells.listed).needs refl known none (tells.listed).needs_are
  where
    says : SaysHanging image order tells.told (tells.listed).needs tells.unending false
    says = subst (SaysHanging image order tells.told (tells.listed).needs tells.unending) quiet tells.hanging_is

    of : (n : Needs) → (tells.listed).needs ≡ n → is_unknown n ≡ false → is_somebody n ≡ false
        → SaysNeeds buffered image (tells.listed).found (ListsNeed image order tells.told) n
        → NeverHangs order (first_node image)
    of needs.Unsought is a b says_so = absurd (says_so sought)
    of needs.Nobody is a b its = says is ends
    of needs.Somebody is a b its = absurd (cc)
    of needs.Unknown is a b its = absurd (cc)

-- where some are listed, a run comes to some
listed_needs : (image : ImageParts) (order : List ℕ) (told : List Outcome) → ListsNeed image order told
    → NeverNeeds image order (first_node image) → ⊥
listed_needs image order told l never =
    let count = (comes_reached image l.steps (l.node).cluster (l.way).run).count in
    never l.steps (l.node).cluster (l.way).run (l.way).follow l.ranks (subst (AreBelow l.ranks) count (l.need).are_ranks)
    (l.need).need

-- no run comes to any, some are listed, or that isn't known
needs_told : (image : ImageParts) (order : List ℕ) (buffered : Bool) (states turns : ℕ) (text : List ℕ) (status : ℕ)
    → AreSought buffered image → (tells : Tells image order buffered states turns text status)
    → NeverNeeds image order (first_node image) ⊎ (ListsNeed image order tells.told ⊎ (status ≡ 4))
needs_told image order buffered states turns text status sought tells =
    of (tells.listed).needs refl (tells.listed).needs_are
  where
    of : (n : Needs) → (tells.listed).needs ≡ n
        → SaysNeeds buffered image (tells.listed).found (ListsNeed image order tells.told) n
        → NeverNeeds image order (first_node image) ⊎ (ListsNeed image order tells.told ⊎ (status ≡ 4))
    of needs.Unsought is says = absurd (says sought)
    of needs.Nobody is says = inl (tells.none_need says.1 says.2)
    of needs.Somebody is says = inr (inl says.1)
    of needs.Unknown is says =
        let found = (tells.listed).found in
        inr (inr (not_all status (is_all found.left (tells.listed).needs) (any_end trapped_in found.kept found.ends)
        ((has_stuck order found || is_somebody (tells.listed).needs) || tells.hanging) tells.unending tells.status_is
        (ap (is_all found.left) is ∙ never_all (found.left == 0))))

-- ---- where runs go on, and why sends are taken as buffered

endless_told : (image : ImageParts) (order : List ℕ) (buffered : Bool) (states turns : ℕ) (text : List ℕ) (status : ℕ)
    → (tells : Tells image order buffered states turns text status) → tells.unending ≡ true
    → TellsWhereEndless image order text
endless_told image order buffered states turns text status tells is =
    let found = (tells.listed).found in
    let counts = ends_lines 1 tells.told in
    let line = unending_line tells.unending in
    let unknown = needs_line buffered (tells.listed).needs in
    let last = last_line (length tells.told) (length found.kept) found.left found.may_wait found.only_waits tells.long turns in
    record {
      going = tells.going;
      of = subst (λ (ends : Bool). SaysGoing image order ends tells.going) is tells.going_is;
      before = tells.body ++ counts;
      after = unknown ++ last;
      spelled = tells.spelled ∙ sym (append_assoc tells.body counts (tells.going ++ (line ++ (unknown ++ last))))
          ∙ ap (λ (ends : Bool). (tells.body ++ counts) ++ (tells.going ++ (unending_line ends ++ (unknown ++ last)))) is;
    }

why_buffered : (image : ImageParts) (order : List ℕ) (buffered : Bool) (found : Findings) (told : List Outcome) (known : Needs)
    → SaysNeeds buffered image found (ListsNeed image order told) known → found.may_wait ≡ false
    → SaysWhyBuffered image order buffered told known
why_buffered image order true found told known says copied = inl refl
why_buffered image order false found told needs.Unsought says copied = inr (inr (inl (refl, λ one. says (refl, one))))
why_buffered image order false found told needs.Nobody says copied = absurd (let no = says.2 in let off = sym no ∙ copied in cc)
why_buffered image order false found told needs.Somebody says copied = inr (inl says.1)
why_buffered image order false found told needs.Unknown says copied = inr (inr (inr refl))

-- ---- two searches

-- what two searches know of them, if both know it
module _ (image : ImageParts) (order : List ℕ) (buffered : Bool) (one two : Findings) (told other : List Outcome)
    (first : one.left ≡ 0 → one.may_wait ≡ true → NeverNeeds image order (first_node image))
    (second : two.left ≡ 0 → two.may_wait ≡ true → NeverNeeds image order (first_node image)) where
  same_known : (a b : Needs) → is_unknown a ≡ false → is_unknown b ≡ false
      → SaysNeeds buffered image one (ListsNeed image order told) a
      → SaysNeeds buffered image two (ListsNeed image order other) b → a ≡ b
  same_known needs.Unknown b u v s t = absurd (cc)
  same_known needs.Unsought needs.Unknown u v s t = absurd (cc)
  same_known needs.Unsought needs.Unsought u v s t = refl
  same_known needs.Unsought needs.Nobody u v s t = absurd (s t.0)
  same_known needs.Unsought needs.Somebody u v s t = absurd (s t.0)
  same_known needs.Nobody needs.Unknown u v s t = absurd (cc)
  same_known needs.Nobody needs.Unsought u v s t = absurd (t s.0)
  same_known needs.Nobody needs.Nobody u v s t = refl
  same_known needs.Nobody needs.Somebody u v s t = absurd (listed_needs image order other t.1 (first s.1 s.2))
  same_known needs.Somebody needs.Unknown u v s t = absurd (cc)
  same_known needs.Somebody needs.Unsought u v s t = absurd (t s.0)
  same_known needs.Somebody needs.Nobody u v s t = absurd (listed_needs image order told s.1 (second t.1 t.2))
  same_known needs.Somebody needs.Somebody u v s t = refl

-- all is told where the status isn't 4
told_all : (image : ImageParts) (order : List ℕ) (buffered : Bool) (states turns : ℕ) (text : List ℕ) (status : ℕ)
    → (tells : Tells image order buffered states turns text status) → ¬ (status ≡ 4)
    → (((tells.listed).found).left ≡ 0) × (is_unknown (tells.listed).needs ≡ false)
told_all image order buffered states turns text status tells other =
    let found = (tells.listed).found in
    all_is found.left (tells.listed).needs
    (all_by status (is_all found.left (tells.listed).needs) (any_end trapped_in found.kept found.ends)
    ((has_stuck order found || is_somebody (tells.listed).needs) || tells.hanging) tells.unending tells.status_is other)

same_status : (image : ImageParts) (order : List ℕ) (buffered : Bool) (states turns more longer : ℕ) (text other : List ℕ)
    (status its : ℕ) → IsImage image → IsOrder image.harts order
    → (one : Tells image order buffered states turns text status) → (two : Tells image order buffered more longer other its)
    → ¬ (status ≡ 4) → ¬ (its ≡ 4) → status ≡ its
same_status image order buffered states turns more longer text other status its right harts one two first second =
    let all = told_all image order buffered states turns text status one first in
    let whole = told_all image order buffered more longer other its two second in
    let known = same_known image order buffered (one.listed).found (two.listed).found one.told two.told one.none_need
    two.none_need (one.listed).needs (two.listed).needs all.1 whole.1 (one.listed).needs_are (two.listed).needs_are in
    (one_list_law.statuses image order buffered buffered states turns more longer text other status its right harts one
    all.0 two whole.0).1 known

pub status_law : StatusLaw
status_law = record {
  zero = λ image order buffered states turns text harts tells.
      let is = status_at image order buffered states turns text 0 tells (inl refl) in
      let quiet : SaysUnending image order (first_node image) ((tells.listed).found).left false =
      subst (SaysUnending image order (first_node image) ((tells.listed).found).left) (is.2 refl) tells.unending_is in
      record {
        ends = quiet is.1 harts;
        never_stuck = is.0;
        never_need = nobody_needs image order buffered states turns text 0 tells is.4 is.5;
        never_hangs = never_hangs_by image order buffered states turns text 0 tells is.4 is.5 is.6 (is.2 refl);
      };
  eight = λ image order buffered states turns text tells.
      let is = status_at image order buffered states turns text 8 tells (inr refl) in
      record {
        endless = subst (SaysUnending image order (first_node image) ((tells.listed).found).left) (is.3 refl)
            tells.unending_is;
        never_stuck = is.0;
        never_need = nobody_needs image order buffered states turns text 8 tells is.4 is.5;
      };
  going = λ image order buffered states turns text status tells is.
      endless_told image order buffered states turns text status tells is;
  why = λ image order buffered states turns text status tells copied.
      why_buffered image order buffered (tells.listed).found tells.told (tells.listed).needs (tells.listed).needs_are copied;
  needs = λ image order buffered states turns text status sought tells.
      needs_told image order buffered states turns text status sought tells;
  same = λ image order buffered states turns more longer text other status its right harts one two first second.
      same_status image order buffered states turns more longer text other status its right harts one two first second;
}
