-- Starts of a split, one behind another.
use Rattle.std.specs.Prelude.{ℕ, zero, suc, ◌+◌, ◌<◌, ◌≤◌, ◌≡◌, ◌⊎◌, List, [], ◌∷◌, ◌++◌, drop, length, map, slice_get, slice_set, take, Option, Some, None, IfSome}
use Rattle.std.proofs.Common.{refl, sym, ap, ◌∙◌, get_or, subst, arith, inl, inr}
use Rattle.std.proofs.lemmas.Bool.{cases_eq}
use Rattle.std.proofs.lemmas.List.{append_assoc, append-nil, length-append, length-map}
use Rattle.std.proofs.lemmas.Option.{get_or_from_slice_get, same_Some, slice_get_within}
use Rattle.rv_image.specs.Text.{image_text}
use Rattle.rv_image_types.specs.declared.images.ImageParts.{ImageParts}
use Rattle.cl_order_laws.specs.Closed.{Node}
use Rattle.cl_explore.specs.Covering.{AreNodes}
use Rattle.cl_explore.proofs.Lists.{at_inside, at_last, stays_at, was_or_new}
use Rattle.cl_explore.specs.declared.kept.KeptNode.{KeptNode}
use Rattle.rvmc_starts.specs.Sums.{sum_of}
use Rattle.rvmc_starts.specs.declared.starts.Start.{Start}
use Rattle.rvmc_explore.specs.There.{AreInside}
use Rattle.rvmc_explore.specs.Splitting.{AddsLeft, AddsNowhere, AreStartsAt, AreStartsOf, HasEachStart, IsStartAt, IsStartNumber, Reach, split_sum, with_split}
use Rattle.rvmc_explore.specs.declared.splitting.Common.{Common}

-- ---- two lists, one behind the other

at_left : {A : Type 0} (xs ys : List A) (i : ℕ) (x : A) → slice_get xs i ≡ Some x → slice_get (xs ++ ys) i ≡ Some x
at_left [] ys i x at = absurd (cc)
at_left (y ∷ xs) ys zero x at = at
at_left (y ∷ xs) ys (suc i) x at = at_left xs ys i x at

at_right : {A : Type 0} (xs ys : List A) (i : ℕ) (x : A) → slice_get ys i ≡ Some x
    → slice_get (xs ++ ys) (length xs + i) ≡ Some x
at_right [] ys i x at = let same : i ≡ 0 + i = omega arith in subst (λ k. slice_get ys k ≡ Some x) same at
at_right (y ∷ xs) ys i x at =
    let next : suc (length xs + i) ≡ suc (length xs) + i = omega arith in
    subst (λ k. slice_get ((y ∷ xs) ++ ys) k ≡ Some x) next (at_right xs ys i x at)

of_either : {A : Type 0} (xs ys : List A) (i : ℕ) (x : A) → slice_get (xs ++ ys) i ≡ Some x
    → ((k : ℕ) × (slice_get xs k ≡ Some x)) ⊎ ((k : ℕ) × (slice_get ys k ≡ Some x))
of_either [] ys i x at = inr (i, at)
of_either (y ∷ xs) ys zero x at = inl (zero, at)
of_either (y ∷ xs) ys (suc i) x at = elim (of_either xs ys i x at) [
  | inl one ↦ inl (suc one.0, one.1)
  | inr other ↦ inr other
]

-- ---- the numbers

-- those of the nodes that are left and below this one
abbrev pub LeftSoFar : ℕ → ℕ → ℕ → List ℕ → List ℕ → Type 0
LeftSoFar nodes left node old new =
    (more : List ℕ) × (new ≡ old ++ more)
    × ((k i : ℕ) → slice_get more k ≡ Some i → i < nodes)
    × ((i : ℕ) → nodes ≤ i + left → i < node → (k : ℕ) × (slice_get more k ≡ Some i))

pub none_left_yet : (nodes left first : ℕ) (old : List ℕ) → first + left ≤ nodes ⊎ (first ≡ 0)
    → LeftSoFar nodes left first old old
none_left_yet nodes left first old below = (
  [],
  sym (append-nil old),
  λ k i at. absurd (cc),
  λ i past low. absurd (elim below [
    | inl least ↦ omega (arith, past, low, least)
    | inr none ↦ omega (arith, low, none)
  ]),
)

pub one_left_more : (nodes left node : ℕ) (old new more : List ℕ) → node < nodes → more ≡ new ++ node ∷ []
    → LeftSoFar nodes left node old new → LeftSoFar nodes left (node + 1) old more
one_left_more nodes left node old new more inside is so_far = (
  so_far.0 ++ node ∷ [],
  is ∙ (ap (λ ns. ns ++ node ∷ []) so_far.1 ∙ append_assoc old so_far.0 (node ∷ [])),
  λ k i at. elim (was_or_new so_far.0 node k i at) [
    | inl was ↦ so_far.2 k i was
    | inr last ↦ subst (λ n. n < nodes) (same_Some node i last.1) inside
  ],
  λ i past low. elim (cases_eq node i) [
    | inl same ↦ (length so_far.0, subst (λ n. slice_get (so_far.0 ++ node ∷ []) (length so_far.0) ≡ Some n) same (at_last so_far.0 node))
    | inr other ↦ let v = so_far.3 i past (omega (arith, low, other)) in (v.0, stays_at so_far.0 node v.0 i v.1)
  ],
)

pub all_left : (nodes left : ℕ) (old new : List ℕ) → LeftSoFar nodes left nodes old new → AddsLeft nodes left old new
all_left nodes left old new so_far = (so_far.0, so_far.1, so_far.2, λ i past inside. so_far.3 i past inside)

module _ (nodes left : ℕ) (ends mid numbers : List ℕ) (nowhere : Option ℕ) (adds : AddsLeft nodes left ends mid)
    (last : AddsNowhere nowhere mid numbers) where
  behind : (more : List ℕ) × (numbers ≡ mid ++ more) × ((k i : ℕ) → slice_get more k ≡ Some i → nowhere ≡ Some i)
  behind = of nowhere last
    where
      of : (o : Option ℕ) → AddsNowhere o mid numbers
          → (more : List ℕ) × (numbers ≡ mid ++ more) × ((k i : ℕ) → slice_get more k ≡ Some i → o ≡ Some i)
      of None is = ([], is ∙ sym (append-nil mid), λ k i at. absurd (cc))
      of (Some node) is = (node ∷ [], is, λ k i at. one k i at)
        where
          one : (k i : ℕ) → slice_get (node ∷ []) k ≡ Some i → Some node ≡ Some i
          one zero i at = at
          one (suc k) i at = absurd (cc)

  pub all_inside : AreInside nodes ends → IfSome nowhere (λ node. node < nodes) → AreInside nodes numbers
  all_inside inside there k i at = elim (of_either mid behind.0 k i (subst (λ ns. slice_get ns k ≡ Some i) behind.1 at)) [
    | inr one ↦ subst (λ (o : Option ℕ). IfSome o (λ node. node < nodes)) (behind.2 one.0 i one.1) there
    | inl was ↦ elim (of_either ends adds.0 was.0 i (subst (λ ns. slice_get ns was.0 ≡ Some i) adds.1 was.1)) [
      | inl end ↦ inside end.0 i end.1
      | inr more ↦ adds.2 more.0 i more.1
    ]
  ]

  in_numbers : (k i : ℕ) → slice_get mid k ≡ Some i → (j : ℕ) × (slice_get numbers j ≡ Some i)
  in_numbers k i at = (k, subst (λ ns. slice_get ns k ≡ Some i) (sym behind.1) (at_left mid behind.0 k i at))

  pub has_each : HasEachStart nodes left ends numbers
  has_each i is = elim is [
    | inl past ↦
        let v = adds.3 i past.0 past.1 in
        in_numbers (length ends + v.0) i
        (subst (λ ns. slice_get ns (length ends + v.0) ≡ Some i) (sym adds.1) (at_right ends adds.0 v.0 i v.1))
    | inr end ↦ in_numbers end.0 i (subst (λ ns. slice_get ns end.0 ≡ Some i) (sym adds.1) (at_left ends adds.0 end.0 i end.1))
  ]

-- ---- the starts

-- one for each of the first so many nodes
pub record StartsSoFar (kept : List KeptNode) (common : Common) (numbers : List ℕ) (count : ℕ) (starts : List Start)
    : Type 0 where
  pub many : length starts ≡ count
  pub each : (k : ℕ) (start : Start) → slice_get starts k ≡ Some start
      → (node : ℕ) × (slice_get numbers k ≡ Some node) × IsStartAt kept common (k + 1) node start

pub no_starts : (kept : List KeptNode) (common : Common) (numbers : List ℕ) (starts : List Start) → starts ≡ []
    → StartsSoFar kept common numbers 0 starts
no_starts kept common numbers starts none = record {
  many = ap length none;
  each = λ k start at.
      let no_one : slice_get [] k ≡ Some start = subst (λ ss. slice_get ss k ≡ Some start) none at in absurd (cc);
}

pub one_start_more : (kept : List KeptNode) (common : Common) (numbers : List ℕ) (count node : ℕ) (start : Start)
    (old new : List Start) → slice_get numbers count ≡ Some node → IsStartAt kept common (count + 1) node start
    → new ≡ old ++ start ∷ [] → StartsSoFar kept common numbers count old
    → StartsSoFar kept common numbers (count + 1) new
one_start_more kept common numbers count node start old new there is more so_far = record {
  many = ap length more ∙ (length-append old (start ∷ []) ∙ ap (λ n. n + 1) so_far.many);
  each = λ k x at. elim (was_or_new old start k x (subst (λ ss. slice_get ss k ≡ Some x) more at)) [
    | inl was ↦ so_far.each k x was
    | inr last ↦
        let place : count ≡ k = sym so_far.many ∙ sym last.0 in (
          node,
          subst (λ n. slice_get numbers n ≡ Some node) place there,
          subst (λ (s : Start). IsStartAt kept common (k + 1) node s) (same_Some start x last.1)
              (subst (λ n. IsStartAt kept common (n + 1) node start) place is),
        )
  ];
}

pub all_starts : (kept : List KeptNode) (common : Common) (numbers : List ℕ) (count : ℕ) (starts : List Start)
    → count ≡ length numbers → StartsSoFar kept common numbers count starts → AreStartsAt kept common numbers starts
all_starts kept common numbers count starts all so_far = record { many = so_far.many ∙ all; each = so_far.each }

-- ---- a list whose first ones were changed

-- the first so many of a list were changed
abbrev pub ChangedSoFar : {A : Type 0} → (A → A) → List A → ℕ → List A → Type 0
ChangedSoFar f old count new = new ≡ map f (take count old) ++ drop count old

changed_next : {A : Type 0} (f : A → A) (xs : List A) (n : ℕ) (x : A) → slice_get xs n ≡ Some x
    → slice_set (map f (take n xs) ++ drop n xs) n (f x) ≡ map f (take (suc n) xs) ++ drop (suc n) xs
changed_next f [] n x at = absurd (cc)
changed_next f (y ∷ xs) zero x at = ap (λ z. f z ∷ xs) (sym (same_Some y x at))
changed_next f (y ∷ xs) (suc n) x at = ap (λ zs. f y ∷ zs) (changed_next f xs n x at)

changed_at : {A : Type 0} (f : A → A) (xs : List A) (n : ℕ) (x : A) → slice_get xs n ≡ Some x
    → slice_get (map f (take n xs) ++ drop n xs) n ≡ Some x
changed_at f [] n x at = absurd (cc)
changed_at f (y ∷ xs) zero x at = at
changed_at f (y ∷ xs) (suc n) x at = changed_at f xs n x at

pub one_changed : {A : Type 0} (f : A → A) (xs now : List A) (n : ℕ) (x d : A) → slice_get xs n ≡ Some x
    → ChangedSoFar f xs n now → ChangedSoFar f xs (n + 1) (slice_set now n (f (get_or now n d)))
one_changed f xs now n x d at so_far =
    let next : suc n ≡ n + 1 = omega arith in
    let there : get_or now n d ≡ x =
    get_or_from_slice_get now n x d (subst (λ ys. slice_get ys n ≡ Some x) (sym so_far) (changed_at f xs n x at)) in
    ap (λ y. slice_set now n (f y)) there
    ∙ (ap (λ ys. slice_set ys n (f x)) so_far
    ∙ (changed_next f xs n x at ∙ ap (λ k. map f (take k xs) ++ drop k xs) next))

-- ---- the split that they are of

known_again : (split : ℕ) (starts : List Start) → ((k : ℕ) (start : Start) → slice_get starts k ≡ Some start → start.split ≡ 0)
    → map (with_split 0) (map (with_split split) starts) ≡ starts
known_again split [] none = refl
known_again split (start ∷ starts) none =
    let same : with_split 0 (with_split split start) ≡ start =
    λ i. record start { split = sym (none zero start refl) i } in
    (λ i. same i ∷ known_again split starts (λ k s at. none (suc k) s at) i)

-- of what the start there was made
made_of : (split : ℕ) (starts : List Start) (k : ℕ) (start : Start) → slice_get (map (with_split split) starts) k ≡ Some start
    → (x : Start) × (slice_get starts k ≡ Some x) × (start ≡ with_split split x)
made_of split [] k start at = absurd (cc)
made_of split (x ∷ starts) zero start at = (x, refl, sym (same_Some (with_split split x) start at))
made_of split (x ∷ starts) (suc k) start at = made_of split starts k start at

made_there : (split : ℕ) (starts : List Start) (k : ℕ) (x : Start) → slice_get starts k ≡ Some x
    → slice_get (map (with_split split) starts) k ≡ Some (with_split split x)
made_there split [] k x at = absurd (cc)
made_there split (y ∷ starts) zero x at = ap (λ z. Some (with_split split z)) (same_Some y x at)
made_there split (y ∷ starts) (suc k) x at = made_there split starts k x at

module _ (image : ImageParts) (kept : List KeptNode) (common : Common) (numbers : List ℕ) (starts : List Start)
    (split : ℕ) (sum : common.image ≡ sum_of (image_text image)) (count : common.count ≡ length numbers)
    (is : AreStartsAt kept common numbers starts) where
  pub are_of : split ≡ split_sum starts → AreStartsOf image common.order.now split (map (with_split split) starts)
  are_of known = record {
    known = known ∙ ap split_sum (sym (known_again split starts (λ k start at. ((is.each k start at).2).split_is)));
    each = λ k start at.
        let v = made_of split starts k start at in
        let w = (is.each k v.0 v.1).2 in (
          ap (λ (s : Start). s.number) v.2 ∙ w.number_is,
          ap (λ (s : Start). s.count) v.2
              ∙ (w.count_is ∙ (count ∙ (sym is.many ∙ sym (length-map starts (with_split split))))),
          ap (λ (s : Start). s.image) v.2 ∙ (w.image_is ∙ sum),
          ap (λ (s : Start). s.split) v.2,
          ap (λ (s : Start). s.harts) v.2 ∙ w.harts_are,
        );
  }

  pub they_reach : (nodes : List Node) (ends : List ℕ) (left : ℕ) → AreNodes image common.order.now kept nodes
      → HasEachStart (length kept) left ends numbers
      → Reach image common.order.now nodes ends left (map (with_split split) starts)
  they_reach nodes ends left are each i node at number =
      let k = each i (subst (λ n. IsStartNumber n left ends i) are.many number) in
      let inside = slice_get_within numbers k.0 i k.1 in
      let x = at_inside starts k.0 (omega (arith, inside, is.many)) in
      let v = is.each k.0 x.0 x.1 in
      let same : v.0 ≡ i = same_Some v.0 i (sym v.1 ∙ k.1) in
      let way = (v.2).leads image common.order.now nodes node are (subst (λ n. slice_get nodes n ≡ Some node) (sym same) at) in
      (k.0, with_split split x.0, way.0, made_there split starts k.0 x.0 x.1, way.1)
