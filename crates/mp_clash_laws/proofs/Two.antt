-- Two posts of two ranks, in one order and in the other.
use Rattle.std.proofs.Common.{◌≡◌, ℕ, zero, suc, ◌+◌, ◌<◌, ◌⊎◌, inl, inr, List, [], ◌∷◌, length, true, false, Option, Some, None, refl, sym, ap, ◌∙◌, subst, arith, add-one}
use Rattle.std.specs.List.{slice_get}
use Rattle.std.specs.Option.{option_map}
use Rattle.std.proofs.lemmas.Bool.{cases_eq, cases_order}
use Rattle.std.proofs.lemmas.Option.{same_Some, slice_get_past}
use Rattle.mp_match.specs.declared.posts.Line.{Line}
use Rattle.mp_match.specs.declared.posts.Post.{Post}
use Rattle.mp_match.specs.Pairs.{add, fits, may_pair, partner_for}
use Rattle.mp_match.proofs.Lines.{Look, add_given, add_length, add_new, add_old, given, is_given, is_new, is_old, look}
use Rattle.mp_match.proofs.OrderKept.{Good}
use Rattle.mp_match.proofs.Places.{found_first, found_none, get_within}
use Rattle.mp_alike_laws.specs.Renaming.{line_by}
use Rattle.mp_clash_laws.proofs.Swaps.{at_first, at_second, below, beyond, swap, to_other}

abbrev pub new_line : Post → Option ℕ → Line
new_line p o = record { post = p; partner = o }

-- what is found is the first that fits
pub finds : (ms : List Line) (p : Post) (i : ℕ) (m : Line) → slice_get ms i ≡ Some m → fits p m ≡ true
    → ((l : ℕ) (y : Line) → l < i → slice_get ms l ≡ Some y → fits p y ≡ false) → partner_for ms p ≡ Some i
finds ms p i m here fit before = go (partner_for ms p) refl
  where
    go : (o : Option ℕ) → partner_for ms p ≡ o → o ≡ Some i
    go None e = (let no = found_none (fits p) 0 ms e i m here in absurd (cc))
    go (Some j) e =
        let f = found_first (fits p) ms j e in
        elim (cases_order i j) [
          | inl same ↦ ap (λ k. Some k) (sym same)
          | inr other ↦ elim other [
            | inl first ↦ (let no = f.3 i m first here in absurd (cc))
            | inr later ↦ (let no = before j f.0 later f.1 in let is = f.2 in absurd (cc))
          ]
        ]

pub finds_none : (ms : List Line) (p : Post) → ((l : ℕ) (y : Line) → slice_get ms l ≡ Some y → fits p y ≡ false)
    → partner_for ms p ≡ None
finds_none ms p each = go (partner_for ms p) refl
  where
    go : (o : Option ℕ) → partner_for ms p ≡ o → o ≡ None
    go None e = refl
    go (Some j) e =
        let f = found_first (fits p) ms j e in let no = each j f.0 f.1 in let is = f.2 in absurd (cc)

-- a line that has a partner fits none
given_fits : (p : Post) (x : Line) (n : ℕ) → fits p (given x n) ≡ false
given_fits p x n = refl

old_place : (ms : List Line) (k : ℕ) → k < length ms → (x : Line) × (slice_get ms k ≡ Some x)
old_place [] k h = absurd (omega (arith, h))
old_place (x ∷ ms) zero h = (x, refl)
old_place (x ∷ ms) (suc k) h = old_place ms k (omega (arith, h))

-- no two posts have one partner
abbrev pub HaveOwn : List Line → Post → Post → Type 0
HaveOwn ms p q = (i : ℕ) → partner_for ms p ≡ Some i → partner_for ms q ≡ Some i → ⊥

-- they are a pair of their own
pub record ArePair (ms : List Line) (p q : Post) : Type 0 where
  pub none : partner_for ms p ≡ None
  pub neither : partner_for ms q ≡ None
  pub one : may_pair p q ≡ true
  pub other : may_pair q p ≡ true

-- where they stand alone both, neither may have the other
pub record ArentPair (ms : List Line) (p q : Post) : Type 0 where
  pub one : partner_for ms p ≡ None → partner_for ms q ≡ None → may_pair p q ≡ false
  pub other : partner_for ms p ≡ None → partner_for ms q ≡ None → may_pair q p ≡ false

pub pair_back : (ms : List Line) (p q : Post) → ArePair ms p q → ArePair ms q p
pair_back ms p q f = record { none = f.neither; neither = f.none; one = f.other; other = f.one }

pub apart_back : (ms : List Line) (p q : Post) → ArentPair ms p q → ArentPair ms q p
apart_back ms p q f = record { one = λ a b. f.other b a; other = λ a b. f.one b a }

module _ (ms : List Line) (p q : Post) where
  -- the partner of p behind q is the one that p had, where they aren't a pair
  pub same_partner : HaveOwn ms p q → ArentPair ms p q → partner_for (add ms q) p ≡ partner_for ms p
  same_partner own apart = go (partner_for ms p) refl
    where
      fits_new : (o : Option ℕ) → partner_for ms q ≡ o → partner_for ms p ≡ None → fits p (new_line q o) ≡ false
      fits_new None e none = apart.one none e
      fits_new (Some k) e none = refl

      go : (o : Option ℕ) → partner_for ms p ≡ o → partner_for (add ms q) p ≡ o
      go None e = finds_none (add ms q) p (λ l y here. none l y (look ms q l y here))
        where
          none : (l : ℕ) (y : Line) → Look ms q l y → fits p y ≡ false
          none l y (is_new at is) = ap (fits p) is ∙ fits_new (partner_for ms q) refl e
          none l y (is_old old) = found_none (fits p) 0 ms e l y old
          none l y (is_given x old found is) = ap (fits p) is
      go (Some i) e =
          let f = found_first (fits p) ms i e in
          finds (add ms q) p i f.0 (add_old ms q i f.0 f.1 (λ g. own i e g)) f.2
          (λ l y first here. before f.3 (get_within ms i f.0 f.1) l y first (look ms q l y here))
        where
          before : ((l : ℕ) (y : Line) → l < i → slice_get ms l ≡ Some y → fits p y ≡ false) → i < length ms → (l : ℕ)
              (y : Line) → l < i → Look ms q l y → fits p y ≡ false
          before first within l y less (is_new at is) = absurd (omega (arith, at, within, less))
          before first within l y less (is_old old) = first l y less old
          before first within l y less (is_given x old found is) = ap (fits p) is

  -- and else it is q
  pub new_partner : ArePair ms p q → partner_for (add ms q) p ≡ Some (length ms)
  new_partner f =
      finds (add ms q) p (length ms) (new_line q (partner_for ms q)) (add_new ms q)
      (ap (λ o. fits p (new_line q o)) f.neither ∙ f.one)
      (λ l y first here. before l y first (look ms q l y here))
    where
      before : (l : ℕ) (y : Line) → l < length ms → Look ms q l y → fits p y ≡ false
      before l y less (is_new at is) = absurd (omega (arith, at, less))
      before l y less (is_old old) = found_none (fits p) 0 ms f.none l y old
      before l y less (is_given x old found is) = ap (fits p) is

-- ---- the lines

-- p behind q, and q behind p: what stands at each place
module _ (ms : List Line) (p q : Post) (good : Good ms) where
  abbrev n : ℕ
  n = length ms

  abbrev pub one : List Line
  one = add (add ms q) p

  abbrev pub other : List Line
  other = add (add ms p) q

  pub two_longer : length one ≡ length ms + 2
  two_longer =
      let a = add_length ms q in let b = add_length (add ms q) p in omega (arith, a, b)

  pub last_one : slice_get one (suc n) ≡ Some (new_line p (partner_for (add ms q) p))
  last_one =
      subst (λ k. slice_get one k ≡ Some (new_line p (partner_for (add ms q) p)))
      (add_length ms q ∙ add-one (length ms)) (add_new (add ms q) p)

  -- the place of an old line's partner stands for itself
  keeps_partner : (i : ℕ) (m : Line) → slice_get ms i ≡ Some m → m ≡ line_by (swap n) m
  keeps_partner i m here = go m.partner refl
    where
      go : (o : Option ℕ) → m.partner ≡ o → m ≡ line_by (swap n) m
      go None e =
          ap (λ (x : Option ℕ). new_line m.post x) e
          ∙ sym (ap (λ (x : Option ℕ). new_line m.post (option_map (to_other n) x)) e)
      go (Some j) e =
          let g = good.paired i j m here e in
          let within = get_within ms j g.0 g.1 in
          ap (λ (x : Option ℕ). new_line m.post x) (e ∙ ap (λ k. Some k) (sym (below n j within)))
          ∙ sym (ap (λ (x : Option ℕ). new_line m.post (option_map (to_other n) x)) e)

  -- so does the place of a partner that is found
  keeps_found : (r : Post) → partner_for ms r ≡ option_map (to_other n) (partner_for ms r)
  keeps_found r = go (partner_for ms r) refl
    where
      go : (o : Option ℕ) → partner_for ms r ≡ o → o ≡ option_map (to_other n) o
      go None e = refl
      go (Some i) e =
          let f = found_first (fits r) ms i e in
          ap (λ k. Some k) (sym (below n i (get_within ms i f.0 f.1)))

  abbrev IsSame : ℕ → Type 0
  IsSame place = slice_get other (to_other n place) ≡ option_map (line_by (swap n)) (slice_get one place)

  past : (place : ℕ) → n + 2 < suc place → IsSame place
  past place h =
      ap (slice_get other) (beyond n place (omega (arith, h)))
      ∙ slice_get_past other place
      (let a = add_length ms p in let b = add_length (add ms p) q in omega (arith, a, b, h))
      ∙ ap (option_map (line_by (swap n)))
      (sym (slice_get_past one place (let a = two_longer in omega (arith, a, h))))

  not_new : (r : Post) → partner_for ms r ≡ Some n → ⊥
  not_new r e =
      let f = found_first (fits r) ms n e in
      let w = get_within ms n f.0 f.1 in
      absurd (omega (arith, w))

  -- the two new lines and the old ones
  from_each : ((i : ℕ) (m : Line) → i < n → slice_get ms i ≡ Some m → IsSame i) → IsSame n → IsSame (suc n)
      → (place : ℕ) → IsSame place
  from_each old first second place = elim (cases_order place n) [
    | inl same ↦ subst IsSame (sym same) first
    | inr more ↦ elim more [
      | inl before ↦ (let m = old_place ms place before in old place m.0 before m.1)
      | inr behind ↦ elim (cases_eq place (suc n)) [
        | inl same ↦ subst IsSame (sym same) second
        | inr far ↦ past place (omega (arith, behind, far))
      ]
    ]
  ]

  found_or_not : (o : Option ℕ) (i : ℕ) → (o ≡ Some i) ⊎ (o ≡ Some i → ⊥)
  found_or_not None i = inr (λ e. absurd (cc))
  found_or_not (Some k) i = elim (cases_eq k i) [
    | inl same ↦ inl (ap (λ z. Some z) same)
    | inr apart ↦ inr (λ e. apart (same_Some k i e))
  ]

  given_last : (ls : List Line) (r : Post) (m : Line) → length ls ≡ suc n
      → Some (given m (length ls)) ≡ Some (given m (suc n))
  given_last ls r m e = ap (λ k. Some (given m k)) e

  long_one : length (add ms q) ≡ suc n
  long_one = add_length ms q ∙ add-one (length ms)

  long_other : length (add ms p) ≡ suc n
  long_other = add_length ms p ∙ add-one (length ms)

  pub last_other : slice_get other (suc n) ≡ Some (new_line q (partner_for (add ms p) q))
  last_other =
      subst (λ k. slice_get other k ≡ Some (new_line q (partner_for (add ms p) q))) long_other (add_new (add ms p) q)

  module _ (own : HaveOwn ms p q) (apart : ArentPair ms p q) where
    its : partner_for (add ms q) p ≡ partner_for ms p
    its = same_partner ms p q own apart

    theirs : partner_for (add ms p) q ≡ partner_for ms q
    theirs = same_partner ms q p (λ i f g. own i g f) (apart_back ms p q apart)

    first_new : IsSame n
    first_new =
        ap (slice_get other) (at_first n) ∙ last_other
        ∙ ap (λ o. Some (new_line q o)) (theirs ∙ keeps_found q)
        ∙ ap (option_map (line_by (swap n)))
        (sym (add_old (add ms q) p n (new_line q (partner_for ms q)) (add_new ms q) (λ e. not_new p (sym its ∙ e))))

    second_new : IsSame (suc n)
    second_new =
        ap (slice_get other) (at_second n)
        ∙ add_old (add ms p) q n (new_line p (partner_for ms p)) (add_new ms p) (λ e. not_new q (sym theirs ∙ e))
        ∙ ap (λ o. Some (new_line p o)) (keeps_found p)
        ∙ ap (option_map (line_by (swap n))) (sym (last_one ∙ ap (λ o. Some (new_line p o)) its))

    old_apart : (i : ℕ) (m : Line) → i < n → slice_get ms i ≡ Some m → IsSame i
    old_apart i m before here =
        ap (slice_get other) (below n i before) ∙ go (found_or_not (partner_for ms q) i) (found_or_not (partner_for ms p) i)
      where
        go : (partner_for ms q ≡ Some i) ⊎ (partner_for ms q ≡ Some i → ⊥)
            → (partner_for ms p ≡ Some i) ⊎ (partner_for ms p ≡ Some i → ⊥)
            → slice_get other i ≡ option_map (line_by (swap n)) (slice_get one i)
        go (inl f) (inl g) = absurd (own i g f)
        go (inl f) (inr g) =
            add_given (add ms p) q i m (add_old ms p i m here g) (theirs ∙ f)
            ∙ given_last (add ms p) q m long_other
            ∙ ap (λ k. Some (given m k)) (sym (at_first n))
            ∙ ap (option_map (line_by (swap n)))
            (sym (add_old (add ms q) p i (given m n) (add_given ms q i m here f) (λ e. g (sym its ∙ e))))
        go (inr f) (inl g) =
            add_old (add ms p) q i (given m n) (add_given ms p i m here g) (λ e. f (sym theirs ∙ e))
            ∙ ap (λ k. Some (given m k)) (sym (at_second n))
            ∙ ap (option_map (line_by (swap n)))
            (sym (add_given (add ms q) p i m (add_old ms q i m here f) (its ∙ g) ∙ given_last (add ms q) p m long_one))
        go (inr f) (inr g) =
            add_old (add ms p) q i m (add_old ms p i m here g) (λ e. f (sym theirs ∙ e))
            ∙ ap (λ z. Some z) (keeps_partner i m here)
            ∙ ap (option_map (line_by (swap n)))
            (sym (add_old (add ms q) p i m (add_old ms q i m here f) (λ e. g (sym its ∙ e))))

    pub lines_apart : (place : ℕ) → IsSame place
    lines_apart = from_each old_apart first_new second_new

  module _ (pair : ArePair ms p q) where
    mine : partner_for (add ms q) p ≡ Some n
    mine = new_partner ms p q pair

    yours : partner_for (add ms p) q ≡ Some n
    yours = new_partner ms q p (pair_back ms p q pair)

    first_pair : IsSame n
    first_pair =
        ap (slice_get other) (at_first n) ∙ last_other
        ∙ ap (λ o. Some (new_line q o)) (yours ∙ ap (λ k. Some k) (sym (at_second n)))
        ∙ ap (option_map (line_by (swap n)))
        (sym (add_given (add ms q) p n (new_line q (partner_for ms q)) (add_new ms q) mine
        ∙ given_last (add ms q) p (new_line q (partner_for ms q)) long_one))

    second_pair : IsSame (suc n)
    second_pair =
        ap (slice_get other) (at_second n)
        ∙ add_given (add ms p) q n (new_line p (partner_for ms p)) (add_new ms p) yours
        ∙ given_last (add ms p) q (new_line p (partner_for ms p)) long_other
        ∙ ap (λ k. Some (new_line p (Some k))) (sym (at_first n))
        ∙ ap (option_map (line_by (swap n))) (sym (last_one ∙ ap (λ o. Some (new_line p o)) mine))

    old_pair : (i : ℕ) (m : Line) → i < n → slice_get ms i ≡ Some m → IsSame i
    old_pair i m before here =
        ap (slice_get other) (below n i before)
        ∙ add_old (add ms p) q i m (add_old ms p i m here (λ e. no_partner p pair.none e)) (λ e. far (sym yours ∙ e))
        ∙ ap (λ z. Some z) (keeps_partner i m here)
        ∙ ap (option_map (line_by (swap n)))
        (sym (add_old (add ms q) p i m (add_old ms q i m here (λ e. no_partner q pair.neither e)) (λ e. far (sym mine ∙ e))))
      where
        far : Some n ≡ Some i → ⊥
        far e = (let same = same_Some n i e in absurd (omega (arith, same, before)))

        no_partner : (r : Post) → partner_for ms r ≡ None → partner_for ms r ≡ Some i → ⊥
        no_partner r none some = absurd (cc)

    -- p, which was first, has q as its partner
    pub pair_there : slice_get other n ≡ Some (given (new_line p (partner_for ms p)) (suc n))
    pair_there =
        add_given (add ms p) q n (new_line p (partner_for ms p)) (add_new ms p) yours
        ∙ given_last (add ms p) q (new_line p (partner_for ms p)) long_other

    pub lines_pair : (place : ℕ) → IsSame place
    lines_pair = from_each old_pair first_pair second_pair
