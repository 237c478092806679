-- Names are forced: a post of a rank goes to the first post of that rank that none went to.
use Rattle.std.proofs.Common.{◌≡◌, ℕ, ◌<◌, inl, inr, List, [], ◌∷◌, ◌++◌, length, get_or, Option, Some, None, refl, sym, ap, ◌∙◌, subst, arith}
use Rattle.std.specs.List.{slice_get, slice_set}
use Rattle.std.specs.Prelude.{IfSome}
use Rattle.std.specs.Option.{option_map}
use Rattle.std.proofs.lemmas.Bool.{cases_eq, cases_order}
use Rattle.std.proofs.lemmas.Option.{same_Some, slice_get-get_or}
use Rattle.mp_match.specs.declared.posts.Line.{Line}
use Rattle.mp_match.proofs.Places.{get_front, get_last, get_snoc, get_within}
use Rattle.mp_match.proofs.Rows.{slice_set_length}
use Rattle.mp_alike_laws.specs.Renaming.{Renaming, line_by}
use Rattle.mp_alike_laws.specs.Alike.{maker}
use Rattle.mp_alike.specs.InnerNames.{Corresponds, IsFirstFree, IsFree, IsNaming}
use Rattle.mp_alike.proofs.Places.{set_beside, set_here, there_is}

module _ (mine theirs : List Line) (to : List ℕ) (back : List (Option ℕ)) (so_far : IsNaming mine theirs to back)
    (line : Line) (here : slice_get mine (length to) ≡ Some line) where
  -- where a renaming has the next post go, none went yet
  pub free_there : (names : Renaming) → Corresponds names mine theirs
      → IsFree (maker line.post) theirs back (names.to (length to))
  free_there names c = record { line = line_by names line; there = at; made = refl; free = go (slice_get back goes) refl }
    where
      goes : ℕ
      goes = names.to (length to)

      at : slice_get theirs goes ≡ Some (line_by names line)
      at = c.lines (length to) ∙ ap (option_map (line_by names)) here

      go : (o : Option (Option ℕ)) → slice_get back goes ≡ o → slice_get back goes ≡ Some None
      go None e =
          let w = get_within theirs goes (line_by names line) at in
          let t = there_is back goes (let v = so_far.even in omega (arith, w, v)) in
          absurd (let f = t.1 in cc)
      go (Some None) e = e
      go (Some (Some k)) e =
          let t = so_far.again goes k e in
          let f = so_far.forced names c k goes t in
          let same : k ≡ length to = sym (names.there k) ∙ ap names.back f ∙ names.there (length to) in
          let w = get_within to k goes t in
          absurd (omega (arith, same, w))

  -- so where there is no such place there is no renaming
  pub no_place : ((p : ℕ) → ¬ IsFree (maker line.post) theirs back p) → (names : Renaming)
      → ¬ Corresponds names mine theirs
  no_place none names c = none (names.to (length to)) (free_there names c)

  -- and it is the first of these
  pub first_is : (names : Renaming) → Corresponds names mine theirs → (p : ℕ)
      → IsFirstFree (maker line.post) theirs back p → names.to (length to) ≡ p
  first_is names c p f = elim (cases_order (names.to (length to)) p) [
    | inl same ↦ same
    | inr other ↦ elim other [
      | inl below ↦ absurd (f.first (names.to (length to)) below (free_there names c))
      | inr above ↦ absurd (none_before above)
    ]
  ]
    where
      free : IsFree (maker line.post) theirs back p
      free = f.free

      from : ℕ
      from = names.back p

      at : slice_get theirs p ≡ option_map (line_by names) (slice_get mine from)
      at = sym (ap (slice_get theirs) (names.again p)) ∙ c.lines from

      none_before : p < names.to (length to) → ⊥
      none_before above = go (slice_get mine from) refl
        where
          go : (o : Option Line) → slice_get mine from ≡ o → ⊥
          go None e = (let g = sym free.there ∙ at ∙ ap (option_map (line_by names)) e in cc)
          go (Some m) e = elim (cases_order from (length to)) [
            | inl same ↦
                let g : names.to (length to) ≡ p = sym (ap names.to same) ∙ names.again p in omega (arith, g, above)
            | inr other ↦ elim other [
              | inl before ↦
                  let t = there_is to from before in
                  let g : t.0 ≡ p = sym (so_far.forced names c from t.0 t.1) ∙ names.again p in
                  let b : slice_get back p ≡ Some (Some from) =
                  sym (ap (slice_get back) g) ∙ so_far.there from t.0 t.1 in
                  let n = sym b ∙ free.free in cc
              | inr after ↦
                  let is : free.line ≡ line_by names m =
                  same_Some free.line (line_by names m)
                  (sym free.there ∙ at ∙ ap (option_map (line_by names)) e) in
                  let made : maker line.post ≡ maker m.post =
                  sym free.made ∙ ap (λ (x : Line). maker x.post) is in
                  let g = c.ranks (length to) from line m after here e made in
                  let h = names.again p in omega (arith, g, h, above)
            ]
          ]

  module _ (p : ℕ) (f : IsFirstFree (maker line.post) theirs back p) where
    free_now : IsFree (maker line.post) theirs back p
    free_now = f.free

    abbrev longer : List ℕ
    longer = to ++ p ∷ []

    abbrev told : List (Option ℕ)
    told = slice_set back p (Some (length to))

    at_end : slice_get told p ≡ Some (Some (length to))
    at_end = set_here back p None (Some (length to)) free_now.free

    -- a place to which an earlier post goes is another
    apart : (k q : ℕ) → slice_get to k ≡ Some q → p ≡ q → ⊥
    apart k q t e =
        let b = so_far.there k q t in
        let g : slice_get back p ≡ Some (Some k) = ap (slice_get back) e ∙ b in
        let n = sym g ∙ free_now.free in cc

    there : (k q : ℕ) → slice_get longer k ≡ Some q → slice_get told q ≡ Some (Some k)
    there k q t = elim (get_snoc to p k q t) [
      | inl e ↦ ap (slice_get told) e.1 ∙ at_end ∙ ap (λ n. Some (Some n)) (sym e.0)
      | inr old ↦ set_beside back p q (Some (length to)) (apart k q old) ∙ so_far.there k q old
    ]

    again : (q k : ℕ) → slice_get told q ≡ Some (Some k) → slice_get longer k ≡ Some q
    again q k b = elim (cases_eq p q) [
      | inl same ↦
          let g : Some (Some (length to)) ≡ Some (Some k) = sym at_end ∙ ap (slice_get told) same ∙ b in
          let e : length to ≡ k = same_Some (length to) k (same_Some (Some (length to)) (Some k) g) in
          subst (λ n. slice_get longer n ≡ Some q) e (get_last to p ∙ ap (λ n. Some n) same)
      | inr other ↦
          get_front to (p ∷ []) k q
          (so_far.again q k (sym (set_beside back p q (Some (length to)) other) ∙ b))
    ]

    ranks : (i j q r : ℕ) (m n : Line) → i < j → slice_get mine i ≡ Some m → slice_get mine j ≡ Some n
        → maker m.post ≡ maker n.post → slice_get longer i ≡ Some q → slice_get longer j ≡ Some r → q < r
    ranks i j q r m n before at then made goes next = elim (get_snoc to p j r next) [
      | inl e ↦ elim (get_snoc to p i q goes) [
        | inl g ↦ absurd (let a = e.0 in let b = g.0 in omega (arith, a, b, before))
        | inr old ↦
            let is : n ≡ line = same_Some n line (sym then ∙ ap (slice_get mine) e.0 ∙ here) in
            let by : maker line.post ≡ maker m.post = sym (made ∙ ap (λ (x : Line). maker x.post) is) in
            let l = so_far.least i q p m at old (subst (λ k. IsFree k theirs back p) by free_now) in
            let a = e.1 in omega (arith, l, a)
      ]
      | inr late ↦ elim (get_snoc to p i q goes) [
        | inl g ↦ absurd (let a = g.0 in let w = get_within to j r late in omega (arith, a, w, before))
        | inr old ↦ so_far.ranks i j q r m n before at then made old late
      ]
    ]

    least : (k q u : ℕ) (m : Line) → slice_get mine k ≡ Some m → slice_get longer k ≡ Some q
        → IsFree (maker m.post) theirs told u → q < u
    least k q u m at goes free = elim (cases_eq p u) [
      | inl same ↦
          let g = sym at_end ∙ ap (slice_get told) same ∙ free.free in absurd (cc)
      | inr other ↦ elim (get_snoc to p k q goes) [
        | inl e ↦
            let is : m ≡ line = same_Some m line (sym at ∙ ap (slice_get mine) e.0 ∙ here) in
            let was = subst (λ r. IsFree r theirs back u) (ap (λ (x : Line). maker x.post) is) (before other) in
            elim (cases_order p u) [
              | inl same ↦ absurd (other same)
              | inr side ↦ elim side [
                | inl below ↦ (let a = e.1 in omega (arith, a, below))
                | inr above ↦ absurd (f.first u above was)
              ]
            ]
        | inr old ↦ so_far.least k q u m at old (before other)
      ]
    ]
      where
        before : (p ≡ u → ⊥) → IsFree (maker m.post) theirs back u
        before other = record {
          line = free.line;
          there = free.there;
          made = free.made;
          free = sym (set_beside back p u (Some (length to)) other) ∙ free.free;
        }

    pub named_next : IsNaming mine theirs (to ++ p ∷ []) (slice_set back p (Some (length to)))
    named_next = record {
      even = slice_set_length back p (Some (length to)) ∙ so_far.even;
      there = there;
      again = again;
      ranks = ranks;
      least = least;
      forced = λ names c k q goes. elim (get_snoc to p k q goes) [
        | inl e ↦ ap names.to e.0 ∙ first_is names c p f ∙ sym e.1
        | inr old ↦ so_far.forced names c k q old
      ];
    }

module _ (mine theirs : List Line) (to : List ℕ) (back : List (Option ℕ)) (so_far : IsNaming mine theirs to back)
    (own : ℕ) (is : own ≡ length to) (left : own < length mine) (d : Line) (rank : ℕ)
    (made : rank ≡ maker (get_or mine own d).post) (seen : List (Option ℕ)) (same : seen ≡ back) where
  line_here : slice_get mine (length to) ≡ Some (get_or mine own d)
  line_here = ap (slice_get mine) (sym is) ∙ slice_get-get_or mine own d left

  pub named_if : (o : Option ℕ) → IfSome o (λ p. IsFirstFree rank theirs seen p)
      → IfSome o (λ p. IsNaming mine theirs (to ++ p ∷ []) (slice_set back p (Some (length to))))
  named_if None none = tt
  named_if (Some p) first =
      named_next mine theirs to back so_far (get_or mine own d) line_here p
      (subst (λ r. IsFirstFree r theirs back p) made (subst (λ xs. IsFirstFree rank theirs xs p) same first))

  pub inside_if : (o : Option ℕ) → IfSome o (λ p. IsFirstFree rank theirs seen p) → IfSome o (λ p. p < length back)
  inside_if None none = tt
  inside_if (Some p) first =
      (let f = subst (λ xs. IsFirstFree rank theirs xs p) same first in get_within back p None f.free.free)

  pub none_if : ((p : ℕ) → ¬ IsFree rank theirs seen p) → (names : Renaming) → ¬ Corresponds names mine theirs
  none_if none =
      no_place mine theirs to back so_far (get_or mine own d) line_here
      (λ p free. none p (subst (λ xs. IsFree rank theirs xs p) (sym same) (subst (λ r. IsFree r theirs back p) (sym made) free)))

-- where nothing was named
pub named_none : (mine theirs : List Line) (back : List (Option ℕ)) → length back ≡ length theirs
    → ((p : ℕ) (o : Option ℕ) → slice_get back p ≡ Some o → o ≡ None) → IsNaming mine theirs [] back
named_none mine theirs back even none = record {
  even = even;
  there = λ k p t. absurd (cc);
  again = λ p k b. absurd (let n = none p (Some k) b in cc);
  ranks = λ i j p q m n before at then made goes next. absurd (cc);
  least = λ k p q m at goes free. absurd (cc);
  forced = λ names c k p t. absurd (cc);
}
