-- Boards are alike by the names that were found, or by none.
use Rattle.std.proofs.Common.{◌≡◌, ℕ, zero, suc, ◌<◌, ◌≤◌, inl, inr, List, [], ◌∷◌, length, Bool, true, false, Option, Some, None, refl, sym, ap, ◌∙◌, subst, arith}
use Rattle.std.specs.Prelude.{◌&&◌, IfSome, is_some}
use Rattle.std.specs.List.{list_all, slice_get}
use Rattle.std.specs.Option.{option_map}
use Rattle.std.proofs.lemmas.Bool.{and_parts, cases_lt}
use Rattle.std.proofs.lemmas.Option.{get_or_from_slice_get, same_Some, slice_get_past}
use Rattle.mp_match.specs.declared.posts.Line.{Line}
use Rattle.mp_match.specs.Board.{Board}
use Rattle.mp_match.proofs.Places.{get_within}
use Rattle.mp_alike_laws.specs.Renaming.{Renaming, line_by}
use Rattle.mp_alike_laws.specs.Alike.{AlikeBoards, maker}
use Rattle.mp_alike.specs.Names.{IsListed, renamed}
use Rattle.mp_alike.specs.InnerNames.{Corresponds, IsNaming}
use Rattle.mp_alike.specs.InnerAlike.{AreAlikeBoards, IsAlikeBoardBy, line_to}
use Rattle.mp_alike.proofs.Places.{past_end, there_is}

-- behind the end of the list
stays : (to : List ℕ) (place : ℕ) → length to ≤ place → renamed to place ≡ place
stays to place past = past_end to place place past

goes : (to : List ℕ) (place p : ℕ) → slice_get to place ≡ Some p → renamed to place ≡ p
goes to place p at = get_or_from_slice_get to place p place at

-- ---- to a renaming

all_at : (xs : List (Option ℕ)) → list_all (λ o. is_some o) xs ≡ true → (p : ℕ) → slice_get xs p ≡ Some None → ⊥
all_at [] all p at = cc
all_at (x ∷ xs) all zero at =
    let is : x ≡ None = same_Some x None at in
    let t = (and_parts (is_some x) (list_all (λ o. is_some o) xs) all).0 in
    let f : is_some x ≡ false = ap (λ (o : Option ℕ). is_some o) is in cc
all_at (x ∷ xs) all (suc p) at = all_at xs (and_parts (is_some x) (list_all (λ o. is_some o) xs) all).1 p at

abbrev back_in : ℕ → Option (Option ℕ) → ℕ
back_in place (Some (Some k)) = k
back_in place (Some None) = place
back_in place None = place

module _ (a b : Board) (to : List ℕ) (back : List (Option ℕ)) (many : length b.lines ≡ length a.lines)
    (naming : IsNaming a.lines b.lines to back) (all : length to ≡ length a.lines)
    (full : list_all (λ o. is_some o) back ≡ true) where
  even : length back ≡ length to
  even = naming.even ∙ many ∙ sym all

  abbrev from : ℕ → ℕ
  from place = back_in place (slice_get back place)

  there : (place : ℕ) → from (renamed to place) ≡ place
  there place = elim (cases_lt place (length to)) [
    | inl below ↦
        let t = there_is to place below in
        ap from (goes to place t.0 t.1) ∙ ap (back_in t.0) (naming.there place t.0 t.1)
    | inr past ↦
        ap from (stays to place past)
        ∙ ap (back_in place) (slice_get_past back place (let e = even in omega (arith, e, past)))
  ]

  again : (place : ℕ) → renamed to (from place) ≡ place
  again place = go (slice_get back place) refl
    where
      go : (o : Option (Option ℕ)) → slice_get back place ≡ o → renamed to (from place) ≡ place
      go None e =
          ap (λ o. renamed to (back_in place o)) e
          ∙ elim (cases_lt place (length back)) [
            | inl below ↦ (let t = there_is back place below in absurd (let f = t.1 in cc))
            | inr past ↦ stays to place (let v = even in omega (arith, v, past))
          ]
      go (Some None) e = absurd (all_at back full place e)
      go (Some (Some k)) e = ap (λ o. renamed to (back_in place o)) e ∙ goes to k place (naming.again place k e)

  abbrev found : Renaming
  found = record { to = renamed to; back = from; there = there; again = again }

  past_all : (place : ℕ) → length a.lines ≤ place → renamed to place ≡ place
  past_all place past = stays to place (let v = all in omega (arith, v, past))

  module _ (even_a : length a.bodies ≡ length a.lines) (even_b : length b.bodies ≡ length b.lines)
      (h : AreAlikeBoards to a b) where
    lines : (place : ℕ) → slice_get b.lines (renamed to place) ≡ option_map (line_to to) (slice_get a.lines place)
    lines place = elim (cases_lt place (length a.lines)) [
      | inl below ↦ (h.each place below).line
      | inr past ↦
          ap (slice_get b.lines) (past_all place past)
          ∙ slice_get_past b.lines place (let m = many in omega (arith, m, past))
          ∙ ap (option_map (line_to to)) (sym (slice_get_past a.lines place past))
    ]

    bodies : (place : ℕ) → slice_get b.bodies (renamed to place) ≡ slice_get a.bodies place
    bodies place = elim (cases_lt place (length a.lines)) [
      | inl below ↦ (h.each place below).body
      | inr past ↦
          ap (slice_get b.bodies) (past_all place past)
          ∙ slice_get_past b.bodies place (let m = many in let e = even_b in omega (arith, m, e, past))
          ∙ sym (slice_get_past a.bodies place (let e = even_a in omega (arith, e, past)))
    ]

    ranks : (i j : ℕ) (m n : Line) → i < j → slice_get a.lines i ≡ Some m → slice_get a.lines j ≡ Some n
        → maker m.post ≡ maker n.post → renamed to i < renamed to j
    ranks i j m n before here then made =
        let w = get_within a.lines i m here in
        let v = get_within a.lines j n then in
        let p = there_is to i (let e = all in omega (arith, e, w)) in
        let q = there_is to j (let e = all in omega (arith, e, v)) in
        let l = naming.ranks i j p.0 q.0 m n before here then made p.1 q.1 in
        let x = goes to i p.0 p.1 in let y = goes to j q.0 q.1 in omega (arith, l, x, y)

    pub alike_by : IsAlikeBoardBy to a b
    alike_by = record {
      names = found;
      listed = λ place. refl;
      alike = record {
        many = many;
        next = past_all;
        lines = lines;
        bodies = bodies;
        claims = λ place line what here is.
            (h.each place (get_within a.lines place line here)).claim line what here is;
        ranks = ranks;
        sends = λ i j s t before here then dest comm. h.sends i s here j t before then dest comm;
      };
    }

-- ---- from a renaming

corresponds : (names : Renaming) (a b : Board) → AlikeBoards names a b → Corresponds names a.lines b.lines
corresponds by a b alike = record { lines = alike.lines; ranks = alike.ranks }

module _ (names : Renaming) (a b : Board) (alike : AlikeBoards names a b) (to : List ℕ) (back : List (Option ℕ))
    (naming : IsNaming a.lines b.lines to back) (all : length to ≡ length a.lines) where
  -- the names that were found are the renaming's
  listed : IsListed names to
  listed place = elim (cases_lt place (length to)) [
    | inl below ↦
        let t = there_is to place below in
        naming.forced names (corresponds names a b alike) place t.0 t.1 ∙ sym (goes to place t.0 t.1)
    | inr past ↦
        alike.next place (let v = all in omega (arith, v, past)) ∙ sym (stays to place past)
  ]

  same_names : names.to ≡ renamed to
  same_names = λ k place. listed place k

  pub found_alike : AreAlikeBoards to a b
  found_alike = record {
    each = λ place below. record {
      line = subst (λ (f : ℕ → ℕ). slice_get b.lines (f place)
          ≡ option_map (λ (line : Line). (let l : Line = record { post = line.post; partner = option_map f line.partner } in l))
          (slice_get a.lines place)) same_names (alike.lines place);
      body = ap (slice_get b.bodies) (sym (listed place)) ∙ alike.bodies place;
      claim = λ line what here is. sym (listed place) ∙ alike.claims place line what here is;
    };
    sends = λ i s here j t before then dest comm.
        (let l = alike.sends i j s t before here then dest comm in
        let x = listed i in let y = listed j in omega (arith, l, x, y));
  }

  filled : (p : ℕ) (o : Option ℕ) → slice_get back p ≡ Some o → is_some o ≡ true
  filled p o at =
      let w = get_within back p o at in
      let t = there_is b.lines p (let e = naming.even in omega (arith, e, w)) in
      go (slice_get a.lines (names.back p)) refl t.0 t.1
    where
      go : (x : Option Line) → slice_get a.lines (names.back p) ≡ x → (line : Line) → slice_get b.lines p ≡ Some line
          → is_some o ≡ true
      go None e line here =
          let g = sym here ∙ sym (ap (slice_get b.lines) (names.again p)) ∙ alike.lines (names.back p)
          ∙ ap (option_map (line_by names)) e in absurd (cc)
      go (Some m) e line here =
          let w = get_within a.lines (names.back p) m e in
          let t = there_is to (names.back p) (let v = all in omega (arith, v, w)) in
          let f = naming.forced names (corresponds names a b alike) (names.back p) t.0 t.1 in
          let same : t.0 ≡ p = sym f ∙ names.again p in
          let g = naming.there (names.back p) t.0 t.1 in
          let is : o ≡ Some (names.back p) =
          same_Some o (Some (names.back p)) (sym at ∙ sym (ap (slice_get back) same) ∙ g) in
          ap (λ (x : Option ℕ). is_some x) is

  pub all_filled : list_all (λ o. is_some o) back ≡ true
  all_filled = go back filled
    where
      go : (xs : List (Option ℕ)) → ((p : ℕ) (o : Option ℕ) → slice_get xs p ≡ Some o → is_some o ≡ true)
          → list_all (λ o. is_some o) xs ≡ true
      go [] each = refl
      go (x ∷ xs) each =
          ap (λ t. t && list_all (λ o. is_some o) xs) (each 0 x refl)
          ∙ go xs (λ p o at. each (suc p) o at)

-- ---- where no names are told

module _ (a b : Board) (mine theirs : List Line) (one : mine ≡ a.lines) (other : theirs ≡ b.lines) where
  pub none_named : ((names : Renaming) → ¬ Corresponds names mine theirs) → (names : Renaming) → ¬ AlikeBoards names a b
  none_named none by alike =
      none by (subst (λ xs. Corresponds by xs theirs) (sym one)
      (subst (λ ys. Corresponds by a.lines ys) (sym other) (corresponds by a b alike)))

  module _ (to : List ℕ) (back : List (Option ℕ)) (naming : IsNaming mine theirs to back) (all : length to ≡ length mine)
    where
      naming_is : IsNaming a.lines b.lines to back
      naming_is =
          subst (λ xs. IsNaming xs b.lines to back) one (subst (λ ys. IsNaming mine ys to back) other naming)

      all_is : length to ≡ length a.lines
      all_is = all ∙ ap (λ (xs : List Line). length xs) one

      pub none_unfilled : (r : Bool) (seen : List (Option ℕ)) → seen ≡ back → r ≡ list_all (λ o. is_some o) seen → r ≡ false
          → (names : Renaming) → ¬ AlikeBoards names a b
      none_unfilled r seen same is wrong by alike =
          let t = all_filled by a b alike to back naming_is all_is in
          let g : r ≡ true = is ∙ ap (λ xs. list_all (λ (o : Option ℕ). is_some o) xs) same ∙ t in
          let h : true ≡ false = sym g ∙ wrong in cc

      pub none_unlike : (r : Bool) (seen : List ℕ) → seen ≡ to → (AreAlikeBoards seen a b → r ≡ true) → r ≡ false
          → (names : Renaming) → ¬ AlikeBoards names a b
      none_unlike r seen same is wrong by alike =
          let h = found_alike by a b alike to back naming_is all_is in
          let g : r ≡ true = is (subst (λ xs. AreAlikeBoards xs a b) (sym same) h) in
          let t : true ≡ false = sym g ∙ wrong in cc

-- of an option that is there
pub some_is : {A : Type 0} (P : A → Type 0) (o : Option A) (x : A) → o ≡ Some x → IfSome o P → P x
some_is P None x e h = absurd (cc)
some_is P (Some y) x e h = subst P (same_Some y x e) h
