-- Boards stay alike where the same is posted in both.
use Rattle.std.proofs.Common.{◌≡◌, ℕ, zero, suc, ◌+◌, ◌<◌, ◌⊎◌, inl, inr, List, [], ◌∷◌, ◌++◌, length, Option, Some, None, refl, sym, ap, ◌∙◌, subst, arith}
use Rattle.std.specs.List.{slice_get}
use Rattle.std.specs.Option.{option_map}
use Rattle.std.proofs.lemmas.Bool.{and_parts, cases_eq, cases_lt, cases_order}
use Rattle.std.proofs.lemmas.Option.{same_Some, slice_get_past}
use Rattle.mp_match.specs.declared.posts.Line.{Line}
use Rattle.mp_match.specs.declared.posts.Post.{Post}
use Rattle.mp_match.specs.declared.posts.Post.TheVariants.{Send, Receive}
use Rattle.mp_match.specs.declared.posts.Sent.{Sent}
use Rattle.mp_match.specs.Board.{Board, board_with}
use Rattle.mp_match.specs.Pairs.{add, fits, is_free, may_pair, partner_for}
use Rattle.mp_match.proofs.OrderKept.{free_none}
use Rattle.mp_match.proofs.Places.{found_first, get_last, get_within}
use Rattle.mp_match.proofs.Lines.{Look, add_given, add_length, add_new, add_old, given, is_given, is_new, is_old, look}
use Rattle.mp_alike_laws.specs.Renaming.{Renaming, line_by}
use Rattle.mp_alike_laws.specs.Alike.{IsUnpaired, maker}
use Rattle.mp_source_laws.specs.Alike.{AlikeBoards, IsAlikeAt, IsOver, IsOverReceive, IsOverSend, IsSameAt, Wild, is_same, over_receives, over_sends}
use Rattle.mp_source_laws.proofs.Over.{paired}
use Rattle.mp_source_laws.proofs.Partners.{May, found_named}

back_some : (names : Renaming) (p : ℕ) (o : Option ℕ) → option_map names.to o ≡ Some (names.to p) → o ≡ Some p
back_some names p None h = absurd (cc)
back_some names p (Some q) h =
    let e : names.to q ≡ names.to p = same_Some (names.to q) (names.to p) h in
    ap (λ z. Some z) (sym (names.there q) ∙ ap names.back e ∙ names.there p)

-- what stands at a place of a longer list
same_past : {A : Type 0} (xs : List A) (y : A) (i : ℕ) → (i ≡ length xs → ⊥) → slice_get (xs ++ y ∷ []) i ≡ slice_get xs i
same_past [] y zero h = absurd (h refl)
same_past [] y (suc i) h = refl
same_past (x ∷ xs) y zero h = refl
same_past (x ∷ xs) y (suc i) h = same_past xs y i (λ e. h (ap suc e))

-- ---- what is over stays so

module _ (b : Board) (p : Post) (body : Option (List ℕ)) where
  -- a post that has a partner isn't given another one
  keeps_line : (i partner : ℕ) (m : Line) → slice_get b.lines i ≡ Some m → m.partner ≡ Some partner
      → slice_get (add b.lines p) i ≡ Some m
  keeps_line i partner m here taken = add_old b.lines p i m here (λ found.
      let t = found_first (fits p) b.lines i found in
      let is : t.0 ≡ m = same_Some t.0 m (sym t.1 ∙ here) in
      let free = free_none (t.0).partner (and_parts (is_free (t.0).partner) (may_pair p (t.0).post) t.2).0 in
      let e : None ≡ Some partner = sym free ∙ ap (λ (z : Line). z.partner) is ∙ taken in
      absurd (cc))

  keeps_gone : (i : ℕ) → slice_get b.bodies i ≡ Some None → slice_get (b.bodies ++ body ∷ []) i ≡ Some None
  keeps_gone i gone =
      same_past b.bodies body i (λ e. (let w = get_within b.bodies i None gone in absurd (omega (arith, w, e)))) ∙ gone

  send_posted_over : (i : ℕ) → IsOverSend b i → IsOverSend (board_with b p body) i
  send_posted_over i o = record {
    sent = o.sent;
    partner = o.partner;
    there = keeps_line i o.partner (paired (Send o.sent) o.partner) o.there refl;
    standard = o.standard;
    gone = keeps_gone i o.gone;
  }

  receive_posted_over : (i : ℕ) → IsOverReceive b i → IsOverReceive (board_with b p body) i
  receive_posted_over i o = record {
    what = o.what;
    partner = o.partner;
    there = keeps_line i o.partner (paired (Receive o.what) o.partner) o.there refl;
    gone = keeps_gone o.partner o.gone;
  }

  over_posted : (i : ℕ) → IsOver b i → IsOver (board_with b p body) i
  over_posted i (inl o) = inl (send_posted_over i o)
  over_posted i (inr o) = inr (receive_posted_over i o)

module _ {wild : Wild} (names : Renaming) (a b : Board) (alike : AlikeBoards wild names a b) where
  -- a place in use goes to a place in use
  pub below : (i : ℕ) → i < length a.lines → names.to i < length a.lines
  below i h = elim (cases_lt (names.to i) (length a.lines)) [
    | inl is ↦ is
    | inr past ↦
        let e : names.to (names.to i) ≡ names.to i = alike.next (names.to i) past in
        let f : names.to i ≡ i = sym (names.there (names.to i)) ∙ ap names.back e ∙ names.there i in
        absurd (omega (arith, h, past, f))
  ]

  module _ (p : Post) (may : May wild p) (body : Option (List ℕ)) (even : length a.bodies ≡ length a.lines)
      (also : length b.bodies ≡ length b.lines) where
    last : names.to (length a.lines) ≡ length a.lines
    last = alike.next (length a.lines) (omega arith)

    longer : length (add a.lines p) ≡ length a.lines + 1
    longer = add_length a.lines p

    new_line : slice_get (add b.lines p) (length a.lines)
        ≡ Some (line_by names (record { post = p; partner = partner_for a.lines p }))
    new_line =
        subst (λ n. slice_get (add b.lines p) n
        ≡ Some (record { post = p; partner = partner_for b.lines p })) alike.many (add_new b.lines p)
        ∙ ap (λ (o : Option ℕ). (let m : Line = record { post = p; partner = o } in Some m))
        (found_named names a b alike p may)

    -- the new post is the same in both
    pub new_same : IsSameAt names (board_with a p body) (board_with b p body) (length a.lines)
    new_same =
        ap (slice_get (add b.lines p)) last ∙ new_line ∙ ap (option_map (line_by names)) (sym (add_new a.lines p))

    more_lines : (place : ℕ) → IsAlikeAt names (board_with a p body) (board_with b p body) place
    more_lines place = elim (cases_order place (length a.lines)) [
      | inl same ↦ subst (IsAlikeAt names (board_with a p body) (board_with b p body)) (sym same) (is_same new_same)
      | inr other ↦ elim other [
        | inl before ↦ kept before (alike.lines place)
        | inr past ↦ is_same
            (let e : names.to place ≡ place = alike.next place (omega (arith, past)) in
            ap (slice_get (add b.lines p)) e
            ∙ slice_get_past (add b.lines p) place
            (let l = add_length b.lines p in let m = alike.many in omega (arith, l, m, past))
            ∙ ap (option_map (line_by names))
            (sym (slice_get_past (add a.lines p) place (let l = longer in omega (arith, l, past)))))
      ]
    ]
      where
        old : IsSameAt names a b place → (o : Option Line) → slice_get a.lines place ≡ o → place < length a.lines
            → (q : Option ℕ) → partner_for a.lines p ≡ q
            → slice_get (add b.lines p) (names.to place) ≡ option_map (line_by names) (slice_get (add a.lines p) place)
        old same None here before q found =
            let n = slice_get_within a.lines place before in absurd (cc)
          where
            slice_get_within : (xs : List Line) (k : ℕ) → k < length xs → (x : Line) × (slice_get xs k ≡ Some x)
            slice_get_within [] k h = absurd (omega (arith, h))
            slice_get_within (x ∷ xs) zero h = (x, refl)
            slice_get_within (x ∷ xs) (suc k) h = slice_get_within xs k (omega (arith, h))
        old same (Some m) here before q found = elim (cases_found q) [
          | inl is ↦
              let at : partner_for a.lines p ≡ Some place = found ∙ is in
              add_given b.lines p (names.to place) (line_by names m) there
              (found_named names a b alike p may ∙ ap (option_map names.to) at)
              ∙ ap (λ n. Some (given (line_by names m) n)) alike.many
              ∙ ap (λ n. Some (given (line_by names m) n)) (sym last)
              ∙ ap (option_map (line_by names)) (sym (add_given a.lines p place m here at))
          | inr not ↦
              add_old b.lines p (names.to place) (line_by names m) there
              (λ e. not (sym found ∙ back_some names place (partner_for a.lines p) (sym (found_named names a b alike p may) ∙ e)))
              ∙ ap (option_map (line_by names)) (sym (add_old a.lines p place m here (λ e. not (sym found ∙ e))))
        ]
          where
            there : slice_get b.lines (names.to place) ≡ Some (line_by names m)
            there = same ∙ ap (option_map (line_by names)) here

            cases_found : (o : Option ℕ) → (o ≡ Some place) ⊎ (o ≡ Some place → ⊥)
            cases_found None = inr (λ e. absurd (cc))
            cases_found (Some k) = elim (cases_eq k place) [
              | inl same ↦ inl (ap (λ z. Some z) same)
              | inr not ↦ inr (λ e. not (same_Some k place e))
            ]

        kept : place < length a.lines → IsAlikeAt names a b place
            → IsAlikeAt names (board_with a p body) (board_with b p body) place
        kept before (is_same same) =
            is_same (old same (slice_get a.lines place) refl before (partner_for a.lines p) refl)
        kept before (over_sends mine theirs) =
            over_sends (send_posted_over a p body place mine) (send_posted_over b p body (names.to place) theirs)
        kept before (over_receives mine theirs) =
            over_receives (receive_posted_over a p body place mine) (receive_posted_over b p body (names.to place) theirs)

    more_bodies : (place : ℕ)
        → slice_get (b.bodies ++ body ∷ []) (names.to place) ≡ slice_get (a.bodies ++ body ∷ []) place
    more_bodies place = elim (cases_eq place (length a.lines)) [
      | inl same ↦
          ap (λ i. slice_get (b.bodies ++ body ∷ []) (names.to i)) same
          ∙ ap (slice_get (b.bodies ++ body ∷ [])) (last ∙ sym alike.many ∙ sym also)
          ∙ get_last b.bodies body
          ∙ sym (ap (slice_get (a.bodies ++ body ∷ [])) (same ∙ sym even) ∙ get_last a.bodies body)
      | inr other ↦
          same_past b.bodies body (names.to place)
          (λ e. other (sym (names.there place) ∙ ap names.back (e ∙ also ∙ alike.many ∙ sym last)
          ∙ names.there (length a.lines)))
          ∙ alike.bodies place
          ∙ sym (same_past a.bodies body place (λ e. other (e ∙ even)))
    ]

    -- an old post keeps its maker
    before_new : (i : ℕ) (m : Line) → slice_get (add a.lines p) i ≡ Some m → i < length a.lines
        → (x : Line) × (slice_get a.lines i ≡ Some x) × (x.post ≡ m.post)
    before_new i m here first = go (look a.lines p i m here)
      where
        go : Look a.lines p i m → (x : Line) × (slice_get a.lines i ≡ Some x) × (x.post ≡ m.post)
        go (is_new at is) = absurd (omega (arith, at, first))
        go (is_old old) = (m, old, refl)
        go (is_given x old found is) = (x, old, sym (ap (λ (z : Line). z.post) is))

    unpaired_before : (i : ℕ) (s : Sent) → IsUnpaired (add a.lines p) i s → i < length a.lines → IsUnpaired a.lines i s
    unpaired_before i s here first = go (look a.lines p i (record { post = Send s; partner = None }) here)
      where
        go : Look a.lines p i (record { post = Send s; partner = None }) → IsUnpaired a.lines i s
        go (is_new at is) = absurd (omega (arith, at, first))
        go (is_old old) = old
        go (is_given x old found is) =
            (let e : None ≡ Some (length a.lines) = ap (λ (z : Line). z.partner) is in absurd (cc))

    -- whatever is before the new post stays so
    in_order : (i j : ℕ) → i < j → j < length a.lines + 1 → (j < length a.lines → names.to i < names.to j)
        → names.to i < names.to j
    in_order i j first within known = elim (cases_eq j (length a.lines)) [
      | inl at ↦
          let e : names.to j ≡ length a.lines = ap names.to at ∙ last in
          let l = below i (omega (arith, first, at)) in
          omega (arith, e, l)
      | inr other ↦ known (omega (arith, other, within))
    ]

    within : (i : ℕ) (m : Line) → slice_get (add a.lines p) i ≡ Some m → i < length a.lines + 1
    within i m here = (let w = get_within (add a.lines p) i m here in let l = longer in omega (arith, w, l))

    pub posted_alike : AlikeBoards wild names (board_with a p body) (board_with b p body)
    posted_alike = record {
      many = add_length b.lines p ∙ ap (λ n. n + 1) alike.many ∙ sym longer;
      next = λ place past. alike.next place (let l = longer in omega (arith, past, l));
      lines = more_lines;
      bodies = more_bodies;
      claims = λ place line what here is. elim (cases_eq place (length a.lines)) [
        | inl at ↦ ap names.to at ∙ last ∙ sym at
        | inr other ↦
            let x = before_new place line here (let w = within place line here in omega (arith, w, other)) in
            alike.claims place x.0 what x.1 (x.2 ∙ is)
      ];
      ranks = λ i j m n first here there same live alive. in_order i j first (within j n there) (λ old.
          let x = before_new i m here (omega (arith, first, old)) in
          let y = before_new j n there old in
          alike.ranks i j x.0 y.0 first x.1 y.1 (ap maker x.2 ∙ same ∙ ap maker (sym y.2))
          (λ over. live (over_posted a p body i over)) (λ over. alive (over_posted a p body j over)));
      sends = λ i j s t first here there dest comm any.
          in_order i j first (within j (record { post = Send t; partner = None }) there) (λ old.
          alike.sends i j s t first (unpaired_before i s here (omega (arith, first, old)))
          (unpaired_before j t there old) dest comm any);
    }
