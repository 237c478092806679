-- Alike boards have as many sends without a partner.
use Rattle.std.proofs.Common.{◌≡◌, ℕ, zero, suc, ◌+◌, ◌≤◌, List, [], ◌∷◌, map, Bool, true, false, cond, Option, Some, None, refl, sym, ap, ◌∙◌, arith}
use Rattle.std.specs.List.{slice_get, slice_set}
use Rattle.std.specs.Option.{option_map}
use Rattle.std.proofs.lemmas.List.Recursion.{is_count_by}
use Rattle.std.proofs.lemmas.Option.{same_Some, slice_get-map}
use Rattle.mp_match.specs.declared.posts.Line.{Line}
use Rattle.mp_match.specs.declared.posts.Sent.{Sent}
use Rattle.mp_match.specs.Board.{Board}
use Rattle.mp_match.specs.Pairs.{is_free}
use Rattle.mp_wait_laws.proofs.Sets.{get-set_other}
use Rattle.mp_alike_laws.specs.Renaming.{Renaming, line_by, turned}
use Rattle.mp_source_laws.specs.Alike.{AlikeBoards, Wild}
use Rattle.mp_source_laws.proofs.Likeness.{hub_back}
use Rattle.mp_source_laws.proofs.Over.{free_is_live, same_or_over}
use Rattle.cl_rest_laws.specs.Unpaired.{is_send}
use Rattle.cl_rest_laws.specs.UnpairedLaw.{UnpairedLaw, is_unpaired, unpaired_count}

-- ---- marks

abbrev marks : List Bool → ℕ
marks [] = 0
marks (true ∷ bs) = marks bs + 1
marks (false ∷ bs) = marks bs

unmarked : (bs : List Bool) (i : ℕ) → slice_get bs i ≡ Some true → marks (slice_set bs i false) + 1 ≡ marks bs
unmarked [] i here = absurd (cc)
unmarked (true ∷ bs) zero here = refl
unmarked (false ∷ bs) zero here = absurd (cc)
unmarked (true ∷ bs) (suc i) here = ap (λ n. n + 1) (unmarked bs i here)
unmarked (false ∷ bs) (suc i) here = unmarked bs i here

-- where each mark of the one has a place of its own in the other, the other has as many at least
no_more : (bs cs : List Bool) (to : ℕ → ℕ) → ((i j : ℕ) → to i ≡ to j → i ≡ j)
    → ((i : ℕ) → slice_get bs i ≡ Some true → slice_get cs (to i) ≡ Some true) → marks bs ≤ marks cs
no_more [] cs to one at = omega arith
no_more (false ∷ bs) cs to one at =
    no_more bs cs (λ i. to (suc i)) (λ i j e. (let f = one (suc i) (suc j) e in omega (arith, f)))
    (λ i here. at (suc i) here)
no_more (true ∷ bs) cs to one at =
    let fewer = no_more bs (slice_set cs (to 0) false) (λ i. to (suc i))
    (λ i j e. (let f = one (suc i) (suc j) e in omega (arith, f)))
    (λ i here.
    get-set_other cs (to 0) (to (suc i)) false (λ e. (let f : 0 ≡ suc i = one 0 (suc i) e in absurd (omega (arith, f))))
    ∙ at (suc i) here) in
    let gone = unmarked cs (to 0) (at 0 refl) in
    omega (arith, fewer, gone)

marks_count : (p : Sent → Bool) (lines : List Line) → marks (map (is_unpaired p) lines) ≡ unpaired_count p lines
marks_count p = is_count_by (λ lines. marks (map (is_unpaired p) lines)) (is_unpaired p) refl more
  where
    more : (x : Line) (xs : List Line)
        → marks (is_unpaired p x ∷ map (is_unpaired p) xs)
        ≡ cond (is_unpaired p x) (1 + marks (map (is_unpaired p) xs)) (marks (map (is_unpaired p) xs))
    more x xs = go (is_unpaired p x) (marks (map (is_unpaired p) xs)) (map (is_unpaired p) xs) refl
      where
        go : (b : Bool) (n : ℕ) (bs : List Bool) → marks bs ≡ n → marks (b ∷ bs) ≡ cond b (1 + n) n
        go true n bs e = omega (arith, e)
        go false n bs e = e

-- ---- a send without a partner has one in the other board

pub without_partner : (p : Sent → Bool) (line : Line) → is_unpaired p line ≡ true → line.partner ≡ None
without_partner p line is = go line.partner refl
  where
    go : (o : Option ℕ) → line.partner ≡ o → line.partner ≡ None
    go None e = e
    go (Some k) e = absurd (apart (sym is ∙ ap (λ q. is_send p (cond (is_free q) (Some line.post) None)) e))
      where
        apart : true ≡ false → ⊥
        apart e = absurd (cc)

renamed : (names : Renaming) (p : Sent → Bool) (line : Line) → is_unpaired p (line_by names line) ≡ is_unpaired p line
renamed names p line = ap (λ x. is_send p (cond x (Some line.post) None)) (go line.partner)
  where
    go : (o : Option ℕ) → is_free (option_map names.to o) ≡ is_free o
    go None = refl
    go (Some k) = refl

module _ {wild : Wild} (names : Renaming) (a b : Board) (alike : AlikeBoards wild names a b) (p : Sent → Bool) where
  pub marked_too : (i : ℕ) → slice_get (map (is_unpaired p) a.lines) i ≡ Some true
      → slice_get (map (is_unpaired p) b.lines) (names.to i) ≡ Some true
  marked_too i here = go (slice_get a.lines i) refl (sym (slice_get-map (is_unpaired p) a.lines i) ∙ here)
    where
      go : (o : Option Line) → slice_get a.lines i ≡ o → option_map (is_unpaired p) o ≡ Some true
          → slice_get (map (is_unpaired p) b.lines) (names.to i) ≡ Some true
      go None e is = absurd (cc)
      go (Some line) e is =
          let so = same_Some (is_unpaired p line) true is in
          let live = free_is_live a i line e (without_partner p line so) in
          slice_get-map (is_unpaired p) b.lines (names.to i)
          ∙ ap (option_map (is_unpaired p)) (same_or_over names a b i (alike.lines i) live ∙ ap (option_map (line_by names)) e)
          ∙ ap (λ x. Some x) (renamed names p line ∙ so)

  unpaired_less : unpaired_count p a.lines ≤ unpaired_count p b.lines
  unpaired_less =
      let some = no_more (map (is_unpaired p) a.lines) (map (is_unpaired p) b.lines) names.to
      (λ i j e. sym (names.there i) ∙ ap names.back e ∙ names.there j) marked_too in
      let one = marks_count p a.lines in
      let other = marks_count p b.lines in
      omega (arith, some, one, other)

pub unpaired_law : UnpairedLaw
unpaired_law wild names h k p alike =
    let up = unpaired_less names h.board k.board alike.board p in
    let down = unpaired_less (turned names) k.board h.board (hub_back names h k alike).board p in
    omega (arith, up, down)
