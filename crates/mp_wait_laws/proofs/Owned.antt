-- A claimed message waits for the rank that claimed it.
use Rattle.std.proofs.Common.{◌≡◌, ℕ, ◌+◌, ◌⊎◌, inl, inr, List, [], ◌∷◌, length, Bool, true, false, cond, not, Some, refl, sym, ap, ◌∙◌, subst}
use Rattle.std.specs.Prelude.{◌||◌, ◌==◌}
use Rattle.std.specs.List.{slice_get}
use Rattle.std.proofs.lemmas.Bool.{and_from, and_parts, eq-eqb, eqb-true, or_cases, or_left, or_right}
use Rattle.std.proofs.lemmas.List.Folds.{list_any-append}
use Rattle.rv_image_types.specs.declared.images.Link.{Link}
use Rattle.mp_match.specs.declared.posts.Selection.{Selection}
use Rattle.mp_match.specs.declared.posts.Post.TheVariants as post
use Rattle.mp_match.specs.declared.posts.Line.{Line}
use Rattle.mp_match.specs.Pairs.{partner_for}
use Rattle.mp_match.proofs.Lines.{add_new}
use Rattle.mp_probe.specs.declared.handles.Waiting.{Waiting}
use Rattle.mp_probe.specs.Claims.{is_claim, is_waiting, may_receive, next_number, without_claim}
use Rattle.mp_hub.specs.Hub.{Call, HubView, hub_after, hub_on, outcome, hub_at_start}
use Rattle.mp_wait_laws.proofs.Lines.{post_stays}
use Rattle.mp_wait_laws.proofs.Moves.{ClaimsBy, GrowsBy, Moves, all, fits_all, moves, stay, less, more}

-- this post is a claim by this rank
pub record ClaimAt (lines : List Line) (rank number : ℕ) : Type 0 where
  pub place : ℕ
  pub numbered : number ≡ place + 1
  pub line : Line
  pub here : slice_get lines place ≡ Some line
  pub what : Selection
  pub claims : line.post ≡ post.Claim what
  pub mine : what.rank ≡ rank

abbrev pub AreOwned : HubView → Type 0
AreOwned h = (rank number : ℕ) → may_receive h.claims rank number ≡ true → ClaimAt h.board.lines rank number

-- ---- a waiting message is somebody's

pub somebody's : (ws : List Waiting) (number : ℕ) → is_waiting ws number ≡ true
    → (rank : ℕ) × (may_receive ws rank number ≡ true)
somebody's [] number h = absurd (cc)
somebody's (w ∷ ws) number h = elim (or_cases (w.message == number) (is_waiting ws number) h) [
  | inl here ↦ (
    w.rank,
    or_left (is_claim w.rank number w) _
        (and_from (w.rank == w.rank) (w.message == number) (eq-eqb w.rank w.rank refl) here),
  )
  | inr there ↦ (let s = somebody's ws number there in
      (s.0, or_right (is_claim s.0 number w) (may_receive ws s.0 number) s.1))
]

pub waits_for_it : (ws : List Waiting) (rank number : ℕ) → may_receive ws rank number ≡ true
    → is_waiting ws number ≡ true
waits_for_it [] rank number h = absurd (cc)
waits_for_it (w ∷ ws) rank number h = elim (or_cases (is_claim rank number w) (may_receive ws rank number) h) [
  | inl here ↦ or_left (w.message == number) _ (and_parts (w.rank == rank) (w.message == number) here).1
  | inr there ↦ or_right (w.message == number) _ (waits_for_it ws rank number there)
]

-- ---- kept by each call

grown : (r : ℕ) (old new : List Line) (rank number : ℕ) → GrowsBy all r old new → ClaimAt old rank number
    → ClaimAt new rank number
grown r old new rank number (inl same) c = subst (λ ms. ClaimAt ms rank number) (sym same) c
grown r old new rank number (inr g) c =
    let n = post_stays old g.0 c.place c.line c.here in
    subst (λ ms. ClaimAt ms rank number) (sym g.2) (record {
      place = c.place;
      numbered = c.numbered;
      line = n.0;
      here = n.1;
      what = c.what;
      claims = n.2 ∙ c.claims;
      mine = c.mine;
    })

-- what is received leaves no more than was there
fewer : (ws : List Waiting) (r n rank number : ℕ) → may_receive (without_claim ws r n) rank number ≡ true
    → may_receive ws rank number ≡ true
fewer [] r n rank number h = h
fewer (w ∷ ws) r n rank number h = go (not (is_claim r n w)) (fewer ws r n rank number) h
  where
    go : (b : Bool) → (may_receive (without_claim ws r n) rank number ≡ true → may_receive ws rank number ≡ true)
        → may_receive (cond b (w ∷ without_claim ws r n) (without_claim ws r n)) rank number ≡ true
        → (is_claim rank number w || may_receive ws rank number) ≡ true
    go true rest h = elim (or_cases (is_claim rank number w) (may_receive (without_claim ws r n) rank number) h) [
      | inl here ↦ or_left (is_claim rank number w) _ here
      | inr there ↦ or_right (is_claim rank number w) _ (rest there)
    ]
    go false rest h = or_right (is_claim rank number w) _ (rest h)

-- what another rank receives leaves this rank's
pub others_receive : (ws : List Waiting) (r n rank number : ℕ) → (r ≡ rank → ⊥) → may_receive ws rank number ≡ true
    → may_receive (without_claim ws r n) rank number ≡ true
others_receive [] r n rank number apart h = h
others_receive (w ∷ ws) r n rank number apart h =
    go (is_claim r n w) refl (others_receive ws r n rank number apart)
    (or_cases (is_claim rank number w) (may_receive ws rank number) h)
  where
    go : (b : Bool) → is_claim r n w ≡ b
        → (may_receive ws rank number ≡ true → may_receive (without_claim ws r n) rank number ≡ true)
        → (is_claim rank number w ≡ true) ⊎ (may_receive ws rank number ≡ true)
        → may_receive (cond (not b) (w ∷ without_claim ws r n) (without_claim ws r n)) rank number ≡ true
    go true theirs rest (inl here) =
        absurd (apart (sym (eqb-true w.rank r (and_parts (w.rank == r) (w.message == n) theirs).0)
        ∙ eqb-true w.rank rank (and_parts (w.rank == rank) (w.message == number) here).0))
    go true theirs rest (inr there) = rest there
    go false theirs rest (inl here) = or_left (is_claim rank number w) _ here
    go false theirs rest (inr there) = or_right (is_claim rank number w) _ (rest there)

owned_more : (h k : HubView) (r : ℕ) → Moves all r h k → AreOwned h → AreOwned k
owned_more h k r moved owned rank number may = go moved.claims
  where
    go : ClaimsBy r h k → ClaimAt k.board.lines rank number
    go (stay e) =
        grown r h.board.lines k.board.lines rank number moved.lines
        (owned rank number (subst (λ ws. may_receive ws rank number ≡ true) e may))
    go (less n e) =
        grown r h.board.lines k.board.lines rank number moved.lines
        (owned rank number (fewer h.claims r n rank number (subst (λ ws. may_receive ws rank number ≡ true) e may)))
    go (more a mine lines e) =
        let new : Waiting = record { message = next_number h.board; rank = r } in
        elim (or_cases (may_receive h.claims rank number) (is_claim rank number new || false)
        (sym (list_any-append (is_claim rank number) h.claims (new ∷ []))
        ∙ subst (λ ws. may_receive ws rank number ≡ true) e may)) [
          | inl before ↦ grown r h.board.lines k.board.lines rank number moved.lines (owned rank number before)
          | inr now ↦
              let both =
              and_parts (r == rank) (next_number h.board == number)
              (elim (or_cases (is_claim rank number new) false now) [ inl is ↦ is | inr f ↦ absurd (cc) ]) in
              record {
                place = length h.board.lines;
                numbered = sym (eqb-true (next_number h.board) number both.1);
                line = record { post = post.Claim a; partner = partner_for h.board.lines (post.Claim a) };
                here = ap (λ ms. slice_get ms (length h.board.lines)) lines ∙ add_new h.board.lines (post.Claim a);
                what = a;
                claims = refl;
                mine = mine ∙ eqb-true r rank both.0;
              }
        ]

owned_on : (cs : List Call) (h : HubView) → AreOwned h → AreOwned (hub_on h cs)
owned_on [] h owned = owned
owned_on (c ∷ cs) h owned =
    owned_on cs (outcome h c.0 c.1).1
    (owned_more h (outcome h c.0 c.1).1 c.0 (moves all h c.0 c.1 (fits_all c.0 c.1)) owned)

pub owned_after : (links : List Link) (calls : List Call) → AreOwned (hub_after links calls)
owned_after links calls = owned_on calls (hub_at_start links) (λ rank number may. absurd (cc))
