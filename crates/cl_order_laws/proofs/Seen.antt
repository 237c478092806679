-- What a probe found stays what it finds, and a cut that is known stays known, whatever other ranks call.
use Rattle.std.proofs.Common.{◌≡◌, ℕ, ◌<◌, inl, inr, List, [], ◌∷◌, true, false, Option, Some, None, refl, sym, ap, ◌∙◌, subst, arith}
use Rattle.std.specs.Prelude.{◌&&◌, find}
use Rattle.std.specs.List.{slice_get}
use Rattle.std.specs.Option.{option_or}
use Rattle.std.proofs.lemmas.Bool.{and_parts, cases_order}
use Rattle.std.proofs.lemmas.List.Folds.{find-append}
use Rattle.mp_types.specs.declared.requests.Request.{Request}
use Rattle.mp_match.specs.declared.posts.Line.{Line}
use Rattle.mp_match.specs.declared.posts.Post.{Post}
use Rattle.mp_match.specs.declared.posts.Post.TheVariants as post
use Rattle.mp_match.specs.declared.posts.Selection.{Selection}
use Rattle.mp_match.specs.Pairs.{add, fits, is_free, may_pair, partner_for}
use Rattle.mp_match.specs.Board.{envelope_at, envelope_in, probed}
use Rattle.mp_match.proofs.Lines.{Look, is_new, is_old, is_given, look}
use Rattle.mp_match.proofs.Places.{found_first, found_none, get_within}
use Rattle.mp_transfers.specs.declared.sides.Side.{Side}
use Rattle.mp_transfers.specs.Inits.{is_sender_over, sender_over}
use Rattle.mp_hub.specs.Hub.{HubView, outcome}
use Rattle.mp_hub.proofs.Transfers.{Steps, is_none, is_one, steps}
use Rattle.mp_wait_laws.proofs.Lines.{accepted, free_stays}
use Rattle.mp_wait_laws.proofs.Moves.{GrowsBy, IsBy, all, fits_all, moves}

-- ---- probes

-- a post of another rank isn't paired with what this rank's receive could have
no_pair : (a : Selection) (s : ℕ) (p q : Post) → (s ≡ a.rank → ⊥) → IsBy all s p → may_pair (post.Receive a) q ≡ true
    → may_pair p q ≡ true → ⊥
no_pair a s (post.Receive b) (post.Send t) apart by mine theirs =
    apart (sym by ∙ sym (accepted b t theirs).0 ∙ (accepted a t mine).0)
no_pair a s (post.Claim b) (post.Send t) apart by mine theirs =
    apart (sym by ∙ sym (accepted b t theirs).0 ∙ (accepted a t mine).0)
no_pair a s (post.Send u) (post.Send t) apart by mine theirs = absurd (cc)
no_pair a s p (post.Receive b) apart by mine theirs = absurd (cc)
no_pair a s p (post.Claim b) apart by mine theirs = absurd (cc)

module _ (lines : List Line) (a : Selection) (s i : ℕ) (apart : s ≡ a.rank → ⊥)
    (found : partner_for lines (post.Receive a) ≡ Some i) where
  -- a post of another rank leaves the line that it finds
  finds_more : (p : Post) → IsBy all s p
      → (line : Line) × (slice_get lines i ≡ Some line) × (slice_get (add lines p) i ≡ Some line)
      × (partner_for (add lines p) (post.Receive a) ≡ Some i)
  finds_more p by =
      let f = found_first (fits (post.Receive a)) lines i found in
      let pair = (and_parts (is_free (f.0).partner) (may_pair (post.Receive a) (f.0).post) f.2).1 in
      let stays = free_stays lines p i f.0 f.1 (no_pair a s p (f.0).post apart by pair) in
      (f.0, f.1, stays, go f.0 f.1 f.2 f.3 stays (partner_for (add lines p) (post.Receive a)) refl)
    where
      go : (x : Line) → slice_get lines i ≡ Some x → fits (post.Receive a) x ≡ true
          → ((l : ℕ) (y : Line) → l < i → slice_get lines l ≡ Some y → fits (post.Receive a) y ≡ false)
          → slice_get (add lines p) i ≡ Some x → (o : Option ℕ) → partner_for (add lines p) (post.Receive a) ≡ o
          → partner_for (add lines p) (post.Receive a) ≡ Some i
      go x here fit least stays None e =
          (let no = found_none (fits (post.Receive a)) 0 (add lines p) e i x stays in absurd (cc))
      go x here fit least stays (Some j) e =
          let g = found_first (fits (post.Receive a)) (add lines p) j e in
          elim (cases_order i j) [
            | inl same ↦ e ∙ ap (λ k. Some k) (sym same)
            | inr other ↦ elim other [
              | inl before ↦ (let no = g.3 i x before stays in absurd (cc))
              | inr behind ↦ earlier j g.0 behind g.2 (look lines p j g.0 g.1)
            ]
          ]
        where
          earlier : (j : ℕ) (y : Line) → j < i → fits (post.Receive a) y ≡ true → Look lines p j y
              → partner_for (add lines p) (post.Receive a) ≡ Some i
          earlier j y below fit (is_new end is) =
              (let b = get_within lines i x here in absurd (omega (arith, below, end, b)))
          earlier j y below fit (is_old there) = (let no = least j y below there in absurd (cc))
          earlier j y below fit (is_given z there gives is) =
              let yes : (false && may_pair (post.Receive a) z.post) ≡ true =
              subst (λ (w : Line). fits (post.Receive a) w ≡ true) is fit in
              absurd (cc)

module _ (h : HubView) (s : ℕ) (p : Request) (a : Selection) (i : ℕ) (apart : s ≡ a.rank → ⊥)
    (found : partner_for h.board.lines (post.Receive a) ≡ Some i) where
  abbrev then : HubView
  then = (outcome h s p).1

  pub found_stays : partner_for (then).board.lines (post.Receive a) ≡ Some i
  found_stays = go (moves all h s p (fits_all s p)).lines
    where
      go : GrowsBy all s h.board.lines (then).board.lines → partner_for (then).board.lines (post.Receive a) ≡ Some i
      go (inl same) = subst (λ ms. partner_for ms (post.Receive a) ≡ Some i) (sym same) found
      go (inr g) =
          subst (λ ms. partner_for ms (post.Receive a) ≡ Some i) (sym g.2)
          (finds_more h.board.lines a s i apart found g.0 g.1).3

  pub seen_stays : probed (then).board (post.Receive a) ≡ probed h.board (post.Receive a)
  seen_stays =
      ap (envelope_at (then).board) found_stays ∙ ap envelope_in (go (moves all h s p (fits_all s p)).lines)
      ∙ sym (ap (envelope_at h.board) found)
    where
      go : GrowsBy all s h.board.lines (then).board.lines
          → slice_get (then).board.lines i ≡ slice_get h.board.lines i
      go (inl same) = ap (λ ms. slice_get ms i) same
      go (inr g) =
          let f = finds_more h.board.lines a s i apart found g.0 g.1 in
          ap (λ ms. slice_get ms i) g.2 ∙ f.2 ∙ sym f.1

-- ---- cuts

module _ (h : HubView) (s : ℕ) (p : Request) where
  pub links_stay : (outcome h s p).1.links ≡ h.links
  links_stay = go (steps h s p)
    where
      go : Steps h s p (outcome h s p).0 (outcome h s p).1 → (outcome h s p).1.links ≡ h.links
      go (is_none b e l) = l
      go (is_one n b e l join) = l

  pub cut_stays : (link : ℕ) (t : Side) → sender_over h.sides link ≡ Some t
      → sender_over (outcome h s p).1.sides link ≡ Some t
  cut_stays link t known = go (steps h s p)
    where
      go : Steps h s p (outcome h s p).0 (outcome h s p).1 → sender_over (outcome h s p).1.sides link ≡ Some t
      go (is_none b e l) = ap (λ ts. sender_over ts link) e ∙ known
      go (is_one n b e l join) =
          ap (λ ts. sender_over ts link) e
          ∙ find-append (is_sender_over link) h.sides (n ∷ [])
          ∙ ap (λ (o : Option Side). option_or o (find (is_sender_over link) (n ∷ []))) known
