-- A probe that finds nothing.
use Rattle.std.proofs.Common.{◌≡◌, ℕ, suc, ◌+◌, inl, inr, List, [], ◌∷◌, Bool, true, false, Option, Some, None, refl, sym, ap, ◌∙◌, subst}
use Rattle.std.specs.List.{slice_get, position_from}
use Rattle.std.proofs.lemmas.Bool.{and_left, and_right, cond-false, false_from_ne_true}
use Rattle.mp_types.specs.declared.messages.Envelope.{Envelope}
use Rattle.mp_types.specs.declared.replies.Reply.{Reply}
use Rattle.mp_types.specs.declared.replies.Reply.TheVariants as reply
use Rattle.mp_types.specs.declared.requests.Request.TheVariants.{Probe, Claim}
use Rattle.mp_match.specs.declared.posts.Sent.{Sent}
use Rattle.mp_match.specs.declared.posts.Selection.{Selection}
use Rattle.mp_match.specs.declared.posts.Post.{Post}
use Rattle.mp_match.specs.declared.posts.Post.TheVariants as post
use Rattle.mp_match.specs.declared.posts.Line.{Line}
use Rattle.mp_match.specs.Pairs.{accepts, add, fits, is_free, may_pair, partner_for}
use Rattle.mp_match.specs.Board.{Board, envelope_at, envelope_in, probed}
use Rattle.mp_match.proofs.Places.{found_none}
use Rattle.mp_match.proofs.Lines.{Look, is_new, is_old, is_given, look}
use Rattle.mp_match.proofs.OrderKept.{Takes, chosen}
use Rattle.mp_probe.specs.Claims.{handle_if, next_number}
use Rattle.mp_hub.specs.Hub.{HubView, claim_found, held, outcome, seen, selecting}
use Rattle.mp_wait_laws.specs.Waits.{OnlyOf, could_send}
use Rattle.mp_wait_laws.proofs.Lines.{could}
use Rattle.mp_wait_laws.proofs.Moves.{GrowsBy, IsBy, Moves}

none_found : {A : Type 0} (t : A → Bool) (k : ℕ) (xs : List A)
    → ((i : ℕ) (x : A) → slice_get xs i ≡ Some x → t x ≡ false) → position_from t k xs ≡ None
none_found t k [] each = refl
none_found t k (x ∷ xs) each =
    cond-false (t x) _ _ (each 0 x refl) ∙ none_found t (k + 1) xs (λ i y h. each (suc i) y h)

-- what a receive or a claim could be paired with is a send
sent_for : (p q : Post) (a : Selection) → Takes p a → may_pair p q ≡ true
    → (s : Sent) × (q ≡ post.Send s) × (accepts a s ≡ true)
sent_for p (post.Send s) a (inl e) pair = (s, refl, subst (λ (x : Post). may_pair x (post.Send s) ≡ true) e pair)
sent_for p (post.Send s) a (inr e) pair = (s, refl, subst (λ (x : Post). may_pair x (post.Send s) ≡ true) e pair)
sent_for p (post.Receive b) a (inl e) pair =
    (let f : may_pair (post.Receive a) (post.Receive b) ≡ true = subst
    (λ (x : Post). may_pair x (post.Receive b) ≡ true) e pair in absurd (cc))
sent_for p (post.Receive b) a (inr e) pair =
    (let f : may_pair (post.Claim a) (post.Receive b) ≡ true = subst
    (λ (x : Post). may_pair x (post.Receive b) ≡ true) e pair in absurd (cc))
sent_for p (post.Claim b) a (inl e) pair =
    (let f : may_pair (post.Receive a) (post.Claim b) ≡ true = subst (λ (x : Post). may_pair x (post.Claim b) ≡ true)
    e pair in absurd (cc))
sent_for p (post.Claim b) a (inr e) pair =
    (let f : may_pair (post.Claim a) (post.Claim b) ≡ true = subst (λ (x : Post). may_pair x (post.Claim b) ≡ true) e
    pair in absurd (cc))

-- nothing that was posted is for it, and its sources are among these ranks
pub record NothingSent (member : ℕ → ℕ → Bool) (among : ℕ → Bool) (lines : List Line) (p : Post) : Type 0 where
  pub what : Selection
  pub takes : Takes p what
  pub none : partner_for lines p ≡ None
  pub only : OnlyOf among (could_send member what)

module _ (member : ℕ → ℕ → Bool) (among : ℕ → Bool) where
  no_pair : (p q : Post) (a : Selection) (other : ℕ) → Takes p a → OnlyOf among (could_send member a)
      → among other ≡ false → IsBy member other q → may_pair p q ≡ true → ⊥
  no_pair p q a other takes only out by pair =
      let s = sent_for p q a takes pair in
      let its : IsBy member other (post.Send s.0) = subst (λ (x : Post). IsBy member other x) s.1 by in
      let inside = only other (could member a s.0 other its.0 its.1 s.2) in
      absurd (cc)

  pub nothing_stays : (h k : HubView) (p : Post) (other : ℕ) → Moves member other h k → among other ≡ false
      → NothingSent member among h.board.lines p → NothingSent member among k.board.lines p
  nothing_stays h k p other moved out n =
      record { what = n.what; takes = n.takes; none = lines moved.lines; only = n.only }
    where
      unfit : (q : Post) (i : ℕ) (m : Line) → IsBy member other q → Look h.board.lines q i m → fits p m ≡ false
      unfit q i m by (is_new end is) =
          subst (λ (x : Line). fits p x ≡ false) (sym is)
          (and_right (is_free (partner_for h.board.lines q)) (may_pair p q)
          (false_from_ne_true (may_pair p q) (no_pair p q n.what other n.takes n.only out by)))
      unfit q i m by (is_old here) = found_none (fits p) 0 h.board.lines n.none i m here
      unfit q i m by (is_given x here found is) =
          subst (λ (y : Line). fits p y ≡ false) (sym is) (and_left false (may_pair p x.post) refl)

      lines : GrowsBy member other h.board.lines k.board.lines → partner_for k.board.lines p ≡ None
      lines (inl same) = subst (λ ms. partner_for ms p ≡ None) (sym same) n.none
      lines (inr grown) =
          subst (λ ms. partner_for ms p ≡ None) (sym grown.2)
          (none_found (fits p) 0 (add h.board.lines grown.0)
          (λ i m here. unfit grown.0 i m grown.1 (look h.board.lines grown.0 i m here)))

  -- what is found is a send
  nothing_found : (b : Board) (p : Post) (a : Selection) → Takes p a → probed b p ≡ None → partner_for b.lines p ≡ None
  nothing_found b p a takes none = go (partner_for b.lines p) refl none
    where
      go : (o : Option ℕ) → partner_for b.lines p ≡ o → envelope_at b o ≡ None → partner_for b.lines p ≡ None
      go None found none = found
      go (Some j) found none =
          let c = chosen b.lines p j found in
          let s = sent_for p (c.line).post a takes c.pair in
          let there : envelope_at b (Some j) ≡ Some (s.0).envelope =
          ap envelope_in c.here
          ∙ ap (λ (q : Post). envelope_in (Some (record { post = q; partner = (c.line).partner }))) s.1 in
          absurd (cc)

  not_seen : (o : Option Envelope) → seen o ≡ reply.NotYet → o ≡ None
  not_seen None h = refl
  not_seen (Some e) h = absurd (cc)

  not_held : (n : ℕ) (o : Option Envelope) → held (handle_if n o) ≡ reply.NotYet → o ≡ None
  not_held n None h = refl
  not_held n (Some e) h = absurd (cc)

  module _ (h : HubView) (r comm : ℕ) (source tag : Option ℕ) where
    pub probe_from : (outcome h r (Probe comm source tag)).0 ≡ reply.NotYet
        → OnlyOf among (could_send member (selecting r comm source tag))
        → NothingSent member among h.board.lines (post.Receive (selecting r comm source tag))
    probe_from answer only = record {
      what = selecting r comm source tag;
      takes = inl refl;
      none =
          nothing_found h.board (post.Receive (selecting r comm source tag)) (selecting r comm source tag) (inl refl)
          (not_seen _ answer);
      only = only;
    }

    pub probe_waits : NothingSent member among h.board.lines (post.Receive (selecting r comm source tag))
        → outcome h r (Probe comm source tag) ≡ (reply.NotYet, h)
    probe_waits n = ap (λ (o : Option ℕ). (let x : Reply × HubView = (seen (envelope_at h.board o), h) in x)) n.none

    pub claim_from : (outcome h r (Claim comm source tag)).0 ≡ reply.NotYet
        → OnlyOf among (could_send member (selecting r comm source tag))
        → NothingSent member among h.board.lines (post.Claim (selecting r comm source tag))
    claim_from answer only = record {
      what = selecting r comm source tag;
      takes = inr refl;
      none =
          nothing_found h.board (post.Claim (selecting r comm source tag)) (selecting r comm source tag) (inr refl)
          (not_held (next_number h.board) _ answer);
      only = only;
    }

    pub claim_waits : NothingSent member among h.board.lines (post.Claim (selecting r comm source tag))
        → outcome h r (Claim comm source tag) ≡ (reply.NotYet, h)
    claim_waits n = ap (λ (o : Option ℕ). claim_found h (selecting r comm source tag) (envelope_at h.board o)) n.none

    pub probe_up_to : NothingSent member among h.board.lines (post.Receive (selecting r comm source tag))
        → OnlyOf among (could_send member (selecting r comm source tag))
    probe_up_to n = sources n.takes
      where
        sources : Takes (post.Receive (selecting r comm source tag)) n.what
            → OnlyOf among (could_send member (selecting r comm source tag))
        sources (inl e) =
            (let same : selecting r comm source tag ≡ n.what = cc in subst (λ (a : Selection). OnlyOf among
            (could_send member a)) (sym same) n.only)
        sources (inr e) = absurd (cc)

    pub claim_up_to : NothingSent member among h.board.lines (post.Claim (selecting r comm source tag))
        → OnlyOf among (could_send member (selecting r comm source tag))
    claim_up_to n = sources n.takes
      where
        sources : Takes (post.Claim (selecting r comm source tag)) n.what
            → OnlyOf among (could_send member (selecting r comm source tag))
        sources (inr e) =
            (let same : selecting r comm source tag ≡ n.what = cc in subst (λ (a : Selection). OnlyOf among
            (could_send member a)) (sym same) n.only)
        sources (inl e) = absurd (cc)
