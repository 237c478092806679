-- A line without a partner stays as it is while no post comes that it could pair with.
use Rattle.std.proofs.Common.{◌≡◌, ℕ, List, [], length, Bool, true, Option, Some, None, inl, inr, refl, sym, ap, ◌∙◌, subst}
use Rattle.std.specs.Prelude.{◌&&◌, ◌==◌}
use Rattle.std.specs.List.{slice_get}
use Rattle.std.proofs.lemmas.Bool.{and_from, and_parts, cases_eq, eqb-true}
use Rattle.std.proofs.lemmas.Option.{same_Some}
use Rattle.mp_match.specs.declared.posts.Sent.{Sent}
use Rattle.mp_match.specs.declared.posts.Selection.{Selection}
use Rattle.mp_match.specs.declared.posts.Post.{Post}
use Rattle.mp_match.specs.declared.posts.Line.{Line}
use Rattle.mp_match.specs.Pairs.{accepts, admits, add, may_pair, partner_for}
use Rattle.mp_match.specs.PostPairs.{pairs, posts_of}
use Rattle.mp_wait_laws.specs.Waits.{could_send}
use Rattle.mp_match.proofs.Lines.{add_given, add_old, given}
use Rattle.mp_match.proofs.OrderKept.{Good, good_on, good_none, chosen}

pub at_place : (ms : List Line) (i : ℕ) (m n : Line) → slice_get ms i ≡ Some m → slice_get ms i ≡ Some n → m ≡ n
at_place ms i m n h g = same_Some m n (sym h ∙ g)

-- the new post can't have this line as its partner
pub passed_over : (ms : List Line) (p : Post) (i : ℕ) (m : Line) → slice_get ms i ≡ Some m
    → (may_pair p m.post ≡ true → ⊥) → partner_for ms p ≡ Some i → ⊥
passed_over ms p i m here apart found =
    let c = chosen ms p i found in
    let same : c.line ≡ m = at_place ms i c.line m c.here here in
    apart (subst (λ (z : Line). may_pair p z.post ≡ true) same c.pair)

pub free_stays : (ms : List Line) (p : Post) (i : ℕ) (m : Line) → slice_get ms i ≡ Some m
    → (may_pair p m.post ≡ true → ⊥) → slice_get (add ms p) i ≡ Some m
free_stays ms p i m here apart = add_old ms p i m here (passed_over ms p i m here apart)

-- a line that has a partner stays
pub paired_stays : (ms : List Line) (p : Post) (i k : ℕ) (m : Line) → slice_get ms i ≡ Some m → m.partner ≡ Some k
    → slice_get (add ms p) i ≡ Some m
paired_stays ms p i k m here paired = add_old ms p i m here (λ found.
    let c = chosen ms p i found in
    let same : c.line ≡ m = at_place ms i c.line m c.here here in
    let free : m.partner ≡ None = subst (λ (z : Line). z.partner ≡ None) same c.free in absurd (cc))

-- a line's post stays
pub post_stays : (ms : List Line) (p : Post) (i : ℕ) (m : Line) → slice_get ms i ≡ Some m
    → (n : Line) × (slice_get (add ms p) i ≡ Some n) × (n.post ≡ m.post)
post_stays ms p i m here = go (partner_for ms p) refl
  where
    go : (o : Option ℕ) → partner_for ms p ≡ o → (n : Line) × (slice_get (add ms p) i ≡ Some n) × (n.post ≡ m.post)
    go None found = (m, add_old ms p i m here (λ e. absurd (cc)), refl)
    go (Some q) found = elim (cases_eq q i) [
      | inl same ↦ (given m (length ms), add_given ms p i m here (found ∙ ap (λ j. Some j) same), refl)
      | inr other ↦ (m, add_old ms p i m here (λ e. other (same_Some q i (sym found ∙ e))), refl)
    ]

-- the lines of posts have their pairs
pub good_lines : (ms : List Line) → ms ≡ pairs (posts_of ms) → Good ms
good_lines ms same = subst (λ (x : List Line). Good x) (sym same) (good_on (posts_of ms) [] good_none)

-- what a receive accepts is to its rank, in its communicator, and from a source that it admits
pub accepted : (a : Selection) (s : Sent) → accepts a s ≡ true
    → (s.dest ≡ a.rank) × (s.envelope.comm ≡ a.comm) × (admits a.source s.envelope.source ≡ true)
accepted a s h =
    let all =
    and_parts ((s.dest == a.rank) && (s.envelope.comm == a.comm) && admits a.source s.envelope.source)
    (admits a.tag s.envelope.tag) h in
    let three =
    and_parts ((s.dest == a.rank) && (s.envelope.comm == a.comm)) (admits a.source s.envelope.source) all.0 in
    let two = and_parts (s.dest == a.rank) (s.envelope.comm == a.comm) three.0 in
    (eqb-true s.dest a.rank two.0, eqb-true s.envelope.comm a.comm two.1, three.1)

-- what a receive accepts comes from one who could send it
pub could : (member : ℕ → ℕ → Bool) (a : Selection) (s : Sent) (k : ℕ) → s.envelope.source ≡ k
    → member s.envelope.comm k ≡ true → accepts a s ≡ true → could_send member a k ≡ true
could member a s k from its accepts =
    let c = accepted a s accepts in
    and_from _ _ (subst (λ n. admits a.source n ≡ true) from c.2) (subst (λ n. member n k ≡ true) c.1 its)
