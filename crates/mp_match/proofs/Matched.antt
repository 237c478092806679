-- What is paired matches, and what matches doesn't stand alone.
use Rattle.std.specs.Prelude.{ℕ, zero, suc, ◌≡◌, ◌==◌, ◌&&◌, ◌<◌, true, List, [], ◌∷◌, Option, Some, None}
use Rattle.std.specs.List.{slice_get}
use Rattle.std.proofs.Common.{refl, sym, ap, ◌∙◌, subst, arith}
use Rattle.std.proofs.lemmas.Bool.{and_parts, eqb-true, eq-eqb}
use Rattle.std.proofs.lemmas.Option.{same_Some}
use mathlib.Core.Logic.{inl, inr}
use Rattle.mp_match.specs.declared.posts.Sent.{Sent}
use Rattle.mp_match.specs.declared.posts.Selection.{Selection}
use Rattle.mp_match.specs.declared.posts.Post.{Post}
use Rattle.mp_match.specs.declared.posts.Post.TheVariants.{Send, Receive, Claim}
use Rattle.mp_match.specs.declared.posts.Line.{Line}
use Rattle.mp_match.specs.Pairs.{admits, accepts, may_pair, add, partner_at, partner_of_line}
use Rattle.mp_match.specs.PostPairs.{pairs_on, pairs, posts_of}
use Rattle.mp_match.specs.Matches.{IsAskedFor, Matches, PairsMatch, NothingIdles, ClaimsTakeWhatIsThere, PairingLaws}
use Rattle.mp_match.proofs.Places.{get_within}
use Rattle.mp_match.proofs.Lines.{Look, is_new, is_old, is_given, look}
use Rattle.mp_match.proofs.OrderKept.{Good, chosen, good_on, good_none, posts_pairs, order_laws}

admitted : (asked : Option ℕ) (x : ℕ) → admits asked x ≡ true → IsAskedFor asked x
admitted None x h = inl refl
admitted (Some y) x h = inr (ap (λ z. Some z) (sym (eqb-true x y h)))

admitting : (asked : Option ℕ) (x : ℕ) → IsAskedFor asked x → admits asked x ≡ true
admitting asked x (inl none) = ap (λ o. admits o x) none
admitting asked x (inr same) = ap (λ o. admits o x) same ∙ eq-eqb x x refl

-- what a receive accepts matches it, and the other way round
pub matching : (a : Selection) (s : Sent) → accepts a s ≡ true → Matches a s
matching a s h =
    let e = s.envelope in
    let two = (s.dest == a.rank) && (e.comm == a.comm) in
    let p = and_parts (two && admits a.source e.source) (admits a.tag e.tag) h in
    let q = and_parts two (admits a.source e.source) p.0 in
    let r = and_parts (s.dest == a.rank) (e.comm == a.comm) q.0 in
    record {
      rank = eqb-true s.dest a.rank r.0;
      comm = eqb-true e.comm a.comm r.1;
      source = admitted a.source e.source q.1;
      tag = admitted a.tag e.tag p.1;
    }

pub accepting : (a : Selection) (s : Sent) → Matches a s → accepts a s ≡ true
accepting a s m =
    let e = s.envelope in
    let rank : (s.dest == a.rank) ≡ true = eq-eqb s.dest a.rank m.rank in
    let comm : (e.comm == a.comm) ≡ true = eq-eqb e.comm a.comm m.comm in
    let source : admits a.source e.source ≡ true = admitting a.source e.source m.source in
    let tag : admits a.tag e.tag ≡ true = admitting a.tag e.tag m.tag in
    (λ i. rank i && comm i && source i && tag i)

pub line_at : (ms : List Line) (i : ℕ) (p : Post) → slice_get (posts_of ms) i ≡ Some p
    → (m : Line) × (slice_get ms i ≡ Some m) × (m.post ≡ p)
line_at [] i p h = absurd (cc)
line_at (m ∷ ms) zero p h = (m, refl, (cc))
line_at (m ∷ ms) (suc i) p h = line_at ms i p h

idle : (ms : List Line) → Good ms → NothingIdles (posts_of ms) (partner_at ms)
idle ms good i j a s receives sends alone free m =
    let x = line_at ms i (Receive a) receives in
    let y = line_at ms j (Send s) sends in
    good.idle i j x.0 y.0 a s x.1 y.1 (sym (ap partner_of_line x.1) ∙ alone) (sym (ap partner_of_line y.1) ∙ free)
    x.2 y.2 (accepting a s m)

fit : (ps : List Post) → PairsMatch ps (partner_at (pairs ps))
fit ps i j h = (let q = (order_laws.pairing ps i j h).1 in (q.0, q.1, matching q.0 q.1 q.2, q.3))

-- ---- claims

abbrev Early : List Line → Type 0
Early ms = (i j : ℕ) (m : Line) (a : Selection) → slice_get ms i ≡ Some m → m.post ≡ Claim a → m.partner ≡ Some j
    → j < i

-- no new post has an earlier claim as its partner
no_claim : (p q : Post) (a : Selection) → may_pair p q ≡ true → q ≡ Claim a → ⊥
no_claim (Send s) q a h e = (let f : may_pair (Send s) (Claim a) ≡ true = rw (e) at h in absurd (cc))
no_claim (Receive b) q a h e = (let f : may_pair (Receive b) (Claim a) ≡ true = rw (e) at h in absurd (cc))
no_claim (Claim b) q a h e = (let f : may_pair (Claim b) (Claim a) ≡ true = rw (e) at h in absurd (cc))

early_more : (ms : List Line) (p : Post) → Early ms → Early (add ms p)
early_more ms p early i j m a there is has = go (look ms p i m there)
  where
    go : Look ms p i m → j < i
    go (is_new u e) =
        let c = chosen ms p j (sym (ap (λ (z : Line). z.partner) e) ∙ has) in
        let b = get_within ms j c.line c.here in
        omega (arith, b, u)
    go (is_old e) = early i j m a e is has
    go (is_given x e for g) =
        let c = chosen ms p i for in
        let same : c.line ≡ x = same_Some c.line x (sym c.here ∙ e) in
        let claim : (c.line).post ≡ Claim a =
        ap (λ (z : Line). z.post) same ∙ sym (ap (λ (z : Line). z.post) g) ∙ is in
        absurd (no_claim p (c.line).post a c.pair claim)

early_on : (ps : List Post) (ms : List Line) → Early ms → Early (pairs_on ms ps)
early_on [] ms early = early
early_on (p ∷ ps) ms early = early_on ps (add ms p) (early_more ms p early)

claims : (ms : List Line) → Early ms → ClaimsTakeWhatIsThere (posts_of ms) (partner_at ms)
claims ms early i j a is has =
    let x = line_at ms i (Claim a) is in
    early i j x.0 a x.1 x.2 (sym (ap partner_of_line x.1) ∙ has)

pub pairing_laws : PairingLaws
pairing_laws = record {
  posts = posts_pairs;
  fit = fit;
  idle = λ ps. subst (λ qs. NothingIdles qs (partner_at (pairs ps))) (posts_pairs ps)
      (idle (pairs ps) (good_on ps [] good_none));
  claims = λ ps. subst (λ qs. ClaimsTakeWhatIsThere qs (partner_at (pairs ps))) (posts_pairs ps)
      (claims (pairs ps) (early_on ps [] (λ i j m a h. absurd (cc))));
}
