-- The post at the place of a new post's partner.
use Rattle.std.specs.Prelude.{ℕ, ◌≡◌, List, Option, Some, None}
use Rattle.std.specs.List.{slice_get}
use Rattle.std.proofs.Common.{refl, sym, ap, ◌∙◌}
use Rattle.mp_match.specs.declared.posts.Post.{Post}
use Rattle.mp_match.specs.declared.posts.Line.{Line}
use Rattle.mp_match.specs.Pairs.{partner_for}
use Rattle.mp_match.specs.Live.{post_in}
use Rattle.mp_match.specs.InnerLive.{post_at}
use Rattle.mp_match.proofs.OrderKept.{chosen}

-- where the partner has no post there is none
pub no_partner : (ms : List Line) (p : Post) → None ≡ post_at ms (partner_for ms p) → None ≡ partner_for ms p
no_partner ms p h = go (partner_for ms p) refl h
  where
    go : (o : Option ℕ) → partner_for ms p ≡ o → None ≡ post_at ms o → None ≡ o
    go None e h = refl
    go (Some q) e h =
        let c = chosen ms p q e in
        let bad : None ≡ Some (c.line).post = h ∙ ap post_in c.here in
        absurd (cc)

pub record Partner (ms : List Line) (p x : Post) : Type 0 where
  pub place : ℕ
  pub line : Line
  pub found : Some place ≡ partner_for ms p
  pub here : slice_get ms place ≡ Some line
  pub post : line.post ≡ x

pub partner_is : (ms : List Line) (p post : Post) → Some post ≡ post_at ms (partner_for ms p) → Partner ms p post
partner_is ms p post h = go (partner_for ms p) refl h
  where
    go : (o : Option ℕ) → partner_for ms p ≡ o → Some post ≡ post_at ms o → Partner ms p post
    go None e h = absurd (cc)
    go (Some q) e h =
        let c = chosen ms p q e in
        let same : Some post ≡ Some (c.line).post = h ∙ ap post_in c.here in
        record { place = q; line = c.line; found = sym e; here = c.here; post = (cc) }
