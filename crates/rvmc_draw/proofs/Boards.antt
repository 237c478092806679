-- The posts that steps made, and where their arrows come from.
use Rattle.std.specs.Prelude.{ℕ, zero, suc, ◌≡◌, List, [], ◌∷◌, ◌++◌, length, Option, Some, None, option_to_list}
use Rattle.std.specs.Option.{option_map}
use Rattle.std.specs.List.{slice_get}
use Rattle.std.proofs.Common.{refl, sym, ap, ◌∙◌, subst}
use Rattle.std.proofs.lemmas.List.{append-nil, flat_map_more}
use Rattle.std.proofs.lemmas.Option.{same_Some, slice_get-map}
use Rattle.mp_match.proofs.OrderKept.{pairs_more, posts_pairs}
use Rattle.mp_match.specs.PostPairs.{pairs}
use Rattle.mp_match.specs.declared.posts.Line.{Line}
use Rattle.mp_match.specs.declared.posts.Post.{Post}
use Rattle.mp_match.specs.declared.posts.Post.TheVariants.{Send, Receive, Claim}
use Rattle.rvmc_draw.specs.Board.{arrow_if, arrow_in, arrow_of, arrow_to, carried_by, lines_with, partner_numbered, posts_made, spot_if, spots_made}
use Rattle.rvmc_draw.specs.Laws.{ArrowLaw, BoardLaw, IsMadeAt, JoinsSend}
use Rattle.rvmc_draw.specs.declared.board.Manner.{Manner}
use Rattle.rvmc_draw.specs.declared.deeds.Deed.{Deed}
use Rattle.rvmc_draw.specs.declared.drawing.Arrow.{Arrow}
use Rattle.rvmc_draw.specs.declared.drawing.Spot.{Spot}

-- ---- a step more

one_more : (ps : List Post) (m : Option Post) → lines_with (pairs ps) m ≡ pairs (ps ++ option_to_list m)
one_more ps None = ap pairs (sym (append-nil ps))
one_more ps (Some p) = sym (pairs_more ps (p ∷ []) [])

pub board_kept : BoardLaw
board_kept deeds d lines spots b = record {
  lines_are = ap (λ ls. lines_with ls d.made) b.lines_are
      ∙ one_more (posts_made deeds) d.made
      ∙ ap pairs (flat_map_more (λ (e : Deed). option_to_list e.made) [] deeds d);
  spots_are = ap (λ ss. ss ++ spot_if d.made d.spot) b.spots_are
      ∙ flat_map_more (λ (e : Deed). spot_if e.made e.spot) [] deeds d;
}

-- ---- the step that made a post

counted : (d : Deed) (m : Option Post) (ds : List Deed) → d.made ≡ m
    → length (posts_made (d ∷ ds)) ≡ length (option_to_list m ++ posts_made ds)
counted d m ds e = ap (λ o. length (option_to_list o ++ posts_made ds)) e

pub made_at : (deeds : List Deed) (place : ℕ) (p : Post) (spot : Spot) → slice_get (posts_made deeds) place ≡ Some p
    → slice_get (spots_made deeds) place ≡ Some spot → IsMadeAt deeds place p spot
made_at [] place p spot e f = absurd (cc)
made_at (d ∷ ds) place p spot e f = go d.made refl (made_at ds) place e f
  where
    go : (m : Option Post) → d.made ≡ m
        → ((k : ℕ) (q : Post) (s : Spot) → slice_get (posts_made ds) k ≡ Some q → slice_get (spots_made ds) k ≡ Some s
        → IsMadeAt ds k q s)
        → (k : ℕ) → slice_get (option_to_list m ++ posts_made ds) k ≡ Some p
        → slice_get (spot_if m d.spot ++ spots_made ds) k ≡ Some spot → IsMadeAt (d ∷ ds) k p spot
    go None own rest k e f = let r = rest k p spot e f in record {
      before = d ∷ r.before;
      maker = r.maker;
      after = r.after;
      all = ap (λ l. d ∷ l) r.all;
      made = r.made;
      posts_before = counted d None r.before own ∙ r.posts_before;
      spot_is = r.spot_is;
    }
    go (Some q) own rest zero e f = record {
      before = [];
      maker = d;
      after = ds;
      all = refl;
      made = own ∙ e;
      posts_before = refl;
      spot_is = same_Some d.spot spot f;
    }
    go (Some q) own rest (suc k) e f = let r = rest k p spot e f in record {
      before = d ∷ r.before;
      maker = r.maker;
      after = r.after;
      all = ap (λ l. d ∷ l) r.all;
      made = r.made;
      posts_before = counted d (Some q) r.before own ∙ ap suc r.posts_before;
      spot_is = r.spot_is;
    }

-- ---- an arrow

pub post_at : (ps : List Post) (place : ℕ) (line : Line) → slice_get (pairs ps) place ≡ Some line
    → slice_get ps place ≡ Some line.post
post_at ps place line e =
    ap (λ l. slice_get l place) (sym (posts_pairs ps))
    ∙ slice_get-map (λ (l : Line). l.post) (pairs ps) place
    ∙ ap (option_map (λ (l : Line). l.post)) e

-- from a board whose lists are the steps'
joined : (deeds : List Deed) (m : Manner) (to : Spot) (number : ℕ) (a : Arrow)
    → arrow_to (pairs (posts_made deeds)) (spots_made deeds) m to number ≡ Some a → JoinsSend deeds m number to a
joined deeds m to number a e = at_partner (partner_numbered (pairs (posts_made deeds)) number) refl e
  where
    of_post : (place : ℕ) (p : Post) (from : Spot) → partner_numbered (pairs (posts_made deeds)) number ≡ Some place
        → slice_get (posts_made deeds) place ≡ Some p → slice_get (spots_made deeds) place ≡ Some from
        → arrow_in m (Some to) p from ≡ Some a → JoinsSend deeds m number to a
    of_post place (Send s) from partner posted stood x =
        let same : record { from = from; to = Some to; dest = s.dest; carried = carried_by m s } ≡ a =
        same_Some _ a x in record {
          place = place;
          s = s;
          partner = partner;
          made = subst (λ (b : Arrow). IsMadeAt deeds place (Send s) b.from) same
              (made_at deeds place (Send s) from posted stood);
          to_is = ap (λ (b : Arrow). b.to) (sym same);
          dest_is = ap (λ (b : Arrow). b.dest) (sym same);
          carries = ap (λ (b : Arrow). b.carried) (sym same);
        }
    of_post place (Receive c) from partner posted stood x = absurd (cc)
    of_post place (Claim c) from partner posted stood x = absurd (cc)

    of_line : (place : ℕ) (l : Option Line) (s : Option Spot)
        → partner_numbered (pairs (posts_made deeds)) number ≡ Some place
        → slice_get (pairs (posts_made deeds)) place ≡ l → slice_get (spots_made deeds) place ≡ s
        → arrow_of m (Some to) l s ≡ Some a → JoinsSend deeds m number to a
    of_line place (Some line) (Some from) partner lined stood x =
        of_post place line.post from partner (post_at (posts_made deeds) place line lined) stood x
    of_line place (Some line) None partner lined stood x = absurd (cc)
    of_line place None (Some from) partner lined stood x = absurd (cc)
    of_line place None None partner lined stood x = absurd (cc)

    at_partner : (o : Option ℕ) → partner_numbered (pairs (posts_made deeds)) number ≡ o
        → arrow_if (pairs (posts_made deeds)) (spots_made deeds) m (Some to) o ≡ Some a → JoinsSend deeds m number to a
    at_partner None partner x = absurd (cc)
    at_partner (Some place) partner x =
        of_line place (slice_get (pairs (posts_made deeds)) place) (slice_get (spots_made deeds) place) partner refl refl x

pub arrow_law : ArrowLaw
arrow_law deeds lines spots m to number a b e =
    joined deeds m to number a
    (subst (λ ss. arrow_to (pairs (posts_made deeds)) ss m to number ≡ Some a) b.spots_are
    (subst (λ ls. arrow_to ls spots m to number ≡ Some a) b.lines_are e))
