-- Likeness of clusters is an equivalence.
use Rattle.std.proofs.Common.{◌≡◌, ℕ, zero, suc, List, refl, sym, ap, ◌∙◌, subst}
use Rattle.std.proofs.lemmas.Option.{same_Some}
use Rattle.mp_hub.specs.Hub.{HubView}
use Rattle.mp_alike_laws.specs.Renaming.{Renaming, followed_by, number_by, turned}
use Rattle.mp_alike_laws.specs.Alike.{AlikeHubs as SameHubs}
use Rattle.mp_source_laws.specs.Alike.{AlikeHubs, Wild, is_same}
use Rattle.mp_source_laws.proofs.Likeness.{board_on, hub_back}
use Rattle.cl_state.specs.Rank.{Rank}
use Rattle.cl_state_laws.specs.VainLaws.{at_clock}
use Rattle.cl_names_laws.specs.Named.{rank_by}
use Rattle.cl_machine.specs.Boxes.{Box}
use Rattle.cl_order_laws.specs.Alike.{AlikeBoxes, AlikeRanks, AreEach, both_empty, both_full, hub_of}
use Rattle.cl_order_laws.proofs.Ahead.{alike_on, rank_on}
use Rattle.cl_order_laws.proofs.Covered.{each_on}
use Rattle.cl_order_laws.proofs.Likeness.{rank_fixed, within_list}
use Rattle.cl_source_laws.specs.Laws.{LikenessLaw}

turned_fixed : (names : Renaming) (n : ℕ) → number_by (followed_by names (turned names)) n ≡ n
turned_fixed names zero = refl
turned_fixed names (suc n) = ap suc (names.there n)

rank_back : (names : Renaming) (a b : Rank) → AlikeRanks names a b → AlikeRanks (turned names) b a
rank_back names a b alike = (
  a.clock,
  sym (ap (λ x. at_clock (rank_by (turned names) x) a.clock) alike.1
      ∙ ap (λ x. at_clock x a.clock)
      (rank_on names (turned names) a ∙ rank_fixed (followed_by names (turned names)) (turned_fixed names) a)),
)

box_back : (a b : Box) → AlikeBoxes a b → AlikeBoxes b a
box_back a b (both_empty e f) = both_empty f e
box_back a b (both_full bytes f g) = both_full bytes g f

each_back : {A : Type 0} (R S : A → A → Type 0) (xs ys : List A) → ((x y : A) → R x y → S y x) → AreEach R xs ys
    → AreEach S ys xs
each_back R S xs ys turns are = record {
  many = sym are.many;
  each = λ i y here.
      let x = within_list ys xs (sym are.many) i y here in
      let v = are.each i x.0 x.1 in
      (x.0, x.1, subst (λ q. S q x.0) (same_Some v.0 y (sym v.1 ∙ here)) (turns x.0 v.0 v.2));
}

hubs_on : (wild : Wild) (names more : Renaming) (a b c : HubView) → AlikeHubs wild names a b → AlikeHubs wild more b c
    → AlikeHubs wild (followed_by names more) a c
hubs_on wild names more a b c f g = record {
  links = g.links ∙ f.links;
  board = board_on names more a.board b.board c.board f.board g.board;
  claims = g.claims ∙ f.claims;
  sides = λ s. g.sides s ∙ f.sides s;
  reserved = λ link. g.reserved link ∙ f.reserved link;
  senders = λ link. g.senders link ∙ f.senders link;
}

hubs_same : (wild : Wild) (names : Renaming) (a b : HubView) → SameHubs names a b → AlikeHubs wild names a b
hubs_same wild names a b f = record {
  links = f.links;
  board = record {
    many = (f.board).many;
    next = (f.board).next;
    lines = λ place. is_same ((f.board).lines place);
    bodies = (f.board).bodies;
    claims = (f.board).claims;
    ranks = λ i j m n below here there same live alive. (f.board).ranks i j m n below here there same;
    sends = λ i j s t below here there dest comm any. (f.board).sends i j s t below here there dest comm;
  };
  claims = f.claims;
  sides = f.sides;
  reserved = f.reserved;
  senders = f.senders;
}

pub likeness_law : LikenessLaw
likeness_law = record {
  same = λ wild a b alike. (
    alike.0,
    record {
      ranks = (alike.1).ranks;
      hubs = hubs_same wild alike.0 (hub_of a.journal) (hub_of b.journal) (alike.1).hubs;
      boxes = (alike.1).boxes;
    },
  );
  back = λ wild a b alike. (
    turned alike.0,
    record {
      ranks = each_back (AlikeRanks alike.0) (AlikeRanks (turned alike.0)) a.ranks b.ranks (rank_back alike.0)
          (alike.1).ranks;
      hubs = hub_back alike.0 (hub_of a.journal) (hub_of b.journal) (alike.1).hubs;
      boxes = each_back AlikeBoxes AlikeBoxes a.boxes b.boxes box_back (alike.1).boxes;
    },
  );
  on = λ wild a b c one two.
      let f = one.1 in
      let g = two.1 in (
        followed_by one.0 two.0,
        record {
          ranks = record {
            many = (g.ranks).many ∙ (f.ranks).many;
            each = λ r rank here.
                let v = (f.ranks).each r rank here in
                let w = (g.ranks).each r v.0 v.1 in
                (w.0, w.1, alike_on one.0 two.0 rank v.0 w.0 v.2 w.2);
          };
          hubs = hubs_on wild one.0 two.0 (hub_of a.journal) (hub_of b.journal) (hub_of c.journal) f.hubs g.hubs;
          boxes = each_on a.boxes b.boxes c.boxes f.boxes g.boxes;
        },
      );
}
