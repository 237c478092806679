-- Likeness is an equivalence.
use Rattle.std.proofs.Common.{◌≡◌, ℕ, ◌<◌, inl, inr, Option, Some, None, refl, sym, ap, ◌∙◌, subst, arith}
use Rattle.std.specs.List.{slice_get}
use Rattle.std.specs.Option.{option_map}
use Rattle.std.proofs.lemmas.Bool.{cases_order}
use Rattle.std.proofs.lemmas.Option.{same_Some}
use Rattle.mp_match.specs.declared.posts.Line.{Line}
use Rattle.mp_match.specs.declared.posts.Post.{Post}
use Rattle.mp_match.specs.declared.posts.Post.TheVariants.{Send}
use Rattle.mp_match.specs.declared.posts.Sent.{Sent}
use Rattle.mp_match.specs.Board.{Board}
use Rattle.mp_hub.specs.Hub.{HubView}
use Rattle.mp_alike_laws.specs.Renaming.{Renaming, followed_by, line_by, no_renaming, turned}
use Rattle.mp_alike_laws.specs.Alike.{IsUnpaired, maker}
use Rattle.mp_source_laws.specs.Alike.{AlikeBoards, AlikeHubs, IsAlikeAt, IsOver, IsOverReceive, IsOverSend, Wild, is_same, over_receives, over_sends}
use Rattle.mp_source_laws.specs.Laws.{AreAlike, LikenessLaw}
use Rattle.mp_source_laws.proofs.Over.{claim_is_live, free_is_live, one_way, over_here, over_there, receive_here, receive_there, same_or_over, send_here, send_there}

-- ---- itself

same_partner : (o : Option ℕ) → o ≡ option_map (no_renaming.to) o
same_partner None = refl
same_partner (Some p) = refl

same_line : (o : Option Line) → o ≡ option_map (line_by no_renaming) o
same_line None = refl
same_line (Some line) =
    ap (λ (p : Option ℕ). (let m : Line = record { post = line.post; partner = p } in Some m)) (same_partner line.partner)

pub itself : {wild : Wild} → (a : HubView) → AlikeHubs wild no_renaming a a
itself a = record {
  links = refl;
  board = record {
    many = refl;
    next = λ place past. refl;
    lines = λ place. is_same (same_line (slice_get a.board.lines place));
    bodies = λ place. refl;
    claims = λ place line what here is. refl;
    ranks = λ i j m n below here there same live alive. below;
    sends = λ i j s t below here there dest comm any. below;
  };
  claims = refl;
  sides = λ s. refl;
  reserved = λ link. refl;
  senders = λ link. refl;
}

-- ---- back

back_partner : (names : Renaming) (o : Option ℕ) → option_map names.back (option_map names.to o) ≡ o
back_partner names None = refl
back_partner names (Some p) = ap (λ k. Some k) (names.there p)

back_line : (names : Renaming) (o : Option Line)
    → option_map (line_by (turned names)) (option_map (line_by names) o) ≡ o
back_line names None = refl
back_line names (Some line) =
    ap (λ (p : Option ℕ). (let m : Line = record { post = line.post; partner = p } in Some m))
    (back_partner names line.partner)

-- the line of the one hub of which a line of the other is the renamed
pub record Origin (names : Renaming) (a : Board) (place : ℕ) (line : Line) : Type 0 where
  pub from : Line
  pub here : slice_get a.lines (names.back place) ≡ Some from
  pub is : line ≡ line_by names from

-- a post of the one that isn't over isn't in the other
pub live_back : {wild : Wild} → (names : Renaming) (a b : Board) → AlikeBoards wild names a b → (place : ℕ)
    → (IsOver b place → ⊥) → IsOver a (names.back place) → ⊥
live_back names a b alike place live over =
    live (subst (IsOver b) (names.again place)
    (over_there names a b alike.bodies (names.back place) (alike.lines (names.back place)) over))

pub origin : {wild : Wild} → (names : Renaming) (a b : Board) → AlikeBoards wild names a b → (place : ℕ) (line : Line)
    → slice_get b.lines place ≡ Some line → (IsOver b place → ⊥) → Origin names a place line
origin names a b alike place line here live =
    go (slice_get a.lines (names.back place)) refl
    (sym (same_or_over names a b (names.back place) (alike.lines (names.back place)) (live_back names a b alike place live))
    ∙ ap (slice_get b.lines) (names.again place) ∙ here)
  where
    go : (o : Option Line) → slice_get a.lines (names.back place) ≡ o → option_map (line_by names) o ≡ Some line
        → Origin names a place line
    go None e h = absurd (cc)
    go (Some m) e h = record { from = m; here = e; is = sym (same_Some (line_by names m) line h) }

none_back : (names : Renaming) (o : Option ℕ) → option_map names.to o ≡ None → o ≡ None
none_back names None h = refl
none_back names (Some p) h = absurd (cc)

-- places in order come from places in order
from_order : (names : Renaming) (i j : ℕ) → i < j → (names.back j < names.back i → j < i) → names.back i < names.back j
from_order names i j below turns = elim (cases_order (names.back i) (names.back j)) [
  | inl same ↦
      let e : i ≡ j = sym (names.again i) ∙ ap names.to same ∙ names.again j in absurd (omega (arith, below, e))
  | inr other ↦ elim other [
    | inl right ↦ right
    | inr wrong ↦ (let t = turns wrong in absurd (omega (arith, below, t)))
  ]
]

board_back : {wild : Wild} → (names : Renaming) (a b : Board) → AlikeBoards wild names a b → AlikeBoards wild (turned names) b a
board_back {wild} names a b alike = record {
  many = sym alike.many;
  next = λ place past.
      let e : names.to place ≡ place = alike.next place (let m = alike.many in omega (arith, past, m)) in
      sym (ap names.back e) ∙ names.there place;
  lines = λ place. line_back place (alike.lines (names.back place));
  bodies = λ place. sym (alike.bodies (names.back place)) ∙ ap (slice_get b.bodies) (names.again place);
  claims = λ place line what here is.
      let o = origin names a b alike place line here (claim_is_live b place line what here is) in
      let same : names.to (names.back place) ≡ names.back place = alike.claims (names.back place) o.from what o.here
      (sym (ap (λ (z : Line). z.post) o.is) ∙ is) in
      sym same ∙ names.again place;
  ranks = λ i j m n below here there same live alive.
      let o = origin names a b alike i m here live in
      let p = origin names a b alike j n there alive in
      from_order names i j below (λ wrong.
      let t = alike.ranks (names.back j) (names.back i) p.from o.from wrong p.here o.here
      (sym (ap (λ (z : Line). maker z.post) p.is) ∙ sym same ∙ ap (λ (z : Line). maker z.post) o.is)
      (live_back names a b alike j alive) (live_back names a b alike i live) in
      subst (λ k. k < i) (names.again j) (subst (λ k. names.to (names.back j) < k) (names.again i) t));
  sends = λ i j s t below here there dest comm any.
      from_order names i j below (λ wrong.
      let u = alike.sends (names.back j) (names.back i) t s wrong (unpaired j t there) (unpaired i s here) (sym dest)
      (sym comm) (sym (ap (λ d. wild d (t.envelope).comm) dest) ∙ sym (ap (wild s.dest) comm) ∙ any) in
      subst (λ k. k < i) (names.again j) (subst (λ k. names.to (names.back j) < k) (names.again i) u));
}
  where
    line_back : (place : ℕ) → IsAlikeAt names a b (names.back place) → IsAlikeAt (turned names) b a place
    line_back place (is_same same) = is_same
        (sym (back_line names (slice_get a.lines (names.back place)))
        ∙ ap (option_map (line_by (turned names))) (sym same ∙ ap (slice_get b.lines) (names.again place)))
    line_back place (over_sends mine theirs) = over_sends (subst (IsOverSend b) (names.again place) theirs) mine
    line_back place (over_receives mine theirs) = over_receives (subst (IsOverReceive b) (names.again place) theirs) mine

    unpaired : (i : ℕ) (s : Sent) → IsUnpaired b.lines i s → IsUnpaired a.lines (names.back i) s
    unpaired i s here =
        let line : Line = record { post = Send s; partner = None } in
        let o = origin names a b alike i line here (free_is_live b i line here refl) in
        let post : (o.from).post ≡ Send s = sym (ap (λ (z : Line). z.post) o.is) in
        let partner : (o.from).partner ≡ None = none_back names (o.from).partner (sym (ap (λ (z : Line). z.partner) o.is)) in
        o.here ∙ ap (λ (z : Line). Some z) (line_is o.from post partner)
      where
        line_is : (m : Line) {p : Post} {q : Option ℕ} → m.post ≡ p → m.partner ≡ q
            → m ≡ record { post = p; partner = q }
        line_is m e f = λ k. record { post = e k; partner = f k }

pub hub_back : {wild : Wild} → (names : Renaming) (a b : HubView) → AlikeHubs wild names a b → AlikeHubs wild (turned names) b a
hub_back names a b h = record {
  links = sym h.links;
  board = board_back names a.board b.board h.board;
  claims = sym h.claims;
  sides = λ s. sym (h.sides s);
  reserved = λ link. sym (h.reserved link);
  senders = λ link. sym (h.senders link);
}

back : (wild : Wild) (a b : HubView) → AreAlike wild a b → AreAlike wild b a
back wild a b alike = (turned alike.0, hub_back alike.0 a b alike.1)

-- ---- on

on_partner : (names more : Renaming) (o : Option ℕ)
    → option_map more.to (option_map names.to o) ≡ option_map (λ place. more.to (names.to place)) o
on_partner names more None = refl
on_partner names more (Some p) = refl

on_line : (names more : Renaming) (o : Option Line)
    → option_map (line_by more) (option_map (line_by names) o) ≡ option_map (line_by (followed_by names more)) o
on_line names more None = refl
on_line names more (Some line) =
    ap (λ (p : Option ℕ). (let m : Line = record { post = line.post; partner = p } in Some m))
    (on_partner names more line.partner)

pub board_on : {wild : Wild} → (names more : Renaming) (a b c : Board) → AlikeBoards wild names a b → AlikeBoards wild more b c
    → AlikeBoards wild (followed_by names more) a c
board_on names more a b c f g = record {
  many = g.many ∙ f.many;
  next = λ place past.
      ap more.to (f.next place past) ∙ g.next place (let m = f.many in omega (arith, past, m));
  lines = λ place. line_on place (f.lines place) (g.lines (names.to place));
  bodies = λ place. g.bodies (names.to place) ∙ f.bodies place;
  claims = λ place line what here is.
      let same : names.to place ≡ place = f.claims place line what here is in
      ap more.to same ∙ g.claims place (line_by names line) what
      (ap (slice_get b.lines) (sym same) ∙ goes place line here (claim_is_live a place line what here is)) is;
  ranks = λ i j m n below here there same live alive.
      g.ranks (names.to i) (names.to j) (line_by names m) (line_by names n) (f.ranks i j m n below here there same live alive)
      (goes i m here live) (goes j n there alive) same
      (λ over. live (over_here names a b f.bodies i (f.lines i) over))
      (λ over. alive (over_here names a b f.bodies j (f.lines j) over));
  sends = λ i j s t below here there dest comm any.
      let one : Line = record { post = Send s; partner = None } in
      let other : Line = record { post = Send t; partner = None } in
      g.sends (names.to i) (names.to j) s t (f.sends i j s t below here there dest comm any)
      (goes i one here (free_is_live a i one here refl)) (goes j other there (free_is_live a j other there refl)) dest comm any;
}
  where
    goes : (i : ℕ) (m : Line) → slice_get a.lines i ≡ Some m → (IsOver a i → ⊥)
        → slice_get b.lines (names.to i) ≡ Some (line_by names m)
    goes i m here live = same_or_over names a b i (f.lines i) live ∙ ap (option_map (line_by names)) here

    line_on : (place : ℕ) → IsAlikeAt names a b place → IsAlikeAt more b c (names.to place)
        → IsAlikeAt (followed_by names more) a c place
    line_on place (is_same same) (is_same then) = is_same
        (then ∙ ap (option_map (line_by more)) same ∙ on_line names more (slice_get a.lines place))
    line_on place (is_same same) (over_sends mine theirs) = over_sends (send_here names a b f.bodies place same mine) theirs
    line_on place (is_same same) (over_receives mine theirs) =
        over_receives (receive_here names a b f.bodies place same mine) theirs
    line_on place (over_sends mine theirs) (is_same then) =
        over_sends mine (send_there more b c g.bodies (names.to place) then theirs)
    line_on place (over_sends mine theirs) (over_sends also last) = over_sends mine last
    line_on place (over_sends mine theirs) (over_receives also last) =
        absurd (one_way b (names.to place) theirs also)
    line_on place (over_receives mine theirs) (is_same then) =
        over_receives mine (receive_there more b c g.bodies (names.to place) then theirs)
    line_on place (over_receives mine theirs) (over_sends also last) =
        absurd (one_way b (names.to place) also theirs)
    line_on place (over_receives mine theirs) (over_receives also last) = over_receives mine last

on : (wild : Wild) (a b c : HubView) → AreAlike wild a b → AreAlike wild b c → AreAlike wild a c
on wild a b c one two =
    let f = one.1 in
    let g = two.1 in (
      followed_by one.0 two.0,
      record {
        links = g.links ∙ f.links;
        board = board_on one.0 two.0 a.board b.board c.board f.board g.board;
        claims = g.claims ∙ f.claims;
        sides = λ s. g.sides s ∙ f.sides s;
        reserved = λ link. g.reserved link ∙ f.reserved link;
        senders = λ link. g.senders link ∙ f.senders link;
      },
    )

pub likeness_law : LikenessLaw
likeness_law = record { itself = λ wild a. (no_renaming, itself a); back = back; on = on }
