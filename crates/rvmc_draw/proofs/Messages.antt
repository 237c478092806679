-- The arrows of the messages that steps got, and of those that nobody got.
use Rattle.std.specs.Prelude.{ℕ, zero, suc, ◌≡◌, ◌⊎◌, ◌+◌, ◌<◌, ◌≤◌, ◌&&◌, not, if◌then◌else◌, Bool, true, false}
use Rattle.std.specs.Prelude.{List, [], ◌∷◌, ◌++◌, length, option_to_list, Option, Some, None}
use Rattle.std.specs.List.{flat_map, range_with_len, slice_get}
use Rattle.std.specs.Option.{option_map}
use Rattle.std.proofs.Common.{refl, sym, ap, ◌∙◌, subst, inl, inr, arith}
use Rattle.std.proofs.lemmas.Bool.{false≢true}
use Rattle.std.proofs.lemmas.Grind.{flat_map-append}
use Rattle.std.proofs.lemmas.Option.{same_Some, slice_get-map, slice_get_within}
use Rattle.mp_match.proofs.OrderKept.{posts_pairs}
use Rattle.mp_match.specs.PostPairs.{pairs}
use Rattle.mp_match.specs.declared.posts.Line.{Line}
use Rattle.mp_match.specs.declared.posts.Post.{Post}
use Rattle.mp_match.specs.declared.posts.Post.TheVariants.{Send, Receive, Claim}
use Rattle.mp_match.specs.declared.posts.Selection.{Selection}
use Rattle.mp_match.specs.declared.posts.Sent.{Sent}
use Rattle.rvmc_draw.specs.Among.{IsAmong}
use Rattle.rvmc_draw.specs.Board.{arrow_at, arrow_if, arrow_in, arrow_of, arrow_to, arrows_to, carried_by, claim_arrows, could, could_from}
use Rattle.rvmc_draw.specs.Board.{could_of_all, is_got_in, lines_with, lost, lost_by, lost_from, lost_here, message, messages, other_first, partner_numbered}
use Rattle.rvmc_draw.specs.Board.{posts_made, spot_if, spots_made, wildcard_in}
use Rattle.rvmc_draw.specs.Laws.{IsBoardOf, IsGotAmong, IsGotArrow, IsLostArrow, IsMadeAt, JoinsSend, LostLaw, MessagesLaw, is_message}
use Rattle.rvmc_draw.specs.Parts.{arrow_from, arrow_if_there, arrow_to_taker, arrows_taken, box_place, cell_of}
use Rattle.rvmc_draw.specs.Views.{is_in_view}
use Rattle.rvmc_draw.specs.Walks.{Scope, arrows_by, arrows_of, got_places, within}
use Rattle.rvmc_draw.specs.declared.board.Manner.{Manner}
use Rattle.rvmc_draw.specs.declared.board.Manner.TheVariants as manner
use Rattle.rvmc_draw.specs.declared.deeds.Deed.{Deed}
use Rattle.rvmc_draw.specs.declared.drawing.Arrow.{Arrow}
use Rattle.rvmc_draw.specs.declared.drawing.Carried.{Carried}
use Rattle.rvmc_draw.specs.declared.drawing.Carried.TheVariants.{Message, Partition}
use Rattle.rvmc_draw.specs.declared.drawing.Spot.{Spot}
use Rattle.rvmc_draw.specs.declared.parts.Cell.{Cell}
use Rattle.rvmc_draw.specs.declared.views.View.{View}
use Rattle.rvmc_draw.proofs.Among.{added_by, among_append, among_first, among_flat, among_left, among_none, among_one, among_option}
use Rattle.rvmc_draw.proofs.Among.{among_range, among_right, by_added, flat_among, option_among}
use Rattle.rvmc_draw.proofs.Boards.{arrow_law, board_kept, made_at, post_at}
use Rattle.rvmc_draw.proofs.Lost.{got_law}

-- ---- what an arrow carries

-- it is a send's, told in this manner
pub record Carries (m : Manner) (a : Arrow) : Type 0 where
  pub s : Sent
  pub is : a.carried ≡ carried_by m s

carries_in : (m : Manner) (to : Option Spot) (p : Post) (from : Spot) (a : Arrow) → arrow_in m to p from ≡ Some a → Carries m a
carries_in m to (Send s) from a e = record {
  s = s;
  is = ap (λ (b : Arrow). b.carried)
      (sym (same_Some (record { from = from; to = to; dest = s.dest; carried = carried_by m s }) a e));
}
carries_in m to (Receive c) from a e = absurd (cc)
carries_in m to (Claim c) from a e = absurd (cc)

carries_of : (m : Manner) (to : Option Spot) (l : Option Line) (s : Option Spot) (a : Arrow) → arrow_of m to l s ≡ Some a
    → Carries m a
carries_of m to (Some line) (Some from) a e = carries_in m to line.post from a e
carries_of m to (Some line) None a e = absurd (cc)
carries_of m to None (Some from) a e = absurd (cc)
carries_of m to None None a e = absurd (cc)

pub carries_if : (lines : List Line) (spots : List Spot) (m : Manner) (to : Option Spot) (o : Option ℕ) (a : Arrow)
    → arrow_if lines spots m to o ≡ Some a → Carries m a
carries_if lines spots m to None a e = absurd (cc)
carries_if lines spots m to (Some place) a e =
    carries_of m to (slice_get lines place) (slice_get spots place) a e

-- so it passes no test that none of a send in this manner passes
pub none_such : (q : Carried → Bool) (m : Manner) (a : Arrow) → ((s : Sent) → q (carried_by m s) ≡ false) → Carries m a
    → q a.carried ≡ true → ⊥
none_such q m a none c is = false≢true (sym (none c.s) ∙ ap q (sym c.is) ∙ is)

could_none : (q : Carried → Bool) → ((s : Sent) → q (carried_by manner.Could s) ≡ false)
    → (lines : List Line) (spots : List Spot) (to : Spot) (c : Selection) (source : ℕ) (a : Arrow)
    → IsAmong (could_from lines spots to c source) a → q a.carried ≡ true → ⊥
unfolding could_from
could_none q none lines spots to c source a there is =
    none_such q manner.Could a none
    (carries_if lines spots manner.Could (Some to) (other_first lines c source) a
    (option_among (arrow_if lines spots manner.Could (Some to) (other_first lines c source)) a there)) is

pub coulds_none : (q : Carried → Bool) → ((s : Sent) → q (carried_by manner.Could s) ≡ false)
    → (ranks : ℕ) (lines : List Line) (spots : List Spot) (to : Spot) (w : Option Selection) (a : Arrow)
    → IsAmong (could ranks lines spots to w) a → q a.carried ≡ true → ⊥
coulds_none q none ranks lines spots to None a there is = among_none a there
coulds_none q none ranks lines spots to (Some c) a there is =
    let o = flat_among (could_from lines spots to c) (range_with_len 0 ranks) a there in
    could_none q none lines spots to c o.one a o.of_it is

pub claims_none : (q : Carried → Bool) → ((s : Sent) → q (carried_by manner.Claimed s) ≡ false)
    → (lines : List Line) (spots : List Spot) (to : Spot) (made : Option Post) (a : Arrow)
    → IsAmong (claim_arrows lines spots to made) a → q a.carried ≡ true → ⊥
claims_none q none lines spots to None a there is = among_none a there
claims_none q none lines spots to (Some (Send s)) a there is = among_none a there
claims_none q none lines spots to (Some (Receive c)) a there is = among_none a there
claims_none q none lines spots to (Some (Claim c)) a there is =
    none_such q manner.Claimed a none
    (carries_if lines spots manner.Claimed (Some to) (partner_numbered lines (length lines)) a
    (option_among (arrow_to lines spots manner.Claimed to (length lines)) a there)) is

-- ---- what a step got

-- the arrow to the step of one of the posts that it got
pub record IsOfNumber (lines : List Line) (spots : List Spot) (d : Deed) (a : Arrow) : Type 0 where
  pub number : ℕ
  pub got : IsAmong d.got.items number
  pub is : arrow_to lines spots manner.Got d.spot number ≡ Some a

pub of_number : (lines : List Line) (spots : List Spot) (d : Deed) (a : Arrow)
    → IsAmong (messages lines spots d.spot d.got.items) a → IsOfNumber lines spots d a
unfolding message
of_number lines spots d a there =
    let o = flat_among (message lines spots d.spot) d.got.items a there in record {
      number = o.one;
      got = o.here;
      is = option_among (arrow_to lines spots manner.Got d.spot o.one) a o.of_it;
    }

by_number : (lines : List Line) (spots : List Spot) (d : Deed) (a : Arrow) → IsOfNumber lines spots d a
    → IsAmong (messages lines spots d.spot d.got.items) a
unfolding message
by_number lines spots d a o =
    among_flat (message lines spots d.spot) d.got.items o.number a o.got
    (among_option (arrow_to lines spots manner.Got d.spot o.number) a o.is)

-- what carries a partition is no message
taken_none : (cells : ℕ → Option Cell) (taken : Option (ℕ × ℕ)) (to : Spot) (a : Arrow)
    → IsAmong (arrow_to_taker cells taken to) a → is_message a.carried ≡ true → ⊥
taken_none cells None to a there is = among_none a there
taken_none cells (Some box) to a there is = of_cell (cells (box_place box)) there
  where
    of_last : (phase : ℕ) (last : Option Spot) → IsAmong (arrow_from box to (record { phase = phase; last = last })) a → ⊥
    of_last phase None here = among_none a here
    of_last phase (Some from) here =
        false≢true (sym (ap (λ (b : Arrow). is_message b.carried)
        (among_one (record { from = from; to = Some to; dest = to.rank; carried = Partition box.0 box.1 phase }) a here)) ∙ is)

    of_cell : (o : Option Cell) → IsAmong (arrow_if_there box to o) a → ⊥
    of_cell None here = among_none a here
    of_cell (Some cell) here = of_last cell.phase cell.last here

-- ---- from the posts of the steps

get_behind : {A : Type 0} (xs ys : List A) (x : A) → slice_get (xs ++ x ∷ ys) (length xs) ≡ Some x
get_behind [] ys x = refl
get_behind (y ∷ xs) ys x = get_behind xs ys x

as_many : (deeds : List Deed) → length (spots_made deeds) ≡ length (posts_made deeds)
as_many [] = refl
as_many (d ∷ ds) = go d.made (as_many ds)
  where
    go : (m : Option Post) → length (spots_made ds) ≡ length (posts_made ds)
        → length (spot_if m d.spot ++ spots_made ds) ≡ length (option_to_list m ++ posts_made ds)
    go None same = same
    go (Some p) same = ap suc same

posts_are : (deeds : List Deed) (place : ℕ) (p : Post) (spot : Spot) (m : IsMadeAt deeds place p spot)
    → posts_made deeds ≡ posts_made m.before ++ p ∷ posts_made m.after
posts_are deeds place p spot m =
    ap posts_made m.all
    ∙ flat_map-append (λ (d : Deed). option_to_list d.made) m.before (m.maker ∷ m.after)
    ∙ ap (λ o. posts_made m.before ++ (option_to_list o ++ posts_made m.after)) m.made

spots_are : (deeds : List Deed) (place : ℕ) (p : Post) (spot : Spot) (m : IsMadeAt deeds place p spot)
    → spots_made deeds ≡ spots_made m.before ++ spot ∷ spots_made m.after
spots_are deeds place p spot m =
    ap spots_made m.all
    ∙ flat_map-append (λ (d : Deed). spot_if d.made d.spot) m.before (m.maker ∷ m.after)
    ∙ ap (λ o. spots_made m.before ++ (spot_if o m.maker.spot ++ spots_made m.after)) m.made
    ∙ ap (λ s. spots_made m.before ++ s ∷ spots_made m.after) m.spot_is

made_post : (deeds : List Deed) (place : ℕ) (p : Post) (spot : Spot) → IsMadeAt deeds place p spot
    → slice_get (posts_made deeds) place ≡ Some p
made_post deeds place p spot m =
    ap (slice_get (posts_made deeds)) (sym m.posts_before)
    ∙ ap (λ l. slice_get l (length (posts_made m.before))) (posts_are deeds place p spot m)
    ∙ get_behind (posts_made m.before) (posts_made m.after) p

made_spot : (deeds : List Deed) (place : ℕ) (p : Post) (spot : Spot) → IsMadeAt deeds place p spot
    → slice_get (spots_made deeds) place ≡ Some spot
made_spot deeds place p spot m =
    ap (slice_get (spots_made deeds)) (sym (as_many m.before ∙ m.posts_before))
    ∙ ap (λ l. slice_get l (length (spots_made m.before))) (spots_are deeds place p spot m)
    ∙ get_behind (spots_made m.before) (spots_made m.after) spot

-- the line of a post
record HasLine (lines : List Line) (place : ℕ) (p : Post) : Type 0 where
  line : Line
  there : slice_get lines place ≡ Some line
  posted : line.post ≡ p

line_of : (ps : List Post) (place : ℕ) (p : Post) → slice_get ps place ≡ Some p → HasLine (pairs ps) place p
line_of ps place p e =
    go (slice_get (pairs ps) place) refl
    (sym (slice_get-map (λ (l : Line). l.post) (pairs ps) place) ∙ ap (λ l. slice_get l place) (posts_pairs ps) ∙ e)
  where
    go : (o : Option Line) → slice_get (pairs ps) place ≡ o → option_map (λ (l : Line). l.post) o ≡ Some p
        → HasLine (pairs ps) place p
    go None there f = absurd (cc)
    go (Some line) there f = record { line = line; there = there; posted = same_Some line.post p f }

arrow_made : (deeds : List Deed) (place : ℕ) (s : Sent) (from : Spot) (m : Manner) (to : Option Spot)
    → IsMadeAt deeds place (Send s) from
    → arrow_at (pairs (posts_made deeds)) (spots_made deeds) m to place
    ≡ Some (record { from = from; to = to; dest = s.dest; carried = carried_by m s })
arrow_made deeds place s from m to made =
    let line = line_of (posts_made deeds) place (Send s) (made_post deeds place (Send s) from made) in
    ap (λ o. arrow_of m to o (slice_get (spots_made deeds) place)) line.there
    ∙ ap (arrow_of m to (Some line.line)) (made_spot deeds place (Send s) from made)
    ∙ ap (λ p. arrow_in m to p from) line.posted

arrow_joined : (deeds : List Deed) (m : Manner) (number : ℕ) (to : Spot) (a : Arrow) → JoinsSend deeds m number to a
    → arrow_to (pairs (posts_made deeds)) (spots_made deeds) m to number ≡ Some a
arrow_joined deeds m number to a j =
    ap (arrow_if (pairs (posts_made deeds)) (spots_made deeds) m (Some to)) j.partner
    ∙ arrow_made deeds j.place j.s a.from m (Some to) j.made
    ∙ ap (λ t. Some (record { from = a.from; to = t; dest = j.s.dest; carried = carried_by m j.s })) (sym j.to_is)
    ∙ ap (λ n. Some (record { from = a.from; to = a.to; dest = n; carried = carried_by m j.s })) (sym j.dest_is)
    ∙ ap (λ c. Some (record { from = a.from; to = a.to; dest = a.dest; carried = c })) (sym j.carries)

-- ---- messages that were got

in_step : (scope : Scope) (before : List Deed) (d : Deed) (a : Arrow) → IsAmong (arrows_by scope before d) a
    → is_message a.carried ≡ true
    → IsOfNumber (lines_with (pairs (posts_made before)) d.made) (spots_made before ++ spot_if d.made d.spot) d a
in_step scope before d a there is =
    elim (among_append (arrows_to scope.ranks (pairs (posts_made before)) (spots_made before) d)
    (arrows_taken (within scope.boxes (cell_of before)) d) a there) [
      | inr taken ↦ absurd (taken_none (within scope.boxes (cell_of before)) d.taken d.spot a taken is)
      | inl sent ↦ elim (among_append
          (could scope.ranks (pairs (posts_made before)) (spots_made before) d.spot (wildcard_in d.made))
          (claim_arrows lines spots d.spot d.made ++ messages lines spots d.spot d.got.items) a sent) [
            | inl other ↦ absurd (coulds_none is_message (λ s. refl) scope.ranks (pairs (posts_made before))
                (spots_made before) d.spot (wildcard_in d.made) a other is)
            | inr more ↦ elim (among_append (claim_arrows lines spots d.spot d.made)
                (messages lines spots d.spot d.got.items) a more) [
                  | inl claimed ↦ absurd (claims_none is_message (λ s. refl) lines spots d.spot d.made a claimed is)
                  | inr got ↦ of_number lines spots d a got
                ]
          ]
    ]
  where
    lines : List Line
    lines = lines_with (pairs (posts_made before)) d.made

    spots : List Spot
    spots = spots_made before ++ spot_if d.made d.spot

by_step : (scope : Scope) (before : List Deed) (d : Deed) (a : Arrow)
    → IsOfNumber (lines_with (pairs (posts_made before)) d.made) (spots_made before ++ spot_if d.made d.spot) d a
    → IsAmong (arrows_by scope before d) a
by_step scope before d a o =
    among_left (arrows_to scope.ranks (pairs (posts_made before)) (spots_made before) d)
    (arrows_taken (within scope.boxes (cell_of before)) d) a
    (among_right (could scope.ranks (pairs (posts_made before)) (spots_made before) d.spot (wildcard_in d.made))
    (claim_arrows lines spots d.spot d.made ++ messages lines spots d.spot d.got.items) a
    (among_right (claim_arrows lines spots d.spot d.made) (messages lines spots d.spot d.got.items) a
    (by_number lines spots d a o)))
  where
    lines : List Line
    lines = lines_with (pairs (posts_made before)) d.made

    spots : List Spot
    spots = spots_made before ++ spot_if d.made d.spot

board_of : (before : List Deed) (d : Deed) → IsBoardOf (before ++ d ∷ [])
    (lines_with (pairs (posts_made before)) d.made) (spots_made before ++ spot_if d.made d.spot)
board_of before d =
    board_kept before d (pairs (posts_made before)) (spots_made before) (record { lines_are = refl; spots_are = refl })

got_arrow : (scope : Scope) (deeds : List Deed) (a : Arrow) → IsAmong (arrows_of scope deeds) a
    → is_message a.carried ≡ true → IsGotArrow deeds a
got_arrow scope deeds a there is =
    let s = added_by (arrows_by scope) deeds a there in
    let o = in_step scope s.before s.deed a s.added is in record {
      before = s.before;
      getter = s.deed;
      after = s.after;
      all = s.all;
      number = o.number;
      got = o.got;
      joins = arrow_law (s.before ++ s.deed ∷ []) (lines_with (pairs (posts_made s.before)) s.deed.made)
          (spots_made s.before ++ spot_if s.deed.made s.deed.spot) manner.Got s.deed.spot o.number a
          (board_of s.before s.deed) o.is;
    }

arrow_got : (scope : Scope) (deeds : List Deed) (a : Arrow) → IsGotArrow deeds a
    → IsAmong (arrows_of scope deeds) a × (is_message a.carried ≡ true)
arrow_got scope deeds a g =
    let b = board_of g.before g.getter in (
      by_added (arrows_by scope) deeds a (record {
        before = g.before;
        deed = g.getter;
        after = g.after;
        all = g.all;
        added = by_step scope g.before g.getter a (record {
          number = g.number;
          got = g.got;
          is = ap (λ ls. arrow_to ls (spots_made g.before ++ spot_if g.getter.made g.getter.spot) manner.Got
              g.getter.spot g.number) b.lines_are
              ∙ ap (λ ss. arrow_to (pairs (posts_made (g.before ++ g.getter ∷ []))) ss manner.Got g.getter.spot g.number)
              b.spots_are
              ∙ arrow_joined (g.before ++ g.getter ∷ []) manner.Got g.number g.getter.spot a g.joins;
        });
      }),
      ap is_message g.joins.carries,
    )

pub messages_law : MessagesLaw
messages_law scope deeds a = ((λ both. got_arrow scope deeds a both.0 both.1), arrow_got scope deeds a)

-- ---- messages that nobody got

lost_of_line : (deeds : List Deed) (view : View) (place : ℕ) (from : Spot) (a : Arrow) → is_in_view view from ≡ true
    → (¬ IsGotAmong deeds place) → slice_get (spots_made deeds) place ≡ Some from → (l : Option Line)
    → slice_get (pairs (posts_made deeds)) place ≡ l → arrow_of manner.Got None l (Some from) ≡ Some a
    → IsLostArrow deeds view a
lost_of_line deeds view place from a shown nobody stood None lined e = absurd (cc)
lost_of_line deeds view place from a shown nobody stood (Some line) lined e =
    go line.post (post_at (posts_made deeds) place line lined) e
  where
    go : (p : Post) → slice_get (posts_made deeds) place ≡ Some p → arrow_in manner.Got None p from ≡ Some a
        → IsLostArrow deeds view a
    go (Send s) posted f = record {
      place = place;
      s = s;
      from = from;
      made = made_at deeds place (Send s) from posted stood;
      shown = shown;
      nobody = nobody;
      arrow_is = sym (same_Some (record {
        from = from;
        to = None;
        dest = s.dest;
        carried = Message s.envelope.tag s.envelope.count;
      }) a f);
    }
    go (Receive c) posted f = absurd (cc)
    go (Claim c) posted f = absurd (cc)

lost_here_is : (deeds : List Deed) (view : View) (place : ℕ) (a : Arrow)
    → IsAmong (lost_here view (pairs (posts_made deeds)) (spots_made deeds) (got_places deeds) place) a
    → IsLostArrow deeds view a
lost_here_is deeds view place a there = at_spot (slice_get (spots_made deeds) place) refl there
  where
    lines : List Line
    lines = pairs (posts_made deeds)

    at_spot : (o : Option Spot) → slice_get (spots_made deeds) place ≡ o
        → IsAmong (lost_by view lines (spots_made deeds) (got_places deeds) place o) a → IsLostArrow deeds view a
    at_spot None stood here = absurd (among_none a here)
    at_spot (Some from) stood here =
        go (is_in_view view from) (is_got_in (got_places deeds) place) refl refl here
      where
        go : (v g : Bool) → is_in_view view from ≡ v → is_got_in (got_places deeds) place ≡ g
            → IsAmong (if v && not g
            then option_to_list (arrow_at lines (spots_made deeds) manner.Got None place) else []) a
            → IsLostArrow deeds view a
        go false g shown got h = absurd (among_none a h)
        go true true shown got h = absurd (among_none a h)
        go true false shown got h =
            lost_of_line deeds view place from a shown
            (λ among. false≢true (sym got ∙ (got_law deeds place).1 among)) stood (slice_get lines place) refl
            (ap (arrow_of manner.Got None (slice_get lines place)) (sym stood)
            ∙ option_among (arrow_at lines (spots_made deeds) manner.Got None place) a h)

is_lost : (deeds : List Deed) (view : View) (a : Arrow)
    → IsAmong (lost view (pairs (posts_made deeds)) (spots_made deeds) (got_places deeds)) a → IsLostArrow deeds view a
unfolding lost_from
is_lost deeds view a there =
    let o = flat_among (lost_from view (pairs (posts_made deeds)) (spots_made deeds) (got_places deeds))
    (range_with_len 0 (length (pairs (posts_made deeds)))) a there in
    lost_here_is deeds view o.one a o.of_it

not_got : (deeds : List Deed) (place : ℕ) → (¬ IsGotAmong deeds place) → is_got_in (got_places deeds) place ≡ false
not_got deeds place nobody = go (is_got_in (got_places deeds) place) refl
  where
    go : (b : Bool) → is_got_in (got_places deeds) place ≡ b → b ≡ false
    go false e = refl
    go true e = absurd (nobody ((got_law deeds place).0 e))

lost_is : (deeds : List Deed) (view : View) (a : Arrow) → IsLostArrow deeds view a
    → IsAmong (lost view (pairs (posts_made deeds)) (spots_made deeds) (got_places deeds)) a
unfolding lost_from
lost_is deeds view a l =
    let lines = pairs (posts_made deeds) in
    let line = line_of (posts_made deeds) l.place (Send l.s) (made_post deeds l.place (Send l.s) l.from l.made) in
    let within : l.place < length lines = slice_get_within lines l.place line.line line.there in
    let here : lost_here view lines (spots_made deeds) (got_places deeds) l.place ≡ a ∷ [] =
    ap (lost_by view lines (spots_made deeds) (got_places deeds) l.place)
    (made_spot deeds l.place (Send l.s) l.from l.made)
    ∙ ap (λ v. if v && not (is_got_in (got_places deeds) l.place)
    then option_to_list (arrow_at lines (spots_made deeds) manner.Got None l.place) else []) l.shown
    ∙ ap (λ g. if not g then option_to_list (arrow_at lines (spots_made deeds) manner.Got None l.place) else [])
    (not_got deeds l.place l.nobody)
    ∙ ap option_to_list (arrow_made deeds l.place l.s l.from manner.Got None l.made)
    ∙ ap (λ b. b ∷ []) (sym l.arrow_is) in
    among_flat (lost_from view lines (spots_made deeds) (got_places deeds)) (range_with_len 0 (length lines)) l.place a
    (among_range 0 (length lines) l.place (omega arith) (omega (arith, within)))
    (subst (λ xs. IsAmong xs a) (sym here) (among_first a []))

pub lost_law : LostLaw
lost_law deeds view a = (is_lost deeds view a, lost_is deeds view a)
