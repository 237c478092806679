-- Boards stay alike where the same message is collected in both.
use Rattle.std.proofs.Common.{◌≡◌, ℕ, zero, suc, inl, inr, List, [], ◌∷◌, map, Bool, true, false, cond, Option, Some, None, refl, sym, ap, ◌∙◌, subst}
use Rattle.std.specs.List.{slice_get, slice_set}
use Rattle.std.specs.Option.{option_map}
use Rattle.std.proofs.lemmas.Bool.{cases_eq}
use Rattle.mp_types.specs.declared.messages.Message.{Message}
use Rattle.mp_match.specs.Board.{Board, collect, collect_from, is_send_of, line_of, partner_of, without}
use Rattle.mp_hub.specs.Hub.{all_got, one_got}
use Rattle.mp_wait_laws.proofs.Sets.{get-set_other}
use Rattle.mp_alike_laws.specs.Renaming.{Renaming, line_by, number_by}
use Rattle.mp_source_laws.specs.Alike.{AlikeBoards, IsAlikeAt, IsOver, IsOverReceive, IsOverSend, Wild, is_same, over_receives, over_sends}
use Rattle.mp_source_laws.proofs.Named.{AreSame, IsSame, message_named, partner_named, send_same}

Bodies : Type 0
Bodies = List (Option (List ℕ))

-- where something was there, nothing is
abbrev emptied : Option (Option (List ℕ)) → Option (Option (List ℕ))
emptied None = None
emptied (Some x) = Some None

set_here : (bodies : List (Option (List ℕ))) (place : ℕ)
    → slice_get (slice_set bodies place None) place ≡ emptied (slice_get bodies place)
set_here [] place = refl
set_here (x ∷ bodies) zero = refl
set_here (x ∷ bodies) (suc place) = set_here bodies place

-- two boards after the same, which gave the same
pub record SameGot {G : Type 0} (wild : Wild) (names : Renaming) (x y : G × Board) : Type 0 where
  pub got : y.0 ≡ x.0
  pub boards : AlikeBoards wild names x.1 y.1

-- ---- what is over stays so

module _ (b : Board) (place : ℕ) where
  still_gone : (i : ℕ) → slice_get b.bodies i ≡ Some None → slice_get (without b place).bodies i ≡ Some None
  still_gone i gone = elim (cases_eq place i) [
    | inl same ↦
        ap (slice_get (slice_set b.bodies place None)) (sym same) ∙ set_here b.bodies place
        ∙ ap emptied (ap (slice_get b.bodies) same ∙ gone)
    | inr other ↦ get-set_other b.bodies place i None other ∙ gone
  ]

  send_without : (i : ℕ) → IsOverSend b i → IsOverSend (without b place) i
  send_without i o = record {
    sent = o.sent;
    partner = o.partner;
    there = o.there;
    standard = o.standard;
    gone = still_gone i o.gone;
  }

  receive_without : (i : ℕ) → IsOverReceive b i → IsOverReceive (without b place) i
  receive_without i o = record {
    what = o.what;
    partner = o.partner;
    there = o.there;
    gone = still_gone o.partner o.gone;
  }

  over_without : (i : ℕ) → IsOver b i → IsOver (without b place) i
  over_without i (inl o) = inl (send_without i o)
  over_without i (inr o) = inr (receive_without i o)

module _ {wild : Wild} (names : Renaming) (a b : Board) (alike : AlikeBoards wild names a b) where
  line_without : (place i : ℕ) → IsAlikeAt names a b i → IsAlikeAt names (without a place) (without b (names.to place)) i
  line_without place i (is_same same) = is_same same
  line_without place i (over_sends mine theirs) =
      over_sends (send_without a place i mine) (send_without b (names.to place) (names.to i) theirs)
  line_without place i (over_receives mine theirs) =
      over_receives (receive_without a place i mine) (receive_without b (names.to place) (names.to i) theirs)

  pub without_alike : (place : ℕ) → AlikeBoards wild names (without a place) (without b (names.to place))
  without_alike place = record {
    many = alike.many;
    next = alike.next;
    lines = λ i. line_without place i (alike.lines i);
    bodies = λ i. elim (cases_eq place i) [
      | inl same ↦
          ap (λ k. slice_get (slice_set b.bodies (names.to place) None) (names.to k)) (sym same)
          ∙ set_here b.bodies (names.to place)
          ∙ ap emptied (alike.bodies place)
          ∙ sym (set_here a.bodies place)
          ∙ ap (slice_get (slice_set a.bodies place None)) same
      | inr other ↦
          get-set_other b.bodies (names.to place) (names.to i) None
          (λ e. other (sym (names.there place) ∙ ap names.back e ∙ names.there i))
          ∙ alike.bodies i
          ∙ sym (get-set_other a.bodies place i None other)
    ];
    claims = alike.claims;
    ranks = λ i j m n below here there same live alive.
        alike.ranks i j m n below here there same (λ over. live (over_without a place i over))
        (λ over. alive (over_without a place j over));
    sends = alike.sends;
  }

  collect_from_alike : (o : Option ℕ) → SameGot wild names (collect_from a o) (collect_from b (option_map names.to o))
  collect_from_alike None = record { got = refl; boards = alike }
  collect_from_alike (Some place) =
      record { got = message_named names a b alike place; boards = without_alike place }

  pub collect_alike : (n : ℕ) → IsSame names a b n → SameGot wild names (collect a n) (collect b (number_by names n))
  collect_alike n same =
      subst (λ o. SameGot wild names (collect a n) (collect_from b o)) (sym (partner_named names a b alike n same))
      (collect_from_alike (partner_of a n))

  one_alike : (rank n : ℕ) → IsSame names a b n
      → SameGot wild names (one_got rank a n) (one_got rank b (number_by names n))
  one_alike rank n same = go (is_send_of rank (line_of a n)) (is_send_of rank (line_of b (number_by names n)))
      (send_same names a b alike rank n same)
    where
      go : (x y : Bool) → y ≡ x
          → SameGot wild names (cond x (None, a) (collect a n)) (cond y (None, b) (collect b (number_by names n)))
      go true true e = record { got = refl; boards = alike }
      go false false e = collect_alike n same
      go true false e = absurd (cc)
      go false true e = absurd (cc)

-- what is collected leaves the lines as they are
same_lines : (rank n : ℕ) (b : Board) → (let c : Board = (one_got rank b n).1 in c.lines) ≡ b.lines
same_lines rank n b = go (is_send_of rank (line_of b n))
  where
    from : (o : Option ℕ) → (let c : Board = (collect_from b o).1 in c.lines) ≡ b.lines
    from None = refl
    from (Some place) = refl

    go : (x : Bool) → (let o : Option Message × Board = cond x (None, b) (collect b n) in let c : Board = o.1 in c.lines) ≡ b.lines
    go true = refl
    go false = from (partner_of b n)

same_still : (names : Renaming) (a b c d : Board) → c.lines ≡ a.lines → d.lines ≡ b.lines → (ns : List ℕ) → AreSame names a b ns
    → AreSame names c d ns
same_still names a b c d mine theirs [] same = tt
same_still names a b c d mine theirs (zero ∷ ns) same = (tt, same_still names a b c d mine theirs ns same.1)
same_still names a b c d mine theirs (suc place ∷ ns) same = (
  ap (λ ls. slice_get ls (names.to place)) theirs ∙ same.0
      ∙ ap (λ ls. option_map (line_by names) (slice_get ls place)) (sym mine),
  same_still names a b c d mine theirs ns same.1,
)

pub all_alike : {wild : Wild} → (names : Renaming) (rank : ℕ) (ns : List ℕ) (a b : Board) → AlikeBoards wild names a b
    → AreSame names a b ns
    → SameGot wild names (all_got rank a ns) (all_got rank b (map (number_by names) ns))
all_alike names rank [] a b alike same = record { got = refl; boards = alike }
all_alike names rank (n ∷ ns) a b alike same =
    let one = one_alike names a b alike rank n same.0 in
    let rest = all_alike names rank ns (one_got rank a n).1 (one_got rank b (number_by names n)).1 one.boards
    (same_still names a b (one_got rank a n).1 (one_got rank b (number_by names n)).1 (same_lines rank n a)
    (same_lines rank (number_by names n) b) ns same.1) in
    record {
      got = ap (λ x. x ∷ (all_got rank (one_got rank b (number_by names n)).1 (map (number_by names) ns)).0) one.got
          ∙ ap (λ xs. (one_got rank a n).0 ∷ xs) rest.got;
      boards = rest.boards;
    }
