-- A receive that finds its message and takes it at once: neither it nor the send is kept.
use Rattle.std.specs.Prelude.{ℕ, ◌-◌, ◌≤◌, ◌≡◌, ◌&&◌, not, Bool, true, List, [], ◌∷◌, ◌++◌, length}
use Rattle.std.specs.Prelude.{Option, Some, None}
use Rattle.std.specs.List.{slice_get}
use Rattle.std.specs.Option.{is_some}
use Rattle.std.proofs.Common.{refl, sym, ap, ◌∙◌, subst, arith}
use Rattle.std.proofs.lemmas.Bool.{cases_eq, eq-eqb}
use mathlib.Core.Logic.{inl, inr}
use Rattle.mp_match.specs.declared.posts.Post.{Post}
use Rattle.mp_match.specs.declared.posts.Post.TheVariants.{Send, Receive, Claim}
use Rattle.mp_match.specs.declared.posts.Selection.{Selection}
use Rattle.mp_match.specs.declared.posts.Line.{Line}
use Rattle.mp_match.specs.declared.live.Live.{Live}
use Rattle.mp_match.specs.declared.live.Owner.{Owner}
use Rattle.mp_match.specs.Pairs.{may_pair, partner_for}
use Rattle.mp_match.specs.Board.{Board, held_count, receive_posted, without}
use Rattle.mp_match.specs.Bodies.{bytes_in}
use Rattle.mp_match.specs.Live.{StandFor, paired}
use Rattle.mp_match.specs.InnerLive.{emptied, entered, has_taken, owners_with, set_at, spent_by}
use Rattle.mp_match.proofs.Asked.{next_none}
use Rattle.mp_match.proofs.Kept.{Table, set_here, set_there, stand_add, stand_forgotten, stand_same, stand_taken}
use Rattle.mp_match.proofs.OrderKept.{chosen}
use Rattle.mp_match.proofs.Places.{get_front, get_within}
use Rattle.mp_match.proofs.Rows.{held_set, held_snoc}

-- what a receive may have is a send
spent : (a : Selection) (live : Live) (n : ℕ) → may_pair (Receive a) live.line.post ≡ true
    → spent_by (emptied (paired (Some live) n)) ≡ Some n
spent a live n h = go live.line.post refl h
  where
    go : (p : Post) → live.line.post ≡ p → may_pair (Receive a) p ≡ true
        → spent_by (emptied (paired (Some live) n)) ≡ Some n
    go (Send s) e k = rw e refl
    go (Receive c) e k = absurd (cc)
    go (Claim c) e k = absurd (cc)

-- what is found is kept
pub is_kept : (os : List Owner) (f : Table) (b : Board) (s : StandFor os f b) (a : Selection) (place : ℕ)
    → partner_for b.lines (Receive a) ≡ Some place → f place ≡ None → ⊥
is_kept os f b s a place found e =
    let c = chosen b.lines (Receive a) place found in
    let o = s.over place c.line e c.here in
    let bad : None ≡ Some o.partner = sym c.free ∙ o.paired in absurd (cc)

-- and it is what the receive may have
pub may_have : (os : List Owner) (f : Table) (b : Board) (s : StandFor os f b) (a : Selection) (place : ℕ) (live : Live)
    → partner_for b.lines (Receive a) ≡ Some place → f place ≡ Some live → may_pair (Receive a) live.line.post ≡ true
may_have os f b s a place live found e =
    let c = chosen b.lines (Receive a) place found in
    let both : Some c.line ≡ Some live.line = sym c.here ∙ (s.live place live e).line in
    let same : c.line ≡ live.line = (cc) in
    subst (λ (l : Line). may_pair (Receive a) l.post ≡ true) same c.pair

-- its message is counted no more
pub held_at_once : (b : Board) (a : Selection) (place : ℕ) (body : Option (List ℕ)) (n held : ℕ)
    → slice_get b.bodies place ≡ Some body → n ≡ held_count (body ∷ []) → held ≡ held_count b.bodies
    → (n ≤ held) × (held - n ≡ held_count (without (receive_posted b a) place).bodies)
held_at_once b a place body n held here count all =
    let h = held_set (b.bodies ++ None ∷ []) place in
    let t = held_snoc b.bodies None in
    let x : held_count (bytes_in (slice_get (b.bodies ++ None ∷ []) place) ∷ []) ≡ held_count (body ∷ []) =
    ap (λ (o : Option (Option (List ℕ))). held_count (bytes_in o ∷ [])) (get_front b.bodies (None ∷ []) place body here)
    ∙ same body in
    (omega (arith, h, t, x, count, all), omega (arith, h, t, x, count, all))
  where
    same : (o : Option (List ℕ)) → held_count (bytes_in (Some o) ∷ []) ≡ held_count (o ∷ [])
    same None = refl
    same (Some bytes) = refl

module _ (os qs : List Owner) (f h : Table) (b : Board) (s : StandFor os f b) (a : Selection) (place : ℕ) (live : Live)
    (found : partner_for b.lines (Receive a) ≡ Some place) (here : f place ≡ Some live)
    (pair : may_pair (Receive a) live.line.post ≡ true) (more : qs ≡ owners_with os (record { post = Receive a; partner = Some place }))
    (is : (k : ℕ) → h k ≡ set_at f place None k) where
  -- the receive as it would be kept
  abbrev new : Live
  new = record { alloc = live.alloc; line = record { post = Receive a; partner = Some place }; body = None }

  -- the table with it, then without the message, then without the send, and without both
  abbrev first : Table
  first = entered f (length b.lines) new (Some place)

  abbrev empty : Table
  empty = set_at first place (emptied (first place))

  abbrev less : Table
  less = set_at empty place None

  abbrev left : Table
  left = set_at less (length b.lines) None

  apart : length b.lines ≡ place → ⊥
  apart same =
      let c = chosen b.lines (Receive a) place found in
      let w = get_within b.lines place c.line c.here in absurd (omega (arith, w, same))

  sent : first place ≡ paired (Some live) (length b.lines)
  sent =
      set_here (set_at f (length b.lines) (Some new)) place _ place refl
      ∙ ap (λ o. paired o (length b.lines)) (set_there f (length b.lines) (Some new) place apart ∙ here)

  is_spent : spent_by (empty place) ≡ Some (length b.lines)
  is_spent =
      ap spent_by (set_here first place (emptied (first place)) place refl ∙ ap emptied sent)
      ∙ spent a live (length b.lines) pair

  at_new : empty (length b.lines) ≡ Some new
  at_new =
      set_there first place (emptied (first place)) (length b.lines) (λ e. apart (sym e))
      ∙ set_there (set_at f (length b.lines) (Some new)) place _ (length b.lines) (λ e. apart (sym e))
      ∙ set_here f (length b.lines) (Some new) (length b.lines) refl

  taken : has_taken (empty (length b.lines)) place ≡ true
  taken =
      ap (λ o. has_taken o place) at_new
      ∙ ap (λ (x : Bool). (true && x) && not (is_some (let o : Option (List ℕ) = None in o))) (eq-eqb place place refl)

  same : (k : ℕ) → h k ≡ left k
  same k = elim (cases_eq (length b.lines) k) [
    | inl e ↦
        is k ∙ set_there f place None k (λ p. apart (e ∙ sym p)) ∙ ap f (sym e)
        ∙ next_none os f b s (length b.lines) (omega arith) ∙ sym (set_here less (length b.lines) None k e)
    | inr o ↦ elim (cases_eq place k) [
      | inl e ↦
          is k ∙ set_here f place None k e ∙ sym (set_here empty place None k e)
          ∙ sym (set_there less (length b.lines) None k o)
      | inr p ↦
          is k ∙ set_there f place None k p ∙ sym (set_there f (length b.lines) (Some new) k o)
          ∙ sym (set_there (set_at f (length b.lines) (Some new)) place _ k p)
          ∙ sym (set_there first place (emptied (first place)) k p) ∙ sym (set_there empty place None k p)
          ∙ sym (set_there less (length b.lines) None k o)
    ]
  ]

  -- it is over at once, and so is the send
  pub stand_at_once : StandFor qs h (without (receive_posted b a) place)
  stand_at_once =
      stand_same qs left h (without (receive_posted b a) place)
      (stand_forgotten qs empty (without (receive_posted b a) place)
      (stand_taken qs first empty (receive_posted b a) place
      (stand_add os qs f first b new s (sym found) more (λ k. refl)) (λ k. refl))
      place (length b.lines) is_spent less left taken (λ k. refl) (λ k. refl)) same
