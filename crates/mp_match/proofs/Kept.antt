-- The table and the owners stand for the board after one more post, after a message was taken, and without a post that
-- is over.
use Rattle.std.specs.Prelude.{ℕ, zero, suc, ◌+◌, ◌<◌, ◌≡◌, ◌&&◌, not, Bool, true, false, cond, List, [], ◌∷◌, ◌++◌}
use Rattle.std.specs.Prelude.{length}
use Rattle.std.specs.Prelude.{Option, Some, None}
use Rattle.std.specs.List.{slice_get, slice_set}
use Rattle.std.specs.Option.{is_some}
use Rattle.std.proofs.Common.{refl, sym, ap, ◌∙◌, subst, arith, length-append}
use Rattle.std.proofs.lemmas.List.{nil_from_length}
use Rattle.std.proofs.lemmas.Bool.{cases_eq, eq-eqb, ne_eqb, and_parts, eqb-true}
use mathlib.Core.Logic.{inl, inr}
use Rattle.mp_match.specs.declared.posts.Post.{Post}
use Rattle.mp_match.specs.declared.posts.Post.TheVariants.{Send, Receive, Claim}
use Rattle.mp_match.specs.declared.posts.Line.{Line}
use Rattle.mp_match.specs.declared.live.Live.{Live}
use Rattle.mp_match.specs.declared.live.Owner.{Owner}
use Rattle.mp_match.specs.Pairs.{add, partner_for, partner_set, partners_told}
use Rattle.mp_match.specs.Board.{Board, board_with, without}
use Rattle.mp_match.specs.Live.{owner_by, owner_of, owners_of, paired, are_exchanged}
use Rattle.mp_match.specs.InnerLive.{set_at, entered, emptied, owners_with, told_at, told_in, told_owner}
use Rattle.mp_match.specs.Live.{IsKept, IsOver, StandFor}
use Rattle.mp_match.specs.InnerLive.{is_partner, spent_by, has_taken}
use Rattle.mp_match.proofs.Lines.{given, look, is_new, is_old, is_given, add_new, add_old, add_given, add_length}
use Rattle.mp_match.proofs.OrderKept.{chosen}
use Rattle.mp_match.proofs.Places.{get_last, get_front, get_within}
use Rattle.mp_match.proofs.Rows.{slice_set_length}

abbrev pub Table : Type 0
Table = ℕ → Option Live

-- ---- one place of a table

pub set_here : (f : Table) (place : ℕ) (v : Option Live) (k : ℕ) → place ≡ k → set_at f place v k ≡ v
set_here f place v k e = ap (λ b. cond b v (f k)) (eq-eqb place k e)

pub set_there : (f : Table) (place : ℕ) (v : Option Live) (k : ℕ) → (place ≡ k → ⊥) → set_at f place v k ≡ f k
set_there f place v k n = ap (λ b. cond b v (f k)) (ne_eqb place k n)

-- the same table
pub stand_same : (os : List Owner) (f g : Table) (b : Board) → StandFor os f b → ((k : ℕ) → g k ≡ f k) → StandFor os g b
stand_same os f g b s same = record {
  owners = s.owners;
  bodies = s.bodies;
  live = λ k live h. s.live k live (sym (same k) ∙ h);
  over = λ k line h l. s.over k line (sym (same k) ∙ h) l;
}

-- ---- no posts

pub record HasNone (b : Board) : Type 0 where
  pub lines : b.lines ≡ []
  pub bodies : b.bodies ≡ []

no_lines : (lines : List Line) → [] ≡ owners_of lines → lines ≡ []
no_lines [] h = refl
no_lines (line ∷ lines) h = absurd (cc)

-- where nobody made one there are none
pub has_none : (os : List Owner) (f : Table) (b : Board) → StandFor os f b → os ≡ [] → HasNone b
has_none os f b s none =
    let lines : b.lines ≡ [] = no_lines b.lines (sym none ∙ s.owners) in record {
      lines = lines;
      bodies = nil_from_length b.bodies (s.bodies ∙ ap (λ (ms : List Line). length ms) lines);
    }

pub stand_none : (g : Table) (b : Board) → HasNone b → ((k : ℕ) → g k ≡ None) → StandFor [] g b
stand_none g b none free = record {
  owners = ap (λ (ms : List Line). owners_of ms) (sym none.lines);
  bodies = ap (λ (xs : List (Option (List ℕ))). length xs) none.bodies
      ∙ ap (λ (ms : List Line). length ms) (sym none.lines);
  live = λ k live h. (let bad : None ≡ Some live = sym (free k) ∙ h in absurd (cc));
  over = λ k line h l.
      (let bad : None ≡ Some line = sym (ap (λ (ms : List Line). slice_get ms k) none.lines) ∙ l in absurd (cc));
}

-- how many receives were compared is nothing that is kept
pub stand_compared : (os : List Owner) (f : Table) (b : Board) (n : ℕ) → StandFor os f b
    → StandFor os f (record b { compared = n })
stand_compared os f b n s = record {
  owners = s.owners;
  bodies = s.bodies;
  live = λ place live h. (let k = s.live place live h in record { line = k.line; body = k.body });
  over = λ place line h l. (let o = s.over place line h l in record {
    partner = o.partner;
    other = o.other;
    paired = o.paired;
    there = o.there;
    exchanged = o.exchanged;
    empty = o.empty;
    gone = o.gone;
  });
}

-- without a post that is over
pub stand_less : (os : List Owner) (f g : Table) (b : Board) (i : ℕ) → StandFor os f b
    → ((line : Line) → slice_get b.lines i ≡ Some line → IsOver b i line) → ((k : ℕ) → g k ≡ set_at f i None k)
    → StandFor os g b
stand_less os f g b i s over is = record {
  owners = s.owners;
  bodies = s.bodies;
  live = live;
  over = past;
}
  where
    live : (k : ℕ) (e : Live) → g k ≡ Some e → IsKept b k e
    live k e h = elim (cases_eq i k) [
      | inl same ↦ (let bad : None ≡ Some e = sym (is k ∙ set_here f i None k same) ∙ h in absurd (cc))
      | inr other ↦ s.live k e (sym (is k ∙ set_there f i None k other) ∙ h)
    ]

    past : (k : ℕ) (line : Line) → g k ≡ None → slice_get b.lines k ≡ Some line → IsOver b k line
    past k line h l = elim (cases_eq i k) [
      | inl same ↦ subst (λ z. IsOver b z line) same (over line (ap (slice_get b.lines) same ∙ l))
      | inr other ↦ s.over k line (sym (is k ∙ set_there f i None k other) ∙ h) l
    ]

-- ---- a message is taken

set_same : {A : Type 0} (xs : List A) (i : ℕ) (x y : A) → slice_get xs i ≡ Some x
    → slice_get (slice_set xs i y) i ≡ Some y
set_same [] i x y h = absurd (cc)
set_same (z ∷ xs) zero x y h = refl
set_same (z ∷ xs) (suc i) x y h = set_same xs i x y h

set_other : {A : Type 0} (xs : List A) (i k : ℕ) (y : A) → (i ≡ k → ⊥) → slice_get (slice_set xs i y) k ≡ slice_get xs k
set_other [] i k y n = refl
set_other (z ∷ xs) zero zero y n = absurd (n refl)
set_other (z ∷ xs) zero (suc k) y n = refl
set_other (z ∷ xs) (suc i) zero y n = refl
set_other (z ∷ xs) (suc i) (suc k) y n = set_other xs i k y (λ e. n (ap suc e))

none_stays : (bs : List (Option (List ℕ))) (i k : ℕ) → slice_get bs k ≡ Some None
    → slice_get (slice_set bs i None) k ≡ Some None
none_stays bs i k h = elim (cases_eq i k) [
  | inl same ↦ ap (λ z. slice_get (slice_set bs z None) k) same ∙ set_same bs k None None h
  | inr other ↦ set_other bs i k None other ∙ h
]

emptied_some : (o : Option Live) (e : Live) → emptied o ≡ Some e
    → (x : Live) × (o ≡ Some x) × (e.line ≡ x.line) × (e.body ≡ None)
emptied_some None e h = absurd (cc)
emptied_some (Some x) e h =
    let same : record x { body = None } ≡ e = (cc) in
    (x, refl, sym (ap (λ (z : Live). z.line) same), sym (ap (λ (z : Live). z.body) same))

emptied_none : (o : Option Live) → emptied o ≡ None → o ≡ None
emptied_none None h = refl
emptied_none (Some x) h = absurd (cc)

pub stand_taken : (os : List Owner) (f g : Table) (b : Board) (i : ℕ) → StandFor os f b
    → ((k : ℕ) → g k ≡ set_at f i (emptied (f i)) k) → StandFor os g (without b i)
stand_taken os f g b i s is = record {
  owners = s.owners;
  bodies = slice_set_length b.bodies i None ∙ s.bodies;
  live = live;
  over = past;
}
  where
    live : (k : ℕ) (e : Live) → g k ≡ Some e → IsKept (without b i) k e
    live k e h = elim (cases_eq i k) [
      | inl same ↦
          let x = emptied_some (f i) e (sym (is k ∙ set_here f i (emptied (f i)) k same) ∙ h) in
          let old = s.live i x.0 x.1 in
          record {
            line = ap (slice_get b.lines) (sym same) ∙ old.line ∙ ap (λ (z : Line). Some z) (sym x.2);
            body = ap (slice_get (slice_set b.bodies i None)) (sym same) ∙ set_same b.bodies i (x.0).body None old.body
                ∙ ap (λ (z : Option (List ℕ)). Some z) (sym x.3);
          }
      | inr other ↦
          let old = s.live k e (sym (is k ∙ set_there f i (emptied (f i)) k other) ∙ h) in
          record { line = old.line; body = set_other b.bodies i k None other ∙ old.body }
    ]

    was : (k : ℕ) → g k ≡ None → f k ≡ None
    was k h = elim (cases_eq i k) [
      | inl same ↦ ap f (sym same) ∙ emptied_none (f i) (sym (is k ∙ set_here f i (emptied (f i)) k same) ∙ h)
      | inr other ↦ sym (is k ∙ set_there f i (emptied (f i)) k other) ∙ h
    ]

    past : (k : ℕ) (line : Line) → g k ≡ None → slice_get b.lines k ≡ Some line → IsOver (without b i) k line
    past k line h l =
        let o = s.over k line (was k h) l in record {
          partner = o.partner;
          other = o.other;
          paired = o.paired;
          there = o.there;
          exchanged = o.exchanged;
          empty = none_stays b.bodies i k o.empty;
          gone = none_stays b.bodies i o.partner o.gone;
        }

-- ---- one more post

told_line : (p : Post) (o : Option ℕ) (k : ℕ) → owner_by p (Some k) ≡ told_owner (owner_by p o)
told_line (Send s) o k = refl
told_line (Receive a) None k = refl
told_line (Receive a) (Some q) k = refl
told_line (Claim a) o k = refl

told_behind : (o : Owner) (os : List Owner) (q : ℕ) (x : Option Owner) → o ∷ told_in os q x ≡ told_in (o ∷ os) (suc q) x
told_behind o os q None = refl
told_behind o os q (Some x) = refl

owners_set : (ms : List Line) (q k : ℕ) → owners_of (partner_set ms q k) ≡ told_at (owners_of ms) (Some q)
owners_set [] q k = refl
owners_set (m ∷ ms) zero k = ap (λ (o : Owner). o ∷ owners_of ms) (told_line m.post m.partner k)
owners_set (m ∷ ms) (suc q) k =
    ap (λ (l : List Owner). owner_of m ∷ l) (owners_set ms q k)
    ∙ told_behind (owner_of m) (owners_of ms) q (slice_get (owners_of ms) q)

owners_told : (ms : List Line) (o : Option ℕ) → owners_of (partners_told ms o) ≡ told_at (owners_of ms) o
owners_told ms None = refl
owners_told ms (Some q) = owners_set ms q (length ms)

owners_snoc : (ms : List Line) (m : Line) → owners_of (ms ++ m ∷ []) ≡ owners_of ms ++ owner_of m ∷ []
owners_snoc [] m = refl
owners_snoc (x ∷ ms) m = ap (λ (l : List Owner). owner_of x ∷ l) (owners_snoc ms m)

owners_add : (ms : List Line) (p : Post)
    → owners_of (add ms p) ≡ told_at (owners_of ms) (partner_for ms p) ++ owner_by p (partner_for ms p) ∷ []
owners_add ms p =
    owners_snoc (partners_told ms (partner_for ms p)) _
    ∙ ap (λ (l : List Owner). l ++ owner_by p (partner_for ms p) ∷ []) (owners_told ms (partner_for ms p))

record Same (ms : List Line) (p : Post) (r : ℕ) (other : Line) : Type 0 where
  line : Line
  here : slice_get (add ms p) r ≡ Some line
  post : line.post ≡ other.post

-- whether the place is that of the new post's partner
is_place : (o : Option ℕ) (k : ℕ) {P : Type 0} → (o ≡ Some k → P) → ((o ≡ Some k → ⊥) → P) → P
is_place None k here there = there (λ e. absurd (cc))
is_place (Some q) k here there = elim (cases_eq q k) [
  | inl same ↦ here (ap (λ (z : ℕ). Some z) same)
  | inr other ↦ there (λ e. other (let s : q ≡ k = (cc) in s))
]

same_post : (ms : List Line) (p : Post) (r : ℕ) (other : Line) → slice_get ms r ≡ Some other → Same ms p r other
same_post ms p r other h =
    is_place (partner_for ms p) r
    (λ e. record { line = given other (length ms); here = add_given ms p r other h e; post = refl })
    (λ n. record { line = other; here = add_old ms p r other h n; post = refl })

over_more : (b : Board) (p : Post) (body : Option (List ℕ)) (k : ℕ) (line : Line) → IsOver b k line
    → IsOver (board_with b p body) k line
over_more b p body k line o =
    let m = same_post b.lines p o.partner o.other o.there in record {
      partner = o.partner;
      other = m.line;
      paired = o.paired;
      there = m.here;
      exchanged = ap (are_exchanged line.post) m.post ∙ o.exchanged;
      empty = get_front b.bodies (body ∷ []) k None o.empty;
      gone = get_front b.bodies (body ∷ []) o.partner None o.gone;
    }

paired_some : (o : Option Live) (n : ℕ) (e : Live) → paired o n ≡ Some e
    → (x : Live) × (o ≡ Some x) × (e.line ≡ given x.line n) × (e.body ≡ x.body)
paired_some None n e h = absurd (cc)
paired_some (Some x) n e h =
    let same : record x { line = record x.line { partner = Some n } } ≡ e = (cc) in
    (x, refl, sym (ap (λ (z : Live). z.line) same), sym (ap (λ (z : Live). z.body) same))

paired_none : (o : Option Live) (n : ℕ) → paired o n ≡ None → o ≡ None
paired_none None n h = refl
paired_none (Some x) n h = absurd (cc)

module _ (os qs : List Owner) (f g : Table) (b : Board) (new : Live) (s : StandFor os f b)
    (found : new.line.partner ≡ partner_for b.lines new.line.post) (more : qs ≡ owners_with os new.line)
    (is : (k : ℕ) → g k ≡ entered f (length b.lines) new new.line.partner k) where
  abbrev p : Post
  p = new.line.post

  abbrev n : ℕ
  n = length b.lines

  abbrev after : Board
  after = board_with b new.line.post new.body

  is_at : (k : ℕ) (o : Option ℕ) → new.line.partner ≡ o → g k ≡ entered f (length b.lines) new o k
  is_at k o e = is k ∙ ap (λ (x : Option ℕ). entered f (length b.lines) new x k) e

  below : (q : ℕ) → partner_for b.lines new.line.post ≡ Some q → q < length b.lines
  below q e = (let c = chosen b.lines new.line.post q e in get_within b.lines q c.line c.here)

  apart : (q : ℕ) → partner_for b.lines new.line.post ≡ Some q → length b.lines ≡ q → ⊥
  apart q e same = (let l = below q e in absurd (omega (arith, l, same)))

  at_new : g (length b.lines) ≡ Some new
  at_new = go new.line.partner refl
    where
      go : (o : Option ℕ) → new.line.partner ≡ o → g (length b.lines) ≡ Some new
      go None e = is_at (length b.lines) None e ∙ set_here f (length b.lines) (Some new) (length b.lines) refl
      go (Some q) e =
          is_at (length b.lines) (Some q) e
          ∙ set_there (set_at f (length b.lines) (Some new)) q _ (length b.lines)
          (λ same. apart q (sym found ∙ e) (sym same))
          ∙ set_here f (length b.lines) (Some new) (length b.lines) refl

  at_partner : (k : ℕ) → partner_for b.lines new.line.post ≡ Some k → g k ≡ paired (f k) (length b.lines)
  at_partner k e =
      is_at k (Some k) (found ∙ e)
      ∙ set_here (set_at f (length b.lines) (Some new)) k _ k refl
      ∙ ap (λ x. paired x (length b.lines)) (set_there f (length b.lines) (Some new) k (apart k e))

  at_other : (k : ℕ) → (length b.lines ≡ k → ⊥) → (partner_for b.lines new.line.post ≡ Some k → ⊥) → g k ≡ f k
  at_other k last apart_from = go new.line.partner refl
    where
      go : (o : Option ℕ) → new.line.partner ≡ o → g k ≡ f k
      go None e = is_at k None e ∙ set_there f (length b.lines) (Some new) k last
      go (Some q) e =
          is_at k (Some q) e
          ∙ set_there (set_at f (length b.lines) (Some new)) q _ k
          (λ same. apart_from (sym found ∙ e ∙ ap (λ (z : ℕ). Some z) same))
          ∙ set_there f (length b.lines) (Some new) k last

  live_new : (e : Live) → g (length b.lines) ≡ Some e → IsKept (board_with b new.line.post new.body) (length b.lines) e
  live_new e h =
      let both : Some new ≡ Some e = sym at_new ∙ h in
      let same : new ≡ e = (cc) in
      subst (λ (z : Live). IsKept (board_with b new.line.post new.body) (length b.lines) z) same (record {
        line = add_new b.lines new.line.post
            ∙ ap (λ (o : Option ℕ). (let x : Option Line = Some (record { post = new.line.post; partner = o }) in x))
            (sym found);
        body = subst (λ m. slice_get (b.bodies ++ new.body ∷ []) m ≡ Some new.body) s.bodies
            (get_last b.bodies new.body);
      })

  live_old : (k : ℕ) (e : Live) → (length b.lines ≡ k → ⊥) → g k ≡ Some e
      → IsKept (board_with b new.line.post new.body) k e
  live_old k e last h =
      is_place (partner_for b.lines new.line.post) k
      (
      λ found_it. let x = paired_some (f k) (length b.lines) e (sym (at_partner k found_it) ∙ h) in
      let old = s.live k x.0 x.1 in record {
        line = add_given b.lines new.line.post k (x.0).line old.line found_it ∙ ap (λ (z : Line). Some z) (sym x.2);
        body = get_front b.bodies (new.body ∷ []) k (x.0).body old.body
            ∙ ap (λ (z : Option (List ℕ)). Some z) (sym x.3);
      }
      )
      (
      λ other. let old = s.live k e (sym (at_other k last other) ∙ h) in record {
        line = add_old b.lines new.line.post k e.line old.line other;
        body = get_front b.bodies (new.body ∷ []) k e.body old.body;
      }
      )

  was_none : (k : ℕ) → (length b.lines ≡ k → ⊥) → g k ≡ None → f k ≡ None
  was_none k last h =
      is_place (partner_for b.lines new.line.post) k
      (λ e. paired_none (f k) (length b.lines) (sym (at_partner k e) ∙ h)) (λ other. sym (at_other k last other) ∙ h)

  past : (k : ℕ) (line : Line) → g k ≡ None → slice_get (add b.lines new.line.post) k ≡ Some line
      → IsOver (board_with b new.line.post new.body) k line
  past k line h l = elim (look b.lines new.line.post k line l) [
    | is_new last e ↦
        (let bad : Some new ≡ None = sym at_new ∙ ap g (sym last) ∙ h in absurd (cc))
    | is_old here ↦
        let w = get_within b.lines k line here in
        over_more b new.line.post new.body k line
        (s.over k line (was_none k (λ e. absurd (omega (arith, w, e))) h) here)
    | is_given x here e q ↦
        let w = get_within b.lines k x here in
        let o = s.over k x (was_none k (λ e. absurd (omega (arith, w, e))) h) here in
        let c = chosen b.lines new.line.post k e in
        let both : Some c.line ≡ Some x = sym c.here ∙ here in
        let same : c.line ≡ x = (cc) in
        let bad : None ≡ Some o.partner = sym c.free ∙ ap (λ (z : Line). z.partner) same ∙ o.paired in absurd (cc)
  ]

  pub stand_add : StandFor qs g (board_with b new.line.post new.body)
  stand_add = record {
    owners = more ∙ ap (λ (l : List Owner). owners_with l new.line) s.owners
        ∙ ap (λ (o : Option ℕ). told_at (owners_of b.lines) o ++ owner_by new.line.post o ∷ []) found
        ∙ sym (owners_add b.lines new.line.post);
    bodies = length-append b.bodies (new.body ∷ []) ∙ ap (λ m. m + 1) s.bodies ∙ sym (add_length b.lines new.line.post);
    live = λ k e h. elim (cases_eq (length b.lines) k) [
      | inl same ↦ subst (λ z. g z ≡ Some e → IsKept (board_with b new.line.post new.body) z e) same (live_new e) h
      | inr last ↦ live_old k e last h
    ];
    over = past;
  }

-- ---- a send whose message isn't held any more, and who has it

partner_is : (o : Option ℕ) (q : ℕ) → is_partner o q ≡ true → o ≡ Some q
partner_is None q h = absurd (cc)
partner_is (Some r) q h = ap (λ (z : ℕ). Some z) (eqb-true r q h)

no_body : (o : Option (List ℕ)) → not (is_some o) ≡ true → o ≡ None
no_body None h = refl
no_body (Some x) h = absurd (cc)

abbrev sends_post : Post → Bool
sends_post p = elim p [ Send s ↦ true | Receive a ↦ false | Claim a ↦ false ]

abbrev takes_post : Post → Bool
takes_post p = elim p [ Send s ↦ false | Receive a ↦ true | Claim a ↦ true ]

sent_taken : (p q : Post) → sends_post p ≡ true → takes_post q ≡ true → are_exchanged p q ≡ true
sent_taken (Send s) (Receive a) h k = refl
sent_taken (Send s) (Claim a) h k = refl
sent_taken (Send s) (Send t) h k = absurd (cc)
sent_taken (Receive a) q h k = absurd (cc)
sent_taken (Claim a) q h k = absurd (cc)

taken_sent : (p q : Post) → takes_post p ≡ true → sends_post q ≡ true → are_exchanged p q ≡ true
taken_sent (Receive a) (Send s) h k = refl
taken_sent (Receive a) (Receive c) h k = absurd (cc)
taken_sent (Receive a) (Claim c) h k = absurd (cc)
taken_sent (Claim a) (Send s) h k = refl
taken_sent (Claim a) (Receive c) h k = absurd (cc)
taken_sent (Claim a) (Claim c) h k = absurd (cc)
taken_sent (Send s) q h k = absurd (cc)

-- what a post of the table shows
record Shows (o : Option Live) (partner : ℕ) (test : Post → Bool) : Type 0 where
  live : Live
  here : o ≡ Some live
  kind : test live.line.post ≡ true
  paired : live.line.partner ≡ Some partner
  empty : live.body ≡ None

spent_shows : (o : Option Live) (q : ℕ) → spent_by o ≡ Some q → Shows o q sends_post
spent_shows None q h = absurd (cc)
spent_shows (Some live) q h = go live.line.post refl live.body refl h
  where
    go : (p : Post) → live.line.post ≡ p → (body : Option (List ℕ)) → live.body ≡ body
        → elim p [ Send s ↦ cond (is_some body) None live.line.partner | Receive a ↦ None | Claim a ↦ None ] ≡ Some q
        → Shows (Some live) q sends_post
    go (Send s) e None n h = record { live = live; here = refl; kind = ap sends_post e; paired = h; empty = n }
    go (Send s) e (Some x) n h = absurd (cc)
    go (Receive a) e body n h = absurd (cc)
    go (Claim a) e body n h = absurd (cc)

taken_shows : (o : Option Live) (q : ℕ) → has_taken o q ≡ true → Shows o q takes_post
taken_shows None q h = absurd (cc)
taken_shows (Some live) q h =
    let a = and_parts (takes_post live.line.post && is_partner live.line.partner q) (not (is_some live.body)) h in
    let w = and_parts (takes_post live.line.post) (is_partner live.line.partner q) a.0 in
    record {
      live = live;
      here = refl;
      kind = w.0;
      paired = partner_is live.line.partner q w.1;
      empty = no_body live.body a.1;
    }

-- two posts of the table that name one another, and hold nothing
over_by : (os : List Owner) (f : Table) (b : Board) (s : StandFor os f b) (i j : ℕ) (t u : Post → Bool)
    → ((p q : Post) → t p ≡ true → u q ≡ true → are_exchanged p q ≡ true)
    → Shows (f i) j t → Shows (f j) i u → (line : Line) → slice_get b.lines i ≡ Some line → IsOver b i line
over_by os f b s i j t u pairs x y line l =
    let m = s.live i x.live x.here in
    let n = s.live j y.live y.here in
    let both : Some x.live.line ≡ Some line = sym m.line ∙ l in
    let same : x.live.line ≡ line = (cc) in
    subst (λ (z : Line). IsOver b i z) same (record {
      partner = j;
      other = y.live.line;
      paired = x.paired;
      there = n.line;
      exchanged = pairs x.live.line.post y.live.line.post x.kind y.kind;
      empty = m.body ∙ ap (λ (z : Option (List ℕ)). Some z) x.empty;
      gone = n.body ∙ ap (λ (z : Option (List ℕ)). Some z) y.empty;
    })

module _ (os : List Owner) (f : Table) (b : Board) (s : StandFor os f b) (send place : ℕ)
    (spent : spent_by (f send) ≡ Some place) where
  pub stand_forgotten : (g h : Table) → has_taken (f place) send ≡ true → ((k : ℕ) → g k ≡ set_at f send None k)
      → ((k : ℕ) → h k ≡ set_at g place None k) → StandFor os h b
  stand_forgotten g h taken first second =
      let x = spent_shows (f send) place spent in
      let y = taken_shows (f place) send taken in
      stand_less os g h b place
      (stand_less os f g b send s (over_by os f b s send place sends_post takes_post sent_taken x y) first)
      (over_by os f b s place send takes_post sends_post taken_sent y x) second
