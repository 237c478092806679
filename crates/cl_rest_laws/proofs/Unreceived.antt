-- Messages that nobody received: what a call of another rank leaves of them, and that alike hubs have the same ones.
use Rattle.std.proofs.Common.{◌≡◌, ℕ, zero, suc, ◌+◌, inl, inr, List, [], ◌∷◌, Bool, true, false, cond, Option, Some, None, refl, sym, ap, ◌∙◌, subst, arith}
use Rattle.std.specs.Prelude.{◌≢◌, ◌&&◌, ◌||◌}
use Rattle.std.specs.List.{list_any, slice_get}
use Rattle.std.specs.Option.{option_map}
use Rattle.std.proofs.lemmas.Bool.{and_from, and_parts, cases_Bool, or_left, or_right}
use Rattle.std.proofs.lemmas.List.Folds.{list_any-append}
use Rattle.std.proofs.lemmas.Option.{same_Some}
use Rattle.rv_image_types.specs.declared.images.Link.{Link}
use Rattle.mp_match.specs.declared.posts.Line.{Line}
use Rattle.mp_match.specs.declared.posts.Post.{Post}
use Rattle.mp_match.specs.declared.posts.Post.TheVariants as post
use Rattle.mp_match.specs.declared.posts.Selection.{Selection}
use Rattle.mp_match.specs.declared.posts.Sent.{Sent}
use Rattle.mp_match.specs.Board.{claim_at, claim_in, claim_of, is_held}
use Rattle.mp_match.specs.Claimed.{open_claim}
use Rattle.mp_match.specs.Pairs.{may_pair, partner_of_line}
use Rattle.mp_match.proofs.Lines.{Look, is_given, is_new, is_old, look}
use Rattle.mp_match.proofs.OrderKept.{Takes, Together, chosen}
use Rattle.mp_match.proofs.Places.{get_within}
use Rattle.mp_probe.specs.Claims.{is_claim, is_waiting, may_receive}
use Rattle.mp_hub.specs.Claimed.{waits_for_receive}
use Rattle.mp_hub.specs.Held.{AreHeld}
use Rattle.mp_hub.specs.Hub.{Call, HubView, hub_after, hub_at_start, hub_on, outcome}
use Rattle.mp_hub.proofs.Held.{held_none, only_claimed_is}
use Rattle.mp_wait_laws.proofs.Collects.{none_waits}
use Rattle.mp_wait_laws.proofs.Fresh.{Laid}
use Rattle.mp_wait_laws.proofs.Lines.{accepted, at_place, free_stays, paired_stays}
use Rattle.mp_wait_laws.proofs.Moves.{ClaimsBy, GrowsBy, IsBy, Moves, all, less, more, stay}
use Rattle.mp_wait_laws.proofs.Owned.{others_receive, somebody's, waits_for_it}
use Rattle.mp_alike_laws.specs.Renaming.{Renaming, line_by, number_by, turned}
use Rattle.mp_source_laws.specs.Alike.{AlikeHubs, IsOver, IsOverReceive, IsOverSend, IsSameAt, Wild}
use Rattle.mp_source_laws.proofs.Likeness.{hub_back}
use Rattle.mp_source_laws.proofs.Named.{claim_named}
use Rattle.mp_source_laws.proofs.Over.{free_is_live, same_or_over}
use Rattle.mp_alike.proofs.HeldAlways.{held_always}
use Rattle.cl_rest_laws.specs.Unpaired.{is_send}
use Rattle.cl_rest_laws.specs.Unreceived.{lacks_receive, lacks_receive_by, is_unreceived, is_unreceived_at, is_unreceived_in}

-- ---- one of which a test holds

abbrev pub Found : {A : Type 0} → (A → Bool) → List A → Type 0
Found {A} q xs = (i : ℕ) × (x : A) × (slice_get xs i ≡ Some x) × (q x ≡ true)

pub found : {A : Type 0} (q : A → Bool) (xs : List A) → list_any q xs ≡ true → Found q xs
found q [] any = absurd (cc)
found q (x ∷ xs) any = go (q x) refl any (found q xs)
  where
    go : (b : Bool) → q x ≡ b → (b || list_any q xs) ≡ true → (list_any q xs ≡ true → Found q xs) → Found q (x ∷ xs)
    go true is any rest = (zero, x, refl, is)
    go false is any rest = (let f = rest any in (suc f.0, f.1, f.2, f.3))

pub any_at : {A : Type 0} (q : A → Bool) (xs : List A) (i : ℕ) (x : A) → slice_get xs i ≡ Some x → q x ≡ true
    → list_any q xs ≡ true
any_at q [] i x there is = absurd (cc)
any_at q (y ∷ xs) zero x there is = ap (λ b. b || list_any q xs) (ap q (same_Some y x there) ∙ is)
any_at q (y ∷ xs) (suc i) x there is = or_right (q y) (list_any q xs) (any_at q xs i x there is)

-- ---- a message that nobody received

-- the send at this place has such a message, of which both hold
pub record IsLeft (t p : Sent → Bool) (h : HubView) (i : ℕ) : Type 0 where
  pub line : Line
  pub there : slice_get h.board.lines i ≡ Some line
  pub what : Sent
  pub sends : line.post ≡ post.Send what
  pub left : lacks_receive h line ≡ true
  pub its : t what ≡ true
  pub holds : p what ≡ true

-- the line is a send of which it holds
record IsSend (p : Sent → Bool) (h : HubView) (line : Line) : Type 0 where
  what : Sent
  sends : line.post ≡ post.Send what
  holds : p what ≡ true
  left : lacks_receive h line ≡ true

opened : (p : Sent → Bool) (h : HubView) (line : Line) → is_unreceived p h line ≡ true → IsSend p h line
opened p h line is =
    (let two = and_parts (is_send p (Some line.post)) (lacks_receive h line) is in go line.post refl two.0 two.1)
  where
    go : (q : Post) → line.post ≡ q → is_send p (Some q) ≡ true → lacks_receive h line ≡ true → IsSend p h line
    go (post.Send s) e is left = record { what = s; sends = e; holds = is; left = left }
    go (post.Receive a) e is left = absurd (cc)
    go (post.Claim a) e is left = absurd (cc)

module _ (t p : Sent → Bool) (h : HubView) where
  abbrev both : Sent → Bool
  both m = t m && p m

  left_at : (i : ℕ) (line : Line) → slice_get h.board.lines i ≡ Some line → is_unreceived both h line ≡ true
      → IsLeft t p h i
  left_at i line there is =
      let o = opened both h line is in
      let two = and_parts (t o.what) (p o.what) o.holds in
      record {
        line = line;
        there = there;
        what = o.what;
        sends = o.sends;
        left = o.left;
        its = two.0;
        holds = two.1;
      }

  left_unreceived : (i : ℕ) (l : IsLeft t p h i) → is_unreceived both h l.line ≡ true
  left_unreceived i l =
      and_from (is_send both (Some (l.line).post)) (lacks_receive h l.line)
      (ap (λ (q : Post). is_send both (Some q)) l.sends ∙ and_from (t l.what) (p l.what) l.its l.holds) l.left

  pub any_left : list_any (is_unreceived both h) h.board.lines ≡ true → (i : ℕ) × IsLeft t p h i
  any_left any = let f = found (is_unreceived both h) h.board.lines any in (f.0, left_at f.0 f.1 f.2 f.3)

  pub left_any : (i : ℕ) → IsLeft t p h i → list_any (is_unreceived both h) h.board.lines ≡ true
  left_any i l = any_at (is_unreceived both h) h.board.lines i l.line l.there (left_unreceived i l)

  -- of the post of a number
  pub place_left : (i : ℕ) → is_unreceived_at both h (suc i) ≡ true → IsLeft t p h i
  place_left i is = go (slice_get h.board.lines i) refl is
    where
      go : (o : Option Line) → slice_get h.board.lines i ≡ o → is_unreceived_in both h o ≡ true → IsLeft t p h i
      go None there is = absurd (cc)
      go (Some line) there is = left_at i line there is

  pub left_place : (i : ℕ) → IsLeft t p h i → is_unreceived_at both h (suc i) ≡ true
  left_place i l = ap (is_unreceived_in both h) l.there ∙ left_unreceived i l

-- ---- what a call of another rank leaves of it

claim_number : (j n : ℕ) (o : Option Line) → claim_in j o ≡ Some n → n ≡ suc j
claim_number j n None e = absurd (cc)
claim_number j n (Some line) e = by line.post e
  where
    by : (p : Post) → claim_in j (Some (record { post = p; partner = line.partner })) ≡ Some n → n ≡ suc j
    by (post.Send s) e = absurd (cc)
    by (post.Receive a) e = absurd (cc)
    by (post.Claim a) e = (let same : j + 1 ≡ n = same_Some (j + 1) n e in omega (arith, same))

no_take : (p : Post) (s : Sent) (a : Selection) → p ≡ post.Send s → Takes p a → ⊥
no_take p s a e (inl f) = absurd (cc)
no_take p s a e (inr f) = absurd (cc)

-- what takes a message and claims it has what it claims
claims_what : (p : Post) (a c : Selection) → Takes p a → p ≡ post.Claim c → a ≡ c
claims_what p a c (inl e) is = absurd (cc)
claims_what p a c (inr e) is = (let same : post.Claim a ≡ post.Claim c = sym e ∙ is in cc)

module _ (s : ℕ) (h k : HubView) (moved : Moves all s h k) (laid : Laid h) where
  -- a line that has a partner stays
  paired_here : (i j : ℕ) (m : Line) → slice_get h.board.lines i ≡ Some m → m.partner ≡ Some j
      → slice_get k.board.lines i ≡ Some m
  paired_here i j m here partner = go moved.lines
    where
      go : GrowsBy all s h.board.lines k.board.lines → slice_get k.board.lines i ≡ Some m
      go (inl same) = subst (λ ms. slice_get ms i ≡ Some m) (sym same) here
      go (inr g) =
          subst (λ ms. slice_get ms i ≡ Some m) (sym g.2) (paired_stays h.board.lines g.0 i j m here partner)

  -- and so does its partner
  record Beside (m : Line) (j : ℕ) : Type 0 where
    other : Line
    here : slice_get h.board.lines j ≡ Some other
    there : slice_get k.board.lines j ≡ Some other
    together : Together m.post other.post

  beside : (i j : ℕ) (m : Line) → slice_get h.board.lines i ≡ Some m → m.partner ≡ Some j → Beside m j
  beside i j m here partner =
      let g = (laid.good).paired i j m here partner in
      record { other = g.0; here = g.1; there = paired_here j i g.0 g.1 g.2; together = g.3 }

  claim_same : (m : Line) (j : ℕ) → Beside m j → claim_at k.board (Some j) ≡ claim_at h.board (Some j)
  claim_same m j b = ap (claim_in j) (b.there ∙ sym b.here)

  -- no claim that was made before begins to wait
  waits_back : (j : ℕ) (line : Line) (c : Option ℕ) → slice_get h.board.lines j ≡ Some line
      → claim_at h.board (Some j) ≡ c → waits_for_receive k c ≡ true
      → waits_for_receive h c ≡ true
  waits_back j line None here e is = absurd (cc)
  waits_back j line (Some n) here e is = elim (cases_Bool (is_waiting h.claims n)) [
    | inl waits ↦ waits
    | inr none ↦
        let number : n ≡ suc j = claim_number j n (slice_get h.board.lines j) e in
        let still : is_waiting k.claims (suc j) ≡ false =
        none_waits s h k j moved.claims (get_within h.board.lines j line here)
        (subst (λ x. is_waiting h.claims x ≡ false) number none) in
        let no : true ≡ false = sym is ∙ subst (λ x. is_waiting k.claims x ≡ false) (sym number) still in
        absurd (cc)
  ]

  left_back : (i : ℕ) (m : Line) → slice_get h.board.lines i ≡ Some m → lacks_receive k m ≡ true → lacks_receive h m ≡ true
  left_back i m here is = go m.partner refl is
    where
      go : (o : Option ℕ) → m.partner ≡ o → lacks_receive_by k o ≡ true → lacks_receive_by h m.partner ≡ true
      go None e is = ap (lacks_receive_by h) e
      go (Some j) e is =
          let b = beside i j m here e in
          ap (lacks_receive_by h) e
          ∙ waits_back j b.other (claim_at h.board (Some j)) b.here refl
          (sym (ap (waits_for_receive k) (claim_same m j b)) ∙ is)

  -- a claim waits until its rank receives
  module _ (away : ℕ) (apart : away ≢ s) where
    may_stay : (n : ℕ) → may_receive h.claims away n ≡ true → ClaimsBy s h k → may_receive k.claims away n ≡ true
    may_stay n may (stay e) = subst (λ ws. may_receive ws away n ≡ true) (sym e) may
    may_stay n may (less m e) =
        subst (λ ws. may_receive ws away n ≡ true) (sym e)
        (others_receive h.claims s m away n (λ same. apart (sym same)) may)
    may_stay n may (more a mine lines e) =
        subst (λ ws. may_receive ws away n ≡ true) (sym e)
        (list_any-append (is_claim away n) h.claims _ ∙ or_left _ _ may)

  waits_on : (m : Line) (what : Sent) (j : ℕ) → m.post ≡ post.Send what → what.dest ≢ s → Beside m j → (c : Option ℕ)
      → claim_at h.board (Some j) ≡ c → waits_for_receive h c ≡ true
      → waits_for_receive k c ≡ true
  waits_on m what j sends apart b None e is = absurd (cc)
  waits_on m what j sends apart b (Some n) e is =
      let number : n ≡ suc j = claim_number j n (slice_get h.board.lines j) e in
      let who = somebody's h.claims n is in
      let c = laid.owned who.0 n who.1 in
      let place : c.place ≡ j = (let u = c.numbered in omega (arith, u, number)) in
      let same : c.line ≡ b.other =
      at_place h.board.lines j c.line b.other
      (subst (λ x. slice_get h.board.lines x ≡ Some c.line) place c.here) b.here in
      let claims : (b.other).post ≡ post.Claim c.what = sym (ap (λ (x : Line). x.post) same) ∙ c.claims in
      let t = b.together in
      let dest : what.dest ≡ who.0 =
      elim (t.3) [
        | inl g ↦ absurd (no_take m.post what t.0 sends g.0)
        | inr g ↦
            let sent : post.Send t.1 ≡ post.Send what = sym g.0 ∙ sends in
            let is_what : t.1 ≡ what = cc in
            let takes : t.0 ≡ c.what = claims_what (b.other).post t.0 c.what g.1 claims in
            ap (λ (x : Sent). x.dest) (sym is_what) ∙ (accepted t.0 t.1 t.2).0 ∙ ap (λ (x : Selection). x.rank) takes
            ∙ c.mine
      ] in
      waits_for_it k.claims who.0 n
      (may_stay who.0 (λ e. apart (dest ∙ e)) n who.1 moved.claims)

  left_on : (i : ℕ) (m : Line) (what : Sent) → slice_get h.board.lines i ≡ Some m → m.post ≡ post.Send what
      → what.dest ≢ s → lacks_receive h m ≡ true
      → lacks_receive k m ≡ true
  left_on i m what here sends apart is = go m.partner refl is
    where
      go : (o : Option ℕ) → m.partner ≡ o → lacks_receive_by h o ≡ true → lacks_receive_by k m.partner ≡ true
      go None e is = ap (lacks_receive_by k) e
      go (Some j) e is =
          let b = beside i j m here e in
          ap (lacks_receive_by k) e ∙ ap (waits_for_receive k) (claim_same m j b)
          ∙ waits_on m what j sends apart b (claim_at h.board (Some j)) refl is

  module _ (r : ℕ) (t p : Sent → Bool) (of : (m : Sent) → t m ≡ true → m.envelope.source ≡ r) (i : ℕ) where
    -- no such message is new
    pub was_left : s ≢ r → IsLeft t p k i → IsLeft t p h i
    was_left apart left = go moved.lines
      where
        same_line : slice_get h.board.lines i ≡ Some left.line → IsLeft t p h i
        same_line there = record {
          line = left.line;
          there = there;
          what = left.what;
          sends = left.sends;
          left = left_back i left.line there left.left;
          its = left.its;
          holds = left.holds;
        }

        other_post : (q : Post) → IsBy all s q → q ≡ post.Send left.what → ⊥
        other_post (post.Send x) its e =
            let same : x ≡ left.what = (cc) in
            apart (sym its.0 ∙ ap (λ (y : Sent). y.envelope.source) same ∙ of left.what left.its)
        other_post (post.Receive a) its e = absurd (cc)
        other_post (post.Claim a) its e = absurd (cc)

        by : (q : Post) → IsBy all s q → Look h.board.lines q i left.line → IsLeft t p h i
        by q its (is_new place e) = absurd (other_post q its (sym (ap (λ (x : Line). x.post) e) ∙ left.sends))
        by q its (is_old there) = same_line there
        by q its (is_given x there given_to e) =
            let c = chosen h.board.lines q i given_to in
            let same : c.line ≡ x = at_place h.board.lines i c.line x c.here there in
            record {
              line = x;
              there = there;
              what = left.what;
              sends = sym (ap (λ (y : Line). y.post) e) ∙ left.sends;
              left = ap (lacks_receive_by h) (subst (λ (y : Line). y.partner ≡ None) same c.free);
              its = left.its;
              holds = left.holds;
            }

        go : GrowsBy all s h.board.lines k.board.lines → IsLeft t p h i
        go (inl same) = same_line (sym (ap (λ ms. slice_get ms i) same) ∙ left.there)
        go (inr g) = by g.0 g.1 (look h.board.lines g.0 i left.line (sym (ap (λ ms. slice_get ms i) g.2) ∙ left.there))

    -- and each stays that isn't sent to that rank
    pub stays_left : ((m : Sent) → p m ≡ true → m.dest ≢ s) → IsLeft t p h i → IsLeft t p k i
    stays_left away left = record {
      line = left.line;
      there = go (left.line).partner refl moved.lines;
      what = left.what;
      sends = left.sends;
      left = left_on i left.line left.what left.there left.sends (away left.what left.holds) left.left;
      its = left.its;
      holds = left.holds;
    }
      where
        apart : (q : Post) → IsBy all s q → may_pair q (post.Send left.what) ≡ true → ⊥
        apart (post.Send x) its pair = absurd (cc)
        apart (post.Receive a) its pair = away left.what left.holds ((accepted a left.what pair).0 ∙ its)
        apart (post.Claim a) its pair = away left.what left.holds ((accepted a left.what pair).0 ∙ its)

        go : (o : Option ℕ) → (left.line).partner ≡ o → GrowsBy all s h.board.lines k.board.lines
            → slice_get k.board.lines i ≡ Some left.line
        go (Some j) e grows = paired_here i j left.line left.there e
        go None e (inl same) = subst (λ ms. slice_get ms i ≡ Some left.line) (sym same) left.there
        go None e (inr g) =
            subst (λ ms. slice_get ms i ≡ Some left.line) (sym g.2)
            (free_stays h.board.lines g.0 i left.line left.there
            (λ pair. apart g.0 g.1 (subst (λ (q : Post). may_pair g.0 q ≡ true) left.sends pair)))

-- ---- alike hubs

held_on : (cs : List Call) (h : HubView) → AreHeld h.board h.claims → AreHeld (hub_on h cs).board (hub_on h cs).claims
held_on [] h held = held
held_on (c ∷ cs) h held = held_on cs (outcome h c.0 c.1).1 (held_always h c.0 c.1 held)

-- the messages that somebody may still be given are held, after whatever calls
pub held_after : (links : List Link) (calls : List Call)
    → AreHeld (hub_after links calls).board (hub_after links calls).claims
held_after links calls = held_on calls (hub_at_start links) held_none

module _ {wild : Wild} (names : Renaming) (h k : HubView) (alike : AlikeHubs wild names h k)
    (held : AreHeld h.board h.claims) (p : Sent → Bool) where
  -- a send whose message is claimed and not received isn't over: the message is held
  still_held : (i j : ℕ) (line : Line) → slice_get h.board.lines i ≡ Some line → line.partner ≡ Some j
      → waits_for_receive h (claim_at h.board (Some j)) ≡ true → IsOverSend h.board i → ⊥
  still_held i j line here partner waits over =
      let claim : claim_of h.board (suc i) ≡ claim_at h.board (Some j) =
      ap (claim_at h.board) (ap partner_of_line here ∙ partner) in
      let closed : open_claim h.board (suc i) ≡ None =
      ap (λ o. cond (is_held o) (claim_of h.board (suc i)) None) over.gone in
      let no : false ≡ true =
      sym (ap (waits_for_receive h) closed) ∙ only_claimed_is h (suc i) held ∙ ap (waits_for_receive h) claim ∙ waits in
      absurd (cc)

  is_live : (i : ℕ) (line : Line) (s : Sent) → slice_get h.board.lines i ≡ Some line → line.post ≡ post.Send s
      → lacks_receive h line ≡ true → IsOver h.board i → ⊥
  is_live i line s here sends left over = go line.partner refl left over
    where
      no_receive : IsOverReceive h.board i → ⊥
      no_receive o =
          let same = same_Some line _ (sym here ∙ o.there) in
          let no : post.Send s ≡ post.Receive o.what = sym sends ∙ ap (λ (x : Line). x.post) same in
          absurd (cc)

      go : (o : Option ℕ) → line.partner ≡ o → lacks_receive_by h o ≡ true → IsOver h.board i → ⊥
      go None e left over = free_is_live h.board i line here e over
      go (Some j) e left (inl sent) = still_held i j line here e left sent
      go (Some j) e left (inr received) = no_receive received

  same_waits : (o : Option ℕ) → waits_for_receive k o ≡ waits_for_receive h o
  same_waits None = refl
  same_waits (Some n) = ap (λ ws. is_waiting ws n) alike.claims

  left_too : (i : ℕ) (line : Line) → slice_get h.board.lines i ≡ Some line → IsSameAt names h.board k.board i
      → lacks_receive h line ≡ true → lacks_receive k (line_by names line) ≡ true
  left_too i line here same left = go line.partner refl left
    where
      there : slice_get k.board.lines (names.to i) ≡ Some (line_by names line)
      there = same ∙ ap (option_map (line_by names)) here

      go : (o : Option ℕ) → line.partner ≡ o → lacks_receive_by h o ≡ true
          → lacks_receive_by k (option_map names.to line.partner) ≡ true
      go None e left = ap (λ o. lacks_receive_by k (option_map names.to o)) e
      go (Some j) e left =
          let mine : claim_of h.board (suc i) ≡ claim_at h.board (Some j) =
          ap (claim_at h.board) (ap partner_of_line here ∙ e) in
          let its : claim_of k.board (suc (names.to i)) ≡ claim_at k.board (Some (names.to j)) =
          ap (claim_at k.board) (ap partner_of_line there ∙ ap (option_map names.to) e) in
          let claims : claim_at k.board (Some (names.to j)) ≡ claim_at h.board (Some j) =
          sym its ∙ claim_named names h.board k.board alike.board (suc i) same ∙ mine in
          ap (λ o. lacks_receive_by k (option_map names.to o)) e ∙ ap (waits_for_receive k) claims
          ∙ same_waits (claim_at h.board (Some j)) ∙ left

  pub place_too : (i : ℕ) → is_unreceived_at p h (suc i) ≡ true → is_unreceived_at p k (suc (names.to i)) ≡ true
  place_too i is = go (slice_get h.board.lines i) refl is
    where
      go : (o : Option Line) → slice_get h.board.lines i ≡ o → is_unreceived_in p h o ≡ true
          → is_unreceived_in p k (slice_get k.board.lines (names.to i)) ≡ true
      go None here is = absurd (cc)
      go (Some line) here is =
          let o = opened p h line is in
          let same = same_or_over names h.board k.board i ((alike.board).lines i)
          (is_live i line o.what here o.sends o.left) in
          ap (is_unreceived_in p k) (same ∙ ap (option_map (line_by names)) here)
          ∙ and_from (is_send p (Some line.post)) (lacks_receive k (line_by names line))
          (ap (λ (q : Post). is_send p (Some q)) o.sends ∙ o.holds) (left_too i line here same o.left)

  one_too : list_any (is_unreceived p h) h.board.lines ≡ true → list_any (is_unreceived p k) k.board.lines ≡ true
  one_too any =
      let f = found (is_unreceived p h) h.board.lines any in
      at_any f.0 (place_too f.0 (ap (is_unreceived_in p h) f.2 ∙ f.3))
    where
      at_any : (i : ℕ) → is_unreceived_at p k (suc (names.to i)) ≡ true → list_any (is_unreceived p k) k.board.lines ≡ true
      at_any i is = go (slice_get k.board.lines (names.to i)) refl is
        where
          go : (o : Option Line) → slice_get k.board.lines (names.to i) ≡ o → is_unreceived_in p k o ≡ true
              → list_any (is_unreceived p k) k.board.lines ≡ true
          go None there is = absurd (cc)
          go (Some line) there is = any_at (is_unreceived p k) k.board.lines (names.to i) line there is

same_test : (x y : Bool) → (x ≡ true → y ≡ true) → (y ≡ true → x ≡ true) → x ≡ y
same_test true y to from = sym (to refl)
same_test false false to from = refl
same_test false true to from = from refl

module _ {wild : Wild} (names : Renaming) (h k : HubView) (alike : AlikeHubs wild names h k)
    (held_h : AreHeld h.board h.claims) (held_k : AreHeld k.board k.claims) (p : Sent → Bool) where
  pub same_any : list_any (is_unreceived p k) k.board.lines ≡ list_any (is_unreceived p h) h.board.lines
  same_any =
      same_test _ _ (one_too (turned names) k h (hub_back names h k alike) held_k p) (one_too names h k alike held_h p)

  pub same_place : (number : ℕ) → is_unreceived_at p k (number_by names number) ≡ is_unreceived_at p h number
  same_place zero = refl
  same_place (suc i) =
      same_test _ _
      (λ is. subst (λ j. is_unreceived_at p h (suc j) ≡ true) (names.there i)
      (place_too (turned names) k h (hub_back names h k alike) held_k p (names.to i) is))
      (place_too names h k alike held_h p i)
