-- A receive that has no message.
use Rattle.std.proofs.Common.{◌≡◌, ℕ, zero, suc, ◌<◌, ◌⊎◌, inl, inr, List, [], ◌∷◌, length, Bool, true, false, cond, not, Option, Some, None, refl, sym, ap, ◌∙◌, subst, arith}
use Rattle.std.specs.Prelude.{◌==◌}
use Rattle.std.specs.List.{slice_get}
use Rattle.std.proofs.lemmas.Bool.{and_parts, and_from, cases_Bool, cond-true, cond-false, eq-eqb, eqb-true, not_from_false, or_parts, or_from, ne_eqb}
use Rattle.std.proofs.lemmas.List.Folds.{list_any-append}
use Rattle.mp_types.specs.declared.messages.Envelope.{Envelope}
use Rattle.mp_types.specs.declared.messages.Message.{Message}
use Rattle.mp_types.specs.declared.codes.Code.TheVariants.{BadRequest}
use Rattle.mp_types.specs.declared.replies.Reply.{Reply}
use Rattle.mp_types.specs.declared.replies.Reply.TheVariants as reply
use Rattle.mp_types.specs.declared.requests.Request.TheVariants.{Collect}
use Rattle.mp_match.specs.declared.posts.Sent.{Sent}
use Rattle.mp_match.specs.declared.posts.Selection.{Selection}
use Rattle.mp_match.specs.declared.posts.Post.{Post}
use Rattle.mp_match.specs.declared.posts.Post.TheVariants as post
use Rattle.mp_match.specs.declared.posts.Line.{Line}
use Rattle.mp_match.specs.Pairs.{may_pair, partner_of_line}
use Rattle.mp_match.specs.Board.{collect, collect_from, envelope_at, envelope_in, is_gone, is_held, is_receive_of, line_of, message_at, message_in, partner_of, without}
use Rattle.mp_match.proofs.Places.{get_within}
use Rattle.mp_match.proofs.OrderKept.{Good, Takes, Together}
use Rattle.mp_probe.specs.declared.handles.Waiting.{Waiting}
use Rattle.mp_probe.specs.Claims.{is_claim, is_waiting, next_number, without_claim}
use Rattle.mp_hub.specs.Hub.{HubView, got_or, may_collect, outcome}
use Rattle.mp_wait_laws.specs.Waits.{OnlyOf, could_pair, could_send}
use Rattle.mp_wait_laws.proofs.Lines.{could, free_stays}
use Rattle.mp_wait_laws.proofs.Moves.{ClaimsBy, GrowsBy, IsBy, Moves, stay, less, more}

-- ---- claimed messages that wait

fewer_none : (ws : List Waiting) (r n m : ℕ) → is_waiting ws m ≡ false → is_waiting (without_claim ws r n) m ≡ false
fewer_none [] r n m none = refl
fewer_none (w ∷ ws) r n m none =
    let parts = or_parts (w.message == m) (is_waiting ws m) none in
    go (not (is_claim r n w)) parts.0 (fewer_none ws r n m parts.1)
  where
    go : (b : Bool) → (w.message == m) ≡ false → is_waiting (without_claim ws r n) m ≡ false
        → is_waiting (cond b (w ∷ without_claim ws r n) (without_claim ws r n)) m ≡ false
    go true one rest = or_from _ _ one rest
    go false one rest = rest

-- no post that was made before begins to wait
pub none_waits : (r : ℕ) (h new : HubView) (place : ℕ) → ClaimsBy r h new → place < length h.board.lines
    → is_waiting h.claims (suc place) ≡ false → is_waiting new.claims (suc place) ≡ false
none_waits r h new place (stay e) below none = subst (λ ws. is_waiting ws (suc place) ≡ false) (sym e) none
none_waits r h new place (less n e) below none =
    subst (λ ws. is_waiting ws (suc place) ≡ false) (sym e) (fewer_none h.claims r n (suc place) none)
none_waits r h new place (more a mine lines e) below none =
    subst (λ ws. is_waiting ws (suc place) ≡ false) (sym e)
    (list_any-append (λ (w : Waiting). w.message == suc place) h.claims _
    ∙ or_from _ _ none (or_from _ _ (ne_eqb (next_number h.board) (suc place) (λ same. omega (arith, same, below)))
    refl))

-- ---- a receive without a partner, whose sources are among these ranks

pub record NoMessage (member : ℕ → ℕ → Bool) (among : ℕ → Bool) (h : HubView) (r place : ℕ) : Type 0 where
  pub line : Line
  pub here : slice_get h.board.lines place ≡ Some line
  pub what : Selection
  pub takes : Takes line.post what
  pub mine : what.rank ≡ r
  pub free : line.partner ≡ None
  pub idle : is_waiting h.claims (suc place) ≡ false
  pub only : OnlyOf among (could_send member what)

-- a post of a rank that isn't among these doesn't pair with it
apart : (member : ℕ → ℕ → Bool) (among : ℕ → Bool) (r : ℕ) (p q : Post) (a : Selection) → among r ≡ false
    → OnlyOf among (could_send member a) → IsBy member r p → Takes q a → may_pair p q ≡ true → ⊥
apart member among r p q a out only by takes pair = go p by (as_receive p takes pair)
  where
    -- a post that may pair with a claim may with a receive that selects the same
    as_receive : (p : Post) → Takes q a → may_pair p q ≡ true → may_pair p (post.Receive a) ≡ true
    as_receive p (inl e) pair = subst (λ (x : Post). may_pair p x ≡ true) e pair
    as_receive (post.Send s) (inr e) pair =
        (let f : may_pair (post.Send s) (post.Claim a) ≡ true = subst (λ (x : Post). may_pair (post.Send s) x ≡ true)
        e pair in absurd (cc))
    as_receive (post.Receive b) (inr e) pair =
        (let f : may_pair (post.Receive b) (post.Claim a) ≡ true = subst
        (λ (x : Post). may_pair (post.Receive b) x ≡ true) e pair in absurd (cc))
    as_receive (post.Claim b) (inr e) pair =
        (let f : may_pair (post.Claim b) (post.Claim a) ≡ true = subst
        (λ (x : Post). may_pair (post.Claim b) x ≡ true) e pair in absurd (cc))

    go : (p : Post) → IsBy member r p → may_pair p (post.Receive a) ≡ true → ⊥
    go (post.Send s) by pair = (let in_too = only r (could member a s r by.0 by.1 pair) in absurd (cc))
    go (post.Receive b) by pair = absurd (cc)
    go (post.Claim b) by pair = absurd (cc)

-- ---- what a post is, by the tests of its line

pub mine_at : (p : Post) (o : Option ℕ) (a : Selection) (r : ℕ) → Takes p a → a.rank ≡ r
    → is_receive_of r (Some (record { post = p; partner = o })) ≡ true
mine_at p o a r (inl e) mine =
    subst (λ (x : Post). is_receive_of r (Some (record { post = x; partner = o })) ≡ true) (sym e)
    (eq-eqb a.rank r mine)
mine_at p o a r (inr e) mine =
    subst (λ (x : Post). is_receive_of r (Some (record { post = x; partner = o })) ≡ true) (sym e)
    (eq-eqb a.rank r mine)

pub taken_at : (p : Post) (o : Option ℕ) (r : ℕ) → is_receive_of r (Some (record { post = p; partner = o })) ≡ true
    → (a : Selection) × Takes p a × (a.rank ≡ r)
taken_at (post.Send s) o r mine = absurd (cc)
taken_at (post.Receive a) o r mine = (a, inl refl, eqb-true a.rank r mine)
taken_at (post.Claim a) o r mine = (a, inr refl, eqb-true a.rank r mine)

pub sources_at : (member : ℕ → ℕ → Bool) (among : ℕ → Bool) (p : Post) (o : Option ℕ) (a : Selection) → Takes p a
    → OnlyOf among (could_pair member (Some (record { post = p; partner = o }))) → OnlyOf among (could_send member a)
sources_at member among p o a (inl e) only =
    subst (λ (x : Post). OnlyOf among (could_pair member (Some (record { post = x; partner = o })))) e only
sources_at member among p o a (inr e) only =
    subst (λ (x : Post). OnlyOf among (could_pair member (Some (record { post = x; partner = o })))) e only

line_at : (member : ℕ → ℕ → Bool) (among : ℕ → Bool) (p : Post) (o : Option ℕ) (a : Selection) → Takes p a
    → OnlyOf among (could_send member a) → OnlyOf among (could_pair member (Some (record { post = p; partner = o })))
line_at member among p o a (inl e) only =
    subst (λ (x : Post). OnlyOf among (could_pair member (Some (record { post = x; partner = o })))) (sym e) only
line_at member among p o a (inr e) only =
    subst (λ (x : Post). OnlyOf among (could_pair member (Some (record { post = x; partner = o })))) (sym e) only

pub not_true : (b : Bool) → not b ≡ true → b ≡ false
not_true true h = absurd (cc)
not_true false h = refl

pub not_false : (b : Bool) → not b ≡ false → b ≡ true
not_false true h = refl
not_false false h = absurd (cc)

some_line : (r : ℕ) (o : Option Line) → is_receive_of r o ≡ true → (line : Line) × (o ≡ Some line)
some_line r None h = absurd (cc)
some_line r (Some line) h = (line, refl)

message_there : (e : Envelope) (o : Option (Option (List ℕ))) → is_held o ≡ true
    → (m : Message) × (message_in (Some e) o ≡ Some m)
message_there e None h = absurd (cc)
message_there e (Some None) h = absurd (cc)
message_there e (Some (Some bytes)) h = (record { envelope = e; bytes = bytes }, refl)

send_envelope : (line : Line) (s : Sent) → line.post ≡ post.Send s → envelope_in (Some line) ≡ Some s.envelope
send_envelope line s e = ap (λ (p : Post). envelope_in (Some (record { post = p; partner = line.partner }))) e

-- the partner of a receive or a claim is a send
sent_to : (p q : Post) (a : Selection) → Takes p a → Together p q → (s : Sent) × (q ≡ post.Send s)
sent_to p q a takes t = go takes t.3
  where
    go : Takes p a → (Takes p t.0 × (q ≡ post.Send t.1)) ⊎ ((p ≡ post.Send t.1) × Takes q t.0)
        → (s : Sent) × (q ≡ post.Send s)
    go takes (inl g) = (t.1, g.1)
    go (inl e) (inr g) = (let f = g.0 in absurd (cc))
    go (inr e) (inr g) = (let f = g.0 in absurd (cc))

module _ (member : ℕ → ℕ → Bool) (among : ℕ → Bool) where
  -- a call of a rank that isn't among these leaves it so
  pub no_message_stays : (h k : HubView) (r place other : ℕ) → Moves member other h k → among other ≡ false
      → NoMessage member among h r place → NoMessage member among k r place
  no_message_stays h k r place other moved out n = record {
    line = n.line;
    here = lines moved.lines;
    what = n.what;
    takes = n.takes;
    mine = n.mine;
    free = n.free;
    idle = none_waits other h k place moved.claims (get_within h.board.lines place n.line n.here) n.idle;
    only = n.only;
  }
    where
      lines : GrowsBy member other h.board.lines k.board.lines → slice_get k.board.lines place ≡ Some n.line
      lines (inl same) = subst (λ ms. slice_get ms place ≡ Some n.line) (sym same) n.here
      lines (inr grown) =
          subst (λ ms. slice_get ms place ≡ Some n.line) (sym grown.2)
          (free_stays h.board.lines grown.0 place n.line n.here
          (apart member among other grown.0 (n.line).post n.what out n.only grown.1 n.takes))

  -- collecting it answers NotYet, and changes nothing
  pub no_message_waits : (h : HubView) (r place : ℕ) → NoMessage member among h r place
      → outcome h r (Collect (suc place)) ≡ (reply.NotYet, h)
  no_message_waits h r place n =
      let alone : partner_of h.board (suc place) ≡ None = ap partner_of_line n.here ∙ n.free in
      let mine : is_receive_of r (line_of h.board (suc place)) ≡ true =
      ap (is_receive_of r) n.here ∙ mine_at (n.line).post (n.line).partner n.what r n.takes n.mine in
      let may : may_collect h r (suc place) ≡ true =
      and_from _ _ (and_from _ _ mine (not_from_false _ n.idle))
      (ap (λ (o : Option ℕ). not (is_gone h.board o)) alone) in
      cond-true (may_collect h r (suc place)) (got_or h reply.NotYet (collect h.board (suc place)))
      (reply.Code BadRequest, h) may
      ∙ ap (λ (o : Option ℕ). got_or h reply.NotYet (collect_from h.board o)) alone

  pub no_message_from : (h : HubView) (r n : ℕ) → Good h.board.lines → (outcome h r (Collect n)).0 ≡ reply.NotYet
      → OnlyOf among (could_pair member (line_of h.board n))
      → (place : ℕ) × (n ≡ suc place) × NoMessage member among h r place
  no_message_from h r zero good answer only = absurd (cc)
  no_message_from h r (suc place) good answer only = (
    place,
    refl,
    elim (cases_Bool (may_collect h r (suc place))) [
      | inl may ↦ go may (ap (λ (o : Reply × HubView). o.0)
          (sym (cond-true (may_collect h r (suc place)) (got_or h reply.NotYet (collect h.board (suc place)))
          (reply.Code BadRequest, h) may)) ∙ answer)
      | inr refused_call ↦
          let refused : reply.Code BadRequest ≡ reply.NotYet =
          ap (λ (o : Reply × HubView). o.0)
          (sym (cond-false (may_collect h r (suc place)) (got_or h reply.NotYet (collect h.board (suc place)))
          (reply.Code BadRequest, h) refused_call)) ∙ answer in
          absurd (cc)
    ],
  )
    where
      -- it has no partner, since a partner would be a send whose message is held
      alone : (line : Line) (a : Selection) (o : Option ℕ) → slice_get h.board.lines place ≡ Some line
          → Takes line.post a → line.partner ≡ o
          → is_gone h.board o ≡ false → (got_or h reply.NotYet (collect_from h.board o)).0 ≡ reply.NotYet
          → line.partner ≡ None
      alone line a None here takes partner held answer = partner
      alone line a (Some j) here takes partner held answer =
          let q = good.paired place j line here partner in
          let s = sent_to line.post (q.0).post a takes q.3 in
          let e : envelope_at h.board (Some j) ≡ Some (s.0).envelope = ap envelope_in q.1 ∙ send_envelope q.0 s.0 s.1 in
          let m = message_there (s.0).envelope (slice_get h.board.bodies j) (not_false _ held) in
          let there : message_at h.board j ≡ Some m.0 =
          ap (λ (x : Option Envelope). message_in x (slice_get h.board.bodies j)) e ∙ m.1 in
          let got : reply.Got m.0 ≡ reply.NotYet =
          ap (λ (x : Option Message). (got_or h reply.NotYet (x, without h.board j)).0) (sym there) ∙ answer in
          absurd (cc)

      go : may_collect h r (suc place) ≡ true
          → (got_or h reply.NotYet (collect h.board (suc place))).0 ≡ reply.NotYet → NoMessage member among h r place
      go may answer =
          let parts = and_parts _ (not (is_gone h.board (partner_of h.board (suc place)))) may in
          let two =
          and_parts (is_receive_of r (line_of h.board (suc place))) (not (is_waiting h.claims (suc place)))
          parts.0 in
          let l = some_line r (line_of h.board (suc place)) two.0 in
          let t = taken_at (l.0).post (l.0).partner r (sym (ap (is_receive_of r) l.1) ∙ two.0) in
          let same : partner_of h.board (suc place) ≡ (l.0).partner = ap partner_of_line l.1 in
          record {
            line = l.0;
            here = l.1;
            what = t.0;
            takes = t.1;
            mine = t.2;
            free = alone l.0 t.0 (l.0).partner l.1 t.1 refl
                (subst (λ o. is_gone h.board o ≡ false) same (not_true _ parts.1))
                (subst (λ o. (got_or h reply.NotYet (collect_from h.board o)).0 ≡ reply.NotYet) same answer);
            idle = not_true _ two.1;
            only =
                sources_at member among (l.0).post (l.0).partner t.0 t.1
                (subst (λ (o : Option Line). OnlyOf among (could_pair member o)) l.1 only);
          }

  pub no_message_up_to : (h : HubView) (r place : ℕ) → NoMessage member among h r place
      → OnlyOf among (could_pair member (line_of h.board (suc place)))
  no_message_up_to h r place n =
      subst (λ (o : Option Line). OnlyOf among (could_pair member o)) (sym n.here)
      (line_at member among (n.line).post (n.line).partner n.what n.takes n.only)
