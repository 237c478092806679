-- A synchronous send that no receive has.
use Rattle.std.proofs.Common.{◌≡◌, ℕ, zero, suc, ◌+◌, inl, inr, Bool, true, false, cond, not, Option, Some, None, refl, sym, ap, ◌∙◌, subst, arith}
use Rattle.std.specs.Prelude.{◌==◌}
use Rattle.std.specs.List.{slice_get}
use Rattle.std.proofs.lemmas.Bool.{cases_Bool, cond-true, cond-false, eq-eqb, eqb-true, not_from_true, or_from, or_left, or_parts}
use Rattle.std.proofs.lemmas.List.Folds.{list_any-append}
use Rattle.mp_types.specs.declared.codes.Code.TheVariants.{BadRequest}
use Rattle.mp_types.specs.declared.replies.Reply.{Reply}
use Rattle.mp_types.specs.declared.replies.Reply.TheVariants as reply
use Rattle.mp_types.specs.declared.requests.Request.TheVariants.{Finished}
use Rattle.mp_match.specs.declared.posts.Sent.{Sent}
use Rattle.mp_match.specs.declared.posts.Selection.{Selection}
use Rattle.mp_match.specs.declared.posts.Post.{Post}
use Rattle.mp_match.specs.declared.posts.Post.TheVariants as post
use Rattle.mp_match.specs.declared.posts.Line.{Line}
use Rattle.mp_match.specs.Pairs.{may_pair, partner_of_line}
use Rattle.mp_match.specs.Board.{claim_at, claim_in, claim_of, is_finished, is_receive, is_receive_at, is_send_of, is_standard, line_of, partner_of}
use Rattle.mp_match.proofs.OrderKept.{Good, Takes}
use Rattle.mp_probe.specs.Claims.{is_claim, is_waiting, may_receive}
use Rattle.mp_hub.specs.Hub.{HubView, is_complete, outcome, was_received}
use Rattle.mp_wait_laws.specs.Waits.{OnlyOf, could_pair}
use Rattle.mp_wait_laws.proofs.Lines.{accepted, at_place, free_stays, paired_stays}
use Rattle.mp_wait_laws.proofs.Moves.{ClaimsBy, GrowsBy, IsBy, Moves, stay, less, more}
use Rattle.mp_wait_laws.proofs.Collects.{not_false}
use Rattle.mp_wait_laws.proofs.Owned.{AreOwned, others_receive, somebody's, waits_for_it}

-- the send has no partner, or a claim of its destination has it, and wasn't received
pub data Open (h : HubView) (line : Line) (s : Sent) : Type 0 where
  alone : line.partner ≡ None → Open h line s
  claimed : (j k : ℕ) (other : Line) (a : Selection) → line.partner ≡ Some j → slice_get h.board.lines j ≡ Some other
      → other.post ≡ post.Claim a → other.partner ≡ Some k
      → may_receive h.claims s.dest (j + 1) ≡ true → Open h line s

pub record Unmatched (member : ℕ → ℕ → Bool) (among : ℕ → Bool) (h : HubView) (r place : ℕ) : Type 0 where
  pub line : Line
  pub here : slice_get h.board.lines place ≡ Some line
  pub what : Sent
  pub sends : line.post ≡ post.Send what
  pub mine : what.envelope.source ≡ r
  pub sync : what.sync ≡ true
  pub open_still : Open h line what
  pub only : OnlyOf among (λ k. what.dest == k)

-- tests of a line that is a send or a claim
send_is : (line : Line) (s : Sent) (r : ℕ) → line.post ≡ post.Send s
    → is_send_of r (Some line) ≡ (s.envelope.source == r)
send_is line s r e = ap (λ (p : Post). is_send_of r (Some (record { post = p; partner = line.partner }))) e

standard_is : (line : Line) (s : Sent) → line.post ≡ post.Send s → is_standard (Some line) ≡ not s.sync
standard_is line s e = ap (λ (p : Post). is_standard (Some (record { post = p; partner = line.partner }))) e

claim_no_receive : (line : Line) (a : Selection) → line.post ≡ post.Claim a → is_receive (Some line) ≡ false
claim_no_receive line a e = ap (λ (p : Post). is_receive (Some (record { post = p; partner = line.partner }))) e

receive_is : (line : Line) (a : Selection) → line.post ≡ post.Receive a → is_receive (Some line) ≡ true
receive_is line a e = ap (λ (p : Post). is_receive (Some (record { post = p; partner = line.partner }))) e

claim_number : (line : Line) (a : Selection) (j : ℕ) → line.post ≡ post.Claim a → claim_in j (Some line) ≡ Some (j + 1)
claim_number line a j e = ap (λ (p : Post). claim_in j (Some (record { post = p; partner = line.partner }))) e

destination_is : (member : ℕ → ℕ → Bool) (line : Line) (s : Sent) (k : ℕ) → line.post ≡ post.Send s
    → could_pair member (Some line) k ≡ (s.dest == k)
destination_is member line s k e =
    ap (λ (p : Post). could_pair member (Some (record { post = p; partner = line.partner })) k) e

module _ (member : ℕ → ℕ → Bool) (among : ℕ → Bool) where
  not_its : (s : Sent) (other : ℕ) → OnlyOf among (λ k. s.dest == k) → among other ≡ false → s.dest ≡ other → ⊥
  not_its s other only out same = (let inside = only other (eq-eqb s.dest other same) in absurd (cc))

  -- a post of a rank that isn't among these doesn't pair with it
  apart : (s : Sent) (other : ℕ) (p : Post) → OnlyOf among (λ k. s.dest == k) → among other ≡ false
      → IsBy member other p → may_pair p (post.Send s) ≡ true → ⊥
  apart s other (post.Send t) only out by pair = absurd (cc)
  apart s other (post.Receive b) only out by pair = not_its s other only out ((accepted b s pair).0 ∙ by)
  apart s other (post.Claim b) only out by pair = not_its s other only out ((accepted b s pair).0 ∙ by)

  pub unmatched_stays : (h k : HubView) (r place other : ℕ) → Moves member other h k → among other ≡ false
      → Unmatched member among h r place → Unmatched member among k r place
  unmatched_stays h k r place other moved out n = record {
    line = n.line;
    here = lines n.open_still moved.lines;
    what = n.what;
    sends = n.sends;
    mine = n.mine;
    sync = n.sync;
    open_still = still n.open_still;
    only = n.only;
  }
    where
      lines : Open h n.line n.what → GrowsBy member other h.board.lines k.board.lines
          → slice_get k.board.lines place ≡ Some n.line
      lines o (inl same) = subst (λ ms. slice_get ms place ≡ Some n.line) (sym same) n.here
      lines (alone none) (inr grown) =
          subst (λ ms. slice_get ms place ≡ Some n.line) (sym grown.2)
          (free_stays h.board.lines grown.0 place n.line n.here
          (λ pair. apart n.what other grown.0 n.only out grown.1
          (subst (λ (q : Post). may_pair grown.0 q ≡ true) n.sends pair)))
      lines (claimed j i x a partner there is back may) (inr grown) =
          subst (λ ms. slice_get ms place ≡ Some n.line) (sym grown.2)
          (paired_stays h.board.lines grown.0 place j n.line n.here partner)

      claim_stays : (j i : ℕ) (x : Line) → slice_get h.board.lines j ≡ Some x → x.partner ≡ Some i
          → GrowsBy member other h.board.lines k.board.lines → slice_get k.board.lines j ≡ Some x
      claim_stays j i x there back (inl same) = subst (λ ms. slice_get ms j ≡ Some x) (sym same) there
      claim_stays j i x there back (inr grown) =
          subst (λ ms. slice_get ms j ≡ Some x) (sym grown.2) (paired_stays h.board.lines grown.0 j i x there back)

      may_stay : (number : ℕ) → may_receive h.claims (n.what).dest number ≡ true → ClaimsBy other h k
          → may_receive k.claims (n.what).dest number ≡ true
      may_stay number may (stay e) = subst (λ ws. may_receive ws (n.what).dest number ≡ true) (sym e) may
      may_stay number may (less m e) =
          subst (λ ws. may_receive ws (n.what).dest number ≡ true) (sym e)
          (others_receive h.claims other m (n.what).dest number (λ same. not_its n.what other n.only out (sym same))
          may)
      may_stay number may (more a mine grown e) =
          subst (λ ws. may_receive ws (n.what).dest number ≡ true) (sym e)
          (list_any-append (is_claim (n.what).dest number) h.claims _ ∙ or_left _ _ may)

      still : Open h n.line n.what → Open k n.line n.what
      still (alone none) = alone none
      still (claimed j i x a partner there is back may) =
          claimed j i x a partner (claim_stays j i x there back moved.lines) is back
          (may_stay (j + 1) may moved.claims)

  pub incomplete : (h : HubView) (r place : ℕ) → Unmatched member among h r place → is_complete h (suc place) ≡ false
  incomplete h r place n =
      or_from (is_finished h.board (suc place)) (was_received h (claim_of h.board (suc place)))
      (or_from _ _ standard (no_receive n.open_still)) (no_claim n.open_still)
    where
      standard : is_standard (line_of h.board (suc place)) ≡ false
      standard = ap is_standard n.here ∙ standard_is n.line n.what n.sends ∙ not_from_true (n.what).sync n.sync

      partner : partner_of h.board (suc place) ≡ (n.line).partner
      partner = ap partner_of_line n.here

      no_receive : Open h n.line n.what → is_receive_at h.board (partner_of h.board (suc place)) ≡ false
      no_receive (alone none) = ap (is_receive_at h.board) (partner ∙ none)
      no_receive (claimed j i x a to there is back may) =
          ap (is_receive_at h.board) (partner ∙ to) ∙ ap is_receive there ∙ claim_no_receive x a is

      no_claim : Open h n.line n.what → was_received h (claim_of h.board (suc place)) ≡ false
      no_claim (alone none) = ap (λ (o : Option ℕ). was_received h (claim_at h.board o)) (partner ∙ none)
      no_claim (claimed j i x a to there is back may) =
          ap (λ (o : Option ℕ). was_received h (claim_at h.board o)) (partner ∙ to)
          ∙ ap (λ (o : Option Line). was_received h (claim_in j o)) there
          ∙ ap (was_received h) (claim_number x a j is)
          ∙ not_from_true _ (waits_for_it h.claims (n.what).dest (j + 1) may)

  pub is_its_send : (h : HubView) (r place : ℕ) → Unmatched member among h r place
      → is_send_of r (line_of h.board (suc place)) ≡ true
  is_its_send h r place n =
      ap (is_send_of r) n.here ∙ send_is n.line n.what r n.sends ∙ eq-eqb (n.what).envelope.source r n.mine

  pub unmatched_waits : (h : HubView) (r place : ℕ) → Unmatched member among h r place
      → outcome h r (Finished (suc place)) ≡ (reply.NotYet, h)
  unmatched_waits h r place n =
      cond-true (is_send_of r (line_of h.board (suc place)))
      (cond (is_complete h (suc place)) reply.Done reply.NotYet, h) (reply.Code BadRequest, h)
      (is_its_send h r place n)
      ∙ ap (λ b. (let x : Reply × HubView = (cond b reply.Done reply.NotYet, h) in x)) (incomplete h r place n)

  pub unmatched_up_to : (h : HubView) (r place : ℕ) → Unmatched member among h r place
      → OnlyOf among (could_pair member (line_of h.board (suc place)))
  unmatched_up_to h r place n k may =
      n.only k
      (sym (destination_is member n.line n.what k n.sends)
      ∙ sym (ap (λ (o : Option Line). could_pair member o k) n.here) ∙ may)

  some_send : (r : ℕ) (o : Option Line) → is_send_of r o ≡ true
      → (line : Line) × (s : Sent) × (o ≡ Some line) × (line.post ≡ post.Send s) × (s.envelope.source ≡ r)
  some_send r None h = absurd (cc)
  some_send r (Some line) h = go line.post line.partner h
    where
      go : (p : Post) (o : Option ℕ) → is_send_of r (Some (record { post = p; partner = o })) ≡ true
          → (x : Line) × (s : Sent) × (Some (let y : Line = record { post = p; partner = o } in y) ≡ Some
          x) × (x.post ≡ post.Send s) × (s.envelope.source ≡ r)
      go (post.Send s) o h = (record { post = post.Send s; partner = o }, s, refl, refl, eqb-true s.envelope.source r h)
      go (post.Receive a) o h = absurd (cc)
      go (post.Claim a) o h = absurd (cc)

  -- what isn't complete is open
  pub unmatched_made : (h : HubView) (r place : ℕ) → Good h.board.lines → AreOwned h
      → is_send_of r (line_of h.board (suc place)) ≡ true → is_complete h (suc place) ≡ false
      → OnlyOf among (could_pair member (line_of h.board (suc place))) → Unmatched member among h r place
  unmatched_made h r place good owned its incomplete only =
      let l = some_send r (line_of h.board (suc place)) its in
      let parts =
      or_parts (is_finished h.board (suc place)) (was_received h (claim_of h.board (suc place))) incomplete in
      let two =
      or_parts (is_standard (line_of h.board (suc place)))
      (is_receive_at h.board (partner_of h.board (suc place))) parts.0 in
      let partner : partner_of h.board (suc place) ≡ (l.0).partner = ap partner_of_line l.2 in
      record {
        line = l.0;
        here = l.2;
        what = l.1;
        sends = l.3;
        mine = l.4;
        sync = not_false (l.1).sync (sym (ap is_standard l.2 ∙ standard_is l.0 l.1 l.3) ∙ two.0);
        open_still = opened l.0 l.1 l.2 l.3 (l.0).partner refl (ap (is_receive_at h.board) (sym partner) ∙ two.1)
            (ap (λ (o : Option ℕ). was_received h (claim_at h.board o)) (sym partner) ∙ parts.1);
        only = λ k to.
            only k (ap (λ (o : Option Line). could_pair member o k) l.2 ∙ destination_is member l.0 l.1 k l.3 ∙ to);
      }
    where
      by_claim : (line other : Line) (s : Sent) (j : ℕ) → line.post ≡ post.Send s → line.partner ≡ Some j
          → slice_get h.board.lines j ≡ Some other → other.partner ≡ Some place
          → is_receive_at h.board (Some j) ≡ false → was_received h (claim_at h.board (Some j)) ≡ false
          → (a : Selection) → Takes other.post a → s.dest ≡ a.rank → Open h line s
      by_claim line other s j sends partner there back no_receive unreceived a (inl e) dest =
          (let f : true ≡ false = sym (ap is_receive there ∙ receive_is other a e) ∙ no_receive in absurd (cc))
      by_claim line other s j sends partner there back no_receive unreceived a (inr e) dest =
          let waiting : is_waiting h.claims (j + 1) ≡ true =
          not_false _ (sym (ap (λ (o : Option Line). was_received h (claim_in j o)) there
          ∙ ap (was_received h) (claim_number other a j e)) ∙ unreceived) in
          let who = somebody's h.claims (j + 1) waiting in
          let c = owned who.0 (j + 1) who.1 in
          let same_place : c.place ≡ j = (let p = c.numbered in omega (arith, p)) in
          let same : c.line ≡ other =
          at_place h.board.lines j c.line other
          (subst (λ i. slice_get h.board.lines i ≡ Some c.line) same_place c.here) there in
          let whose : post.Claim c.what ≡ post.Claim a = sym c.claims ∙ ap (λ (x : Line). x.post) same ∙ e in
          let same_what : c.what ≡ a = cc in
          let rank : who.0 ≡ s.dest = sym c.mine ∙ ap (λ (x : Selection). x.rank) same_what ∙ sym dest in
          claimed j place other a partner there e back (subst (λ k. may_receive h.claims k (j + 1) ≡ true) rank who.1)

      opened : (line : Line) (s : Sent) → slice_get h.board.lines place ≡ Some line → line.post ≡ post.Send s
          → (o : Option ℕ) → line.partner ≡ o
          → is_receive_at h.board o ≡ false → was_received h (claim_at h.board o) ≡ false → Open h line s
      opened line s here sends None partner no_receive unreceived = alone partner
      opened line s here sends (Some j) partner no_receive unreceived =
          let q = good.paired place j line here partner in
          let t = q.3 in
          elim (t.3) [
            | inl g ↦ absurd (no_take line.post s t.0 sends g.0)
            | inr g ↦
                let same : t.1 ≡ s = (let f : post.Send t.1 ≡ post.Send s = sym g.0 ∙ sends in cc) in
                by_claim line q.0 s j sends partner q.1 q.2 no_receive unreceived t.0 g.1
                (ap (λ (x : Sent). x.dest) (sym same) ∙ (accepted t.0 t.1 t.2).0)
          ]
        where
          no_take : (p : Post) (s : Sent) (a : Selection) → p ≡ post.Send s → Takes p a → ⊥
          no_take p s a e (inl f) = absurd (cc)
          no_take p s a e (inr f) = absurd (cc)

  pub unmatched_from : (h : HubView) (r n : ℕ) → Good h.board.lines → AreOwned h
      → (outcome h r (Finished n)).0 ≡ reply.NotYet
      → OnlyOf among (could_pair member (line_of h.board n))
      → (place : ℕ) × (n ≡ suc place) × Unmatched member among h r place
  unmatched_from h r zero good owned answer only = absurd (cc)
  unmatched_from h r (suc place) good owned answer only = (
    place,
    refl,
    elim (cases_Bool (is_send_of r (line_of h.board (suc place)))) [
      | inl its ↦
          let told : cond (is_complete h (suc place)) reply.Done reply.NotYet ≡ reply.NotYet =
          ap (λ (o : Reply × HubView). o.0)
          (sym (cond-true (is_send_of r (line_of h.board (suc place)))
          (cond (is_complete h (suc place)) reply.Done reply.NotYet, h) (reply.Code BadRequest, h) its)) ∙ answer in
          unmatched_made h r place good owned its (not_done (is_complete h (suc place)) told) only
      | inr refused ↦
          let told : reply.Code BadRequest ≡ reply.NotYet =
          ap (λ (o : Reply × HubView). o.0)
          (sym (cond-false (is_send_of r (line_of h.board (suc place)))
          (cond (is_complete h (suc place)) reply.Done reply.NotYet, h) (reply.Code BadRequest, h) refused))
          ∙ answer in
          absurd (cc)
    ],
  )
    where
      not_done : (b : Bool) → cond b reply.Done reply.NotYet ≡ reply.NotYet → b ≡ false
      not_done true h = absurd (cc)
      not_done false h = refl
