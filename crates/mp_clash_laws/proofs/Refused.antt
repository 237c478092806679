-- What a rank may ask for, and what it may not, is changed by no post of another rank.
use Rattle.std.proofs.Common.{◌≡◌, ℕ, zero, suc, ◌<◌, ◌⊎◌, inl, inr, List, [], ◌∷◌, ◌++◌, length, Bool, true, false, cond, not, Option, Some, None, refl, sym, ap, ◌∙◌, subst, arith}
use Rattle.std.specs.Prelude.{◌≢◌, ◌&&◌, ◌||◌}
use Rattle.std.specs.List.{list_all, slice_get}
use Rattle.std.proofs.lemmas.Bool.{cases_Bool, cases_eq, cases_order, cond-false, ne_eqb}
use Rattle.std.proofs.lemmas.Option.{same_Some, slice_get_past}
use Rattle.mp_types.specs.declared.codes.Code.TheVariants.{BadRequest}
use Rattle.mp_types.specs.declared.replies.Reply.{Reply}
use Rattle.mp_types.specs.declared.replies.Reply.TheVariants as reply
use Rattle.mp_types.specs.declared.requests.Request.{Request}
use Rattle.mp_types.specs.declared.requests.Request.TheVariants.{Send, Recv, Collect, Finished, All}
use Rattle.mp_match.specs.declared.posts.Line.{Line}
use Rattle.mp_match.specs.declared.posts.Post.{Post}
use Rattle.mp_match.specs.declared.posts.Post.TheVariants as post
use Rattle.mp_match.specs.declared.posts.Selection.{Selection}
use Rattle.mp_match.specs.Board.{Board, collect, is_collected, is_gone, is_held, is_receive_of, is_send_of, line_of}
use Rattle.mp_match.specs.Pairs.{add, may_pair, partner_for, partner_of_line}
use Rattle.mp_match.proofs.Lines.{add_given, add_length, add_new, add_old}
use Rattle.mp_match.proofs.OrderKept.{chosen}
use Rattle.mp_match.proofs.Places.{get_front, get_last, get_within}
use Rattle.mp_probe.specs.Claims.{is_waiting}
use Rattle.mp_hub.specs.Hub.{HubView, all_collected, all_got, are_distinct, got_or, is_complete, is_known, hub_after, is_ready, may_collect, outcome, selecting, with_board}
use Rattle.mp_wait_laws.proofs.Fresh.{Laid}
use Rattle.mp_wait_laws.proofs.Lines.{at_place, paired_stays, post_stays}
use Rattle.mp_wait_laws.proofs.Sets.{get-set_other}
use Rattle.mp_wait_laws.proofs.Waits.{laid_after}
use Rattle.mp_clash_laws.specs.Exchanges.{IsPosting, IsRefused}
use Rattle.mp_clash_laws.specs.Laws.{RefusedLaw}
use Rattle.mp_clash_laws.proofs.Boards.{item_at}
use Rattle.mp_clash_laws.proofs.Postings.{board_at, body_of, emptied_at, emptied_lines, partner_in, post_of, posted, posting, taken_of}
use Rattle.mp_clash_laws.proofs.Calls.{made_by, taken_is}
use Rattle.mp_alike_laws.specs.Alike.{maker}

-- ---- whose a post is

abbrev pub sends_it : ℕ → Post → Bool
sends_it s p = is_send_of s (Some (record { post = p; partner = None }))

abbrev receives_it : ℕ → Post → Bool
receives_it s p = is_receive_of s (Some (record { post = p; partner = None }))

pub sends_by : (s : ℕ) (m : Line) → is_send_of s (Some m) ≡ sends_it s m.post
sends_by s m = refl

receives_by : (s : ℕ) (m : Line) → is_receive_of s (Some m) ≡ receives_it s m.post
receives_by s m = refl

module _ (s : ℕ) where
  -- neither a send nor a receive of another rank
  pub no_send : (r : ℕ) (p : Post) → r ≢ s → maker p ≡ r → sends_it s p ≡ false
  no_send r (post.Send t) apart mine = ne_eqb (t.envelope).source s (λ e. apart (sym mine ∙ e))
  no_send r (post.Receive a) apart mine = refl
  no_send r (post.Claim a) apart mine = refl

  no_receive : (r : ℕ) (p : Post) → r ≢ s → maker p ≡ r → receives_it s p ≡ false
  no_receive r (post.Send t) apart mine = refl
  no_receive r (post.Receive a) apart mine = ne_eqb a.rank s (λ e. apart (sym mine ∙ e))
  no_receive r (post.Claim a) apart mine = ne_eqb a.rank s (λ e. apart (sym mine ∙ e))

  -- what is told by a post alone, of another rank's none, is told of each place as before
  module _ (test : Option Line → Bool) (of : Post → Bool) (some : (m : Line) → test (Some m) ≡ of m.post)
      (none : test None ≡ false) (lines : List Line) (p : Post) (new : of p ≡ false) where
    pub same_at : (i : ℕ) → test (slice_get (add lines p) i) ≡ test (slice_get lines i)
    same_at i = elim (cases_order i (length lines)) [
      | inl at ↦
          ap (λ k. test (slice_get (add lines p) k)) at ∙ ap test (add_new lines p)
          ∙ some (record { post = p; partner = partner_for lines p }) ∙ new ∙ sym none
          ∙ ap test (sym (slice_get_past lines i (omega (arith, at))))
      | inr other ↦ elim other [
        | inl before ↦
            let m = item_at lines i before in
            let n = post_stays lines p i m.0 m.1 in
            ap test n.1 ∙ some n.0 ∙ ap of n.2 ∙ sym (some m.0) ∙ ap test (sym m.1)
        | inr past ↦
            ap test
            (slice_get_past (add lines p) i (let e = add_length lines p in omega (arith, e, past))
            ∙ sym (slice_get_past lines i (omega (arith, past))))
      ]
    ]

  -- ---- behind a call of another rank that posts

  module _ (h : HubView) (r : ℕ) (q : Request) (is : IsPosting q) (apart : r ≢ s) (laid : Laid h) where
    abbrev b : Board
    b = h.board

    abbrev o : Option ℕ
    o = partner_in b r q

    abbrev after : Board
    after = board_at b r q o

    abbrev p : Post
    p = post_of r q

    lines_are : after.lines ≡ add b.lines p
    lines_are = emptied_lines (posted b r q) (taken_of q o)

    line_at : (n : ℕ) (test : Option Line → Bool) (of : Post → Bool) → ((m : Line) → test (Some m) ≡ of m.post)
        → test None ≡ false → of p ≡ false → test (line_of after n) ≡ test (line_of b n)
    line_at zero test of some none new = refl
    line_at (suc i) test of some none new =
        ap (λ ms. test (slice_get ms i)) lines_are ∙ same_at test of some none b.lines p new i

    pub sends_same : (n : ℕ) → is_send_of s (line_of after n) ≡ is_send_of s (line_of b n)
    sends_same n =
        line_at n (is_send_of s) (sends_it s) (sends_by s) refl (no_send r p apart (made_by r q is))

    receives_same : (n : ℕ) → is_receive_of s (line_of after n) ≡ is_receive_of s (line_of b n)
    receives_same n =
        line_at n (is_receive_of s) (receives_it s) (receives_by s) refl (no_receive r p apart (made_by r q is))

    -- a message that is held stays so, but for the one that the call takes
    held_same : (j : ℕ) → j < length b.lines → (taken_of q o ≡ Some j → ⊥)
        → is_held (slice_get after.bodies j) ≡ is_held (slice_get b.bodies j)
    held_same j within other = go (taken_of q o) refl
      where
        y : (z : Option (List ℕ)) × (slice_get b.bodies j ≡ Some z)
        y = item_at b.bodies j (let e = laid.even in omega (arith, e, within))

        front : slice_get (posted b r q).bodies j ≡ slice_get b.bodies j
        front = get_front b.bodies (body_of q ∷ []) j y.0 y.1 ∙ sym y.1

        go : (k : Option ℕ) → taken_of q o ≡ k
            → is_held (slice_get (emptied_at (posted b r q) k).bodies j) ≡ is_held (slice_get b.bodies j)
        go None e = ap is_held front
        go (Some i) e =
            ap is_held (get-set_other (posted b r q).bodies i j None (λ same. other (e ∙ ap (λ k. Some k) same)) ∙ front)

    -- a receive of this rank is collected as before
    gone_same : (i : ℕ) (m : Line) → slice_get b.lines i ≡ Some m → receives_it s m.post ≡ true
        → is_gone after (partner_of_line (slice_get after.lines i)) ≡ is_gone b m.partner
    gone_same i m here mine = go m.partner refl
      where
        go : (k : Option ℕ) → m.partner ≡ k
            → is_gone after (partner_of_line (slice_get after.lines i)) ≡ is_gone b k
        go (Some j) e =
            let g = (laid.good).paired i j m here e in
            let free : taken_of q o ≡ Some j → ⊥ = λ t.
            (let c = chosen b.lines p j (taken_is q o j t) in
            let same : c.line ≡ g.0 = at_place b.lines j c.line g.0 c.here g.1 in
            let none : (g.0).partner ≡ None = subst (λ (x : Line). x.partner ≡ None) same c.free in
            let some : (g.0).partner ≡ Some i = g.2 in absurd (cc)) in
            ap (λ ms. is_gone after (partner_of_line (slice_get ms i))) lines_are
            ∙ ap (λ x. is_gone after (partner_of_line x)) (paired_stays b.lines p i j m here e)
            ∙ ap (is_gone after) e
            ∙ ap not (held_same j (get_within b.lines j g.0 g.1) free)
        go None e = elim (found_or_not o) [
          | inl found ↦ given_one found
          | inr not_found ↦
              ap (λ ms. is_gone after (partner_of_line (slice_get ms i))) lines_are
              ∙ ap (λ x. is_gone after (partner_of_line x)) (add_old b.lines p i m here not_found)
              ∙ ap (is_gone after) e
        ]
          where
            found_or_not : (k : Option ℕ) → (k ≡ Some i) ⊎ (k ≡ Some i → ⊥)
            found_or_not None = inr (λ f. absurd (cc))
            found_or_not (Some k) = elim (cases_eq k i) [
              | inl same ↦ inl (ap (λ z. Some z) same)
              | inr other ↦ inr (λ f. other (same_Some k i f))
            ]

            -- its message came with the new post, which is held
            given_one : o ≡ Some i → is_gone after (partner_of_line (slice_get after.lines i)) ≡ is_gone b None
            given_one found =
                ap (λ ms. is_gone after (partner_of_line (slice_get ms i))) lines_are
                ∙ ap (λ x. is_gone after (partner_of_line x)) (add_given b.lines p i m here found)
                ∙ new_held q is pairs
              where
                pairs : may_pair p m.post ≡ true
                pairs =
                    (let c = chosen b.lines p i found in
                    let same : c.line ≡ m = at_place b.lines i c.line m c.here here in
                    subst (λ (x : Line). may_pair p x.post ≡ true) same c.pair)

                no_pair : (a : Selection) (x : Post) → receives_it s x ≡ true → may_pair (post.Receive a) x ≡ true → ⊥
                no_pair a (post.Send t) mine pair = absurd (cc)
                no_pair a (post.Receive c) mine pair = absurd (cc)
                no_pair a (post.Claim c) mine pair = absurd (cc)

                new_held : (w : Request) → IsPosting w → may_pair (post_of r w) m.post ≡ true
                    → is_gone (board_at b r w (partner_in b r w)) (Some (length b.lines)) ≡ false
                new_held (Send sync comm dest tag bytes) posts pair =
                    ap (λ x. not (is_held x))
                    (subst (λ k. slice_get (b.bodies ++ Some bytes ∷ []) k ≡ Some (Some bytes)) laid.even
                    (get_last b.bodies (Some bytes)))
                new_held (Recv now comm source tag) posts pair =
                    absurd (no_pair (selecting r comm source tag) m.post mine pair)
                new_held _ posts pair = absurd posts

    line_there : (x : Option Line) → is_receive_of s x ≡ true → (m : Line) × (x ≡ Some m)
    line_there None e = absurd (cc)
    line_there (Some m) e = (m, refl)

    abbrev then : HubView
    then = with_board h after

    may_same : (n : ℕ) → may_collect then s n ≡ may_collect h s n
    may_same n = elim (cases_Bool (is_receive_of s (line_of b n))) [
      | inl mine ↦
          ap (λ x. x && not (is_waiting h.claims n) && not (is_collected after n)) (receives_same n)
          ∙ ap (λ x. is_receive_of s (line_of b n) && not (is_waiting h.claims n) && not x) (collected n mine)
      | inr none ↦
          ap (λ x. x && not (is_waiting h.claims n) && not (is_collected after n)) (receives_same n ∙ none)
          ∙ sym (ap (λ x. x && not (is_waiting h.claims n) && not (is_collected b n)) none)
    ]
      where
        collected : (n : ℕ) → is_receive_of s (line_of b n) ≡ true → is_collected after n ≡ is_collected b n
        collected zero mine = absurd (cc)
        collected (suc i) mine =
            let m = line_there (slice_get b.lines i) mine in
            gone_same i m.0 m.1 (sym (receives_by s m.0) ∙ sym (ap (is_receive_of s) m.1) ∙ mine)
            ∙ ap (λ x. is_gone b (partner_of_line x)) (sym m.1)

    known_same : (n : ℕ) → is_known then s n ≡ is_known h s n
    known_same n =
        ap (λ x. x || is_send_of s (line_of after n)) (may_same n)
        ∙ ap (λ x. may_collect h s n || x) (sends_same n)

    all_known_same : (ns : List ℕ) → list_all (λ n. is_known then s n) ns ≡ list_all (λ n. is_known h s n) ns
    all_known_same [] = refl
    all_known_same (n ∷ ns) =
        ap (λ x. x && list_all (λ n. is_known then s n) ns) (known_same n)
        ∙ ap (λ x. is_known h s n && x) (all_known_same ns)

    refused_at : (x : Request) → IsRefused h s x → outcome then s x ≡ (reply.Code BadRequest, then)
    refused_at (Collect n) e =
        cond-false (may_collect then s n) (got_or then reply.NotYet (collect after n)) (reply.Code BadRequest, then)
        (may_same n ∙ e)
    refused_at (Finished n) e =
        cond-false (is_send_of s (line_of after n)) (cond (is_complete then n) reply.Done reply.NotYet, then)
        (reply.Code BadRequest, then) (sends_same n ∙ e)
    refused_at (All ns) e =
        cond-false (are_distinct ns && list_all (λ n. is_known then s n) ns)
        (cond (list_all (λ n. is_ready then s n) ns) (all_collected then (all_got s after ns)) (reply.NotYet, then))
        (reply.Code BadRequest, then) (ap (λ x. are_distinct ns && x) (all_known_same ns) ∙ e)
    refused_at _ e = absurd e

pub refused_now : (h : HubView) (s : ℕ) (x : Request) → IsRefused h s x → outcome h s x ≡ (reply.Code BadRequest, h)
refused_now h s (Collect n) e =
    cond-false (may_collect h s n) (got_or h reply.NotYet (collect h.board n)) (reply.Code BadRequest, h) e
refused_now h s (Finished n) e =
    cond-false (is_send_of s (line_of h.board n)) (cond (is_complete h n) reply.Done reply.NotYet, h)
    (reply.Code BadRequest, h) e
refused_now h s (All ns) e =
    cond-false (are_distinct ns && list_all (λ n. is_known h s n) ns)
    (cond (list_all (λ n. is_ready h s n) ns) (all_collected h (all_got s h.board ns)) (reply.NotYet, h))
    (reply.Code BadRequest, h) e
refused_now h s _ e = absurd e

pub refused_law : RefusedLaw
refused_law links calls r s q x apart posts room refused =
    let h = hub_after links calls in
    let laid = laid_after links calls in
    let o = partner_in h.board r q in
    let first = posting h r q posts (let e = laid.even in omega (arith, e, room)) in (
      refused_now h s x refused,
      ap (λ (y : Reply × HubView). outcome y.1 s x) first
          ∙ refused_at s h r q posts apart laid x refused
          ∙ ap (λ (y : Reply × HubView). (let z : Reply × HubView = (reply.Code BadRequest, y.1) in z)) (sym first),
    )
