-- The hub holds as many messages as were sent and not got.
use Rattle.std.proofs.Common.{◌≡◌, ◌+◌, ◌≤◌, ◌↔◌, ℕ, zero, suc, inl, inr, List, [], ◌∷◌, ◌++◌, length, Bool, true, false, cond, Option, Some, None, refl, sym, ap, ◌∙◌, subst, arith, length-append}
use Rattle.std.specs.Prelude.{nat_lt}
use Rattle.std.specs.List.{slice_get, slice_set}
use Rattle.std.proofs.lemmas.Bool.{ltb-false, ltb-true}
use Rattle.rv_image_types.specs.declared.images.Link.{Link}
use Rattle.mp_types.specs.declared.codes.Code.TheVariants.{Full}
use Rattle.mp_types.specs.declared.messages.Message.{Message}
use Rattle.mp_types.specs.declared.replies.Reply.{Reply}
use Rattle.mp_types.specs.declared.replies.Reply.TheVariants as reply
use Rattle.mp_types.specs.declared.requests.Request.{Request}
use Rattle.mp_types.specs.declared.requests.Request.TheVariants.{Recv, Collect, Claimed, All}
use Rattle.mp_match.specs.declared.posts.Sent.{Sent}
use Rattle.mp_match.specs.declared.posts.Post.{Post}
use Rattle.mp_match.specs.declared.posts.Post.TheVariants as post
use Rattle.mp_match.specs.Pairs.{partner_at}
use Rattle.mp_match.specs.PostPairs.{posts_of}
use Rattle.mp_match.specs.Bodies.{bytes_in}
use Rattle.mp_match.specs.Board.{Board, board_with, send_posted, held_count, is_send_of, line_of, envelope_at, message_at, without, collect, collect_from}
use Rattle.mp_match.proofs.OrderKept.{posts_add}
use Rattle.mp_match.proofs.Rows.{held_snoc, held_set}
use Rattle.mp_probe.specs.Claims.{next_number}
use Rattle.mp_hub.specs.Hub.{HubView, Call, outcome, message_or, all_got, one_got, sending, hub_after, reply_of, is_done, with_board}
use Rattle.mp_hub.specs.Laws.{collecting}
use Rattle.mp_hub.specs.Histories.{posts_after, got_of, got_by, got_after, number_after}
use Rattle.mp_hub.proofs.HeldKept.{held_message}
use Rattle.mp_hub.proofs.SentKept.{message_parts}
use Rattle.mp_hub.proofs.Outcomes.{is_plain, post_envelope, IsReady, Comes, is_nothing, is_full, is_sent, is_posted, is_got, is_gathered, comes}
use Rattle.mp_hub.proofs.Histories.{each_more, call_by_call, hub_more, lines_posts, number_is}
use Rattle.test_messages.specs.Held.{sends_among, FullLaw}

-- ---- sends

sends_snoc : (ps : List Post) (p : Post) → sends_among (ps ++ p ∷ []) ≡ sends_among ps + sends_among (p ∷ [])
sends_snoc [] p = omega arith
sends_snoc (post.Send s ∷ ps) p = (let e = sends_snoc ps p in omega (arith, e))
sends_snoc (post.Receive a ∷ ps) p = sends_snoc ps p
sends_snoc (post.Claim a ∷ ps) p = sends_snoc ps p

-- ---- each body is that of a send

abbrev IsBody : Post → Option (List ℕ) → Type 0
IsBody (post.Send s) body = Unit {0}
IsBody p body = body ≡ None

abbrev AreBodies : List Post → List (Option (List ℕ)) → Type 0
AreBodies [] [] = Unit {0}
AreBodies [] (b ∷ bs) = ⊥
AreBodies (p ∷ ps) [] = ⊥
AreBodies (p ∷ ps) (b ∷ bs) = IsBody p b × AreBodies ps bs

bodies_snoc : (ps : List Post) (bs : List (Option (List ℕ))) (p : Post) (b : Option (List ℕ)) → AreBodies ps bs
    → IsBody p b → AreBodies (ps ++ p ∷ []) (bs ++ b ∷ [])
bodies_snoc [] [] p b are is = (is, tt)
bodies_snoc [] (c ∷ bs) p b are is = absurd are
bodies_snoc (q ∷ ps) [] p b are is = absurd are
bodies_snoc (q ∷ ps) (c ∷ bs) p b are is = (are.0, bodies_snoc ps bs p b are.1 is)

none_body : (p : Post) → IsBody p None
none_body (post.Send s) = tt
none_body (post.Receive a) = refl
none_body (post.Claim a) = refl

bodies_set : (ps : List Post) (bs : List (Option (List ℕ))) (i : ℕ) → AreBodies ps bs
    → AreBodies ps (slice_set bs i None)
bodies_set [] [] i are = tt
bodies_set [] (b ∷ bs) i are = absurd are
bodies_set (p ∷ ps) [] i are = absurd are
bodies_set (p ∷ ps) (b ∷ bs) zero are = (none_body p, are.1)
bodies_set (p ∷ ps) (b ∷ bs) (suc i) are = (are.0, bodies_set ps bs i are.1)

sender_at : (ps : List Post) (bs : List (Option (List ℕ))) (i : ℕ) (x : List ℕ) → AreBodies ps bs
    → slice_get bs i ≡ Some (Some x) → (s : Sent) × (slice_get ps i ≡ Some (post.Send s))
sender_at [] [] i x are e = absurd (cc)
sender_at [] (b ∷ bs) i x are e = absurd are
sender_at (p ∷ ps) [] i x are e = absurd are
sender_at (post.Send s ∷ ps) (b ∷ bs) zero x are e = (s, refl)
sender_at (post.Receive a ∷ ps) (b ∷ bs) zero x are e = (let none = are.0 in absurd (cc))
sender_at (post.Claim a ∷ ps) (b ∷ bs) zero x are e = (let none = are.0 in absurd (cc))
sender_at (p ∷ ps) (b ∷ bs) (suc i) x are e = sender_at ps bs i x are.1 e

-- ---- what is held, what was got and what was sent

record Balance (b : Board) (got : ℕ) : Type 0 where
  pub bodies : AreBodies (posts_of b.lines) b.bodies
  pub even : held_count b.bodies + got ≡ sends_among (posts_of b.lines)

posted : (b : Board) (got : ℕ) (p : Post) (body : Option (List ℕ)) → Balance b got → IsBody p body
    → held_count (body ∷ []) ≡ sends_among (p ∷ []) → Balance (board_with b p body) got
posted b got p body balance is one = record {
  bodies = subst (λ ps. AreBodies ps (b.bodies ++ body ∷ [])) (sym (posts_add b.lines p))
      (bodies_snoc (posts_of b.lines) b.bodies p body balance.bodies is);
  even = (let before = balance.even in let sends = ap sends_among (posts_add b.lines p) in
      omega (arith, before, sends, one, held_snoc b.bodies body, sends_snoc (posts_of b.lines) p));
}

abbrev one_more : Option Message → ℕ
one_more None = 0
one_more (Some m) = 1

-- nothing is held at the place where no message is
nothing_there : (b : Board) (got j : ℕ) → Balance b got → message_at b j ≡ None
    → (o : Option (Option (List ℕ))) → slice_get b.bodies j ≡ o → held_count (bytes_in o ∷ []) ≡ 0
nothing_there b got j balance none None e = refl
nothing_there b got j balance none (Some None) e = refl
nothing_there b got j balance none (Some (Some x)) e =
    let sent = sender_at (posts_of b.lines) b.bodies j x balance.bodies e in
    let made : Message = record { envelope = (sent.0).envelope; bytes = x } in
    let no : None ≡ Some made = sym none ∙ held_message b j sent.0 x sent.1 e in
    absurd (cc)

taken : (b : Board) (got j : ℕ) → Balance b got → (m : Option Message) → message_at b j ≡ m
    → Balance (without b j) (got + one_more m)
taken b got j balance None none = record {
  bodies = bodies_set (posts_of b.lines) b.bodies j balance.bodies;
  even = (let before = balance.even in let zero = nothing_there b got j balance none (slice_get b.bodies j) refl in
      omega (arith, before, zero, held_set b.bodies j));
}
taken b got j balance (Some m) is = record {
  bodies = bodies_set (posts_of b.lines) b.bodies j balance.bodies;
  even =
      (let before = balance.even in
      let there = (message_parts (envelope_at b (Some j)) (slice_get b.bodies j) m is).1 in
      let one : held_count (bytes_in (slice_get b.bodies j) ∷ []) ≡ 1 =
      ap (λ (o : Option (Option (List ℕ))). held_count (bytes_in o ∷ [])) there in
      omega (arith, before, one, held_set b.bodies j));
}

same_balance : (b : Board) (got more : ℕ) → Balance b got → more ≡ 0 → Balance b (got + more)
same_balance b got more balance none = subst (λ n. Balance b n) (omega (arith, none)) balance

collected : (b : Board) (got n : ℕ) → Balance b got → Balance (collect b n).1 (got + one_more (collect b n).0)
collected b got zero balance = same_balance b got 0 balance refl
collected b got (suc i) balance = go (partner_at b.lines i)
  where
    go : (o : Option ℕ) → Balance (collect_from b o).1 (got + one_more (collect_from b o).0)
    go None = same_balance b got 0 balance refl
    go (Some j) = taken b got j balance (message_at b j) refl

one_collected : (rank : ℕ) (b : Board) (got n : ℕ) → Balance b got
    → Balance (one_got rank b n).1 (got + one_more (one_got rank b n).0)
one_collected rank b got n balance = go (is_send_of rank (line_of b n))
  where
    go : (c : Bool)
        → (let g : Option Message × Board = cond c (None, b) (collect b n) in Balance g.1 (got + one_more g.0))
    go true = same_balance b got 0 balance refl
    go false = collected b got n balance

got_first : (n : ℕ) (ns : List ℕ) (o : Option Message) (gots : List (Option Message))
    → one_more o + length (got_of ns gots) ≡ length (got_of (n ∷ ns) (o ∷ gots))
got_first n ns None gots = omega arith
got_first n ns (Some m) gots = omega arith

all_collected : (rank : ℕ) (ns : List ℕ) (b : Board) (got : ℕ) → Balance b got
    → Balance (all_got rank b ns).1 (got + length (got_of ns (all_got rank b ns).0))
all_collected rank [] b got balance = same_balance b got 0 balance refl
all_collected rank (n ∷ ns) b got balance =
    let one = one_got rank b n in
    let more = all_got rank one.1 ns in
    let first = got_first n ns one.0 more.0 in
    subst (λ k. Balance more.1 k) (omega (arith, first))
    (all_collected rank ns one.1 (got + one_more one.0) (one_collected rank b got n balance))

-- ---- one call

nothing_got : (next : ℕ) (q : Request) (r : Reply) → ((m : Message) → r ≡ reply.Got m → ⊥)
    → ((gots : List (Option Message)) → r ≡ reply.AllGot gots → ⊥) → length (got_by next q r) ≡ 0
nothing_got next (Recv now comm source tag) (reply.Got m) one several = absurd (one m refl)
nothing_got next (Collect n) (reply.Got m) one several = absurd (one m refl)
nothing_got next (Claimed now n) (reply.Got m) one several = absurd (one m refl)
nothing_got next (All ns) (reply.AllGot gots) one several = absurd (several gots refl)
nothing_got next q r one several = refl

plain_none : (next : ℕ) (q : Request) (r : Reply) → is_plain r ≡ true → length (got_by next q r) ≡ 0
plain_none next q r p =
    nothing_got next q r (λ m e. (let no : false ≡ true = sym (ap is_plain e) ∙ p in cc))
    (λ gots e. (let no : false ≡ true = sym (ap is_plain e) ∙ p in cc))

got_one : (h : HubView) (q : Request) (m : Message) (n : ℕ) → collecting h q ≡ Some n
    → length (got_by (next_number h.board) q (reply.Got m)) ≡ 1
got_one h (Recv now comm source tag) m n e = refl
got_one h (Collect k) m n e = refl
got_one h (Claimed now k) m n e = refl
got_one h q m n e = absurd (cc)

ready : (b c : Board) (got : ℕ) → IsReady b c → Balance b got → Balance c got
ready b c got (inl same) balance = subst (λ (d : Board). Balance d got) (sym same) balance
ready b c got (inr r) balance =
    subst (λ (d : Board). Balance d got) (sym r.1) (posted b got (post.Receive r.0) None balance refl refl)

moved : (b c : Board) (got : ℕ) → c ≡ b → Balance b got → Balance c got
moved b c got e balance = subst (λ (d : Board). Balance d got) (sym e) balance

no_send : (p : Post) → post_envelope p ≡ None → held_count (None ∷ []) ≡ sends_among (p ∷ [])
no_send (post.Send s) none = absurd (cc)
no_send (post.Receive a) none = refl
no_send (post.Claim a) none = refl

called : (h : HubView) (rank : ℕ) (q : Request) (r : Reply) (b : Board) (got : ℕ) → Balance h.board got
    → Comes h rank q r b → Balance b (got + length (got_by (next_number h.board) q r))
called h rank q r b got balance (is_nothing p e) =
    moved h.board b _ e (same_balance h.board got _ balance (plain_none (next_number h.board) q r p))
called h rank q r b got balance (is_full f there e) =
    moved h.board b _ e (same_balance h.board got _ balance (nothing_got (next_number h.board) q r
    (λ m g. (let no = sym f ∙ g in cc)) (λ gots g. (let no = sym f ∙ g in cc))))
called h rank q r b got balance (is_sent sync comm dest tag bytes done asked f e) =
    let s = sending rank sync comm dest tag bytes in
    moved (send_posted h.board s bytes) b _ e (same_balance (send_posted h.board s bytes) got _
    (posted h.board got (post.Send s) (Some bytes) balance tt refl)
    (nothing_got (next_number h.board) q r
    (λ m g. (let no = sym f ∙ g in cc)) (λ gots g. (let no = sym f ∙ g in cc))))
called h rank q r b got balance (is_posted p none f e) =
    moved (board_with h.board p None) b _ e (same_balance (board_with h.board p None) got _
    (posted h.board got p None balance (none_body p) (no_send p none))
    (plain_none (next_number h.board) q r f))
called h rank q r b got balance (is_got c n other before asked one p f e) =
    moved (collect c n).1 b _ e
    (subst (λ k. Balance (collect c n).1 (got + k)) (sym (brought (collect c n).0 f))
    (collected c got n (ready h.board c got before balance)))
  where
    brought : (o : Option Message) → r ≡ message_or other o
        → length (got_by (next_number h.board) q r) ≡ one_more o
    brought None g = plain_none (next_number h.board) q r (ap is_plain g ∙ p)
    brought (Some m) g = ap (λ t. length (got_by (next_number h.board) q t)) g ∙ got_one h q m n asked
called h rank q r b got balance (is_gathered ns asked f e) =
    moved (all_got rank h.board ns).1 b _ e
    (subst (λ k. Balance (all_got rank h.board ns).1 (got + k))
    (sym (λ i. length (got_by (next_number h.board) (asked i) (f i))))
    (all_collected rank ns h.board got balance))

balance : (links : List Link) (calls : List Call)
    → Balance (hub_after links calls).board (length (got_after links calls))
balance links = call_by_call (λ calls. Balance (hub_after links calls).board (length (got_after links calls)))
    (record { bodies = tt; even = refl }) more
  where
    more : (calls : List Call) (c : Call) → Balance (hub_after links calls).board (length (got_after links calls))
        → Balance (hub_after links (calls ++ c ∷ [])).board (length (got_after links (calls ++ c ∷ [])))
    more calls c before =
        let h = hub_after links calls in
        let after = called h c.0 c.1 _ _ (length (got_after links calls)) before (comes h c.0 c.1) in
        let list : got_after links (calls ++ c ∷ [])
        ≡ got_after links calls ++ got_by (number_after links calls) c.1 (reply_of links calls c.0 c.1) =
        each_more (λ before c. got_by (number_after links before) c.1 (reply_of links before c.0 c.1)) calls c in
        let longer : length (got_after links (calls ++ c ∷ []))
        ≡ length (got_after links calls) + length (got_by (number_after links calls) c.1 (reply_of links calls c.0 c.1)) =
        ap length list
        ∙ length-append (got_after links calls)
        (got_by (number_after links calls) c.1 (reply_of links calls c.0 c.1)) in
        subst (λ (k : HubView). Balance k.board (length (got_after links (calls ++ c ∷ [])))) (sym (hub_more links calls c))
        (subst (λ n. Balance ((outcome h c.0 c.1).1).board n) (sym longer)
        (subst (λ n. Balance ((outcome h c.0 c.1).1).board
        (length (got_after links calls) + length (got_by n c.1 (reply_of links calls c.0 c.1)))) (number_is links calls)
        after))

-- ---- the law

-- what a send is told, where there is room or not
told : (room : Bool) (held got sends number : ℕ) (done : Bool) (posted kept : HubView) → nat_lt held 65536 ≡ room
    → held + got ≡ sends
    → (let o : Reply × HubView = cond room (reply.Posted number done, posted) (reply.Code Full, kept) in
    (o.0 ≡ reply.Code Full) ↔ (65536 + got ≤ sends))
told true held got sends number done posted kept e even = (
  λ no. absurd (cc),
  λ many. (let few = ltb-true held 65536 e in absurd (omega (arith, few, even, many))),
)
told false held got sends number done posted kept e even = (
  λ full. (let many = ltb-false held 65536 e in omega (arith, even, many)),
  λ many. refl,
)

pub full_law : FullLaw
full_law links calls rank sync comm dest tag bytes =
    let h = hub_after links calls in
    let s = sending rank sync comm dest tag bytes in
    told (nat_lt (held_count h.board.bodies) 65536) (held_count h.board.bodies) (length (got_after links calls))
    (sends_among (posts_after links calls)) (next_number h.board) (is_done h.board s)
    (with_board h (send_posted h.board s bytes)) h refl
    ((balance links calls).even ∙ ap sends_among (lines_posts links calls))
