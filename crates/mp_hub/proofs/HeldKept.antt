-- A message is held from its send until it is got, and no message is got twice.
use Rattle.std.proofs.Common.{◌≡◌, ◌<◌, ℕ, zero, suc, ◌⊎◌, inl, inr, List, [], ◌∷◌, ◌++◌, length, Bool, true, false, cond, Option, Some, None, refl, sym, ap, ◌∙◌, subst, arith, append_assoc, append-nil, length-append}
use Rattle.std.specs.List.{slice_get, slice_set, Contains}
use Rattle.std.proofs.lemmas.Bool.{cases_eq}
use Rattle.std.proofs.lemmas.Option.{same_Some}
use Rattle.std.proofs.lemmas.List.Elements.{Contains-append_left, Contains-append_right, Contains-push, Contains-push_cases}
use Rattle.rv_image_types.specs.declared.images.Link.{Link}
use Rattle.mp_types.specs.declared.messages.Message.{Message}
use Rattle.mp_types.specs.declared.replies.Reply.{Reply}
use Rattle.mp_types.specs.declared.replies.Reply.TheVariants as reply
use Rattle.mp_types.specs.declared.requests.Request.{Request}
use Rattle.mp_types.specs.declared.requests.Request.TheVariants.{Recv, Collect, Claimed, All}
use Rattle.mp_match.specs.declared.posts.Sent.{Sent}
use Rattle.mp_match.specs.declared.posts.Post.{Post}
use Rattle.mp_match.specs.declared.posts.Post.TheVariants as post
use Rattle.mp_match.specs.declared.posts.Line.{Line}
use Rattle.mp_match.specs.Pairs.{add, partner_at}
use Rattle.mp_match.specs.PostPairs.{posts_of}
use Rattle.mp_match.specs.Board.{Board, no_posts, board_with, send_posted, is_send_of, line_of, envelope_at, envelope_in, message_in, message_at, without, collect, collect_from}
use Rattle.mp_match.proofs.Places.{get_last, get_front, get_snoc, get_within}
use Rattle.mp_match.proofs.Lines.{add_length}
use Rattle.mp_match.proofs.OrderKept.{posts_add, stays_add}
use Rattle.mp_match.proofs.Matched.{line_at}
use Rattle.mp_probe.specs.Claims.{next_number}
use Rattle.mp_hub.specs.Hub.{HubView, Call, outcome, message_or, all_got, one_got, sending, hub_after, reply_of}
use Rattle.mp_hub.specs.Laws.{collecting}
use Rattle.mp_hub.specs.Histories.{got_of, got_by, got_after, number_after}
use Rattle.mp_hub.specs.Losses.{NoneTwice}
use Rattle.mp_hub.proofs.SentKept.{set_held, set_length, message_parts}
use Rattle.mp_hub.proofs.Outcomes.{is_plain, post_envelope, IsReady, Comes, is_nothing, is_full, is_sent, is_posted, is_got, is_gathered, comes}
use Rattle.mp_hub.proofs.Histories.{each_more, call_by_call, hub_more, number_is}

-- ---- lists of numbers

once_more : (ns : List ℕ) (n : ℕ) → NoneTwice ns → (Contains ns n → ⊥) → NoneTwice (ns ++ n ∷ [])
once_more [] n h new = (λ c. new c, tt)
once_more (x ∷ ns) n h new = (
  λ c. elim (Contains-push_cases ns n x c) [
    | inl old ↦ h.0 old
    | inr same ↦
        new (subst (λ y. Contains (x ∷ ns) y) (sym same) (Contains-append_left (x ∷ []) ns x (Contains-push [] x)))
  ],
  once_more ns n h.1 (λ c. new (Contains-append_right (x ∷ []) ns n c)),
)

-- ---- what is held and what was got

pub record Stock (b : Board) (got : List ℕ) : Type 0 where
  pub even : length b.bodies ≡ length b.lines
  pub kept : (j : ℕ) (s : Sent) → slice_get (posts_of b.lines) j ≡ Some (post.Send s)
      → ((x : List ℕ) × (slice_get b.bodies j ≡ Some (Some x)))
      ⊎ ((i : ℕ) × (partner_at b.lines i ≡ Some j) × Contains got (suc i))
  pub gone : (n : ℕ) → Contains got n
      → (i : ℕ) × (n ≡ suc i) × (j : ℕ) × (partner_at b.lines i ≡ Some j) × (j < length b.bodies)
      × ((x : List ℕ) → slice_get b.bodies j ≡ Some (Some x) → ⊥)
  pub once : NoneTwice got

pub set_other : (bodies : List (Option (List ℕ))) (s i : ℕ) (x : List ℕ) → (s ≡ i → ⊥)
    → slice_get bodies i ≡ Some (Some x) → slice_get (slice_set bodies s None) i ≡ Some (Some x)
set_other [] s i x other h = h
set_other (b ∷ bodies) zero zero x other h = absurd (other refl)
set_other (b ∷ bodies) zero (suc i) x other h = h
set_other (b ∷ bodies) (suc s) zero x other h = h
set_other (b ∷ bodies) (suc s) (suc i) x other h = set_other bodies s i x (λ e. other (ap suc e)) h

set_same : (bodies : List (Option (List ℕ))) (s : ℕ) (x : List ℕ)
    → slice_get (slice_set bodies s None) s ≡ Some (Some x) → ⊥
set_same [] s x h = cc
set_same (b ∷ bodies) zero x h = cc
set_same (b ∷ bodies) (suc s) x h = set_same bodies s x h

-- a message that is held wasn't got
pub not_got : (b : Board) (got : List ℕ) (i j : ℕ) (x : List ℕ) → Stock b got → partner_at b.lines i ≡ Some j
    → slice_get b.bodies j ≡ Some (Some x) → Contains got (suc i) → ⊥
not_got b got i j x stock pair held c =
    let g = stock.gone (suc i) c in
    let same : i ≡ g.0 = (cc) in
    let place : j ≡ g.2 =
    same_Some j g.2 (sym pair ∙ ap (λ k. partner_at b.lines k) same ∙ g.3) in
    g.5 x (ap (λ k. slice_get b.bodies k) (sym place) ∙ held)

-- the message of a post is got
stock_got : (b : Board) (got : List ℕ) (i j : ℕ) (x : List ℕ) → Stock b got → partner_at b.lines i ≡ Some j
    → slice_get b.bodies j ≡ Some (Some x) → Stock (without b j) (got ++ suc i ∷ [])
stock_got b got i j x stock pair held = record {
  even = set_length b.bodies j ∙ stock.even;
  kept = kept;
  gone = λ n c. elim (Contains-push_cases got (suc i) n c) [
    | inl old ↦ (let g = stock.gone n old in (
      g.0,
      g.1,
      g.2,
      g.3,
      subst (λ k. g.2 < k) (sym (set_length b.bodies j)) g.4,
      λ y e. g.5 y (set_held b.bodies j g.2 y e),
    ))
    | inr new ↦ (
      i,
      sym new,
      j,
      pair,
      subst (λ k. j < k) (sym (set_length b.bodies j)) (get_within b.bodies j (Some x) held),
      λ y e. set_same b.bodies j y e,
    )
  ];
  once = once_more got (suc i) stock.once (not_got b got i j x stock pair held);
}
  where
    kept : (k : ℕ) (s : Sent) → slice_get (posts_of b.lines) k ≡ Some (post.Send s)
        → ((y : List ℕ) × (slice_get (slice_set b.bodies j None) k ≡ Some (Some y)))
        ⊎ ((l : ℕ) × (partner_at b.lines l ≡ Some k) × Contains (got ++ suc i ∷ []) (suc l))
    kept k s sent = elim (cases_eq j k) [
      | inl same ↦ inr (i, pair ∙ ap (λ l. Some l) same, Contains-push got (suc i))
      | inr other ↦ elim (stock.kept k s sent) [
        | inl h ↦ inl (h.0, set_other b.bodies j k h.0 other h.1)
        | inr h ↦ inr (h.0, h.1, Contains-append_left got (suc i ∷ []) (suc h.0) h.2)
      ]
    ]

-- a send is held where its message is
pub held_message : (b : Board) (j : ℕ) (s : Sent) (x : List ℕ) → slice_get (posts_of b.lines) j ≡ Some (post.Send s)
    → slice_get b.bodies j ≡ Some (Some x)
    → message_at b j ≡ Some (record { envelope = s.envelope; bytes = x })
held_message b j s x sent held =
    let l = line_at b.lines j (post.Send s) sent in
    let envelope : envelope_at b (Some j) ≡ Some s.envelope =
    ap envelope_in l.1 ∙ ap (λ (p : Post). envelope_in (Some (record { post = p; partner = (l.0).partner }))) l.2 in
    (λ i. message_in (envelope i) (held i))

-- where a post has no message to give nothing changes
stock_empty : (b : Board) (got : List ℕ) (j : ℕ) → Stock b got → message_at b j ≡ None → Stock (without b j) got
stock_empty b got j stock none = record {
  even = set_length b.bodies j ∙ stock.even;
  kept = kept;
  gone = λ n c. (let g = stock.gone n c in (
    g.0,
    g.1,
    g.2,
    g.3,
    subst (λ k. g.2 < k) (sym (set_length b.bodies j)) g.4,
    λ y e. g.5 y (set_held b.bodies j g.2 y e),
  ));
  once = stock.once;
}
  where
    kept : (k : ℕ) (s : Sent) → slice_get (posts_of b.lines) k ≡ Some (post.Send s)
        → ((y : List ℕ) × (slice_get (slice_set b.bodies j None) k ≡ Some (Some y)))
        ⊎ ((l : ℕ) × (partner_at b.lines l ≡ Some k) × Contains got (suc l))
    kept k s sent = elim (stock.kept k s sent) [
      | inr h ↦ inr h
      | inl h ↦ elim (cases_eq j k) [
        | inl same ↦ (let made : Message = record { envelope = s.envelope; bytes = h.0 } in
            let no : None ≡ Some made = sym none ∙ ap (message_at b) same ∙ held_message b k s h.0 sent h.1 in
            absurd (cc))
        | inr other ↦ inl (h.0, set_other b.bodies j k h.0 other h.1)
      ]
    ]

-- one more post; a send's message is held
stock_posted : (b : Board) (got : List ℕ) (p : Post) (body : Option (List ℕ)) → Stock b got
    → ((s : Sent) → p ≡ post.Send s → (x : List ℕ) × (body ≡ Some x)) → Stock (board_with b p body) got
stock_posted b got p body stock has = record {
  even = (let l = add_length b.lines p in let h = stock.even in
      omega (arith, l, h, length-append b.bodies (body ∷ [])));
  kept = kept;
  gone = λ n c. (let g = stock.gone n c in (
    g.0,
    g.1,
    g.2,
    stays_add b.lines p g.0 g.2 g.3,
    (let w = g.4 in omega (arith, w, length-append b.bodies (body ∷ []))),
    λ y e. elim (get_snoc b.bodies body g.2 (Some y) e) [
      | inl new ↦ (let w = g.4 in let u = new.0 in absurd (omega (arith, w, u)))
      | inr old ↦ g.5 y old
    ],
  ));
  once = stock.once;
}
  where
    posts_length : (ms : List Line) → length (posts_of ms) ≡ length ms
    posts_length [] = refl
    posts_length (m ∷ ms) = ap suc (posts_length ms)

    kept : (k : ℕ) (s : Sent) → slice_get (posts_of (add b.lines p)) k ≡ Some (post.Send s)
        → ((y : List ℕ) × (slice_get (b.bodies ++ body ∷ []) k ≡ Some (Some y)))
        ⊎ ((l : ℕ) × (partner_at (add b.lines p) l ≡ Some k) × Contains got (suc l))
    kept k s sent =
        elim (get_snoc (posts_of b.lines) p k (post.Send s)
        (ap (λ ps. slice_get ps k) (sym (posts_add b.lines p)) ∙ sent)) [
          | inl new ↦ (let x = has s (sym new.1) in
              let end : length b.bodies ≡ k = stock.even ∙ sym (posts_length b.lines) ∙ sym new.0 in
              inl (
                x.0,
                subst (λ l. slice_get (b.bodies ++ body ∷ []) l ≡ Some (Some x.0)) end
                    (get_last b.bodies body ∙ ap (λ y. Some y) x.1),
              ))
          | inr old ↦ elim (stock.kept k s old) [
            | inl h ↦ inl (h.0, get_front b.bodies (body ∷ []) k (Some h.0) h.1)
            | inr h ↦ inr (h.0, stays_add b.lines p h.0 k h.1, h.2)
          ]
        ]

-- ---- posts that are collected

abbrev one_number : ℕ → Option Message → List ℕ
one_number n None = []
one_number n (Some m) = n ∷ []

-- nothing more was got
same_got : (b : Board) (got more : List ℕ) → Stock b got → more ≡ [] → Stock b (got ++ more)
same_got b got more stock none = subst (λ g. Stock b g) (sym (ap (λ ns. got ++ ns) none ∙ append-nil got)) stock

stock_collect : (b : Board) (got : List ℕ) (n : ℕ) → Stock b got
    → Stock (collect b n).1 (got ++ one_number n (collect b n).0)
stock_collect b got zero stock = same_got b got [] stock refl
stock_collect b got (suc i) stock = go (partner_at b.lines i) refl
  where
    held : (j : ℕ) → partner_at b.lines i ≡ Some j → (m : Option Message) → message_at b j ≡ m
        → Stock (without b j) (got ++ one_number (suc i) m)
    held j e None none = same_got (without b j) got [] (stock_empty b got j stock none) refl
    held j e (Some m) is =
        stock_got b got i j m.bytes stock e
        (message_parts (envelope_at b (Some j)) (slice_get b.bodies j) m is).1

    go : (o : Option ℕ) → partner_at b.lines i ≡ o
        → Stock (collect_from b o).1 (got ++ one_number (suc i) (collect_from b o).0)
    go None e = same_got b got [] stock refl
    go (Some j) e = held j e (message_at b j) refl

stock_one : (rank : ℕ) (b : Board) (got : List ℕ) (n : ℕ) → Stock b got
    → Stock (one_got rank b n).1 (got ++ one_number n (one_got rank b n).0)
stock_one rank b got n stock = go (is_send_of rank (line_of b n))
  where
    go : (c : Bool) → (let g : Option Message × Board = cond c (None, b) (collect b n) in
        Stock g.1 (got ++ one_number n g.0))
    go true = same_got b got [] stock refl
    go false = stock_collect b got n stock

got_first : (n : ℕ) (ns : List ℕ) (o : Option Message) (gots : List (Option Message))
    → one_number n o ++ got_of ns gots ≡ got_of (n ∷ ns) (o ∷ gots)
got_first n ns None gots = refl
got_first n ns (Some m) gots = refl

stock_all : (rank : ℕ) (ns : List ℕ) (b : Board) (got : List ℕ) → Stock b got
    → Stock (all_got rank b ns).1 (got ++ got_of ns (all_got rank b ns).0)
stock_all rank [] b got stock = same_got b got [] stock refl
stock_all rank (n ∷ ns) b got stock =
    let one = one_got rank b n in
    let more = all_got rank one.1 ns in
    subst (λ g. Stock more.1 g)
    (append_assoc got (one_number n one.0) (got_of ns more.0) ∙ ap (λ g. got ++ g) (got_first n ns one.0 more.0))
    (stock_all rank ns one.1 (got ++ one_number n one.0) (stock_one rank b got n stock))

-- ---- one call

-- a reply without a message brings none
nothing_got : (next : ℕ) (q : Request) (r : Reply) → ((m : Message) → r ≡ reply.Got m → ⊥)
    → ((gots : List (Option Message)) → r ≡ reply.AllGot gots → ⊥) → got_by next q r ≡ []
nothing_got next (Recv now comm source tag) (reply.Got m) one several = absurd (one m refl)
nothing_got next (Collect n) (reply.Got m) one several = absurd (one m refl)
nothing_got next (Claimed now n) (reply.Got m) one several = absurd (one m refl)
nothing_got next (All ns) (reply.AllGot gots) one several = absurd (several gots refl)
nothing_got next q r one several = refl

plain_none : (next : ℕ) (q : Request) (r : Reply) → is_plain r ≡ true → got_by next q r ≡ []
plain_none next q r p =
    nothing_got next q r (λ m e. (let no : false ≡ true = sym (ap is_plain e) ∙ p in cc))
    (λ gots e. (let no : false ≡ true = sym (ap is_plain e) ∙ p in cc))

-- a message is that of the post that the request collects
got_number : (h : HubView) (q : Request) (m : Message) (n : ℕ) → collecting h q ≡ Some n
    → got_by (next_number h.board) q (reply.Got m) ≡ n ∷ []
got_number h (Recv now comm source tag) m n e = ap (λ x. x ∷ []) (same_Some (next_number h.board) n e)
got_number h (Collect k) m n e = ap (λ x. x ∷ []) (same_Some k n e)
got_number h (Claimed now k) m n e = ap (λ x. x ∷ []) (same_Some k n e)
got_number h q m n e = absurd (cc)

stock_ready : (b c : Board) (got : List ℕ) → IsReady b c → Stock b got → Stock c got
stock_ready b c got (inl same) stock = subst (λ (d : Board). Stock d got) (sym same) stock
stock_ready b c got (inr r) stock =
    subst (λ (d : Board). Stock d got) (sym r.1)
    (stock_posted b got (post.Receive r.0) None stock (λ s e. absurd (cc)))

moved : (b c : Board) (got : List ℕ) → c ≡ b → Stock b got → Stock c got
moved b c got e stock = subst (λ (d : Board). Stock d got) (sym e) stock

no_send : (p : Post) (s : Sent) → post_envelope p ≡ None → p ≡ post.Send s → ⊥
no_send p s none e = (let no : None ≡ Some s.envelope = sym none ∙ ap post_envelope e in cc)

stock_call : (h : HubView) (rank : ℕ) (q : Request) (r : Reply) (b : Board) (got : List ℕ) → Stock h.board got
    → Comes h rank q r b → Stock b (got ++ got_by (next_number h.board) q r)
stock_call h rank q r b got stock (is_nothing p e) =
    moved h.board b _ e (same_got h.board got _ stock (plain_none (next_number h.board) q r p))
stock_call h rank q r b got stock (is_full f there e) =
    moved h.board b _ e (same_got h.board got _ stock (nothing_got (next_number h.board) q r
    (λ m g. (let no = sym f ∙ g in cc)) (λ gots g. (let no = sym f ∙ g in cc))))
stock_call h rank q r b got stock (is_sent sync comm dest tag bytes done asked f e) =
    let s = sending rank sync comm dest tag bytes in
    moved (send_posted h.board s bytes) b _ e (same_got (send_posted h.board s bytes) got _
    (stock_posted h.board got (post.Send s) (Some bytes) stock (λ t is. (bytes, refl)))
    (nothing_got (next_number h.board) q r
    (λ m g. (let no = sym f ∙ g in cc)) (λ gots g. (let no = sym f ∙ g in cc))))
stock_call h rank q r b got stock (is_posted p none f e) =
    moved (board_with h.board p None) b _ e (same_got (board_with h.board p None) got _
    (stock_posted h.board got p None stock (λ s is. absurd (no_send p s none is)))
    (plain_none (next_number h.board) q r f))
stock_call h rank q r b got stock (is_got c n other ready asked one p f e) =
    moved (collect c n).1 b _ e
    (subst (λ g. Stock (collect c n).1 (got ++ g)) (sym (brought (collect c n).0 f))
    (stock_collect c got n (stock_ready h.board c got ready stock)))
  where
    brought : (o : Option Message) → r ≡ message_or other o → got_by (next_number h.board) q r ≡ one_number n o
    brought None g = plain_none (next_number h.board) q r (ap is_plain g ∙ p)
    brought (Some m) g = ap (got_by (next_number h.board) q) g ∙ got_number h q m n asked
stock_call h rank q r b got stock (is_gathered ns asked f e) =
    moved (all_got rank h.board ns).1 b _ e
    (subst (λ g. Stock (all_got rank h.board ns).1 (got ++ g))
    (sym (λ i. got_by (next_number h.board) (asked i) (f i)))
    (stock_all rank ns h.board got stock))

pub stock : (links : List Link) (calls : List Call) → Stock (hub_after links calls).board (got_after links calls)
stock links = call_by_call (λ calls. Stock (hub_after links calls).board (got_after links calls)) none more
  where
    none : Stock no_posts []
    none = record {
      even = refl;
      kept = λ j s h. absurd (cc);
      gone = λ n c. (let lt = c.1 in absurd (omega (arith, lt)));
      once = tt;
    }

    more : (calls : List Call) (c : Call) → Stock (hub_after links calls).board (got_after links calls)
        → Stock (hub_after links (calls ++ c ∷ [])).board (got_after links (calls ++ c ∷ []))
    more calls c before =
        let h = hub_after links calls in
        let after = stock_call h c.0 c.1 _ _ (got_after links calls) before (comes h c.0 c.1) in
        let number = number_is links calls in
        let list : got_after links (calls ++ c ∷ [])
        ≡ got_after links calls ++ got_by (number_after links calls) c.1 (reply_of links calls c.0 c.1) =
        each_more (λ before c. got_by (number_after links before) c.1 (reply_of links before c.0 c.1)) calls c in
        subst (λ (k : HubView). Stock k.board (got_after links (calls ++ c ∷ []))) (sym (hub_more links calls c))
        (subst (λ g. Stock ((outcome h c.0 c.1).1).board g) (sym list)
        (subst (λ n. Stock ((outcome h c.0 c.1).1).board
        (got_after links calls ++ got_by n c.1 (reply_of links calls c.0 c.1))) number after))
