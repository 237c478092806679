-- What a WAITALL gets, with and without synchronous sends that are complete.
use Rattle.std.proofs.Common.{◌≡◌, ◌∙◌, ℕ, suc, ◌⊎◌, inl, inr, refl, sym, ap, Bool, true, false, List, [], ◌∷◌, length, Option, Some, None}
use Rattle.std.specs.Prelude.{◌&&◌, ◌||◌, cond}
use Rattle.std.specs.List.{cons_option, list_all}
use Rattle.std.specs.Option.{is_some}
use Rattle.mp_types.specs.declared.codes.Code.TheVariants as code
use Rattle.mp_types.specs.declared.messages.Message.{Message}
use Rattle.mp_types.specs.declared.replies.Reply.{Reply}
use Rattle.mp_types.specs.declared.replies.Reply.TheVariants as reply
use Rattle.mp_match.specs.Board.{Board, collect, is_send_of, line_of, partner_of}
use Rattle.mp_hub.specs.Hub.{HubView, all_got, all_outcome, are_distinct, is_complete, is_known, is_ready, may_collect, one_got, with_board}
use Rattle.mp_hub.proofs.BoardKept.{collect_lines}
use Rattle.cl_calls.specs.declared.sites.Site.{Site}
use Rattle.cl_state.specs.declared.pending.Pending.{Pending}
use Rattle.cl_state.specs.declared.pending.Pending.TheVariants as pending
use Rattle.cl_state.specs.Several.{Given, dealt, fits_one, given, given_one, post_of, posts_pending}
use Rattle.cl_way_laws.specs.Met.{is_met}
use Rattle.cl_way_laws.proofs.Posting.{met_complete, met_sends}

-- the same needs, but of sends that are complete
abbrev pub IsLess : (ℕ → Bool) → List Pending → List Pending → Type 0
IsLess d [] [] = Unit {0}
IsLess d (p ∷ ps) (q ∷ qs) =
    ((q ≡ p) ⊎ ((n : ℕ) × (d n ≡ true) × (p ≡ pending.Word n) × (q ≡ pending.Nothing))) × IsLess d ps qs
IsLess d _ _ = ⊥

-- where nothing is asked for none of those is there
pub same_none : (d : ℕ → Bool) (ps qs : List Pending) → IsLess d ps qs → posts_pending ps ≡ [] → qs ≡ ps
same_none d [] [] less none = refl
same_none d [] (q ∷ qs) less none = absurd less
same_none d (p ∷ ps) [] less none = absurd less
same_none d (p ∷ ps) (q ∷ qs) less none = elim less.0 [
  | inl same ↦
      let rest = same_none d ps qs less.1 (later (post_of p) (posts_pending ps) none) in
      (λ k. same k ∷ rest k)
  | inr m ↦
      (let e = ap (λ z. cons_option (post_of z) (posts_pending ps)) (sym m.2) ∙ none in absurd (cc))
]
  where
    later : (o : Option ℕ) (ns : List ℕ) → cons_option o ns ≡ [] → ns ≡ []
    later None ns e = e
    later (Some n) ns e = absurd (cc)

-- a test that holds of those holds of all or of none
module _ (d f : ℕ → Bool) (holds : (n : ℕ) → d n ≡ true → f n ≡ true) where
  with_one : (o : Option ℕ) (ns ms : List ℕ) → list_all f ns ≡ list_all f ms
      → list_all f (cons_option o ns) ≡ list_all f (cons_option o ms)
  with_one None ns ms e = e
  with_one (Some n) ns ms e = ap (λ b. f n && b) e

  pub all_same : (ps qs : List Pending) → IsLess d ps qs
      → list_all f (posts_pending ps) ≡ list_all f (posts_pending qs)
  all_same [] [] less = refl
  all_same [] (q ∷ qs) less = absurd less
  all_same (p ∷ ps) [] less = absurd less
  all_same (p ∷ ps) (q ∷ qs) less = elim less.0 [
    | inl same ↦
        with_one (post_of p) (posts_pending ps) (posts_pending qs) (all_same ps qs less.1)
        ∙ ap (λ z. list_all f (cons_option (post_of z) (posts_pending qs))) (sym same)
    | inr m ↦
        ap (λ z. list_all f (cons_option (post_of z) (posts_pending ps))) m.2
        ∙ ap (λ b. b && list_all f (posts_pending ps)) (holds m.0 m.1)
        ∙ all_same ps qs less.1
        ∙ ap (λ z. list_all f (cons_option (post_of z) (posts_pending qs))) (sym m.3)
  ]

-- as many as were asked for
pub many_got : (r : ℕ) (ns : List ℕ) (b : Board) → length (all_got r b ns).0 ≡ length ns
many_got r [] b = refl
many_got r (n ∷ ns) b = ap suc (many_got r ns (one_got r b n).1)

module _ (h : HubView) (r : ℕ) (site : Site) where
  abbrev d : ℕ → Bool
  d = is_met h.board.lines r

  -- ---- what is got

  -- the board behind it, what each request is given, and whether all fits
  abbrev pub sum : List Pending → List (Option Message) × Board → Board × List Given × Bool
  sum ps g = (g.1, given site ps g.0, list_all (λ x. fits_one site x.0 x.1) (dealt ps g.0))

  abbrev onto : Pending → Option Message → Board × List Given × Bool → Board × List Given × Bool
  onto p m s = (s.0, given_one site p m ∷ s.1, fits_one site p m && s.2)

  one_lines : (b : Board) (n : ℕ) → (one_got r b n).1.lines ≡ b.lines
  one_lines b n = go (is_send_of r (line_of b n))
    where
      go : (c : Bool) → (let x : Option Message × Board = cond c (None, b) (collect b n) in x.1.lines) ≡ b.lines
      go true = refl
      go false = collect_lines b n

  one_none : (b : Board) (n : ℕ) → b.lines ≡ h.board.lines → d n ≡ true → one_got r b n ≡ (None, b)
  one_none b n lines is =
      ap (λ c. (let x : Option Message × Board = cond c (None, b) (collect b n) in x))
      (met_sends b r n (ap (λ ls. is_met ls r n) lines ∙ is))

  step : (z : Pending) (ps qs : List Pending) (b : Board) → b.lines ≡ h.board.lines
      → ((b : Board) → b.lines ≡ h.board.lines
      → sum ps (all_got r b (posts_pending ps)) ≡ sum qs (all_got r b (posts_pending qs)))
      → sum (z ∷ ps) (all_got r b (posts_pending (z ∷ ps))) ≡ sum (z ∷ qs) (all_got r b (posts_pending (z ∷ qs)))
  step pending.Nothing ps qs b lines rest = ap (onto pending.Nothing None) (rest b lines)
  step pending.FromNull ps qs b lines rest = ap (onto pending.FromNull None) (rest b lines)
  step (pending.Message n buffer capacity) ps qs b lines rest =
      ap (onto (pending.Message n buffer capacity) (one_got r b n).0)
      (rest (one_got r b n).1 (one_lines b n ∙ lines))
  step (pending.Word n) ps qs b lines rest =
      ap (onto (pending.Word n) (one_got r b n).0) (rest (one_got r b n).1 (one_lines b n ∙ lines))

  pub got_same : (ps qs : List Pending) → IsLess d ps qs → (b : Board) → b.lines ≡ h.board.lines
      → sum ps (all_got r b (posts_pending ps)) ≡ sum qs (all_got r b (posts_pending qs))
  got_same [] [] less b lines = refl
  got_same [] (q ∷ qs) less b lines = absurd less
  got_same (p ∷ ps) [] less b lines = absurd less
  got_same (p ∷ ps) (q ∷ qs) less b lines = elim less.0 [
    | inl same ↦
        step p ps qs b lines (λ b lines. got_same ps qs less.1 b lines)
        ∙ ap (λ z. sum (z ∷ qs) (all_got r b (posts_pending (z ∷ qs)))) (sym same)
    | inr m ↦
        ap (λ z. sum (z ∷ ps) (all_got r b (posts_pending (z ∷ ps)))) m.2
        ∙ ap (λ (x : Option Message × Board). onto (pending.Word m.0) x.0
        (sum ps (all_got r x.1 (posts_pending ps)))) (one_none b m.0 lines m.1)
        ∙ ap (onto pending.Nothing None) (got_same ps qs less.1 b lines)
        ∙ ap (λ z. sum (z ∷ qs) (all_got r b (posts_pending (z ∷ qs)))) (sym m.3)
  ]

  -- ---- what is answered

  or_true : (a b : Bool) → b ≡ true → (a || b) ≡ true
  or_true true b e = refl
  or_true false b e = e

  known : (n : ℕ) → d n ≡ true → is_known h r n ≡ true
  known n is = or_true (may_collect h r n) (is_send_of r (line_of h.board n)) (met_sends h.board r n is)

  ready : (n : ℕ) → d n ≡ true → is_ready h r n ≡ true
  ready n is =
      ap (λ b. cond b (is_complete h n) (is_some (partner_of h.board n))) (met_sends h.board r n is) ∙ met_complete h r n is

  abbrev pub refusal : Reply × HubView
  refusal = (reply.Code code.BadRequest, h)

  abbrev pub nothing_yet : Reply × HubView
  nothing_yet = (reply.NotYet, h)

  abbrev pub all_of : List Pending → Reply × HubView
  all_of ps =
      let g = all_got r h.board (posts_pending ps) in (reply.AllGot g.0, with_board h g.1)

  -- both are refused, or wait, or get all
  pub data GetsAs (ps qs : List Pending) : Type 0 where
    is_refused : all_outcome h r (posts_pending ps) ≡ refusal → all_outcome h r (posts_pending qs) ≡ refusal → GetsAs ps qs
    has_to_wait : all_outcome h r (posts_pending ps) ≡ nothing_yet → all_outcome h r (posts_pending qs) ≡ nothing_yet
        → GetsAs ps qs
    gets_all : all_outcome h r (posts_pending ps) ≡ all_of ps → all_outcome h r (posts_pending qs) ≡ all_of qs
        → GetsAs ps qs

  answers : (zs : List Pending) → are_distinct (posts_pending zs) ≡ true → (k e : Bool)
      → list_all (λ n. is_known h r n) (posts_pending zs) ≡ k → list_all (λ n. is_ready h r n) (posts_pending zs) ≡ e
      → all_outcome h r (posts_pending zs) ≡ cond k (cond e (all_of zs) nothing_yet) refusal
  answers zs distinct k e one two =
      ap (λ b. cond (b && list_all (λ n. is_known h r n) (posts_pending zs))
      (cond (list_all (λ n. is_ready h r n) (posts_pending zs)) (all_of zs) nothing_yet) refusal) distinct
      ∙ ap (λ b. cond b (cond (list_all (λ n. is_ready h r n) (posts_pending zs)) (all_of zs) nothing_yet) refusal) one
      ∙ ap (λ b. cond k (cond b (all_of zs) nothing_yet) refusal) two

  pub gets_as : (ps qs : List Pending) → IsLess d ps qs → are_distinct (posts_pending ps) ≡ true
      → are_distinct (posts_pending qs) ≡ true
      → GetsAs ps qs
  gets_as ps qs less one two =
      go (list_all (λ n. is_known h r n) (posts_pending qs)) (list_all (λ n. is_ready h r n) (posts_pending qs)) refl refl
    where
      known_same : list_all (λ n. is_known h r n) (posts_pending ps) ≡ list_all (λ n. is_known h r n) (posts_pending qs)
      known_same = all_same d (λ n. is_known h r n) known ps qs less

      ready_same : list_all (λ n. is_ready h r n) (posts_pending ps) ≡ list_all (λ n. is_ready h r n) (posts_pending qs)
      ready_same = all_same d (λ n. is_ready h r n) ready ps qs less

      go : (k e : Bool) → list_all (λ n. is_known h r n) (posts_pending qs) ≡ k
          → list_all (λ n. is_ready h r n) (posts_pending qs) ≡ e → GetsAs ps qs
      go true true a b =
          gets_all (answers ps one true true (known_same ∙ a) (ready_same ∙ b)) (answers qs two true true a b)
      go true false a b =
          has_to_wait (answers ps one true false (known_same ∙ a) (ready_same ∙ b)) (answers qs two true false a b)
      go false true a b =
          is_refused (answers ps one false true (known_same ∙ a) (ready_same ∙ b)) (answers qs two false true a b)
      go false false a b =
          is_refused (answers ps one false false (known_same ∙ a) (ready_same ∙ b)) (answers qs two false false a b)
