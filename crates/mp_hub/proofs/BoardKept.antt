-- A call adds one post at most, and the lines stay the pairs of the posts.
use Rattle.std.proofs.Common.{◌≡◌, ◌≤◌, ℕ, ◌+◌, ◌⊎◌, inl, inr, List, [], ◌∷◌, ◌++◌, length, Bool, true, false, cond, Option, Some, None, refl, sym, ap, ◌∙◌, subst, arith}
use Rattle.rv_image_types.specs.declared.images.Link.{Link}
use Rattle.mp_types.specs.declared.messages.Message.{Message}
use Rattle.mp_types.specs.declared.replies.Reply.{Reply}
use Rattle.mp_types.specs.declared.requests.Request.{Request}
use Rattle.mp_match.specs.declared.posts.Post.{Post}
use Rattle.mp_match.specs.declared.posts.Post.TheVariants as post
use Rattle.mp_match.specs.declared.posts.Line.{Line}
use Rattle.mp_match.specs.Pairs.{add}
use Rattle.mp_match.specs.PostPairs.{pairs, posts_of}
use Rattle.mp_match.specs.Board.{Board, collect, collect_from, partner_of, is_send_of, line_of}
use Rattle.mp_match.proofs.Lines.{add_length}
use Rattle.mp_match.proofs.OrderKept.{posts_add, pairs_more}
use Rattle.mp_hub.specs.Hub.{HubView, Call, outcome, all_got, one_got, hub_on, hub_after, hub_at_start, sending}
use Rattle.mp_hub.specs.Laws.{IsBoardOf}
use Rattle.mp_hub.proofs.Outcomes.{Comes, is_nothing, is_full, is_sent, is_posted, is_got, is_gathered, comes}

abbrev Grows : List Line → List Line → Type 0
Grows old new = (new ≡ old) ⊎ ((p : Post) × (new ≡ add old p))

pub collect_lines : (b : Board) (number : ℕ) → (collect b number).1.lines ≡ b.lines
collect_lines b number = go (partner_of b number)
  where
    go : (o : Option ℕ) → (collect_from b o).1.lines ≡ b.lines
    go None = refl
    go (Some s) = refl

pub one_lines : (rank : ℕ) (b : Board) (n : ℕ) → (one_got rank b n).1.lines ≡ b.lines
one_lines rank b n = go (is_send_of rank (line_of b n))
  where
    go : (s : Bool) → (let g : Option Message × Board = cond s (None, b) (collect b n) in g.1.lines) ≡ b.lines
    go true = refl
    go false = collect_lines b n

pub all_lines : (rank : ℕ) (ns : List ℕ) (b : Board) → (all_got rank b ns).1.lines ≡ b.lines
all_lines rank [] b = refl
all_lines rank (n ∷ ns) b = all_lines rank ns (one_got rank b n).1 ∙ one_lines rank b n

grows : (h : HubView) (rank : ℕ) (q : Request) (r : Reply) (b : Board) → Comes h rank q r b
    → Grows h.board.lines b.lines
grows h rank q r b (is_nothing p e) = inl (ap (λ (c : Board). c.lines) e)
grows h rank q r b (is_full f there e) = inl (ap (λ (c : Board). c.lines) e)
grows h rank q r b (is_sent sync comm dest tag bytes done asked f e) =
    inr (post.Send (sending rank sync comm dest tag bytes), ap (λ (c : Board). c.lines) e)
grows h rank q r b (is_posted p none f e) = inr (p, ap (λ (c : Board). c.lines) e)
grows h rank q r b (is_got c n other ready asked one p f e) =
    let same : b.lines ≡ c.lines = ap (λ (d : Board). d.lines) e ∙ collect_lines c n in elim ready [
      | inl s ↦ inl (same ∙ ap (λ (d : Board). d.lines) s)
      | inr s ↦ inr (post.Receive s.0, same ∙ ap (λ (d : Board). d.lines) s.1)
    ]
grows h rank q r b (is_gathered ns asked f e) = inl (ap (λ (c : Board). c.lines) e ∙ all_lines rank ns h.board)

abbrev Fair : ℕ → List Line → Type 0
Fair n ms = (ms ≡ pairs (posts_of ms)) × (length ms ≤ n)

pub pairs_snoc : (ps : List Post) (p : Post) → pairs (ps ++ p ∷ []) ≡ add (pairs ps) p
pairs_snoc ps p = pairs_more ps (p ∷ []) []

fair_more : (n : ℕ) (old new : List Line) → Grows old new → Fair n old → Fair (n + 1) new
fair_more n old new (inl e) f =
    (subst (λ ms. ms ≡ pairs (posts_of ms)) (sym e) f.0, (let g = ap length e in let l = f.1 in omega (arith, g, l)))
fair_more n old new (inr g) f =
    let p = g.0 in
    let made : add old p ≡ pairs (posts_of (add old p)) =
    ap (λ ms. add ms p) f.0 ∙ sym (pairs_snoc (posts_of old) p) ∙ ap pairs (sym (posts_add old p)) in (
      subst (λ ms. ms ≡ pairs (posts_of ms)) (sym g.1) made,
      (let e = ap length g.1 in let l = add_length old p in let b = f.1 in omega (arith, e, l, b)),
    )

fair_on : (cs : List Call) (h : HubView) (n : ℕ) → Fair n h.board.lines → Fair (n + length cs) (hub_on h cs).board.lines
fair_on [] h n f = (f.0, (let b = f.1 in omega (arith, b)))
fair_on (c ∷ cs) h n f =
    let r = fair_on cs (outcome h c.0 c.1).1 (n + 1)
    (fair_more n h.board.lines _ (grows h c.0 c.1 _ _ (comes h c.0 c.1)) f) in
    (r.0, (let b = r.1 in omega (arith, b)))

pub board_law : (links : List Link) (calls : List Call) → IsBoardOf calls (hub_after links calls).board
board_law links calls =
    let r = fair_on calls (hub_at_start links) 0 (refl, omega arith) in
    record { pairs = r.0; few = (let b = r.1 in omega (arith, b)) }
