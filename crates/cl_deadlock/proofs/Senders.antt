-- Who could bring something, and the ranks of a list.
use Rattle.std.specs.Prelude.{ℕ, ◌≡◌, ◌<◌, ◌+◌, ◌==◌, ◌&&◌, ◌||◌, not, Bool, true, false, cond, List, [], ◌∷◌, length}
use Rattle.std.specs.Prelude.{get_or, Option, Some, None, nat_lt}
use Rattle.std.specs.List.{list_all, list_any, position_or_len}
use Rattle.std.specs.Option.{is_some}
use Rattle.std.proofs.Common.{refl, sym, ap, subst, ◌∙◌, arith, rules}
use Rattle.std.proofs.lemmas.Bool.{and_from, and_parts, eq-eqb, eqb-true, lt-ltb, or_left, or_right}
use Rattle.std.proofs.lemmas.List.Folds.{list_all_at}
use Rattle.std.proofs.lemmas.List.Sums.{passes_at_first}
use Rattle.std.proofs.lemmas.Option.{same_Some}
use Rattle.mp_match.specs.declared.posts.Line.{Line}
use Rattle.mp_match.specs.declared.posts.Post.{Post}
use Rattle.mp_match.specs.Board.{line_of}
use Rattle.mp_match.specs.Live.{post_in}
use Rattle.mp_match.specs.Pairs.{admits}
use Rattle.mp_hub.specs.Hub.{HubView, is_ready}
use Rattle.mp_hub.specs.Live.{IsReadyToAll}
use Rattle.mp_wait_laws.specs.Waits.{OnlyOf, could_pair}
use Rattle.cl_calls.specs.Site.{position_of}
use Rattle.cl_deadlock_laws.specs.Stuck.{is_among}

-- each passes where all do
all_at : (p : ℕ → Bool) (xs : List ℕ) (i : ℕ) → list_all p xs ≡ true → i < length xs → p (get_or xs i 0) ≡ true
all_at p xs i all inside = by (p (get_or xs i 0)) refl
  where
    by : (b : Bool) → p (get_or xs i 0) ≡ b → b ≡ true
    by true e = refl
    by false e = (let no : true ≡ false = sym all ∙ list_all_at p xs i 0 inside e in absurd (cc))

-- one who has a place has it among the members
inside_of : (n m : ℕ) → is_some (cond (nat_lt n m) (Some n) None) ≡ true → n < m
inside_of n m its = search (rules, its)

admitted : (a b : Bool) → (not a || b) ≡ true → a ≡ true → b ≡ true
admitted true b its e = its
admitted false b its e = absurd (cc)

-- where each member that is admitted is one of these, none but these could send
pub senders_only : (among ms : List ℕ) (source : Option ℕ)
    → list_all (λ k. not (admits source k) || is_among among k) ms ≡ true
    → OnlyOf (is_among among) (λ k. admits source k && is_some (position_of k ms))
senders_only among ms source all k could =
    let parts = and_parts (admits source k) (is_some (position_of k ms)) could in
    let i = position_or_len (λ x. x == k) ms in
    let inside : i < length ms = inside_of i (length ms) parts.1 in
    let here : get_or ms i 0 ≡ k = eqb-true (get_or ms i 0) k (passes_at_first (λ x. x == k) ms 0 inside) in
    let its = all_at (λ n. not (admits source n) || is_among among n) ms i all inside in
    admitted (admits source k) (is_among among k)
    (subst (λ n. (not (admits source n) || is_among among n) ≡ true) here its) parts.0

-- who is among some has a place there
first_within : (p : ℕ → Bool) (xs : List ℕ) → list_any p xs ≡ true → position_or_len p xs < length xs
first_within p [] any = absurd (cc)
first_within p (x ∷ xs) any = by (p x) any (first_within p xs)
  where
    by : (b : Bool) → (b || list_any p xs) ≡ true → (list_any p xs ≡ true → position_or_len p xs < length xs)
        → cond (not b) (1 + position_or_len p xs) 0 < length (x ∷ xs)
    by true its less = omega arith
    by false its less = (let low = less its in omega (arith, low))

placed : (k : ℕ) (ms : List ℕ) → list_any (λ x. x == k) ms ≡ true → is_some (position_of k ms) ≡ true
placed k ms here =
    let n = position_or_len (λ x. x == k) ms in
    let low : nat_lt n (length ms) ≡ true = lt-ltb n (length ms) (first_within (λ x. x == k) ms here) in
    ap (λ b. is_some (cond b (Some n) None)) low

all_pass : (p : ℕ → Bool) (xs : List ℕ) → ((k : ℕ) → list_any (λ x. x == k) xs ≡ true → p k ≡ true)
    → list_all p xs ≡ true
all_pass p [] each = refl
all_pass p (x ∷ xs) each =
    and_from (p x) (list_all p xs) (each x (or_left (x == x) (list_any (λ y. y == x) xs) (eq-eqb x x refl)))
    (all_pass p xs (λ k here. each k (or_right (x == k) (list_any (λ y. y == k) xs) here)))

-- where none but these could send, each member that is admitted is one of these
pub senders_all : (among ms : List ℕ) (source : Option ℕ)
    → OnlyOf (is_among among) (λ k. admits source k && is_some (position_of k ms))
    → list_all (λ k. not (admits source k) || is_among among k) ms ≡ true
senders_all among ms source only =
    all_pass (λ k. not (admits source k) || is_among among k) ms (λ k here. by k (placed k ms here) (admits source k)
    refl)
  where
    by : (k : ℕ) → is_some (position_of k ms) ≡ true → (a : Bool) → admits source k ≡ a
        → (not a || is_among among k) ≡ true
    by k place true e = only k (and_from (admits source k) (is_some (position_of k ms)) e place)
    by k place false e = refl

-- a post without a partner
abbrev pub alone : Post → Option Line
alone p = Some (record { post = p; partner = None })

-- who could make the other side of a post could make that of its line
pub same_pairs : (member : ℕ → ℕ → Bool) (o : Option Line) (p : Post) → post_in o ≡ Some p
    → could_pair member o ≡ could_pair member (alone p)
same_pairs member None p e = absurd (cc)
same_pairs member (Some line) p e =
    (let same : line.post ≡ p = same_Some line.post p e in ap (λ q. could_pair member (alone q)) same)

-- for a post that isn't ready, and isn't live either, nobody waits
pub none_left : (among : ℕ → Bool) (member : ℕ → ℕ → Bool) (h : HubView) (rank number : ℕ) → IsReadyToAll h number
    → is_ready h rank number ≡ false → OnlyOf among (could_pair member (line_of h.board number))
none_left among member h rank number ready not_ready = by (line_of h.board number) refl
  where
    by : (o : Option Line) → line_of h.board number ≡ o → OnlyOf among (could_pair member o)
    by None e = λ k could. absurd (cc)
    by (Some line) e = (let no : true ≡ false = sym (ready line rank e) ∙ not_ready in absurd (cc))
