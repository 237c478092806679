-- Of alike hubs the same is told of messages that weren't received.
use Rattle.std.proofs.Common.{◌≡◌, ◌∙◌, ℕ, ◌+◌, refl, sym, ap, Bool, true, false, cond, List, [], ◌∷◌, ◌++◌, length, Option, Some, None}
use Rattle.std.specs.Prelude.{◌&&◌, ◌==◌, if◌then◌else◌}
use Rattle.std.specs.List.{count_by, filter, flat_map, range_with_len}
use Rattle.std.proofs.lemmas.List.Recursion.{is_count_by}
use Rattle.std.proofs.lemmas.List.Sums.{length-filter}
use Rattle.mp_match.specs.declared.posts.Line.{Line}
use Rattle.mp_match.specs.declared.posts.Post.{Post}
use Rattle.mp_match.specs.declared.posts.Post.TheVariants.{Send, Receive, Claim}
use Rattle.mp_match.specs.declared.posts.Sent.{Sent}
use Rattle.mp_match.specs.Free.{free_in}
use Rattle.cl_rest_laws.specs.Unpaired.{is_send}
use Rattle.cl_rest_laws.specs.UnpairedLaw.{is_unpaired, unpaired_count}
use Rattle.rvmc_inspect.specs.Unreceived.{count_of_sends, is_of, messages_text, number_line, sender_lines, sent_in, sent_to, tag_count, unreceived, unreceived_head, unreceived_text}

-- how many there are of which it holds, one after another
abbrev many : {A : Type 0} → (A → Bool) → List A → ℕ
many p [] = 0
many p (x ∷ xs) = cond (p x) (1 + many p xs) (many p xs)

many_is : {A : Type 0} (p : A → Bool) (xs : List A) → many p xs ≡ count_by p xs
many_is p = is_count_by (many p) p refl (λ x xs. refl)

-- as many are unreceived as lines are sends without a partner
many_unreceived : (p : Sent → Bool) (lines : List Line) → many p (unreceived lines) ≡ many (is_unpaired p) lines
many_unreceived p [] = refl
many_unreceived p (line ∷ lines) = go (free_in (Some line)) (many_unreceived p lines)
  where
    go : (o : Option Post) → many p (unreceived lines) ≡ many (is_unpaired p) lines
        → many p (sent_in o ++ unreceived lines)
        ≡ cond (is_send p o) (1 + many (is_unpaired p) lines) (many (is_unpaired p) lines)
    go None rest = rest
    go (Some (Send s)) rest = ap (λ n. cond (p s) (1 + n) n) rest
    go (Some (Receive a)) rest = rest
    go (Some (Claim a)) rest = rest

many_filtered : (p q : Sent → Bool) (sends : List Sent) → many p (filter q sends) ≡ many (λ s. q s && p s) sends
many_filtered p q [] = refl
many_filtered p q (s ∷ sends) = go (q s) (many_filtered p q sends)
  where
    go : (b : Bool) → many p (filter q sends) ≡ many (λ s. q s && p s) sends
        → many p (cond b (s ∷ filter q sends) (filter q sends))
        ≡ cond (b && p s) (1 + many (λ s. q s && p s) sends) (many (λ s. q s && p s) sends)
    go true rest = ap (λ n. cond (p s) (1 + n) n) rest
    go false rest = rest

counted : (p : Sent → Bool) (lines : List Line) → count_by p (unreceived lines) ≡ unpaired_count p lines
counted p lines = sym (many_is p (unreceived lines)) ∙ many_unreceived p lines ∙ many_is (is_unpaired p) lines

filtered : (p q : Sent → Bool) (sends : List Sent) → count_by p (filter q sends) ≡ count_by (λ s. q s && p s) sends
filtered p q sends =
    sym (many_is p (filter q sends)) ∙ many_filtered p q sends ∙ many_is (λ (s : Sent). q s && p s) sends

module _ (one other : List Line) (same : (p : Sent → Bool) → unpaired_count p other ≡ unpaired_count p one) where
  counts_same : (p : Sent → Bool) → count_by p (unreceived other) ≡ count_by p (unreceived one)
  counts_same p = counted p other ∙ same p ∙ sym (counted p one)

  abbrev to : ℕ → List Line → List Sent
  to rank lines = sent_to rank (unreceived lines)

  -- to a rank, from a rank with a tag
  each_same : (rank source tag : ℕ) → count_of_sends source tag (to rank other) ≡ count_of_sends source tag (to rank one)
  each_same rank source tag =
      filtered (is_of source tag) (λ (s : Sent). s.dest == rank) (unreceived other)
      ∙ counts_same (λ s. (s.dest == rank) && is_of source tag s)
      ∙ sym (filtered (is_of source tag) (λ (s : Sent). s.dest == rank) (unreceived one))

  many_same : (rank : ℕ) → length (to rank other) ≡ length (to rank one)
  many_same rank =
      length-filter (λ (s : Sent). s.dest == rank) (unreceived other)
      ∙ counts_same (λ (s : Sent). s.dest == rank)
      ∙ sym (length-filter (λ (s : Sent). s.dest == rank) (unreceived one))

  senders_same : (tags rank source : ℕ) → sender_lines tags (to rank other) source ≡ sender_lines tags (to rank one) source
  senders_same tags rank source =
      ap (λ (f : ℕ → List ℕ). flat_map f (range_with_len 0 tags))
      (λ i tag. number_line source tag (each_same rank source tag i))

  messages_same : (tags senders rank : ℕ)
      → messages_text tags senders rank (to rank other) ≡ messages_text tags senders rank (to rank one)
  unfolding messages_text
  messages_same tags senders rank =
      ap (λ n. if n == 0 then [] else
      (unreceived_head rank n ++ flat_map (sender_lines tags (to rank other)) (range_with_len 0 senders))) (many_same rank)
      ∙ ap (λ (f : ℕ → List ℕ). if length (to rank one) == 0 then [] else
      (unreceived_head rank (length (to rank one)) ++ flat_map f (range_with_len 0 senders)))
      (λ i source. senders_same tags rank source i)

  pub unreceived_same : (ranks : ℕ) → unreceived_text ranks other ≡ unreceived_text ranks one
  unreceived_same ranks =
      ap (λ (f : ℕ → List ℕ). flat_map f (range_with_len 0 ranks)) (λ i rank. messages_same tag_count ranks rank i)
