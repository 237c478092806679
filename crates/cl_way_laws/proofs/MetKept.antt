-- A rank whose synchronous sends are complete stays the same as a post is made: it names only posts that were made before.
use Rattle.std.proofs.Common.{◌≡◌, ◌∙◌, ℕ, zero, suc, ◌<◌, ◌≤◌, inl, inr, refl, ap, arith, Bool, true, false, List, [], ◌∷◌, length, Option, Some, None}
use Rattle.std.specs.Prelude.{cond, nat_lt}
use Rattle.std.specs.List.{slice_get}
use Rattle.std.specs.Option.{option_map}
use Rattle.std.proofs.lemmas.Bool.{cases_Bool, ltb-true, ltb-false}
use Rattle.std.proofs.lemmas.Option.{slice_get_cases}
use Rattle.mp_alike_laws.specs.Renaming.{Renaming, number_by}
use Rattle.mp_clash_laws.proofs.Swaps.{at_first, below, swap}
use Rattle.mp_match.specs.declared.posts.Line.{Line}
use Rattle.mp_match.specs.declared.posts.Post.{Post}
use Rattle.mp_match.specs.Pairs.{add}
use Rattle.mp_match.proofs.Places.{get_within}
use Rattle.mp_request.specs.declared.entries.OpenRequest.{OpenRequest}
use Rattle.mp_request.specs.declared.entries.Progress.{Progress}
use Rattle.mp_request.specs.declared.entries.Progress.TheVariants.{Finished, Sent, OnPost, InPhase}
use Rattle.mp_request.specs.declared.entries.State.{State}
use Rattle.mp_request.specs.declared.entries.State.TheVariants.{Ordinary, Inactive, Active}
use Rattle.mp_request.specs.declared.entries.Transfer.{Transfer}
use Rattle.mp_request.specs.declared.entries.Transfer.TheVariants as transfer
use Rattle.mp_request.specs.Table.{Table}
use Rattle.cl_names_laws.specs.Named.{open_by, progress_by, state_by, table_by}
use Rattle.cl_post_laws.specs.Laws.{NamesBelow}
use Rattle.cl_state.specs.Rank.{Rank}
use Rattle.cl_way_laws.specs.Met.{is_met, is_met_line, met, met_open, met_progress, met_state, met_table}
use Rattle.cl_way_laws.proofs.MetStays.{met_stays}

-- ---- the first so many posts

abbrev pub Fixes : ℕ → Renaming → Type 0
Fixes many names = (place : ℕ) → place < many → names.to place ≡ place

-- a number that each such renaming keeps is one of theirs
pub numbered : (many n : ℕ) → ((names : Renaming) → Fixes many names → number_by names n ≡ n) → n ≤ many
numbered many zero kept = omega arith
numbered many (suc place) kept = elim (cases_Bool (nat_lt place many)) [
  | inl less ↦ (let inside = ltb-true place many less in omega (arith, inside))
  | inr not_less ↦
      let past : many ≤ place = ltb-false place many not_less in
      let e = kept (swap place) (λ i inside. below place i (omega (arith, inside, past))) in
      let f = at_first place in
      absurd (next_is_not place (same_number place e f))
]
  where
    same_number : (place : ℕ) → number_by (swap place) (suc place) ≡ suc place → (swap place).to place ≡ suc place
        → suc place ≡ place
    same_number place e f = cc

    next_is_not : (place : ℕ) → suc place ≡ place → ⊥
    next_is_not place e = omega (arith, e)

module _ (d e : ℕ → Bool) (many : ℕ) (on : (n : ℕ) → d n ≡ true → e n ≡ true)
    (still : (n : ℕ) → n ≤ many → e n ≡ d n) where
  -- by each renaming that keeps them it stays the same
  abbrev Stays : {A : Type 0} → (Renaming → A → A) → A → Type 0
  Stays by x = (names : Renaming) → Fixes many names → by names x ≡ x

  waits_kept : (n : ℕ) (b : Bool) → d n ≡ b → Stays progress_by (cond b Finished (OnPost n)) → e n ≡ b
  waits_kept n true is stays = on n is
  waits_kept n false is stays =
      still n (numbered many n (λ names fixes. number_is (number_by names n) n (stays names fixes))) ∙ is
    where
      number_is : (a b : ℕ) → OnPost a ≡ OnPost b → a ≡ b
      number_is a b e = cc

  progress_kept : (t : Transfer) (p : Progress) → Stays progress_by (met_progress d t p)
      → met_progress e t p ≡ met_progress d t p
  progress_kept (transfer.Send true buffer count dest tag comm) (OnPost n) stays =
      ap (λ b. cond b Finished (OnPost n)) (waits_kept n (d n) refl stays)
  progress_kept (transfer.Send false buffer count dest tag comm) (OnPost n) stays = refl
  progress_kept (transfer.Send sync buffer count dest tag comm) Finished stays = refl
  progress_kept (transfer.Send sync buffer count dest tag comm) (Sent n) stays = refl
  progress_kept (transfer.Send sync buffer count dest tag comm) InPhase stays = refl
  progress_kept transfer.SendToNull p stays = refl
  progress_kept transfer.ReceiveFromNull p stays = refl
  progress_kept (transfer.Receive buffer capacity source tag comm) p stays = refl
  progress_kept (transfer.ReceiveClaimed buffer capacity) p stays = refl
  progress_kept (transfer.SendPartitions side) p stays = refl
  progress_kept (transfer.ReceivePartitions side) p stays = refl

  state_kept : (t : Transfer) (s : State) → Stays state_by (met_state d t s) → met_state e t s ≡ met_state d t s
  state_kept t (Ordinary p) stays =
      ap (λ x. Ordinary x) (progress_kept t p (λ names fixes. ordinary_is _ _ (stays names fixes)))
    where
      ordinary_is : (a b : Progress) → Ordinary a ≡ Ordinary b → a ≡ b
      ordinary_is a b e = cc
  state_kept t Inactive stays = refl
  state_kept t (Active p) stays =
      ap (λ x. Active x) (progress_kept t p (λ names fixes. active_is _ _ (stays names fixes)))
    where
      active_is : (a b : Progress) → Active a ≡ Active b → a ≡ b
      active_is a b e = cc

  one_kept : (o : Option OpenRequest) → Stays (λ names. option_map (open_by names)) (option_map (met_open d) o)
      → option_map (met_open e) o ≡ option_map (met_open d) o
  one_kept None stays = refl
  one_kept (Some r) stays =
      ap (λ s. Some (let x : OpenRequest = record { transfer = r.transfer; state = s } in x))
      (state_kept r.transfer r.state (λ names fixes. state_is _ _ (stays names fixes)))
    where
      state_is : (a b : OpenRequest) → Some a ≡ Some b → a.state ≡ b.state
      state_is a b e = ap (λ o. elim o [ None ↦ a.state | Some x ↦ x.state ]) e

  pub table_kept : (table : Table) → Stays table_by (met_table d table) → met_table e table ≡ met_table d table
  table_kept [] stays = refl
  table_kept (o ∷ table) stays =
      let one = one_kept o (λ names fixes. heads _ _ _ _ (stays names fixes)) in
      let rest = table_kept table (λ names fixes. tails _ _ _ _ (stays names fixes)) in
      (λ i. one i ∷ rest i)
    where
      heads : (x y : Option OpenRequest) (xs ys : Table) → (x ∷ xs) ≡ (y ∷ ys) → x ≡ y
      heads x y xs ys e = cc

      tails : (x y : Option OpenRequest) (xs ys : Table) → (x ∷ xs) ≡ (y ∷ ys) → xs ≡ ys
      tails x y xs ys e = cc

-- ---- as a post is made

module _ (lines : List Line) (p : Post) where
  more_met : (rank n : ℕ) → is_met lines rank n ≡ true → is_met (add lines p) rank n ≡ true
  more_met rank zero is = absurd (cc)
  more_met rank (suc place) is = go (slice_get lines place) refl
    where
      go : (o : Option Line) → slice_get lines place ≡ o → is_met (add lines p) rank (suc place) ≡ true
      go None e = (let none = ap (is_met_line lines rank place) e in absurd (cc))
      go (Some line) e = met_stays lines p rank place line e ∙ is

  same_met : (rank n : ℕ) → n ≤ length lines → is_met (add lines p) rank n ≡ is_met lines rank n
  same_met rank zero inside = refl
  same_met rank (suc place) inside = elim (slice_get_cases lines place).1 [
    | inl f ↦ met_stays lines p rank place f.0 f.2
    | inr f ↦ (let past = f.0 in absurd (omega (arith, past, inside)))
  ]

  -- who names only posts that were made
  pub met_kept : (rank : Rank) → NamesBelow (length lines) (met lines rank) → met (add lines p) rank ≡ met lines rank
  met_kept rank right =
      let number = rank.site.number in
      ap (λ table. record rank { requests = table })
      (table_kept (is_met lines number) (is_met (add lines p) number) (length lines) (more_met number) (same_met number)
      rank.requests (λ names fixes. ap (λ (x : Rank). x.requests) (right names fixes)))

-- who is met was made
pub met_made : (lines : List Line) (rank n : ℕ) → is_met lines rank n ≡ true → n ≤ length lines
met_made lines rank zero is = absurd (cc)
met_made lines rank (suc place) is = go (slice_get lines place) refl
  where
    go : (o : Option Line) → slice_get lines place ≡ o → suc place ≤ length lines
    go None e = (let none = ap (is_met_line lines rank place) e in absurd (cc))
    go (Some line) e = get_within lines place line e
