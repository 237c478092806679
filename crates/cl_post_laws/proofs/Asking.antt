-- A rank asks about posts that it awaits alone: a number that it asks about would change with the names.
use Rattle.std.proofs.Common.{◌≡◌, ◌∙◌, ℕ, zero, suc, ◌+◌, ◌<◌, inl, inr, refl, sym, ap, arith, Bool, true, false}
use Rattle.std.specs.Prelude.{◌==◌, cond}
use Rattle.std.proofs.lemmas.Bool.{cases_eq, eq-eqb, ne_eqb}
use Rattle.std.proofs.lemmas.Option.{slice_get-map}
use Rattle.mp_types.specs.declared.requests.Request.{Request}
use Rattle.mp_types.specs.declared.requests.Request.TheVariants as request
use Rattle.cl_state.specs.declared.asking.Ask.TheVariants as ask
use Rattle.cl_state.specs.Asked.{asked}
use Rattle.cl_state.specs.Rank.{Rank}
use Rattle.mp_alike_laws.specs.Renaming.{Renaming, number_by, request_by}
use Rattle.cl_names_laws.proofs.Asks.{asks as asks_named}
use Rattle.cl_post_laws.specs.Laws.{AsksOnly, IsNamed}
use Rattle.cl_post_laws.specs.Names.{AwaitsOnly, Keeps, as_before}

-- ---- two places exchanged

abbrev to_other : ℕ → ℕ → ℕ → ℕ
to_other a b place = cond (place == a) b (cond (place == b) a place)

module _ (a b : ℕ) where
  at_first : to_other a b a ≡ b
  at_first = ap (λ x. cond x b (cond (a == b) a a)) (eq-eqb a a refl)

  elsewhere : (place : ℕ) → (place ≡ a → ⊥) → (place ≡ b → ⊥) → to_other a b place ≡ place
  elsewhere place first second =
      ap (λ x. cond x b (cond (place == b) a place)) (ne_eqb place a first)
      ∙ ap (λ x. cond x a place) (ne_eqb place b second)

  at_second : to_other a b b ≡ a
  at_second = elim (cases_eq b a) [
    | inl same ↦ ap (to_other a b) same ∙ at_first ∙ same
    | inr other ↦
        ap (λ x. cond x b (cond (b == b) a b)) (ne_eqb b a other) ∙ ap (λ x. cond x a b) (eq-eqb b b refl)
  ]

  twice : (place : ℕ) → to_other a b (to_other a b place) ≡ place
  twice place = elim (cases_eq place a) [
    | inl first ↦ ap (λ x. to_other a b (to_other a b x)) first ∙ ap (to_other a b) at_first ∙ at_second ∙ sym first
    | inr other ↦ elim (cases_eq place b) [
      | inl second ↦ ap (λ x. to_other a b (to_other a b x)) second ∙ ap (to_other a b) at_second ∙ at_first ∙ sym second
      | inr neither ↦ ap (to_other a b) (elsewhere place other neither) ∙ elsewhere place other neither
    ]
  ]

  abbrev exchanged : Renaming
  exchanged = record { to = to_other a b; back = to_other a b; there = twice; again = twice }

-- ---- what is the same by all names that keep a set of posts

module _ (named : ℕ → Bool) (most : ℕ) (bound : (place : ℕ) → named place ≡ true → place < most) where
  -- a number that all of these names keep is of the set, since else one of them exchanges it with one behind the set
  kept : (post : ℕ) → ((names : Renaming) → Keeps named names → number_by names post ≡ post) → IsNamed named post
  kept zero same = tt
  kept (suc place) same = go (named place) refl
    where
      far : ℕ
      far = suc (place + most)

      stays : named place ≡ false → Keeps named (exchanged place far)
      stays no' other is =
          elsewhere place far other
          (λ same. cc (is, no', same))
          (λ same. omega (arith, bound other is, same))

      go : (b : Bool) → named place ≡ b → named place ≡ true
      go true is = is
      go false no' =
          let moved = same (exchanged place far) (stays no') in
          absurd (omega (arith, moved, at_first place far))

  asks_kept : (q : Request) → ((names : Renaming) → Keeps named names → request_by names q ≡ q) → AsksOnly named q
  asks_kept (request.Collect post) same = kept post (λ names keeps. cc (same names keeps))
  asks_kept (request.Finished post) same = kept post (λ names keeps. cc (same names keeps))
  asks_kept (request.All posts) same = λ i post here.
      kept post (λ names keeps. cc (same names keeps, here, slice_get-map (number_by names) posts i))
  asks_kept _ same = tt

  pub asks : (rank : Rank) (hart : ℕ) (q : Request) → AwaitsOnly named rank → asked rank hart ≡ ask.Hub q → AsksOnly named q
  asks rank hart q old is =
      asks_kept q (λ names keeps. cc (is, old names keeps, asks_named names (as_before names) rank hart))
