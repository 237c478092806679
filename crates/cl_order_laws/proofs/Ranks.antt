-- Alike ranks ask alike, and go on alike.
use Rattle.std.proofs.Common.{◌≡◌, ℕ, refl, ap, ◌∙◌, length}
use Rattle.std.proofs.lemmas.List.{length-map}
use Rattle.cl_state.specs.declared.asking.Answer.{Answer}
use Rattle.cl_state.specs.Asked.{asked}
use Rattle.cl_state.specs.Rank.{Rank}
use Rattle.cl_state.specs.Told.{told}
use Rattle.cl_state_laws.specs.VainLaws.{at_clock}
use Rattle.mp_alike_laws.specs.Renaming.{Renaming}
use Rattle.cl_names_laws.specs.Named.{IsSameNamed, ask_by, hart_by, rank_by}
use Rattle.cl_names_laws.proofs.Told.{names_law}
use Rattle.cl_order_laws.specs.Alike.{AlikeRanks}

-- the clock is no part of what is asked, and the stamp takes its place
pub asked_timeless : (rank : Rank) (clock hart : ℕ) → asked (at_clock rank clock) hart ≡ asked rank hart
unfolding asked
asked_timeless rank clock hart = refl

pub told_timeless : (rank : Rank) (clock hart : ℕ) (answer : Answer) (stamp : ℕ)
    → told (at_clock rank clock) hart answer stamp ≡ told rank hart answer stamp
unfolding told
told_timeless rank clock hart answer stamp = refl

pub told_stamped : (rank : Rank) (hart : ℕ) (answer : Answer) (stamp other : ℕ)
    → told rank hart answer other ≡ at_clock (told rank hart answer stamp) other
unfolding told
told_stamped rank hart answer stamp other = refl

module _ (names : Renaming) (a b : Rank) (alike : AlikeRanks names a b) where
  pub asked_alike : (hart : ℕ) → asked b hart ≡ ask_by names (asked a hart)
  asked_alike hart =
      ap (λ x. asked x hart) alike.1 ∙ asked_timeless (rank_by names a) alike.0 hart ∙ names_law.asks names a hart

  pub told_alike : (hart : ℕ) (answer : Answer) (stamp other : ℕ) → IsSameNamed names answer
      → AlikeRanks names (told a hart answer stamp) (told b hart answer other)
  told_alike hart answer stamp other same = (
    other,
    ap (λ x. told x hart answer other) alike.1
        ∙ told_timeless (rank_by names a) alike.0 hart answer other
        ∙ names_law.tells names a hart answer other same
        ∙ ap (rank_by names) (told_stamped a hart answer stamp other),
  )

  pub harts_alike : length b.harts ≡ length a.harts
  harts_alike = ap (λ (x : Rank). length x.harts) alike.1 ∙ length-map a.harts (hart_by names)
