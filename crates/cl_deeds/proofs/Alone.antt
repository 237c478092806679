-- What holds of ranks alone.
use Rattle.std.proofs.Common.{◌≡◌, ℕ, ◌<◌, [], ◌∷◌, sym, ap, ◌∙◌, subst, arith}
use Rattle.cl_state.specs.Rank.{Rank}
use Rattle.cl_state.proofs.Moves.{told_at}
use Rattle.cl_deeds.specs.Deeds.{Act, Deed, answer_of, IsStamp, RankMoves}
use Rattle.cl_deeds.specs.Alone.{IsAlone}
use Rattle.cl_deeds.specs.Laws.{RisesFrom, RisingLaw, OneRankLaw}

-- an event's stamp is above its rank's clock
pub stamp_above : (clock stamp : ℕ) (a : Act) → IsStamp clock a stamp → clock < stamp
stamp_above clock stamp Act.Plain h = omega arith
stamp_above clock stamp Act.Local h = omega arith
stamp_above clock stamp (Act.Hub at request reply) h = h.1
stamp_above clock stamp (Act.Ready link part bytes) h = omega arith
stamp_above clock stamp (Act.Take link part gate bytes) h = omega arith
stamp_above clock stamp (Act.Miss link part) h = omega arith
stamp_above clock stamp (Act.Freed link part gate) h = omega arith
stamp_above clock stamp Act.Held h = omega arith
stamp_above clock stamp Act.Idle h = omega arith

-- a moved rank's clock is the stamp
pub clock_moved : (old new : Rank) (d : Deed) → RankMoves old d new → new.clock ≡ d.stamp
clock_moved old new d h = ap (λ (r : Rank). r.clock) h.4 ∙ (told_at old d.hart (answer_of d.act) d.stamp).clock

pub rising : RisingLaw
rising old new [] h = tt
rising old new (d ∷ ds) h = (
  stamp_above old.clock d.stamp d.act h.1.3,
  subst (λ clock. RisesFrom clock ds) (clock_moved old h.0 d h.1)
      (rising h.0 new ds h.2),
)

pub one_rank : OneRankLaw
one_rank old a b [] p q = p ∙ sym q
one_rank old a b (d ∷ ds) p q =
    one_rank p.0 a b ds p.2 (subst (λ mid. IsAlone mid ds b) (q.1.4 ∙ sym p.1.4) q.2)
