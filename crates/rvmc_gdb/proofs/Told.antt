-- What a motion's answer tells is determined by where the session stood.
use Rattle.std.specs.Prelude.{ℕ, ◌≡◌, List, length}
use Rattle.std.proofs.Common.{sym, ap, ◌∙◌}
use Rattle.cl_machine.specs.Cluster.{Cluster}
use Rattle.cl_debug.specs.Debugging.{at_place}
use Rattle.rvmc_motions.proofs.Places.{one_place_law}
use Rattle.rvmc_motions.specs.declared.marks.Halt.{Halt}
use Rattle.rvmc_motions.specs.declared.marks.Mover.{Mover}
use Rattle.rvmc_motions.specs.Turns.{IsHistory, backward_stop, forward_stop}
use Rattle.rvmc_gdb.specs.Laws.{OneAnswerLaw}
use Rattle.rvmc_gdb.specs.Moving.{Backwards, Forwards, halt_text, halted}
use Rattle.rvmc_gdb.specs.Serving.{Serving}

-- where a session stands is known by the place and the halt
at_halt : (old new : Serving) (halt : Halt) → new ≡ halted old halt new.debugging
    → new.debugging ≡ at_place old.debugging new.debugging.place
    → new ≡ halted old halt (at_place old.debugging new.debugging.place)
at_halt old new halt stands moved = stands ∙ ap (halted old halt) moved

same_stand : (old one other : Serving) (first second : Halt)
    → (one.debugging.place ≡ other.debugging.place) × (first ≡ second)
    → one ≡ halted old first (at_place old.debugging one.debugging.place)
    → other ≡ halted old second (at_place old.debugging other.debugging.place) → one ≡ other
same_stand old one other first second is a b =
    a ∙ ap (λ n. halted old first (at_place old.debugging n)) is.0
    ∙ ap (λ (halt : Halt). halted old halt (at_place old.debugging other.debugging.place)) is.1 ∙ sym b

same : (old one other : Serving) (first second : Halt) (s t : List ℕ)
    → (one.debugging.place ≡ other.debugging.place) × (first ≡ second)
    → one ≡ halted old first (at_place old.debugging one.debugging.place)
    → other ≡ halted old second (at_place old.debugging other.debugging.place)
    → s ≡ halt_text one first → t ≡ halt_text other second → (one ≡ other) × (s ≡ t)
same old one other first second s t is a b told said =
    let stand = same_stand old one other first second is a b in (
      stand,
      told ∙ ap (λ (halt : Halt). halt_text one halt) is.1 ∙ ap (λ (x : Serving). halt_text x second) stand ∙ sym said,
    )

module _ (old one other : Serving) (mover : Mover) (s t : List ℕ) (history : ℕ → Cluster)
    (of : IsHistory old.debugging.image old.debugging.steps history) where
  pub forwards : Forwards old mover one s → Forwards old mover other t → (one ≡ other) × (s ≡ t)
  forwards a b =
      same old one other a.halt b.halt s t
      (one_place_law.behind (forward_stop mover old.marks old.debugging.steps history) old.debugging.place
      (length old.debugging.steps) one.debugging.place other.debugging.place mover a.halt b.halt
      (a.goes.there history of) (b.goes.there history of))
      (at_halt old one a.halt a.stands a.goes.moved) (at_halt old other b.halt b.stands b.goes.moved) a.told b.told

  pub backwards : Backwards old mover one s → Backwards old mover other t → (one ≡ other) × (s ≡ t)
  backwards a b =
      same old one other a.halt b.halt s t
      (one_place_law.before (backward_stop mover old.marks old.debugging.steps history) old.debugging.place
      one.debugging.place other.debugging.place mover a.halt b.halt (a.goes.there history of) (b.goes.there history of))
      (at_halt old one a.halt a.stands a.goes.moved) (at_halt old other b.halt b.stands b.goes.moved) a.told b.told

pub one_answer_law : OneAnswerLaw
one_answer_law = record { on = forwards; back = backwards }
