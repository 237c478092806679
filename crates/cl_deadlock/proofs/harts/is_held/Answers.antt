use Rattle.std.proofs.Common.{◌≡◌, true, refl, sym, subst, ◌∙◌, inl, inr}
use Rattle.std.proofs.lemmas.Bool.{both_ways, iff_false}
use Rattle.cl_state_laws.specs.Vain.{IsStopped, IsWaiting, waits_on}
use Rattle.cl_state_laws.proofs.Vain.{tells_stopped}
use Rattle.cl_deadlock_laws.specs.Stuck.{AsksInVain}
use Rattle.cl_deadlock.proofs.harts.is_held.Goals as goal

pub returns-then-is_stopped-clause-held : goal.returns-then-is_stopped-clause-held
returns-then-is_stopped-clause-held c = λ image cluster stands. (
  λ its. inl (subst IsStopped c.mode-now.ensures ((tells_stopped _ _ c.is_stopped.ensures).0 c.if-is_stopped.true)),
  λ held. refl,
)

pub returns-then-not-is_waiting-clause-held : goal.returns-then-not-is_waiting-clause-held
returns-then-not-is_waiting-clause-held c = λ image cluster stands. (
  λ no. absurd (cc),
  λ either. absurd (elim either [
    | inl stopped ↦
        iff_false (tells_stopped _ _ c.is_stopped.ensures) c.if-is_stopped.false (subst IsStopped (sym c.mode-now.ensures) stopped)
    | inr held ↦
        iff_false c.is_waiting.ensures c.if-not-is_waiting.true
        (subst IsWaiting (sym c.mode-now.ensures) held.patient.waits)
  ]),
)

pub returns-then-not-waits_on-clause-held : goal.returns-then-not-waits_on-clause-held
returns-then-not-waits_on-clause-held c = λ image cluster stands. (
  λ no. absurd (cc),
  λ either. absurd (elim either [
    | inl stopped ↦
        iff_false (tells_stopped _ _ c.is_stopped.ensures) c.if-is_stopped.false (subst IsStopped (sym c.mode-now.ensures) stopped)
    | inr held ↦
        both_ways c.waits_on.result c.if-not-waits_on.true
        (c.waits_on.ensures
        ∙ subst (λ d. waits_on d ≡ true) (sym c.next-doing.ensures.spelled) held.patient.on)
  ]),
)

pub returns-clause-held : goal.returns-clause-held
returns-clause-held c = λ image cluster stands.
    let told = c.asks_in_vain.ensures image cluster stands in (
      λ its. inr (record {
        patient = record {
          waits = subst IsWaiting c.mode-now.ensures (c.is_waiting.ensures.0 c.if-not-is_waiting.false);
          on = subst (λ d. waits_on d ≡ true) c.next-doing.ensures.spelled
              (sym c.waits_on.ensures ∙ c.if-not-waits_on.false);
        };
        in_vain = subst (AsksInVain c.args.among.now cluster c.args.rank c.args.own.now.site) c.in_ok-ask.ensures
            (told.0 its);
      }),
      λ either. elim either [
        | inl stopped ↦ absurd
            (iff_false (tells_stopped _ _ c.is_stopped.ensures) c.if-is_stopped.false (subst IsStopped (sym c.mode-now.ensures) stopped))
        | inr held ↦
            told.1 (subst (AsksInVain c.args.among.now cluster c.args.rank c.args.own.now.site)
            (sym c.in_ok-ask.ensures) held.in_vain)
      ],
    )
