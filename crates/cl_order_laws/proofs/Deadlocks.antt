-- Alike clusters are ends alike, and tell the same.
use Rattle.std.proofs.Common.{◌≡◌, ℕ, inl, inr, refl, sym, ap, ◌∙◌, subst}
use Rattle.rv_hart.specs.State.{State}
use Rattle.rv_hart.specs.declared.state.Mode.{Mode}
use Rattle.rv_hart.specs.declared.state.Mode.TheVariants.{Running, Waiting, Ended, Trapped}
use Rattle.rv_hart.specs.declared.state.Wait.TheVariants.{Post, Again}
use Rattle.mp_alike_laws.specs.Renaming.{Renaming, number_by}
use Rattle.cl_state.specs.declared.asking.Ask.{Ask}
use Rattle.cl_state.specs.declared.asking.Doing.{Doing}
use Rattle.cl_state.specs.declared.asking.Doing.TheVariants.{Step, Refused, Go, Poll, Stopped}
use Rattle.cl_state.specs.Asked.{asked, doing, part_of}
use Rattle.cl_state.specs.Rank.{Rank}
use Rattle.cl_state_laws.specs.Vain.{IsPatient, IsStopped, IsWaiting, mode_of, waits_on}
use Rattle.cl_names_laws.specs.Named.{ask_by, hart_by, mode_by}
use Rattle.cl_names_laws.proofs.Asks.{doing_by, doing_named, part_named}
use Rattle.cl_machine.specs.Boxes.{box_number}
use Rattle.cl_machine.specs.Cluster.{Cluster}
use Rattle.cl_order_laws.specs.Alike.{AlikeClusters, AlikeRanks}
use Rattle.cl_order_laws.specs.Closed.{IsEnd, IsInVain, Plans}
use Rattle.cl_order_laws.specs.Laws.{EndsLaw, IsSameMode, NoDeadlockLaw, TellsAlike}
use Rattle.cl_order_laws.proofs.Ahead.{mode_alike, stopped_back, stopped_on}
use Rattle.cl_order_laws.proofs.Boxes.{empty_before, empty_too}
use Rattle.cl_order_laws.proofs.Ends.{every_end_law}
use Rattle.cl_order_laws.proofs.GoAlike.{same_reply}
use Rattle.cl_order_laws.proofs.Likeness.{each_from}
use Rattle.cl_order_laws.proofs.Ranks.{asked_alike}

module _ (names : Renaming) (a b : Rank) (alike : AlikeRanks names a b) where
  same_mode : (m n : Mode) → n ≡ mode_by names m → IsSameMode m n
  same_mode Running n e = e
  same_mode (Waiting (Post post)) n e = (_, e)
  same_mode (Waiting Again) n e = e
  same_mode (Ended code) n e = e
  same_mode (Trapped cause pc) n e = e

  hart_alike : (hart : ℕ) → (part_of b hart).hart ≡ hart_by names (part_of a hart).hart
  hart_alike hart =
      ap (λ (x : Rank). (part_of x hart).hart) alike.1 ∙ ap (λ p. p.hart) (part_named names (number_by names) a hart)

  tells : TellsAlike a b
  tells = record {
    out = ap (λ (x : Rank). x.out) alike.1;
    memory = ap (λ (x : Rank). x.memory) alike.1;
    modes = λ hart. same_mode (mode_of a hart) (mode_of b hart) (mode_alike names a b alike hart);
    pcs = λ hart. ap (λ (s : State). s.pc) (hart_alike hart);
    regs = λ hart. ap (λ (s : State). s.regs) (hart_alike hart);
  }

  waits_same : (d : Doing) → waits_on (doing_by names d) ≡ waits_on d
  waits_same Step = refl
  waits_same (Refused c) = refl
  waits_same (Go c) = refl
  waits_same (Poll c n) = refl
  waits_same Stopped = refl

  pub waiting_on : (m : Mode) → IsWaiting m → IsWaiting (mode_by names m)
  waiting_on Running is = is
  waiting_on (Waiting w) is = tt
  waiting_on (Ended code) is = is
  waiting_on (Trapped cause pc) is = is

  doing_alike : (hart : ℕ) → doing b.site (part_of b hart) ≡ doing_by names (doing a.site (part_of a hart))
  doing_alike hart =
      ap (λ (x : Rank). doing x.site (part_of x hart)) alike.1
      ∙ ap (doing a.site) (part_named names (number_by names) a hart) ∙ doing_named names (number_by names) a.site (part_of a hart)

  pub patient_on : (hart : ℕ) → IsPatient a hart → IsPatient b hart
  patient_on hart p = record {
    waits = subst IsWaiting (sym (mode_alike names a b alike hart)) (waiting_on (mode_of a hart) p.waits);
    on = ap waits_on (doing_alike hart) ∙ waits_same (doing a.site (part_of a hart)) ∙ p.on;
  }

module _ (names : Renaming) (a b : Cluster) (alike : AlikeClusters names a b) where
  in_vain_on : (r : ℕ) (q : Ask) → IsInVain a r q → IsInVain b r (ask_by names q)
  in_vain_on r (Ask.Hub request) is =
      same_reply a.journal r request b.journal _ names alike.hubs refl ∙ is
  in_vain_on r (Ask.Look link part) is = λ box here.
      let v = each_from alike.boxes (box_number link part) box here in
      empty_too v.0 box v.2 (is v.0 v.1)
  in_vain_on r (Ask.Freed link part) is = λ box here empty.
      let v = each_from alike.boxes (box_number link part) box here in
      is v.0 v.1 (empty_before v.0 box v.2 empty)
  in_vain_on r Ask.Held is = tt
  in_vain_on r Ask.Plain is = is
  in_vain_on r Ask.Local is = is
  in_vain_on r Ask.Idle is = is
  in_vain_on r (Ask.Ready link part bytes) is = is

  pub end_on : (plans : Plans) → IsEnd plans a → IsEnd plans b
  end_on plans end r n rank here =
      let v = each_from alike.ranks r rank here in
      elim (end r n v.0 v.1) [
        | inl stopped ↦
            inl (subst IsStopped (sym (mode_alike names v.0 rank v.2 (plans r n)))
            (stopped_on names v.0 rank v.2 (mode_of v.0 (plans r n)) stopped))
        | inr waits ↦ inr (
          patient_on names v.0 rank v.2 (plans r n) waits.0,
          subst (IsInVain b r) (sym (asked_alike names v.0 rank v.2 (plans r n)))
              (in_vain_on r (asked v.0 (plans r n)) waits.1),
        )
      ]

pub ends_law : EndsLaw
ends_law = record {
  ends = λ plans a b alike end. end_on alike.0 a b alike.1 plans end;
  tells = λ a b r rank alike here.
      let v = ((alike.1).ranks).each r rank here in (v.0, v.1, tells alike.0 rank v.0 v.2);
}

pub no_deadlock_law : NoDeadlockLaw
no_deadlock_law plans nodes start first closed none steps end run follow is r n rank here =
    let found = every_end_law plans nodes start first closed steps end run follow is in
    let alike = found.3.1 in
    let v = (alike.ranks).each r rank here in
    let ended = none found.0 found.1 found.2 (end_on found.3.0 end (found.1).cluster alike plans is) in
    stopped_back found.3.0 rank v.0 v.2 (mode_of rank (plans r n))
    (subst IsStopped (mode_alike found.3.0 rank v.0 v.2 (plans r n)) (ended r n v.0 v.1))
