-- Where all rest but for who is awake, those that are take a turn in vain, and then nobody goes on.
use Rattle.std.proofs.Common.{◌≡◌, ◌∙◌, ℕ, zero, suc, ◌+◌, ◌<◌, refl, sym, ap, subst, arith, ◌⊎◌, inl, inr, Bool, true, false, List, [], ◌∷◌, ◌++◌, length, Option, Some, None}
use Rattle.std.specs.Prelude.{if◌then◌else◌}
use Rattle.std.specs.List.{slice_get, slice_set}
use Rattle.std.proofs.lemmas.Bool.{cases_eq}
use Rattle.std.proofs.lemmas.List.{get_or-set_same, length-map}
use Rattle.std.proofs.lemmas.Option.{same_Some, slice_get_within}
use Rattle.rv_memory.specs.Access.{word_at}
use Rattle.rv_hart.specs.State.{State as Hart}
use Rattle.rv_hart.specs.declared.state.Mode.{Mode}
use Rattle.rv_hart.specs.declared.state.Mode.TheVariants.{Running, Waiting, Ended, Trapped}
use Rattle.rv_hart.specs.declared.state.Wait.TheVariants.{Post, Again}
use Rattle.mp_types.specs.declared.codes.Code.{Code}
use Rattle.mp_types.specs.declared.replies.Reply.TheVariants as reply
use Rattle.mp_hub.specs.Hub.{outcome}
use Rattle.mp_wait_laws.proofs.Sets.{get-set_other}
use Rattle.mp_alike_laws.specs.Renaming.{request_by}
use Rattle.cl_calls.specs.Calls.{call_named}
use Rattle.cl_calls.specs.Checks.{checks, first_fault}
use Rattle.cl_calls.specs.Needs.{needs_of}
use Rattle.cl_calls.specs.declared.calls.Call.{Call}
use Rattle.cl_calls.specs.declared.calls.Call.TheVariants as call
use Rattle.cl_calls.specs.declared.sites.Site.{Site}
use Rattle.cl_state.specs.declared.asking.Answer.TheVariants as answer
use Rattle.cl_state.specs.declared.asking.Ask.{Ask}
use Rattle.cl_state.specs.declared.asking.Doing.TheVariants.{Step, Go}
use Rattle.cl_state.specs.Asked.{Part, asked, checked, doing, doing_in, go_or_refuse, is_ecall, no_hart, part_of}
use Rattle.cl_state.specs.Rank.{Rank}
use Rattle.cl_state.specs.Told.{told}
use Rattle.cl_state_laws.specs.Awake.{awake}
use Rattle.cl_state_laws.specs.Leaves.{delayed}
use Rattle.cl_state_laws.specs.Vain.{IsStopped, IsWaiting, mode_of, waits_on}
use Rattle.cl_state_laws.specs.Laws.{IsLook, missed}
use Rattle.cl_state_laws.proofs.Delays.{delay_law}
use Rattle.cl_state_laws.proofs.Misses.{missed_in_vain}
use Rattle.cl_names_laws.specs.Named.{ask_by}
use Rattle.cl_trace.specs.declared.events.Kind.{Kind}
use Rattle.cl_machine.specs.declared.steps.Step.{Step as Taken}
use Rattle.cl_machine.specs.Boxes.{box_number}
use Rattle.cl_machine.specs.Cluster.{Cluster, only_told}
use Rattle.cl_order_laws.specs.Alike.{hub_of}
use Rattle.cl_order_laws.specs.Closed.{IsInVain}
use Rattle.cl_order_laws.proofs.Boxes.{empty_before, empty_too}
use Rattle.cl_order_laws.proofs.Each.{was_there}
use Rattle.cl_order_laws.proofs.Likeness.{each_from}
use Rattle.cl_order_laws.proofs.SureAlone.{IsLive, has_hart}
use Rattle.cl_order_laws.proofs.SureHub.{reply_is}
use Rattle.cl_reduction_laws.specs.Below.{AskOfLive, AskWithin, Turn}
use Rattle.cl_reduction_laws.proofs.Below.{same_reply}
use Rattle.cl_schedule_laws.specs.Machines.{GoesOn}
use Rattle.cl_schedule_laws.proofs.Walks.{snoc}
use Rattle.cl_reduction_laws.specs.Clusters.{Search, State, cluster_machine}
use Rattle.cl_reduction_laws.specs.Settled.{AllWithin}
use Rattle.cl_reduction_laws.proofs.AtBoxes.{AtBox, freed, misses, readied, took, waits_in}
use Rattle.cl_reduction_laws.proofs.Clusters.{cluster_machine_law, missed_box, own_or_vain, vain}
use Rattle.cl_reduction_laws.proofs.Meeting.{holds_or_empty}
use Rattle.cl_reduction_laws.proofs.Follows.{asks_live, asks_too, pair_from, waits_too}
use Rattle.cl_reduction_laws.proofs.Good.{Gone, IsOnly, alone, called, gone, good_after, made_within, met}
use Rattle.cl_reduction_laws.proofs.Machine.{IsSame, same_alike, turn_by}
use Rattle.cl_contest_laws.proofs.Ends.{stops_too}
use Rattle.cl_contest_laws.proofs.Rest.{Alike, AllRest, alike_on}

-- ---- modes

abbrev IsQuiet : Mode → Type 0
IsQuiet m = IsStopped m ⊎ IsWaiting m

quiet_or_runs : (m : Mode) → IsQuiet m ⊎ (m ≡ Running)
quiet_or_runs Running = inr refl
quiet_or_runs (Waiting wait) = inl (inr tt)
quiet_or_runs (Ended value) = inl (inl tt)
quiet_or_runs (Trapped cause pc) = inl (inl tt)

-- a hart whose call isn't answered yet waits
sleeps : (site : Site) (p : Part) → waits_on (doing site p) ≡ true → IsWaiting (delayed (doing site p) p.hart).mode
unfolding doing
sleeps site p on = go p.hart.mode refl on
  where
    by_call : (c : Call) → waits_on (Go c) ≡ true → IsWaiting (delayed (Go c) p.hart).mode
    by_call (call.Wait c) on = tt
    by_call (call.Probe c) on = tt
    by_call (call.Mprobe c) on = tt
    by_call (call.Waitall c) on = tt
    by_call _ on = absurd (cc)

    by_check : (o : Option Code) (c : Call) → waits_on (go_or_refuse o c) ≡ true
        → IsWaiting (delayed (go_or_refuse o c) p.hart).mode
    by_check None c on = by_call c on
    by_check (Some code) c on = absurd (cc)

    by_checked : waits_on (checked site p) ≡ true → IsWaiting (delayed (checked site p) p.hart).mode
    by_checked on =
        by_check (first_fault (checks site p.memory p.requests p.phases _ (needs_of (call_named p.hart)))) (call_named p.hart) on

    by_word : (b : Bool) → waits_on (if b then checked site p else Step) ≡ true
        → IsWaiting (delayed (if b then checked site p else Step) p.hart).mode
    by_word true on = by_checked on
    by_word false on = absurd (cc)

    go : (m : Mode) → p.hart.mode ≡ m → waits_on (doing_in m site p) ≡ true → IsWaiting (delayed (doing_in m site p) p.hart).mode
    go Running is on = by_word (is_ecall (word_at p.memory p.hart.pc)) on
    go (Waiting Again) is on = by_checked on
    go (Waiting (Post post)) is on = subst IsWaiting (sym is) tt
    go (Ended value) is on = absurd (cc)
    go (Trapped cause pc) is on = absurd (cc)

-- who waits in vain isn't idle, and can take a turn
vain_live : (c : Cluster) (r : ℕ) (a : Ask) → IsInVain c r a → IsLive a
vain_live c r Ask.Idle none = none
vain_live c r _ none = tt

turn_in_vain : (r hart : ℕ) (c : Cluster) (rank : Rank) → slice_get c.ranks r ≡ Some rank → hart < length rank.harts
    → IsInVain c r (asked rank hart)
    → (new : Cluster) × Turn r hart c new
turn_in_vain r hart c rank there inside none = go (asked rank hart) refl none
  where
    at : Kind → Taken
    at kind = record { rank = r; hart = hart; stamp = rank.clock + 1; kind = kind }

    go : (a : Ask) → asked rank hart ≡ a → IsInVain c r a → (new : Cluster) × Turn r hart c new
    go (Ask.Hub q) is none = turn_by r hart c rank there inside (subst IsOnly (sym is) tt)
    go (Ask.Look link part) is none = (
      only_told c (at Kind.Miss) rank answer.Missed,
      record {
        step = at Kind.Miss;
        rank = refl;
        hart = refl;
        leads = (rank, there, inside, (link, part, inl is, refl, refl));
      },
    )
    go (Ask.Freed link part) is none = (
      only_told c (at Kind.Miss) rank answer.Missed,
      record {
        step = at Kind.Miss;
        rank = refl;
        hart = refl;
        leads = (rank, there, inside, (link, part, inr is, refl, refl));
      },
    )
    go Ask.Held is none = (
      only_told c (at Kind.Held) rank answer.Alone,
      record { step = at Kind.Held; rank = refl; hart = refl; leads = (rank, there, inside, (is, refl, refl)) },
    )
    go Ask.Plain is none = absurd none
    go Ask.Local is none = absurd none
    go Ask.Idle is none = absurd none
    go (Ask.Ready link part bytes) is none = absurd none

-- a look that misses leaves a hart that waits on waiting
missed_waits_on : (rank : Rank) (hart stamp : ℕ) → waits_on (doing rank.site (part_of rank hart)) ≡ true
    → IsLook (asked rank hart) → hart < length rank.harts
    → IsWaiting (mode_of (told rank hart answer.Missed stamp) hart)
missed_waits_on rank hart stamp on look inside =
    let d = doing rank.site (part_of rank hart) in
    let h = missed d (part_of rank hart).hart in
    subst (λ (z : Rank). IsWaiting (mode_of z hart)) (sym (missed_in_vain rank hart stamp look))
    (subst IsWaiting (sym (ap (λ (s : Hart). s.mode) (get_or-set_same rank.harts hart h no_hart inside)))
    (waits_in rank hart on look))

module _ (search : Search) where
  abbrev hart : ℕ → ℕ
  hart = search.harts

  -- it waits on, and what it asks for isn't there
  record Dozes (c : Cluster) (r : ℕ) (rank : Rank) : Type 0 where
    on : waits_on (doing rank.site (part_of rank (search.harts r))) ≡ true
    none : IsInVain c r (asked rank (search.harts r))

  -- its turn is in vain, and then it waits
  record Naps (c new : Cluster) (r : ℕ) : Type 0 where
    same : IsSame c new
    now : Rank
    ranks : new.ranks ≡ slice_set c.ranks r now
    waits : IsWaiting (mode_of now (search.harts r))

  nap : (c new : Cluster) (r : ℕ) (y : Rank) → slice_get c.ranks r ≡ Some y → hart r < length y.harts → Dozes c r y
      → Gone r (hart r) c new y
      → Naps c new r
  nap c new r y there inside doze (alone stamp own ranks journal boxes) =
      absurd (own_or_vain c r (asked y (hart r)) own doze.none)
  nap c new r y there inside doze (called q also k) =
      let told_so : (outcome (hub_of c.journal) r q).0 ≡ reply.NotYet =
      sym (reply_is c.journal r q) ∙ subst (IsInVain c r) also doze.none in
      record {
        same = vain search r c new y q there doze.on also k told_so;
        now = told y (hart r) (answer.Reply reply.NotYet) k.stamp;
        ranks = k.ranks ∙ ap (λ z. slice_set c.ranks r (told y (hart r) (answer.Reply z) k.stamp)) told_so;
        waits = subst IsWaiting (sym (ap (λ (s : Hart). s.mode) (delay_law y (hart r) q k.stamp also inside)))
            (sleeps y.site (part_of y (hart r)) doze.on);
      }
  nap c new r y there inside doze (met at box) = looked box
    where
      looked : AtBox r (hart r) c new y → Naps c new r
      looked (readied link part bytes box stamp asks is empty l) = absurd (subst (IsInVain c r) asks doze.none)
      looked (took link part bytes box stamp asks is holds l) =
          absurd (holds_or_empty box bytes holds (subst (IsInVain c r) asks doze.none box is))
      looked (freed link part box stamp asks is empty l) = absurd (subst (IsInVain c r) asks doze.none box is empty)
      looked (misses stamp look l) = record {
        same = missed_box search r c new y stamp there doze.on look l;
        now = told y (hart r) answer.Missed stamp;
        ranks = l.ranks;
        waits = missed_waits_on y (hart r) stamp doze.on look inside;
      }

  -- ---- from what is alike a state at which all rest

  module _ (e : State search) where
    -- what isn't there isn't there in what is alike
    pub vain_too : (d : State search) → (alike : Alike search e d) → (r : ℕ) (a : Ask) → AskWithin search.wild r a
        → AskOfLive e.cluster a → IsInVain e.cluster r a
        → IsInVain d.cluster r (ask_by alike.0 a)
    vain_too d alike r (Ask.Hub q) may live none =
        same_reply e.cluster.journal r q d.cluster.journal (request_by alike.0 q) search.wild alike.0 may live
        (alike.1).hubs refl
        ∙ none
    vain_too d alike r (Ask.Look link part) may live none = λ box there.
        (let f = each_from (alike.1).boxes (box_number link part) box there in empty_too f.0 box f.2 (none f.0 f.1))
    vain_too d alike r (Ask.Freed link part) may live none = λ box there empty.
        (let f = each_from (alike.1).boxes (box_number link part) box there in
        none f.0 f.1 (empty_before f.0 box f.2 empty))
    vain_too d alike r Ask.Held may live none = none
    vain_too d alike r Ask.Plain may live none = none
    vain_too d alike r Ask.Local may live none = none
    vain_too d alike r Ask.Idle may live none = none
    vain_too d alike r (Ask.Ready link part bytes) may live none = none

    module _ (within : AllWithin search e.cluster) (rest : AllRest search e.cluster) where
      dozes : (d : State search) → Alike search e d → (r : ℕ) (y : Rank) → slice_get d.cluster.ranks r ≡ Some y
          → IsStopped (mode_of y (hart r)) ⊎ Dozes d.cluster r y
      dozes d alike r y there =
          let f = pair_from search r e.cluster d.cluster alike y there in
          let x = f.0 in
          elim (rest r x f.1) [
            | inl stopped ↦ inl (stops_too alike.0 x y f.2 (hart r) stopped)
            | inr waits ↦
                let sx = (e.good).stands r x f.1 in
                let sy = (d.good).stands r y there in
                inr (record {
                  on = waits_too alike.0 (hart r) x y sx sy f.2 ∙ (waits.0).on;
                  none = subst (IsInVain d.cluster r) (sym (asks_too alike.0 (hart r) x y sx sy f.2))
                      (vain_too d alike r (asked x (hart r)) (within r x f.1).1 (asks_live search e r (hart r) x f.1) waits.1);
                })
          ]

      -- turns after which the first so many ranks are stopped or wait
      record Napped (k : ℕ) (d : State search) : Type 0 where
        ranks : List ℕ
        last : State search
        walk : GoesOn (cluster_machine search) ranks d last
        alike : Alike search e last
        quiet : (r : ℕ) (y : Rank) → r < k → slice_get last.cluster.ranks r ≡ Some y → IsQuiet (mode_of y (hart r))

      -- one rank more
      stays : (k : ℕ) (d : State search) (p : Napped k d)
          → ((y : Rank) → slice_get p.last.cluster.ranks k ≡ Some y → IsQuiet (mode_of y (hart k)))
          → Napped (suc k) d
      stays k d p its = record {
        ranks = p.ranks;
        last = p.last;
        walk = p.walk;
        alike = p.alike;
        quiet = λ r y low there. elim (cases_eq r k) [
          | inl same ↦
              subst (λ i. IsQuiet (mode_of y (hart i))) (sym same)
              (its y (subst (λ i. slice_get p.last.cluster.ranks i ≡ Some y) same there))
          | inr other ↦ p.quiet r y (omega (arith, low, other)) there
        ];
      }

      goes : (k : ℕ) (d : State search) (p : Napped k d) (y : Rank) → slice_get p.last.cluster.ranks k ≡ Some y
          → Dozes p.last.cluster k y
          → Napped (suc k) d
      goes k d p y there doze =
          let a = p.last in
          let h = hart k in
          let its = (cluster_machine_law search).within k e a p.alike (within k) in
          let made = made_within search.patterns k h y (its y there).0 in
          let inside = has_hart y h (vain_live a.cluster k (asked y h) doze.none) in
          let t = turn_in_vain k h a.cluster y there inside doze.none in
          let new : State search =
          record { cluster = t.0; good = good_after search k a.cluster t.0 y there a.good its t.1 } in
          let n = nap a.cluster t.0 k y there inside doze (gone k h a.cluster t.0 y there made t.1) in
          let set = n.ranks in
          let z = n.now in
          record {
            ranks = p.ranks ++ k ∷ [];
            last = new;
            walk = (snoc (cluster_machine search) (cluster_machine_law search) p.ranks k d a new p.walk t.1).walk;
            alike = alike_on search e a new p.alike (same_alike search.wild a.cluster t.0 (a.good).boxes n.same);
            quiet = λ r u low here.
                let at : slice_get (slice_set a.cluster.ranks k z) r ≡ Some u =
                sym (ap (λ xs. slice_get xs r) set) ∙ here in
                elim (cases_eq k r) [
                  | inl same ↦
                      let w = was_there a.cluster.ranks k z u
                      (subst (λ i. slice_get (slice_set a.cluster.ranks k z) i ≡ Some u) (sym same) at) in
                      subst (λ i. IsQuiet (mode_of u (hart i))) same
                      (subst (λ v. IsQuiet (mode_of v h)) w.0 (inr n.waits))
                  | inr other ↦
                      p.quiet r u (omega (arith, low, other)) (sym (get-set_other a.cluster.ranks k r z other) ∙ at)
                ];
          }

      one_more : (k : ℕ) (d : State search) (p : Napped k d) → (o : Option Rank) → slice_get p.last.cluster.ranks k ≡ o
          → Napped (suc k) d
      one_more k d p None is = stays k d p (λ y there. (let none = sym is ∙ there in absurd (cc)))
      one_more k d p (Some y) is = elim (quiet_or_runs (mode_of y (hart k))) [
        | inl quiet ↦ its quiet
        | inr runs ↦ elim (dozes p.last p.alike k y is) [
          | inl stopped ↦ its (inl stopped)
          | inr doze ↦ goes k d p y is doze
        ]
      ]
        where
          its : IsQuiet (mode_of y (hart k)) → Napped (suc k) d
          its quiet = stays k d p (λ z there. subst (λ v. IsQuiet (mode_of v (hart k))) (same_Some y z (sym is ∙ there)) quiet)

      naps : (k : ℕ) (d : State search) → Alike search e d → Napped k d
      naps zero d alike = record {
        ranks = [];
        last = d;
        walk = refl;
        alike = alike;
        quiet = λ r y low there. absurd (omega (arith, low));
      }
      naps (suc k) d alike = (let p = naps k d alike in one_more k d p (slice_get p.last.cluster.ranks k) refl)

      all_napped : (d : State search) (n : Napped (length e.cluster.ranks) d) → AllRest search n.last.cluster
      all_napped d n r y there =
          let low = slice_get_within n.last.cluster.ranks r y there in
          let many = sym (length-map n.last.cluster.ranks awake) ∙ (((n.alike).1).ranks).many ∙ length-map e.cluster.ranks awake in
          elim (dozes n.last n.alike r y there) [
            | inl stopped ↦ inl stopped
            | inr doze ↦ elim (n.quiet r y (omega (arith, low, many)) there) [
              | inl stopped ↦ inl stopped
              | inr waits ↦ inr (
                record { waits = waits; on = doze.on },
                doze.none,
              )
            ]
          ]

      -- turns lead to where all rest
      pub asleep : (d : State search) → Alike search e d
          → (ranks : List ℕ) × (last : State search) × GoesOn (cluster_machine search) ranks d last
          × AllRest search last.cluster
      asleep d alike =
          let n = naps (length e.cluster.ranks) d alike in
          (n.ranks, n.last, n.walk, all_napped d n)
