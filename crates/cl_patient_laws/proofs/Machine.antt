-- Clusters as a machine whose ranks take a turn only while they don't rest.
use Rattle.std.proofs.Common.{◌+◌, ◌<◌, ◌≡◌, ◌∙◌, ℕ, refl, sym, ap, subst, ◌⊎◌, inl, inr, Bool, true, false, Option, Some, None, arith}
use Rattle.std.specs.Prelude.{◌≢◌}
use Rattle.std.specs.List.{slice_get}
use Rattle.cl_state.specs.Rank.{Rank}
use Rattle.cl_machine.specs.Cluster.{Cluster}
use Rattle.cl_rest_laws.specs.Rests.{rests}
use Rattle.cl_rest_laws.proofs.Resting.{rest_law}
use Rattle.cl_schedule_laws.specs.Machines.{IsExchanged, IsMachine, IsReordered, Machine, Ranks, Takes, at_once, r_polls, s_polls}
use Rattle.cl_reduction_laws.specs.Below.{AreAlike, Turn}
use Rattle.cl_reduction_laws.specs.Clusters.{AreSure, Found, IsReadyPoll, IsWithin, Search, State, awake_cluster, cluster_machine, posts_of, weight_of}
use Rattle.cl_reduction_laws.proofs.Clusters.{cluster_machine_law}
use Rattle.cl_contest_laws.proofs.Quiet.{light_goes, rests_awake}
use Rattle.cl_contest_laws.proofs.Rest.{Alike}

-- the rank that takes turns rests in the state, or doesn't
abbrev pub rests_at : (search : Search) → State search → ℕ → Bool
rests_at search a r = rests a.cluster r (search.harts r)

-- the same machine, but that a rank takes no turn where it rests
abbrev pub patient_machine : Search → Machine
patient_machine search = record {
  State = State search;
  Goes = λ r a b. Turn r (search.harts r) a.cluster b.cluster × (rests_at search a r ≡ false);
  Finds = λ r a b. Found r (search.harts r) a.cluster b.cluster × (rests_at search a r ≡ false);
  Alike = λ a b. AreAlike search.wild (awake_cluster a.cluster) (awake_cluster b.cluster);
  IsWithin = λ a r. IsWithin search a.cluster r;
  HasRoom = λ a. posts_of a.cluster + 3 < 65536;
  HasSpace = λ a. posts_of a.cluster + 1 < 65536;
  weight = λ a r. weight_of (slice_get a.cluster.ranks r) (search.harts r);
  AreSure = λ a rs. AreSure search a.cluster rs;
  IsReady = λ a r. IsReadyPoll search a.cluster r;
}

module _ (search : Search) (may_wait : search.may_wait ≡ true) where
  abbrev base : Machine
  base = cluster_machine search

  abbrev patient : Machine
  patient = patient_machine search

  is : IsMachine base
  is = cluster_machine_law search

  -- in alike states the same ranks rest
  pub rests_alike : (r : ℕ) (a b : State search) → Alike search a b → rests_at search b r ≡ rests_at search a r
  rests_alike r a b alike =
      sym (rests_awake (λ m. true) b.cluster r (search.harts r) ((b.good).stands r))
      ∙ (rest_law.alike) search.wild (awake_cluster a.cluster) (awake_cluster b.cluster) r (search.harts r) alike
      ∙ rests_awake (λ m. true) a.cluster r (search.harts r) ((a.good).stands r)

  -- a rank that goes first doesn't rest
  pub sure_patient : (rs : Ranks) (r : ℕ) (a : State search) → AreSure search a.cluster rs → rs r ≡ true
      → rests_at search a r ≡ false
  sure_patient rs r a sure among =
      subst (λ k. rests a.cluster k (search.harts k) ≡ false) (sym (sure.only r among)) (sure.anyway may_wait)

  -- nor does one that polls its own receive or send
  pub ready_patient : (r : ℕ) (a : State search) → IsReadyPoll search a.cluster r → rests_at search a r ≡ false
  ready_patient r a ready = light_goes a.cluster r (search.harts r) ready.rank ready.there ready.light

  light_patient : (r : ℕ) (a : State search) → weight_of (slice_get a.cluster.ranks r) (search.harts r) ≡ 0
      → rests_at search a r ≡ false
  light_patient r a light = go (slice_get a.cluster.ranks r) refl light
    where
      go : (o : Option Rank) → slice_get a.cluster.ranks r ≡ o → weight_of o (search.harts r) ≡ 0 → rests_at search a r ≡ false
      go None at none = absurd (omega (arith, none))
      go (Some rank) at none = light_goes a.cluster r (search.harts r) rank at none

  -- another rank's turn brings no rank to rest
  away : (r s : ℕ) (a b : State search) → s ≢ r → Turn r (search.harts r) a.cluster b.cluster → rests_at search a s ≡ false
      → rests_at search b s ≡ false
  away r s a b apart turn none =
      (rest_law.away) a.cluster b.cluster s r (search.harts r) (search.harts s) (λ e. apart (sym e)) turn none

  -- ---- turns of both machines

  plain : (found : Bool) (r : ℕ) (a b : State search) → Takes patient found r a b → Takes base found r a b
  plain true r a b takes = takes.0
  plain false r a b takes = takes.0

  patiently : (found : Bool) (r : ℕ) (a b : State search) → rests_at search a r ≡ false → Takes base found r a b
      → Takes patient found r a b
  patiently true r a b none takes = (takes, none)
  patiently false r a b none takes = (takes, none)

  reordered : (r s : ℕ) (old new first second : State search) → IsReordered base r s old new first second
      → IsReordered patient r s old new first second
  reordered r s old new first second (at_once alike) = at_once alike
  reordered r s old new first second (r_polls last heavy light within goes alike) =
      r_polls last heavy light within (goes, light_patient r second light) alike
  reordered r s old new first second (s_polls ready all) = s_polls ready (λ last goes. all last goes.0)

  takes_goes : (found : Bool) (r : ℕ) (a b : State search) → Takes base found r a b → base.Goes r a b
  takes_goes true r a b takes = is.finds_goes r a b takes
  takes_goes false r a b takes = takes

  exchanged : (rs : Ranks) (found : Bool) (r s : ℕ) (a c : State search) → rs s ≡ false → rs r ≡ true
      → AreSure search a.cluster rs → rests_at search a s ≡ false → IsExchanged base found r s a c
      → IsExchanged patient found r s a c
  exchanged rs found r s a c out among sure none e = record {
    first = e.first;
    goes = patiently found r a e.first (sure_patient rs r a sure among) e.goes;
    second = e.second;
    then = (e.then, away r s a e.first apart (takes_goes found r a e.first e.goes) none);
    reordered = reordered r s a c e.first e.second e.reordered;
  }
    where
      apart : s ≢ r
      apart same = (let k = sym out ∙ ap rs same ∙ among in absurd (cc))

  -- ---- the machine

  pub is_patient_machine : IsMachine patient
  is_patient_machine = record {
    itself = is.itself;
    back = is.back;
    on = is.on;
    follows = λ r a b c alike within goes.
        (let f = is.follows r a b c alike within goes.0 in (f.0, (f.1, rests_alike r a b alike ∙ goes.1), f.2));
    within = is.within;
    weight = is.weight;
    room = is.room;
    grows = λ r a b goes. is.grows r a b goes.0;
    space = is.space;
    now = is.now;
    soon = λ r s a b c room one two. is.soon r s a b c room one.0 two.0;
    own = λ r s a b apart goes. is.own r s a b apart goes.0;
    owns = λ r s a b apart goes. is.owns r s a b apart goes.0;
    polls = λ r a ready. (let p = is.polls r a ready in (p.0, (p.1, ready_patient r a ready)));
    asks_for = is.asks_for;
    gets = λ r a b ready space goes. is.gets r a b ready space goes.0;
    ready = λ r s a b apart ready within space goes.
        (let k = is.ready r s a b apart ready within space goes.0 in (
          k.0,
          λ c two. (let f = k.1 c two.0 in (
            f.0,
            f.1,
            (f.2, ready_patient r a ready),
            (f.3, away r s a f.0 apart f.2 goes.1),
            f.4,
          )),
        ));
    finds_goes = λ r a b finds. (is.finds_goes r a b finds.0, finds.1);
    goes = λ rs r a sure among. (let g = is.goes rs r a sure among in (g.0, (g.1, sure_patient rs r a sure among)));
    asks = is.asks;
    first = λ rs s a b out sure within room goes. elim (is.first rs s a b out sure within room goes.0) [
      | inl alike ↦ inl alike
      | inr swap ↦ inr (
        swap.0,
        λ r c found among takes. exchanged rs found r s a c out among sure goes.1
            (swap.1 r c found among (plain found r b c takes)),
      )
    ];
  }
