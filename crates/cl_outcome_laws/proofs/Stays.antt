-- Ranks that are a company stay one over a turn of a sure rank, which is none of them.
use Rattle.std.proofs.Common.{◌≡◌, ℕ, ◌≤◌, ◌⊎◌, inl, inr, List, [], Bool, true, false, Some, refl, sym, ap, ◌∙◌, subst, arith}
use Rattle.std.specs.Prelude.{◌≢◌}
use Rattle.std.specs.List.{slice_get, slice_set}
use Rattle.std.proofs.lemmas.Bool.{cases_Bool}
use Rattle.mp_types.specs.declared.replies.Reply.{Reply}
use Rattle.mp_types.specs.declared.requests.Request.{Request}
use Rattle.mp_types.specs.declared.requests.Request.TheVariants as request
use Rattle.mp_transfers.specs.Inits.{is_receiver}
use Rattle.mp_wait_laws.specs.Laws.{SendsAsMember}
use Rattle.mp_wait_laws.specs.Waits.{OnlyOf, WaitsFor, sends_over}
use Rattle.mp_wait_laws.proofs.Sets.{get-set_other}
use Rattle.mp_wait_laws.proofs.Waits.{waits_law}
use Rattle.cl_journal.specs.Journal.{calls_of}
use Rattle.cl_journal.proofs.History.{calls_of-snoc}
use Rattle.cl_calls.specs.declared.sites.Site.{Site}
use Rattle.cl_state.specs.declared.asking.Answer.{Answer}
use Rattle.cl_state.specs.declared.asking.Ask.{Ask}
use Rattle.cl_state.specs.Asked.{asked}
use Rattle.cl_state.specs.Rank.{Rank}
use Rattle.cl_state_laws.specs.Vain.{IsStopped, mode_of}
use Rattle.cl_state_laws.proofs.Vain.{vain_law}
use Rattle.cl_machine.specs.declared.steps.Step.{Step}
use Rattle.cl_machine.specs.Boxes.{box_number}
use Rattle.cl_machine.specs.Cluster.{Cluster}
use Rattle.cl_machine.specs.Journal.{Journal, reply_in}
use Rattle.cl_deadlock_laws.specs.Stuck.{AreStuck, AsksInVain, IsEmptyAt, IsFullAt, IsStuckHart, is_among, is_member}
use Rattle.cl_order_laws.specs.Closed.{Node, Plans}
use Rattle.cl_order_laws.specs.Sure.{Goes, HasPostsWithin, IsSure}
use Rattle.cl_order_laws.specs.SureAsks.{IsReady, IsSureAsk}
use Rattle.cl_order_laws.specs.Turns.{IsTurn}
use Rattle.cl_order_laws.proofs.Commuting.{moved}
use Rattle.cl_order_laws.proofs.SureHub.{not_vain}
use Rattle.cl_order_laws.proofs.Turns.{turns_law}
use Rattle.cl_order_laws.proofs.Walks.{posts, turn_posts}
use Rattle.cl_outcome_laws.specs.Companies.{IsCompany}

-- ---- who asks for what is there doesn't ask in vain, and doesn't send

sure_or_vain : (ranks : List ℕ) (c : Cluster) (r : ℕ) (site : Site) (q : Ask) → IsSureAsk c r q
    → AsksInVain ranks c r site q → ⊥
unfolding reply_in
sure_or_vain ranks c r site (Ask.Hub q) sure vain = not_vain q (subst (IsReady q) vain.0 sure)
sure_or_vain ranks c r site Ask.Plain sure vain = vain
sure_or_vain ranks c r site Ask.Local sure vain = vain
sure_or_vain ranks c r site Ask.Held sure vain = sure
sure_or_vain ranks c r site Ask.Idle sure vain = sure
sure_or_vain ranks c r site (Ask.Ready link part bytes) sure vain = sure
sure_or_vain ranks c r site (Ask.Look link part) sure vain = sure
sure_or_vain ranks c r site (Ask.Freed link part) sure vain = sure

no_send : (member : ℕ → ℕ → Bool) (rank : ℕ) (q : Request) (a : Reply) → IsReady q a → SendsAsMember member rank q
no_send member rank (request.Send sync comm dest tag bytes) a is = absurd is
no_send member rank (request.Recv now comm source tag) a is = tt
no_send member rank (request.Collect n) a is = tt
no_send member rank (request.Finished n) a is = tt
no_send member rank (request.Probe comm source tag) a is = tt
no_send member rank (request.Claim comm source tag) a is = tt
no_send member rank (request.Claimed now n) a is = tt
no_send member rank (request.All ns) a is = tt
no_send member rank (request.Init sends comm peer tag parts size) a is = tt
no_send member rank (request.Cut link) a is = tt

-- ---- a sure turn

module _ (ranks : List ℕ) (old new : Cluster) (e : Step) (x : Rank) (out : is_among ranks e.rank ≡ false) where
  -- what others wait for at the hub, they wait for still, and the boxes are as they were
  record Keeps : Type 0 where
    links : new.journal.links ≡ old.journal.links
    boxes : new.boxes ≡ old.boxes
    waits : (member : ℕ → ℕ → Bool) (r : ℕ) (q : Request) → is_among ranks r ≡ true
        → WaitsFor member (is_among ranks) old.journal.links (calls_of old.journal.entries) r q
        → WaitsFor member (is_among ranks) new.journal.links (calls_of new.journal.entries) r q

  same : old.journal ≡ new.journal → old.boxes ≡ new.boxes → Keeps
  same journal boxes = record {
    links = ap (λ (j : Journal). j.links) (sym journal);
    boxes = sym boxes;
    waits = λ member r q inside.
        subst (λ (j : Journal). WaitsFor member (is_among ranks) old.journal.links (calls_of old.journal.entries) r q
        → WaitsFor member (is_among ranks) j.links (calls_of j.entries) r q) journal (λ waits. waits);
  }

  keeps : (q : Ask) → IsSureAsk old e.rank q → IsTurn old e x q new → Keeps
  unfolding reply_in
  keeps Ask.Plain sure turn =
      same (ap (λ (c : Cluster). c.journal) (sym turn.1)) (ap (λ (c : Cluster). c.boxes) (sym turn.1))
  keeps Ask.Local sure turn =
      same (ap (λ (c : Cluster). c.journal) (sym turn.1)) (ap (λ (c : Cluster). c.boxes) (sym turn.1))
  keeps (Ask.Hub call) sure turn = record {
    links = ap (λ (c : Cluster). c.journal.links) turn.1;
    boxes = ap (λ (c : Cluster). c.boxes) turn.1;
    waits = λ member r q inside waits.
        subst (λ (c : Cluster). WaitsFor member (is_among ranks) c.journal.links (calls_of c.journal.entries) r q)
        (sym turn.1)
        (subst (λ cs. WaitsFor member (is_among ranks) old.journal.links cs r q)
        (sym (calls_of-snoc old.journal.entries _))
        ((waits_law.others) member (is_among ranks) old.journal.links (calls_of old.journal.entries) r e.rank q call inside
        out (no_send member e.rank call _ sure) waits));
  }
  keeps Ask.Held sure turn = absurd sure
  keeps Ask.Idle sure turn = absurd sure
  keeps (Ask.Ready link part bytes) sure turn = absurd sure
  keeps (Ask.Look link part) sure turn = absurd sure
  keeps (Ask.Freed link part) sure turn = absurd sure

  vain_still : Keeps → (r : ℕ) (site : Site) (q : Ask) → is_among ranks r ≡ true → AsksInVain ranks old r site q
      → AsksInVain ranks new r site q
  vain_still k r site (Ask.Hub q) inside vain = k.waits (is_member site) r q inside vain
  vain_still k r site (Ask.Look link part) inside vain = (
    subst (λ boxes. IsEmptyAt boxes (box_number link part)) (sym k.boxes) vain.0,
    subst (λ links. OnlyOf (is_among ranks) (sends_over links link)) (sym k.links) vain.1,
  )
  vain_still k r site (Ask.Freed link part) inside vain = (
    subst (λ boxes. IsFullAt boxes (box_number link part)) (sym k.boxes) vain.0,
    subst (λ links. OnlyOf (is_among ranks) (λ j. is_receiver links j link)) (sym k.links) vain.1,
  )
  vain_still k r site Ask.Held inside vain = tt
  vain_still k r site Ask.Plain inside vain = absurd vain
  vain_still k r site Ask.Local inside vain = absurd vain
  vain_still k r site Ask.Idle inside vain = absurd vain
  vain_still k r site (Ask.Ready link part bytes) inside vain = absurd vain

  -- ---- the company

  module _ (k : Keeps) (then : Rank) (set : new.ranks ≡ slice_set old.ranks e.rank then) where
    another : (r : ℕ) → is_among ranks r ≡ true → e.rank ≢ r
    another r inside one = (let also = subst (λ n. is_among ranks n ≡ false) one out in absurd (cc))

    stands : (r : ℕ) → is_among ranks r ≡ true → slice_get new.ranks r ≡ slice_get old.ranks r
    stands r inside = ap (λ ys. slice_get ys r) set ∙ get-set_other old.ranks e.rank r then (another r inside)

    stuck_still : AreStuck ranks old → AreStuck ranks new
    stuck_still stuck r y hart inside there below =
        elim (stuck r y hart inside (sym (stands r inside) ∙ there) below) [
          | inl stopped ↦ inl stopped
          | inr held ↦ inr (record {
            patient = held.patient;
            in_vain = vain_still k r y.site (asked y hart) inside held.in_vain;
          })
        ]

    company_still : IsCompany ranks old → IsCompany ranks new
    company_still company =
        let w = company.waits in
        record {
          stuck = stuck_still company.stuck;
          waits = record {
            r = w.r;
            rank = w.rank;
            hart = w.hart;
            among = w.among;
            there = stands w.r w.among ∙ w.there;
            waits = w.waits;
          };
        }

-- ---- of a sure rank

module _ (plans : Plans) (most r : ℕ) (here new : Node) (ranks : List ℕ) (sure : IsSure plans most here r)
    (goes : Goes plans r here new) (within : HasPostsWithin most new.cluster) (company : IsCompany ranks here.cluster) where
  abbrev e : Step
  e = goes.step

  abbrev x : Rank
  x = (goes.leads).0

  -- it asks for what is there
  asks : IsSureAsk here.cluster e.rank (asked x e.hart)
  asks =
      let more = turn_posts plans r here new goes in
      let few : posts new.cluster ≤ most = within in
      let there : slice_get here.cluster.ranks r ≡ Some x =
      ap (slice_get here.cluster.ranks) (sym goes.rank) ∙ (goes.leads).1 in
      let is = sure.asks [] here tt refl (omega (arith, more, few)) x there in
      subst (λ k. IsSureAsk here.cluster k (asked x e.hart)) (sym goes.rank)
      (subst (λ h. IsSureAsk here.cluster r (asked x h)) (sym goes.hart) is)

  not_held : IsStopped (mode_of x e.hart) ⊎ IsStuckHart ranks here.cluster e.rank x e.hart → ⊥
  not_held (inl stopped) =
      subst (IsSureAsk here.cluster e.rank) ((vain_law.stopped) x e.hart 0 Answer.Alone stopped).0 asks
  not_held (inr held) = sure_or_vain ranks here.cluster e.rank x.site (asked x e.hart) asks held.in_vain

  outside : is_among ranks e.rank ≡ false
  outside = elim (cases_Bool (is_among ranks e.rank)) [
    | inl inside ↦ absurd (not_held (company.stuck e.rank x e.hart inside (goes.leads).1 (goes.leads).2))
    | inr out ↦ out
  ]

  pub company_after : IsCompany ranks new.cluster
  company_after =
      let turn = turns_law here.cluster new.cluster e x (goes.leads).1 goes.leads in
      let m = moved here.cluster new.cluster e x e.kind refl (goes.leads).3 in
      company_still ranks here.cluster new.cluster e x outside
      (keeps ranks here.cluster new.cluster e x outside (asked x e.hart) asks turn) m.then m.ranks company
