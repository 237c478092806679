-- Turns of what may go first, exchanged with those of another rank.
use Rattle.std.proofs.Common.{◌≡◌, ◌∙◌, ℕ, ◌+◌, ◌<◌, ◌≤◌, refl, sym, ap, subst, arith, Bool, true, false, [], Some}
use Rattle.std.specs.Prelude.{◌≢◌}
use Rattle.std.specs.List.{slice_get}
use Rattle.std.proofs.lemmas.Option.{same_Some}
use Rattle.mp_types.specs.declared.requests.Request.{Request}
use Rattle.mp_types.specs.declared.requests.Request.TheVariants as request
use Rattle.mp_wait_laws.proofs.Sets.{get-set_other}
use Rattle.mp_clash_laws.specs.Exchanges.{IsPosting, MayExchange, NoRace, NoSync}
use Rattle.cl_state.specs.declared.asking.Ask.{Ask}
use Rattle.cl_state.specs.Asked.{asked}
use Rattle.cl_state.specs.Rank.{Rank}
use Rattle.cl_machine.specs.Cluster.{Cluster}
use Rattle.cl_order_laws.specs.Alike.{Leads, hub_of}
use Rattle.cl_order_laws.specs.Closed.{none_had, one_more}
use Rattle.cl_order_laws.specs.Laws.{IsAlone}
use Rattle.cl_order_laws.specs.Orders.{is_miss}
use Rattle.cl_order_laws.specs.Sure.{IsSure}
use Rattle.cl_order_laws.specs.SureAsks.{IsReady}
use Rattle.cl_order_laws.specs.Turns.{IsTurn}
use Rattle.cl_order_laws.proofs.Commuting.{first_alone, moved}
use Rattle.cl_order_laws.proofs.Likeness.{alike_itself}
use Rattle.cl_order_laws.proofs.Turns.{turns_law}
use Rattle.cl_first_laws.specs.Below.{AreAlike, AskWithin}
use Rattle.cl_first_laws.proofs.Below.{likeness_law}
use Rattle.cl_first_laws.specs.Laws.{IsCalm, IsExchanged as AreExchanged, Polls, Reordered, Turn, at_once as together, r_polls as mine_polls, s_polls as theirs_polls}
use Rattle.cl_first_laws.proofs.Exchanges.{both, exchange_law, next, plain, turn_of}
use Rattle.cl_schedule_laws.specs.Machines.{IsExchanged, IsReordered, Takes, at_once, r_polls, s_polls}
use Rattle.cl_reduction_laws.specs.Complete.{PollWithin}
use Rattle.cl_reduction_laws.specs.Patterns.{IsAllowed, pattern_of, pattern_of_ask}
use Rattle.cl_reduction_laws.specs.Clusters.{IsGood, IsWithin, Search, State, awake_cluster, cluster_machine, posts_of, weight_in, weight_of}
use Rattle.cl_reduction_laws.proofs.Awake.{clusters_awake}
use Rattle.cl_reduction_laws.proofs.Complete.{waits_within}
use Rattle.cl_reduction_laws.proofs.Naming.{below_if_right}
use Rattle.cl_reduction_laws.proofs.Good.{IsMade, IsOnly, IsOwn, at_start, goes_of, gone, good_after, grows_by, plans_of}
use Rattle.cl_reduction_laws.proofs.Machine.{ask_itself, same_alike, same_itself, same_turns}
use Rattle.cl_reduction_laws.proofs.First.{no_poll, polls_on}
use Rattle.cl_reduction_laws.proofs.Places.{IsBeside, IsVisit, beside, beside_place, in_place, number_of, place_beside, place_place}

-- ---- a rank that another's turn leaves as it was

-- so is each rank but the one whose turn it was
pub kept_rank : (s hart r : ℕ) (c new : Cluster) → Turn s hart c new → s ≢ r → slice_get new.ranks r ≡ slice_get c.ranks r
kept_rank s hart r c new turn apart =
    let leads = turn.leads in
    let m = moved c new turn.step leads.0 (turn.step).kind refl leads.3 in
    ap (λ xs. slice_get xs r) m.ranks
    ∙ get-set_other c.ranks (turn.step).rank r m.then (λ e. apart (sym turn.rank ∙ e))

-- a turn that asks nobody is of such a kind
alone_kind : (s hart : ℕ) (c new : Cluster) (x : Rank) → slice_get c.ranks s ≡ Some x → IsOwn (asked x hart)
    → (turn : Turn s hart c new) → IsAlone turn.step.kind
alone_kind s hart c new x there own turn = go (asked x hart) own is_turn
  where
    is_turn : IsTurn c turn.step x (asked x hart) new
    is_turn =
        subst (λ h. IsTurn c turn.step x (asked x h) new) turn.hart
        (turns_law c new turn.step x (ap (slice_get c.ranks) turn.rank ∙ there) turn.leads)

    go : (a : Ask) → IsOwn a → IsTurn c turn.step x a new → IsAlone turn.step.kind
    go Ask.Plain o t = subst IsAlone (sym t.0) tt
    go Ask.Local o t = subst IsAlone (sym t.0) tt
    go Ask.Idle o t = subst IsAlone (sym t.0) tt
    go _ o t = absurd o

-- where there is one turn alone it doesn't miss
pub no_miss : (r hart : ℕ) (c new : Cluster) (x : Rank) → slice_get c.ranks r ≡ Some x → IsOnly (asked x hart)
    → (turn : Turn r hart c new)
    → is_miss turn.step.kind ≡ false
no_miss r hart c new x there single turn = go (asked x hart) single is_turn
  where
    is_turn : IsTurn c turn.step x (asked x hart) new
    is_turn =
        subst (λ h. IsTurn c turn.step x (asked x h) new) turn.hart
        (turns_law c new turn.step x (ap (slice_get c.ranks) turn.rank ∙ there) turn.leads)

    go : (a : Ask) → IsOnly a → IsTurn c turn.step x a new → is_miss turn.step.kind ≡ false
    go Ask.Plain o t = ap is_miss t.0
    go Ask.Local o t = ap is_miss t.0
    go Ask.Idle o t = ap is_miss t.0
    go (Ask.Hub q) o t = ap is_miss t.0
    go _ o t = absurd o

-- a turn, of which it is known that it found what it asks for where that is wanted
pub takes_of : (search : Search) (r : ℕ) (found : Bool) (a b : State search) → (turn : Turn r (search.harts r) a.cluster b.cluster)
    → (found ≡ true → is_miss turn.step.kind ≡ false)
    → Takes (cluster_machine search) found r a b
takes_of search r true a b turn finds = (turn, finds refl)
takes_of search r false a b turn finds = turn

-- turns of r and then of s, in place of turns of s and then of r
pub record Swapped (search : Search) (r s : ℕ) (a c : State search) : Type 0 where
  pub first : State search
  pub goes : Turn r (search.harts r) a.cluster first.cluster
  pub second : State search
  pub then : Turn s (search.harts s) first.cluster second.cluster
  pub alike : AreAlike search.wild (awake_cluster c.cluster) (awake_cluster second.cluster)

module _ (search : Search) (r s : ℕ) (a b c : State search) (apart : s ≢ r) (rank x : Rank)
    (there : slice_get a.cluster.ranks r ≡ Some rank) (here : slice_get a.cluster.ranks s ≡ Some x)
    (mine : IsWithin search a.cluster r) (theirs : IsWithin search a.cluster s)
    (one : Turn s (search.harts s) a.cluster b.cluster) (two : Turn r (search.harts r) b.cluster c.cluster) where
  away_from : r ≢ s
  away_from e = apart (sym e)

  -- behind a turn of r rank s is the same, and asks within its patterns
  pub theirs_then : (first : Cluster) → Turn r (search.harts r) a.cluster first → IsWithin search first s
  theirs_then first goes z at = theirs z (sym (kept_rank r (search.harts r) s a.cluster first goes away_from) ∙ at)

  pub here_then : (first : Cluster) → Turn r (search.harts r) a.cluster first → slice_get first.ranks s ≡ Some x
  here_then first goes = kept_rank r (search.harts r) s a.cluster first goes away_from ∙ here

  pub good_first : (first : Cluster) → Turn r (search.harts r) a.cluster first → IsGood search first
  good_first first goes = good_after search r a.cluster first rank there a.good mine goes

  pub good_second : (first second : Cluster) → Turn r (search.harts r) a.cluster first → Turn s (search.harts s) first second
      → IsGood search second
  good_second first second goes then =
      good_after search s first second x (here_then first goes) (good_first first goes) (theirs_then first goes) then

  -- both orders lead to what is alike
  pub swapped : (first second : Cluster) (goes : Turn r (search.harts r) a.cluster first) (then : Turn s (search.harts s) first second)
      → AreAlike search.wild (awake_cluster c.cluster) (awake_cluster second)
      → Swapped search r s a c
  swapped first second goes then alike = record {
    first = record { cluster = first; good = good_first first goes };
    goes = goes;
    second = record { cluster = second; good = good_second first second goes then };
    then = then;
    alike = alike;
  }

  -- where r is sure whatever others ask
  pub swapped_sure : posts_of c.cluster ≤ 65535 → IsSure (plans_of search.harts) 65535 (at_start a.cluster) r
      → Swapped search r s a c
  swapped_sure few sure =
      let f = sure.before [] (at_start a.cluster) (record { cluster = b.cluster; had = one_more none_had s })
      (record { cluster = c.cluster; had = one_more (one_more none_had s) r }) s tt refl apart
      (goes_of search.harts s a.cluster b.cluster none_had one)
      (goes_of search.harts r b.cluster c.cluster (one_more none_had s) two) few in
      let first = (f.mid).cluster in
      let second = (f.last).cluster in
      let goes : Turn r (search.harts r) a.cluster first =
      record { step = (f.first).step; rank = (f.first).rank; hart = (f.first).hart; leads = (f.first).leads } in
      let then : Turn s (search.harts s) first second =
      record { step = (f.then).step; rank = (f.then).rank; hart = (f.then).hart; leads = (f.then).leads } in
      swapped first second goes then
      (clusters_awake search.wild c.cluster second (likeness_law.same search.wild c.cluster second f.alike))

module _ (search : Search) (r s : ℕ) (a b c : State search) (apart : s ≢ r) (rank x : Rank)
    (there : slice_get a.cluster.ranks r ≡ Some rank) (here : slice_get a.cluster.ranks s ≡ Some x)
    (mine : IsWithin search a.cluster r) (theirs : IsWithin search a.cluster s)
    (room : posts_of a.cluster + 3 < 65536)
    (one : Turn s (search.harts s) a.cluster b.cluster) (two : Turn r (search.harts r) b.cluster c.cluster)
    (found : Bool) (finds : found ≡ true → is_miss two.step.kind ≡ false) where
  abbrev Exchange : Type 0
  Exchange = IsExchanged (cluster_machine search) found r s a c

  abbrev away : r ≢ s
  away e = apart (sym e)

  abbrev there_in : (first : Cluster) → Turn r (search.harts r) a.cluster first → slice_get first.ranks s ≡ Some x
  there_in first goes = here_then search r s a b c apart rank x there here mine theirs one two first goes

  -- the turn that goes first finds what it finds
  abbrev Finds : {old new : Cluster} → Turn r (search.harts r) old new → Type 0
  Finds turn = found ≡ true → is_miss turn.step.kind ≡ false

  exchange : (w : Swapped search r s a c) → Finds w.goes → Exchange
  exchange w is = record {
    first = w.first;
    goes = takes_of search r found a w.first w.goes is;
    second = w.second;
    then = w.then;
    reordered = at_once w.alike;
  }

  made_at_once : (first second : Cluster) (goes : Turn r (search.harts r) a.cluster first) (then : Turn s (search.harts s) first second)
      → Finds goes → AreAlike search.wild (awake_cluster c.cluster) (awake_cluster second)
      → Exchange
  unfolding swapped
  made_at_once first second goes then is alike =
      exchange (swapped search r s a b c apart rank x there here mine theirs one two first second goes then alike) is

  few : posts_of c.cluster ≤ 65535
  few =
      (let g = grows_by search.harts s a.cluster b.cluster one in
      let k = grows_by search.harts r b.cluster c.cluster two in
      let low = g.1 in
      let high = k.1 in
      omega (arith, low, high, room))

  pub by_sure : IsOnly (asked rank (search.harts r)) → IsSure (plans_of search.harts) 65535 (at_start a.cluster) r → Exchange
  by_sure single sure =
      let w = swapped_sure search r s a b c apart rank x there here mine theirs one two few sure in
      exchange w (λ is. no_miss r (search.harts r) a.cluster (w.first).cluster rank there single w.goes)

  -- the same two steps lead to the same cluster
  pub by_steps : (other : Cluster) → Leads a.cluster two.step other → Leads other one.step c.cluster → Exchange
  by_steps other first second =
      let goes : Turn r (search.harts r) a.cluster other =
      record { step = two.step; rank = two.rank; hart = two.hart; leads = first } in
      let then : Turn s (search.harts s) other c.cluster =
      record { step = one.step; rank = one.rank; hart = one.hart; leads = second } in
      made_at_once other c.cluster goes then finds
      (likeness_law.same search.wild _ _ (alike_itself (awake_cluster c.cluster) (c.good).boxes))

  ranks_apart : one.step.rank ≢ two.step.rank
  ranks_apart e = apart (sym one.rank ∙ e ∙ two.rank)

  -- ---- where one of them meets a box

  -- r meets a box, and s meets none
  pub past_beside : IsBeside one.step.kind → IsVisit two.step.kind → Exchange
  past_beside is visits =
      let v = beside_place a.cluster b.cluster c.cluster one.step two.step ranks_apart one.leads two.leads _
      (beside a.cluster b.cluster one.step one.leads.0 is one.leads.3)
      (in_place b.cluster c.cluster two.step two.leads.0 visits two.leads.3) in
      by_steps v.0 v.1 v.2

  -- r meets none, and s meets one
  pub past_place : IsVisit one.step.kind → IsBeside two.step.kind → Exchange
  past_place visits is =
      let v = place_beside a.cluster b.cluster c.cluster one.step two.step ranks_apart one.leads two.leads _
      (in_place a.cluster b.cluster one.step one.leads.0 visits one.leads.3)
      (beside b.cluster c.cluster two.step two.leads.0 is two.leads.3) in
      by_steps v.0 v.1 v.2

  -- they meet two
  pub past_other : IsVisit one.step.kind → IsVisit two.step.kind
      → number_of (asked one.leads.0 one.step.hart) ≢ number_of (asked two.leads.0 two.step.hart)
      → Exchange
  past_other visits also two_boxes =
      let v = place_place a.cluster b.cluster c.cluster one.step two.step ranks_apart one.leads two.leads _ _ two_boxes
      (in_place a.cluster b.cluster one.step one.leads.0 visits one.leads.3)
      (in_place b.cluster c.cluster two.step two.leads.0 also two.leads.3) in
      by_steps v.0 v.1 v.2

  -- s needs only itself
  pub by_own : IsOwn (asked x (search.harts s)) → Exchange
  by_own own =
      let f = first_alone a.cluster b.cluster c.cluster one.step two.step ranks_apart
      (alone_kind s (search.harts s) a.cluster b.cluster x here own one) one.leads two.leads in
      by_steps f.0 f.1 f.2

  -- ---- where r asks the hub

  module _ (q : Request) (asks : asked rank (search.harts r) ≡ Ask.Hub q) where
    module _ (p : Request) (also : asked x (search.harts s) ≡ Ask.Hub p) where
      abbrev calm : IsCalm search.wild a.cluster
      calm = record {
        few = omega (arith, room);
        waits = (a.good).waits;
        names = λ i x here. below_if_right (hub_of a.cluster.journal).board.lines x ((a.good).names i x here);
        boxes = (a.good).boxes;
      }

      abbrev first_of : Cluster
      first_of = next a.cluster r (search.harts r) rank q

      goes_first : Turn r (search.harts r) a.cluster first_of
      goes_first = turn_of a.cluster r (search.harts r) rank q there asks

      abbrev second_of : Cluster
      second_of = next first_of s (search.harts s) x p

      goes_second : Turn s (search.harts s) first_of second_of
      goes_second = turn_of first_of s (search.harts s) x p (there_in first_of goes_first) also

      -- both are told the same whichever is first
      pub by_exchange : MayExchange search.wild (hub_of a.cluster.journal) r q s p → Exchange
      by_exchange k =
          made_at_once first_of second_of goes_first goes_second
          (λ is. no_miss r (search.harts r) a.cluster first_of rank there (subst IsOnly (sym asks) tt) goes_first)
          (clusters_awake search.wild c.cluster second_of
          (plain search.wild r (search.harts r) s (search.harts s) x rank q p a.cluster calm away there asks here also k
          c.cluster second_of
          (both s (search.harts s) x p r (search.harts r) rank q a.cluster b.cluster c.cluster apart here also there asks one two)
          (both r (search.harts r) rank q s (search.harts s) x p a.cluster first_of second_of away there asks here also
          goes_first goes_second)))

      -- a poll of a receive that was posted asks within the patterns
      polls_within : (t : ℕ) (k : Cluster) (f : Polls t (search.harts t) k) → IsWithin search k t
      polls_within t k f z at =
          let same : f.rank ≡ z = same_Some f.rank z (sym f.there ∙ at) in
          let on = polls_on f.rank (search.harts t) f.post f.waits in
          subst (λ (w : Rank). IsAllowed search.patterns t (pattern_of w (search.harts t))
          × AskWithin search.wild t (asked w (search.harts t))
          × PollWithin search.polls_of_complete t w (search.harts t)) same (
            subst (λ w. IsAllowed search.patterns t (pattern_of_ask w (asked f.rank (search.harts t)))) (sym on)
                (subst (λ u. IsAllowed search.patterns t (pattern_of_ask true u)) (sym f.asks) tt),
            subst (AskWithin search.wild t) (sym f.asks) tt,
            waits_within search.polls_of_complete t f.rank (search.harts t) on,
          )

      polls_light : (t : ℕ) (k : Cluster) (f : Polls t (search.harts t) k)
          → weight_of (slice_get k.ranks t) (search.harts t) ≡ 0
      polls_light t k f =
          ap (λ o. weight_of o (search.harts t)) f.there ∙ ap weight_in f.waits

      pub by_posts : IsPosting q → IsPosting p → NoRace search.wild q p → NoSync r q s p → Exchange
      by_posts post posts_too race sync =
          let k = exchange_law search.wild r (search.harts r) s (search.harts s) a.cluster b.cluster c.cluster x rank q p calm
          away there asks post here also posts_too race sync one two in
          let first : State search = record { cluster = k.first; good = good_first search r s a b c apart rank x there here mine theirs one two k.first k.goes } in
          let second : State search = record { cluster = k.second; good = good_second search r s a b c apart rank x there here mine theirs one two k.first k.second k.goes k.then } in
          record {
            first = first;
            goes = takes_of search r found a first k.goes
                (λ is. no_miss r (search.harts r) a.cluster k.first rank there (subst IsOnly (sym asks) tt) k.goes);
            second = second;
            then = k.then;
            reordered = go k second refl k.reordered;
          }
        where
          heavy : 0 < weight_of (slice_get a.cluster.ranks r) (search.harts r)
          heavy =
              (let w = ap (λ o. weight_of o (search.harts r)) there ∙ no_poll rank (search.harts r) q asks post in
              omega (arith, w))

          go : (k : AreExchanged search.wild r (search.harts r) s (search.harts s) a.cluster c.cluster) (second : State search)
              → second.cluster ≡ k.second
              → Reordered search.wild r (search.harts r) s (search.harts s) c.cluster k.second
              → IsReordered (cluster_machine search) r s a c (record { cluster = k.first; good = good_first search r s a b c apart rank x there here mine theirs one two k.first k.goes }) second
          go k second is (together alike) =
              at_once (subst (λ z. AreAlike search.wild (awake_cluster c.cluster) (awake_cluster z)) (sym is)
              (clusters_awake search.wild c.cluster k.second alike))
          go k second is (mine_polls last polls turn alike) =
              let polls_here : Polls r (search.harts r) second.cluster = subst (Polls r (search.harts r)) (sym is) polls in
              let turn_here : Turn r (search.harts r) second.cluster last =
              subst (λ z. Turn r (search.harts r) z last) (sym is) turn in
              r_polls
              (record {
                cluster = last;
                good = good_after search r second.cluster last polls_here.rank polls_here.there second.good
                    (polls_within r second.cluster polls_here) turn_here;
              })
              heavy
              (polls_light r second.cluster polls_here)
              (polls_within r second.cluster polls_here)
              turn_here
              (clusters_awake search.wild c.cluster last alike)
          go k second is (theirs_polls last polls turn alike) =
              s_polls
              (record {
                rank = polls.rank;
                there = polls.there;
                light = ap weight_in polls.waits;
                q = request.Collect polls.post;
                asks = polls.asks;
                ready = subst (IsReady (request.Collect polls.post)) (sym polls.gets) tt;
                within = polls_within s c.cluster polls;
              })
              (λ other goes.
              let made = subst IsMade (sym polls.asks) tt in
              likeness_law.on search.wild (awake_cluster other.cluster) (awake_cluster last) (awake_cluster second.cluster)
              (same_alike search.wild other.cluster last (other.good).boxes
              (same_turns s (search.harts s) c.cluster c.cluster other.cluster last polls.rank polls.rank (same_itself c.cluster)
              polls.there polls.there (ask_itself (search.harts s) polls.rank) (subst IsOnly (sym polls.asks) tt)
              (gone s (search.harts s) c.cluster other.cluster polls.rank polls.there made goes)
              (gone s (search.harts s) c.cluster last polls.rank polls.there made turn)))
              (subst (λ z. AreAlike search.wild (awake_cluster last) (awake_cluster z)) (sym is)
              (clusters_awake search.wild last k.second alike)))
