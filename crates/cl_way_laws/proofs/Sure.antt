-- Polls of what is there lead to one state, and alike states have the same.
use Rattle.std.proofs.Common.{◌≡◌, ◌∙◌, ℕ, refl, sym, ap, subst}
use Rattle.mp_types.specs.declared.replies.Reply.{Reply}
use Rattle.mp_types.specs.declared.replies.Reply.TheVariants as reply
use Rattle.mp_types.specs.declared.requests.Request.{Request}
use Rattle.mp_types.specs.declared.requests.Request.TheVariants as request
use Rattle.mp_alike_laws.specs.Renaming.{Renaming, request_by}
use Rattle.cl_state.specs.declared.asking.Ask.{Ask}
use Rattle.cl_state.specs.Asked.{asked}
use Rattle.cl_names_laws.specs.Named.{ask_by}
use Rattle.cl_order_laws.specs.SureAsks.{IsReady}
use Rattle.cl_reduction_laws.specs.Below.{AreAlike, AskOfLive, AskWithin, Turn}
use Rattle.cl_reduction_laws.proofs.Below.{same_reply}
use Rattle.cl_reduction_laws.specs.Clusters.{IsReadyPoll, Search, State, awake_cluster, cluster_machine}
use Rattle.cl_reduction_laws.proofs.Follows.{asks_live, asks_too, light_too, pair, within_too}
use Rattle.cl_reduction_laws.proofs.Good.{Gone, IsOnly, called}
use Rattle.cl_reduction_laws.proofs.Machine.{ask_itself, same_alike, same_itself, same_turns}
use Rattle.cl_first_laws.proofs.Exchanges.{call_of}
use Rattle.cl_delay_laws.specs.Networks.{ArePollsSure}

-- what is there by other names is there
ready_named : (names : Renaming) (q : Request) (x : Reply) → IsReady q x → IsReady (request_by names q) x
ready_named names (request.Collect n) (reply.Got m) is = tt
ready_named names (request.Finished n) reply.Done is = tt
ready_named names (request.All ns) (reply.AllGot gots) is = tt
ready_named names (request.Probe comm source tag) (reply.Seen envelope) is = tt
ready_named names (request.Cut link) (reply.Cut parts size) is = tt
ready_named names _ _ is = absurd is

module _ (search : Search) where
  abbrev hart : ℕ → ℕ
  hart = search.harts

  poll_too : (r : ℕ) (a b : State search) → AreAlike search.wild (awake_cluster a.cluster) (awake_cluster b.cluster)
      → IsReadyPoll search a.cluster r
      → IsReadyPoll search b.cluster r
  poll_too r a b alike p =
      let y = pair search r a.cluster b.cluster alike p.rank p.there in
      let sx = (a.good).stands r p.rank p.there in
      let sy = (b.good).stands r y.other y.there in
      let asks : asked y.other (hart r) ≡ Ask.Hub (request_by alike.0 p.q) =
      asks_too alike.0 (hart r) p.rank y.other sx sy y.alike ∙ ap (ask_by alike.0) p.asks in
      record {
        rank = y.other;
        there = y.there;
        light = light_too alike.0 (hart r) p.rank y.other sx sy y.alike ∙ p.light;
        q = request_by alike.0 p.q;
        asks = asks;
        ready = subst (IsReady (request_by alike.0 p.q))
            (sym (same_reply a.cluster.journal r p.q b.cluster.journal (request_by alike.0 p.q) search.wild alike.0
            (subst (AskWithin search.wild r) p.asks (p.within p.rank p.there).1)
            (subst (AskOfLive a.cluster) p.asks (asks_live search a r (hart r) p.rank p.there))
            (alike.1).hubs refl))
            (ready_named alike.0 p.q _ p.ready);
        within = within_too search r a b alike p.within;
      }

  poll_gone : (r : ℕ) (a : State search) (p : IsReadyPoll search a.cluster r) (b : State search)
      → Turn r (hart r) a.cluster b.cluster
      → Gone r (hart r) a.cluster b.cluster p.rank
  poll_gone r a p b turn = called p.q p.asks (call_of r (hart r) a.cluster b.cluster p.rank p.q p.there p.asks turn)

  one_poll : (r : ℕ) (a b c : State search) → IsReadyPoll search a.cluster r → Turn r (hart r) a.cluster b.cluster
      → Turn r (hart r) a.cluster c.cluster
      → AreAlike search.wild (awake_cluster b.cluster) (awake_cluster c.cluster)
  one_poll r a b c p one two =
      same_alike search.wild b.cluster c.cluster (b.good).boxes
      (same_turns r (hart r) a.cluster a.cluster b.cluster c.cluster p.rank p.rank
      (same_itself a.cluster) p.there p.there
      (ask_itself (hart r) p.rank) (subst IsOnly (sym p.asks) tt) (poll_gone r a p b one) (poll_gone r a p c two))

  pub polls_sure : ArePollsSure (cluster_machine search)
  polls_sure = record { alike = poll_too; one = one_poll }
