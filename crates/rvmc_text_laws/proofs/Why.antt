-- Alike states have one text.
use Rattle.std.proofs.Common.{◌≡◌, ◌∙◌, ℕ, ◌<◌, refl, sym, ap, subst, Bool, List, map, length, Option, Some, None, ◌++◌}
use Rattle.std.specs.Prelude.{codes}
use Rattle.std.specs.List.{filter, slice_get}
use Rattle.std.proofs.lemmas.List.{length-map}
use Rattle.rv_image_types.specs.Image.{IsImage}
use Rattle.rv_image_types.specs.declared.images.ImageParts.{ImageParts}
use Rattle.mp_types.specs.declared.requests.Request.{Request}
use Rattle.mp_hub.specs.Hub.{HubView, hub_after}
use Rattle.mp_hub.specs.Vain.{asks_in_vain}
use Rattle.mp_alike_laws.specs.Renaming.{Renaming, request_by}
use Rattle.mp_source_laws.specs.Alike.{AlikeHubs}
use Rattle.mp_source_laws.specs.Laws.{AsksOfLive}
use Rattle.mp_wait_laws.proofs.Owned.{AreOwned, owned_after}
use Rattle.cl_journal.specs.Journal.{calls_of}
use Rattle.cl_state.specs.declared.asking.Ask.{Ask}
use Rattle.cl_state.specs.declared.asking.Ask.TheVariants as ask
use Rattle.cl_state.specs.Asked.{asked}
use Rattle.cl_state.specs.Rank.{Rank, loaded}
use Rattle.cl_state.specs.Room.{rank_of}
use Rattle.cl_deeds.specs.Alone.{IsAlone}
use Rattle.cl_deeds.specs.Deeds.{Deed}
use Rattle.cl_machine.specs.Cluster.{Cluster}
use Rattle.cl_deadlock.specs.Why.{IsDeadlockVerdict}
use Rattle.cl_deadlock_laws.specs.Stuck.{IsReachable}
use Rattle.cl_deadlock_laws.proofs.Boxes.{freed_low, look_low}
use Rattle.cl_deadlock_laws.proofs.Reached.{comes_reached}
use Rattle.cl_order_laws.specs.Alike.{AlikeRanks, hub_of}
use Rattle.cl_reduction_laws.specs.Below.{AskOfLive}
use Rattle.cl_replay.specs.States.{ClusterStandsFor}
use Rattle.cl_replay.specs.declared.states.ClusterState.{ClusterState}
use Rattle.cl_verdict_laws.proofs.Asking.{asking_law}
use Rattle.cl_verdict_laws.proofs.Live.{live_law}
use Rattle.cl_rest_laws.proofs.Unpaired.{unpaired_law}
use Rattle.cl_verdict_laws.proofs.Verdicts.{verdict_law}
use Rattle.rvmc_inspect.specs.Below.{newline}
use Rattle.rvmc_inspect.specs.Unreceived.{unreceived_text}
use Rattle.rvmc_inspect.specs.Waits.{box_is_full}
use Rattle.rvmc_inspect.specs.Why.{all_harts_text, deadlock_verdict_text, is_live_at, live_ranks, rank_names}
use Rattle.rvmc_inspect.proofs.Live.{live_over}
use Rattle.rvmc_text_laws.specs.Laws.{AreAlikeStates, WhyLaw}
use Rattle.rvmc_text_laws.proofs.Boxes.{box_same}
use Rattle.rvmc_text_laws.proofs.Lines.{WaitSame, lines_of_states, lines_same, rank_lines}
use Rattle.rvmc_text_laws.proofs.Live.{live_same}
use Rattle.rvmc_text_laws.proofs.Unreceived.{unreceived_same}
use Rattle.rvmc_text_laws.proofs.Waits.{MayAsk, waits_same}

-- the hub of a state is the cluster's
hub_is : (image : ImageParts) (state : ClusterState) (cluster : Cluster) → ClusterStandsFor image state cluster
    → state.hub ≡ hub_of cluster.journal
hub_is image state cluster stands =
    stands.hub_stands ∙ ap (λ ls. hub_after ls (calls_of cluster.journal.entries)) (sym (stands.of).links)

module _ (image : ImageParts) (s t : ClusterState) (alike : AreAlikeStates image s t) where
  abbrev a : Cluster
  a = alike.one

  abbrev b : Cluster
  b = alike.other

  abbrev names : Renaming
  names = (alike.alike).0

  abbrev h : HubView
  h = hub_of a.journal

  abbrev k : HubView
  k = hub_of b.journal

  hubs : AlikeHubs alike.wild names h k
  hubs = ((alike.alike).1).hubs

  owned : AreOwned h
  owned = owned_after a.journal.links (calls_of a.journal.entries)

  vain_same : (rank : ℕ) (q : Request) → AsksOfLive h.board q
      → asks_in_vain k rank (request_by names q) ≡ asks_in_vain h rank q
  vain_same rank q live =
      (asking_law.vain) alike.wild names a.journal.links b.journal.links (calls_of a.journal.entries)
      (calls_of b.journal.entries) rank q live hubs

  boxes : (link part : ℕ) → part < 16 → box_is_full t.boxes.items link part ≡ box_is_full s.boxes.items link part
  boxes =
      box_same image s.boxes.items t.boxes.items a.boxes b.boxes ((alike.first).stands).boxes_show
      ((alike.second).stands).boxes_show ((alike.alike).1).boxes

  -- ---- the harts

  may_ask : (r : ℕ) (x : Rank) → slice_get a.ranks r ≡ Some x → (hart : ℕ) → MayAsk h (asked x hart)
  may_ask r x there hart = go (asked x hart) refl
    where
      reached : IsReachable image a
      reached = (alike.first).reached

      came : (ds : List Deed) × IsAlone (loaded image r) ds x
      came = (comes_reached image reached.0 a reached.1).alone r x there

      go : (q : Ask) → asked x hart ≡ q → MayAsk h (asked x hart)
      go (ask.Hub q) is = subst (MayAsk h) (sym is) (subst (AskOfLive a) is (live_law image a reached r x hart there))
      go (ask.Look link part) is =
          subst (MayAsk h) (sym is) (look_low image r came.0 x hart came.1 link part is)
      go (ask.Freed link part) is =
          subst (MayAsk h) (sym is) (freed_low image r came.0 x hart came.1 link part is)
      go ask.Plain is = subst (MayAsk h) (sym is) tt
      go ask.Local is = subst (MayAsk h) (sym is) tt
      go ask.Held is = subst (MayAsk h) (sym is) tt
      go ask.Idle is = subst (MayAsk h) (sym is) tt
      go (ask.Ready link part bytes) is = subst (MayAsk h) (sym is) tt

  each_same : (r : ℕ) (x : Rank) → slice_get a.ranks r ≡ Some x
      → (y : Rank) × (slice_get b.ranks r ≡ Some y) × AlikeRanks names x y
      × WaitSame h k s.boxes.items t.boxes.items x y
  each_same r x there =
      let v = (((alike.alike).1).ranks).each r x there in (
        v.0,
        v.1,
        v.2,
        λ hart. waits_same names h k hubs owned vain_same s.boxes.items t.boxes.items boxes x v.0 v.2 hart
            (may_ask r x there hart),
      )

  many_same : length b.ranks ≡ length a.ranks
  many_same = (((alike.alike).1).ranks).many

  module _ (framed : Bool) where
    -- the text of a state's harts, over its cluster
    over : (state : ClusterState) (cluster : Cluster) → ClusterStandsFor image state cluster
        → all_harts_text framed image state
        ≡ rank_lines framed image.symbols (hub_of cluster.journal) state.boxes.items 0 cluster.ranks
    over state cluster stands =
        lines_of_states framed image.symbols state.hub state.boxes.items 0 state.ranks.items
        ∙ ap (λ hub. rank_lines framed image.symbols hub state.boxes.items 0 (map rank_of state.ranks.items))
        (hub_is image state cluster stands)
        ∙ ap (rank_lines framed image.symbols (hub_of cluster.journal) state.boxes.items 0) (sym stands.ranks_are)

    harts_same : all_harts_text framed image t ≡ all_harts_text framed image s
    harts_same =
        over t b (alike.second).stands
        ∙ lines_same names framed image.symbols h k s.boxes.items t.boxes.items 0 a.ranks b.ranks (many_same, each_same)
        ∙ sym (over s a (alike.first).stands)

  -- ---- the messages that weren't received

  count_is : (state : ClusterState) (cluster : Cluster) → ClusterStandsFor image state cluster
      → length state.ranks.items ≡ length cluster.ranks
  count_is state cluster stands =
      sym (length-map state.ranks.items rank_of) ∙ ap (λ (rs : List Rank). length rs) (sym stands.ranks_are)

  untaken_same : unreceived_text (length t.ranks.items) t.hub.board.lines
      ≡ unreceived_text (length s.ranks.items) s.hub.board.lines
  untaken_same =
      ap (λ n. unreceived_text n t.hub.board.lines)
      (count_is t b (alike.second).stands ∙ many_same ∙ sym (count_is s a (alike.first).stands))
      ∙ ap (λ (g : HubView). unreceived_text (length s.ranks.items) g.board.lines) (hub_is image t b (alike.second).stands)
      ∙ unreceived_same h.board.lines k.board.lines (λ p. unpaired_law alike.wild names h k p hubs) (length s.ranks.items)
      ∙ sym (ap (λ (g : HubView). unreceived_text (length s.ranks.items) g.board.lines)
      (hub_is image s a (alike.first).stands))

  -- ---- the verdict

  verdict_same : IsImage image → (one other : Option (List ℕ)) → IsDeadlockVerdict s one → IsDeadlockVerdict t other
      → one ≡ other
  verdict_same right one other found also =
      (verdict_law.verdict) image alike.wild a b one other (alike.first).reached (alike.second).reached alike.alike
      (found image a (record { right = right; reached = (alike.first).reached; stands = (alike.first).stands }))
      (also image b (record { right = right; reached = (alike.second).reached; stands = (alike.second).stands }))

  each_live_same : (r : ℕ) → is_live_at (slice_get t.ranks.items r) ≡ is_live_at (slice_get s.ranks.items r)
  each_live_same r =
      live_over t.ranks.items b.ranks ((alike.second).stands).ranks_are r
      ∙ live_same names a.ranks b.ranks ((alike.alike).1).ranks r
      ∙ sym (live_over s.ranks.items a.ranks ((alike.first).stands).ranks_are r)

  -- the same ranks are named
  live_ranks_same : (ranks : List ℕ) → live_ranks t ranks ≡ live_ranks s ranks
  live_ranks_same ranks = λ i. filter (λ r. each_live_same r i) ranks

  named_same : (found : Option (List ℕ)) → deadlock_verdict_text t found ≡ deadlock_verdict_text s found
  named_same None = refl
  named_same (Some ranks) = λ i. codes "deadlock: " ++ (rank_names (live_ranks_same ranks i) ++ newline)

  verdict_text_same : IsImage image → (one other : Option (List ℕ)) → IsDeadlockVerdict s one → IsDeadlockVerdict t other
      → deadlock_verdict_text s one ≡ deadlock_verdict_text t other
  verdict_text_same right one other found also =
      ap (deadlock_verdict_text s) (verdict_same right one other found also) ∙ sym (named_same other)

pub why_law : WhyLaw
why_law framed image s t x y right alike one two =
    one.is
    ∙ (λ i. sym (harts_same image s t alike framed) i
    ++ (sym (untaken_same image s t alike) i
    ++ verdict_text_same image s t alike right one.found two.found one.verdict two.verdict i))
    ∙ sym two.is
