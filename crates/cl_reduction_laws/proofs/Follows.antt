-- Alike clusters go alike, within what may be asked.
use Rattle.std.proofs.Common.{◌≡◌, ◌∙◌, ℕ, ◌<◌, refl, sym, ap, subst, Bool, length, Option, Some, None}
use Rattle.std.specs.Prelude.{map}
use Rattle.std.specs.List.{slice_get}
use Rattle.std.proofs.lemmas.List.{length-map}
use Rattle.std.proofs.lemmas.Option.{same_Some}
use Rattle.rv_hart.specs.declared.state.Mode.{Mode}
use Rattle.rv_hart.specs.declared.state.Mode.TheVariants.{Running, Waiting, Ended, Trapped}
use Rattle.rv_hart.specs.declared.state.Wait.TheVariants.{Post, Again}
use Rattle.mp_types.specs.declared.requests.Request.{Request}
use Rattle.mp_types.specs.declared.requests.Request.TheVariants as request
use Rattle.mp_match.specs.Board.{Board}
use Rattle.mp_alike_laws.specs.Renaming.{Renaming, number_by, request_by}
use Rattle.mp_source_laws.specs.Alike.{Wild}
use Rattle.mp_source_laws.specs.Laws.{AsksWithin}
use Rattle.cl_names_laws.specs.Named.{ask_by, mode_by}
use Rattle.cl_names_laws.proofs.Asks.{doing_by, doing_named, part_named}
use Rattle.cl_state.specs.declared.asking.Ask.{Ask}
use Rattle.cl_state.specs.declared.asking.Doing.{Doing}
use Rattle.cl_state.specs.declared.asking.Doing.TheVariants.{Step, Refused, Go, Poll, Stopped}
use Rattle.cl_state.specs.Asked.{asked, doing, part_of}
use Rattle.cl_state.specs.Rank.{Rank}
use Rattle.cl_state_laws.specs.Awake.{StandsAtCall, awake, woken}
use Rattle.cl_state_laws.specs.Vain.{mode_of, waits_on}
use Rattle.cl_state_laws.proofs.Wakes.{does_awake, part_awake, wake_law}
use Rattle.cl_machine.specs.Cluster.{Cluster}
use Rattle.cl_order_laws.specs.Alike.{AlikeRanks, at_stamp, hub_of}
use Rattle.cl_order_laws.proofs.Likeness.{AreSound, each_from}
use Rattle.cl_order_laws.proofs.Ranks.{asked_alike, harts_alike}
use Rattle.cl_first_laws.specs.Below.{AreAlike, AskOfLive, AskWithin}
use Rattle.cl_first_laws.proofs.Below.{likeness_law}
use Rattle.cl_first_laws.proofs.Below.{asks_of_named, go_alike_law}
use Rattle.cl_first_laws.specs.Laws.{Turn}
use Rattle.cl_reduction_laws.specs.Complete.{polls_complete, polls_complete_in}
use Rattle.cl_reduction_laws.specs.Patterns.{IsAllowed, pattern_of, pattern_of_ask, pattern_of_request}
use Rattle.cl_reduction_laws.specs.Clusters.{IsWithin, Search, State, awake_cluster, may_be_awaited, weight_in, weight_of}
use Rattle.cl_reduction_laws.proofs.Complete.{polls_alike}
use Rattle.cl_reduction_laws.proofs.Naming.{asks_of_live, awaited_inside}
use Rattle.cl_reduction_laws.proofs.Awake.{clusters_awake, from_mapped, mapped}
use Rattle.cl_reduction_laws.proofs.Good.{good_after}
use Rattle.cl_reduction_laws.proofs.Machine.{asleep_twin, awake_twin, goes_too, same_alike, taken}

-- ---- alike ranks have the same pattern

-- by other names of posts a hart does the same
waits_same : (names : Renaming) (d : Doing) → waits_on (doing_by names d) ≡ waits_on d
waits_same names Step = refl
waits_same names (Refused c) = refl
waits_same names (Go c) = refl
waits_same names (Poll c post) = refl
waits_same names Stopped = refl

waits_alike : (names : Renaming) (hart : ℕ) (x y : Rank) → AlikeRanks names x y
    → waits_on (doing y.site (part_of y hart)) ≡ waits_on (doing x.site (part_of x hart))
waits_alike names hart x y alike =
    ap (λ (z : Rank). waits_on (doing z.site (part_of z hart))) alike.1
    ∙ ap (λ p. waits_on (doing x.site p)) (part_named names (number_by names) x hart)
    ∙ ap waits_on (doing_named names (number_by names) x.site (part_of x hart))
    ∙ waits_same names (doing x.site (part_of x hart))

pattern_same : (names : Renaming) (w : Bool) (a : Ask) → pattern_of_ask w (ask_by names a) ≡ pattern_of_ask w a
pattern_same names w (Ask.Hub q) = go q
  where
    go : (q : Request) → pattern_of_request w (request_by names q) ≡ pattern_of_request w q
    go (request.Send sync comm dest tag bytes) = refl
    go (request.Recv now comm source tag) = refl
    go (request.Collect n) = refl
    go (request.Finished n) = refl
    go (request.Probe comm source tag) = refl
    go (request.Claim comm source tag) = refl
    go (request.Claimed now n) = refl
    go (request.All ns) = refl
    go (request.Init sends comm peer tag parts size) = refl
    go (request.Cut link) = refl
pattern_same names w Ask.Plain = refl
pattern_same names w Ask.Local = refl
pattern_same names w Ask.Idle = refl
pattern_same names w Ask.Held = refl
pattern_same names w (Ask.Ready link part bytes) = refl
pattern_same names w (Ask.Look link part) = refl
pattern_same names w (Ask.Freed link part) = refl

within_same : (wild : Wild) (names : Renaming) (r : ℕ) (a : Ask) → AskWithin wild r a → AskWithin wild r (ask_by names a)
within_same wild names r (Ask.Hub q) is = go q is
  where
    go : (q : Request) → AsksWithin wild r q → AsksWithin wild r (request_by names q)
    go (request.Send sync comm dest tag bytes) is = tt
    go (request.Recv now comm source tag) is = is
    go (request.Collect n) is = tt
    go (request.Finished n) is = tt
    go (request.Probe comm source tag) is = is
    go (request.Claim comm source tag) is = is
    go (request.Claimed now n) is = tt
    go (request.All ns) is = tt
    go (request.Init sends comm peer tag parts size) is = tt
    go (request.Cut link) is = tt
within_same wild names r Ask.Plain is = tt
within_same wild names r Ask.Local is = tt
within_same wild names r Ask.Idle is = tt
within_same wild names r Ask.Held is = tt
within_same wild names r (Ask.Ready link part bytes) is = tt
within_same wild names r (Ask.Look link part) is = tt
within_same wild names r (Ask.Freed link part) is = tt

-- ---- ranks that are alike once awake

module _ (names : Renaming) (hart : ℕ) (x y : Rank) (sx : StandsAtCall x hart) (sy : StandsAtCall y hart)
    (alike : AlikeRanks names (awake x) (awake y)) where
  pub asks_too : asked y hart ≡ ask_by names (asked x hart)
  asks_too =
      sym ((wake_law.asks) y hart sy) ∙ asked_alike names (awake x) (awake y) alike hart
      ∙ ap (ask_by names) ((wake_law.asks) x hart sx)

  pub waits_too : waits_on (doing y.site (part_of y hart)) ≡ waits_on (doing x.site (part_of x hart))
  waits_too =
      ap waits_on (sym (does_awake y hart sy))
      ∙ waits_alike names hart (awake x) (awake y) alike
      ∙ ap waits_on (does_awake x hart sx)

  pub pattern_too : pattern_of y hart ≡ pattern_of x hart
  pattern_too =
      ap (λ w. pattern_of_ask w (asked y hart)) waits_too
      ∙ ap (pattern_of_ask (waits_on (doing x.site (part_of x hart)))) asks_too
      ∙ pattern_same names (waits_on (doing x.site (part_of x hart))) (asked x hart)

  pub polls_too : polls_complete y hart ≡ polls_complete x hart
  polls_too =
      ap (polls_complete_in y.memory y.requests) (sym (does_awake y hart sy))
      ∙ polls_alike names hart (awake x) (awake y) alike
      ∙ ap (polls_complete_in x.memory x.requests) (does_awake x hart sx)

  pub inside_too : hart < length x.harts → hart < length y.harts
  inside_too inside =
      subst (λ n. hart < n)
      (sym (length-map x.harts _) ∙ sym (harts_alike names (awake x) (awake y) alike) ∙ length-map y.harts _) inside

  -- a poll of its own post is one by other names
  pub light_too : weight_in (mode_of y hart) ≡ weight_in (mode_of x hart)
  light_too =
      sym (unwoken (mode_of y hart)) ∙ ap (λ p. weight_in p.hart.mode) (sym (part_awake y hart))
      ∙ ap (λ (z : Rank). weight_in (mode_of z hart)) alike.1
      ∙ ap (λ p. weight_in p.hart.mode) (part_named names (number_by names) (awake x) hart)
      ∙ named (mode_of (awake x) hart)
      ∙ ap (λ p. weight_in p.hart.mode) (part_awake x hart) ∙ unwoken (mode_of x hart)
    where
      unwoken : (m : Mode) → weight_in (woken m) ≡ weight_in m
      unwoken Running = refl
      unwoken (Waiting Again) = refl
      unwoken (Waiting (Post post)) = refl
      unwoken (Ended value) = refl
      unwoken (Trapped cause pc) = refl

      named : (m : Mode) → weight_in (mode_by names m) ≡ weight_in m
      named Running = refl
      named (Waiting Again) = refl
      named (Waiting (Post post)) = refl
      named (Ended value) = refl
      named (Trapped cause pc) = refl

-- ---- clusters that are alike once awake

-- the rank that corresponds
pub record Pair (search : Search) (r : ℕ) (a b : Cluster) (names : Renaming) (x : Rank) : Type 0 where
  pub other : Rank
  pub there : slice_get b.ranks r ≡ Some other
  pub alike : AlikeRanks names (awake x) (awake other)

module _ (search : Search) where
  pub pair : (r : ℕ) (a b : Cluster) (k : AreAlike search.wild (awake_cluster a) (awake_cluster b)) (x : Rank)
      → slice_get a.ranks r ≡ Some x → Pair search r a b k.0 x
  pair r a b k x there =
      let v = ((k.1).ranks).each r (awake x) (mapped awake a.ranks r x there) in
      let f = from_mapped awake b.ranks r v.0 v.1 in
      record { other = f.0; there = f.1; alike = subst (AlikeRanks k.0 (awake x)) (sym f.2) v.2 }

  -- and the one that it comes from
  pub pair_from : (r : ℕ) (a b : Cluster) (k : AreAlike search.wild (awake_cluster a) (awake_cluster b)) (y : Rank)
      → slice_get b.ranks r ≡ Some y
      → (x : Rank) × (slice_get a.ranks r ≡ Some x) × AlikeRanks k.0 (awake x) (awake y)
  pair_from r a b k y there =
      let v = each_from (k.1).ranks r (awake y) (mapped awake b.ranks r y there) in
      let f = from_mapped awake a.ranks r v.0 v.1 in
      (f.0, f.1, subst (λ z. AlikeRanks k.0 z (awake y)) (sym f.2) v.2)

  pub within_too : (r : ℕ) (a b : State search) → AreAlike search.wild (awake_cluster a.cluster) (awake_cluster b.cluster)
      → IsWithin search a.cluster r → IsWithin search b.cluster r
  within_too r a b k within y there =
      let f = pair_from r a.cluster b.cluster k y there in
      let sx = (a.good).stands r f.0 f.1 in
      let sy = (b.good).stands r y there in
      let old = within f.0 f.1 in (
        subst (IsAllowed search.patterns r) (sym (pattern_too k.0 (search.harts r) f.0 y sx sy f.2)) old.0,
        subst (AskWithin search.wild r) (sym (asks_too k.0 (search.harts r) f.0 y sx sy f.2))
            (within_same search.wild k.0 r (asked f.0 (search.harts r)) old.1),
        λ polls. old.2 (sym (polls_too k.0 (search.harts r) f.0 y sx sy f.2) ∙ polls),
      )

  pub weight_too : (r : ℕ) (a b : State search) → AreAlike search.wild (awake_cluster a.cluster) (awake_cluster b.cluster)
      → weight_of (slice_get b.cluster.ranks r) (search.harts r) ≡ weight_of (slice_get a.cluster.ranks r) (search.harts r)
  weight_too r a b k = go (slice_get b.cluster.ranks r) refl (slice_get a.cluster.ranks r) refl
    where
      go : (o : Option Rank) → slice_get b.cluster.ranks r ≡ o → (p : Option Rank) → slice_get a.cluster.ranks r ≡ p
          → weight_of o (search.harts r) ≡ weight_of p (search.harts r)
      go None e None f = refl
      go None e (Some x) f =
          (let v = pair r a.cluster b.cluster k x f in let u = sym e ∙ v.there in absurd (cc))
      go (Some y) e None f =
          (let v = pair_from r a.cluster b.cluster k y e in let u = sym f ∙ v.1 in absurd (cc))
      go (Some y) e (Some x) f =
          let v = pair_from r a.cluster b.cluster k y e in
          let same : v.0 ≡ x = same_Some v.0 x (sym v.1 ∙ f) in
          light_too k.0 (search.harts r) x y ((a.good).stands r x f) ((b.good).stands r y e)
          (subst (λ z. AlikeRanks k.0 (awake z) (awake y)) same v.2)

  -- what a rank asks about isn't a send that is over
  pub asks_live : (a : State search) (r hart : ℕ) (x : Rank) → slice_get a.cluster.ranks r ≡ Some x
      → AskOfLive (awake_cluster a.cluster) (asked x hart)
  asks_live a r hart x here = go (asked x hart) refl
    where
      board : Board
      board = (hub_of a.cluster.journal).board

      go : (q : Ask) → asked x hart ≡ q → AskOfLive (awake_cluster a.cluster) q
      go (Ask.Hub q) is =
          asks_of_live board q
          (asks_of_named (may_be_awaited board.lines) (length board.lines) (awaited_inside board.lines) x hart q
          ((a.good).names r x here).awaits is)
      go Ask.Plain is = tt
      go Ask.Local is = tt
      go Ask.Held is = tt
      go Ask.Idle is = tt
      go (Ask.Ready link part bytes) is = tt
      go (Ask.Look link part) is = tt
      go (Ask.Freed link part) is = tt

  pub record Followed (r : ℕ) (b c : State search) : Type 0 where
    pub there : State search
    pub goes : Turn r (search.harts r) b.cluster there.cluster
    pub alike : AreAlike search.wild (awake_cluster c.cluster) (awake_cluster there.cluster)

  pub follows : (r : ℕ) (a b c : State search) → AreAlike search.wild (awake_cluster a.cluster) (awake_cluster b.cluster)
      → IsWithin search a.cluster r → Turn r (search.harts r) a.cluster c.cluster
      → Followed r b c
  follows r a b c k within turn =
      let h = search.harts r in
      let t = taken r h a.cluster c.cluster turn in
      let x = t.rank in
      let sx = (a.good).stands r x t.there in
      -- awake, it goes as it does
      let there_awake = mapped awake a.cluster.ranks r x t.there in
      let same_ask = (wake_law.asks) x h sx in
      let w = goes_too r h a.cluster c.cluster (map awake a.cluster.ranks) x (awake x) t.there
      (awake_twin r h a.cluster x t.there sx t.inside) turn in
      -- and the other, awake, goes alike
      let e = (w.turn).step in
      let g = go_alike_law search.wild k.0 (awake_cluster a.cluster) (awake_cluster b.cluster) w.then e (awake x) k.1
      (ap (slice_get (map awake a.cluster.ranks)) (w.turn).rank ∙ there_awake)
      (subst (λ i. AskWithin search.wild i (asked (awake x) e.hart)) (sym (w.turn).rank)
      (subst (λ j. AskWithin search.wild r (asked (awake x) j)) (sym (w.turn).hart)
      (subst (AskWithin search.wild r) (sym same_ask) (within x t.there).1)))
      (subst (λ j. AskOfLive (awake_cluster a.cluster) (asked (awake x) j)) (sym (w.turn).hart)
      (subst (AskOfLive (awake_cluster a.cluster)) (sym same_ask) (asks_live a r h x t.there)))
      (w.turn).leads in
      let turn_b : Turn r h (awake_cluster b.cluster) g.1 =
      record { step = at_stamp e g.0; rank = (w.turn).rank; hart = (w.turn).hart; leads = g.2 } in
      -- as it does itself
      let p = pair r a.cluster b.cluster k x t.there in
      let y = p.other in
      let sy = (b.good).stands r y p.there in
      let u = goes_too r h (awake_cluster b.cluster) g.1 b.cluster.ranks (awake y) y
      (mapped awake b.cluster.ranks r y p.there)
      (asleep_twin r h b.cluster y p.there sy (inside_too k.0 h x y sx sy p.alike t.inside)) turn_b in
      let good_d = good_after search r b.cluster u.then y p.there b.good (within_too r a b k within) u.turn in
      let law = likeness_law in
      record {
        there = record { cluster = u.then; good = good_d };
        goes = u.turn;
        alike = law.on search.wild (awake_cluster c.cluster) (awake_cluster w.then) (awake_cluster u.then)
            (same_alike search.wild c.cluster w.then (c.good).boxes w.same)
            (law.on search.wild (awake_cluster w.then) (awake_cluster g.1) (awake_cluster u.then)
            (clusters_awake search.wild w.then g.1 (k.0, g.3))
            (same_alike search.wild g.1 u.then (subst AreSound (u.same).boxes good_d.boxes) u.same));
      }
