-- What a hart waits for is the same in alike clusters.
use Rattle.std.proofs.Common.{◌≡◌, ◌∙◌, ℕ, zero, suc, ◌<◌, refl, ap, Bool, true, false, not, List, [], ◌∷◌, ◌++◌, map, Option, Some, None}
use Rattle.std.specs.Prelude.{◌&&◌, get_or, if◌then◌else◌, option_to_list}
use Rattle.std.specs.List.{list_all, slice_get}
use Rattle.std.specs.Option.{is_some, option_map}
use Rattle.std.proofs.lemmas.Bool.{and_parts}
use Rattle.mp_types.specs.declared.requests.Request.{Request}
use Rattle.mp_types.specs.declared.requests.Request.TheVariants as request
use Rattle.mp_match.specs.declared.posts.Line.{Line}
use Rattle.mp_match.specs.Board.{is_send_of, line_of, partner_of}
use Rattle.mp_match.specs.Live.{post_in}
use Rattle.mp_hub.specs.Hub.{HubView, are_distinct, is_complete, is_known, is_ready, may_collect}
use Rattle.mp_hub.specs.Vain.{asks_in_vain}
use Rattle.mp_request.specs.declared.entries.OpenRequest.{OpenRequest}
use Rattle.mp_request.specs.Table.{request_at}
use Rattle.mp_wait_laws.proofs.Owned.{AreOwned}
use Rattle.mp_alike_laws.specs.Renaming.{Renaming, line_by, number_by, request_by}
use Rattle.mp_source_laws.specs.Alike.{AlikeHubs, Wild}
use Rattle.mp_source_laws.specs.Laws.{AsksOfLive, IsNoOverSend}
use Rattle.mp_source_laws.proofs.Named.{AreSame, IsSame, all_known_same, collects_same, line_named, over_sends_no_receive, ready_named, sent_same}
use Rattle.part_box.specs.declared.settled.Settled.{Settled}
use Rattle.cl_calls.specs.declared.calls.Call.{Call}
use Rattle.cl_calls.specs.declared.calls.Call.TheVariants as call
use Rattle.cl_calls.specs.Calls.{call_named}
use Rattle.cl_calls.specs.Checks.{sending_side}
use Rattle.cl_state.specs.declared.asking.Ask.{Ask}
use Rattle.cl_state.specs.declared.asking.Ask.TheVariants as ask
use Rattle.cl_state.specs.Asked.{asked, no_hart, part_of}
use Rattle.cl_state.specs.Rank.{Rank}
use Rattle.cl_state_laws.specs.VainLaws.{at_clock}
use Rattle.cl_names_laws.specs.Named.{ask_by, open_by, rank_by}
use Rattle.cl_names_laws.proofs.Asks.{part_named}
use Rattle.cl_names_laws.proofs.Tables.{request_named}
use Rattle.cl_order_laws.specs.Alike.{AlikeRanks}
use Rattle.cl_order_laws.proofs.Ranks.{asked_alike}
use Rattle.rvmc_inspect.specs.Waits.{asked_waits, box_is_full, hub_waits, line_waits, own_wait, partition_wait, request_waits, shape_wait, side_wait, taken_wait, unready_wait, unready_waits, waits}

-- what a hart asks of a hub and of boxes: about no send that is over, and about a partition that a link has
abbrev pub MayAsk : HubView → Ask → Type 0
MayAsk h (ask.Hub q) = AsksOfLive h.board q
MayAsk h (ask.Look link part) = part < 16
MayAsk h (ask.Freed link part) = part < 16
MayAsk h _ = Unit {0}

-- ---- at the hub

module _ {wild : Wild} (names : Renaming) (h k : HubView) (alike : AlikeHubs wild names h k) (owned : AreOwned h)
    (vain_same : (rank : ℕ) (q : Request) → AsksOfLive h.board q
    → asks_in_vain k rank (request_by names q) ≡ asks_in_vain h rank q) where
  line_waits_by : (o : Option Line) → line_waits (post_in (option_map (line_by names) o)) ≡ line_waits (post_in o)
  line_waits_by None = refl
  line_waits_by (Some line) = refl

  unready_same : (rank n : ℕ) → IsNoOverSend h.board n → IsSame names h.board k.board n
      → unready_wait k rank (number_by names n) ≡ unready_wait h rank n
  unready_same rank n live same =
      ap (λ b. if b then [] else line_waits (post_in (line_of k.board (number_by names n))))
      (ready_named names h k alike owned rank n live)
      ∙ ap (λ found. if is_ready h rank n then [] else found)
      (ap (λ o. line_waits (post_in o)) (line_named names h.board k.board alike.board n same)
      ∙ line_waits_by (line_of h.board n))

  all_unready_same : (rank : ℕ) (ns : List ℕ) → ((i n : ℕ) → slice_get ns i ≡ Some n → IsNoOverSend h.board n)
      → AreSame names h.board k.board ns
      → unready_waits k rank (map (number_by names) ns) ≡ unready_waits h rank ns
  all_unready_same rank [] live same = refl
  all_unready_same rank (n ∷ ns) live same =
      λ i. unready_same rank n (live 0 n refl) same.0 i ++ all_unready_same rank ns (λ j. live (suc j)) same.1 i

  -- what may be collected is no send
  collects_live : (rank n : ℕ) → may_collect h rank n ≡ true → IsNoOverSend h.board n
  collects_live rank zero may = tt
  collects_live rank (suc place) may = λ over. (let no = over_sends_no_receive h.board rank place over in absurd (cc))

  request_waits_same : (rank : ℕ) (q : Request) → AsksOfLive h.board q → asks_in_vain h rank q ≡ true
      → request_waits k rank (request_by names q) ≡ request_waits h rank q
  request_waits_same rank (request.Collect n) live vain =
      let may = (and_parts (may_collect h rank n) (not (is_some (partner_of h.board n))) vain).0 in
      unready_same rank n (collects_live rank n may) (collects_same names h k alike owned rank n may)
  request_waits_same rank (request.Finished n) live vain =
      unready_same rank n live (sent_same names h.board k.board alike.board rank n live
      (and_parts (is_send_of rank (line_of h.board n)) (not (is_complete h n)) vain).0)
  request_waits_same rank (request.Probe comm source tag) live vain = refl
  request_waits_same rank (request.Claim comm source tag) live vain = refl
  request_waits_same rank (request.All ns) live vain =
      let asks =
      and_parts (are_distinct ns && list_all (λ n. is_known h rank n) ns) (not (list_all (λ n. is_ready h rank n) ns)) vain in
      let known = and_parts (are_distinct ns) (list_all (λ n. is_known h rank n) ns) asks.0 in
      all_unready_same rank ns live (all_known_same names h k alike owned rank ns live known.1)
  request_waits_same rank (request.Cut link) live vain =
      ap (λ ls. option_to_list (shape_wait ls link)) alike.links
  request_waits_same rank (request.Send sync comm dest tag bytes) live vain = refl
  request_waits_same rank (request.Recv now comm source tag) live vain = refl
  request_waits_same rank (request.Claimed now message) live vain = refl
  request_waits_same rank (request.Init sends comm peer tag parts size) live vain = refl

  hub_waits_same : (rank : ℕ) (q : Request) → AsksOfLive h.board q
      → hub_waits k rank (request_by names q) ≡ hub_waits h rank q
  hub_waits_same rank q live =
      ap (λ b. if b then request_waits k rank (request_by names q) else []) (vain_same rank q live)
      ∙ go (asks_in_vain h rank q) refl
    where
      go : (b : Bool) → asks_in_vain h rank q ≡ b
          → (if b then request_waits k rank (request_by names q) else []) ≡ (if b then request_waits h rank q else [])
      go true vain = request_waits_same rank q live vain
      go false vain = refl

  -- ---- a hart

  side_by : (o : Option OpenRequest) → sending_side (option_map (open_by names) o) ≡ sending_side o
  side_by None = refl
  side_by (Some r) = refl

  own_wait_same : (x y : Rank) → AlikeRanks names x y → (c : Call) → own_wait y c ≡ own_wait x c
  own_wait_same x y both c = ap (λ z. own_wait z c) both.1 ∙ go c
    where
      go : (c : Call) → own_wait (at_clock (rank_by names x) both.0) c ≡ own_wait x c
      go (call.Wait w) =
          ap (λ o. side_wait x.phases (sending_side o)) (request_named names (number_by names) x.requests w.handle)
          ∙ ap (side_wait x.phases) (side_by (request_at x.requests w.handle))
      go _ = refl

  call_same : (x y : Rank) → AlikeRanks names x y → (hart : ℕ)
      → call_named (get_or y.harts hart no_hart) ≡ call_named (get_or x.harts hart no_hart)
  call_same x y both hart =
      ap (λ (z : Rank). call_named (part_of z hart).hart) both.1 ∙ ap (λ p. call_named p.hart) (part_named names (number_by names) x hart)

  module _ (left right : List (List Settled))
      (boxes : (link part : ℕ) → part < 16 → box_is_full right link part ≡ box_is_full left link part) where
    asked_waits_same : (x y : Rank) → AlikeRanks names x y → (c : Call) (a : Ask) → MayAsk h a
        → asked_waits k right y c (ask_by names a) ≡ asked_waits h left x c a
    asked_waits_same x y both c (ask.Hub q) may =
        ap (λ (z : Rank). hub_waits k z.site.number (request_by names q)) both.1 ∙ hub_waits_same x.site.number q may
    asked_waits_same x y both c (ask.Look link part) may =
        ap (λ b. if b then [] else option_to_list (partition_wait k.links link part)) (boxes link part may)
        ∙ ap (λ ls. if box_is_full left link part then [] else option_to_list (partition_wait ls link part)) alike.links
    asked_waits_same x y both c (ask.Freed link part) may =
        ap (λ b. if b then option_to_list (taken_wait k.links link part) else []) (boxes link part may)
        ∙ ap (λ ls. if box_is_full left link part then option_to_list (taken_wait ls link part) else []) alike.links
    asked_waits_same x y both c ask.Held may = ap option_to_list (own_wait_same x y both c)
    asked_waits_same x y both c ask.Plain may = refl
    asked_waits_same x y both c ask.Local may = refl
    asked_waits_same x y both c ask.Idle may = refl
    asked_waits_same x y both c (ask.Ready link part bytes) may = refl

    pub waits_same : (x y : Rank) → AlikeRanks names x y → (hart : ℕ) → MayAsk h (asked x hart)
        → waits k right y hart ≡ waits h left x hart
    unfolding waits
    waits_same x y both hart may =
        ap (λ c. asked_waits k right y c (asked y hart)) (call_same x y both hart)
        ∙ ap (asked_waits k right y (call_named (get_or x.harts hart no_hart))) (asked_alike names x y both hart)
        ∙ asked_waits_same x y both (call_named (get_or x.harts hart no_hart)) (asked x hart) may
