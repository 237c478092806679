-- A run that is under way, slot by slot.
use Rattle.std.specs.Prelude.{ℕ, ◌≡◌, ◌≢◌, ◌+◌, List, [], ◌∷◌, ◌++◌, map, eqb, slice_get, slice_set, None, Some}
use Rattle.std.specs.Prelude.{option_map}
use Rattle.std.proofs.Common.{sym, ap, ◌∙◌, subst}
use Rattle.std.proofs.lemmas.Bool.Decides.{eqb_tells}
use Rattle.std.proofs.lemmas.List.{map-append, map-set}
use Rattle.std.proofs.lemmas.Option.{same_Some, slice_get-map}
use mathlib.Core.Logic.{inl, inr}
use Rattle.rv_image_types.specs.declared.images.ImageParts.{ImageParts}
use Rattle.rv_image_types.specs.declared.images.Link.{Link}
use Rattle.cl_journal.specs.Replaying.{HubHistory}
use Rattle.cl_deeds.specs.Turns.{AllStopped}
use Rattle.cl_calls.specs.declared.sites.Site.{Site}
use Rattle.cl_state.specs.Rank.{Rank, site_of}
use Rattle.cl_state.proofs.Moves.{told_at}
use Rattle.cl_deeds.specs.Deeds.{answer_of}
use Rattle.cl_rank.specs.Turning.{Answered}
use Rattle.cl_rank.specs.Sides.{box_id_of}
use Rattle.cl_rank.specs.RankSides.{KeysMove}
use Rattle.cl_machine.specs.Boxes.{Box}
use Rattle.cl_machine.specs.PartRuns.{PartsMove}
use Rattle.cl_run.specs.Runs.{NoneIdles}
use Rattle.cl_record.specs.declared.plans.Plan.{Plan}
use Rattle.cl_machine.specs.declared.steps.Step.{Step}
use Rattle.cl_machine.specs.Cluster.{Cluster, IsRun, IsStep, loaded_cluster}
use Rattle.cl_record.specs.Seats.{Station, Stops, TakesTurn}
use Rattle.cl_run.specs.Driver.{Agree, IsStoppedAt}
use Rattle.cl_record.specs.BoxKeys.{HasKeysOf}
use Rattle.cl_deeds.specs.Orders.{in_slot}
use Rattle.cl_machine.specs.Product.{box_at}
use Rattle.cl_machine.specs.ProductSteps.{BoxMoves, step_of}
use Rattle.cl_run.specs.UnderWay.{AreBoxes, IsSoFar, IsUnderWay, Round, cluster_of, shown}
use Rattle.cl_run.proofs.BoxSteps.{boxes_go, boxes_same}
use Rattle.cl_run.proofs.Hubs.{HubPart, hub_part, hub_stays}
use Rattle.cl_machine.proofs.Lists.{get-set_same, get-set_other}
use Rattle.cl_run.proofs.Rounds.{more_done, one_turn_more, passed_over}
use Rattle.cl_run.proofs.Stations.{after_others_turn, after_stop, after_turn}
use Rattle.cl_machine.proofs.Tables.{case_of_deed, run_more, set-same, step_once}

none_idles_more : (es : List Step) (old mid : Cluster) (e : Step) → NoneIdles old es → IsRun old es mid
    → ((rank : Rank) → slice_get mid.ranks e.rank ≡ Some rank → ¬ (AllStopped rank)) → NoneIdles old (es ++ e ∷ [])
none_idles_more [] old mid e h run runs =
    ((λ rank at. runs rank (subst (λ (c : Cluster). slice_get c.ranks e.rank ≡ Some rank) (sym run) at)), λ m s. tt)
none_idles_more (x ∷ es) old mid e h run runs =
    (h.0, λ m s. none_idles_more es m mid e (h.1 m s) (subst (λ c. IsRun c es mid) (step_once old x run.0 m run.1 s) run.2) runs)

module _ (image : ImageParts) (plans : List Plan) (order : List ℕ) (ss : List Station) (slot : ℕ) where
  -- a rank that is stopped is passed over
  pub slot_passed : (hub : HubHistory) → IsStoppedAt ss (in_slot order slot) → IsUnderWay image plans order ss hub slot
      → IsUnderWay image plans order ss hub (slot + 1)
  slot_passed hub stopped w = record {
    links_are = w.links_are;
    low = w.low;
    sites = w.sites;
    boxes = w.boxes;
    are_boxes = w.are_boxes;
    steps = w.steps;
    run = w.run;
    none_idles = w.none_idles;
    round = passed_over order (IsStoppedAt ss) 0 (map (λ (e : Step). e.rank) w.steps) slot stopped w.round;
    each = w.each;
  }

  module _ (s t : Station) (plan : Plan) (there : slice_get ss (in_slot order slot) ≡ Some s) (planned : slice_get plans (in_slot order slot) ≡ Some plan)
      (running : s.stop ≡ None) where
    -- whoever was stopped still is
    still : (q : ℕ) → IsStoppedAt ss q → IsStoppedAt (slice_set ss (in_slot order slot) t) q
    still q h = elim (eqb_tells (in_slot order slot) q) [
      | inl same ↦ absurd (not_running (same_Some s h.0 (sym there ∙ ap (slice_get ss) same.1 ∙ h.2)))
      | inr other ↦ (h.0, h.1, get-set_other ss (in_slot order slot) q t other.1 ∙ h.2, h.3)
    ]
      where
        not_running : s ≡ h.0 → ⊥
        not_running e = let stop = sym running ∙ ap (λ (x : Station). x.stop) e ∙ h.3 in (cc)

    open_now : IsStoppedAt ss (in_slot order slot) → ⊥
    open_now h =
        let same : s ≡ h.0 = same_Some s h.0 (sym there ∙ h.2) in
        let stop = sym running ∙ ap (λ (x : Station). x.stop) same ∙ h.3 in (cc)

    ranks_then : map (λ (x : Station). x.rank) (slice_set ss (in_slot order slot) t) ≡ slice_set (map (λ (x : Station). x.rank) ss) (in_slot order slot) t.rank
    ranks_then = map-set (λ (x : Station). x.rank) ss (in_slot order slot) t

    rank_there : slice_get (map (λ (x : Station). x.rank) ss) (in_slot order slot) ≡ Some s.rank
    rank_there = slice_get-map (λ (x : Station). x.rank) ss (in_slot order slot)
        ∙ ap (option_map (λ (x : Station). x.rank)) there

    sites_then : t.rank.site ≡ s.rank.site
        → ((q : ℕ) (x : Station) → slice_get ss q ≡ Some x → x.rank.site ≡ site_of image q)
        → (q : ℕ) (x : Station) → slice_get (slice_set ss (in_slot order slot) t) q ≡ Some x
        → x.rank.site ≡ site_of image q
    sites_then stays sites q x at = elim (eqb_tells (in_slot order slot) q) [
      | inl same ↦
          let is : t ≡ x = same_Some t x
          (sym (get-set_same ss (in_slot order slot) s t there)
          ∙ ap (slice_get (slice_set ss (in_slot order slot) t)) same.1
          ∙ at) in
          ap (λ (y : Station). y.rank.site) (sym is)
          ∙ stays
          ∙ sites (in_slot order slot) s there
          ∙ ap (site_of image) same.1
      | inr other ↦ sites q x (sym (get-set_other ss (in_slot order slot) q t other.1) ∙ at)
    ]

    -- a rank that isn't stopped stops
    pub slot_stopped : (before after : HubHistory) → Stops Answered plan s before t after
        → IsUnderWay image plans order ss before slot
        → IsUnderWay image plans order (slice_set ss (in_slot order slot) t) after (slot + 1)
    slot_stopped before after h w = subst (λ hub. IsUnderWay image plans order (slice_set ss (in_slot order slot) t) hub (slot + 1)) (sym (hub_stays plan s t before after h)) (record {
      links_are = w.links_are;
      low = w.low;
      sites = sites_then (ap (λ (x : Rank). x.site) h.rank_stays) w.sites;
      boxes = w.boxes;
      are_boxes = boxes_same image ss (in_slot order slot) s t w.boxes there h.sides_stay w.are_boxes;
      steps = w.steps;
      run = subst (IsRun (loaded_cluster image) w.steps) same_cluster w.run;
      none_idles = w.none_idles;
      round = passed_over order (IsStoppedAt (slice_set ss (in_slot order slot) t)) 0 (map (λ (e : Step). e.rank) w.steps) slot
          (t, h.stop, get-set_same ss (in_slot order slot) s t there, h.stops)
          (more_done order (IsStoppedAt ss) (IsStoppedAt (slice_set ss (in_slot order slot) t)) still 0 (map (λ (e : Step). e.rank) w.steps) slot w.round);
      each = each_then;
    })
      where
        same_cluster : cluster_of ss before w.boxes ≡ cluster_of (slice_set ss (in_slot order slot) t) before w.boxes
        same_cluster = λ i. record {
          ranks = (sym (ranks_then ∙ ap (slice_set (map (λ (x : Station). x.rank) ss) (in_slot order slot)) h.rank_stays
              ∙ set-same (map (λ (x : Station). x.rank) ss) (in_slot order slot) s.rank rank_there)) i;
          journal = shown before;
          boxes = w.boxes;
        }

        each_then : (q : ℕ) (p : Plan) (x : Station) → slice_get plans q ≡ Some p
            → slice_get (slice_set ss (in_slot order slot) t) q ≡ Some x → IsSoFar w.steps before.entries q p x
        each_then q p x at_plan at = elim (eqb_tells (in_slot order slot) q) [
          | inl same ↦
              let is : t ≡ x = same_Some t x (sym (get-set_same ss (in_slot order slot) s t there)
              ∙ ap (slice_get (slice_set ss (in_slot order slot) t)) same.1 ∙ at) in
              let p_is : plan ≡ p = same_Some plan p (sym planned ∙ ap (slice_get plans) same.1 ∙ at_plan) in
              let so = w.each q p s at_plan (ap (slice_get ss) (sym same.1) ∙ there) in
              subst (IsSoFar w.steps before.entries q p) is (after_stop w.steps before q p s t so w.low after (subst (λ y. Stops Answered y s before t after) p_is h))
          | inr other ↦ w.each q p x at_plan (sym (get-set_other ss (in_slot order slot) q t other.1) ∙ at)
        ]

    -- a rank that isn't stopped takes a turn; the keys of the box that it asked agree
    pub slot_taken : (before after : HubHistory) → TakesTurn Answered plan s before t after
        → ((link : ℕ) (l : Link) → slice_get before.links link ≡ Some l → l.to ≢ l.from)
        → HasKeysOf before.links (in_slot order slot) s.sides
        → Agree before.links (slice_set ss (in_slot order slot) t) t.asked
        → IsUnderWay image plans order ss before slot
        → IsUnderWay image plans order (slice_set ss (in_slot order slot) t) after (slot + 1)
    slot_taken before after turn joined own_keys agree w = record {
      links_are = part.links_stay ∙ w.links_are;
      low = part.low w.low;
      sites = sites_later;
      boxes = boxes_later.0;
      are_boxes = boxes_later.2;
      steps = w.steps ++ step_of turn.deed ∷ [];
      run = run_more w.steps (loaded_cluster image) (cluster_of ss before w.boxes)
          (cluster_of (slice_set ss (in_slot order slot) t) after boxes_later.0) (step_of turn.deed) w.run goes;
      none_idles = none_idles_more w.steps (loaded_cluster image) (cluster_of ss before w.boxes) (step_of turn.deed)
          w.none_idles w.run
          (λ rank at. subst (λ x. ¬ (AllStopped x)) (same_Some s.rank rank (sym rank_here ∙ at)) turn.runs);
      round = subst (λ takers. Round order (IsStoppedAt (slice_set ss (in_slot order slot) t)) 0 takers (slot + 1)) (sym (map-append (λ (e : Step). e.rank) w.steps (step_of turn.deed ∷ [])))
          (more_done order (IsStoppedAt ss) (IsStoppedAt (slice_set ss (in_slot order slot) t)) still 0 (map (λ (e : Step). e.rank) w.steps ++ turn.deed.rank ∷ []) (slot + 1)
          (one_turn_more order (IsStoppedAt ss) 0 (map (λ (e : Step). e.rank) w.steps) slot turn.deed.rank (sym is)
          (λ h. open_now (subst (IsStoppedAt ss) is h)) w.round));
      each = each_then;
    }
      where
        own : IsSoFar w.steps before.entries (in_slot order slot) plan s
        own = w.each (in_slot order slot) plan s planned there

        is : turn.deed.rank ≡ in_slot order slot
        is = turn.rank_is ∙ own.number_is

        rank_here : slice_get (map (λ (x : Station). x.rank) ss) turn.deed.rank ≡ Some s.rank
        rank_here = ap (slice_get (map (λ (x : Station). x.rank) ss)) is ∙ rank_there

        part : HubPart before after turn.deed
        part = hub_part before after turn.deed turn.tells

        sites_later : (q : ℕ) (x : Station) → slice_get (slice_set ss (in_slot order slot) t) q ≡ Some x
            → x.rank.site ≡ site_of image q
        sites_later = sites_then
            (ap (λ (x : Rank). x.site) turn.moves.4
            ∙ (told_at s.rank turn.deed.hart (answer_of turn.deed.act) turn.deed.stamp).site) w.sites

        version_is : s.rank.site.version ≡ image.version
        version_is = ap (λ (x : Site). x.version) (w.sites (in_slot order slot) s there)

        boxes_later : (later : List Box)
            × PartsMove BoxMoves box_at w.boxes turn.deed later
            × AreBoxes image (slice_set ss (in_slot order slot) t) later
        boxes_later =
            boxes_go image
            (subst (λ ls. (link : ℕ) (l : Link) → slice_get ls link ≡ Some l → l.to ≢ l.from) w.links_are joined)
            ss (in_slot order slot) s t there
            (λ q x at. ap (λ (y : Site). y.version) (sites_later q x at))
            (subst (λ ls. HasKeysOf ls (in_slot order slot) s.sides) w.links_are own_keys)
            w.boxes w.are_boxes turn.deed.act turn.deed.stamp
            (subst (λ v. KeysMove v turn.deed.stamp turn.deed.act s.sides t.sides) version_is turn.keys)
            turn.deed.rank turn.deed.hart
            (subst (λ ls. Agree ls (slice_set ss (in_slot order slot) t) (box_id_of turn.deed.act)) w.links_are
            (subst (Agree before.links (slice_set ss (in_slot order slot) t)) turn.asked_is agree))

        goes : IsStep (cluster_of ss before w.boxes) (step_of turn.deed)
            (cluster_of (slice_set ss (in_slot order slot) t) after boxes_later.0)
        goes = case_of_deed (cluster_of ss before w.boxes) turn.deed.rank turn.deed.hart turn.deed.stamp turn.deed.act
            (cluster_of (slice_set ss (in_slot order slot) t) after boxes_later.0) (
              (
                s.rank,
                t.rank,
                rank_here,
                turn.moves,
                ranks_then ∙ ap (λ k. slice_set (map (λ (x : Station). x.rank) ss) k t.rank) (sym is),
              ),
              part.journal_moves,
              boxes_later.1,
            )

        each_then : (q : ℕ) (p : Plan) (x : Station) → slice_get plans q ≡ Some p
            → slice_get (slice_set ss (in_slot order slot) t) q ≡ Some x
            → IsSoFar (w.steps ++ step_of turn.deed ∷ []) after.entries q p x
        each_then q p x at_plan at = elim (eqb_tells (in_slot order slot) q) [
          | inl same ↦
              let is : t ≡ x = same_Some t x (sym (get-set_same ss (in_slot order slot) s t there)
              ∙ ap (slice_get (slice_set ss (in_slot order slot) t)) same.1 ∙ at) in
              let p_is : plan ≡ p = same_Some plan p (sym planned ∙ ap (slice_get plans) same.1 ∙ at_plan) in
              let so = w.each q p s at_plan (ap (slice_get ss) (sym same.1) ∙ there) in
              subst (IsSoFar (w.steps ++ step_of turn.deed ∷ []) after.entries q p) is
              (after_turn w.steps before after q p s t (subst (λ y. TakesTurn Answered y s before t after) p_is turn) so)
          | inr other ↦
              after_others_turn w.steps before after q p x turn.deed part (ap (λ k. eqb k q) is ∙ other.0) w.low
              (w.each q p x at_plan (sym (get-set_other ss (in_slot order slot) q t other.1) ∙ at))
        ]
