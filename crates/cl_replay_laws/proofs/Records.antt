-- A record's events, in order of their stamps, replay to the record.
use Rattle.std.specs.Prelude.{ℕ, ◌≡◌, length, Bool, true, false, Some}
use Rattle.std.proofs.Common.{refl, sym, ap, ◌∙◌, subst}
use Rattle.std.proofs.Math.Seq.{take-length}
use Rattle.std.proofs.lemmas.Option.{slice_get_within}
use Rattle.rv_image_types.specs.declared.images.ImageParts.{ImageParts}
use Rattle.rv_image_types.specs.declared.images.ImageVersion.{ImageVersion}
use Rattle.mp_hub.specs.Outcomes.{StandsFor as HubStandsFor}
use Rattle.part_box.specs.declared.settled.Settled.{Settled}
use Rattle.cl_machine.specs.Boxes.{Box}
use Rattle.cl_machine.specs.Cluster.{Cluster, IsRun, loaded_cluster}
use Rattle.cl_machine.specs.Journal.{Journal}
use Rattle.cl_journal.specs.Journal.{calls_of}
use Rattle.cl_machine.proofs.Tables.{one_end}
use Rattle.cl_machine.proofs.Verdicts.{one_merge}
use Rattle.cl_machine.specs.Keys.{Shows, bytes_in}
use Rattle.cl_record.specs.Records.{IsEndOf, steps_in}
use Rattle.cl_record.specs.declared.records.Record.{Record}
use Rattle.cl_replay.specs.declared.states.ClusterState.{ClusterState}
use Rattle.cl_replay.specs.Boxes.{settled_at}
use Rattle.cl_replay_laws.specs.Records.{AreAlike, MergedReplaysLaw, ShowsRecord}
use Rattle.cl_replay.specs.States.{ClusterStandsFor}
use Rattle.cl_replay.proofs.Boxed.{held_is, shown_of_box, shown_of_settled}
use Rattle.cl_replay.proofs.Runs.{run_law}

-- what shows one box is left alike
alike : (version : ImageVersion) (a b : Settled) (box : Box) → Shows version a box → Shows version b box
    → AreAlike version a b
alike version a b box shown kept =
    let h = by_full a.full b.full refl refl in (h.0, shown.stamp ∙ sym kept.stamp, h.1)
  where
    by_full : (x y : Bool) → a.full ≡ x → b.full ≡ y
        → (a.full ≡ b.full) × (bytes_in version a.words ≡ bytes_in version b.words)
    by_full true y e f =
        let h = held_is version b box kept (bytes_in version a.words) (shown.full e) in (e ∙ sym h.0, h.1)
    by_full false true e f =
        let h = held_is version a box shown (bytes_in version b.words) (kept.full f) in (h.0 ∙ sym f, sym h.1)
    by_full false false e f =
        (e ∙ sym f, ap (bytes_in version) ((shown.empty e).1 ∙ sym ((kept.empty f).1)))

module _ (image : ImageParts) (left : Record) (state : ClusterState) (cluster : Cluster)
    (stands : ClusterStandsFor image state cluster) (end : IsEndOf image left cluster) where
  box_alike : (number : ℕ) (shown : Settled) → settled_at state.boxes.items number ≡ Some shown
      → (kept : Settled) × (settled_at left.boxes.items number ≡ Some kept) × AreAlike image.version shown kept
  box_alike number shown at =
      let b = shown_of_settled image state.boxes.items cluster.boxes stands.boxes_show stands.of.boxes number shown
      at in
      let k = shown_of_box image left.boxes.items cluster.boxes end.boxes_show stands.of.boxes number b.0 b.1 in
      (k.0, k.1, alike image.version shown k.0 b.0 b.2 k.2)

  shows_record : ShowsRecord image left state
  shows_record = record {
    ranks_are = sym stands.ranks_are ∙ end.ranks_are;
    hub_stands = subst (λ (j : Journal). HubStandsFor state.hub image.links (calls_of j.entries)) end.journal_is
        stands.hub_stands;
    clock_is = stands.clock_is ∙ ap (λ (j : Journal). j.clock) end.journal_is;
    links_are = stands.boxes_show.links ∙ sym end.boxes_show.links;
    boxes_alike = box_alike;
  }

pub merged_replays : MergedReplaysLaw
merged_replays image left steps merged sorted =
    let start = loaded_cluster image in
    let same = one_merge (steps_in left) merged.steps steps merged.sorted sorted in
    let run = subst (λ es. IsRun start es merged.final) same merged.run in
    record {
      final = merged.final;
      run = run;
      end = merged.end;
      unbroken = λ k breaks.
          run_law image steps (length steps) k
          (merged.final, subst (λ es. IsRun start es merged.final) (sym (take-length steps)) run)
          (slice_get_within steps k breaks.step breaks.there) breaks;
      shows = λ state reached.
          let whole = subst (λ es. IsRun start es reached.cluster) (take-length steps) reached.run in
          let one = one_end start reached.cluster merged.final steps whole run in
          shows_record image left state merged.final (subst (ClusterStandsFor image state) one reached.stands) merged.end;
    }
