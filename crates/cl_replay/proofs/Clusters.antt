-- What holds of a cluster of an image, wherever a run has come.
use Rattle.std.specs.Prelude.{ℕ, zero, suc, ◌+◌, ◌*◌, ◌<◌, ◌≤◌, ◌≡◌, List, [], ◌∷◌, ◌++◌, length, map, replicate}
use Rattle.std.specs.Prelude.{slice_get}
use Rattle.std.specs.Prelude.{slice_set, Option, Some, None, option_map}
use Rattle.std.proofs.Common.{refl, sym, ap, ◌∙◌, subst, add-one, arith, inl, inr}
use Rattle.std.proofs.lemmas.Bool.Decides.{eqb_tells}
use Rattle.std.proofs.lemmas.List.{length-append, length-replicate, length-set, map-append}
use Rattle.std.proofs.lemmas.Option.{same_Some, slice_get-map}
use Rattle.rv_image_types.specs.declared.images.ImageParts.{ImageParts}
use Rattle.cl_journal.specs.declared.entries.Entry.{Entry}
use Rattle.cl_state.specs.declared.asking.Answer.{Answer}
use Rattle.cl_state.specs.Rank.{Rank, below, loaded}
use Rattle.cl_state.specs.Room.{rank_of}
use Rattle.cl_state.specs.Told.{told}
use Rattle.cl_state.specs.declared.state.RankState.{RankState}
use Rattle.cl_state.proofs.Moves.{told_at}
use Rattle.cl_trace.specs.declared.events.Kind.{Kind}
use Rattle.cl_machine.specs.Boxes.{Box, box_number, empty_box, with_made, with_taken}
use Rattle.cl_machine.specs.Cluster.{CaseOf, Cluster, IsStep, loaded_cluster, ranks_told}
use Rattle.cl_machine.specs.declared.steps.Step.{Step}
use Rattle.cl_machine.proofs.Lists.{get-set_other, get-set_same}
use Rattle.cl_replay.specs.States.{IsClusterOf}

-- each element of a list with one changed is that one, or was there
module _ {X : Type 0} (P : X → Type 0) (xs : List X) (k : ℕ) (x y : X) where
  pub each_set : ((i : ℕ) (z : X) → slice_get xs i ≡ Some z → P z) → slice_get xs k ≡ Some x → P y
      → (i : ℕ) (z : X) → slice_get (slice_set xs k y) i ≡ Some z → P z
  each_set each there holds i z at =
      elim (eqb_tells k i) [
        | inl same ↦ subst P (same_Some y z (sym (get-set_same xs k x y there)
            ∙ (ap (slice_get (slice_set xs k y)) same.1 ∙ at))) holds
        | inr other ↦ each i z (sym (get-set_other xs k i y other.1) ∙ at)
      ]

get-replicate : {X : Type 0} (n i : ℕ) (x y : X) → slice_get (replicate n x) i ≡ Some y → x ≡ y
get-replicate zero i x y at = absurd (cc)
get-replicate (suc n) zero x y at = same_Some x y at
get-replicate (suc n) (suc i) x y at = get-replicate n i x y at

pub of_loaded : (image : ImageParts) → IsClusterOf image (loaded_cluster image)
of_loaded image = record {
  versions = λ r rank at. by_number r rank (slice_get (below image.ranks) r) refl
      (sym (slice_get-map (loaded image) (below image.ranks) r) ∙ at);
  links = refl;
  calls = omega arith;
  boxes = length-replicate (16 * length image.links) empty_box;
  one_thing = λ n box at. subst (λ (b : Box). length b.made ≤ b.taken + 1)
      (get-replicate (16 * length image.links) n empty_box box at) (omega arith);
}
  where
    by_number : (r : ℕ) (rank : Rank) (o : Option ℕ) → slice_get (below image.ranks) r ≡ o
        → option_map (loaded image) (slice_get (below image.ranks) r) ≡ Some rank → rank.site.version ≡ image.version
    by_number r rank None is at =
        let no = sym (ap (option_map (loaded image)) is) ∙ at in absurd (cc)
    by_number r rank (Some k) is at =
        let one = same_Some (loaded image k) rank (sym (ap (option_map (loaded image)) is) ∙ at) in
        ap (λ (x : Rank). x.site.version) (sym one)

module _ (image : ImageParts) (old : Cluster) (e : Step) (rank : Rank) (of : IsClusterOf image old)
    (there : slice_get old.ranks e.rank ≡ Some rank) where
  told_versions : (answer : Answer) (r : ℕ) (x : Rank) → slice_get (ranks_told old e rank answer) r ≡ Some x
      → x.site.version ≡ image.version
  told_versions answer =
      each_set (λ (x : Rank). x.site.version ≡ image.version) old.ranks e.rank rank (told rank e.hart answer e.stamp)
      of.versions there
      (ap (λ s. s.version) (told_at rank e.hart answer e.stamp).site ∙ of.versions e.rank rank there)

  -- ranks told, and all else as it was
  of_told : (answer : Answer)
      → IsClusterOf image (record { ranks = ranks_told old e rank answer; journal = old.journal; boxes = old.boxes })
  of_told answer = record {
    versions = told_versions answer;
    links = of.links;
    calls = of.calls;
    boxes = of.boxes;
    one_thing = of.one_thing;
  }

  of_boxed : (answer : Answer) (n : ℕ) (box now : Box) → slice_get old.boxes n ≡ Some box
      → length now.made ≤ now.taken + 1
      → IsClusterOf image
      (record { ranks = ranks_told old e rank answer; journal = old.journal; boxes = slice_set old.boxes n now })
  of_boxed answer n box now at one = record {
    versions = told_versions answer;
    links = of.links;
    calls = of.calls;
    boxes = length-set old.boxes n now ∙ of.boxes;
    one_thing = each_set (λ (b : Box). length b.made ≤ b.taken + 1) old.boxes n box now of.one_thing at one;
  }

  of_called : (answer : Answer) (entry : Entry) → old.journal.clock < entry.stamp
      → IsClusterOf image (record {
        ranks = ranks_told old e rank answer;
        journal = record {
          links = old.journal.links;
          entries = old.journal.entries ++ entry ∷ [];
          clock = entry.stamp;
        };
        boxes = old.boxes;
      })
  of_called answer entry later = record {
    versions = told_versions answer;
    links = of.links;
    calls = omega (arith, of.calls, later, length-append old.journal.entries (entry ∷ []));
    boxes = of.boxes;
    one_thing = of.one_thing;
  }

  pub of_case : (kind : Kind) (new : Cluster) → CaseOf old e rank kind new → IsClusterOf image new
  of_case Kind.Plain new c = subst (IsClusterOf image) (sym c.2) (of_told Answer.Alone)
  of_case Kind.Local new c = subst (IsClusterOf image) (sym c.2) (of_told Answer.Alone)
  of_case Kind.Held new c = subst (IsClusterOf image) (sym c.2) (of_told Answer.Alone)
  of_case Kind.Idle new c = subst (IsClusterOf image) (sym c.2) (of_told Answer.Alone)
  of_case (Kind.Hub reply) new c =
      subst (IsClusterOf image) (sym c.4)
      (of_called (Answer.Reply reply)
      (record { rank = e.rank; hart = e.hart; clock = rank.clock; stamp = e.stamp; request = c.0; reply = reply })
      (omega (arith, c.3)))
  of_case Kind.Ready new c =
      let box : Box = c.3 in
      let more = length-append box.made (record { stamp = e.stamp; bytes = c.2 } ∷ []) in
      subst (IsClusterOf image) (sym c.8)
      (of_boxed Answer.Alone (box_number c.0 c.1) box (with_made box e.stamp c.2) c.5 (omega (arith, more, c.6)))
  of_case Kind.Take new c =
      let box : Box = c.3 in
      subst (IsClusterOf image) (sym c.8)
      (of_boxed (Answer.Taken c.2) (box_number c.0 c.1) box (with_taken box e.stamp) c.5
      (omega (arith, of.one_thing (box_number c.0 c.1) box c.5)))
  of_case Kind.Miss new c = subst (IsClusterOf image) (sym c.4) (of_told Answer.Missed)
  of_case Kind.Freed new c = subst (IsClusterOf image) (sym c.7) (of_told Answer.Freed)

-- a step keeps it
pub of_step : (image : ImageParts) (old new : Cluster) (e : Step) → IsClusterOf image old → IsStep old e new
    → IsClusterOf image new
of_step image old new e of step = of_case image old e step.0 of step.1 e.kind new step.4

-- one rank more was loaded
pub loaded_more : (image : ImageParts) (states now : List RankState) (state : RankState) (n : ℕ)
    → map rank_of states ≡ map (loaded image) (below n) → rank_of state ≡ loaded image n → now ≡ states ++ state ∷ []
    → map rank_of now ≡ map (loaded image) (below (n + 1))
loaded_more image states now state n before next is =
    ap (map rank_of) is
    ∙ (map-append rank_of states (state ∷ [])
    ∙ (ap (λ rs. rs ++ rank_of state ∷ []) before
    ∙ (ap (λ r. map (loaded image) (below n) ++ r ∷ []) next
    ∙ (sym (map-append (loaded image) (below n) (n ∷ []))
    ∙ ap (λ m. map (loaded image) (below m)) (sym (add-one n))))))
