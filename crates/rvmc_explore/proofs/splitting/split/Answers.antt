use Rattle.std.proofs.Common.{List, ℕ, ◌<◌, ◌≡◌, ◌∙◌, ◌++◌, ap, drop, length, map, subst, sym, take}
use Rattle.std.specs.List.{flat_map}
use Rattle.std.proofs.Math.Seq.{take-append_seam}
use Rattle.std.proofs.lemmas.List.{length-map}
use Rattle.std.proofs.lemmas.Option.{slice_get_within}
use Rattle.cl_explore.specs.Ends.{findings}
use Rattle.rvmc_starts.specs.declared.starts.Start.{Start}
use Rattle.rvmc_explore.specs.Splitting.{AreStartsAt, split_sum, start_line, with_split}
use Rattle.rvmc_explore.specs.declared.splitting.Common.{Common}
use Rattle.rvmc_explore.proofs.EachStart.{are_of, they_reach}
use Rattle.rvmc_explore.proofs.splitting.split.Goals as goal

pub starts_of-requires : goal.starts_of-requires
starts_of-requires g c = λ k i there.
    let explored = c.in_ok-found.ensures.ends.0 in
    let node = explored.sound k i there in
    subst (λ n. i < n) explored.are.many (slice_get_within explored.nodes i node.0 node.1)

pub returns-clause-starts : goal.returns-clause-starts
returns-clause-starts g c =
    let image = c.args.image.now in
    let found = c.in_ok-found.found in
    let explored = c.in_ok-found.ensures.ends.0 in
    let numbers = c.in_ok-numbers.numbers in
    let before = c.in_ok-starts.starts.items in
    let split = c.in_ok-split.split in
    let common : Common = record { image = c.in_ok-sum_of_image.field-0; order = c.args.asked.now.order; count = c.len.result } in
    let count : c.len.result ≡ length numbers.items = c.len.ensures ∙ numbers.ok.0 in
    let is : AreStartsAt found.nodes.items common numbers.items before =
    subst (λ ns. AreStartsAt found.nodes.items common ns before) c.as_slice.ensures.value c.in_ok-starts.ensures in
    let known : split ≡ split_sum before = c.in_ok-split.ensures ∙ ap split_sum c.as_slice-2.ensures.value in
    let new = c.set_split.new.starts in
    let made : new ≡ map (with_split split) before =
    c.set_split.ensures ∙ ap (λ (ss : List Start). map (with_split split) ss) c.as_mut_slice.ensures.value in
    let many : c.in_ok-starts.starts.len ≡ length new =
    c.in_ok-starts.starts.ok.0 ∙ (sym (length-map before (with_split split)) ∙ ap length (sym made)) in
    let after : c.as_slice-3.result.now ≡ map (with_split split) before =
    c.as_slice-3.ensures.value
    ∙ (ap (λ n. take n (new ++ drop (length new) before)) many ∙ (take-append_seam new (drop (length new) before) ∙ made)) in
    record {
      found = findings found;
      explored = explored;
      plain = c.in_ok-found.ensures.ends.1;
      most = c.in_ok-found.ensures.most;
      starts = map (with_split split) before;
      split = split;
      are = are_of image found.nodes.items common numbers.items before split c.in_ok-sum_of_image.ensures count is known;
      reach = they_reach image found.nodes.items common numbers.items before split c.in_ok-sum_of_image.ensures count is
          explored.nodes found.ends.items found.left explored.are c.in_ok-numbers.ensures.each;
      spelled = c.in_ok-put_starts.ensures
          ∙ (ap (λ (old : List ℕ). old ++ flat_map start_line c.as_slice-3.result.now) c.new-text.ensures.items
          ∙ ap (λ (ss : List Start). flat_map start_line ss) after);
    }
