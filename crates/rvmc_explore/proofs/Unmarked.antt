-- Nodes that aren't marked lead to no end that was found.
use Rattle.std.proofs.Common.{ℕ, zero, suc, ◌<◌, ◌≡◌, ◌∙◌, List, length, Bool, true, Some, slice_get, ap, arith, subst, sym}
use Rattle.std.proofs.lemmas.Option.{same_Some, slice_get_within}
use Rattle.rv_image_types.specs.Image.{IsImage}
use Rattle.rv_image_types.specs.declared.images.ImageParts.{ImageParts}
use Rattle.cl_deadlock_laws.specs.Stuck.{AreStuck}
use Rattle.cl_explore.specs.Ends.{ExploredFrom, Findings}
use Rattle.cl_explore.specs.declared.companies.Company.{Company}
use Rattle.cl_moves.specs.Standing.{by_order}
use Rattle.cl_order_laws.specs.Closed.{IsEnd, Node}
use Rattle.rvmc_explore.specs.Beside.{OthersRunOn}
use Rattle.rvmc_explore.specs.Endless.{AreComplete}
use Rattle.rvmc_explore.specs.Searched.{GoesIn, GoesTo}
use Rattle.rvmc_explore.proofs.Beside.{another_goes_on}
use Rattle.rvmc_explore.proofs.Endless.{never_ends}

-- a mark for each node, and each is set that leads to an end
abbrev pub AreWhole : Findings → List Bool → Type 0
AreWhole found marks = (length marks ≡ length found.kept) × AreComplete found.leads found.ends marks

module _ (image : ImageParts) (order : List ℕ) (start : Node) (found : Findings)
    (explored : ExploredFrom image order start found) (marks : List Bool) (many : length marks ≡ length found.kept)
    (complete : AreComplete found.leads found.ends marks) where
  has_mark : (i : ℕ) (node : Node) → slice_get explored.nodes i ≡ Some node → i < length marks
  has_mark i node at =
      let low = slice_get_within explored.nodes i node at in omega (arith, low, many, (explored.are).many)

  set_in : (n i : ℕ) → GoesIn found.leads found.ends n i → slice_get marks i ≡ Some true
  set_in zero i goes =
      let end = explored.sound goes.0 i goes.1 in
      complete.at goes.0 i goes.1 (has_mark i end.0 end.1)
  set_in (suc n) i goes =
      let led = goes.1 in
      let v = explored.leads led.0 led.1 led.2 in
      complete.before i goes.0 led (set_in n goes.0 goes.2)
      (has_mark i v.0 (ap (slice_get explored.nodes) (sym led.3) ∙ v.2))

  pub unled : (i : ℕ) → (slice_get marks i ≡ Some true → ⊥) → ¬ GoesTo found.leads found.ends i
  unled i unset = λ goes. unset (set_in goes.0 i goes.1)

  -- ranks that are stuck in such a node are so while others run on
  pub others_run_on : IsImage image → (k : ℕ) (company : Company) → slice_get found.companies k ≡ Some company → (node : Node)
      → slice_get explored.nodes company.node ≡ Some node → (slice_get marks company.node ≡ Some true → ⊥)
      → OthersRunOn order company.ranks.items found.left node
  others_run_on right k company at node there unset =
      let one = explored.stuck right k company at in
      let same : one.0 ≡ node = same_Some one.0 node (sym one.1 ∙ there) in
      let stuck = subst (λ (n : Node). AreStuck company.ranks.items n.cluster) same (one.2).stuck in
      let no_end : ¬ IsEnd (by_order order) node.cluster =
      λ end.
      let told = explored.told company.node node (explored.visited k company at, there) end in
      unset (complete.at told.0 company.node told.1 (has_mark company.node node there)) in
      record {
        now = another_goes_on order company.ranks.items node.cluster stuck no_end;
        forever = λ all. never_ends image order start found explored all marks many complete company.node node there unset;
      }
