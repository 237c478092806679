-- What a listener may be told.
use Rattle.std.specs.Prelude.{ℕ, ◌<◌, ◌≡◌, List, [], length, option_map, slice_get, Option, None, Some, IfSome, is_some, true}
use Rattle.std.proofs.Common.{refl, sym, subst}
use Rattle.rv_image_types.specs.declared.images.ImageParts.{ImageParts}
use Rattle.cl_turns.specs.declared.Turn.{Turn}
use Rattle.cl_machine.specs.Cluster.{Cluster}
use Rattle.cl_order_laws.specs.Closed.{Node}
use Rattle.cl_rests.specs.Needing.{IsNeed}
use Rattle.cl_rests.specs.Telling.{IsNeedVerdict, TellsNeed}
use Rattle.cl_moves.specs.Standing.{IsStart, by_order, first_node}
use Rattle.cl_moves.specs.declared.standing.Standing.{Standing}
use Rattle.cl_explore.specs.Diving.{Dives}
use Rattle.cl_explore.specs.Ends.{BeginsAt}
use Rattle.cl_explore.specs.How.{How, waits_in}
use Rattle.cl_explore.specs.Kept.{IsLiveOf}
use Rattle.cl_explore.specs.Listening.{CameByOrder, IsEndNode, IsImageFor, IsNeedNode, IsSearchOf}
use Rattle.cl_explore.specs.Orders.{IsLedBy}
use Rattle.cl_explore.specs.Searching.{IsVisited, KeepsOf}
use Rattle.cl_explore.specs.declared.kept.KeptNode.{KeptNode}
use Rattle.cl_explore.specs.declared.moving.Visit.{Visit}
use Rattle.cl_explore.specs.declared.search.Search.{Search}
use Rattle.cl_explore.proofs.Finds.{if_some_on}
use Rattle.cl_explore.proofs.Keeping.{no_way, node_found}
use Rattle.cl_explore.proofs.Lists.{at_inside}
use Rattle.cl_explore.proofs.OneEach.{one_of_image}
use Rattle.cl_explore.proofs.Tries.{live_at}

-- ---- where a search begins

pub came_behind : (image : ImageParts) (order : List ℕ) (turns : List Turn) (standing : Standing)
    → IsLedBy image order turns standing → CameByOrder image order standing
came_behind image order turns standing led = (led.here, led.stands, (led.ordered).way)

pub came_nowhere : (image : ImageParts) (order : List ℕ) (standing : Standing) → IsStart image standing
    → CameByOrder image order standing
came_nowhere image order standing start = (
  first_node image,
  start.stands,
  no_way (by_order order) (first_node image) standing.steps.items start.steps,
)

pub begun : (how : How) (image : ImageParts) (order : List ℕ) (standing : Standing) (search : Search)
    → CameByOrder image order standing → BeginsAt how order standing search → IsSearchOf how image order search
begun how image order standing search came begins =
    let well = begins image came.0 came.1 came.2 in (
      well.nodes,
      record {
        are = well.are;
        leads = λ k lead at.
            let no : slice_get [] k ≡ Some lead = subst (λ xs. slice_get xs k ≡ Some lead) well.still at in absurd (cc);
      },
    )

-- ---- one node more

if_need : {A : Type 0} (items : A → List ℕ) (cluster : Cluster) (need : Option A)
    → (is_some need ≡ true → IsNeedVerdict cluster (option_map items need)) → IfSome need (λ a. IsNeed (items a) cluster)
if_need items cluster None verdict = tt
if_need items cluster (Some a) verdict = verdict refl

module _ (how : How) (image : ImageParts) (order : List ℕ) (old new : Search) (number : ℕ)
    (of : IsSearchOf how image order old) (inside : number < length old.nodes.items) where
  node : (node : Node) × (slice_get of.0 number ≡ Some node)
  node = at_inside of.0 number (subst (λ c. number < c) (sym ((of.1).are).many) inside)

  -- of a node that was visited it is known whether it is an end
  pub visited : (visit : Visit) → KeepsOf how order old number new (IsVisited how order new.leads.items number visit)
      → IsSearchOf how image order new × (visit.end ≡ true → IsEndNode image order new.nodes.items number)
  visited visit visits =
      let far = visits image of.0 node.0 of.1 node.1 in (
        (far.more, far.found),
        λ is. (far.more, (far.found).are, (node.0, far.grows number node.0 node.1, ((far.holds).end).0 is)),
      )

  -- and so whether ranks need buffers there
  pub needed : IsImageFor how image → (visit : Visit) → (is_some visit.need ≡ true → waits_in how ≡ true)
      → KeepsOf how order old number new (IsVisited how order new.leads.items number visit)
      → IfSome visit.need (λ ranks. IsNeedNode image order new.nodes.items number ranks.items)
  needed for visit may visits =
      let far = visits image of.0 node.0 of.1 node.1 in
      let found = node_found image order old.nodes.items of.0 (of.1).are number node.0 node.1 in
      if_some_on visit.need
      (λ ranks is. (far.more, (far.found).are, (node.0, far.grows number node.0 node.1, is)))
      (if_need (λ ranks. ranks.items) (node.0).cluster visit.need
      (λ some.
      let waits = may some in
      let known = for waits in
      (far.holds).need known.0 (one_of_image image order node.0 found known.1) waits))

  -- and a schedule was followed to an end
  pub dived : (end : ℕ) → Dives how order old number new (Some end) → IsEndNode image order new.nodes.items end
  dived end dives = let far = dives.1 image of.0 node.0 of.1 node.1 in (far.more, (far.found).are, far.holds)

-- ---- a node that wasn't visited

-- what is told of a standing that was made of it holds of the node
pub told_of : {A : Type 0} (items : A → List ℕ) (how : How) (image : ImageParts) (order : List ℕ) (search : Search) (number : ℕ)
    → IsSearchOf how image order search → number < length search.nodes.items → (k : KeptNode)
    → slice_get search.nodes.items number ≡ Some k → (live : Standing) → IsLiveOf k live → IsImageFor how image
    → (need : Option A) → (is_some need ≡ true → waits_in how ≡ true)
    → (waits_in how ≡ true → TellsNeed live (option_map items need))
    → IfSome need (λ a. IsNeedNode image order search.nodes.items number (items a))
told_of items how image order search number of inside k at live is for need may tells =
    let there = node how image order search search number of inside in
    let found = node_found image order search.nodes.items of.0 (of.1).are number there.0 there.1 in
    let here = live_at order search.nodes.items number k at live is image of.0 there.0 (of.1).are there.1 in
    if_some_on need (λ a is. (of.0, (of.1).are, (there.0, there.1, is)))
    (if_need items (there.0).cluster need
    (λ some.
    let waits = may some in
    let known = for waits in
    tells waits image there.0 known.0 (found.0, (found.1).run) here.stands
    (one_of_image image order there.0 found known.1)))
