-- What is told of an end is told of each alike one, but for what its harts wait for; and what is kept of a node.
use Rattle.std.specs.Prelude.{ℕ, suc, ◌+◌, ◌≡◌, ◌++◌, ◌||◌, List, [], ◌∷◌, Bool, Option, Some, None, codes, if◌then◌else◌, length, map, slice_get}
use Rattle.std.specs.Fmt.{decimal}
use Rattle.std.specs.Option.{option_map}
use Rattle.std.specs.List.{list_any}
use Rattle.std.proofs.Common.{refl, sym, ap, ◌∙◌, subst, arith}
use Rattle.std.proofs.lemmas.Option.{same_Some, slice_get-map}
use Rattle.rv_hart.specs.State.{State}
use Rattle.rv_hart.specs.declared.state.Mode.{Mode}
use Rattle.rv_hart.specs.declared.state.Mode.TheVariants.{Running, Waiting, Ended, Trapped}
use Rattle.rv_image_types.specs.declared.images.ImageParts.{ImageParts}
use Rattle.cl_explore.specs.Below.{Renaming}
use Rattle.cl_state.specs.Rank.{Rank}
use Rattle.cl_state.specs.Room.{rank_of}
use Rattle.cl_state.specs.declared.state.RankState.{RankState}
use Rattle.cl_explore.specs.Below.{hart_by, mode_by, rank_by}
use Rattle.cl_machine.specs.Cluster.{Cluster}
use Rattle.cl_machine.specs.declared.steps.Step.{Step}
use Rattle.cl_order_laws.specs.Alike.{AlikeRanks}
use Rattle.cl_order_laws.specs.Closed.{Node}
use Rattle.cl_moves.specs.Standing.{IsWay, by_order, first_node}
use Rattle.cl_explore.specs.Ends.{AreAlikeEnds, ExploredFrom, Findings}
use Rattle.cl_explore.specs.declared.kept.KeptNode.{KeptNode}
use Rattle.cl_explore.proofs.Keeping.{node_found}
use Rattle.cl_replay.specs.Kept.{snapshot}
use Rattle.cl_replay.specs.States.{ClusterStandsFor}
use Rattle.cl_replay.specs.declared.states.ClusterState.{ClusterState}
use Rattle.cl_explore.specs.Kept.{cluster_of}
use Rattle.rvmc_report.specs.Report.{has_trapped, hart_text, harts_text, is_trapped, mode_text, newline, output_text}
use Rattle.rvmc_explore.specs.Ends.{end_rank_text, end_ranks_from, end_stop, is_waiting_hart, is_waiting_mode, one_waits, any_waits}
use Rattle.rvmc_explore.specs.OneList.{lines_from, rank_lines}

-- ---- a rank by other names of posts tells the same

abbrev at_clock : Rank → ℕ → Rank
at_clock rank clock = record rank { clock = clock }

mode_same : (names : Renaming) (mode : Mode) (pc : ℕ) → mode_text (mode_by names mode) pc ≡ mode_text mode pc
mode_same names Running pc = refl
mode_same names (Waiting wait) pc = refl
mode_same names (Ended code) pc = refl
mode_same names (Trapped cause at) pc = refl

hart_same : (names : Renaming) (rank number : ℕ) (hart : State)
    → hart_text rank number (hart_by names hart) ≡ hart_text rank number hart
hart_same names rank number hart =
    ap (λ text. codes "rank "
    ++ (decimal rank ++ (codes " hart " ++ (decimal number ++ (codes " " ++ (text ++ newline))))))
    (mode_same names hart.mode hart.pc)

harts_same : (names : Renaming) (rank number : ℕ) (harts : List State)
    → harts_text rank number (map (hart_by names) harts) ≡ harts_text rank number harts
harts_same names rank number [] = refl
harts_same names rank number (hart ∷ harts) =
    λ i. hart_same names rank number hart i ++ harts_same names rank (number + 1) harts i

waiting_mode_same : (names : Renaming) (mode : Mode) → is_waiting_mode (mode_by names mode) ≡ is_waiting_mode mode
waiting_mode_same names Running = refl
waiting_mode_same names (Waiting wait) = refl
waiting_mode_same names (Ended code) = refl
waiting_mode_same names (Trapped cause at) = refl

waiting_hart_same : (names : Renaming) (o : Option State) → is_waiting_hart (option_map (hart_by names) o) ≡ is_waiting_hart o
waiting_hart_same names None = refl
waiting_hart_same names (Some hart) = waiting_mode_same names hart.mode

waits_same : (names : Renaming) (order : List ℕ) (harts : List State)
    → one_waits order (map (hart_by names) harts) ≡ one_waits order harts
waits_same names order harts =
    ap (λ (p : ℕ → Bool). list_any p order) (λ i n. (ap is_waiting_hart (slice_get-map (hart_by names) harts n)
    ∙ waiting_hart_same names (slice_get harts n)) i)

trapped_mode_same : (names : Renaming) (mode : Mode) → is_trapped (mode_by names mode) ≡ is_trapped mode
trapped_mode_same names Running = refl
trapped_mode_same names (Waiting wait) = refl
trapped_mode_same names (Ended code) = refl
trapped_mode_same names (Trapped cause at) = refl

trapped_same : (names : Renaming) (harts : List State) → has_trapped (map (hart_by names) harts) ≡ has_trapped harts
trapped_same names [] = refl
trapped_same names (hart ∷ harts) = λ i. trapped_mode_same names hart.mode i || trapped_same names harts i

rank_same : (names : Renaming) (order : List ℕ) (number clock : ℕ) (rank : Rank)
    → end_rank_text order number (at_clock (rank_by names rank) clock) ≡ end_rank_text order number rank
rank_same names order number clock rank =
    λ i. output_text number rank.out ++ (harts_same names number 0 rank.harts i
    ++ end_stop number (if waits_same names order rank.harts i then codes "stuck" else codes "all-ended"))

-- ---- and so do all ranks of alike clusters

abbrev AreAlikeLists : Renaming → List Rank → List Rank → Type 0
AreAlikeLists names xs ys =
    (length ys ≡ length xs)
    × ((i : ℕ) (x : Rank) → slice_get xs i ≡ Some x → (y : Rank) × (slice_get ys i ≡ Some y) × AlikeRanks names x y)

module _ (names : Renaming) where
  first_alike : (x y : Rank) (xs ys : List Rank) → AreAlikeLists names (x ∷ xs) (y ∷ ys)
      → (clock : ℕ) × (y ≡ at_clock (rank_by names x) clock)
  first_alike x y xs ys alike =
      let v = alike.1 0 x refl in (v.2.0, same_Some y v.0 v.1 ∙ v.2.1)

  rest_alike : (x y : Rank) (xs ys : List Rank) → AreAlikeLists names (x ∷ xs) (y ∷ ys) → AreAlikeLists names xs ys
  rest_alike x y xs ys alike = (omega (arith, alike.0), λ i z at. alike.1 (suc i) z at)

  lines_same : (order : List ℕ) (number : ℕ) (xs ys : List Rank) → AreAlikeLists names xs ys
      → lines_from order number ys ≡ lines_from order number xs
  lines_same order number [] [] alike = refl
  lines_same order number [] (y ∷ ys) alike = absurd (omega (arith, alike.0))
  lines_same order number (x ∷ xs) [] alike = absurd (omega (arith, alike.0))
  lines_same order number (x ∷ xs) (y ∷ ys) alike =
      let first = first_alike x y xs ys alike in
      λ i. (ap (end_rank_text order number) first.1 ∙ rank_same names order number first.0 x) i
      ++ lines_same order (number + 1) xs ys (rest_alike x y xs ys alike) i

  any_same : (p : Rank → Bool) → ((clock : ℕ) (rank : Rank) → p (at_clock (rank_by names rank) clock) ≡ p rank)
      → (xs ys : List Rank) → AreAlikeLists names xs ys → list_any p ys ≡ list_any p xs
  any_same p same [] [] alike = refl
  any_same p same [] (y ∷ ys) alike = absurd (omega (arith, alike.0))
  any_same p same (x ∷ xs) [] alike = absurd (omega (arith, alike.0))
  any_same p same (x ∷ xs) (y ∷ ys) alike =
      let first = first_alike x y xs ys alike in
      λ i. (ap p first.1 ∙ same first.0 x) i || any_same p same xs ys (rest_alike x y xs ys alike) i

alike_lists : (a b : Cluster) (alike : AreAlikeEnds a b) → AreAlikeLists (alike.1).0 a.ranks b.ranks
alike_lists a b alike = ((((alike.1).1).ranks).many, (((alike.1).1).ranks).each)

pub lines_alike : (order : List ℕ) (a b : Cluster) → AreAlikeEnds a b → rank_lines order b ≡ rank_lines order a
lines_alike order a b alike = lines_same (alike.1).0 order 0 a.ranks b.ranks (alike_lists a b alike)

pub traps_alike : (a b : Cluster) → AreAlikeEnds a b
    → list_any (λ (rank : Rank). has_trapped rank.harts) b.ranks ≡ list_any (λ (rank : Rank). has_trapped rank.harts) a.ranks
traps_alike a b alike =
    any_same (alike.1).0 (λ (rank : Rank). has_trapped rank.harts) (λ clock rank. trapped_same (alike.1).0 rank.harts) a.ranks b.ranks
    (alike_lists a b alike)

pub waits_alike : (order : List ℕ) (a b : Cluster) → AreAlikeEnds a b
    → list_any (λ (rank : Rank). one_waits order rank.harts) b.ranks
    ≡ list_any (λ (rank : Rank). one_waits order rank.harts) a.ranks
waits_alike order a b alike =
    any_same (alike.1).0 (λ (rank : Rank). one_waits order rank.harts) (λ clock rank. waits_same (alike.1).0 order rank.harts) a.ranks
    b.ranks (alike_lists a b alike)

-- ---- the text of a state

pub lines_of_states : (order : List ℕ) (number : ℕ) (ranks : List RankState)
    → end_ranks_from order number ranks ≡ lines_from order number (map rank_of ranks)
lines_of_states order number [] = refl
lines_of_states order number (rank ∷ ranks) =
    ap (λ rest. end_rank_text order number (rank_of rank) ++ rest) (lines_of_states order (number + 1) ranks)

pub waits_of_states : (order : List ℕ) (ranks : List RankState)
    → any_waits order ranks ≡ list_any (λ (rank : Rank). one_waits order rank.harts) (map rank_of ranks)
waits_of_states order [] = refl
waits_of_states order (rank ∷ ranks) = ap (λ b. one_waits order rank.harts.items || b) (waits_of_states order ranks)

-- ---- what is kept of a node

-- what is kept of a node of this number has its ranks
module _ (image : ImageParts) (order : List ℕ) (start : Node) (found : Findings) (explored : ExploredFrom image order start found) where
  pub ranks_kept : (i : ℕ) (what : KeptNode) (node : Node) → slice_get found.kept i ≡ Some what
      → slice_get explored.nodes i ≡ Some node → node.cluster.ranks ≡ what.cluster.ranks
  ranks_kept i what node at there =
      let v = (explored.are).each i what at in
      let same : v.0 ≡ node = same_Some v.0 node (sym v.1 ∙ there) in
      ap (λ (n : Node). n.cluster.ranks) (sym same) ∙ (v.2).ranks_are

  pub stands_kept : (i : ℕ) (what : KeptNode) (node : Node) (state : ClusterState) → slice_get found.kept i ≡ Some what
      → slice_get explored.nodes i ≡ Some node → snapshot state ≡ cluster_of what → ClusterStandsFor image state node.cluster
  stands_kept i what node state at there same =
      let v = (explored.are).each i what at in
      let is : v.0 ≡ node = same_Some v.0 node (sym v.1 ∙ there) in
      subst (λ (n : Node). ClusterStandsFor image state n.cluster) is ((v.2).stands state same)

  pub found_way : (i : ℕ) (node : Node) → slice_get explored.nodes i ≡ Some node
      → (steps : List Step) × IsWay (by_order order) (first_node image) steps node
  found_way i node at = node_found image order found.kept explored.nodes explored.are i node at
