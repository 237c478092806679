-- A search that was cut has each end.
use Rattle.std.proofs.Common.{◌≡◌, ℕ, zero, suc, ◌+◌, ◌⊎◌, inl, inr, List, [], ◌∷◌, ◌++◌, Some, refl, sym, ap, subst}
use Rattle.std.specs.List.{slice_get}
use Rattle.std.proofs.lemmas.Option.{same_Some}
use Rattle.mp_alike_laws.specs.Renaming.{turned}
use Rattle.cl_state.specs.Rank.{Rank}
use Rattle.cl_machine.specs.declared.steps.Step.{Step}
use Rattle.cl_machine.specs.Cluster.{Cluster}
use Rattle.cl_order_laws.specs.Alike.{Leads}
use Rattle.cl_order_laws.specs.Closed.{IsClosed, IsCovered, IsDone, Node, Plans, Turns, one_more}
use Rattle.cl_order_laws.specs.Laws.{AreAlike}
use Rattle.cl_order_laws.specs.Splits.{AreClosed, AreClosedOver, AreCovered, LikewiseLaw, SplitLaw}
use Rattle.cl_order_laws.proofs.Covered.{IsOne, covered_among, covered_on}
use Rattle.cl_order_laws.proofs.Ends.{every_end_law}
use Rattle.cl_order_laws.proofs.Likeness.{clusters_back}

-- ---- one of a list

one_before : (xs ys : List Node) (node : Node) (i : ℕ) → slice_get xs i ≡ Some node → IsOne (xs ++ ys) node
one_before [] ys node i is = absurd (cc)
one_before (x ∷ xs) ys node zero is = (0, is)
one_before (x ∷ xs) ys node (suc i) is = (let o = one_before xs ys node i is in (suc o.0, o.1))

one_behind : (xs ys : List Node) (node : Node) → IsOne ys node → IsOne (xs ++ ys) node
one_behind [] ys node one = one
one_behind (x ∷ xs) ys node one = (let o = one_behind xs ys node one in (suc o.0, o.1))

one_of : (xs ys : List Node) (node : Node) (i : ℕ) → slice_get (xs ++ ys) i ≡ Some node → IsOne xs node ⊎ IsOne ys node
one_of [] ys node i is = inr (i, is)
one_of (x ∷ xs) ys node zero is = inl (0, is)
one_of (x ∷ xs) ys node (suc i) is = elim (one_of xs ys node i is) [
  | inl o ↦ inl (suc o.0, o.1)
  | inr o ↦ inr o
]

-- all nodes of all lists
abbrev joined : List (List Node) → List Node
joined [] = []
joined (part ∷ parts) = part ++ joined parts

one_joined : (parts : List (List Node)) (k : ℕ) (nodes : List Node) (node : Node) → slice_get parts k ≡ Some nodes
    → IsOne nodes node → IsOne (joined parts) node
one_joined [] k nodes node is one = absurd (cc)
one_joined (part ∷ parts) zero nodes node is one =
    let o = subst (λ ns. IsOne ns node) (sym (same_Some part nodes is)) one in
    one_before part (joined parts) node o.0 o.1
one_joined (part ∷ parts) (suc k) nodes node is one =
    one_behind part (joined parts) node (one_joined parts k nodes node is one)

part_of : (parts : List (List Node)) (node : Node) (i : ℕ) → slice_get (joined parts) i ≡ Some node
    → (k : ℕ) × (nodes : List Node) × (slice_get parts k ≡ Some nodes) × IsOne nodes node
part_of [] node i is = absurd (cc)
part_of (part ∷ parts) node i is = elim (one_of part (joined parts) node i is) [
  | inl o ↦ (0, part, refl, o)
  | inr o ↦ (let p = part_of parts node o.0 o.1 in (suc p.0, p.1, p.2, p.3))
]

-- ---- the nodes visited, and all nodes of the lists

module _ (plans : Plans) (before left : List Node) (parts : List (List Node)) (closed : AreClosed plans parts)
    (over : AreClosedOver plans before (before ++ left)) (covered : AreCovered plans parts left) where
  abbrev all : List Node
  all = before ++ joined parts

  by_part : (k : ℕ) (nodes : List Node) (here : Node) → slice_get parts k ≡ Some nodes → IsCovered plans nodes here
      → IsCovered plans all here
  by_part k nodes here is cov =
      covered_among plans nodes all here cov
      (one_behind before (joined parts) cov.node (one_joined parts k nodes cov.node is (cov.index, cov.there)))

  by_all : (here : Node) → IsCovered plans (before ++ left) here → IsCovered plans all here
  by_all here cov = elim (one_of before left cov.node cov.index cov.there) [
    | inl o ↦ covered_among plans (before ++ left) all here cov (one_before before (joined parts) cov.node o.0 o.1)
    | inr o ↦
        let p = covered o.0 cov.node o.1 in
        covered_on plans (before ++ left) all here cov (by_part p.0 p.1 cov.node p.2 p.3)
  ]

  all_closed : IsClosed plans all
  all_closed = record { each = each }
    where
      each : (i r : ℕ) (node : Node) (rank : Rank) → slice_get all i ≡ Some node
          → slice_get node.cluster.ranks r ≡ Some rank
          → IsDone (plans r) rank
          ⊎ ((e : Step) (new : Cluster) → e.rank ≡ r → e.hart ≡ plans r (node.had r) → Leads node.cluster e new
          → IsCovered plans all (record { cluster = new; had = one_more node.had r }))
      each i r node rank there has = elim (one_of before (joined parts) node i there) [
        | inl o ↦ elim (over o.0 r node rank o.1 has) [
          | inl done ↦ inl done
          | inr moves ↦ inr (λ e new at hart leads. by_all _ (moves e new at hart leads))
        ]
        | inr o ↦
            let p = part_of parts node o.0 o.1 in
            elim ((closed p.0 p.1 p.2).each (p.3).0 r node rank (p.3).1 has) [
              | inl done ↦ inl done
              | inr moves ↦ inr (λ e new at hart leads. by_part p.0 p.1 _ p.2 (moves e new at hart leads))
            ]
      ]

pub split_law : SplitLaw
split_law plans before left start parts first over closed covered steps end run follow is =
    let cov = by_all plans before left parts closed over covered start first in
    let found = every_end_law plans (before ++ joined parts) start cov
    (all_closed plans before left parts closed over covered) steps end run follow is in
    elim (one_of before (joined parts) found.1 found.0 found.2) [
      | inl o ↦ inl (o.0, found.1, o.1, found.3)
      | inr o ↦
          let p = part_of parts found.1 o.0 o.1 in
          inr (p.0, p.1, (p.3).0, found.1, p.2, (p.3).1, found.3)
    ]

-- ---- alike clusters

-- a cluster is covered by one that is alike it
pub by_alike : (plans : Plans) (here node : Node) → AreAlike here.cluster node.cluster → node.had ≡ here.had
    → IsCovered plans (node ∷ []) here
by_alike plans here node alike had = record {
  index = 0;
  node = node;
  there = refl;
  names = alike.0;
  many = ((alike.1).ranks).many;
  ranks = λ r rank is.
      let v = ((alike.1).ranks).each r rank is in (
        v.0,
        v.1,
        record {
          turns = 0;
          then = rank;
          after = here.had r;
          ahead = (refl, refl);
          alike = v.2;
          place = inl (λ k. ap (λ (turns : Turns). plans r (turns r + k)) (sym had));
        },
      );
  hubs = (alike.1).hubs;
  boxes = (alike.1).boxes;
}

pub likewise_law : LikewiseLaw
unfolding by_alike
likewise_law plans nodes a b cov alike had =
    covered_on plans (a ∷ []) nodes b
    (by_alike plans b a (turned alike.0, clusters_back alike.0 a.cluster b.cluster alike.1) had) cov
