-- A closed list has every company of stuck ranks.
use Rattle.std.proofs.Common.{◌≡◌, ℕ, List, [], ◌∷◌, map, Some, sym, subst}
use Rattle.std.specs.List.{slice_get}
use Rattle.cl_machine.specs.declared.steps.Step.{Step}
use Rattle.cl_order_laws.specs.Closed.{Node, Plans, had_after}
use Rattle.cl_order_laws.specs.Sure.{Goes, HasPostsWithin, IsSure}
use Rattle.cl_order_laws.proofs.AtOnce.{walk_holds}
use Rattle.cl_order_laws.proofs.Covered.{covered_law, node_of, only_one}
use Rattle.cl_order_laws.proofs.Walks.{Covers, walk_of}
use Rattle.cl_outcome_laws.specs.Companies.{IsCompany}
use Rattle.cl_outcome_laws.specs.Laws.{CompanyLaw, HasCompany}
use Rattle.cl_outcome_laws.proofs.Carried.{company_covered}
use Rattle.cl_outcome_laws.proofs.Stays.{company_after}

module _ (plans : Plans) (most : ℕ) (ranks : List ℕ) (nodes : List Node) where
  -- where they are a company, they are one at some node
  abbrev Finds : Node → Type 0
  Finds here = IsCompany ranks here.cluster → HasCompany ranks nodes

  finds_back : (node here : Node) → Covers plans node here → Finds node → Finds here
  finds_back node here covers finds company =
      finds (subst (λ (n : Node). IsCompany ranks n.cluster)
      (sym (only_one node covers.node covers.index covers.there))
      (company_covered plans ranks (node ∷ []) here covers company))

  finds_before : (r : ℕ) (here new : Node) → IsSure plans most here r → Goes plans r here new
      → HasPostsWithin most new.cluster → Finds new → Finds here
  finds_before r here new sure goes within finds company =
      finds (company_after plans most r here new ranks sure goes within company)

  finds_here : (i : ℕ) (node : Node) → slice_get nodes i ≡ Some node → Finds node
  finds_here i node there company = (i, node, there, company)

pub company_law : CompanyLaw
company_law = record {
  covered = λ plans nodes start first closed steps end run follow ranks company.
      let cov = covered_law plans nodes start first closed steps end run follow in (
        cov.index,
        cov.node,
        cov.there,
        company_covered plans ranks nodes (node_of end (had_after start.had steps)) cov company,
      );
  at_once = λ plans most nodes start settled within closed steps end run follow ranks company.
      walk_holds plans most (Finds plans most ranks nodes) (finds_back plans most ranks nodes)
      (finds_before plans most ranks nodes) nodes closed (finds_here plans most ranks nodes)
      (map (λ (e : Step). e.rank) steps) start (node_of end (had_after start.had steps)) settled within
      (walk_of plans steps start.cluster end start.had run follow) company;
}
