-- What is noted of nodes, one after another.
use Rattle.std.specs.Prelude.{ℕ, ◌≡◌, false, [], ◌∷◌, ◌++◌, option_map}
use Rattle.cl_explore.specs.Companies.{NotesStuck}
use Rattle.cl_explore.specs.Ends.{Findings, Notes}
use Rattle.cl_explore.specs.How.{How, waits_in}
use Rattle.cl_explore.specs.declared.exploring.Noted.{Noted}
use Rattle.cl_explore.specs.declared.exploring.Told.{Told}
use Rattle.cl_explore.specs.declared.moving.Visit.{Visit}
use Rattle.cl_explore.specs.declared.search.Search.{Search}

-- an end behind the ends, a company behind the companies, and the ranks that rest behind those of the nodes before
pub record NotesVisit (old : Noted) (visit : Visit) (node : ℕ) (new : Noted) : Type 0 where
  pub ends : Notes old.ends.items visit.end node new.ends.items
  pub stuck : NotesStuck old.companies.items (option_map (λ ranks. ranks.items) visit.stuck) node new.companies.items
  pub resting : new.resting.items ≡ old.resting.items ++ visit.resting ∷ []

-- what a search found that goes so, and what was noted, before anybody asks whether ranks only wait for named ranks
abbrev pub findings_of : How → Search → Told → Findings
findings_of how search told = record {
  kept = search.nodes.items;
  ends = told.noted.ends.items;
  companies = told.noted.companies.items;
  leads = search.leads.items;
  left = told.left;
  may_wait = waits_in how;
  only_waits = false;
  resting = told.noted.resting.items;
}
