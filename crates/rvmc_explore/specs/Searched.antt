-- What a search found, and which of its nodes lead where.
use Rattle.std.specs.Prelude.{ℕ, zero, suc, ◌≡◌, ◌<◌, Bool, false, true, List, length, slice_get, Some, None}
use Rattle.rv_image_types.specs.declared.images.ImageParts.{ImageParts}
use Rattle.cl_explore.specs.Covering.{HasLead}
use Rattle.cl_order_laws.specs.Closed.{Node}
use Rattle.cl_explore.specs.Ends.{Explored, ExploredFrom, Findings, IsBounded}
use Rattle.cl_explore.specs.declared.companies.Company.{Company}
use Rattle.cl_explore.specs.declared.leads.Lead.{Lead}

-- a search of the image by the order, in which standard sends are to buffer or may wait, of so many states at most, and in
-- which a rank takes so many turns by itself at once, found this
pub record IsSearched (image : ImageParts) (order : List ℕ) (buffered : Bool) (states turns : ℕ) (found : Findings) : Type 0 where
  pub explored : Explored image order found
  pub bounded : IsBounded states None turns found.kept found.left
  pub buffers : buffered ≡ true → found.may_wait ≡ false

-- a search of the image by the order found this, from wherever it began
abbrev pub IsExplored : ImageParts → List ℕ → Findings → Type 0
IsExplored image order found = (start : Node) × ExploredFrom image order start found

-- each number is that of a node
pub record IsWithin (found : Findings) : Type 0 where
  pub ends : (k i : ℕ) → slice_get found.ends k ≡ Some i → i < length found.kept
  pub companies : (k : ℕ) (company : Company) → slice_get found.companies k ≡ Some company
      → company.node < length found.kept

-- ---- where nodes lead

-- by so many moves the node of this number leads to one of these
abbrev pub GoesIn : List Lead → List ℕ → ℕ → ℕ → Type 0
GoesIn leads targets zero i = (k : ℕ) × (slice_get targets k ≡ Some i)
GoesIn leads targets (suc n) i = (j : ℕ) × HasLead leads i j × GoesIn leads targets n j

abbrev pub GoesTo : List Lead → List ℕ → ℕ → Type 0
GoesTo leads targets i = (n : ℕ) × GoesIn leads targets n i

-- each node that is marked does
abbrev pub AreSound : List Lead → List ℕ → List Bool → Type 0
AreSound leads targets marks = (i : ℕ) → slice_get marks i ≡ Some true → GoesTo leads targets i
