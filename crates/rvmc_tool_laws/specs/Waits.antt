-- Laws of what is told: which symbol an address is told by, and who could bring what a hart waits for.
use Rattle.std.specs.Prelude.{ℕ, ◌≡◌, ◌<◌, ◌≤◌, ◌==◌, ◌&&◌, Bool, false, List, ◌∷◌, ◌++◌, MatchOption, Option, Some}
use Rattle.std.specs.List.{AllByRecursion}
use Rattle.rv_image_types.specs.declared.images.Link.{Link}
use Rattle.rv_image_types.specs.declared.images.Symbol.{Symbol}
use Rattle.mp_match.specs.declared.posts.Line.{Line}
use Rattle.mp_match.specs.Pairs.{admits}
use Rattle.mp_hub.specs.Hub.{selecting}
use Rattle.mp_transfers.specs.Inits.{is_receiver}
use Rattle.mp_wait_laws.specs.Waits.{could_pair, could_send, sends_over}
use Rattle.rvmc_inspect.specs.declared.awaited.Wait.{Wait}
use Rattle.rvmc_inspect.specs.declared.awaited.Wait.TheVariants as wait
use Rattle.rvmc_places.specs.Places.{nearest}
use Rattle.rvmc_inspect.specs.Waits.{partition_wait, post_wait, shape_wait, taken_wait}

-- ---- symbols

-- the symbol is at the address or before it; none at the address or before it is nearer, nor as near and before it in
-- the list
pub record IsNearest (at : ℕ) (symbols : List Symbol) (symbol : Symbol) : Type 0 where
  pub front : List Symbol
  pub back : List Symbol
  pub stands : symbols ≡ front ++ symbol ∷ back
  pub before : symbol.address ≤ at
  pub first : AllByRecursion (λ other. other.address ≤ at → other.address < symbol.address) front
  pub none_nearer : AllByRecursion (λ other. other.address ≤ at → other.address ≤ symbol.address) back

-- the address is told by the nearest symbol, and by none where all are behind it
abbrev pub NearestLaw : Type 0
NearestLaw =
    (at : ℕ) (symbols : List Symbol)
    → MatchOption (nearest at symbols) (AllByRecursion (λ symbol. at < symbol.address) symbols) (IsNearest at symbols)

-- ---- who could bring it

-- whether rank k is one that the text names. `member comm k` tells whether it is a member of a communicator
abbrev pub is_named : (ℕ → ℕ → Bool) → Wait → ℕ → Bool
is_named member (wait.Message source tag comm) k = admits source k && member comm k
is_named member (wait.Receiver rank) k = rank == k
is_named member (wait.Partition part link rank) k = rank == k
is_named member (wait.Taken part link rank) k = rank == k
is_named member (wait.Shape link rank) k = rank == k
is_named member (wait.OwnPartition part link) k = false

-- who could bring what a hart waits for is whom the text names: the other side of a post, a message that is probed, and
-- who sends and receives over a link
pub record NamedLaw : Type 0 where
  pub post : (member : ℕ → ℕ → Bool) (line : Line) (k : ℕ)
      → could_pair member (Some line) k ≡ is_named member (post_wait line.post) k
  pub probe : (member : ℕ → ℕ → Bool) (rank comm : ℕ) (source tag : Option ℕ) (k : ℕ)
      → could_send member (selecting rank comm source tag) k ≡ is_named member (wait.Message source tag comm) k
  pub shape : (member : ℕ → ℕ → Bool) (links : List Link) (link : ℕ) (found : Wait) (k : ℕ)
      → shape_wait links link ≡ Some found → sends_over links link k ≡ is_named member found k
  pub partition : (member : ℕ → ℕ → Bool) (links : List Link) (link part : ℕ) (found : Wait) (k : ℕ)
      → partition_wait links link part ≡ Some found → sends_over links link k ≡ is_named member found k
  pub taken : (member : ℕ → ℕ → Bool) (links : List Link) (link part : ℕ) (found : Wait) (k : ℕ)
      → taken_wait links link part ≡ Some found → is_receiver links k link ≡ is_named member found k
