-- A rank as plain data, and as it is loaded.
use Rattle.std.specs.Prelude.{ℕ, zero, suc, List, [], ◌∷◌, ◌++◌}
use Rattle.rv_memory.specs.Memory.{Memory, loaded_memory}
use Rattle.rv_hart.specs.State.{State, start_state}
use Rattle.rv_image_types.specs.declared.images.ImageParts.{ImageParts}
use Rattle.cl_calls.specs.declared.sites.Site.{Site}
use Rattle.mp_request.specs.Table.{Table, no_requests}
use Rattle.part_phase.specs.declared.phases.Phase.{Phase}
use Rattle.part_phase.specs.Phases.{first_phases}

pub record Rank : Type 0 where
  pub site : Site
  pub memory : Memory
  pub harts : List State
  pub requests : Table
  pub phases : List Phase
  pub out : List ℕ
  pub clock : ℕ

-- the numbers below n
abbrev pub below : ℕ → List ℕ
below zero = []
below (suc n) = below n ++ n ∷ []

-- communicator 0 is all ranks in order; the image has the others, from 1
abbrev pub site_of : ImageParts → ℕ → Site
site_of image rank = record {
  number = rank;
  ranks = image.ranks;
  comms = below image.ranks ∷ image.comms;
  links = image.links;
  version = image.version;
}

-- the first n harts
abbrev pub start_harts : ImageParts → ℕ → ℕ → List State
start_harts image rank zero = []
start_harts image rank (suc n) = start_harts image rank n ++ start_state image.entry image.memory n rank ∷ []

-- all ranks load the same image
abbrev pub loaded : ImageParts → ℕ → Rank
loaded image rank = record {
  site = site_of image rank;
  memory = loaded_memory image.memory image.text image.init;
  harts = start_harts image rank image.harts;
  requests = no_requests;
  phases = first_phases image.links rank;
  out = [];
  clock = 0;
}
