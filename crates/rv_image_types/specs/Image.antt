-- What an image is: every limit that its parts keep.
use Rattle.std.specs.Prelude.{◌≡◌, ◌≢◌, ℕ, ◌<◌, ◌≤◌, ◌+◌, ◌*◌, ◌/◌, ◌%◌, List, length, map, All, true, nat_eq}
use Rattle.std.specs.List.{IsDistinct}
use Rattle.rv_image_types.specs.declared.images.ImageVersion.{ImageVersion}
use Rattle.rv_image_types.specs.declared.images.ImageVersion.TheVariants.{One, Two}
use Rattle.rv_image_types.specs.declared.images.Link.{Link}
use Rattle.rv_image_types.specs.declared.images.Symbol.{Symbol}
use Rattle.rv_image_types.specs.declared.images.ImageParts.{ImageParts}
use Rattle.rv_image_types.specs.Limits.{most_ranks, most_harts, most_comms, most_links, most_symbols_in_two}
use Rattle.rv_image_types.specs.Limits.{memory_page, most_memory_bytes}
use Rattle.rv_image_types.specs.Names.{is_symbol_name, RisingNames}

-- where the initial data begins: the text's length rounded up to a multiple of 16
abbrev pub data_start : ℕ → ℕ
data_start text_length = (text_length + 15) / 16 * 16

-- a communicator: 1 to 8 ranks of the image, none twice
pub record IsCommunicator (ranks : ℕ) (members : List ℕ) : Type 0 where
  pub has_members : 1 ≤ length members
  pub few_members : length members ≤ most_ranks
  pub ranks_there : All (λ rank. rank < ranks) members
  pub distinct : IsDistinct nat_eq members

-- a link: two ranks of the image that differ
pub record IsLink (ranks : ℕ) (link : Link) : Type 0 where
  pub from_there : link.from < ranks
  pub to_there : link.to < ranks
  pub differ : link.to ≢ link.from

-- a symbol: a name, and an address in the memory or at its very end
pub record IsSymbol (memory : ℕ) (symbol : Symbol) : Type 0 where
  pub named : is_symbol_name symbol.name ≡ true
  pub in_memory : symbol.address ≤ memory

-- how many symbols an image may have: version 1 has no place for them
abbrev pub most_symbols : ImageVersion → ℕ
most_symbols One = 0
most_symbols Two = most_symbols_in_two

-- the symbols' names, in order
abbrev pub symbol_names : List Symbol → List (List ℕ)
symbol_names symbols = map (λ symbol. symbol.name) symbols

-- parts of which an image is made
pub record IsImage (image : ImageParts) : Type 0 where
  pub has_ranks : 1 ≤ image.ranks
  pub few_ranks : image.ranks ≤ most_ranks
  pub has_harts : 1 ≤ image.harts
  pub few_harts : image.harts ≤ most_harts
  pub least_memory : memory_page ≤ image.memory
  pub most_memory : image.memory ≤ most_memory_bytes
  pub whole_pages : image.memory % memory_page ≡ 0
  pub stacks_fit : memory_page * image.harts ≤ image.memory
  pub has_text : 0 < length image.text
  pub whole_words : length image.text % 4 ≡ 0
  pub text_fits : length image.text ≤ image.memory
  pub init_fits : data_start (length image.text) + length image.init ≤ image.memory
  pub entry_aligned : image.entry % 4 ≡ 0
  pub entry_in_text : image.entry < length image.text
  pub few_comms : length image.comms ≤ most_comms
  pub comms : All (IsCommunicator image.ranks) image.comms
  pub few_links : length image.links ≤ most_links
  pub links : All (IsLink image.ranks) image.links
  pub few_symbols : length image.symbols ≤ most_symbols image.version
  pub symbols : All (IsSymbol image.memory) image.symbols
  pub rising : RisingNames (symbol_names image.symbols)

-- the same in version 2, which each image may be written in
abbrev pub in_version_two : ImageParts → ImageParts
in_version_two image = record image { version = Two }
