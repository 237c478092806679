-- The one text of an image, as bytes. Numbers have their low byte first.
use Rattle.std.specs.Prelude.{ℕ, List, [], ◌∷◌, ◌++◌, length, codes}
use Rattle.std.specs.List.{flat_map}
use Rattle.std.specs.Int.{w16, w32, to_le_bytes}
use Rattle.rv_image_types.specs.declared.images.ImageVersion.{ImageVersion}
use Rattle.rv_image_types.specs.declared.images.ImageVersion.TheVariants.{One, Two}
use Rattle.rv_image_types.specs.declared.images.Link.{Link}
use Rattle.rv_image_types.specs.declared.images.Symbol.{Symbol}
use Rattle.rv_image_types.specs.declared.images.ImageParts.{ImageParts}

-- a number of members, and the members
abbrev pub comm_text : List ℕ → List ℕ
comm_text members = length members ∷ members

abbrev pub link_text : Link → List ℕ
link_text link = link.from ∷ link.to ∷ []

-- an address, a number of bytes, and the name of so many bytes
abbrev pub symbol_text : Symbol → List ℕ
symbol_text symbol = to_le_bytes w32 symbol.address ++ (length symbol.name ∷ symbol.name)

abbrev pub version_number : ImageVersion → ℕ
version_number One = 1
version_number Two = 2

-- the 28 bytes of the header: magic, version, and the numbers; that of the symbols is 0 in version 1
unfoldable pub header_text : ImageParts → List ℕ
header_text image =
    codes "RVMC"
    ++ to_le_bytes w16 (version_number image.version)
    ++ (image.ranks ∷ image.harts ∷ [])
    ++ to_le_bytes w32 image.memory
    ++ to_le_bytes w32 image.entry
    ++ to_le_bytes w32 (length image.text)
    ++ to_le_bytes w32 (length image.init)
    ++ (length image.comms ∷ length image.links ∷ [])
    ++ to_le_bytes w16 (length image.symbols)

-- what stands behind the header
abbrev pub body_text : ImageParts → List ℕ
body_text image =
    flat_map comm_text image.comms
    ++ (flat_map link_text image.links ++ (image.text ++ (image.init ++ flat_map symbol_text image.symbols)))

-- all of the image's bytes
unfoldable pub image_text : ImageParts → List ℕ
image_text image = header_text image ++ body_text image
