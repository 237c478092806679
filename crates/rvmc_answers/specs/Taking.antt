-- How a command takes its image from the input.
use Rattle.std.specs.Prelude.{◌≡◌, ⊤, Result, Ok, Err}
use Rattle.rv_image_types.specs.declared.images.ImageParts.{ImageParts}
use Rattle.rvmc_inspect.specs.Below.{Fault}
use Rattle.rvmc_inspect.specs.Below.faults

-- the fault of the input, unless memory was refused
abbrev pub IsFaultIn : Result ImageParts Fault → Fault → Type 0
IsFaultIn meant faults.Memory = ⊤
IsFaultIn meant (faults.Source fault) = meant ≡ Err (faults.Source fault)
IsFaultIn meant (faults.Image fault) = meant ≡ Err (faults.Image fault)
IsFaultIn meant other = ⊥

-- the image that is meant, or the fault
abbrev pub Reads : Result ImageParts Fault → Result ImageParts Fault → Type 0
Reads meant (Ok image) = meant ≡ Ok image
Reads meant (Err fault) = IsFaultIn meant fault
