-- The image that a command takes from its input, or the input's fault.
use Rattle.std.specs.Prelude.{ℕ, ◌+◌, ◌==◌, if◌then◌else◌, Bool, List, length, take, count_by, Result, Err}
use Rattle.std.specs.Result.{result_map_both}
use Rattle.std.specs.Str.Lossy.{utf8_valid_len}
use Rattle.rv_asm.specs.Source.{meaning}
use Rattle.rv_asm_tokens.specs.declared.fault.AsmFaultKind.TheVariants as kinds
use Rattle.rv_image.specs.Reading.{reading}
use Rattle.rv_image_types.specs.declared.images.ImageParts.{ImageParts}
use Rattle.rvmc_inspect.specs.Below.{Fault, fault_of_image, fault_of_source}
use Rattle.rvmc_inspect.specs.Below.faults

-- the fault of bytes that aren't UTF-8: a Token at the line of the first wrong byte
abbrev pub wrong_bytes : List ℕ → Fault
wrong_bytes bytes =
    faults.Source (record {
      line = count_by (λ byte. byte == 10) (take (utf8_valid_len bytes) bytes) + 1;
      kind = kinds.Token;
    })

-- the image of a source, or its fault: of its bytes, or else its first
unfoldable pub source_image : List ℕ → Result ImageParts Fault
source_image bytes =
    if utf8_valid_len bytes == length bytes then result_map_both (λ image. image) fault_of_source (meaning bytes)
    else Err (wrong_bytes bytes)

-- the image that the bytes spell, or their first fault
abbrev pub spelled_image : List ℕ → Result ImageParts Fault
spelled_image bytes = result_map_both (λ image. image) fault_of_image (reading bytes)

-- the image that a command takes from the bytes: with `source` of a source
abbrev pub image_in : Bool → List ℕ → Result ImageParts Fault
image_in source bytes = if source then source_image bytes else spelled_image bytes
