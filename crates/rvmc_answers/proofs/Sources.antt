-- The image of a source whose bytes are UTF-8, and the fault that is told of it.
use Rattle.std.proofs.Common.{◌≡◌, ◌∙◌, List, ℕ, ap, length, refl, eq-eqb}
use Rattle.std.specs.Prelude.{Err, Result}
use Rattle.std.proofs.lemmas.Str.{utf8_valid_len-IsUtf8}
use Rattle.std.specs.Result.{result_map_both}
use Rattle.std.specs.Str.{IsUtf8}
use Rattle.std.specs.Str.Lossy.{utf8_valid_len}
use Rattle.rv_asm.specs.Source.{meaning}
use Rattle.rv_asm.specs.Made.{FailsAt, Unless}
use Rattle.rv_asm_tokens.specs.declared.fault.AsmFault.{AsmFault}
use Rattle.rv_asm_tokens.specs.declared.fault.AsmFaultKind.{AsmFaultKind}
use Rattle.rv_asm_tokens.specs.declared.fault.AsmFaultKind.TheVariants as kinds
use Rattle.rv_image_types.specs.declared.images.ImageParts.{ImageParts}
use Rattle.rvmc_answers.specs.Images.{source_image}
use Rattle.rvmc_answers.specs.Taking.{IsFaultIn}
use Rattle.rvmc_inspect.specs.Below.{Fault, fault_of_kind, fault_of_source}

-- what the assembler answers, with its fault as it is told
abbrev pub told_meaning : Result ImageParts AsmFault → Result ImageParts Fault
told_meaning meant = result_map_both (λ image. image) fault_of_source meant

pub source_image-utf8 : (bytes : List ℕ) → IsUtf8 bytes → source_image bytes ≡ told_meaning (meaning bytes)
unfolding source_image
source_image-utf8 bytes utf8 = rw (eq-eqb (utf8_valid_len bytes) (length bytes) (utf8_valid_len-IsUtf8 bytes utf8)) refl

-- the fault that the assembler answers is the fault of the source
pub told_source : (bytes : List ℕ) (fault : AsmFault) → IsUtf8 bytes → FailsAt fault (meaning bytes) → IsFaultIn (source_image bytes) (fault_of_source fault)
told_source bytes fault utf8 fails = go fault.kind refl fails
  where
    told : (kind : AsmFaultKind) → fault.kind ≡ kind → meaning bytes ≡ Err fault → source_image bytes ≡ Err (fault_of_kind kind fault)
    told kind e f = source_image-utf8 bytes utf8 ∙ (ap told_meaning f ∙ ap (λ (k : AsmFaultKind). Err (fault_of_kind k fault)) e)

    go : (kind : AsmFaultKind) → fault.kind ≡ kind → Unless kind (meaning bytes ≡ Err fault) → IsFaultIn (source_image bytes) (fault_of_kind kind fault)
    go kinds.Memory e f = tt
    go kinds.Token e f = told _ e f
    go kinds.Mnemonic e f = told _ e f
    go kinds.Operand e f = told _ e f
    go (kinds.Range value) e f = told _ e f
    go kinds.LabelTwice e f = told _ e f
    go kinds.LabelMissing e f = told _ e f
    go kinds.Directive e f = told _ e f
    go kinds.Limit e f = told _ e f
