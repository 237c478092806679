-- Laws of verdicts.
use Rattle.std.specs.Prelude.{◌≡◌, List}
use Rattle.rv_image_types.specs.declared.images.ImageParts.{ImageParts}
use Rattle.cl_machine.specs.Merge.{IsMerge}
use Rattle.cl_machine.specs.declared.steps.Step.{Step}
use Rattle.cl_record.specs.Records.{IsMergedRun, steps_in}
use Rattle.cl_record.specs.declared.records.Record.{Record}
use Rattle.cl_check.specs.declared.checking.Verdict.{Verdict}
use Rattle.cl_check.specs.Checks.{IsVerdict}

-- there is one verdict at most
abbrev pub OneVerdictLaw : Type 0
OneVerdictLaw =
    (image : ImageParts) (steps : List Step) (one other : Verdict) → IsVerdict image steps one
    → IsVerdict image steps other → one ≡ other

-- where a record's events, in order of their stamps, are a run that ends in the record, they are good, whoever put them
-- in order
abbrev pub MergedIsGoodLaw : Type 0
MergedIsGoodLaw =
    (image : ImageParts) (left : Record) (steps : List Step) (verdict : Verdict) → IsMergedRun image left
    → IsMerge (steps_in left) steps → IsVerdict image steps verdict → verdict ≡ Verdict.Good
