-- What the report of a record has of the report of the run that left it.
use Rattle.std.specs.Prelude.{ℕ, ◌≡◌, List, map}
use Rattle.rv_image_types.specs.declared.images.ImageParts.{ImageParts}
use Rattle.cl_machine.specs.Merge.{IsMerge}
use Rattle.cl_machine.specs.declared.steps.Step.{Step}
use Rattle.cl_record.specs.Records.{IsMergedRun, steps_in}
use Rattle.cl_record.specs.declared.records.Record.{Record}
use Rattle.rvmc_report.specs.Recorded.{IsReportOf, stop_by_harts}
use Rattle.rvmc_report.specs.Report.{RankEnd, rank_ends, report, status_of}
use Rattle.rvmc_report.specs.WholeRecord.{HasEachRank}

-- the same end, with the cause that the harts tell
abbrev pub told_by_harts : RankEnd → RankEnd
told_by_harts end = record end { stop = stop_by_harts end.harts }

-- of the steps that a run left, in order of their stamps, it is the run's own but for that cause: the same outputs,
-- harts and numbers of turns
abbrev pub SameReportLaw : Type 0
SameReportLaw =
    (image : ImageParts) (left : Record) (steps : List Step) (text : List ℕ) (status : ℕ)
    → IsMergedRun image left → HasEachRank left → IsMerge (steps_in left) steps → IsReportOf image steps text status
    → (text ≡ report (map told_by_harts (rank_ends left))) × (status ≡ status_of (map told_by_harts (rank_ends left)))
