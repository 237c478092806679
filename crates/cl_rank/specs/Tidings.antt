-- What a hart is told of the box that its turn asked, and the kind and the stamp of the turn's event.
use Rattle.std.specs.Prelude.{ℕ, ◌≡◌, ⊤, take}
use Rattle.rv_image_types.specs.declared.images.ImageVersion.{ImageVersion}
use Rattle.part_channel.specs.declared.progress.Progress.{Progress}
use Rattle.part_channel.specs.declared.progress.Progress.TheVariants as progress
use Rattle.part_channel.specs.declared.progress.Take.{Take}
use Rattle.part_channel.specs.declared.progress.Take.TheVariants as found
use Rattle.part_phase.specs.Limits.{box_bytes, padded}
use Rattle.cl_state.specs.declared.asking.Answer.{Answer}
use Rattle.cl_state.specs.declared.asking.Answer.TheVariants as answer
use Rattle.cl_trace.specs.declared.events.Kind.{Kind}
use Rattle.cl_trace.specs.declared.events.Kind.TheVariants as kind

abbrev pub Tidings : Type 0
Tidings = Answer × Kind × ℕ

-- a test that looked at a box found its partition freed, or not yet
abbrev pub HasLooked : Progress → Type 0
HasLooked (progress.Freed stamp) = ⊤
HasLooked (progress.Missed stamp) = ⊤
HasLooked _ = ⊥

-- and tells this
abbrev pub TestTells : Progress → Tidings → Type 0
TestTells (progress.Freed stamp) told = told ≡ (answer.Freed, kind.Freed, stamp)
TestTells (progress.Missed stamp) told = told ≡ (answer.Missed, kind.Miss, stamp)
TestTells _ told = ⊥

-- what was taken out of a box is told with all bytes of a box of the version, and else the miss
abbrev pub TakeTells : ImageVersion → Take → Tidings → Type 0
TakeTells version (found.Taken bytes stamp) told =
    told ≡ (answer.Taken (padded version (take (box_bytes version) bytes)), kind.Take, stamp)
TakeTells version (found.Missed stamp) told = told ≡ (answer.Missed, kind.Miss, stamp)
