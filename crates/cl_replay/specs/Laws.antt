-- The law of runs that are replayed.
use Rattle.std.specs.Prelude.{List, ℕ, ◌<◌}
use Rattle.rv_image_types.specs.declared.images.ImageParts.{ImageParts}
use Rattle.cl_machine.specs.declared.steps.Step.{Step}
use Rattle.cl_replay.specs.InnerReplaying.{BreaksAt}
use Rattle.cl_replay.specs.Replays.{IsRunUpTo}

-- steps that are a run up to the first n don't break before
abbrev pub RunLaw : Type 0
RunLaw = (image : ImageParts) (steps : List Step) (n k : ℕ) → IsRunUpTo image steps n → k < n → ¬ BreaksAt image steps k
