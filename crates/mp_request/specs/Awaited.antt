-- Whether a request is to be awaited.
use Rattle.std.specs.Prelude.{Bool, true, false}
use Rattle.mp_request.specs.declared.entries.Progress.{Progress}
use Rattle.mp_request.specs.declared.entries.Progress.TheVariants.{Finished, Sent, OnPost, InPhase}
use Rattle.mp_request.specs.declared.entries.State.{State}
use Rattle.mp_request.specs.declared.entries.State.TheVariants.{Ordinary, Inactive, Active}

-- a persistent request is inactive until it is started, and again once it is completed (3.9)
abbrev pub is_inactive : State → Bool
is_inactive (Ordinary progress) = false
is_inactive Inactive = true
is_inactive (Active progress) = false

-- a persistent request is inactive when it is made
abbrev pub is_new : State → Bool
is_new (Ordinary progress) = true
is_new Inactive = true
is_new (Active progress) = false

abbrev pub is_finished : Progress → Bool
is_finished Finished = true
is_finished (Sent post) = true
is_finished (OnPost post) = false
is_finished InPhase = false

-- nothing is to be awaited before it completes; an inactive request counts as complete (3.7.3)
abbrev pub is_done : State → Bool
is_done (Ordinary progress) = is_finished progress
is_done Inactive = true
is_done (Active progress) = is_finished progress
