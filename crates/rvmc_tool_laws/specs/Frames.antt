-- Laws of chains of frames.
use Rattle.std.specs.Prelude.{ℕ, ◌≡◌, ◌+◌, ◌<◌, ◌≤◌, ◌⊎◌, List, length, map, slice_get, None, Some}
use Rattle.std.specs.List.Sorted.{IsStrictlyIncreasing}
use Rattle.rv_hart.specs.State.{State}
use Rattle.rv_image_types.specs.declared.images.Symbol.{Symbol}
use Rattle.rv_memory.specs.Memory.{Memory}
use Rattle.rvmc_places.specs.Frames.{frame_at, frames, returned}
use Rattle.rvmc_places.specs.Pointers.{kept_pointer}
use Rattle.rvmc_places.specs.Ways.{called_at, way}
use Rattle.rvmc_places.specs.declared.frames.Frame.{Frame}
use Rattle.rvmc_places.specs.declared.pointers.Keeps.{Keeps}
use Rattle.rvmc_places.specs.declared.pointers.Keeps.TheVariants.{Without}

-- the ends of frames rise, so no frame stands twice in a chain; and there are 64 at most
abbrev pub FramesRiseLaw : Type 0
FramesRiseLaw =
    (symbols : List Symbol) (memory : Memory) (hart : State)
    → IsStrictlyIncreasing (map (λ frame. frame.pointer) (frames symbols memory hart))
    × (length (frames symbols memory hart) ≤ 64)

-- one of the 256 ways from behind the call of a frame's function leads to this frame
abbrev pub LeadsTo : Memory → Frame → Frame → Type 0
LeadsTo memory frame next = (number : ℕ) × (number < 256) × (way memory (returned frame) number ≡ Some next)

-- and where none leads anywhere
abbrev pub LeadsNowhere : Memory → Frame → Type 0
LeadsNowhere memory frame = (number : ℕ) → number < 256 → way memory (returned frame) number ≡ None

-- the caller's frame: where it keeps a frame pointer, what the memory holds where the frame before it says; elsewhere a
-- way out of the caller leads to it, or where none leads out it is the same
abbrev pub IsCallers : Keeps → Memory → Frame → Frame → Type 0
IsCallers Without memory frame next =
    LeadsTo memory frame next ⊎ (LeadsNowhere memory frame × (frame_at memory frame.above ≡ Some next))
IsCallers keeps memory frame next = frame_at memory frame.above ≡ Some next

-- each frame above the innermost is its caller's
abbrev pub HeldFramesLaw : Type 0
HeldFramesLaw =
    (symbols : List Symbol) (memory : Memory) (hart : State) (k : ℕ) (frame next : Frame)
    → slice_get (frames symbols memory hart) k ≡ Some frame → slice_get (frames symbols memory hart) (k + 1) ≡ Some next
    → IsCallers (kept_pointer symbols memory (called_at frame)) memory frame next
