-- Which steps are told, and the text of their lines.
use Rattle.std.specs.Prelude.{ℕ, ◌+◌, ◌==◌, ◌&&◌, not, if◌then◌else◌, Bool, true, false, List, [], ◌∷◌, ◌++◌, codes, map}
use Rattle.std.specs.Prelude.{Option, Some, None}
use Rattle.std.specs.Fmt.{decimal}
use Rattle.std.specs.List.{filter}
use Rattle.rv_image_types.specs.declared.images.Symbol.{Symbol}
use Rattle.mp_types.specs.declared.replies.Reply.{Reply}
use Rattle.mp_types.specs.declared.replies.Reply.TheVariants as reply
use Rattle.cl_trace.specs.declared.events.Kind.{Kind}
use Rattle.cl_machine.specs.declared.steps.Step.{Step}
use Rattle.rvmc_list.specs.Phases.{Scene, scene_text}
use Rattle.rvmc_list.specs.declared.folding.Wanted.{Wanted}

-- ---- which of them are told

abbrev pub is_plain : Kind → Bool
is_plain Kind.Plain = true
is_plain _ = false

-- a step of the wanted rank, and where calls alone are wanted no instruction
abbrev pub is_of_rank : Option ℕ → ℕ → Bool
is_of_rank None rank = true
is_of_rank (Some wanted) rank = wanted == rank

abbrev pub is_wanted : Wanted → Step → Bool
is_wanted wanted e = is_of_rank wanted.rank e.rank && not (wanted.calls && is_plain e.kind)

-- ---- looks in vain

-- a turn of a hart that found nothing, and goes on waiting or is told so
abbrev pub is_not_yet : Reply → Bool
is_not_yet reply.NotYet = true
is_not_yet _ = false

abbrev pub is_vain : Kind → Bool
is_vain (Kind.Hub r) = is_not_yet r
is_vain Kind.Miss = true
is_vain Kind.Held = true
is_vain Kind.Idle = true
is_vain _ = false

-- ---- lines

-- a line without what stands behind it, and whether it is folded into one of its kind that stands before it at once
pub record Line : Type 0 where
  pub folded : Bool
  pub text : List ℕ

-- how many lines, from the first on, are folded
abbrev pub folded_at_front : List Line → ℕ
folded_at_front [] = 0
folded_at_front (line ∷ lines) = if line.folded then 1 + folded_at_front lines else 0

-- behind the first of several how many more there are
abbrev pub folded_text : ℕ → List ℕ
folded_text more = if (more == 0) then [] else codes " and " ++ (decimal more ++ codes " more looks in vain")

-- the whole line with those behind it in view
abbrev pub line_text : Line → List Line → List ℕ
line_text line behind = line.text ++ ((if line.folded then folded_text (folded_at_front behind) else []) ++ 10 ∷ [])

-- lines in order: of those that are folded and follow one another the first one's alone. `within` tells that one stands
-- before them
abbrev pub lines_text : Bool → List Line → List ℕ
lines_text within [] = []
lines_text within (line ∷ behind) =
    (if within && line.folded then [] else line_text line behind) ++ lines_text line.folded behind

-- ---- the text

-- looks in vain are folded where calls alone are wanted
abbrev pub scene_line : List Symbol → Wanted → Scene → Line
scene_line symbols wanted scene =
    record { folded = wanted.calls && is_vain scene.sight.step.kind; text = scene_text symbols scene }

-- of those that are wanted
abbrev pub lines_of : List Symbol → Wanted → List Scene → List Line
lines_of symbols wanted scenes =
    map (scene_line symbols wanted) (filter (λ (scene : Scene). is_wanted wanted scene.sight.step) scenes)

abbrev pub scenes_text : List Symbol → Wanted → List Scene → List ℕ
scenes_text symbols wanted scenes = lines_text false (lines_of symbols wanted scenes)
