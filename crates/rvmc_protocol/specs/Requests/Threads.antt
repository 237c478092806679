-- Threads, and how they are to move: `c` goes on, `s` makes a step, `t` stops.
use Rattle.std.specs.Prelude.{ℕ, List, [], ◌∷◌, Option, Some, None, ◌==◌, if◌then◌else◌, codes, option_and_then, option_map}
use Rattle.std.specs.Str.{bytes_eq}
use Rattle.rvmc_protocol.specs.Requests.Pieces.{cut, number_in}
use Rattle.rvmc_protocol.specs.declared.requests.threads.Thread.{Thread}
use Rattle.rvmc_protocol.specs.declared.requests.threads.Thread.TheVariants.{All, Any, One}
use Rattle.rvmc_protocol.specs.declared.requests.threads.Move.{Move}
use Rattle.rvmc_protocol.specs.declared.requests.threads.Move.TheVariants.{Go, Step, Stop}

-- 0 is any thread
abbrev pub named : ℕ → Thread
named number = if number == 0 then Any else One number

-- `-1`, or a number
unfoldable pub thread_in : List ℕ → Option Thread
thread_in text = if bytes_eq text (codes "-1") then Some All else option_map named (number_in text)

-- the action of a letter, for this thread
unfoldable pub move_in : List ℕ → Thread → Option Move
move_in letter thread =
    if bytes_eq letter (codes "c") then Some Go
    else if bytes_eq letter (codes "s") then Some (Step thread)
    else if bytes_eq letter (codes "t") then Some Stop
    else None

-- a letter alone, or with a colon and a thread behind it
abbrev pub action_at : List ℕ → Option (List ℕ × List ℕ) → Option Move
action_at text None = move_in text Any
action_at text (Some sides) = option_and_then (λ thread. move_in sides.0 thread) (thread_in sides.1)

unfoldable pub action_in : List ℕ → Option Move
action_in text = action_at text (cut 58 text)

-- of two actions the one that is done: the first step, or else that something goes on
abbrev pub chosen : Move → Move → Move
chosen (Step thread) second = Step thread
chosen Go (Step thread) = Step thread
chosen Go Go = Go
chosen Go Stop = Go
chosen Stop second = second

-- what actions ask for together, behind others that ask for this
abbrev pub moved : Move → List (List ℕ) → Option Move
moved all [] = Some all
moved all (text ∷ texts) = option_and_then (λ action. moved (chosen all action) texts) (action_in text)
