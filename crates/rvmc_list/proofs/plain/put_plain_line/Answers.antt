use Rattle.std.proofs.Common.{◌++◌, ◌∷◌, [], ◌∙◌, List, ℕ, ap}
use Rattle.cl_state.specs.Room.{rank_of}
use Rattle.rvmc_sights.specs.Lines.{sight_of, sight_text}
use Rattle.rvmc_list.specs.Phases.{phase_text}
use Rattle.rvmc_list.specs.Pieces.{closing}
use Rattle.rvmc_list.proofs.Plains.{line_is}
use Rattle.rvmc_list.proofs.plain.put_plain_line.Goals as goal

-- the line stands behind the end of what was begun
pub returns-clause-puts : goal.returns-clause-puts
returns-clause-puts c = λ s t s_there t_there s_hart t_hart.
    let due = c.args.due.now in
    let sight = sight_text c.args.symbols.now (sight_of due.place due.step.now (rank_of s) (rank_of t)) in
    let phase = phase_text due.phase in
    c.in_ok-end_line.ensures
    ∙ ap (λ (x : List ℕ). x ++ (phase ++ 10 ∷ []))
    (c.in_ok-put_plain.ensures.puts s t s_there t_there s_hart t_hart
    ∙ ap (λ (x : List ℕ). x ++ sight) c.in_ok-close.ensures)
    ∙ line_is c.args.text.now.items (closing c.args.begun) sight phase (10 ∷ [])
