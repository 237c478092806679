use Rattle.cl_moves.proofs.Asking.{if_ok_on}
use Rattle.cl_contests.specs.Kept.{search_of}
use Rattle.cl_contests.proofs.Others.{lone_next}
use Rattle.cl_contests.proofs.first.next_turn.Goals as goal

pub returns : goal.returns
returns c =
    if_ok_on c.next_lone.result
    (λ o turn. lone_next (search_of c.args.patterns.now.may_wait c.args.patterns.now.kept.items) c.args.standing.now o turn)
    c.next_lone.ensures
