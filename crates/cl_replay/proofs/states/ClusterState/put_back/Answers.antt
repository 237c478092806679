use Rattle.std.proofs.Common.{ap, map, ◌∙◌}
use Rattle.std.proofs.lemmas.List.{map-set}
use Rattle.std.specs.Prelude.{slice_set}
use Rattle.cl_state.specs.Room.{rank_of}
use Rattle.cl_replay.proofs.states.ClusterState.put_back.Goals as goal

pub returns-clause-ranks : goal.returns-clause-ranks
returns-clause-ranks c =
    let old = c.args.self.now.ranks.items in
    map-set rank_of old c.args.rank c.in_ok-own.own
    ∙ ap (λ r. slice_set (map rank_of old) c.args.rank r) c.in_ok-own.ensures
