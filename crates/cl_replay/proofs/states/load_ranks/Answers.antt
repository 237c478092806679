use Rattle.std.proofs.Common.{◌∙◌, ap}
use Rattle.cl_state.specs.Room.{rank_of}
use Rattle.cl_replay.proofs.Clusters.{loaded_more}
use Rattle.cl_replay.proofs.states.load_ranks.Goals as goal

pub loop-rank-preserved : goal.loop-rank-preserved
loop-rank-preserved c =
    loaded_more c.args.image.now c.loop-rank.ranks.items c.push.new.self.items c.decode_text.new.self c.loop-rank.rank
    c.loop-rank.invariant (ap rank_of c.decode_text.ensures ∙ c.in_ok-state.ensures.loaded) c.in_ok-push.ensures.items
