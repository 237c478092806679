use Rattle.std.proofs.Common.{length, refl}
use Rattle.std.proofs.lemmas.Option.{slice_get_read}
use Rattle.rvmc_explore.proofs.telling.state_at.Goals as goal

pub returns : goal.returns
returns c =
    let nodes = c.args.nodes.now in
    record {
      what = c.index-nodes-node.result;
      there = slice_get_read nodes (length nodes) c.args.node c.index-nodes-node.result refl c.requires
          c.index-nodes-node.is;
      same = c.in_ok-state.ensures;
    }
