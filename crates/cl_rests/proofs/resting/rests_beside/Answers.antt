use Rattle.cl_rests.proofs.Among.{tells_beside}
use Rattle.cl_rests.proofs.resting.rests_beside.Goals as goal

pub returns : goal.returns
returns c = λ image here stands.
    tells_beside c.args.among.now here.cluster c.args.rank c.rests_to.result (c.rests_to.ensures image here stands)
