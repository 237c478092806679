use Rattle.mp_clash_laws.proofs.Later as source
use Rattle.mp_clash_laws.proofs.laws.posts_law.Goals as goal

pub returns : goal.returns
returns c = source.posts_law
