use Rattle.cl_box_laws.proofs.Cases as source
use Rattle.cl_box_laws.proofs.worked.makes_what_was_seen_taken.Goals as goal

pub returns : goal.returns
returns c = source.kept
