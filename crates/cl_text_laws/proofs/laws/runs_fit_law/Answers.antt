use Rattle.cl_text_laws.proofs.Runs as source
use Rattle.cl_text_laws.proofs.laws.runs_fit_law.Goals as goal

pub returns : goal.returns
returns c = source.runs_fit
