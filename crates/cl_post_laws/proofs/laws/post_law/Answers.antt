use Rattle.cl_post_laws.proofs.Asking as asking_source
use Rattle.cl_post_laws.proofs.Later as later_source
use Rattle.cl_post_laws.proofs.Renamed as source
use Rattle.cl_post_laws.proofs.Sent as sent_source
use Rattle.cl_post_laws.proofs.laws.post_law.Goals as goal

pub returns : goal.returns
returns c = record {
  renamed = source.renamed;
  below = source.below;
  names = source.names_only;
  awaits = source.awaits_only;
  forgets = sent_source.forgets;
  asks = λ named most rank hart q bound old is. asking_source.asks named most bound rank hart q old is;
  polls = λ rank hart comm asked_source tag post stamp there asks.
      later_source.polls rank hart comm asked_source tag there asks post stamp;
  later = λ rank hart comm asked_source tag post before stamp message there asks.
      later_source.later rank hart comm asked_source tag there asks post before stamp message;
}
