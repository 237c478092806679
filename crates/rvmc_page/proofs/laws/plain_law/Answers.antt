use Rattle.rvmc_page.proofs.Plain.{plain_changes, plain_data}
use Rattle.rvmc_page.proofs.laws.plain_law.Goals as goal

pub returns : goal.returns
returns c = record {
  parts = λ image page part. (plain_data image page part).all;
  steps = λ changes. (plain_changes changes).all;
}
