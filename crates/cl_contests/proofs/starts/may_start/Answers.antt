use Rattle.std.proofs.Common.{ap, ◌∙◌, refl, slice_get}
use Rattle.cl_contests.proofs.Starting.{tells_start}
use Rattle.cl_contests.proofs.starts.may_start.Goals as goal

pub returns : goal.returns
returns c = λ yes.
    tells_start c.args.standing.now
    (λ r own there. c.all_stand.ensures yes r own (ap (λ xs. slice_get xs r) c.as_slice.ensures.value ∙ there)) refl
