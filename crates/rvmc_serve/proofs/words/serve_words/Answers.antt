use Rattle.std.proofs.Common.{rules}
use Rattle.rvmc_serve.proofs.Hearing.{taken_all}
use Rattle.rvmc_serve.proofs.Streams.{cut_if, whole_if}
use Rattle.rvmc_serve.proofs.Typed.{cut_off, no_front, not_begun, served}
use Rattle.rvmc_serve.proofs.words.serve_words.Goals as goal

-- there is no front
pub returns-in-Err-clause-refused : goal.returns-in-Err-clause-refused
returns-in-Err-clause-refused g c = λ bytes known loud. no_front bytes _ _ c.in-Err.ensures.fault

-- there is no session
pub returns-in-Err-begun_or_kept-clause-refused : goal.returns-in-Err-begun_or_kept-clause-refused
returns-in-Err-begun_or_kept-clause-refused g c = λ bytes known loud.
    let there = c.in-Ok.ensures in
    not_begun _ _ bytes c.in-Ok.front.record.items c.in-Ok.front.behind.items known there.taken there.front _ _
    c.in-Err-begun_or_kept.ensures.fault loud

-- there is one, to its end
pub returns-clause-served : goal.returns-clause-served
returns-clause-served g c = λ bytes known.
    let there = c.in-Ok.ensures in
    whole_if _ _ _ _
    (served _ _ bytes c.in-Ok.front.record.items c.in-Ok.front.behind.items known there.taken there.front c.as_slice.result.now _
    _ _ (search rules) c.in-Ok-begun_or_kept.ensures.begun) c.answered_or_refused.ensures.whole

-- or one that is cut short
pub returns-clause-refused : goal.returns-clause-refused
returns-clause-refused g c = λ bytes known.
    let there = c.in-Ok.ensures in
    cut_if _ _ _ _
    (λ refused. cut_off _ _ bytes c.in-Ok.front.record.items c.in-Ok.front.behind.items known there.taken there.front
    c.as_slice.result.now _ _ _ _ (search rules) c.in-Ok-begun_or_kept.ensures.begun) c.answered_or_refused.ensures.cut

pub returns-clause-front : goal.returns-clause-front
returns-clause-front g c =
    let there = c.in-Ok.ensures in
    taken_all _ _ _ c.in-Ok.front.record.items c.in-Ok.front.behind.items _ there.taken there.short (search rules)
    c.answered_or_refused.ensures.front
