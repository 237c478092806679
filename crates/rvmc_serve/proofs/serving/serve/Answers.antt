use Rattle.std.proofs.Common.{rules}
use Rattle.rvmc_serve.proofs.Hearing.{taken_all}
use Rattle.rvmc_serve.proofs.Streams.{cut_if, cut_off, no_front, not_opened, served, whole_if}
use Rattle.rvmc_serve.proofs.serving.serve.Goals as goal

-- there is no front
pub returns-in-Err-clause-refused : goal.returns-in-Err-clause-refused
returns-in-Err-clause-refused g c = λ bytes known loud. no_front c.args.rank bytes _ _ c.in-Err.ensures.fault

-- there is no session
pub returns-in-Err-opened_or_kept-clause-refused : goal.returns-in-Err-opened_or_kept-clause-refused
returns-in-Err-opened_or_kept-clause-refused g c = λ bytes known loud.
    let there = c.in-Ok.ensures in
    not_opened c.args.rank _ _ bytes c.in-Ok.front.record.items c.in-Ok.front.behind.items _ _ known there.taken
    there.front c.in-Err-opened_or_kept.ensures.fault loud

-- there is one, to its end
pub returns-clause-served : goal.returns-clause-served
returns-clause-served g c = λ bytes known.
    let there = c.in-Ok.ensures in
    whole_if _ _ _ _
    (served c.args.rank _ _ bytes c.in-Ok.front.record.items c.in-Ok.front.behind.items c.as_slice.result.now _ _ _ known
    there.taken there.front (search rules) c.in-Ok-opened_or_kept.ensures.opened) c.talked.ensures.whole

-- or one that is cut short
pub returns-clause-refused : goal.returns-clause-refused
returns-clause-refused g c = λ bytes known.
    let there = c.in-Ok.ensures in
    cut_if _ _ _ _
    (λ refused. cut_off c.args.rank _ _ bytes c.in-Ok.front.record.items c.in-Ok.front.behind.items c.as_slice.result.now _ _ _ _
    known there.taken there.front (search rules) c.in-Ok-opened_or_kept.ensures.opened) c.talked.ensures.cut

pub returns-clause-front : goal.returns-clause-front
returns-clause-front g c =
    let there = c.in-Ok.ensures in
    taken_all _ _ _ c.in-Ok.front.record.items c.in-Ok.front.behind.items _ there.taken there.short (search rules)
    c.talked.ensures.front
