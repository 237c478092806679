use Rattle.std.proofs.Common.{rules}
use Rattle.std.proofs.lemmas.Result.{err_from_is_err_and}
use Rattle.rvmc_serve.proofs.Heard.{all_to_end, heard_first, heard_then, some, some_at_once, some_kept, some_then, taken_more}
use Rattle.rvmc_serve.proofs.Hearing.{cut_by, cut_then, whole_then}
use Rattle.rvmc_serve.proofs.words.answered.Goals as goal

-- what was read before
pub returns-in_err-take_all-clause-cut : goal.returns-in_err-take_all-clause-cut
returns-in_err-take_all-clause-cut g c = λ bytes known.
    let p = err_from_is_err_and c.from_residual.result c.from_residual.ensures.1 in
    rw (p.1, p.2) (cut_by _ _ _ (some_at_once c.args.typing.now c.args.first.now bytes _ _) c.in_err-take_all.ensures.cut)

pub loop-init : goal.loop-init
loop-init g c =
    let one = c.in_ok-take_all.ensures.takes in
    heard_first _ _ _ one.0 _ _ _ _ one.1 one.2

-- a read fails, or the input ends
pub returns-in_default-clause-cut : goal.returns-in_default-clause-cut
returns-in_default-clause-cut g c = λ bytes known. some _ _ _ _ _ _ _ _ _ bytes known c.loop.invariant

pub returns-then-count-eq0-clause-whole : goal.returns-then-count-eq0-clause-whole
returns-then-count-eq0-clause-whole g c = λ bytes known.
    whole_then c.end_line.result _ _
    (λ said. all_to_end _ _ _ _ _ _ _ _ _ _ _ bytes said.0 known c.loop.invariant (search rules) said.1 said.2)
    c.end_line.ensures.ends

pub returns-then-count-eq0-clause-cut : goal.returns-then-count-eq0-clause-cut
returns-then-count-eq0-clause-cut g c = λ bytes known.
    cut_then c.end_line.result _ _ (some_kept _ _ _ _ _ _ _ _ _ _ bytes known c.loop.invariant) c.end_line.ensures.cut

-- a piece that is too long
pub returns-then-count-left-clause-cut : goal.returns-then-count-left-clause-cut
returns-then-count-left-clause-cut g c = λ bytes known. some _ _ _ _ _ _ _ _ _ bytes known c.loop.invariant

pub returns-then-count-left-clause-front : goal.returns-then-count-left-clause-front
returns-then-count-left-clause-front g c =
    taken_more _ _ _ _ _ _ _ _ _ _ c.in-Ok.count c.read.new.buf c.loop.invariant c.in-Ok.ensures.bytes.0 (search rules)

-- a piece of which some is typed
pub returns-in_err-take_all-2-clause-cut : goal.returns-in_err-take_all-2-clause-cut
returns-in_err-take_all-2-clause-cut g c = λ bytes known.
    let p = err_from_is_err_and c.from_residual-in_err-take_all-2.result c.from_residual-in_err-take_all-2.ensures.1 in
    rw (p.1, p.2)
    (cut_by _ _ _
    (some_then _ _ _ _ _ _ _ _ _ _ _ c.in-Ok.count c.read.new.buf bytes known c.loop.invariant c.in-Ok.ensures.bytes.0)
    c.in_err-take_all-2.ensures.cut)

pub returns-in_err-take_all-2-clause-front : goal.returns-in_err-take_all-2-clause-front
returns-in_err-take_all-2-clause-front g c =
    taken_more _ _ _ _ _ _ _ _ _ _ c.in-Ok.count c.read.new.buf c.loop.invariant c.in-Ok.ensures.bytes.0 (search rules)

-- and one that is
pub loop-preserved : goal.loop-preserved
loop-preserved g c =
    let one = c.in_ok-take_all-2.ensures.takes in
    heard_then _ _ _ _ _ _ _ _ _ _ _ _ c.in-Ok.count c.read.new.buf one.0 c.loop.invariant c.in-Ok.ensures.bytes.0 (search rules)
    one.1 one.2

pub returns-clause-cut : goal.returns-clause-cut
returns-clause-cut g c = λ bytes known. some _ _ _ _ _ _ _ _ _ bytes known c.loop.invariant
