use Rattle.std.proofs.Common.{rules}
use Rattle.rvmc_serve.proofs.Hearing.{all_to_leave, has_left, heard_then, taken_more, taken_so_far}
use Rattle.rvmc_serve.proofs.serving.talk.Goals as goal

-- what was heard before, and a piece that isn't
pub returns-then-count-left-clause-front : goal.returns-then-count-left-clause-front
returns-then-count-left-clause-front g c =
    taken_more _ _ _ _ _ _ _ _ _ c.in-Ok.count c.read.new.buf c.loop.invariant c.in-Ok.ensures.bytes.0 (search rules)

pub returns-in_err-answered-clause-front : goal.returns-in_err-answered-clause-front
returns-in_err-answered-clause-front g c =
    taken_more _ _ _ _ _ _ _ _ _ c.in-Ok.count c.read.new.buf c.loop.invariant c.in-Ok.ensures.bytes.0 (search rules)

-- and one that is
pub returns-in-Ended-clause-whole : goal.returns-in-Ended-clause-whole
returns-in-Ended-clause-whole g c = λ bytes known.
    let said = c.in_ok-answered.ensures in
    let all = heard_then _ _ _ _ _ _ _ _ _ _ _ c.in-Ok.count c.read.new.buf said.serves.0 c.loop.invariant
    c.in-Ok.ensures.bytes.0 (search rules) said.serves.1 said.serves.2 in
    all_to_leave _ _ _ _ _ _ _ _ bytes known all (has_left _ _ said.flow c.in-Ended.is)

pub returns-in-Ended-clause-front : goal.returns-in-Ended-clause-front
returns-in-Ended-clause-front g c =
    let said = c.in_ok-answered.ensures in
    taken_so_far _ _ _ _ _ _ _ _ (heard_then _ _ _ _ _ _ _ _ _ _ _ c.in-Ok.count c.read.new.buf said.serves.0
    c.loop.invariant c.in-Ok.ensures.bytes.0 (search rules) said.serves.1 said.serves.2)

pub loop-preserved : goal.loop-preserved
loop-preserved g c =
    let said = c.in_ok-answered.ensures in
    heard_then _ _ _ _ _ _ _ _ _ _ _ c.in-Ok.count c.read.new.buf said.serves.0 c.loop.invariant c.in-Ok.ensures.bytes.0
    (search rules) said.serves.1 said.serves.2
