use Rattle.std.proofs.Common.{sym, ap, ◌∙◌, arith}
use Rattle.std.specs.List.{list_all}
use Rattle.mp_hub.specs.Hub.{is_ready}
use Rattle.cl_rests.proofs.Found.{own_read}
use Rattle.cl_rests.proofs.Held.{tells_asked, tells_none, tells_past}
use Rattle.cl_rests.proofs.buffering.is_else_ready.Goals as goal

pub returns-then-place-len : goal.returns-then-place-len
returns-then-place-len c = λ image here stands.
    let standing = c.args.standing.now in
    let past = c.if-place-len.true in
    let many = c.len.ensures ∙ standing.cluster.ranks.ok.0 in
    let place = c.from-place.ensures in
    tells_past image standing here stands c.args.rank (omega (arith, past, many, place))

pub returns-then-len-eq0 : goal.returns-then-len-eq0
returns-then-len-eq0 c = λ image here stands.
    let standing = c.args.standing.now in
    let ranks = standing.cluster.ranks in
    let own = c.index-own.result.now in
    let at = own_read ranks.items c.len.result c.from-place.result c.args.rank own (c.len.ensures ∙ ranks.ok.0)
    c.if-place-len.false c.index-own.ensures c.from-place.ensures in
    tells_none image standing here stands c.args.rank own at (sym (c.len-2.ensures ∙ own.harts.ok.0) ∙ c.if-len-eq0.true)

pub returns : goal.returns
returns c = λ image here stands.
    let standing = c.args.standing.now in
    let ranks = standing.cluster.ranks in
    let own = c.index-own.result.now in
    let at = own_read ranks.items c.len.result c.from-place.result c.args.rank own (c.len.ensures ∙ ranks.ok.0)
    c.if-place-len.false c.index-own.ensures c.from-place.ensures in
    tells_asked image standing here stands c.args.rank own c.in_ok-ask.ask c.are_ready.result at c.in_ok-ask.ensures
    (c.are_ready.ensures
    ∙ ap (list_all (λ post. is_ready standing.cluster.hub c.args.rank post)) c.posts_asked.ensures)
