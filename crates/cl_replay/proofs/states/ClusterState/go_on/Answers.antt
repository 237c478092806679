use Rattle.std.proofs.Common.{◌≡◌, ◌<◌, arith, sym, ap, ◌∙◌, slice_get}
use Rattle.std.specs.Prelude.{Some}
use Rattle.std.proofs.lemmas.Option.{slice_get_read}
use Rattle.cl_replay.proofs.states.ClusterState.go_on.Goals as goal

pub returns-clause-order : goal.returns-clause-order
returns-clause-order c =
    let old = c.args.self.now in
    let s = c.index_mut.result.now in
    let same = c.from-2.ensures ∙ sym c.from.ensures in
    let below : c.from-2.result < c.len.result = omega (arith, same, c.if-from-len.false) in
    let there : slice_get old.ranks.items c.rank-rank.result ≡ Some s =
    ap (slice_get old.ranks.items) (sym c.from-2.ensures)
    ∙ slice_get_read old.ranks.items c.len.result c.from-2.result s (c.len.ensures ∙ old.ranks.ok.0) below
    c.index_mut.ensures.value in
    c.run_plain.ensures.goes.order old there
