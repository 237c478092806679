use Rattle.std.proofs.Common.{◌≡◌, arith, length, refl, sym, subst, Some}
use Rattle.std.specs.Prelude.{slice_get}
use Rattle.std.proofs.lemmas.Option.{slice_get_read}
use Rattle.cl_replay.specs.Walking.{with_rank}
use Rattle.cl_check.specs.Texts.{HaveRun}
use Rattle.cl_check.proofs.TakenRuns.{all_ran}
use Rattle.cl_check.proofs.texts.go_on.Goals as goal

pub returns-clause-runs : goal.returns-clause-runs
returns-clause-runs c =
    let state = c.args.state.now in
    let old = c.index_mut.result.now in
    let new = c.run_rank.new.state in
    let there = slice_get_read state.ranks.items (length state.ranks.items) c.from-rank.result old refl
    (omega (arith, c.if-rank-len.false, c.len.ensures, state.ranks.ok.0)) c.index_mut.ensures.value in
    subst (λ k. HaveRun c.args.image.now c.args.last state c.args.bytes.now c.run_rank.result (with_rank state k new))
    (sym c.from-rank.ensures)
    (all_ran c.args.image.now c.args.last state old new c.args.bytes.now c.run_rank.result
    (subst (λ k. slice_get state.ranks.items k ≡ Some old) c.from-rank.ensures there) c.run_rank.ensures.runs)
