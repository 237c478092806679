use Rattle.std.proofs.Common.{◌≡◌, ◌-◌, arith, length, refl, sym, subst, Some}
use Rattle.std.specs.Prelude.{slice_get}
use Rattle.std.proofs.lemmas.Option.{slice_get_read}
use Rattle.cl_replay.specs.Walking.{HasHart, hart_at, with_hart}
use Rattle.cl_check.specs.declared.texts.Gone.{Gone}
use Rattle.cl_check.specs.Texts.{RankHasRun}
use Rattle.cl_check.proofs.TakenRuns.{rank_none, rank_runs}
use Rattle.cl_check.proofs.texts.run_rank.Goals as goal

pub returns-then-hart-len-clause-runs : goal.returns-then-hart-len-clause-runs
returns-then-hart-len-clause-runs c =
    rank_none c.args.image.now c.args.last c.args.state.now c.args.bytes.now _ refl refl refl

pub returns-clause-runs : goal.returns-clause-runs
returns-clause-runs c =
    let state = c.args.state.now in
    let last = c.args.last in
    let run = c.run_hart-clock in
    let old = hart_at c.index_mut.result.now state.memory last.stamp in
    let new = hart_at run.new.hart run.new.memory run.result.0 in
    let gone : Gone = record {
      last = record last { stamp = run.result.0 };
      count = run.result.0 - last.stamp;
      rest = run.result.1;
    } in
    let there = slice_get_read state.harts.items (length state.harts.items) c.from-hart.result c.index_mut.result.now refl
    (omega (arith, c.if-hart-len.false, c.len.ensures, state.harts.ok.0)) c.index_mut.ensures.value in
    let has : HasHart state last.hart old = record {
      there = subst (λ k. slice_get state.harts.items k ≡ Some c.index_mut.result.now) c.from-hart.ensures there;
      memory = refl;
      clock = sym c.if-last-state.false;
    } in
    subst (λ k. RankHasRun c.args.image.now last state c.args.bytes.now gone (with_hart state k new))
    (sym c.from-hart.ensures)
    (rank_runs c.args.image.now last state old new c.args.bytes.now gone run.ensures.runs has refl refl
    (omega (arith, run.ensures.forwards)))
