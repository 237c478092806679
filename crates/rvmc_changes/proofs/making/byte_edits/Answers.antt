use Rattle.std.proofs.Common.{◌≡◌, ◌≤◌, ◌∙◌, ◌+◌, ◌-◌, ◌++◌, List, ap, sym, arith, length, take, drop}
use Rattle.std.specs.Prelude.{min}
use Rattle.rvmc_changes.specs.Edits.{edits_from}
use Rattle.rvmc_changes.specs.declared.edits.Edit.{Edit}
use Rattle.rvmc_changes.proofs.Compared.{edits_cut, edits_more}
use Rattle.rvmc_changes.proofs.making.byte_edits.Goals as goal

pub loop-done-preserved : goal.loop-done-preserved
loop-done-preserved c =
    let a = c.args.address in
    let done = c.loop-done.done in
    let end = c.min-end.result in
    let olds = c.args.olds.now in
    let news = c.args.news.now in
    let len = c.min-len.ensures in
    let most = c.min-end.ensures in
    let on = c.loop-done-test.true in
    let forwards : done ≤ end = omega arith in
    let inside : end ≤ length olds = omega arith in
    let within : end ≤ length news = omega arith in
    record {
      edits = c.in_ok-put_piece.ensures
          ∙ ap (λ (l : List Edit). l ++ edits_from (a + done) (take (end - done) (drop done olds)) (take (end - done) (drop done news)))
          c.loop-done.invariant.edits
          ∙ sym (edits_more a done end olds news forwards inside within);
      most = omega arith;
    }

pub returns : goal.returns
returns c =
    let a = c.args.address in
    let olds = c.args.olds.now in
    let news = c.args.news.now in
    let len = c.min-len.ensures in
    let most = c.loop-done.invariant.most in
    let all : c.loop-done.done ≡ c.min-len.result = omega arith in
    let few : min (length olds) (length news) ≤ c.min-len.result = omega arith in
    c.loop-done.invariant.edits
    ∙ ap (λ n. edits_from a (take n olds) (take n news)) all
    ∙ edits_cut a c.min-len.result olds news few
