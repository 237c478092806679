use Rattle.std.proofs.Common.{◌<◌, ◌∙◌, ◌+◌, ◌++◌, List, ap, sym, append_assoc, arith, length, take}
use Rattle.rvmc_changes.specs.Edits.{edits_from}
use Rattle.rvmc_changes.specs.Walking.{edit_at}
use Rattle.rvmc_changes.specs.declared.edits.Edit.{Edit}
use Rattle.rvmc_changes.proofs.Compared.{edits_next}
use Rattle.rvmc_changes.proofs.making.put_edits.Goals as goal

pub loop-n-preserved : goal.loop-n-preserved
loop-n-preserved c =
    let a = c.args.address in
    let n = c.loop-n.n in
    let olds = c.args.olds.now in
    let news = c.args.news.now in
    let before = c.args.edits.now.items in
    let x = c.from.result in
    let y = c.from-in-loop-n.result in
    let below : n < length olds = omega arith in
    let within : n < length news = omega (arith, c.requires.same) in
    c.in_ok-put_edit.ensures
    ∙ ap (λ (l : List Edit). l ++ edit_at (a + n) x y) c.loop-n.invariant
    ∙ append_assoc before (edits_from a (take n olds) (take n news)) (edit_at (a + n) x y)
    ∙ ap (λ (l : List Edit). before ++ l)
    (sym (edits_next a n olds news x y below within c.from.ensures c.from-in-loop-n.ensures))
