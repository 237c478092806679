use Rattle.std.proofs.Common.{◌∙◌, ◌++◌, List, ap, sym, append-nil}
use Rattle.rvmc_changes.specs.Edits.{edits_from}
use Rattle.rvmc_changes.specs.declared.edits.Edit.{Edit}
use Rattle.rvmc_changes.proofs.Compared.{edits_same}
use Rattle.rvmc_changes.proofs.making.put_piece.Goals as goal

pub returns-then-are_same : goal.returns-then-are_same
returns-then-are_same c =
    let es = c.args.edits.now.items in
    sym (append-nil es)
    ∙ ap (λ (l : List Edit). es ++ l) (sym (edits_same c.args.address c.args.olds.now))
    ∙ ap (λ l. es ++ edits_from c.args.address c.args.olds.now l) (c.are_same.ensures c.if-are_same.true)
