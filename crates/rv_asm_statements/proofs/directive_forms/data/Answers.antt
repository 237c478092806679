use Rattle.std.proofs.Common.{◌≡◌, Some, refl, sym, ◌∙◌}
use Rattle.std.specs.List.{filter_map}
use Rattle.rv_asm_statements.specs.Directives.{directive_by, item_of, some_given}
use Rattle.rv_asm_statements.proofs.Walks.{some_among}
use Rattle.rv_asm_statements.proofs.directive_forms.data.Goals as goal

pub returns-in_ok-found-clause-value : goal.returns-in_ok-found-clause-value
unfolding directive_by
returns-in_ok-found-clause-value c =
    let f = item_of c.args.width in
    let xs = c.args.operands.now in
    let all : some_given f xs ≡ Some (filter_map f xs) = some_among f xs (sym c.are_items.ensures ∙ c.if-are_items.true) in
    rw (all, c.in_ok-found.ensures) refl
