use Rattle.std.proofs.Common.{◌≡◌, Some, refl, sym, ◌∙◌}
use Rattle.std.specs.List.{filter_map}
use Rattle.rv_asm_statements.specs.Shapes.{number_of}
use Rattle.rv_asm_statements.specs.Directives.{directive_by, some_given}
use Rattle.rv_asm_statements.proofs.Walks.{some_among}
use Rattle.rv_asm_statements.proofs.directive_forms.communicator.Goals as goal

pub returns-in_ok-found-clause-value : goal.returns-in_ok-found-clause-value
unfolding directive_by
returns-in_ok-found-clause-value c =
    let f = number_of in
    let xs = c.args.operands.now in
    let all : some_given f xs ≡ Some (filter_map f xs) = some_among f xs (sym c.are_numbers.ensures ∙ c.if-are_numbers.true) in
    rw (all, c.in_ok-found.ensures) refl
