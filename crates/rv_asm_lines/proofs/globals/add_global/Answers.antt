use Rattle.std.proofs.Common.{◌≤◌, ◌<◌, ◌∙◌, length, ap, sym, arith, Ok}
use Rattle.std.specs.Prelude.{not}
use Rattle.std.proofs.lemmas.Bool.{le-ltb, lt-ltb}
use Rattle.std.proofs.lemmas.List.{length-map}
use Rattle.rv_asm_lines.specs.Globals.{most_globals}
use Rattle.rv_asm_lines.specs.LayoutView.{names_view}
use Rattle.rv_asm_lines.proofs.GlobalNames.{found_view, known_name, new_name, too_many}
use Rattle.rv_asm_lines.proofs.globals.add_global.Goals as goal

pub returns-then-contains-clause-names : goal.returns-then-contains-clause-names
returns-then-contains-clause-names c = known_name c.args.name.now (names_view c.args.globals.now) (sym (found_view c.args.name.now c.args.globals.now.keys) ∙ sym c.contains.ensures ∙ c.if-contains.true)

pub returns-then-len-clause-names : goal.returns-then-len-clause-names
returns-then-len-clause-names c =
    let names = names_view c.args.globals.now in
    let most : most_globals ≤ length names = omega (arith, length-map c.args.globals.now.keys (λ w. w.items), c.len.ensures.len, c.if-len.true) in
    too_many c.args.name.now names (sym (found_view c.args.name.now c.args.globals.now.keys) ∙ sym c.contains.ensures ∙ c.if-contains.false) (le-ltb (length names) most_globals most)

pub returns-clause-names : goal.returns-clause-names
returns-clause-names c =
    let names = names_view c.args.globals.now in
    let few : length names < most_globals = omega (arith, length-map c.args.globals.now.keys (λ w. w.items), c.len.ensures.len, c.if-len.false) in
    let new = new_name c.args.name.now names (sym (found_view c.args.name.now c.args.globals.now.keys) ∙ sym c.contains.ensures ∙ c.if-contains.false) (lt-ltb (length names) most_globals few) in
    new ∙ ap Ok (sym c.in_ok-put_global.ensures)

pub returns-in_err-put_global-clause-asked : goal.returns-in_err-put_global-clause-asked
returns-in_err-put_global-clause-asked c told =
    ap not (sym (found_view c.args.name.now c.args.globals.now.keys) ∙ sym c.contains.ensures ∙ c.if-contains.false)
