-- A page that isn't held is read as text where the text fills it, and else as zeros.
use Rattle.std.proofs.Common.{◌∙◌, ◌%◌, ◌<◌, ◌≤◌, length, ap, sym, arith}
use Rattle.std.proofs.lemmas.Bool.Decides.{nat_tests}
use Rattle.std.specs.Prelude.{None}
use Rattle.rv_memory.specs.Held.{page_bytes, shown_page}
use Rattle.rv_memory.specs.Memory.{value_at}
use Rattle.rv_memory.proofs.Paged.{value-blank, below-power}
use Rattle.rv_memory.proofs.Shown.{shown_page-short, value-text}
use Rattle.rv_memory.proofs.page.read_absent.Goals as goal

pub value-requires-clause-inside : goal.value-requires-clause-inside
value-requires-clause-inside c =
    let full : 4096 ≤ length c.rest_of-rest.result.now = grind (arith, nat_tests) in
    omega (arith, full, c.requires.inside)

pub returns-then-is_text-clause-value : goal.returns-then-is_text-clause-value
returns-then-is_text-clause-value c =
    let full : 4096 ≤ length c.rest_of-rest.result.now = grind (arith, nat_tests) in
    c.value.ensures.value ∙ sym (value-text c.rest_of-rest.result.now (c.args.address % 4096) c.args.count full c.requires.inside)
    ∙ ap (λ rest. value_at (page_bytes (shown_page rest None)) (c.args.address % 4096) c.args.count) c.rest_of-rest.ensures

pub returns-else-is_text-clause-value : goal.returns-else-is_text-clause-value
returns-else-is_text-clause-value c =
    let short : length c.rest_of-rest.result.now < 4096 = grind (arith, nat_tests) in
    sym (ap (λ rest. value_at (page_bytes (shown_page rest None)) (c.args.address % 4096) c.args.count) (sym c.rest_of-rest.ensures)
    ∙ ap (λ page. value_at (page_bytes page) (c.args.address % 4096) c.args.count) (shown_page-short c.rest_of-rest.result.now None short) ∙ value-blank (c.args.address % 4096) c.args.count)

pub returns-else-is_text-clause-bound : goal.returns-else-is_text-clause-bound
returns-else-is_text-clause-bound c = below-power c.args.count
