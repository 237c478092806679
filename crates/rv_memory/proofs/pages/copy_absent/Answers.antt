-- A page that isn't held is text where the text fills it, and else zeros.
use Rattle.std.proofs.Common.{◌≡◌, ◌+◌, ◌-◌, ◌<◌, ◌≤◌, ◌∙◌, arith, sym, length, ap}
use Rattle.std.proofs.lemmas.Bool.Decides.{nat_tests}
use Rattle.std.specs.Prelude.{None}
use Rattle.rv_memory.specs.Memory.{overwritten}
use Rattle.rv_memory.proofs.Paged.{blank-slice, take-zeros}
use Rattle.rv_memory.proofs.Shown.{shown_page-short, text-slice}
use Rattle.rv_memory.proofs.pages.copy_absent.Goals as goal

pub returns-then-is_text : goal.returns-then-is_text
returns-then-is_text c =
    let full : 4096 ≤ length c.args.rest.now = grind (arith, nat_tests) in
    let n : c.args.at + c.args.count - c.args.at ≡ c.args.count = omega arith in
    c.put.ensures ∙ rw n (ap (overwritten c.args.out.now c.args.done) (sym (text-slice c.args.rest.now c.args.at c.args.count full c.requires.inside)))

pub returns-else-is_text : goal.returns-else-is_text
returns-else-is_text c =
    let short : length c.args.rest.now < 4096 = grind (arith, nat_tests) in
    let zeros = blank-slice c.args.at c.args.count c.requires.inside in
    c.put-else-is_text.ensures ∙ rw (shown_page-short c.args.rest.now None short, zeros) (ap (overwritten c.args.out.now c.args.done) (take-zeros c.args.count 4096 (omega (arith, c.requires.inside))))
