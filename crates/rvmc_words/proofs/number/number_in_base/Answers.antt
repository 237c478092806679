use Rattle.std.proofs.Common.{rules, ◌≡◌, ◌∙◌, ◌==◌, false, slice_index}
use Rattle.rvmc_words.proofs.Digits.{inside, large, not_empty, not_plus, read_number, read_none, small}
use Rattle.rvmc_words.proofs.number.number_in_base.Goals as goal

pub returns-then-is_empty-clause-value : goal.returns-then-is_empty-clause-value
returns-then-is_empty-clause-value c = not_empty c.args.base c.args.least c.args.most c.args.text.now (search rules)

pub returns-then-bytes-eq43-clause-value : goal.returns-then-bytes-eq43-clause-value
returns-then-bytes-eq43-clause-value c = not_plus c.args.base c.args.least c.args.most c.args.text.now (search rules) (search rules)

pub returns-in_default-clause-value : goal.returns-in_default-clause-value
returns-in_default-clause-value c =
    let plus : (slice_index c.args.text.now 0 == 43) ≡ false = search rules in
    read_none c.args.base c.args.least c.args.most c.args.text.now (search rules) plus (search rules)

pub returns-then-number-least-clause-value : goal.returns-then-number-least-clause-value
returns-then-number-least-clause-value c =
    let plus : (slice_index c.args.text.now 0 == 43) ≡ false = search rules in
    small _ c.args.most c.in-Ok.number (search rules) ∙ read_number c.args.base c.args.least c.args.most c.in-Ok.number c.args.text.now plus (search rules)

pub returns-then-most-number-clause-value : goal.returns-then-most-number-clause-value
returns-then-most-number-clause-value c =
    let plus : (slice_index c.args.text.now 0 == 43) ≡ false = search rules in
    large c.args.least c.args.most c.in-Ok.number (search rules) ∙ read_number c.args.base c.args.least c.args.most c.in-Ok.number c.args.text.now plus (search rules)

pub returns-clause-value : goal.returns-clause-value
returns-clause-value c =
    let plus : (slice_index c.args.text.now 0 == 43) ≡ false = search rules in
    inside c.args.least c.args.most c.in-Ok.number (search rules) (search rules) ∙ read_number c.args.base c.args.least c.args.most c.in-Ok.number c.args.text.now plus (search rules)
