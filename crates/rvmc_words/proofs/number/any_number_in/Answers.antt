use Rattle.std.proofs.Common.{◌≡◌, ◌∙◌, ap, codes, drop, false, sym, true}
use Rattle.std.specs.Prelude.{nat_eq}
use Rattle.std.specs.List.{starts_with}
use Rattle.std.proofs.lemmas.Str.Pattern.{starts_text}
use Rattle.rvmc_words.specs.Number.{any_number_in, number_in_base}
use Rattle.rvmc_words.proofs.number.any_number_in.Goals as goal

pub returns-in-Some-clause-value : goal.returns-in-Some-clause-value
unfolding any_number_in
returns-in-Some-clause-value c =
    let found = c.in-Some.ensures.cases in
    let text = c.args.text.now in
    let begins : starts_with nat_eq text (codes "0x") ≡ true = ap (λ whole. starts_with nat_eq whole (codes "0x")) found.1.1 in
    let digits = found.2 ∙ ap (λ n. drop n text) found.1.0 in
    rw begins (c.number_in_base.ensures.value ∙ ap (number_in_base 16 0 c.args.most) digits)

pub returns-in-None-clause-value : goal.returns-in-None-clause-value
unfolding any_number_in
returns-in-None-clause-value c =
    let text = c.args.text.now in
    let begins : starts_with nat_eq text (codes "0x") ≡ false = sym (starts_text false (codes "0x") text c.in-None.ensures.cases) in
    rw begins c.number_in_base-in-None.ensures.value
