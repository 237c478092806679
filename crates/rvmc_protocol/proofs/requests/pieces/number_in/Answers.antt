use Rattle.std.proofs.Common.{rules, tests, ◌≡◌, ◌+◌, ◌<◌, ℕ, List, false, arith, subst, get_or, length, take, nat_lt}
use Rattle.std.specs.Char.{digit_value, is_digit}
use Rattle.std.specs.Str.Parse.{AllDigits, digits_value}
use Rattle.std.proofs.lemmas.Grind.{common_steps}
use Rattle.std.proofs.lemmas.Int.Digits.{digits_more, digits_value_more}
use Rattle.std.proofs.lemmas.List.Folds.{list_all_at}
use Rattle.std.proofs.lemmas.Str.Parse.{digits_value-take-le}
use Rattle.rvmc_protocol.proofs.Numbers.{no_digit, nothing, read, too_large}
use Rattle.rvmc_protocol.proofs.requests.pieces.number_in.Goals as goal

pub returns-then-is_empty : goal.returns-then-is_empty
returns-then-is_empty c = nothing c.args.text.now (search rules)

pub returns-in_default : goal.returns-in_default
returns-in_default c =
    let text = c.args.text.now in
    let at = c.loop-byte.byte-index in
    let other : nat_lt (digit_value (get_or text at 0)) 16 ≡ false = search (rules, tests) in
    no_digit text (list_all_at (λ (d : ℕ). is_digit d 16) text at 0 (omega arith) other)

pub returns-then-number-ge-TOO_LARGE : goal.returns-then-number-ge-TOO_LARGE
returns-then-number-ge-TOO_LARGE c =
    let text = c.args.text.now in
    let at = c.loop-byte.byte-index in
    let more = digits_value_more 16 text at (omega arith) in
    let part = digits_value-take-le 16 text (at + 1) (omega arith) in
    too_large text (omega (arith, more, part, c.loop-byte.invariant.value, c.if-number-ge-TOO_LARGE.true))

pub loop-byte-preserved : goal.loop-byte-preserved
loop-byte-preserved c =
    let text = c.args.text.now in
    let at = c.loop-byte.byte-index in
    let here : at < length text = omega arith in
    let value : c.in-Some.digit ≡ digit_value (get_or text at 0) = search rules in
    let small : digit_value (get_or text at 0) < 16 = search rules in
    let wide : c.from-in-loop-byte.result ≡ c.in-Some.digit = search rules in
    record {
      digits = digits_more 16 text at here c.loop-byte.invariant.digits small;
      value = omega (arith, digits_value_more 16 text at here, c.loop-byte.invariant.value, value, wide);
    }

pub returns : goal.returns
returns c =
    let text = c.args.text.now in
    let whole : take c.loop-byte.byte-index text ≡ text = grind (arith, common_steps) in
    let all = subst (λ (part : List ℕ). AllDigits 16 part) whole c.loop-byte.invariant.digits in
    let is = subst (λ (part : List ℕ). c.loop-byte.number ≡ digits_value 16 part) whole c.loop-byte.invariant.value in
    read text c.loop-byte.number all (search rules) is (search rules)
