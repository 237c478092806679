use Rattle.std.proofs.Common.{rules, ◌≡◌, ◌==◌, true, false, length, eq-eqb, refl}
use Rattle.std.specs.List.{list_all}
use Rattle.rvmc_starts.specs.Hex.{hex_in, is_hex_digit}
use Rattle.rvmc_starts.proofs.Hexes.{read}
use Rattle.rvmc_starts.proofs.hex.hex_in.Goals as goal

pub returns-then-bytes-ne16 : goal.returns-then-bytes-ne16
unfolding hex_in
returns-then-bytes-ne16 c =
    let other : (length c.args.text.now == 16) ≡ false = search rules in
    rw other refl

pub returns-then-not-are_hex_digits : goal.returns-then-not-are_hex_digits
unfolding hex_in
returns-then-not-are_hex_digits c =
    let long : (length c.args.text.now == 16) ≡ true = search rules in
    let other : list_all is_hex_digit c.args.text.now ≡ false = search rules in
    rw (long, other) refl

pub returns : goal.returns
unfolding hex_in
returns c =
    let long : length c.args.text.now ≡ 16 = search rules in
    let digits : list_all is_hex_digit c.args.text.now ≡ true = search rules in
    let is = read c.args.text.now c.from_str_radix.result long digits c.from_str_radix.ensures.value in
    rw (eq-eqb _ _ long, digits) (search (rules, is))
