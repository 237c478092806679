-- Words that are all 0 keep the gate rule of a new box, and its one seat splits into the two keys.
use Rattle.std.proofs.Common.{ℕ, ◌+◌, ◌≤◌, List, length, take, replicate, rules, arith, ap}
use Rattle.std.proofs.lemmas.List.{length-take-le, get_or-take}
use Rattle.part_box.proofs.Allowed.{starts, splits}
use Rattle.part_box.proofs.partition.PartBox.of_width.Goals as goal

pub of_words-requires : goal.of_words-requires
of_words-requires c =
    let zeros : List ℕ = replicate 17 0 in
    let n : ℕ = c.args.width + 1 in
    let fits : n ≤ length zeros = omega arith in
    starts c.args.width (take n zeros) (length-take-le n zeros fits) (get_or-take n zeros 0 0 (omega arith))

pub split_seat-other-requires : goal.split_seat-other-requires
split_seat-other-requires c =
    let made = c.in_ok-table.ensures in
    (made.2, search rules, splits _ _ _ (ap (λ m. m.0.receives) made.4))
