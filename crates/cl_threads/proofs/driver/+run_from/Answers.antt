use Rattle.std.proofs.Common.{arith, ◌≡◌, ◌∙◌, ◌-◌, ap, length}
use Rattle.std.proofs.lemmas.List.{length-drop}
use Rattle.cl_threads.proofs.RanksJoined.{as_many}
use Rattle.cl_threads.proofs.driver.+run_from.Goals as goal

pub push_front_reserved-requires : goal.push_front_reserved-requires
push_front_reserved-requires g t c =
    let done = c.in-Ok-others in
    let seats = c.args.seats in
    let above = c.pop_front-2.new.self.items in
    let many : length done.all.items ≡ length above = as_many _ _ _ _ done.ensures.done in
    let rest : length above ≡ length seats.items - 1 = ap length c.pop_front-2.ensures.rest ∙ length-drop 1 seats.items in
    omega (arith, many, rest, done.all.ok, done.ensures.room, c.requires.seated.3, c.requires.seated.1, c.args.passages.ok, seats.ok, c.in-Some.ensures.cases)
