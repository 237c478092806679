use Rattle.std.proofs.Common.{arith, rules, ◌≡◌, subst, length, ℕ}
use Rattle.std.specs.Prelude.{Option, None}
use Rattle.rvmc_stats.specs.Hottest.{IsNextBelow}
use Rattle.rvmc_list.proofs.Hottest.{placed_all, placed_more, placed_ten}
use Rattle.rvmc_list.proofs.places.put_place_lines.Goals as goal

pub loop-n-preserved : goal.loop-n-preserved
loop-n-preserved c =
    placed_more c.args.symbols.now c.args.places.now c.args.text.now.items c.loop-n._n c.loop-n.last
    c.loop-n.text.items c.put_place_line.new.text.items c.in-Some.word c.loop-n.invariant (omega arith)
    c.in-Some.ensures c.in_ok-put_place_line.ensures

pub returns-in_default : goal.returns-in_default
returns-in_default c =
    let none : c.next_hottest.result ≡ None = search rules in
    placed_all c.args.symbols.now c.args.places.now c.args.text.now.items c.loop-n._n c.loop-n.last
    c.loop-n.text.items c.loop-n.invariant (omega arith)
    (subst (λ (r : Option ℕ). IsNextBelow c.args.places.now c.loop-n.last (length c.args.places.now) r) none
    c.next_hottest.ensures)

pub returns : goal.returns
returns c =
    placed_ten c.args.symbols.now c.args.places.now c.args.text.now.items c.loop-n._n c.loop-n.last
    c.loop-n.text.items c.loop-n.invariant (omega arith)
