use Rattle.std.proofs.Common.{◌++◌, ◌∙◌, ap, arith, option_to_list}
use Rattle.rvmc_draw.specs.Board.{partner_numbered}
use Rattle.rvmc_draw.proofs.Taken.{taken_all, taken_more}
use Rattle.rvmc_draw.proofs.board.put_partners.Goals as goal

pub loop-number-preserved : goal.loop-number-preserved
loop-number-preserved c =
    taken_more (λ number. option_to_list (partner_numbered c.args.lines.now number)) c.args.numbers.now
    c.loop-number.number-index _ c.args.got.now.items c.loop-number.got.items
    c.put_partner.new.got.items (omega (arith, c.loop-number-test.true)) c.loop-number.invariant
    (c.in_ok-put_partner.ensures
    ∙ ap (λ partner. c.loop-number.got.items ++ option_to_list partner) c.partner_in.ensures)

pub returns : goal.returns
returns c =
    taken_all (λ number. option_to_list (partner_numbered c.args.lines.now number)) c.args.numbers.now
    c.loop-number.number-index c.args.got.now.items c.loop-number.got.items
    (omega (arith, c.loop-number-test.false)) c.loop-number.invariant
