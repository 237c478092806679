use Rattle.std.proofs.Common.{sym, ◌∙◌}
use Rattle.rvmc_list.proofs.kept.put_new.Goals as goal

pub returns-clause-kept : goal.returns-clause-kept
returns-clause-kept c =
    c.keep.ensures c.args.symbols.now c.requires.kept
    (record { instr_is = sym c.decode.ensures.value ∙ c.in-Some.is; text_is = c.in_ok-spot.ensures })
