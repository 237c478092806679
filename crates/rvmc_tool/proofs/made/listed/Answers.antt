use Rattle.std.proofs.Common.{refl, rules}
use Rattle.rvmc_views.specs.Pieces.{list_of}
use Rattle.rvmc_tool.proofs.Told.{obeyed_in_pieces}
use Rattle.rvmc_tool.proofs.made.listed.Goals as goal

pub returns-in-Ok-clause-answers : goal.returns-in-Ok-clause-answers
returns-in-Ok-clause-answers g c = λ bytes known not_6.
    let command = list_of c.args.wanted.now in
    obeyed_in_pieces command refl _ bytes c.in-Ok.bytes.items c.as_slice-whole.result.now c.tell_made.result _ _ known
    c.in-Ok.ensures.whole (search rules)
    (c.tell_made.ensures.told command _ c.put_list-listed.ensures.listed c.put_list-listed.ensures.fault c.put_list-listed.ensures.left not_6)
