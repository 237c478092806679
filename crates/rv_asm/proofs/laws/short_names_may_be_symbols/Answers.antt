use Rattle.rv_asm.proofs.Names.{names_fit}
use Rattle.rv_asm.proofs.laws.short_names_may_be_symbols.Goals as goal

pub returns : goal.returns
returns c = names_fit
