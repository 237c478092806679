use Rattle.rv_asm.proofs.HoldingNumbers.{data_hold_numbers}
use Rattle.rv_asm.proofs.laws.data_hold_numbers.Goals as goal

pub returns : goal.returns
returns c = data_hold_numbers
