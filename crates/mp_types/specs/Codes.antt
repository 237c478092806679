-- The numbers of codes, as a guest finds them in a0.
use Rattle.std.specs.Prelude.{ℕ}
use Rattle.mp_types.specs.declared.codes.Code.{Code}
use Rattle.mp_types.specs.declared.codes.Code.TheVariants as code

abbrev pub code_number : Code → ℕ
code_number code.Ok = 0
code_number code.BadBuffer = 1
code_number code.BadCount = 2
code_number code.BadTag = 3
code_number code.BadRank = 4
code_number code.BadComm = 5
code_number code.BadRequest = 6
code_number code.Truncated = 7
code_number code.Full = 8
code_number code.BadPartition = 9
code_number code.NoChannel = 10
code_number code.Shape = 11
code_number code.Active = 12
code_number code.BadCall = 13
code_number code.BadMessage = 14
code_number code.AlreadyReady = 15
code_number code.NotActive = 16
