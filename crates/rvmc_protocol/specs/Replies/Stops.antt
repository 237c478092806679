-- Why threads stand: a trap, which is signal 5, its cause, and the thread that is meant (GDB manual, 'Stop Reply Packets').
-- At a place that was asked for there is no signal, which is 0.
use Rattle.std.specs.Prelude.{ℕ, List, [], ◌++◌, codes, false}
use Rattle.std.specs.Fmt.{digits}
use Rattle.rvmc_protocol.specs.Replies.Threads.{thread_number}
use Rattle.rvmc_protocol.specs.declared.replies.stops.Stop.{Stop}
use Rattle.rvmc_protocol.specs.declared.replies.stops.Stop.TheVariants.{Step, Before, HardwareBefore, Written, Read, Touched}
use Rattle.rvmc_protocol.specs.declared.replies.stops.Stop.TheVariants.{Begin, End, There}

abbrev pub cause_text : Stop → List ℕ
cause_text Step = []
cause_text Before = codes "swbreak:;"
cause_text HardwareBefore = codes "hwbreak:;"
cause_text (Written address) = codes "watch:" ++ digits 16 false address ++ codes ";"
cause_text (Read address) = codes "rwatch:" ++ digits 16 false address ++ codes ";"
cause_text (Touched address) = codes "awatch:" ++ digits 16 false address ++ codes ";"
cause_text Begin = codes "replaylog:begin;"
cause_text End = codes "replaylog:end;"
cause_text There = []

abbrev pub signal_text : Stop → List ℕ
signal_text There = codes "T00"
signal_text other = codes "T05"

abbrev pub stop_text : Stop → ℕ → List ℕ
stop_text stop thread = signal_text stop ++ cause_text stop ++ codes "thread:" ++ thread_number thread ++ codes ";"
