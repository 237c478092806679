-- Worked requests: each form, as gdb writes it, and texts that are none.
use Rattle.std.specs.Prelude.{◌≡◌, ℕ, List, [], codes, refl}
use Rattle.rvmc_protocol.specs.Requests.Pieces.{number_in}
use Rattle.rvmc_protocol.specs.Requests.Points.{spot_in}
use Rattle.rvmc_protocol.specs.Requests.{alive_in, asked_in, bytes_in, change_in, description_in, insert_in, lone_question}
use Rattle.rvmc_protocol.specs.Requests.{lone_word, monitor_in, moved_in, plain_in, point_in, raw_bytes_in, read_in}
use Rattle.rvmc_protocol.specs.Requests.{register_in, remove_in, request_in, select_in, select_moved_in, selected_in}
use Rattle.rvmc_protocol.specs.Requests.{supported_in, thread_list_in, thread_text_in}
use Rattle.rvmc_protocol.specs.Requests.Texts.{text_in}
use Rattle.rvmc_protocol.specs.Requests.Threads.{action_in, move_in, thread_in}
use Rattle.hex.specs.Hex.{decode_pairs}
use Rattle.rvmc_protocol.specs.declared.requests.Request.{Request}
use Rattle.rvmc_protocol.specs.declared.requests.Request.TheVariants.{Supported, Description, ThreadList, HostInfo, ProcessInfo}
use Rattle.rvmc_protocol.specs.declared.requests.Request.TheVariants.{Why, Select, SelectMoved, Alive}
use Rattle.rvmc_protocol.specs.declared.requests.Request.TheVariants.{Current, FirstThreads, MoreThreads, ThreadText, Registers}
use Rattle.rvmc_protocol.specs.declared.requests.Request.TheVariants.{Register, Bytes, RawBytes, Moves, Move, StepBack, GoBack}
use Rattle.rvmc_protocol.specs.declared.requests.Request.TheVariants.{Insert, Remove, Detach, Kill, Monitor, NoAcknowledgements}
use Rattle.rvmc_protocol.specs.declared.requests.Request.TheVariants.{Change, Unknown}
use Rattle.rvmc_protocol.specs.declared.requests.points.Point.TheVariants.{Before, HardwareBefore, Written, Read, Touched}
use Rattle.rvmc_protocol.specs.declared.requests.threads.Thread.TheVariants.{All, Any, One}
use Rattle.rvmc_protocol.specs.declared.requests.threads.Move.TheVariants.{Go, Step, Stop}

abbrev Asks : List ℕ → Request → Type 0
Asks text request = request_in text ≡ request

-- ---- the server and its threads

pub what_the_server_can : Asks (codes "qSupported:multiprocess+;swbreak+;hwbreak+") Supported
unfolding request_in plain_in asked_in selected_in read_in point_in lone_question lone_word supported_in description_in thread_list_in thread_text_in alive_in select_in select_moved_in register_in bytes_in raw_bytes_in insert_in remove_in change_in moved_in monitor_in number_in spot_in thread_in move_in action_in text_in decode_pairs
what_the_server_can = refl

pub what_the_server_can_alone : Asks (codes "qSupported") Supported
unfolding request_in plain_in asked_in selected_in read_in point_in lone_question lone_word supported_in description_in thread_list_in thread_text_in alive_in select_in select_moved_in register_in bytes_in raw_bytes_in insert_in remove_in change_in moved_in monitor_in number_in spot_in thread_in move_in action_in text_in decode_pairs
what_the_server_can_alone = refl

pub a_part_of_the_description : Asks (codes "qXfer:features:read:target.xml:0,ffb") (Description 0 4091)
unfolding request_in plain_in asked_in selected_in read_in point_in lone_question lone_word supported_in description_in thread_list_in thread_text_in alive_in select_in select_moved_in register_in bytes_in raw_bytes_in insert_in remove_in change_in moved_in monitor_in number_in spot_in thread_in move_in action_in text_in decode_pairs
a_part_of_the_description = refl

pub why : Asks (codes "?") Why
unfolding request_in plain_in asked_in selected_in read_in point_in lone_question lone_word supported_in description_in thread_list_in thread_text_in alive_in select_in select_moved_in register_in bytes_in raw_bytes_in insert_in remove_in change_in moved_in monitor_in number_in spot_in thread_in move_in action_in text_in decode_pairs
why = refl

pub no_acknowledgements : Asks (codes "QStartNoAckMode") NoAcknowledgements
unfolding request_in plain_in asked_in selected_in read_in point_in lone_question lone_word supported_in description_in thread_list_in thread_text_in alive_in select_in select_moved_in register_in bytes_in raw_bytes_in insert_in remove_in change_in moved_in monitor_in number_in spot_in thread_in move_in action_in text_in decode_pairs
no_acknowledgements = refl

pub the_thread_of_registers : Asks (codes "Hg1") (Select (One 1))
unfolding request_in plain_in asked_in selected_in read_in point_in lone_question lone_word supported_in description_in thread_list_in thread_text_in alive_in select_in select_moved_in register_in bytes_in raw_bytes_in insert_in remove_in change_in moved_in monitor_in number_in spot_in thread_in move_in action_in text_in decode_pairs
the_thread_of_registers = refl

pub any_thread : Asks (codes "Hg0") (Select Any)
unfolding request_in plain_in asked_in selected_in read_in point_in lone_question lone_word supported_in description_in thread_list_in thread_text_in alive_in select_in select_moved_in register_in bytes_in raw_bytes_in insert_in remove_in change_in moved_in monitor_in number_in spot_in thread_in move_in action_in text_in decode_pairs
any_thread = refl

pub all_threads : Asks (codes "Hc-1") (SelectMoved All)
unfolding request_in plain_in asked_in selected_in read_in point_in lone_question lone_word supported_in description_in thread_list_in thread_text_in alive_in select_in select_moved_in register_in bytes_in raw_bytes_in insert_in remove_in change_in moved_in monitor_in number_in spot_in thread_in move_in action_in text_in decode_pairs
all_threads = refl

pub a_thread_is_there : Asks (codes "T4") (Alive 4)
unfolding request_in plain_in asked_in selected_in read_in point_in lone_question lone_word supported_in description_in thread_list_in thread_text_in alive_in select_in select_moved_in register_in bytes_in raw_bytes_in insert_in remove_in change_in moved_in monitor_in number_in spot_in thread_in move_in action_in text_in decode_pairs
a_thread_is_there = refl

pub this_thread : Asks (codes "qC") Current
unfolding request_in plain_in asked_in selected_in read_in point_in lone_question lone_word supported_in description_in thread_list_in thread_text_in alive_in select_in select_moved_in register_in bytes_in raw_bytes_in insert_in remove_in change_in moved_in monitor_in number_in spot_in thread_in move_in action_in text_in decode_pairs
this_thread = refl

pub threads_by_names : Asks (codes "qXfer:threads:read::10,fff") (ThreadList 16 4095)
unfolding request_in plain_in asked_in selected_in read_in point_in lone_question lone_word supported_in description_in thread_list_in thread_text_in alive_in select_in select_moved_in register_in bytes_in raw_bytes_in insert_in remove_in change_in moved_in monitor_in number_in spot_in thread_in move_in action_in text_in decode_pairs
threads_by_names = refl

pub what_it_runs_on : Asks (codes "qHostInfo") HostInfo
unfolding request_in plain_in asked_in selected_in read_in point_in lone_question lone_word supported_in description_in thread_list_in thread_text_in alive_in select_in select_moved_in register_in bytes_in raw_bytes_in insert_in remove_in change_in moved_in monitor_in number_in spot_in thread_in move_in action_in text_in decode_pairs
what_it_runs_on = refl

pub which_process : Asks (codes "qProcessInfo") ProcessInfo
unfolding request_in plain_in asked_in selected_in read_in point_in lone_question lone_word supported_in description_in thread_list_in thread_text_in alive_in select_in select_moved_in register_in bytes_in raw_bytes_in insert_in remove_in change_in moved_in monitor_in number_in spot_in thread_in move_in action_in text_in decode_pairs
which_process = refl

pub first_threads : Asks (codes "qfThreadInfo") FirstThreads
unfolding request_in plain_in asked_in selected_in read_in point_in lone_question lone_word supported_in description_in thread_list_in thread_text_in alive_in select_in select_moved_in register_in bytes_in raw_bytes_in insert_in remove_in change_in moved_in monitor_in number_in spot_in thread_in move_in action_in text_in decode_pairs
first_threads = refl

pub more_threads : Asks (codes "qsThreadInfo") MoreThreads
unfolding request_in plain_in asked_in selected_in read_in point_in lone_question lone_word supported_in description_in thread_list_in thread_text_in alive_in select_in select_moved_in register_in bytes_in raw_bytes_in insert_in remove_in change_in moved_in monitor_in number_in spot_in thread_in move_in action_in text_in decode_pairs
more_threads = refl

pub text_on_a_thread : Asks (codes "qThreadExtraInfo,2") (ThreadText 2)
unfolding request_in plain_in asked_in selected_in read_in point_in lone_question lone_word supported_in description_in thread_list_in thread_text_in alive_in select_in select_moved_in register_in bytes_in raw_bytes_in insert_in remove_in change_in moved_in monitor_in number_in spot_in thread_in move_in action_in text_in decode_pairs
text_on_a_thread = refl

-- ---- registers and bytes

pub registers : Asks (codes "g") Registers
unfolding request_in plain_in asked_in selected_in read_in point_in lone_question lone_word supported_in description_in thread_list_in thread_text_in alive_in select_in select_moved_in register_in bytes_in raw_bytes_in insert_in remove_in change_in moved_in monitor_in number_in spot_in thread_in move_in action_in text_in decode_pairs
registers = refl

pub the_pc : Asks (codes "p20") (Register 32)
unfolding request_in plain_in asked_in selected_in read_in point_in lone_question lone_word supported_in description_in thread_list_in thread_text_in alive_in select_in select_moved_in register_in bytes_in raw_bytes_in insert_in remove_in change_in moved_in monitor_in number_in spot_in thread_in move_in action_in text_in decode_pairs
the_pc = refl

pub bytes : Asks (codes "mfffc,4") (Bytes 65532 4)
unfolding request_in plain_in asked_in selected_in read_in point_in lone_question lone_word supported_in description_in thread_list_in thread_text_in alive_in select_in select_moved_in register_in bytes_in raw_bytes_in insert_in remove_in change_in moved_in monitor_in number_in spot_in thread_in move_in action_in text_in decode_pairs
bytes = refl

pub digits_in_upper_case : Asks (codes "mFFFC,4") (Bytes 65532 4)
unfolding request_in plain_in asked_in selected_in read_in point_in lone_question lone_word supported_in description_in thread_list_in thread_text_in alive_in select_in select_moved_in register_in bytes_in raw_bytes_in insert_in remove_in change_in moved_in monitor_in number_in spot_in thread_in move_in action_in text_in decode_pairs
digits_in_upper_case = refl

pub the_greatest_address : Asks (codes "mffffffffffffffff,1") (Bytes 18446744073709551615 1)
unfolding request_in plain_in asked_in selected_in read_in point_in lone_question lone_word supported_in description_in thread_list_in thread_text_in alive_in select_in select_moved_in register_in bytes_in raw_bytes_in insert_in remove_in change_in moved_in monitor_in number_in spot_in thread_in move_in action_in text_in decode_pairs
the_greatest_address = refl

pub zeros_in_front : Asks (codes "m00000000000000000010,1") (Bytes 16 1)
unfolding request_in plain_in asked_in selected_in read_in point_in lone_question lone_word supported_in description_in thread_list_in thread_text_in alive_in select_in select_moved_in register_in bytes_in raw_bytes_in insert_in remove_in change_in moved_in monitor_in number_in spot_in thread_in move_in action_in text_in decode_pairs
zeros_in_front = refl

pub raw_bytes : Asks (codes "x10,8") (RawBytes 16 8)
unfolding request_in plain_in asked_in selected_in read_in point_in lone_question lone_word supported_in description_in thread_list_in thread_text_in alive_in select_in select_moved_in register_in bytes_in raw_bytes_in insert_in remove_in change_in moved_in monitor_in number_in spot_in thread_in move_in action_in text_in decode_pairs
raw_bytes = refl

-- ---- motions

pub how_to_move : Asks (codes "vCont?") Moves
unfolding request_in plain_in asked_in selected_in read_in point_in lone_question lone_word supported_in description_in thread_list_in thread_text_in alive_in select_in select_moved_in register_in bytes_in raw_bytes_in insert_in remove_in change_in moved_in monitor_in number_in spot_in thread_in move_in action_in text_in decode_pairs
how_to_move = refl

pub go_on : Asks (codes "vCont;c") (Move Go)
unfolding request_in plain_in asked_in selected_in read_in point_in lone_question lone_word supported_in description_in thread_list_in thread_text_in alive_in select_in select_moved_in register_in bytes_in raw_bytes_in insert_in remove_in change_in moved_in monitor_in number_in spot_in thread_in move_in action_in text_in decode_pairs
go_on = refl

pub step_one : Asks (codes "vCont;s:2") (Move (Step (One 2)))
unfolding request_in plain_in asked_in selected_in read_in point_in lone_question lone_word supported_in description_in thread_list_in thread_text_in alive_in select_in select_moved_in register_in bytes_in raw_bytes_in insert_in remove_in change_in moved_in monitor_in number_in spot_in thread_in move_in action_in text_in decode_pairs
step_one = refl

pub step_one_and_go_on : Asks (codes "vCont;s:1;c") (Move (Step (One 1)))
unfolding request_in plain_in asked_in selected_in read_in point_in lone_question lone_word supported_in description_in thread_list_in thread_text_in alive_in select_in select_moved_in register_in bytes_in raw_bytes_in insert_in remove_in change_in moved_in monitor_in number_in spot_in thread_in move_in action_in text_in decode_pairs
step_one_and_go_on = refl

pub go_on_but_step_one : Asks (codes "vCont;c:2;s:1") (Move (Step (One 1)))
unfolding request_in plain_in asked_in selected_in read_in point_in lone_question lone_word supported_in description_in thread_list_in thread_text_in alive_in select_in select_moved_in register_in bytes_in raw_bytes_in insert_in remove_in change_in moved_in monitor_in number_in spot_in thread_in move_in action_in text_in decode_pairs
go_on_but_step_one = refl

pub stop : Asks (codes "vCont;t") (Move Stop)
unfolding request_in plain_in asked_in selected_in read_in point_in lone_question lone_word supported_in description_in thread_list_in thread_text_in alive_in select_in select_moved_in register_in bytes_in raw_bytes_in insert_in remove_in change_in moved_in monitor_in number_in spot_in thread_in move_in action_in text_in decode_pairs
stop = refl

pub continue_alone : Asks (codes "c") (Move Go)
unfolding request_in plain_in asked_in selected_in read_in point_in lone_question lone_word supported_in description_in thread_list_in thread_text_in alive_in select_in select_moved_in register_in bytes_in raw_bytes_in insert_in remove_in change_in moved_in monitor_in number_in spot_in thread_in move_in action_in text_in decode_pairs
continue_alone = refl

pub step_alone : Asks (codes "s") (Move (Step Any))
unfolding request_in plain_in asked_in selected_in read_in point_in lone_question lone_word supported_in description_in thread_list_in thread_text_in alive_in select_in select_moved_in register_in bytes_in raw_bytes_in insert_in remove_in change_in moved_in monitor_in number_in spot_in thread_in move_in action_in text_in decode_pairs
step_alone = refl

pub step_back : Asks (codes "bs") StepBack
unfolding request_in plain_in asked_in selected_in read_in point_in lone_question lone_word supported_in description_in thread_list_in thread_text_in alive_in select_in select_moved_in register_in bytes_in raw_bytes_in insert_in remove_in change_in moved_in monitor_in number_in spot_in thread_in move_in action_in text_in decode_pairs
step_back = refl

pub go_back : Asks (codes "bc") GoBack
unfolding request_in plain_in asked_in selected_in read_in point_in lone_question lone_word supported_in description_in thread_list_in thread_text_in alive_in select_in select_moved_in register_in bytes_in raw_bytes_in insert_in remove_in change_in moved_in monitor_in number_in spot_in thread_in move_in action_in text_in decode_pairs
go_back = refl

-- ---- points

pub a_breakpoint : Asks (codes "Z0,1c,4") (Insert Before 28 4)
unfolding request_in plain_in asked_in selected_in read_in point_in lone_question lone_word supported_in description_in thread_list_in thread_text_in alive_in select_in select_moved_in register_in bytes_in raw_bytes_in insert_in remove_in change_in moved_in monitor_in number_in spot_in thread_in move_in action_in text_in decode_pairs
a_breakpoint = refl

pub no_breakpoint : Asks (codes "z1,1c,4") (Remove HardwareBefore 28 4)
unfolding request_in plain_in asked_in selected_in read_in point_in lone_question lone_word supported_in description_in thread_list_in thread_text_in alive_in select_in select_moved_in register_in bytes_in raw_bytes_in insert_in remove_in change_in moved_in monitor_in number_in spot_in thread_in move_in action_in text_in decode_pairs
no_breakpoint = refl

pub a_watchpoint : Asks (codes "Z2,8000,8") (Insert Written 32768 8)
unfolding request_in plain_in asked_in selected_in read_in point_in lone_question lone_word supported_in description_in thread_list_in thread_text_in alive_in select_in select_moved_in register_in bytes_in raw_bytes_in insert_in remove_in change_in moved_in monitor_in number_in spot_in thread_in move_in action_in text_in decode_pairs
a_watchpoint = refl

pub a_read_watchpoint : Asks (codes "Z3,8000,8") (Insert Read 32768 8)
unfolding request_in plain_in asked_in selected_in read_in point_in lone_question lone_word supported_in description_in thread_list_in thread_text_in alive_in select_in select_moved_in register_in bytes_in raw_bytes_in insert_in remove_in change_in moved_in monitor_in number_in spot_in thread_in move_in action_in text_in decode_pairs
a_read_watchpoint = refl

pub an_access_watchpoint : Asks (codes "z4,8000,8") (Remove Touched 32768 8)
unfolding request_in plain_in asked_in selected_in read_in point_in lone_question lone_word supported_in description_in thread_list_in thread_text_in alive_in select_in select_moved_in register_in bytes_in raw_bytes_in insert_in remove_in change_in moved_in monitor_in number_in spot_in thread_in move_in action_in text_in decode_pairs
an_access_watchpoint = refl

-- ---- the rest

pub leaves : Asks (codes "D") Detach
unfolding request_in plain_in asked_in selected_in read_in point_in lone_question lone_word supported_in description_in thread_list_in thread_text_in alive_in select_in select_moved_in register_in bytes_in raw_bytes_in insert_in remove_in change_in moved_in monitor_in number_in spot_in thread_in move_in action_in text_in decode_pairs
leaves = refl

pub ends : Asks (codes "k") Kill
unfolding request_in plain_in asked_in selected_in read_in point_in lone_question lone_word supported_in description_in thread_list_in thread_text_in alive_in select_in select_moved_in register_in bytes_in raw_bytes_in insert_in remove_in change_in moved_in monitor_in number_in spot_in thread_in move_in action_in text_in decode_pairs
ends = refl

pub monitor_place : Asks (codes "qRcmd,706c616365") (Monitor (codes "place"))
unfolding request_in plain_in asked_in selected_in read_in point_in lone_question lone_word supported_in description_in thread_list_in thread_text_in alive_in select_in select_moved_in register_in bytes_in raw_bytes_in insert_in remove_in change_in moved_in monitor_in number_in spot_in thread_in move_in action_in text_in decode_pairs
monitor_place = refl

pub other_registers : Asks (codes "G00") Change
unfolding request_in plain_in asked_in selected_in read_in point_in lone_question lone_word supported_in description_in thread_list_in thread_text_in alive_in select_in select_moved_in register_in bytes_in raw_bytes_in insert_in remove_in change_in moved_in monitor_in number_in spot_in thread_in move_in action_in text_in decode_pairs
other_registers = refl

pub another_register : Asks (codes "P1=00") Change
unfolding request_in plain_in asked_in selected_in read_in point_in lone_question lone_word supported_in description_in thread_list_in thread_text_in alive_in select_in select_moved_in register_in bytes_in raw_bytes_in insert_in remove_in change_in moved_in monitor_in number_in spot_in thread_in move_in action_in text_in decode_pairs
another_register = refl

pub other_bytes : Asks (codes "M10,1:00") Change
unfolding request_in plain_in asked_in selected_in read_in point_in lone_question lone_word supported_in description_in thread_list_in thread_text_in alive_in select_in select_moved_in register_in bytes_in raw_bytes_in insert_in remove_in change_in moved_in monitor_in number_in spot_in thread_in move_in action_in text_in decode_pairs
other_bytes = refl

pub other_raw_bytes : Asks (codes "X10,0:") Change
unfolding request_in plain_in asked_in selected_in read_in point_in lone_question lone_word supported_in description_in thread_list_in thread_text_in alive_in select_in select_moved_in register_in bytes_in raw_bytes_in insert_in remove_in change_in moved_in monitor_in number_in spot_in thread_in move_in action_in text_in decode_pairs
other_raw_bytes = refl

-- ---- texts that are no request

pub nothing : Asks [] Unknown
unfolding request_in plain_in asked_in selected_in read_in point_in lone_question lone_word supported_in description_in thread_list_in thread_text_in alive_in select_in select_moved_in register_in bytes_in raw_bytes_in insert_in remove_in change_in moved_in monitor_in number_in spot_in thread_in move_in action_in text_in decode_pairs
nothing = refl

pub more_than_a_word : Asks (codes "gg") Unknown
unfolding request_in plain_in asked_in selected_in read_in point_in lone_question lone_word supported_in description_in thread_list_in thread_text_in alive_in select_in select_moved_in register_in bytes_in raw_bytes_in insert_in remove_in change_in moved_in monitor_in number_in spot_in thread_in move_in action_in text_in decode_pairs
more_than_a_word = refl

pub must_reply_empty : Asks (codes "vMustReplyEmpty") Unknown
unfolding request_in plain_in asked_in selected_in read_in point_in lone_question lone_word supported_in description_in thread_list_in thread_text_in alive_in select_in select_moved_in register_in bytes_in raw_bytes_in insert_in remove_in change_in moved_in monitor_in number_in spot_in thread_in move_in action_in text_in decode_pairs
must_reply_empty = refl

pub no_count : Asks (codes "m10") Unknown
unfolding request_in plain_in asked_in selected_in read_in point_in lone_question lone_word supported_in description_in thread_list_in thread_text_in alive_in select_in select_moved_in register_in bytes_in raw_bytes_in insert_in remove_in change_in moved_in monitor_in number_in spot_in thread_in move_in action_in text_in decode_pairs
no_count = refl

pub no_number : Asks (codes "m10,") Unknown
unfolding request_in plain_in asked_in selected_in read_in point_in lone_question lone_word supported_in description_in thread_list_in thread_text_in alive_in select_in select_moved_in register_in bytes_in raw_bytes_in insert_in remove_in change_in moved_in monitor_in number_in spot_in thread_in move_in action_in text_in decode_pairs
no_number = refl

pub no_digit : Asks (codes "m1g,4") Unknown
unfolding request_in plain_in asked_in selected_in read_in point_in lone_question lone_word supported_in description_in thread_list_in thread_text_in alive_in select_in select_moved_in register_in bytes_in raw_bytes_in insert_in remove_in change_in moved_in monitor_in number_in spot_in thread_in move_in action_in text_in decode_pairs
no_digit = refl

pub more_than_64_bits : Asks (codes "m10000000000000000,1") Unknown
unfolding request_in plain_in asked_in selected_in read_in point_in lone_question lone_word supported_in description_in thread_list_in thread_text_in alive_in select_in select_moved_in register_in bytes_in raw_bytes_in insert_in remove_in change_in moved_in monitor_in number_in spot_in thread_in move_in action_in text_in decode_pairs
more_than_64_bits = refl

pub no_such_point : Asks (codes "Z5,10,4") Unknown
unfolding request_in plain_in asked_in selected_in read_in point_in lone_question lone_word supported_in description_in thread_list_in thread_text_in alive_in select_in select_moved_in register_in bytes_in raw_bytes_in insert_in remove_in change_in moved_in monitor_in number_in spot_in thread_in move_in action_in text_in decode_pairs
no_such_point = refl

pub another_action : Asks (codes "vCont;r10,20:1") Unknown
unfolding request_in plain_in asked_in selected_in read_in point_in lone_question lone_word supported_in description_in thread_list_in thread_text_in alive_in select_in select_moved_in register_in bytes_in raw_bytes_in insert_in remove_in change_in moved_in monitor_in number_in spot_in thread_in move_in action_in text_in decode_pairs
another_action = refl

pub an_odd_digit : Asks (codes "qRcmd,7") Unknown
unfolding request_in plain_in asked_in selected_in read_in point_in lone_question lone_word supported_in description_in thread_list_in thread_text_in alive_in select_in select_moved_in register_in bytes_in raw_bytes_in insert_in remove_in change_in moved_in monitor_in number_in spot_in thread_in move_in action_in text_in decode_pairs
an_odd_digit = refl

pub an_address_to_go_on_from : Asks (codes "c10") Unknown
unfolding request_in plain_in asked_in selected_in read_in point_in lone_question lone_word supported_in description_in thread_list_in thread_text_in alive_in select_in select_moved_in register_in bytes_in raw_bytes_in insert_in remove_in change_in moved_in monitor_in number_in spot_in thread_in move_in action_in text_in decode_pairs
an_address_to_go_on_from = refl
