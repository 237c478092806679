-- The text of each request (GDB manual, appendix 'Remote Protocol', 'Packets' and 'General Query Packets').
pub mod Laws
pub mod Pieces
pub mod Points
pub mod Texts
pub mod Threads
pub mod Worked
use Rattle.std.specs.Prelude.{ℕ, List, [], ◌∷◌, Option, Some, None, ◌==◌, ◌||◌, if◌then◌else◌, codes, option_and_then, option_map}
use Rattle.std.specs.List.{slice_split}
use Rattle.std.specs.Option.{option_or, unwrap_or}
use Rattle.std.specs.Str.{bytes_eq}
use Rattle.rvmc_protocol.specs.Requests.Pieces.{behind, number_in, numbers_in}
use Rattle.rvmc_protocol.specs.Requests.Points.{spot_in}
use Rattle.rvmc_protocol.specs.Requests.Texts.{text_in}
use Rattle.rvmc_protocol.specs.Requests.Threads.{moved, thread_in}
use Rattle.rvmc_protocol.specs.declared.requests.Request.{Request}
use Rattle.rvmc_protocol.specs.declared.requests.Request.TheVariants.{Supported, Description, ThreadList, HostInfo, ProcessInfo}
use Rattle.rvmc_protocol.specs.declared.requests.Request.TheVariants.{Why, Select, SelectMoved, Alive}
use Rattle.rvmc_protocol.specs.declared.requests.Request.TheVariants.{Current, FirstThreads, MoreThreads, ThreadText, Registers}
use Rattle.rvmc_protocol.specs.declared.requests.Request.TheVariants.{Register, Bytes, RawBytes, Moves, Move, StepBack, GoBack}
use Rattle.rvmc_protocol.specs.declared.requests.Request.TheVariants.{Insert, Remove, Detach, Kill, Monitor, NoAcknowledgements}
use Rattle.rvmc_protocol.specs.declared.requests.Request.TheVariants.{Change, Unknown}
use Rattle.rvmc_protocol.specs.declared.requests.threads.Thread.TheVariants.{Any}
use Rattle.rvmc_protocol.specs.declared.requests.threads.Move.TheVariants.{Go, Step, Stop}

-- ---- words that stand alone

unfoldable pub lone_question : List ℕ → Option Request
lone_question text =
    if bytes_eq text (codes "qSupported") then Some Supported
    else if bytes_eq text (codes "qC") then Some Current
    else if bytes_eq text (codes "qfThreadInfo") then Some FirstThreads
    else if bytes_eq text (codes "qsThreadInfo") then Some MoreThreads
    else if bytes_eq text (codes "qHostInfo") then Some HostInfo
    else if bytes_eq text (codes "qProcessInfo") then Some ProcessInfo
    else if bytes_eq text (codes "vCont?") then Some Moves
    else if bytes_eq text (codes "QStartNoAckMode") then Some NoAcknowledgements
    else None

unfoldable pub lone_word : List ℕ → Option Request
lone_word text =
    if bytes_eq text (codes "?") then Some Why
    else if bytes_eq text (codes "g") then Some Registers
    else if bytes_eq text (codes "c") then Some (Move Go)
    else if bytes_eq text (codes "s") then Some (Move (Step Any))
    else if bytes_eq text (codes "bs") then Some StepBack
    else if bytes_eq text (codes "bc") then Some GoBack
    else if bytes_eq text (codes "D") then Some Detach
    else if bytes_eq text (codes "k") then Some Kill
    else None

-- ---- a beginning, and what is read behind it

unfoldable pub supported_in : List ℕ → Option Request
supported_in text = option_map (λ rest. Supported) (behind text (codes "qSupported:"))

unfoldable pub description_in : List ℕ → Option Request
description_in text =
    option_and_then (λ rest. option_map (λ numbers. Description numbers.0 numbers.1) (numbers_in rest))
    (behind text (codes "qXfer:features:read:target.xml:"))

unfoldable pub thread_list_in : List ℕ → Option Request
thread_list_in text =
    option_and_then (λ rest. option_map (λ numbers. ThreadList numbers.0 numbers.1) (numbers_in rest))
    (behind text (codes "qXfer:threads:read::"))

unfoldable pub thread_text_in : List ℕ → Option Request
thread_text_in text =
    option_and_then (λ rest. option_map (λ number. ThreadText number) (number_in rest))
    (behind text (codes "qThreadExtraInfo,"))

unfoldable pub alive_in : List ℕ → Option Request
alive_in text =
    option_and_then (λ rest. option_map (λ number. Alive number) (number_in rest)) (behind text (codes "T"))

unfoldable pub select_in : List ℕ → Option Request
select_in text =
    option_and_then (λ rest. option_map (λ thread. Select thread) (thread_in rest)) (behind text (codes "Hg"))

unfoldable pub select_moved_in : List ℕ → Option Request
select_moved_in text =
    option_and_then (λ rest. option_map (λ thread. SelectMoved thread) (thread_in rest)) (behind text (codes "Hc"))

unfoldable pub register_in : List ℕ → Option Request
register_in text =
    option_and_then (λ rest. option_map (λ number. Register number) (number_in rest)) (behind text (codes "p"))

unfoldable pub bytes_in : List ℕ → Option Request
bytes_in text =
    option_and_then (λ rest. option_map (λ numbers. Bytes numbers.0 numbers.1) (numbers_in rest)) (behind text (codes "m"))

unfoldable pub raw_bytes_in : List ℕ → Option Request
raw_bytes_in text =
    option_and_then (λ rest. option_map (λ numbers. RawBytes numbers.0 numbers.1) (numbers_in rest))
    (behind text (codes "x"))

unfoldable pub insert_in : List ℕ → Option Request
insert_in text =
    option_and_then (λ rest. option_map (λ spot. Insert spot.0 spot.1 spot.2) (spot_in rest)) (behind text (codes "Z"))

unfoldable pub remove_in : List ℕ → Option Request
remove_in text =
    option_and_then (λ rest. option_map (λ spot. Remove spot.0 spot.1 spot.2) (spot_in rest)) (behind text (codes "z"))

-- `G`, `P`, `M` and `X`, whatever stands behind them
unfoldable pub change_in : List ℕ → Option Request
change_in [] = None
change_in (letter ∷ rest) = if letter == 71 || letter == 80 || letter == 77 || letter == 88 then Some Change else None

unfoldable pub moved_in : List ℕ → Option Request
moved_in text =
    option_and_then (λ rest. option_map (λ all. Move all) (moved Stop (slice_split (λ byte. byte == 59) rest)))
    (behind text (codes "vCont;"))

unfoldable pub monitor_in : List ℕ → Option Request
monitor_in text =
    option_and_then (λ digits. option_map (λ typed. Monitor typed) (text_in digits)) (behind text (codes "qRcmd,"))

-- ---- all of them

unfoldable pub asked_in : List ℕ → Option Request
asked_in text =
    option_or (supported_in text) (option_or (description_in text) (option_or (thread_list_in text)
    (option_or (thread_text_in text) (alive_in text))))

unfoldable pub selected_in : List ℕ → Option Request
selected_in text = option_or (select_in text) (select_moved_in text)

unfoldable pub read_in : List ℕ → Option Request
read_in text = option_or (register_in text) (option_or (bytes_in text) (raw_bytes_in text))

unfoldable pub point_in : List ℕ → Option Request
point_in text = option_or (insert_in text) (option_or (remove_in text) (change_in text))

unfoldable pub plain_in : List ℕ → Option Request
plain_in text =
    option_or (lone_question text) (option_or (lone_word text) (option_or (asked_in text) (option_or (selected_in text)
    (option_or (read_in text) (point_in text)))))

-- the request whose text this is
unfoldable pub request_in : List ℕ → Request
request_in text = unwrap_or (option_or (plain_in text) (option_or (moved_in text) (monitor_in text))) Unknown
