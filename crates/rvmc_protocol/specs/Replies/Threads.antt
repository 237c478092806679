-- Threads, which are numbered from 1, and what the server can do.
use Rattle.std.specs.Prelude.{ℕ, zero, suc, ◌+◌, ◌-◌, ◌==◌, ◌||◌, nat_lt, if◌then◌else◌}
use Rattle.std.specs.Prelude.{Bool, true, false, List, [], ◌∷◌, ◌++◌, codes}
use Rattle.std.specs.Fmt.{decimal, digits}
use Rattle.std.specs.List.{flat_map}

-- with `named`, threads are listed by names
abbrev pub names_text : Bool → List ℕ
names_text false = []
names_text true = codes ";qXfer:threads:read+"

abbrev pub most_text : ℕ → List ℕ
most_text most =
    codes "PacketSize=" ++ digits 16 false most
    ++ codes ";qXfer:features:read+;ReverseStep+;ReverseContinue+;vContSupported+;QStartNoAckMode+;swbreak+;hwbreak+"

abbrev pub supported_text : ℕ → Bool → List ℕ
supported_text most named = most_text most ++ names_text named

-- ---- what LLDB asks for

-- the digits are those of `riscv64-unknown-elf`
abbrev pub host_text : List ℕ
host_text = codes "triple:726973637636342d756e6b6e6f776e2d656c66;endian:little;ptrsize:8;"

abbrev pub process_text : List ℕ
process_text = codes "pid:1;" ++ host_text

-- ---- threads; none has the number 0, which means any

abbrev pub thread_number : ℕ → List ℕ
thread_number thread = digits 16 false thread

abbrev pub current_text : ℕ → List ℕ
current_text thread = codes "QC" ++ thread_number thread

-- so many behind the first
abbrev pub more_threads : ℕ → List ℕ
more_threads zero = []
more_threads (suc further) = more_threads further ++ (44 ∷ thread_number (further + 2))

abbrev pub threads_text : ℕ → List ℕ
threads_text count = codes "m1" ++ more_threads (count - 1)

-- ---- threads with their names (GDB manual, 'Thread List Format')

-- a hart's name
abbrev pub name_text : ℕ → ℕ → List ℕ
name_text rank hart = codes "rank " ++ (decimal rank ++ (codes " hart " ++ decimal hart))

-- `<`, `>` and `&` as XML has them; what isn't printed as a point
unfoldable pub xml_byte : ℕ → List ℕ
xml_byte byte =
    if byte == 60 then codes "&lt;"
    else if byte == 62 then codes "&gt;"
    else if byte == 38 then codes "&amp;"
    else if nat_lt byte 32 || nat_lt 126 byte then codes "."
    else byte ∷ []

abbrev pub named_head : ℕ → ℕ → ℕ → List ℕ
named_head thread rank hart =
    codes "<thread id=\""
    ++ (thread_number thread
    ++ (codes "\" name=\"rank " ++ (decimal rank ++ (codes " hart " ++ (decimal hart ++ codes "\">")))))

abbrev pub named_text : ℕ → ℕ → ℕ → List ℕ → List ℕ
named_text thread rank hart told = named_head thread rank hart ++ flat_map xml_byte told ++ codes "</thread>"
