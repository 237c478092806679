-- Words of a command line that are refused.
use Rattle.std.specs.Prelude.{ℕ, ◌==◌, ◌||◌, ◌&&◌, nat_le, not, Bool, false, List, [], ◌∷◌, Option}
use Rattle.std.specs.Prelude.{codes, find}
use Rattle.std.specs.List.{list_all, list_any}
use Rattle.std.specs.Str.{bytes_eq}
use Rattle.rv_asm_statements.specs.Walk.{beside, first_given}
use Rattle.rvmc_hints.specs.Near.{is_near}

abbrev pub between : ℕ → ℕ → ℕ → Bool
between low high byte = nat_le low byte && nat_le byte high

-- letters, digits, `_`, `.`, `/` and `-`
abbrev pub is_file_byte : ℕ → Bool
is_file_byte byte =
    (between 97 122 byte || (between 65 90 byte || between 48 57 byte))
    || ((byte == 95) || ((byte == 46) || ((byte == 47) || (byte == 45))))

-- a `.` or a `/`
abbrev pub is_mark : ℕ → Bool
is_mark byte = (byte == 46) || (byte == 47)

-- the first byte is a `-`
abbrev pub is_option : List ℕ → Bool
is_option [] = false
is_option (byte ∷ bytes) = byte == 45

-- such bytes, among them a mark, and no option
abbrev pub is_file_name : List ℕ → Bool
is_file_name word = list_all is_file_byte word && (list_any is_mark word && not (is_option word))

-- the right form of each word of `debug`, by what stands before its `=`
abbrev pub forms : List (List ℕ × List ℕ)
forms =
    (codes "go", codes "go=N, as go=2") ∷
    (codes "step", codes "step stands alone") ∷
    (codes "back", codes "back stands alone") ∷
    (codes "run", codes "run stands alone") ∷
    (codes "place", codes "place stands alone") ∷
    (codes "break", codes "break=R,H,PC, break=R,H,NAME or break=R,H,FILE:LINE, as break=0,0,0x18") ∷
    (codes "regs", codes "regs=R,H, as regs=0,0") ∷
    (codes "frames", codes "frames=R,H, as frames=0,0") ∷
    (codes "output", codes "output=R, as output=0") ∷
    (codes "bytes", codes "bytes=R,A,N, bytes=R,NAME,N or bytes=R,FILE:LINE,N, as bytes=0,0xfff8,4") ∷
    []

abbrev pub form_of : List ℕ → Option (List ℕ)
form_of head = first_given (beside head) forms

-- the commands, in the order of help
abbrev pub command_names : List (List ℕ)
command_names =
    codes "asm" ∷ codes "dis" ∷ codes "run" ∷ codes "one" ∷ codes "check" ∷ codes "report" ∷ codes "list" ∷ codes "draw"
    ∷ codes "page" ∷ codes "debug" ∷ codes "gdb" ∷ codes "why" ∷ codes "explore" ∷ []

-- the first of them that is this word but for one slip
abbrev pub command_near : List ℕ → Option (List ℕ)
command_near word = find (λ name. is_near name word) command_names

-- how mpiexec and its like are told how many ranks there are to be
abbrev pub is_rank_option : List ℕ → Bool
is_rank_option word =
    bytes_eq word (codes "-n") || (bytes_eq word (codes "-np") || bytes_eq word (codes "--ranks"))
