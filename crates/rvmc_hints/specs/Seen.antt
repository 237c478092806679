-- What stands in an input, as its bytes show.
use Rattle.std.specs.Prelude.{ℕ, ◌==◌, ◌||◌, ◌&&◌, nat_le, nat_eq, if◌then◌else◌, Bool, false, List, [], ◌∷◌}
use Rattle.std.specs.Prelude.{length, codes}
use Rattle.std.specs.List.{list_all, starts_with}
use Rattle.rvmc_hints.specs.declared.seen.Seen.{Seen}
use Rattle.rvmc_hints.specs.declared.seen.Seen.TheVariants.{C, Elf, Image, Nothing, Other, Record, Text}

-- printable ASCII, a blank, a tab, or the end of a line
abbrev pub is_printable : ℕ → Bool
is_printable byte = (byte == 9) || ((byte == 10) || ((byte == 13) || (nat_le 32 byte && nat_le byte 126)))

abbrev pub begins_with_include : List ℕ → Bool
begins_with_include bytes = starts_with nat_eq bytes (codes "#include")

-- a line but the first begins so
abbrev pub includes : List ℕ → Bool
includes [] = false
includes (byte ∷ bytes) = ((byte == 10) && begins_with_include bytes) || includes bytes

-- a line begins so
abbrev pub is_c : List ℕ → Bool
is_c bytes = begins_with_include bytes || includes bytes

-- a source in C; a text where each byte is printable
abbrev pub read_in : List ℕ → Seen
read_in bytes = if is_c bytes then C else (if list_all is_printable bytes then Text else Other)

-- nothing; an image, a record or an ELF file by its first four bytes
abbrev pub seen_in : List ℕ → Seen
seen_in bytes =
    if length bytes == 0 then Nothing
    else (if starts_with nat_eq bytes (codes "RVMC") then Image
    else (if starts_with nat_eq bytes (codes "RVMR") then Record
    else (if starts_with nat_eq bytes (127 ∷ codes "ELF") then Elf else read_in bytes)))
