-- Worked words, as a person types them: the first blank is `=`, and further ones are commas.
use Rattle.std.specs.Prelude.{◌≡◌, ℕ, List, codes, refl}
use Rattle.rvmc_protocol.specs.Monitor.Typed.{debug_spelling}

abbrev IsSpelled : List ℕ → List ℕ → Type 0
IsSpelled typed word = debug_spelling 61 typed ≡ word

pub a_word_alone : IsSpelled (codes "place") (codes "place")
a_word_alone = refl

pub a_number : IsSpelled (codes "go 12") (codes "go=12")
a_number = refl

pub several : IsSpelled (codes "bytes 1 grid 16") (codes "bytes=1,grid,16")
several = refl

pub a_symbol : IsSpelled (codes "last-write sum") (codes "last-write=sum")
a_symbol = refl

-- two blanks leave a number out, and no word of `debug` does
pub two_blanks : IsSpelled (codes "regs 0  1") (codes "regs=0,,1")
two_blanks = refl
