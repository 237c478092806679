-- Worked command lines that name files: what they name, and what is left; and lines that name none.
use Rattle.std.specs.Prelude.{◌≡◌, List, [], ◌∷◌, Some, None, codes, refl}
use Rattle.clap.specs.Words.{Text}
use Rattle.rvmc_cli.specs.Files.{Names, named_in, unnamed}

-- these words are left, and this file is read
abbrev reads : List Text → Text → Names
reads words file = record { words = words; file = Some file; output = None }

-- the same, and this one is written
abbrev reads_and_writes : List Text → Text → Text → Names
reads_and_writes words file output = record { words = words; file = Some file; output = Some output }

pub an_image : named_in (codes "run" ∷ codes "hello.image" ∷ []) ≡ reads (codes "run" ∷ []) (codes "hello.image")
an_image = refl

-- a source by its name, with a command and without one
pub a_source : named_in (codes "run" ∷ codes "hello.s" ∷ []) ≡ reads (codes "run" ∷ codes "--source" ∷ []) (codes "hello.s")
a_source = refl

pub a_source_alone : named_in (codes "hello.s" ∷ []) ≡ reads (codes "one" ∷ codes "--source" ∷ []) (codes "hello.s")
a_source_alone = refl

pub an_image_alone : named_in (codes "./hello" ∷ []) ≡ reads (codes "one" ∷ []) (codes "./hello")
an_image_alone = refl

-- it is said once at most, and `asm` reads sources anyway
pub a_source_said : named_in (codes "one" ∷ codes "--source" ∷ codes "hello.s" ∷ [])
    ≡ reads (codes "one" ∷ codes "--source" ∷ []) (codes "hello.s")
a_source_said = refl

pub a_source_to_assemble : named_in (codes "asm" ∷ codes "hello.s" ∷ codes "-o" ∷ codes "hello.image" ∷ [])
    ≡ reads_and_writes (codes "asm" ∷ []) (codes "hello.s") (codes "hello.image")
a_source_to_assemble = refl

-- a file stands anywhere behind the command
pub a_record : named_in (codes "debug" ∷ codes "go=2" ∷ codes "x.record" ∷ codes "where" ∷ [])
    ≡ reads (codes "debug" ∷ codes "go=2" ∷ codes "where" ∷ []) (codes "x.record")
a_record = refl

pub a_record_of_lines : named_in (codes "debug" ∷ codes "-" ∷ codes "x.record" ∷ [])
    ≡ reads (codes "debug" ∷ codes "-" ∷ []) (codes "x.record")
a_record_of_lines = refl

-- an option has its own word: `--record` takes one of `explore`, and none of `run`
pub an_end : named_in (codes "explore" ∷ codes "--record" ∷ codes "2" ∷ codes "a.image" ∷ [])
    ≡ reads (codes "explore" ∷ codes "--record" ∷ codes "2" ∷ []) (codes "a.image")
an_end = refl

pub a_record_made : named_in (codes "run" ∷ codes "--record" ∷ codes "a.image" ∷ codes "-o" ∷ codes "a" ∷ [])
    ≡ reads_and_writes (codes "run" ∷ codes "--record" ∷ []) (codes "a.image") (codes "a")
a_record_made = refl

pub a_number : named_in (codes "one" ∷ codes "--budget" ∷ codes "1.5" ∷ []) ≡ unnamed (codes "one" ∷ codes "--budget" ∷ codes "1.5" ∷ [])
a_number = refl

-- standard input is run as without words
pub an_output_alone : named_in (codes "-o" ∷ codes "out" ∷ []) ≡ record { words = []; file = None; output = Some (codes "out") }
an_output_alone = refl

-- ---- words that stay as they are

pub no_words : named_in [] ≡ unnamed []
no_words = refl

pub more : named_in (codes "run" ∷ codes "more" ∷ []) ≡ unnamed (codes "run" ∷ codes "more" ∷ [])
more = refl

pub jump : named_in (codes "debug" ∷ codes "jump" ∷ []) ≡ unnamed (codes "debug" ∷ codes "jump" ∷ [])
jump = refl

pub fly : named_in (codes "fly" ∷ []) ≡ unnamed (codes "fly" ∷ [])
fly = refl

pub a_dash : named_in (codes "run" ∷ codes "-" ∷ []) ≡ unnamed (codes "run" ∷ codes "-" ∷ [])
a_dash = refl

-- a line of a source that is a symbol
pub a_line : named_in (codes "debug" ∷ codes "break=0,0,farm.c.12" ∷ []) ≡ unnamed (codes "debug" ∷ codes "break=0,0,farm.c.12" ∷ [])
a_line = refl

-- two files, two outputs, an output without a name, and no command
pub two_files : named_in (codes "run" ∷ codes "a.image" ∷ codes "b.image" ∷ [])
    ≡ unnamed (codes "run" ∷ codes "a.image" ∷ codes "b.image" ∷ [])
two_files = refl

pub two_outputs : named_in (codes "asm" ∷ codes "-o" ∷ codes "a" ∷ codes "-o" ∷ codes "b" ∷ [])
    ≡ unnamed (codes "asm" ∷ codes "-o" ∷ codes "a" ∷ codes "-o" ∷ codes "b" ∷ [])
two_outputs = refl

pub no_output : named_in (codes "run" ∷ codes "a.image" ∷ codes "-o" ∷ []) ≡ unnamed (codes "run" ∷ codes "a.image" ∷ codes "-o" ∷ [])
no_output = refl

pub no_command : named_in (codes "fly" ∷ codes "a.image" ∷ []) ≡ unnamed (codes "fly" ∷ codes "a.image" ∷ [])
no_command = refl
