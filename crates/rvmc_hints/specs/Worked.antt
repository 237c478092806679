-- Hints, by rows: what stands in an input, plans, names, words and lines.
use Rattle.std.specs.Prelude.{◌≡◌, ◌++◌, true, false, [], ◌∷◌, None, Some, codes, refl}
use Rattle.cl_calls.specs.Names.{call_number}
use Rattle.rvmc_hints.specs.Content.{content_in}
use Rattle.rvmc_hints.specs.Lines.{begins_nothing, begins_with_colon}
use Rattle.rvmc_hints.specs.Near.{is_near}
use Rattle.rvmc_hints.specs.Plans.{plans_in}
use Rattle.rvmc_hints.specs.Records.{short_in}
use Rattle.rvmc_hints.specs.Seen.{seen_in}
use Rattle.rvmc_hints.specs.Sources.{here_for}
use Rattle.rvmc_hints.specs.Words.{command_near, is_file_name, is_rank_option}
use Rattle.rvmc_hints.specs.Runs.{next_bound}
use Rattle.rvmc_hints.specs.declared.hint.Hint.TheVariants as hint
use Rattle.rvmc_hints.specs.declared.hint.Wanted.TheVariants as wanted

-- `one < prog.s`, where the assembler takes it
pub a_source_for_one : content_in wanted.Image true (seen_in (codes "nop")) ≡ Some (hint.Source wanted.Image)
a_source_for_one = refl

-- where it doesn't
pub a_text_for_one : content_in wanted.Image false (seen_in (codes "hello")) ≡ Some (hint.Text wanted.Image)
a_text_for_one = refl

-- `check < prog.image`
pub an_image_for_check : content_in wanted.Record false (seen_in (codes "RVMC")) ≡ Some hint.Image
an_image_for_check = refl

-- an image is right for `dis`, whatever follows its first bytes
pub an_image_for_dis : content_in wanted.Listed false (seen_in (codes "RVMC")) ≡ None
an_image_for_dis = refl

pub a_record_for_asm : content_in wanted.Source false (seen_in (codes "RVMR")) ≡ Some hint.Record
a_record_for_asm = refl

-- `explore --join < prog.image`, and texts that may be what is wanted
pub an_image_for_join : content_in wanted.Told false (seen_in (codes "RVMC")) ≡ Some hint.Image
an_image_for_join = refl

pub texts_for_join : content_in wanted.Told false (seen_in (codes "start 1 of 2")) ≡ None
texts_for_join = refl

pub nothing_for_check : content_in wanted.Record false (seen_in []) ≡ Some (hint.Nothing wanted.Record)
nothing_for_check = refl

-- `run < farm.c` and `rvmc < farm.c`, whatever stands before the line that tells
pub c_for_run
    : content_in wanted.Image false (seen_in (codes "// a farm" ++ 10 ∷ codes "#include <mpi.h>")) ≡ Some hint.C
c_for_run = refl

pub c_for_rvmc : content_in wanted.Source false (seen_in (codes "#include <mpi.h>")) ≡ Some hint.C
c_for_rvmc = refl

-- a source of the assembler, to which that is a comment
pub no_c
    : content_in wanted.Image true (seen_in (codes "#include it" ++ 10 ∷ codes "nop")) ≡ Some (hint.Source wanted.Image)
no_c = refl

-- `run < farm.elf`
pub an_elf_file : content_in wanted.Image false (seen_in (127 ∷ codes "ELF" ++ 2 ∷ 1 ∷ [])) ≡ Some hint.Elf
an_elf_file = refl

-- a byte that is no text
pub other_for_one : content_in wanted.Image false (seen_in (104 ∷ 128 ∷ [])) ≡ None
other_for_one = refl

-- `--order 0` for four ranks
pub one_of_four : plans_in 4 1 None (Some (0 ∷ [])) ≡ Some (hint.Ranks 4)
one_of_four = refl

-- `--plan 3` for one hart
pub a_fourth_hart : plans_in 1 1 (Some (3 ∷ [])) None ≡ Some (hint.Harts 1)
a_fourth_hart = refl

pub all_are_named : plans_in 2 2 (Some (0 ∷ 1 ∷ [])) (Some (1 ∷ 0 ∷ 1 ∷ [])) ≡ None
all_are_named = refl

-- one character too many, missing, another, swapped; the same name; two slips
pub one_too_many : is_near (codes "mv") (codes "mov") ≡ true
one_too_many = refl

pub one_missing : is_near (codes "loop") (codes "lop") ≡ true
one_missing = refl

pub another : is_near (codes "add") (codes "adf") ≡ true
another = refl

pub swapped : is_near (codes "go") (codes "og") ≡ true
swapped = refl

pub the_same : is_near (codes "go") (codes "go") ≡ false
the_same = refl

pub two_slips : is_near (codes "add") (codes "sub") ≡ false
two_slips = refl

pub send_is_16 : call_number (codes "SEND") ≡ Some 16
unfolding call_number
send_is_16 = refl

pub a_file : is_file_name (codes "prog.s") ≡ true
a_file = refl

pub an_option_is_no_file : is_file_name (codes "--a.b") ≡ false
an_option_is_no_file = refl

pub rnu_is_run : command_near (codes "rnu") ≡ Some (codes "run")
rnu_is_run = refl

pub fly_is_none : command_near (codes "fly") ≡ None
fly_is_none = refl

pub ranks_of_mpiexec : is_rank_option (codes "-n") ≡ true
ranks_of_mpiexec = refl

-- bounds grow sixteenfold, up to the largest
pub next_budget : next_bound 1000000 ≡ Some 16000000
next_budget = refl

pub largest_budget : next_bound 16000000 ≡ Some 16777216
largest_budget = refl

pub no_larger_budget : next_bound 16777216 ≡ None
no_larger_budget = refl

-- words of a source: what GNU as calls otherwise, what begins nothing, and what makes a name a label
pub call_is_jal : here_for (codes "call") ≡ Some (codes "jal")
call_is_jal = refl

pub percent_begins_nothing : begins_nothing 37 ≡ true
percent_begins_nothing = refl

pub a_blank_is_a_sign : begins_nothing 32 ≡ false
a_blank_is_a_sign = refl

pub a_label : begins_with_colon (codes " : nop") ≡ true
a_label = refl

pub no_label : begins_with_colon (codes " a, b:") ≡ false
no_label = refl

-- a record of which only the first four bytes are there
pub a_short_record : short_in (codes "RVMR") ≡ Some (hint.Least 20)
a_short_record = refl
