-- A small rank of 2, its one hart at an ECALL.
use Rattle.std.specs.Prelude.{ℕ, List, [], ◌∷◌, ◌++◌, replicate, take, Bool, true}
use Rattle.rv_memory.specs.Memory.{Memory}
use Rattle.rv_hart.specs.State.{State}
use Rattle.rv_hart.specs.declared.state.Mode.TheVariants.{Running}
use Rattle.rv_image_types.specs.declared.images.ImageVersion.TheVariants.{One}
use Rattle.cl_calls.specs.declared.sites.Site.{Site}
use Rattle.mp_request.specs.Table.{no_requests}
use Rattle.cl_state.specs.Rank.{Rank}

-- rank 0 of 2, without links, of an image of version 1
abbrev pub first_of_two : Site
first_of_two = record { number = 0; ranks = 2; comms = (0 ∷ 1 ∷ []) ∷ []; links = []; version = One }

-- the one page of a small memory is there
abbrev pub one_page : List Bool
one_page = true ∷ []

-- 8 bytes of text, the second word ECALL's, and 56 bytes of data that begin with "hi\n"
abbrev pub small_memory : Memory
small_memory = record {
  bytes = 0 ∷ 0 ∷ 0 ∷ 0 ∷ 0x73 ∷ 0 ∷ 0 ∷ 0 ∷ 104 ∷ 105 ∷ 10 ∷ replicate 53 9;
  text = 8;
  pages = one_page;
}

-- a hart at the ECALL, with a0 to a5 and the call's number in a7
abbrev pub calling : List ℕ → ℕ → State
calling arguments number =
    record {
      regs = replicate 10 0 ++ take 7 (arguments ++ replicate 7 0) ++ number ∷ replicate 14 0;
      pc = 4;
      mode = Running;
    }

abbrev pub guest : List ℕ → ℕ → Rank
guest arguments number = record {
  site = first_of_two;
  memory = small_memory;
  harts = calling arguments number ∷ [];
  requests = no_requests;
  phases = [];
  out = [];
  clock = 8;
}

-- SEND of the 2 bytes at 9 to rank 1, tag 7
abbrev pub send : Rank
send = guest (9 ∷ 2 ∷ 1 ∷ 7 ∷ 0 ∷ []) 16
