-- The run of an image from the loaded cluster on.
use Rattle.std.specs.List.Sorted.{IsStrictlySortedBy}
use Rattle.std.proofs.Common.{refl, arith}
use Rattle.std.proofs.lemmas.List.Elements.{All-nil}
use Rattle.rv_image_types.specs.Image.{IsImage}
use Rattle.rv_decode.specs.Decoded.{decoded}
use Rattle.rv_hart.specs.Effect.{gives}
use Rattle.rv_hart.specs.Results.{imm_result}
use Rattle.rv_hart.specs.Stepped.{stepped}
use Rattle.cl_state.specs.Asked.{asked, doing}
use Rattle.cl_state.specs.Rank.{loaded}
use Rattle.cl_state.specs.Told.{told, returned}
use Rattle.cl_machine.specs.LoadedRun.{LoadedRow, ending}

ending_is_image : IsImage ending
unfolding IsStrictlySortedBy
ending_is_image = record {
  has_ranks = omega arith;
  few_ranks = omega arith;
  has_harts = omega arith;
  few_harts = omega arith;
  least_memory = omega arith;
  most_memory = omega arith;
  whole_pages = refl;
  stacks_fit = omega arith;
  has_text = omega arith;
  whole_words = refl;
  text_fits = omega arith;
  init_fits = omega arith;
  entry_aligned = refl;
  entry_in_text = omega arith;
  few_comms = omega arith;
  comms = All-nil _;
  few_links = omega arith;
  links = All-nil _;
  few_symbols = omega arith;
  symbols = All-nil _;
  rising = tt;
}

pub loaded_run : LoadedRow
unfolding asked told doing returned stepped decoded gives imm_result
loaded_run = (
  ending_is_image,
  (
    _,
    (
      _,
      (loaded ending 0, refl, omega arith, omega arith, (refl, refl, refl)),
      (_, (_, refl, omega arith, omega arith, (refl, refl, refl)), (_, (_, refl, omega arith, omega arith, (refl, refl, refl)), refl)),
    ),
    refl,
  ),
)
