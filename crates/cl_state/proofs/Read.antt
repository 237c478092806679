-- A turn is read by the mode of its hart, and a running one's by its word.
use Rattle.std.proofs.Common.{◌≡◌, ◌∙◌, Bool, ap}
use Rattle.std.specs.Prelude.{if◌then◌else◌}
use Rattle.rv_hart.specs.declared.state.Mode.{Mode}
use Rattle.rv_hart.specs.declared.state.Mode.TheVariants.{Running}
use Rattle.rv_memory.specs.Access.{word_at}
use Rattle.cl_calls.specs.declared.sites.Site.{Site}
use Rattle.cl_state.specs.declared.asking.Doing.TheVariants.{Step}
use Rattle.cl_state.specs.Asked.{Part, checked, doing, doing_in, is_ecall}

pub read_by_mode : (m : Mode) (site : Site) (part : Part) → m ≡ part.hart.mode → doing_in m site part ≡ doing site part
unfolding doing
read_by_mode m site part is = ap (λ n. doing_in n site part) is

pub read_by_word : (b : Bool) (site : Site) (part : Part) → b ≡ is_ecall (word_at part.memory part.hart.pc)
    → Running ≡ part.hart.mode → (if b then checked site part else Step) ≡ doing site part
read_by_word b site part tells is =
    ap (λ (k : Bool). if k then checked site part else Step) tells ∙ read_by_mode Running site part is
