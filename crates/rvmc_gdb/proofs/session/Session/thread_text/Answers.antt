use Rattle.std.proofs.Common.{◌∙◌, subst, sym}
use Rattle.std.specs.Prelude.{option_map}
use Rattle.rvmc_gdb.proofs.Methods.{hart_told}
use Rattle.rvmc_gdb.specs.Shown.{TellsHart}
use Rattle.rvmc_gdb.proofs.session.Session.thread_text.Goals as goal

pub returns : goal.returns
returns c =
    subst (λ o. TellsHart c.args.self.now o c.in_ok-digits_or_refused.field-0.items) (sym c.in-Some.is ∙ c.who_of.ensures)
    (hart_told _ _ c.in-Some.who (option_map (λ t. t.items) c.in_ok-found.found) _ c.self.view_is c.in_ok-found.ensures
    c.in_ok-digits_or_refused.ensures)
