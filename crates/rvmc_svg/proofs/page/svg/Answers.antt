use Rattle.std.specs.List.{flat_map}
use Rattle.std.proofs.Common.{◌∙◌, ◌++◌, ap}
use Rattle.rvmc_svg.specs.Adding.{safe_one}
use Rattle.rvmc_svg.proofs.Shown.{page_safe}
use Rattle.rvmc_svg.proofs.page.svg.Goals as goal

-- each byte is made safe, and what stands in the page stays there
pub returns-clause-shown : goal.returns-clause-shown
returns-clause-shown c =
    page_safe c.args.drawing.now c.in_ok-page.page.items c.put_safe.new.text.items
    (c.in_ok-put_safe.ensures
    ∙ ap (λ l. l ++ flat_map safe_one c.as_slice.result.now) c.new-text.ensures.items
    ∙ ap (flat_map safe_one) c.as_slice.ensures.value) c.in_ok-page.ensures
