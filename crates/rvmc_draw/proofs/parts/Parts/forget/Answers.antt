use Rattle.std.proofs.Common.{◌∙◌, ap, rules, sym}
use Rattle.std.proofs.lemmas.Fn.{filter_same}
use Rattle.rvmc_draw.specs.Held.{untaken_without}
use Rattle.rvmc_draw.proofs.parts.Parts.forget.Goals as goal

pub returns-in-Some-clause-untaken : goal.returns-in-Some-clause-untaken
returns-in-Some-clause-untaken c =
    filter_same _ _ _ (λ x b f' k. search rules) _ _ c.retain.ensures.filtered
    ∙ ap (untaken_without c.args.self.now.untaken.items) (sym c.in-Some.is)
