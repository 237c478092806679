use Rattle.std.proofs.Common.{Bor, List, ℕ, sym, ◌∙◌}
use Rattle.rvmc_starts.proofs.RunSteps.{items_all, items_more, items_none}
use Rattle.rvmc_starts.proofs.turns.each_item.Goals as goal

pub returns-in_default : goal.returns-in_default
returns-in_default c =
    items_none (λ (text : Bor (List ℕ)). text.now) c.args.texts.now c.loop-text.text-index _ c.loop-text.items.items _ c.loop-text-test.true
    (sym c.in_ok-run.ensures ∙ c.in_default.is) c.loop-text.invariant

pub loop-text-preserved : goal.loop-text-preserved
loop-text-preserved c =
    rw c.in_ok-push_run.ensures
    (items_more (λ (text : Bor (List ℕ)). text.now) c.args.texts.now c.loop-text.text-index _ c.loop-text.items.items c.in-Some.run' _ c.loop-text-test.true
    (sym c.in_ok-run.ensures ∙ c.in-Some.is) c.loop-text.invariant)

pub returns : goal.returns
returns c =
    items_all (λ (text : Bor (List ℕ)). text.now) c.args.texts.now c.loop-text.text-index c.loop-text.items.items _ c.loop-text-test.false c.loop-text.invariant
