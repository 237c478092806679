use Rattle.std.proofs.Common.{subst, sym, true, false, ◌≡◌, ◌∙◌}
use Rattle.rvmc_explore.specs.InnerOutcomes.{IsNew}
use Rattle.rvmc_explore.specs.Outcomes.{IsNeedOutcome, ListsNeed}
use Rattle.rvmc_explore.proofs.Needed.{now_listed, stays_listed}
use Rattle.rvmc_explore.proofs.Heard.{heard_more, need_inside, none_copied}
use Rattle.rvmc_explore.proofs.hearing.HearerListener.need.Goals as goal

pub new_need-requires : goal.new_need-requires
new_need-requires g c =
    need_inside c.args.image.now c.args._order.now c.args.nodes.now c.args.node c.args.ranks.now c.requires.need

-- nobody is told of them, where each send copies its message
pub returns-then-self : goal.returns-then-self
returns-then-self g c = record {
  holds = c.requires.holds;
  told = λ waits.
      let no : true ≡ false = sym c.if-self.true ∙ ((c.requires.holds).0 ∙ waits) in absurd (cc);
  still = λ was. was;
}

-- their text is told
pub returns-in_default : goal.returns-in_default
returns-in_default g c = record {
  holds = c.requires.holds;
  told = λ waits.
      subst (λ os. ListsNeed c.args.image.now c.args._order.now os) c.as_slice.ensures.value
      (rw c.in_default.is at (c.in_ok-outcome.ensures c.args._order.now c.requires.need));
  still = λ was. was;
}

pub returns : goal.returns
returns g c =
    let order = c.args._order.now in
    let image = c.args.image.now in
    let told = c.args.self.now.told.items in
    let outcome = c.in-Some.outcome in
    let one =
    subst (λ os. IsNew order image os outcome × IsNeedOutcome order image outcome) c.as_slice.ensures.value
    (rw c.in-Some.is at (c.in_ok-outcome.ensures order c.requires.need)) in
    record {
      holds = (
        (c.requires.holds).0,
        heard_more order image told c.push.new.self.items outcome
            one.0
            c.in_ok-push.ensures.items (c.requires.holds).1,
        none_copied g.K.Sends.buffered c.args.self.now.buffered c.push.new.self.items (c.requires.holds).0 c.if-self.false,
      );
      told = λ waits. now_listed image order told c.push.new.self.items outcome c.in_ok-push.ensures.items one.1;
      still = λ was waits. stays_listed image order told c.push.new.self.items outcome c.in_ok-push.ensures.items (was waits);
    }
