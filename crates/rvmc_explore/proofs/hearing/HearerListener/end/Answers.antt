use Rattle.std.proofs.Common.{subst}
use Rattle.rvmc_explore.specs.InnerOutcomes.{IsNew}
use Rattle.rvmc_explore.proofs.Needed.{stays_listed}
use Rattle.rvmc_explore.proofs.Heard.{heard_more, none_needed_more}
use Rattle.rvmc_explore.proofs.hearing.HearerListener.end.Goals as goal

pub returns : goal.returns
returns g c =
    let order = c.args.order.now in
    let image = c.args.image.now in
    let told = c.args.self.now.told.items in
    let outcome = c.in-Some.outcome in
    record {
      holds = (
        (c.requires.holds).0,
        heard_more order image told c.push.new.self.items outcome
            (subst (λ os. IsNew order image os outcome) c.as_slice.ensures.value
            (rw c.in-Some.is at c.in_ok-outcome.ensures.new))
            c.in_ok-push.ensures.items (c.requires.holds).1,
        none_needed_more g.K.Sends.buffered told c.push.new.self.items outcome
            (rw c.in-Some.is at c.in_ok-outcome.ensures.no_need) c.in_ok-push.ensures.items (c.requires.holds).2,
      );
      still = λ was waits. stays_listed image order told c.push.new.self.items outcome c.in_ok-push.ensures.items (was waits);
    }
