use Rattle.std.proofs.Common.{[], ℕ, List, length, subst, true, ◌+◌, ◌≡◌}
use Rattle.std.specs.Io.KnownBytes.{Appends}
use Rattle.rvmc_explore.specs.InnerOutcomes.{IsNew}
use Rattle.rvmc_explore.specs.Telling.{AddsOutcome}
use Rattle.rvmc_explore.proofs.Needed.{stays_listed}
use Rattle.rvmc_explore.proofs.Heard.{heard_more, none_needed_more, one_told_more}
use Rattle.rvmc_explore.proofs.teller.TellerListener.end.Goals as goal

pub returns : goal.returns
returns g c =
    let order = c.args.order.now in
    let image = c.args.image.now in
    let told = c.args.self.now.told.items in
    let new = c.push.new.self.items in
    let outcome = c.in-Some.outcome in
    let piece = c.in_ok-text.text.items in
    record {
      holds = (
        (c.requires.holds).0,
        (c.requires.holds).1,
        heard_more order image told new outcome
            (subst (λ os. IsNew order image os outcome) c.as_slice.ensures.value (rw c.in-Some.is at c.in_ok-outcome.ensures.new))
            c.in_ok-push.ensures.items (c.requires.holds).2,
        none_needed_more g.K.Sends.buffered told new outcome (rw c.in-Some.is at c.in_ok-outcome.ensures.no_need)
            c.in_ok-push.ensures.items (c.requires.holds).3,
        one_told_more told new outcome c.args.self.now.taken c.put_behind-self.result g.K.Outset.before
            (g.O.Write.contents c.args.self.now.out.now) (g.O.Write.contents c.put_behind-self.new.out) piece
            c.in_ok-push.ensures.items
            (subst (λ os. AddsOutcome (length os + 1) outcome [] piece) c.as_slice-2.ensures.value c.in_ok-text.ensures)
            (subst (λ (text : List ℕ). c.put_behind-self.result ≡ true → (c.args.self.now.taken ≡ true)
            × Appends (g.O.Write.contents c.args.self.now.out.now) (g.O.Write.contents c.put_behind-self.new.out) text)
            c.as_slice-3.ensures.value c.put_behind-self.ensures)
            (c.requires.holds).4,
      );
      still = λ was waits. stays_listed image order told new outcome c.in_ok-push.ensures.items (was waits);
    }
