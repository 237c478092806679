use Rattle.std.proofs.Common.{[], ℕ, List, length, subst, true, ◌+◌, ◌≡◌, sym, false, ◌∙◌}
use Rattle.std.specs.Io.KnownBytes.{Appends}
use Rattle.rvmc_explore.specs.InnerOutcomes.{IsNew}
use Rattle.rvmc_explore.specs.Telling.{AddsOutcome}
use Rattle.rvmc_explore.specs.Outcomes.{IsNeedOutcome, ListsNeed}
use Rattle.rvmc_explore.proofs.Needed.{now_listed, stays_listed}
use Rattle.rvmc_explore.proofs.Heard.{heard_more, need_inside, none_copied, one_told_more}
use Rattle.rvmc_explore.proofs.teller.TellerListener.need.Goals as goal

pub new_need-requires : goal.new_need-requires
new_need-requires g c =
    need_inside c.args.image.now c.args._order.now c.args.nodes.now c.args.node c.args.ranks.now c.requires.need

-- nobody is told of them, where each send copies its message
pub returns-then-self : goal.returns-then-self
returns-then-self g c = record {
  holds = c.requires.holds;
  told = λ waits.
      let no : true ≡ false = sym c.if-self.true ∙ ((c.requires.holds).1 ∙ waits) in absurd (cc);
  still = λ was. was;
}

-- their text is told
pub returns-in_default : goal.returns-in_default
returns-in_default g c = record {
  holds = c.requires.holds;
  told = λ waits.
      subst (λ os. ListsNeed c.args.image.now c.args._order.now os) c.as_slice.ensures.value
      (rw c.in_default.is at (c.in_ok-outcome.ensures c.args._order.now c.requires.need));
  still = λ was. was;
}

pub returns : goal.returns
returns g c =
    let order = c.args._order.now in
    let image = c.args.image.now in
    let told = c.args.self.now.told.items in
    let new = c.push.new.self.items in
    let outcome = c.in-Some.outcome in
    let one =
    subst (λ os. IsNew order image os outcome × IsNeedOutcome order image outcome) c.as_slice.ensures.value
    (rw c.in-Some.is at (c.in_ok-outcome.ensures order c.requires.need)) in
    let piece = c.in_ok-text.text.items in
    record {
      holds = (
        (c.requires.holds).0,
        (c.requires.holds).1,
        heard_more order image told new outcome
            one.0
            c.in_ok-push.ensures.items (c.requires.holds).2,
        none_copied g.K.Sends.buffered c.args.self.now.buffered new (c.requires.holds).1 c.if-self.false,
        one_told_more told new outcome c.args.self.now.taken c.put_behind-self.result g.K.Outset.before
            (g.O.Write.contents c.args.self.now.out.now) (g.O.Write.contents c.put_behind-self.new.out) piece
            c.in_ok-push.ensures.items
            (subst (λ os. AddsOutcome (length os + 1) outcome [] piece) c.as_slice-2.ensures.value c.in_ok-text.ensures)
            (subst (λ (text : List ℕ). c.put_behind-self.result ≡ true → (c.args.self.now.taken ≡ true)
            × Appends (g.O.Write.contents c.args.self.now.out.now) (g.O.Write.contents c.put_behind-self.new.out) text)
            c.as_slice-3.ensures.value c.put_behind-self.ensures)
            (c.requires.holds).4,
      );
      told = λ waits. now_listed image order told new outcome c.in_ok-push.ensures.items one.1;
      still = λ was waits. stays_listed image order told new outcome c.in_ok-push.ensures.items (was waits);
    }
