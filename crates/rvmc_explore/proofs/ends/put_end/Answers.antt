use Rattle.std.proofs.Common.{List, ℕ, ◌≡◌, ◌∙◌, ◌++◌, ap, append_assoc, rules}
use Rattle.rvmc_explore.specs.Ends.{end_ranks_text}
use Rattle.rvmc_explore.proofs.ends.put_end.Goals as goal

pub returns : goal.returns
returns c =
    let old = c.args.text.now.items in
    let ranks = end_ranks_text c.args.order.now c.args.state.now.ranks.items in
    let waiting = c.in_ok-waiting.waiting.items in
    let first : c.put_ranks.new.text.items ≡ old ++ ranks = search rules in
    let last : c.extend_from_slice.new.self.items ≡ c.put_ranks.new.text.items ++ waiting = search rules in
    record {
      waiting = waiting;
      told = c.in_ok-waiting.ensures;
      spelled = last ∙ ap (λ (t : List ℕ). t ++ waiting) first ∙ append_assoc old ranks waiting;
    }
