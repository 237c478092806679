use Rattle.std.proofs.Common.{ℕ, List, ◌≡◌, ◌∙◌, ◌++◌, ap, append_assoc, length, rules}
use Rattle.std.specs.Option.{option_map}
use Rattle.rvmc_inspect.specs.Unreceived.{unreceived_text}
use Rattle.rvmc_inspect.specs.Why.{all_harts_text, deadlock_verdict_text}
use Rattle.rvmc_inspect.proofs.telling.why.Goals as goal

pub returns : goal.returns
returns c =
    let state = c.args.state.now in
    let found = option_map (λ ranks. ranks.items) c.in_ok-found.found in
    let harts = all_harts_text c.args.framed c.args.image.now state in
    let messages = unreceived_text (length state.ranks.items) state.hub.board.lines in
    let verdict = deadlock_verdict_text state found in
    let count : c.len.result ≡ length state.ranks.items = search rules in
    let first : c.put_all_harts.new.text.items ≡ c.new-text.result.items ++ harts = c.in_ok-put_all_harts.ensures in
    let from : c.put_all_harts.new.text.items ≡ harts = first ∙ ap (λ (t : List ℕ). t ++ harts) c.new-text.ensures.items in
    let then : c.put_unreceived.new.text.items ≡ c.put_all_harts.new.text.items ++ unreceived_text c.len.result state.hub.board.lines =
    c.in_ok-put_unreceived.ensures in
    let last : c.put_verdict.new.text.items ≡ c.put_unreceived.new.text.items ++ verdict = c.in_ok-put_verdict.ensures in
    record {
      found = found;
      verdict = c.in_ok-found.ensures;
      is = last
          ∙ ap (λ (t : List ℕ). t ++ verdict)
          (then ∙ ap (λ (n : ℕ). c.put_all_harts.new.text.items ++ unreceived_text n state.hub.board.lines) count
          ∙ ap (λ (t : List ℕ). t ++ messages) from)
          ∙ append_assoc harts messages verdict;
    }
