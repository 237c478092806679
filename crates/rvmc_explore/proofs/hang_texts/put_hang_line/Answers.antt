use Rattle.std.proofs.Common.{◌≡◌, ◌∙◌, ◌++◌, ap, append_assoc, rules}
use Rattle.std.specs.Prelude.{codes}
use Rattle.rvmc_report.specs.Report.{newline}
use Rattle.rvmc_inspect.specs.Why.{live_ranks, rank_names}
use Rattle.rvmc_explore.proofs.hang_texts.put_hang_line.Goals as goal

pub returns : goal.returns
returns c =
    let old = c.args.text.now.items in
    let head = codes "some runs go on for ever if sends wait: " in
    let more = rank_names (live_ranks c.args.state.now c.args.ranks.now) in
    let first : c.extend_from_slice.new.self.items ≡ old ++ head = c.in_ok-extend_from_slice.ensures.items in
    let then : c.put_live_ranks.new.text.items ≡ c.extend_from_slice.new.self.items ++ more = c.in_ok-put_live_ranks.ensures in
    let last : c.push.new.self.items ≡ c.put_live_ranks.new.text.items ++ newline = search rules in
    last ∙ ap (λ t. t ++ newline) (then ∙ ap (λ t. t ++ more) first) ∙ append_assoc (old ++ head) more newline
    ∙ append_assoc old head (more ++ newline)
