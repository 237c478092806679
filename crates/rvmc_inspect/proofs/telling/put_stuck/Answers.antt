use Rattle.std.proofs.Common.{List, ℕ, ◌∙◌, ◌++◌, ap, append_assoc, codes}
use Rattle.rvmc_report.specs.Report.{newline}
use Rattle.rvmc_inspect.specs.Why.{live_ranks, rank_names}
use Rattle.rvmc_inspect.proofs.telling.put_stuck.Goals as goal

pub returns : goal.returns
returns c =
    let old = c.args.text.now.items in
    let head = codes "deadlock: " in
    let more = rank_names (live_ranks c.args.state.now c.args.ranks.now) in
    let last = codes " while others run on" in
    c.in_ok-push.ensures.items
    ∙ ap (λ (t : List ℕ). t ++ newline) (c.in_ok-extend_from_slice-2.ensures.items
    ∙ ap (λ (t : List ℕ). t ++ last) (c.in_ok-put_live_ranks.ensures
    ∙ ap (λ (t : List ℕ). t ++ more) c.in_ok-extend_from_slice.ensures.items))
    ∙ (append_assoc ((old ++ head) ++ more) last newline
    ∙ (append_assoc (old ++ head) more (last ++ newline) ∙ append_assoc old head (more ++ (last ++ newline))))
