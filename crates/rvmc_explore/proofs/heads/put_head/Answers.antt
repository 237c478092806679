use Rattle.std.proofs.Common.{List, ℕ, ◌≡◌, ◌∙◌, ◌++◌, ap, append_assoc, rules}
use Rattle.rvmc_report.specs.Report.{newline}
use Rattle.rvmc_explore.specs.Telling.{outcome_number}
use Rattle.rvmc_explore.proofs.heads.put_head.Goals as goal

pub returns : goal.returns
returns c =
    let old = c.args.text.now.items in
    let name = outcome_number c.args.number in
    let other = c.in_ok-other.other.items in
    let first : c.extend_from_slice.new.self.items ≡ old ++ name = search rules in
    let then : c.extend_from_slice-2.new.self.items ≡ c.extend_from_slice.new.self.items ++ other = search rules in
    let last : c.push.new.self.items ≡ c.extend_from_slice-2.new.self.items ++ newline = search rules in (
      other,
      last ∙ ap (λ (t : List ℕ). t ++ newline) (then ∙ ap (λ (t : List ℕ). t ++ other) first)
          ∙ append_assoc (old ++ name) other newline ∙ append_assoc old name (other ++ newline),
    )
