use Rattle.std.proofs.Common.{rules, ◌≡◌, ◌++◌, ◌∙◌, sym, ap}
use Rattle.rvmc_starts.specs.Joining.{told_texts}
use Rattle.rvmc_starts.proofs.Shapes.{joined_is}
use Rattle.rvmc_starts.proofs.Steps.{list_any_map}
use Rattle.rvmc_starts.proofs.joining.join_used.Goals as goal

pub returns-clause-text : goal.returns-clause-text
returns-clause-text c =
    let told : c.put_all_told.new.text.items ≡ told_texts 1 c.in_ok-ends.ends.items =
    c.in_ok-put_all_told.ensures
    ∙ (ap (λ old. old ++ told_texts 1 c.deref.result.now) c.new-text.ensures.items ∙ ap (told_texts 1) c.deref.ensures.value) in
    joined_is _ c.args.count c.args.lacking c.in_ok-ends.ends.items c.put_all_told.new.text.items c.put_unending.new.text.items _ c.as_bytes.result.now
    c.any_unending.result c.all_states.result c.in_ok-ends.ensures (c.any_unending.ensures ∙ sym (list_any_map _ _ c.args.parts.now)) c.all_states.ensures
    told c.in_ok-put_unending.ensures (c.as_bytes.ensures.value ∙ (c.in_ok-last.ensures ∙ search rules)) c.in_ok-extend_from_slice.ensures.items
