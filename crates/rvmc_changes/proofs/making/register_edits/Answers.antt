use Rattle.std.proofs.Common.{◌≡◌, ◌∙◌, ◌++◌, List, ℕ, ap, sym, subst, arith}
use Rattle.std.specs.Prelude.{map}
use Rattle.std.specs.List.{range_with_len}
use Rattle.rv_hart.specs.State.{read}
use Rattle.rvmc_changes.specs.Edits.{edits_from}
use Rattle.rvmc_changes.specs.Walking.{edit_at}
use Rattle.rvmc_changes.specs.declared.edits.Edit.{Edit}
use Rattle.rvmc_changes.proofs.Compared.{edits_map}
use Rattle.rvmc_changes.proofs.making.register_edits.Goals as goal

pub loop-number-preserved : goal.loop-number-preserved
loop-number-preserved c =
    let n = c.loop-number.number in
    let old = read c.args.old.now in
    let new = read c.args.new.now in
    let old_is : c.get.result ≡ old n = c.get.ensures ∙ ap old c.new-register.ensures in
    let new_is : c.get-in-loop-number.result ≡ new n = c.get-in-loop-number.ensures ∙ ap new c.new-register.ensures in
    c.in_ok-put_edit.ensures
    ∙ ap (λ (l : List Edit). l ++ edit_at c.from.result c.get.result c.get-in-loop-number.result) c.loop-number.invariant
    ∙ (λ i. edits_from 0 (map old (range_with_len 0 n)) (map new (range_with_len 0 n))
    ++ edit_at (c.from.ensures i) (old_is i) (new_is i))
    ∙ sym (edits_map old new n)

pub returns : goal.returns
returns c =
    let all : c.loop-number.number ≡ 32 = omega arith in
    subst (λ (n : ℕ). c.loop-number.edits.items ≡ edits_from 0 (map (read c.args.old.now) (range_with_len 0 n))
    (map (read c.args.new.now) (range_with_len 0 n))) all c.loop-number.invariant
