use Rattle.std.proofs.Common.{◌≡◌, ◌∙◌, ◌+◌, ◌++◌, ◌∷◌, [], List, ℕ, ap, sym, arith}
use Rattle.std.specs.Prelude.{map}
use Rattle.std.specs.List.{range_with_len}
use Rattle.std.proofs.lemmas.List.FromFn.{map-range_with_len_more}
use Rattle.rv_hart.specs.State.{read}
use Rattle.rvmc_changes.proofs.starts.registers_of.Goals as goal

pub loop-number-preserved : goal.loop-number-preserved
loop-number-preserved c =
    let n = c.loop-number.number in
    let here : 0 + n ≡ n = omega arith in
    let value : c.get.result ≡ read c.args.hart.now n = c.get.ensures ∙ ap (read c.args.hart.now) c.new.ensures in
    c.in_ok-push.ensures.items
    ∙ ap (λ (l : List ℕ). l ++ c.get.result ∷ []) c.loop-number.invariant
    ∙ ap (λ v. map (read c.args.hart.now) (range_with_len 0 n) ++ v ∷ []) value
    ∙ sym (map-range_with_len_more (read c.args.hart.now) 0 n n here)
