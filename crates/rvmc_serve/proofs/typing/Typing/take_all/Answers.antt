use Rattle.std.proofs.Common.{◌++◌, List, ℕ, get_or, subst, sym, take}
use Rattle.std.proofs.lemmas.List.{take_more}
use Rattle.std.proofs.lemmas.Result.{err_from_is_err_and}
use Rattle.rvmc_gdb.proofs.Walks.{more}
use Rattle.rvmc_serve.proofs.Heard.{some_before}
use Rattle.rvmc_serve.proofs.Hearing.{appended_then, cut_by}
use Rattle.rvmc_serve.specs.Typing.{Takes, TakesAll}
use Rattle.rvmc_serve.proofs.typing.Typing.take_all.Goals as goal

pub loop-byte-preserved : goal.loop-byte-preserved
loop-byte-preserved g c =
    let bytes = c.args.bytes.now in
    let i = c.loop-byte.byte-index in
    let old = c.args.self.now in
    let so_far = c.loop-byte.invariant in
    let one = c.in_ok-take.ensures.takes in
    let all = more Takes old (take i bytes) (get_or bytes i 0) c.loop-byte.self c.take.new.self so_far.0 one.0 so_far.1 one.1 in (
      so_far.0 ++ one.0,
      subst (λ (bs : List ℕ). TakesAll old bs c.take.new.self (so_far.0 ++ one.0)) (sym (take_more bytes i 0 c.loop-byte-test.true)) all,
      appended_then _ _ _ so_far.0 one.0 so_far.2 one.2,
    )

-- the bytes before are taken
pub returns-in_err-take-clause-cut : goal.returns-in_err-take-clause-cut
returns-in_err-take-clause-cut g c =
    let p = err_from_is_err_and c.from_residual.result c.from_residual.ensures.1 in
    let so_far = c.loop-byte.invariant in
    rw (p.1, p.2)
    (cut_by _ _ _ (some_before c.args.self.now _ c.args.bytes.now c.loop-byte.byte-index _ _ _ so_far.0 so_far.1 so_far.2)
    c.in_err-take.ensures.cut)
