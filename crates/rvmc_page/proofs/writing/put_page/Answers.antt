use Rattle.std.proofs.Common.{arith, refl, rules}
use Rattle.std.specs.Prelude.{◌≡◌, IfErr, max}
use Rattle.std.specs.Io.KnownBytes.{Appends}
use Rattle.rvmc_page.specs.Written.{view_to}
use Rattle.rvmc_changes.specs.Below.replay as faults
use Rattle.rvmc_page.proofs.Written.{begun_so_far, left_for_memory, written_all}
use Rattle.rvmc_page.proofs.writing.put_page.Goals as goal

pub returns-in_err-put_behind-clause-left : goal.returns-in_err-put_behind-clause-left
returns-in_err-put_behind-clause-left g c =
    let page = c.args.page.now in
    let memory : IfErr c.from_residual-in_err-put_behind.result (λ fault. fault ≡ faults.Memory) = search rules in
    left_for_memory c.args.image.now c.args.steps.now (view_to page.from c.args.to) _ _ _
    c.from_residual-in_err-put_behind.result memory
    (begun_so_far c.args.image.now c.args.steps.now (view_to page.from c.args.to) page (max page.from c.args.to)
    c.put_steps.new.state c.put_steps.new.text.items _ _ (c.in_ok-put_steps.ensures.written (search rules)) (omega arith)
    (omega arith))

pub returns-clause-page : goal.returns-clause-page
returns-clause-page g c = λ ok.
    let page = c.args.page.now in
    let wrote : Appends (g.W.Write.contents c.put_steps.new.out) (g.W.Write.contents c.write_all.new.self) c.put_behind.new.text.items =
    search rules in
    written_all c.args.image.now c.args.steps.now (view_to page.from c.args.to) page (max page.from c.args.to)
    c.put_steps.new.state c.put_steps.new.text.items _ _ (c.in_ok-put_steps.ensures.written (search rules)) (omega arith)
    refl c.put_behind.new.text.items c.in_ok-put_behind.ensures _ wrote
