use Rattle.std.proofs.Common.{◌≡◌, ◌∙◌, ◌≤◌, List, arith, length, drop, append-nil, length-drop}
use Rattle.std.proofs.lemmas.List.{drop_all, drop-drop}
use Rattle.std.specs.Prelude.{ℕ}
use Rattle.rv_memory.specs.Held.{all_bytes, shown}
use Rattle.rv_memory.proofs.Paged.{copied-more}
use Rattle.rv_memory.proofs.Shown.{shown-all}
use Rattle.rv_memory.proofs.pages.copy.Goals as goal

pub loop-done-preserved : goal.loop-done-preserved
loop-done-preserved c =
    let source : List ℕ = drop c.args.address (all_bytes (shown c.args.text.now c.args.pages.now)) in
    let long : length c.args.out.now ≤ length source = omega (arith, length-drop c.args.address (all_bytes (shown c.args.text.now c.args.pages.now)), shown-all c.args.text.now c.args.pages.now c.requires.whole, c.requires.inside) in
    let now = c.copy_page-done.ensures in
    let end : c.copy_page-done.result ≤ length c.args.out.now = omega (arith, now.end, c.loop-done.auto.out) in
    record {
      bytes = now.bytes ∙ rw (c.loop-done.invariant.bytes, ← drop-drop c.loop-done.done c.args.address (all_bytes (shown c.args.text.now c.args.pages.now)))
          (copied-more source c.args.out.now c.loop-done.done c.copy_page-done.result (omega (arith, now.more)) (omega (arith, long, end)) end);
      inside = end;
    }

pub returns : goal.returns
returns c =
    let all : c.loop-done.done ≡ length c.args.out.now = omega (arith, c.loop-done.invariant.inside, c.loop-done-test.false, c.loop-done.auto.out) in
    c.loop-done.invariant.bytes ∙ rw (drop_all c.loop-done.done c.args.out.now (omega (arith, all)), all) (append-nil _)
