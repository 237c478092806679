use Rattle.std.proofs.Common.{◌+◌, ◌∙◌, ◌≤◌, List, arith, sym, refl, length, ap}
use Rattle.std.proofs.lemmas.List.{take_all}
use Rattle.std.specs.Prelude.{ℕ}
use Rattle.rv_memory.specs.Held.{all_bytes, shown}
use Rattle.rv_memory.specs.Memory.{overwritten}
use Rattle.rv_memory.proofs.Marked.{overwritten-none}
use Rattle.rv_memory.proofs.Paged.{overwritten-more}
use Rattle.rv_memory.proofs.Shown.{shown-all}
use Rattle.rv_memory.proofs.pages.fill.Goals as goal

pub loop-done-init : goal.loop-done-init
loop-done-init c = record {
  bytes = sym (overwritten-none (all_bytes (shown c.args.text.now c.args.pages.now.items)) c.args.address);
  there = refl;
  whole = c.requires.whole;
  long = refl;
  inside = omega arith;
}

pub loop-done-preserved : goal.loop-done-preserved
loop-done-preserved c =
    let first : List ℕ = all_bytes (shown c.args.text.now c.args.pages.now.items) in
    let room : c.args.address + c.loop-done.done ≤ length first = omega (arith, shown-all c.args.text.now c.args.pages.now.items c.requires.whole, c.requires.inside, c.loop-done.invariant.inside) in
    let now = c.fill_page-done.ensures in
    record {
      bytes = now.bytes ∙ rw c.loop-done.invariant.bytes (overwritten-more first c.args.bytes.now c.args.address c.loop-done.done c.fill_page-done.result (omega (arith, now.more)) now.end room);
      there = now.there ∙ c.loop-done.invariant.there;
      whole = now.whole;
      long = now.long ∙ c.loop-done.invariant.long;
      inside = now.end;
    }

pub returns : goal.returns
returns c =
    record {
      bytes = c.loop-done.invariant.bytes ∙ ap (overwritten (all_bytes (shown c.args.text.now c.args.pages.now.items)) c.args.address) (take_all c.loop-done.done c.args.bytes.now c.loop-done-test.false);
      there = c.loop-done.invariant.there;
      whole = c.loop-done.invariant.whole;
      long = c.loop-done.invariant.long;
    }
