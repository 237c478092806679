use Rattle.std.proofs.Common.{◌≡◌, ◌∙◌, ◌+◌, ◌-◌, ◌*◌, ◌/◌, ◌≤◌, ℕ, List, length, take, drop, length-drop, replicate, ap, arith, rules}
use Rattle.std.proofs.lemmas.List.{take_all, length-replicate}
use Rattle.std.specs.Arc.{arc_slice_items}
use Rattle.std.specs.Prelude.{None, map}
use Rattle.rv_memory.specs.Held.{all_bytes, is_there, shown}
use Rattle.rv_memory.specs.Memory.{Memory, init_start, loaded_memory, overwritten}
use Rattle.rv_memory.specs.Pages.{written_pages}
use Rattle.rv_memory.proofs.Paged.{loaded-view}
use Rattle.rv_memory.proofs.Shown.{shown-whole, loaded-bytes, loaded-there, held-loaded}
use Rattle.rv_memory.proofs.memory.RankMemory.sharing.Goals as goal

pub write-requires-clause-whole : goal.write-requires-clause-whole
write-requires-clause-whole c =
    let text : List ℕ = c.in_ok-text.text in
    rw (c.in_ok-pages.ensures, c.as_slice-bytes.ensures) (shown-whole _ (length text / 4096) text (omega arith) (omega arith))

loaded : (c : goal.In_ok-write-2) → (record {
  bytes = all_bytes (shown (arc_slice_items c.args.text) c.write-2.new.pages.items);
  text = length (arc_slice_items c.args.text);
  pages = map is_there (shown (arc_slice_items c.args.text) c.write-2.new.pages.items);
}) ≡ loaded_memory c.args.size (arc_slice_items c.args.text) c.args.init.now
loaded c =
    let text : List ℕ = arc_slice_items c.args.text in
    let bytes : c.as_slice-bytes.result.now ≡ text = c.as_slice-bytes.ensures ∙ c.in_ok-text.ensures in
    let behind : (length text + 15) / 16 * 16 ≡ init_start text = search rules in
    let none = c.in_ok-pages.ensures in
    let n : ℕ = c.args.size / 4096 in
    let w : ℕ = length text / 4096 * 4096 in
    let tail : take (length text - w) (drop w text) ≡ drop w text = take_all (length text - w) (drop w text) (omega (arith, length-drop w text)) in
    let inside : length text ≤ n * 4096 = omega (arith, c.requires.whole, c.requires.room, behind) in
    let one : all_bytes (shown text c.write.new.pages.items) ≡ overwritten (all_bytes (replicate n None)) 0 text =
    rw (none, bytes, tail) at c.in_ok-write.ensures.bytes ∙ loaded-bytes n text inside in
    let there : map is_there (shown text c.write.new.pages.items) ≡ written_pages (map is_there (replicate n None)) 0 (length text) =
    rw (none, bytes, tail) at c.in_ok-write.ensures.there ∙ loaded-there n text inside in
    loaded-view c.args.size text c.args.init.now (shown text c.write.new.pages.items) (shown text c.write-2.new.pages.items) c.requires.whole c.requires.room
    one there (rw (bytes, behind) at c.in_ok-write-2.ensures.bytes) (rw (bytes, behind) at c.in_ok-write-2.ensures.there)

pub returns : goal.returns
returns c = rw c.in_ok-text.ensures (loaded c)

pub invariant_of-result : goal.invariant_of-result
invariant_of-result c =
    let text : List ℕ = arc_slice_items c.args.text in
    let bytes : c.as_slice-bytes.result.now ≡ text = c.as_slice-bytes.ensures ∙ c.in_ok-text.ensures in
    let behind : (length text + 15) / 16 * 16 ≡ init_start text = search rules in
    let long : length c.write-2.new.pages.items ≡ c.args.size / 4096 =
    c.in_ok-write-2.ensures.long ∙ c.in_ok-write.ensures.long ∙ ap length c.in_ok-pages.ensures ∙ length-replicate (c.args.size / 4096) None in
    rw c.in_ok-text.ensures (held-loaded c.args.size text c.args.init.now c.write-2.new.pages.items c.requires.least c.requires.most (omega (arith, c.requires.room, behind)) c.requires.whole
    (rw bytes at c.in_ok-write-2.ensures.whole) long (ap (λ (m : Memory). m.bytes) (loaded c)))
