use Rattle.std.proofs.Common.{◌≡◌, ◌+◌, ◌-◌, ◌*◌, ◌/◌, ◌%◌, ◌<◌, ◌∙◌, List, arith, sym, length, get_or, take, drop, ap}
use Rattle.std.proofs.lemmas.List.{get_or_default}
use Rattle.std.specs.Prelude.{ℕ, Option, None}
use Rattle.rv_memory.specs.Held.{page_bytes, all_bytes, shown, shown_page}
use Rattle.rv_memory.specs.Memory.{overwritten}
use Rattle.rv_memory.proofs.Paged.{all-slice}
use Rattle.rv_memory.proofs.Shown.{shown-length, shown-get}
use Rattle.rv_memory.proofs.pages.copy_page.Goals as goal

pub copy_part-requires : goal.copy_part-requires
copy_part-requires c = record {
  inside = omega (arith, c.min-end.ensures);
  room = omega (arith, c.min-end.ensures, c.requires.left);
}

pub returns : goal.returns
returns c =
    let slots : List (Option (List ℕ)) = c.args.pages.now in
    let pages : List (Option (List ℕ)) = shown c.args.text.now slots in
    let p : ℕ = (c.args.address + c.args.done) / 4096 in
    let at : ℕ = (c.args.address + c.args.done) % 4096 in
    let n : ℕ = c.min-end.result - c.args.done in
    let held : p < length slots = omega (arith, c.requires.inside, c.requires.left) in
    let inside : p < length pages = omega (arith, held, shown-length c.args.text.now slots) in
    let page : shown_page c.rest_of.result.now c.index-pages-number.result ≡ get_or pages p None =
    ap (λ rest. shown_page rest c.index-pages-number.result) c.rest_of.ensures ∙ ap (shown_page (drop (p * 4096) c.args.text.now)) (c.index-pages-number.is ∙ get_or_default slots p c.index-pages-number.result None held) ∙ sym (shown-get c.args.text.now slots p held) in
    let where_is : p * 4096 + at ≡ c.args.address + c.args.done = omega arith in
    let slice : take n (drop at (page_bytes (shown_page c.rest_of.result.now c.index-pages-number.result))) ≡ take n (drop (c.args.address + c.args.done) (all_bytes pages)) =
    ap (λ q. take n (drop at (page_bytes q))) page ∙ sym (all-slice pages p at n c.requires.whole inside (omega (arith, c.min-end.ensures))) ∙ ap (λ m. take n (drop m (all_bytes pages))) where_is in
    record {
      more = omega (arith, c.min-end.ensures, c.requires.left);
      end = omega (arith, c.min-end.ensures);
      bytes = c.copy_part.ensures ∙ ap (overwritten c.args.out.now c.args.done) slice;
    }
