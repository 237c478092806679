-- The bytes go into the page that has their addresses.
use Rattle.std.proofs.Common.{◌≡◌, ◌+◌, ◌-◌, ◌*◌, ◌/◌, ◌%◌, ◌<◌, ◌≤◌, ◌∙◌, List, arith, sym, length, get_or, take, drop, ap, zero-add, length-drop}
use Rattle.std.proofs.Math.ListN.{set}
use Rattle.std.proofs.lemmas.List.{length-map, length-set, map-set, set-get_or, get_or_default, length-take-le}
use Rattle.std.specs.Prelude.{ℕ, Bool, Option, None, map}
use Rattle.rv_memory.specs.MorePages.{missing_pages}
use Rattle.rv_memory.specs.Held.{is_there, page_bytes, all_bytes, shown}
use Rattle.rv_memory.specs.Memory.{overwritten}
use Rattle.rv_memory.proofs.Marked.{missing-there, touches-in}
use Rattle.rv_memory.proofs.Paged.{there-get, whole-set, all-put}
use Rattle.rv_memory.proofs.Shown.{shown-length, shown-get, shown-set, shown_page-behind}
use Rattle.rv_memory.proofs.pages.fill_page.Goals as goal

present-page : (pages : List (Option (List ℕ))) (a n d : ℕ) → missing_pages (map is_there pages) a n ≡ 0 → d < n → (a + d) / 4096 < length pages
    → get_or (map is_there pages) ((a + d) / 4096) Bool.true ≡ Bool.true
present-page pages a n d none left inside =
    let shorter : (a + d) / 4096 < length (map is_there pages) = omega (arith, inside, length-map pages is_there) in
    let z : 0 + (a + d) / 4096 ≡ (a + d) / 4096 = zero-add ((a + d) / 4096) in
    get_or_default (map is_there pages) ((a + d) / 4096) Bool.true Bool.false shorter
    ∙ missing-there 0 ((a + d) / 4096) (map is_there pages) a n none shorter (rw z (touches-in a n ((a + d) / 4096) (omega (arith, left)) (omega (arith, left)) (omega arith)))

behind-text : (text : List ℕ) (a d : ℕ) → length text / 4096 * 4096 ≤ a → length text < ((a + d) / 4096 + 1) * 4096
behind-text text a d p = omega (arith, p)

-- a page behind the text is held where it is there
held-page : (text : List ℕ) (slots : List (Option (List ℕ))) (p : ℕ) (page : Option (List ℕ)) → length text < (p + 1) * 4096 → p < length slots
    → page ≡ get_or slots p page → page ≡ get_or (shown text slots) p None
held-page text slots p page behind inside is =
    is ∙ get_or_default slots p page None inside ∙ sym (shown-get text slots p inside ∙ shown_page-behind text p (get_or slots p None) behind)

pub put_in-requires : goal.put_in-requires
put_in-requires c =
    let slots : List (Option (List ℕ)) = c.args.pages.now.items in
    let pages : List (Option (List ℕ)) = shown c.args.text.now slots in
    let p : ℕ = (c.args.address + c.args.done) / 4096 in
    let held : p < length slots = omega (arith, c.requires.inside, c.requires.left) in
    let inside : p < length pages = omega (arith, held, shown-length c.args.text.now slots) in
    let long : length (take (c.min-end.result - c.args.done) (drop c.args.done c.args.bytes.now)) ≡ c.min-end.result - c.args.done =
    length-take-le (c.min-end.result - c.args.done) (drop c.args.done c.args.bytes.now) (omega (arith, length-drop c.args.done c.args.bytes.now, c.min-end.ensures)) in
    let page : c.index_mut.result.now ≡ get_or pages p None =
    held-page c.args.text.now slots p c.index_mut.result.now (behind-text c.args.text.now c.args.address c.args.done c.requires.behind) held c.index_mut.ensures.value in
    record {
      inside = omega (arith, long, c.min-end.ensures);
      there = ap is_there page ∙ sym (there-get pages p) ∙ get_or_default (map is_there pages) p Bool.false Bool.true (omega (arith, inside, length-map pages is_there))
          ∙ present-page pages c.args.address (length c.args.bytes.now) c.args.done c.requires.present c.requires.left inside;
    }

pub returns : goal.returns
returns c =
    let slots : List (Option (List ℕ)) = c.args.pages.now.items in
    let pages : List (Option (List ℕ)) = shown c.args.text.now slots in
    let p : ℕ = (c.args.address + c.args.done) / 4096 in
    let at : ℕ = (c.args.address + c.args.done) % 4096 in
    let new : List ℕ = take (c.min-end.result - c.args.done) (drop c.args.done c.args.bytes.now) in
    let held : p < length slots = omega (arith, c.requires.inside, c.requires.left) in
    let inside : p < length pages = omega (arith, held, shown-length c.args.text.now slots) in
    let behind = behind-text c.args.text.now c.args.address c.args.done c.requires.behind in
    let long : length new ≡ c.min-end.result - c.args.done =
    length-take-le (c.min-end.result - c.args.done) (drop c.args.done c.args.bytes.now) (omega (arith, length-drop c.args.done c.args.bytes.now, c.min-end.ensures)) in
    let page : c.index_mut.result.now ≡ get_or pages p None = held-page c.args.text.now slots p c.index_mut.result.now behind held c.index_mut.ensures.value in
    let put : page_bytes c.put_in.new.page ≡ overwritten (page_bytes (get_or pages p None)) at new = c.put_in.ensures.put ∙ ap (λ q. overwritten (page_bytes q) at new) page in
    let made : shown c.args.text.now (set slots p c.put_in.new.page) ≡ set pages p c.put_in.new.page =
    shown-set c.args.text.now slots p c.put_in.new.page ∙ ap (set pages p) (shown_page-behind c.args.text.now p c.put_in.new.page behind) in
    let where_is : p * 4096 + at ≡ c.args.address + c.args.done = omega arith in
    let there : is_there c.put_in.new.page ≡ get_or (map is_there pages) p Bool.true =
    c.put_in.ensures.there ∙ sym (present-page pages c.args.address (length c.args.bytes.now) c.args.done c.requires.present c.requires.left inside) in
    record {
      more = omega (arith, c.min-end.ensures, c.requires.left);
      end = omega (arith, c.min-end.ensures);
      bytes = ap all_bytes made ∙ all-put pages p at new c.put_in.new.page c.requires.whole inside (omega (arith, long, c.min-end.ensures)) put ∙ ap (λ n. overwritten (all_bytes pages) n new) where_is;
      there = ap (map is_there) made ∙ map-set is_there pages p c.put_in.new.page ∙ ap (set (map is_there pages) p) there ∙ set-get_or (map is_there pages) p Bool.true;
      whole = rw made (whole-set pages p c.put_in.new.page c.requires.whole c.put_in.ensures.length);
      long = length-set slots p c.put_in.new.page;
    }
