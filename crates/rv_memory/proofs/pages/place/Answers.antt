-- Each page that is touched and wasn't there is one of the spare ones.
use Rattle.std.proofs.Common.{◌≡◌, ◌+◌, ◌*◌, ◌<◌, ◌∙◌, ◌++◌, List, arith, sym, length, get_or, take, drop, ap, append-nil, zero-add}
use Rattle.std.proofs.Math.ListN.{set}
use Rattle.std.proofs.lemmas.List.{length-map, length-set, map-set, get_or_default, take_all, drop_all}
use Rattle.std.specs.Prelude.{ℕ, Bool, Option, None, ◌||◌, map}
use Rattle.rv_memory.specs.Pages.{touches, written_pages}
use Rattle.rv_memory.specs.Held.{is_there, page_bytes, all_bytes, shown, shown_page}
use Rattle.rv_memory.proofs.Marked.{missing_from-next, written_from-length, written_from-get, front-get, front-set}
use Rattle.rv_memory.proofs.Paged.{there-get, whole-get, whole-set, all-same}
use Rattle.rv_memory.proofs.Shown.{shown-length, shown-get, shown-set}
use Rattle.rv_memory.proofs.pages.place.Goals as goal

same-there : (old cur : List (Option (List ℕ))) (a n p : ℕ) (page : Option (List ℕ)) → length cur ≡ length old → p < length old
    → map is_there cur ≡ take p (written_pages (map is_there old) a n) ++ drop p (map is_there old) → page ≡ get_or cur p None
    → is_there page ≡ get_or (map is_there old) p Bool.false
same-there old cur a n p page long inside there is =
    ap is_there is ∙ sym (there-get cur p)
    ∙ ap (λ ts. get_or ts p Bool.false) there
    ∙ front-get (written_pages (map is_there old) a n) (map is_there old) p (omega (arith, inside, length-map old is_there)) (written_from-length 0 (map is_there old) a n)

next-there : (old cur : List (Option (List ℕ))) (a n p : ℕ) (page new : Option (List ℕ)) → length cur ≡ length old → p < length old
    → map is_there cur ≡ take p (written_pages (map is_there old) a n) ++ drop p (map is_there old) → page ≡ get_or cur p None
    → is_there new ≡ (is_there page || touches a n p)
    → map is_there (set cur p new) ≡ take (p + 1) (written_pages (map is_there old) a n) ++ drop (p + 1) (map is_there old)
next-there old cur a n p page new long inside there is e =
    let shorter : p < length (map is_there old) = omega (arith, inside, length-map old is_there) in
    let same = same-there old cur a n p page long inside there is in
    let z : 0 + p ≡ p = zero-add p in
    let here : get_or (written_pages (map is_there old) a n) p Bool.false ≡ is_there new =
    written_from-get 0 (map is_there old) a n p shorter ∙ rw (z, ← same) (sym e) in
    map-set is_there cur p new ∙ ap (λ ts. set ts p (is_there new)) there
    ∙ front-set (written_pages (map is_there old) a n) (map is_there old) p (is_there new) shorter (written_from-length 0 (map is_there old) a n) here

-- the page that is read where one slot is
read-page : (text : List ℕ) (slots : List (Option (List ℕ))) (p : ℕ) (page : Option (List ℕ)) → p < length slots → page ≡ get_or slots p page
    → shown_page (drop (p * 4096) text) page ≡ get_or (shown text slots) p None
read-page text slots p page inside is =
    ap (shown_page (drop (p * 4096) text)) (is ∙ get_or_default slots p page None inside) ∙ sym (shown-get text slots p inside)

pub place_page-requires : goal.place_page-requires
place_page-requires c =
    let old : List (Option (List ℕ)) = shown c.args.text.now c.args.pages.now.items in
    let cur : List (Option (List ℕ)) = shown c.args.text.now c.loop-page.pages.items in
    let inside : c.loop-page.page < length old = omega (arith, shown-length c.args.text.now c.args.pages.now.items) in
    let held : c.loop-page.page < length c.loop-page.pages.items = omega (arith, c.loop-page.invariant.long) in
    let long : length cur ≡ length old = omega (arith, shown-length c.args.text.now c.args.pages.now.items, shown-length c.args.text.now c.loop-page.pages.items, c.loop-page.invariant.long) in
    let page = read-page c.args.text.now c.loop-page.pages.items c.loop-page.page c.index_mut.result.now held c.index_mut.ensures.value in
    let same = same-there old cur c.args.address c.args.count c.loop-page.page (shown_page (drop (c.loop-page.page * 4096) c.args.text.now) c.index_mut.result.now) long inside c.loop-page.invariant.there page in
    let next = missing_from-next (map is_there old) c.loop-page.page c.args.address c.args.count (omega (arith, inside, length-map old is_there)) in
    rw (c.rest_of.ensures, same, c.touches-touched.ensures) (omega (arith, next, c.loop-page.invariant.taken, c.requires.enough))

pub loop-page-preserved : goal.loop-page-preserved
loop-page-preserved c =
    let old : List (Option (List ℕ)) = shown c.args.text.now c.args.pages.now.items in
    let cur : List (Option (List ℕ)) = shown c.args.text.now c.loop-page.pages.items in
    let rest : List ℕ = drop (c.loop-page.page * 4096) c.args.text.now in
    let inside : c.loop-page.page < length old = omega (arith, shown-length c.args.text.now c.args.pages.now.items) in
    let held : c.loop-page.page < length c.loop-page.pages.items = omega (arith, c.loop-page.invariant.long) in
    let long : length cur ≡ length old = omega (arith, shown-length c.args.text.now c.args.pages.now.items, shown-length c.args.text.now c.loop-page.pages.items, c.loop-page.invariant.long) in
    let page = read-page c.args.text.now c.loop-page.pages.items c.loop-page.page c.index_mut.result.now held c.index_mut.ensures.value in
    let same = same-there old cur c.args.address c.args.count c.loop-page.page (shown_page rest c.index_mut.result.now) long inside c.loop-page.invariant.there page in
    let next = missing_from-next (map is_there old) c.loop-page.page c.args.address c.args.count (omega (arith, inside, length-map old is_there)) in
    let new : Option (List ℕ) = shown_page rest c.place_page.new.page in
    let put : shown c.args.text.now (set c.loop-page.pages.items c.loop-page.page c.place_page.new.page) ≡ set cur c.loop-page.page new =
    shown-set c.args.text.now c.loop-page.pages.items c.loop-page.page c.place_page.new.page in
    let bytes : page_bytes new ≡ page_bytes (get_or cur c.loop-page.page None) = rw c.rest_of.ensures at c.place_page.ensures.bytes ∙ ap page_bytes page in
    record {
      there = ap (map is_there) put ∙ next-there old cur c.args.address c.args.count c.loop-page.page (shown_page rest c.index_mut.result.now) new long inside c.loop-page.invariant.there page (rw (← c.touches-touched.ensures) (rw c.rest_of.ensures at c.place_page.ensures.there));
      bytes = ap all_bytes put ∙ all-same cur c.loop-page.page new bytes ∙ c.loop-page.invariant.bytes;
      whole = rw put (whole-set cur c.loop-page.page new c.loop-page.invariant.whole (ap length bytes ∙ whole-get cur c.loop-page.page c.loop-page.invariant.whole));
      long = length-set c.loop-page.pages.items c.loop-page.page c.place_page.new.page ∙ c.loop-page.invariant.long;
      taken = omega (arith, next, c.loop-page.invariant.taken, rw (c.rest_of.ensures, same, c.touches-touched.ensures) at c.place_page.ensures.taken);
    }

pub returns : goal.returns
returns c =
    let old : List (Option (List ℕ)) = shown c.args.text.now c.args.pages.now.items in
    let ts : List Bool = map is_there old in
    let shorter : length ts ≡ length c.args.pages.now.items = length-map old is_there ∙ shown-length c.args.text.now c.args.pages.now.items in
    let long = written_from-length 0 ts c.args.address c.args.count in
    let none = drop_all c.loop-page.page ts (omega (arith, shorter)) in
    record {
      bytes = c.loop-page.invariant.bytes;
      whole = c.loop-page.invariant.whole;
      there = c.loop-page.invariant.there ∙ rw (take_all c.loop-page.page (written_pages ts c.args.address c.args.count) (omega (arith, long, shorter)), none) (append-nil _);
      long = c.loop-page.invariant.long;
      taken = c.loop-page.invariant.taken ∙ rw none (omega arith);
    }
