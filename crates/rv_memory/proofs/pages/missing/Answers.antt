use Rattle.std.proofs.Common.{◌≡◌, ◌<◌, ◌∙◌, List, arith, sym, refl, length, get_or, zero-add, ap}
use Rattle.std.proofs.lemmas.List.{length-map, get_or_default}
use Rattle.std.specs.Prelude.{ℕ, Bool, Option, None, not, ◌&&◌, if◌then◌else◌, map}
use Rattle.rv_memory.specs.Pages.{touches}
use Rattle.rv_memory.specs.Held.{is_there, shown, shown_page}
use Rattle.rv_memory.proofs.Marked.{missing_from-next}
use Rattle.rv_memory.proofs.Paged.{there-get}
use Rattle.rv_memory.proofs.Touched.{missing_from-end, missing_from-skip}
use Rattle.rv_memory.proofs.Shown.{shown-length, shown-get}
use Rattle.rv_memory.proofs.pages.missing.Goals as goal

pub loop-page-preserved : goal.loop-page-preserved
loop-page-preserved c =
    let pages : List (Option (List ℕ)) = shown c.args.text.now c.args.pages.now in
    let there : List Bool = map is_there pages in
    let inside : c.loop-page.page < length there = omega (arith, length-map pages is_there, shown-length c.args.text.now c.args.pages.now, c.loop-page-test.true, c.end_touched-end.ensures.within) in
    let next = missing_from-next there c.loop-page.page c.args.address c.args.count inside in
    let before = c.loop-page.invariant in
    let more : ℕ = if (touches c.args.address c.args.count c.loop-page.page && not (get_or there c.loop-page.page Bool.false)) then 1 else 0 in
    let rest : List ℕ = c.rest_of.result.now in
    let slot : c.index-pages-page.result ≡ get_or c.args.pages.now c.loop-page.page None =
    c.index-pages-page.is ∙ get_or_default c.args.pages.now c.loop-page.page _ None (omega (arith, c.loop-page-test.true, c.end_touched-end.ensures.within)) in
    let here : is_there (shown_page rest c.index-pages-page.result) ≡ get_or there c.loop-page.page Bool.false =
    ap (λ page. is_there (shown_page rest page)) slot ∙ ap (λ xs. is_there (shown_page xs (get_or c.args.pages.now c.loop-page.page None))) c.rest_of.ensures ∙ ap is_there (sym (shown-get c.args.text.now c.args.pages.now c.loop-page.page (omega (arith, c.loop-page-test.true, c.end_touched-end.ensures.within))))
    ∙ sym (there-get pages c.loop-page.page) in
    let one : c.missing_page-missing.result ≡ more = c.missing_page-missing.ensures.value ∙ rw (here, c.touches-touched.ensures) refl in
    (omega (arith, before.0, next, one), omega (arith, before.1, c.missing_page-missing.ensures.most))

pub loop-page-init : goal.loop-page-init
loop-page-init c =
    let ts : List Bool = map is_there (shown c.args.text.now c.args.pages.now) in
    let first : ℕ = c.first_touched-first.result in
    let skipped = missing_from-skip first 0 ts c.args.address c.args.count (omega (arith, c.first_touched-first.ensures.before)) in
    (omega (arith, rw (zero-add first) at skipped), omega arith)

pub returns-clause-value : goal.returns-clause-value
returns-clause-value c =
    let ts : List Bool = map is_there (shown c.args.text.now c.args.pages.now) in
    let long : length ts ≡ length c.args.pages.now = length-map (shown c.args.text.now c.args.pages.now) is_there ∙ shown-length c.args.text.now c.args.pages.now in
    omega (
      arith,
      c.loop-page.invariant.0,
      missing_from-end c.loop-page.page c.end_touched-end.result ts c.args.address c.args.count
          (omega (arith, c.loop-page-test.false))
          (λ less some. c.end_touched-end.ensures.behind (omega (arith, less, long)) some),
    )
