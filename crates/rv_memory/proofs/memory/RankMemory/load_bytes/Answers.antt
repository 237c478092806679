-- A load is one of the page that has its bytes.
use Rattle.std.proofs.Common.{◌≡◌, ◌∙◌, ◌*◌, ◌<◌, ◌/◌, List, length, get_or, drop, ap, sym, refl, arith}
use Rattle.std.proofs.lemmas.List.{get_or_default}
use Rattle.std.specs.Prelude.{ℕ, Option, None}
use Rattle.rv_memory.specs.Access.{size_of}
use Rattle.rv_memory.specs.Held.{all_bytes, shown, shown_page}
use Rattle.rv_memory.specs.Memory.{Memory, value_at}
use Rattle.rv_memory.proofs.Paged.{page-listed, value-all, in_page}
use Rattle.rv_memory.proofs.Shown.{shown-length, shown-get}
use Rattle.rv_memory.proofs.memory.RankMemory.load_bytes.Goals as goal

listed : (text : List ℕ) (slots : List (Option (List ℕ))) (p : ℕ) → p < length (shown text slots) → p < length slots
listed text slots p inside = omega (arith, inside, shown-length text slots)

pub index-page-requires : goal.index-page-requires
index-page-requires c =
    let pages : List (Option (List ℕ)) = shown c.self.inside.text c.self.inside.pages.items in
    let there : c.args.address / 4096 < length pages =
    page-listed pages c.args.self.now.pages (c.args.address / 4096) (ap (λ (m : Memory). m.pages) c.self.view_is) (c.if-not-has_page.ensures.page refl) in
    omega (arith, listed c.self.inside.text c.self.inside.pages.items (c.args.address / 4096) there)

pub read-requires-clause-number : goal.read-requires-clause-number
read-requires-clause-number c =
    let pages : List (Option (List ℕ)) = shown c.self.inside.text c.self.inside.pages.items in
    let there : c.args.address / 4096 < length pages =
    page-listed pages c.args.self.now.pages (c.args.address / 4096) (ap (λ (m : Memory). m.pages) c.self.view_is) (c.if-not-has_page.ensures.page refl) in
    omega (arith, there, c.self.invariant.most)

pub read-requires-clause-inside : goal.read-requires-clause-inside
read-requires-clause-inside c =
    let e : c.size-size.result ≡ size_of c.args.width = c.size-size.ensures.value in
    rw e (in_page c.args.width c.args.address (rw e at c.if-address-size-ne0.false))

pub returns-clause-value : goal.returns-clause-value
returns-clause-value c =
    let text : List ℕ = c.self.inside.text in
    let slots : List (Option (List ℕ)) = c.self.inside.pages.items in
    let pages : List (Option (List ℕ)) = shown text slots in
    let p : ℕ = c.args.address / 4096 in
    let e : c.size-size.result ≡ size_of c.args.width = c.size-size.ensures.value in
    let bytes : all_bytes pages ≡ c.args.self.now.bytes = ap (λ (m : Memory). m.bytes) c.self.view_is in
    let small = in_page c.args.width c.args.address (rw e at c.if-address-size-ne0.false) in
    let there : p < length pages =
    page-listed pages c.args.self.now.pages p (ap (λ (m : Memory). m.pages) c.self.view_is) (c.if-not-has_page.ensures.page refl) in
    let inside : p < length slots = listed text slots p there in
    let slot : c.index-page.result.now ≡ get_or slots p None =
    c.index-page.ensures ∙ get_or_default slots p c.index-page.result.now None inside in
    let page : shown_page (drop (p * 4096) text) c.index-page.result.now ≡ get_or pages p None =
    ap (shown_page (drop (p * 4096) text)) slot ∙ sym (shown-get text slots p inside) in
    c.read.ensures.value ∙ rw (e, c.as_slice.ensures, page) (value-all pages c.args.address (size_of c.args.width) c.self.invariant.whole there small ∙ ap (λ b. value_at b c.args.address (size_of c.args.width)) bytes)
