-- A store is one in the page that has its bytes.
use Rattle.std.proofs.Common.{◌≡◌, ◌∙◌, ◌+◌, ◌<◌, ◌≤◌, ◌/◌, ◌%◌, List, length, get_or, sym, ap, refl, arith, rules, zero-add}
use Rattle.std.proofs.Math.ListN.{set}
use Rattle.std.proofs.lemmas.List.{get_or_default, length-map}
use Rattle.std.specs.Prelude.{ℕ, Option, None, Result, Ok, Err, IsOk, Bool, map}
use Rattle.rv_memory.specs.Access.{size_of}
use Rattle.rv_memory.specs.Held.{is_there, shown}
use Rattle.rv_memory.specs.Memory.{Memory}
use Rattle.rv_memory.specs.MorePages.{missing_pages}
use Rattle.rv_memory.proofs.Marked.{present-none, missing-there, touches-in}
use Rattle.rv_memory.proofs.Paged.{page-listed, in_page, stored-view, stored-held, there-get}
use Rattle.rv_memory.proofs.Shown.{shown-length, shown-get, shown-set, shown_page-behind}
use Rattle.rv_memory.proofs.memory.RankMemory.store_bytes.Goals as goal

no_err : {A E : Type 0} (r : Result A E) (x : E) → IsOk r → r ≡ Err x → ⊥
no_err (Ok y) x ok e = grind arith
no_err (Err y) x ok e = absurd (search rules)

-- a page behind the text is held where it is there
held-page : (text : List ℕ) (slots : List (Option (List ℕ))) (a : ℕ) (page : Option (List ℕ)) → length text ≤ a → a / 4096 < length (shown text slots)
    → page ≡ get_or slots (a / 4096) page → page ≡ get_or (shown text slots) (a / 4096) None
held-page text slots a page behind there is =
    let inside : a / 4096 < length slots = omega (arith, there, shown-length text slots) in
    let slot : page ≡ get_or slots (a / 4096) None = is ∙ get_or_default slots (a / 4096) page None inside in
    slot ∙ sym (shown-get text slots (a / 4096) inside ∙ shown_page-behind text (a / 4096) (get_or slots (a / 4096) None) (omega (arith, behind)))

held-set : (text : List ℕ) (slots : List (Option (List ℕ))) (a : ℕ) (y : Option (List ℕ)) → length text ≤ a
    → shown text (set slots (a / 4096) y) ≡ set (shown text slots) (a / 4096) y
held-set text slots a y behind =
    shown-set text slots (a / 4096) y ∙ ap (set (shown text slots) (a / 4096)) (shown_page-behind text (a / 4096) y (omega (arith, behind)))

pub index_mut-page-requires : goal.index_mut-page-requires
index_mut-page-requires c =
    let pages : List (Option (List ℕ)) = shown c.self.inside.text c.self.inside.pages.items in
    let there : c.args.address / 4096 < length pages =
    page-listed pages c.args.self.now.pages (c.args.address / 4096) (ap (λ (m : Memory). m.pages) c.self.view_is) (c.if-not-has_page.ensures.page refl) in
    omega (arith, there, shown-length c.self.inside.text c.self.inside.pages.items)

pub invariant_of-self : goal.invariant_of-self
invariant_of-self c =
    let text : List ℕ = c.self.inside.text in
    let slots : List (Option (List ℕ)) = c.self.inside.pages.items in
    let there : c.args.address / 4096 < length (shown text slots) =
    page-listed (shown text slots) c.args.self.now.pages (c.args.address / 4096) (ap (λ (m : Memory). m.pages) c.self.view_is) (c.if-not-has_page.ensures.page refl) in
    let e : c.size-size.result ≡ size_of c.args.width = c.size-size.ensures.value in
    let small : c.args.address % 4096 + c.size-size.result ≤ 4096 = rw e (in_page c.args.width c.args.address (rw e at c.if-address-size-ne0.false)) in
    let behind : length text ≤ c.args.address = omega (arith, c.len.ensures, c.if-address-len.false) in
    let page = held-page text slots c.args.address c.index_mut-page.result.now behind there c.index_mut-page.ensures.value in
    rw (held-set text slots c.args.address c.store.new.page behind) (stored-held c.store.result text (shown text slots) c.args.address c.size-size.result c.args.value c.index_mut-page.result.now c.store.new.page
    c.self.invariant there small behind page c.store.ensures.put c.store.ensures.length c.store.ensures.unchanged)

pub returns-clause-stored : goal.returns-clause-stored
returns-clause-stored c =
    let text : List ℕ = c.self.inside.text in
    let slots : List (Option (List ℕ)) = c.self.inside.pages.items in
    let there : c.args.address / 4096 < length (shown text slots) =
    page-listed (shown text slots) c.args.self.now.pages (c.args.address / 4096) (ap (λ (m : Memory). m.pages) c.self.view_is) (c.if-not-has_page.ensures.page refl) in
    let e : c.size-size.result ≡ size_of c.args.width = c.size-size.ensures.value in
    let small : c.args.address % 4096 + c.size-size.result ≤ 4096 = rw e (in_page c.args.width c.args.address (rw e at c.if-address-size-ne0.false)) in
    let behind : length text ≤ c.args.address = omega (arith, c.len.ensures, c.if-address-len.false) in
    let page = held-page text slots c.args.address c.index_mut-page.result.now behind there c.index_mut-page.ensures.value in
    rw (← c.self.view_is, ← e, held-set text slots c.args.address c.store.new.page behind) (stored-view c.store.result (length text) (shown text slots) c.args.address c.size-size.result c.args.value c.index_mut-page.result.now c.store.new.page
    c.self.invariant.whole there small c.size-size.ensures.some page c.store.ensures.put c.store.ensures.there)

pub returns-clause-takes_no_memory : goal.returns-clause-takes_no_memory
returns-clause-takes_no_memory c =
    let text : List ℕ = c.self.inside.text in
    let slots : List (Option (List ℕ)) = c.self.inside.pages.items in
    let pages : List (Option (List ℕ)) = shown text slots in
    let p : ℕ = c.args.address / 4096 in
    let size : ℕ = size_of c.args.width in
    let e : c.size-size.result ≡ size = c.size-size.ensures.value in
    let some : 0 < size = omega (arith, e, c.size-size.ensures.some) in
    let there : p < length pages =
    page-listed pages c.args.self.now.pages p (ap (λ (m : Memory). m.pages) c.self.view_is) (c.if-not-has_page.ensures.page refl) in
    let behind : length text ≤ c.args.address = omega (arith, c.len.ensures, c.if-address-len.false) in
    let page : c.index_mut-page.result.now ≡ get_or pages p None = held-page text slots c.args.address c.index_mut-page.result.now behind there c.index_mut-page.ensures.value in
    let same : map is_there pages ≡ c.args.self.now.pages = ap (λ (m : Memory). m.pages) c.self.view_is in
    let z : 0 + p ≡ p = zero-add p in
    λ present err.
    let none : missing_pages (map is_there pages) c.args.address size ≡ 0 = ap (λ ts. missing_pages ts c.args.address size) same ∙ present-none c.args.self.now c.args.address size some present in
    let here : is_there c.index_mut-page.result.now ≡ Bool.true =
    ap is_there page ∙ sym (there-get pages p)
    ∙ missing-there 0 p (map is_there pages) c.args.address size none (omega (arith, there, length-map pages is_there)) (rw z (touches-in c.args.address size p some (omega (arith, some)) (omega arith))) in
    no_err c.store.result _ (c.store.ensures.takes_no_memory here) err
