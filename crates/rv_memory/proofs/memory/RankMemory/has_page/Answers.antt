-- An aligned load or store is inside where its page is.
use Rattle.std.proofs.Common.{◌≡◌, ◌∙◌, ◌+◌, ◌<◌, ◌/◌, List, length, ap, sym, arith}
use Rattle.std.proofs.lemmas.List.{length-map}
use Rattle.std.proofs.lemmas.Bool.Decides.{nat_tests}
use Rattle.std.specs.Prelude.{ℕ, Option, nat_le, nat_lt}
use Rattle.rv_memory.specs.Access.{size_of}
use Rattle.rv_memory.specs.Held.{is_there, shown}
use Rattle.rv_memory.specs.Memory.{Memory}
use Rattle.rv_memory.proofs.Paged.{inside-by-page}
use Rattle.rv_memory.proofs.Shown.{shown-length}
use Rattle.rv_memory.proofs.memory.RankMemory.has_page.Goals as goal

pub returns-clause-inside : goal.returns-clause-inside
returns-clause-inside c =
    let pages : List (Option (List ℕ)) = shown c.self.inside.text c.self.inside.pages.items in
    let long : c.len.result ≡ length pages = omega (arith, c.len.ensures, shown-length c.self.inside.text c.self.inside.pages.items) in
    ap (nat_lt (c.args.address / 4096)) long
    ∙ inside-by-page pages c.args.width c.args.address c.self.invariant.whole c.requires.aligned
    ∙ ap (λ (m : Memory). nat_le (c.args.address + size_of c.args.width) (length m.bytes)) c.self.view_is

pub returns-clause-page : goal.returns-clause-page
returns-clause-page c =
    let pages : List (Option (List ℕ)) = shown c.self.inside.text c.self.inside.pages.items in
    let marks : length c.args.self.now.pages ≡ length pages = sym (ap (λ (m : Memory). length m.pages) c.self.view_is) ∙ length-map pages is_there in
    let long : c.len.result ≡ length pages = omega (arith, c.len.ensures, shown-length c.self.inside.text c.self.inside.pages.items) in
    λ inside.
    let below : c.args.address / 4096 < c.len.result = grind (arith, nat_tests) in
    omega (arith, below, long, marks)
