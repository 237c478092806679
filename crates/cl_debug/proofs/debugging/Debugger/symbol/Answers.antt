use Rattle.std.proofs.Common.{◌≡◌, arith, length, refl, sym, ap, ◌∙◌, eqb-true, eq-eqb}
use Rattle.std.specs.Prelude.{slice_get, Some}
use Rattle.std.proofs.lemmas.Option.{same_Some, slice_get_read, slice_get_within}
use borrow.Author.Count.{below_more}
use lib.Pointwise.{pointwise_decides}
use Rattle.rv_image_types.specs.declared.images.Symbol.{Symbol}
use Rattle.cl_debug.specs.Debugging.{Debugging}
use Rattle.cl_debug.proofs.debugging.Debugger.symbol.Goals as goal

pub returns-then-eq-clause-found : goal.returns-then-eq-clause-found
returns-then-eq-clause-found c =
    let symbols = c.args.self.now.image.symbols in
    let item = c.symbol-item.result in
    let k = c.loop-symbol.symbol-index in
    let symbols_are : c.as_slice-symbol-items.result.now ≡ symbols =
    c.as_slice-symbol-items.ensures ∙ ap (λ x. x.symbols) c.parts.ensures.parts
    ∙ ap (λ (x : Debugging). x.image.symbols) c.self.view_is in
    let same = (pointwise_decides (λ x y. (eqb-true x y, eq-eqb x y)) c.as_slice.result.now c.as_bytes.result.now).0
    (sym c.eq.ensures ∙ c.if-eq.true) in
    record {
      symbol = item;
      number = k;
      listed = ap (λ xs. slice_get xs k) (sym symbols_are)
          ∙ slice_get_read c.as_slice-symbol-items.result.now (length c.as_slice-symbol-items.result.now) k item refl
          c.loop-symbol-test.true c.symbol-item.is;
      named = sym c.as_slice.ensures ∙ same ∙ c.as_bytes.ensures.value;
      there = sym c.from.ensures;
    }

pub loop-symbol-preserved : goal.loop-symbol-preserved
loop-symbol-preserved c =
    let symbols = c.args.self.now.image.symbols in
    let item = c.symbol-item.result in
    let k = c.loop-symbol.symbol-index in
    let symbols_are : c.as_slice-symbol-items.result.now ≡ symbols =
    c.as_slice-symbol-items.ensures ∙ ap (λ x. x.symbols) c.parts.ensures.parts
    ∙ ap (λ (x : Debugging). x.image.symbols) c.self.view_is in
    let listed = ap (λ xs. slice_get xs k) (sym symbols_are)
    ∙ slice_get_read c.as_slice-symbol-items.result.now (length c.as_slice-symbol-items.result.now) k item refl
    c.loop-symbol-test.true c.symbol-item.is in
    below_more (λ j. (symbol : Symbol) → slice_get symbols j ≡ Some symbol → symbol.name ≡ c.args.name.now → ⊥) k
    c.loop-symbol.invariant
    (λ symbol at named.
    let is = same_Some symbol item (sym at ∙ listed) in
    let yes = (pointwise_decides (λ x y. (eqb-true x y, eq-eqb x y)) c.as_slice.result.now c.as_bytes.result.now).1
    (c.as_slice.ensures ∙ sym (ap (λ (s : Symbol). s.name) is) ∙ named ∙ sym c.as_bytes.ensures.value) in
    let no = c.if-eq.false in absurd (cc (c.eq.ensures)))

pub returns-clause-none : goal.returns-clause-none
returns-clause-none c = λ number symbol at.
    let symbols = c.args.self.now.image.symbols in
    let symbols_are : c.as_slice-symbol-items.result.now ≡ symbols =
    c.as_slice-symbol-items.ensures ∙ ap (λ x. x.symbols) c.parts.ensures.parts
    ∙ ap (λ (x : Debugging). x.image.symbols) c.self.view_is in
    let inside = slice_get_within symbols number symbol at in
    let long = ap length symbols_are in
    c.loop-symbol.invariant number (omega (arith, inside, long, c.loop-symbol-test.false)) symbol at
