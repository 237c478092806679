-- One more phase is that of one more link.
use Rattle.std.proofs.Common.{◌≡◌, ℕ, suc, ◌+◌, ◌<◌, List, [], ◌∷◌, ◌++◌, length, map, take, get_or}
use Rattle.std.proofs.Common.{sym, ap, ◌∙◌, subst, arith}
use Rattle.std.specs.Prelude.{All}
use Rattle.std.proofs.Math.Seq.{take-suc}
use Rattle.std.proofs.lemmas.List.{map-append, take_all}
use Rattle.std.proofs.lemmas.List.Elements.{All-append, All-cons, All-nil}
use Rattle.rv_image_types.specs.declared.images.Link.{Link}
use Rattle.part_phase.specs.declared.phases.Phase.{Phase}
use Rattle.part_phase.specs.Phases.{IsPhase, first_phase}
use Rattle.part_phase.proofs.phases.Phases.of.Goals as goal

one_more : (f : Link → Phase) (links : List Link) (i : ℕ) (none : Link) → i < length links
    → map f (take i links) ++ f (get_or links i none) ∷ [] ≡ map f (take (i + 1) links)
one_more f links i none low =
    let next : suc i ≡ i + 1 = omega arith in
    sym (map-append f (take i links) (get_or links i none ∷ []))
    ∙ ap (map f) (sym (take-suc links i none low) ∙ ap (λ n. take n links) next)

pub loop-link-init : goal.loop-link-init
loop-link-init c = record {
  first = c.in_ok-list.ensures.items;
  kept = subst (All IsPhase) (sym c.in_ok-list.ensures.items) (All-nil IsPhase);
}

pub loop-link-preserved : goal.loop-link-preserved
loop-link-preserved c = record {
  first =
      c.in_ok-push.ensures.items
      ∙ ((λ k. c.loop-link.invariant.first k ++ c.first.ensures.first k ∷ [])
      ∙ one_more (first_phase c.args.rank) c.as_slice-all.result.now c.loop-link.link-index
      (record { from = 0; to = 0 }) c.loop-link-test.true);
  kept = subst (All IsPhase) (sym c.in_ok-push.ensures.items)
      (All-append IsPhase c.loop-link.list.items (c.first.result ∷ []) c.loop-link.invariant.kept
      (All-cons IsPhase c.first.result [] c.first.ensures.kept (All-nil IsPhase)));
}

pub invariant_of-result : goal.invariant_of-result
invariant_of-result c = c.loop-link.invariant.kept

pub returns : goal.returns
returns c =
    c.loop-link.invariant.first
    ∙ ap (map (first_phase c.args.rank))
    (take_all c.loop-link.link-index c.as_slice-all.result.now c.loop-link-test.false ∙ c.as_slice-all.ensures)
