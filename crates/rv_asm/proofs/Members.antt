-- Communicators and links that the second pass makes are those that an image may have.
use Rattle.std.proofs.Common.{◌≡◌, ℕ, suc, List, [], ◌∷◌, ◌++◌, length, Ok, Bool, true, false, not, ltb, eqb, leb, refl, sym, ap, subst, ◌∙◌, arith, append_assoc, append-nil, ℤ, pos, negsuc}
use Rattle.std.specs.List.{list_any}
use Rattle.std.proofs.lemmas.Bool.{and_parts, eqb-false, leb-true, ltb-true}
use Rattle.rv_image_types.specs.declared.images.Link.{Link}
use Rattle.rv_image_types.specs.Image.{IsCommunicator, IsLink}
use Rattle.rv_image.specs.Reading.{is_new_rank, is_within}
use Rattle.rv_image.proofs.Distinct.{AllAfter, AllAfter-distinct, AllAfter-there, IsNewRank, not_true, nothing_distinct}
use Rattle.rv_asm_tokens.specs.declared.fault.AsmFaultKind.TheVariants as kinds
use Rattle.rv_asm_tokens.specs.Fault.{◌>>=◌}
use Rattle.rv_asm_lines.specs.Data.{link_between, members_from, members_of, new_rank}
use Rattle.rv_asm.proofs.Right.{bind_ok, ok, ok_is, then_ok}

new_rank-is : (ranks : ℕ) (named : List ℕ) (z : ℤ) (rank : ℕ) → new_rank ranks named z ≡ Ok rank → is_new_rank ranks named rank ≡ true
new_rank-is ranks named (pos n) rank h =
    let a = then_ok (is_new_rank ranks named n) kinds.Directive (Ok n) rank h in
    subst (λ (r : ℕ). is_new_rank ranks named r ≡ true) (ok_is n rank a.1) a.0
new_rank-is ranks named (negsuc n) rank h = absurd cc

-- the ranks behind those that were named
record Named (ranks : ℕ) (named made : List ℕ) (count : ℕ) : Type 0 where
  more : List ℕ
  all : made ≡ named ++ more
  new : AllAfter (IsNewRank ranks) named more
  many : length more ≡ count

members_from-named : (ranks : ℕ) (named : List ℕ) (zs : List ℤ) (made : List ℕ) → members_from ranks named zs ≡ Ok made → Named ranks named made (length zs)
unfolding members_from
members_from-named ranks named [] made h = record { more = []; all = sym (ok_is named made h) ∙ sym (append-nil named); new = tt; many = refl }
members_from-named ranks named (z ∷ zs) made h =
    let a = bind_ok (new_rank ranks named z) (λ rank. members_from ranks (named ++ rank ∷ []) zs) made h in
    let others = members_from-named ranks (named ++ a.value ∷ []) zs made a.second in
    record {
      more = a.value ∷ others.more;
      all = others.all ∙ append_assoc named (a.value ∷ []) others.more;
      new = (new_rank-is ranks named z a.value a.first, others.new);
      many = ap suc others.many;
    }

pub members_of-are : (ranks : ℕ) (zs : List ℤ) (made : List ℕ) → members_of ranks zs ≡ Ok made → IsCommunicator ranks made
unfolding members_of
members_of-are ranks zs made h =
    let a = then_ok (is_within 1 8 (length zs)) kinds.Directive (members_from ranks [] zs) made h in
    let n = members_from-named ranks [] zs made a.1 in
    let bounds = and_parts (leb 1 (length zs)) (leb (length zs) 8) a.0 in
    subst (IsCommunicator ranks) (sym n.all) (record {
      has_members = omega (arith, leb-true 1 (length zs) bounds.0, n.many);
      few_members = omega (arith, leb-true (length zs) 8 bounds.1, n.many);
      ranks_there = AllAfter-there ranks [] n.more n.new;
      distinct = AllAfter-distinct ranks [] n.more nothing_distinct n.new;
    })

pub link_of-is : (ranks : ℕ) (from to : ℤ) (made : Link) → link_between ranks from to ≡ Ok made → IsLink ranks made
unfolding link_between
link_of-is ranks from to made h =
    let a = bind_ok (new_rank ranks [] from) (λ f. new_rank ranks (f ∷ []) to >>= λ t. ok (linked f t)) made h in
    let b = bind_ok (new_rank ranks (a.value ∷ []) to) (λ t. ok (linked a.value t)) made a.second in
    let first = and_parts (ltb a.value ranks) true (new_rank-is ranks [] from a.value a.first) in
    let second = and_parts (ltb b.value ranks) (not (list_any (λ other. eqb other b.value) (a.value ∷ []))) (new_rank-is ranks (a.value ∷ []) to b.value b.first) in
    let apart : eqb a.value b.value ≡ false = only (eqb a.value b.value) (not_true (list_any (λ other. eqb other b.value) (a.value ∷ [])) second.1) in
    subst (IsLink ranks) (ok_is (linked a.value b.value) made b.second) (record {
      from_there = ltb-true a.value ranks first.0;
      to_there = ltb-true b.value ranks second.0;
      differ = λ e. eqb-false a.value b.value apart (sym e);
    })
  where
    linked : ℕ → ℕ → Link
    linked f t = record { from = f; to = t }

    only : (b : Bool) → list_any (λ (c : Bool). c) (b ∷ []) ≡ false → b ≡ false
    only true h = absurd cc
    only false h = refl
