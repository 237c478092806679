-- What the law of the order asks of a box can be met: it was made ready, taken, and seen freed.
use Rattle.std.specs.Prelude.{ℕ, zero, suc, ◌<◌, List, [], ◌∷◌, ◌≡◌, slice_get, Some}
use Rattle.std.proofs.Common.{refl, ap, ◌∙◌, subst, arith}
use Rattle.std.proofs.lemmas.Option.{same_Some}
use mathlib.Core.Logic.{inl}
use Rattle.cl_machine.specs.Boxes.{Thing}
use Rattle.cl_machine.specs.Joined.{Got, thing_of}
use Rattle.cl_machine.specs.Worked.{JoinedRow}

abbrev one_got : List ℕ → Got
one_got bytes = record { stamp = 2; bytes = bytes; take = 3 }

only : (bytes : List ℕ) (k : ℕ) (g : Got) → slice_get (one_got bytes ∷ []) k ≡ Some g → (k ≡ 0) × (one_got bytes ≡ g)
only bytes zero g h = (refl, same_Some _ _ h)
only bytes (suc k) g h = absurd (cc)

pub joined : JoinedRow
joined bytes first first_reply second second_reply = record {
  link = record { from = 0; to = 1 };
  link_is = refl;
  made = things;
  got = one_got bytes ∷ [];
  made_is = refl;
  got_is = refl;
  loaded = (1, 3) ∷ [];
  loaded_is = refl;
  one_more = inl refl;
  front = λ k g h. let o = only bytes k g h in ap (slice_get things) o.0 ∙ ap (λ (x : Got). Some (thing_of x)) o.1;
  taken_after = λ k g h. let o = only bytes k g h in subst (λ (x : Got). x.stamp < x.take) o.1 (omega arith);
  made_after = λ k g m h e. absurd (none k e);
  freed = ((0, one_got bytes, refl, refl, refl), tt);
  end = refl;
}
  where
    things : List Thing
    things = record { stamp = 2; bytes = bytes } ∷ []

    none : (k : ℕ) {m : Thing} → slice_get things (suc k) ≡ Some m → ⊥
    none k e = (cc)
