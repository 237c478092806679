-- The places with most turns, one after another.
use Rattle.std.specs.Prelude.{ℕ, suc, ◌+◌, ◌-◌, ◌<◌, ◌≡◌, List, [], ◌∷◌, ◌++◌, length, Option, Some, None}
use Rattle.std.proofs.Common.{refl, sym, ap, ◌∙◌, subst, append_assoc, append-nil, arith}
use Rattle.std.proofs.lemmas.List.{flat_map_more}
use Rattle.rv_image_types.specs.declared.images.Symbol.{Symbol}
use Rattle.rvmc_stats.specs.Hottest.{AreHottest, IsNextBelow}
use Rattle.rvmc_list.specs.Places.{HasPlaceLines, place_line}
use Rattle.rvmc_list.specs.Placing.{ArePlaced}

module _ (symbols : List Symbol) (counts old : List ℕ) where
  pub placed_none : ArePlaced symbols counts 0 None old old
  placed_none = record { words = []; are = λ rest h. h; text = sym (append-nil old) }

  pub placed_more : (n : ℕ) (last : Option ℕ) (text after : List ℕ) (word : ℕ)
      → ArePlaced symbols counts n last old text → n < 10 → IsNextBelow counts last (length counts) (Some word)
      → after ≡ text ++ place_line symbols counts word → ArePlaced symbols counts (n + 1) (Some word) old after
  placed_more n last text after word put below next added = record {
    words = put.words ++ word ∷ [];
    are = λ rest h. subst (λ ws. AreHottest counts (length counts) 10 None ws) (sym (append_assoc put.words (word ∷ []) rest))
        (put.are (word ∷ rest) (subst (λ k. AreHottest counts (length counts) k last (word ∷ rest)) one_less (next, h)));
    text = added ∙ ap (λ t. t ++ place_line symbols counts word) put.text
        ∙ flat_map_more (place_line symbols counts) old put.words word;
  }
    where
      one_less : suc (10 - (n + 1)) ≡ 10 - n
      one_less = omega (arith, below)

  pub placed_all : (n : ℕ) (last : Option ℕ) (text : List ℕ) → ArePlaced symbols counts n last old text → n < 10
      → IsNextBelow counts last (length counts) None → HasPlaceLines symbols counts old text
  placed_all n last text put below none = record {
    words = put.words;
    are = subst (λ ws. AreHottest counts (length counts) 10 None ws) (append-nil put.words)
        (put.are [] (subst (λ k. AreHottest counts (length counts) k last []) one_less none));
    text = put.text;
  }
    where
      one_less : suc (9 - n) ≡ 10 - n
      one_less = omega (arith, below)

  pub placed_ten : (n : ℕ) (last : Option ℕ) (text : List ℕ) → ArePlaced symbols counts n last old text → n ≡ 10
      → HasPlaceLines symbols counts old text
  placed_ten n last text put all = record {
    words = put.words;
    are = subst (λ ws. AreHottest counts (length counts) 10 None ws) (append-nil put.words)
        (put.are [] (subst (λ k. AreHottest counts (length counts) k last []) no_more refl));
    text = put.text;
  }
    where
      no_more : 0 ≡ 10 - n
      no_more = omega (arith, all)
