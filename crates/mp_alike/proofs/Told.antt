-- What is told of hubs that are alike, or aren't.
use Rattle.std.proofs.Common.{◌≡◌, ℕ, List, Option, Some, None, Result, Ok, Err, IfOk, refl, sym, subst}
use Rattle.std.specs.Prelude.{IfSome, IsSome}
use Rattle.mp_hub.specs.Hub.{HubView}
use Rattle.mp_alike_laws.specs.Laws.{AreAlike}
use Rattle.mp_source_laws.specs.Alike.{Wild}
use Rattle.mp_source_laws.specs.Laws as live
use Rattle.mp_alike.specs.Names.{AreAlikeBy, AreLiveAlikeBy}

module _ {E : Type 0} (a b : HubView) (r : Result (Option (List ℕ)) E) where
  pub none_told : IfOk r (λ found. IfSome found (λ names. AreAlikeBy names a b))
      → (c d : HubView) → a ≡ c → b ≡ d → ¬ AreAlike c d → IfOk r (λ found. found ≡ None)
  none_told = go r
    where
      go : (o : Result (Option (List ℕ)) E) → IfOk o (λ found. IfSome found (λ names. AreAlikeBy names a b))
          → (c d : HubView) → a ≡ c → b ≡ d → ¬ AreAlike c d → IfOk o (λ found. found ≡ None)
      go (Ok None) some c d e f not = refl
      go (Ok (Some to)) some c d e f not =
          absurd (not (subst (λ h. AreAlike c h) f (subst (λ h. AreAlike h b) e (some.names, some.alike))))
      go (Err x) some c d e f not = tt

  pub some_told : (r ≡ Ok None → ¬ AreAlike a b) → (c d : HubView) → a ≡ c → b ≡ d → AreAlike c d
      → IfOk r (λ found. IsSome found)
  some_told = go r
    where
      go : (o : Result (Option (List ℕ)) E) → (o ≡ Ok None → ¬ AreAlike a b) → (c d : HubView) → a ≡ c → b ≡ d
          → AreAlike c d → IfOk o (λ found. IsSome found)
      go (Ok None) none c d e f alike =
          absurd (none refl (subst (λ h. AreAlike a h) (sym f) (subst (λ h. AreAlike h d) (sym e) alike)))
      go (Ok (Some to)) none c d e f alike = refl
      go (Err x) none c d e f alike = tt

-- where posts that are over may be any that are
module _ {E : Type 0} (wild : Wild) (a b : HubView) where
  pub none_live : (r : Result (Option (List ℕ)) E) → IfOk r (λ found. IfSome found (λ names. AreLiveAlikeBy names a b))
      → (c d : HubView) → a ≡ c → b ≡ d → ¬ live.AreAlike wild c d → IfOk r (λ found. found ≡ None)
  none_live (Ok None) some c d e f not = refl
  none_live (Ok (Some to)) some c d e f not =
      absurd (not (subst (λ h. live.AreAlike wild c h) f
      (subst (λ h. live.AreAlike wild h b) e (some.names, some.alike wild))))
  none_live (Err x) some c d e f not = tt
