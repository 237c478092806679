-- Hubs are alike where their boards are, and all beside.
use Rattle.std.proofs.Common.{◌≡◌, ℕ, List, Option, Some, None, Result, Ok, Err, IfOk, sym, subst}
use Rattle.std.specs.Prelude.{IfSome}
use Rattle.mp_match.specs.Board.{Board}
use Rattle.mp_hub.specs.Hub.{HubView}
use Rattle.mp_alike_laws.specs.Renaming.{Renaming}
use Rattle.mp_alike_laws.specs.Alike.{AlikeBoards}
use Rattle.mp_alike_laws.specs.Laws.{AreAlike}
use Rattle.mp_alike.specs.Names.{AreAlikeBy}
use Rattle.mp_alike.specs.InnerAlike.{IsAlikeBeside, IsAlikeBoardBy}

module _ (a b : HubView) (x y : Board) (one : x ≡ a.board) (other : y ≡ b.board) where
  pub hubs_told : {E : Type 0} → IsAlikeBeside a b → (r : Result (Option (List ℕ)) E)
      → IfOk r (λ found. IfSome found (λ names. IsAlikeBoardBy names x y))
      → IfOk r (λ found. IfSome found (λ names. AreAlikeBy names a b))
  hubs_told beside (Ok None) h = tt
  hubs_told beside (Ok (Some to)) h =
      let by : IsAlikeBoardBy to a.board b.board =
      subst (λ z. IsAlikeBoardBy to z b.board) one (subst (λ z. IsAlikeBoardBy to x z) other h) in
      record {
        names = by.names;
        listed = by.listed;
        alike = record {
          links = beside.links;
          board = by.alike;
          claims = beside.claims;
          sides = (beside.sides).sides;
          reserved = (beside.sides).reserved;
          senders = (beside.sides).senders;
        };
      }
  hubs_told beside (Err e) h = tt

  pub hubs_unlike : ((names : Renaming) → ¬ AlikeBoards names x y) → ¬ AreAlike a b
  hubs_unlike none alike =
      none alike.0 (subst (λ z. AlikeBoards alike.0 z y) (sym one)
      (subst (λ z. AlikeBoards alike.0 a.board z) (sym other) (alike.1).board))
