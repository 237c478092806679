-- Boards are alike by the names that were looked over, where posts that are over may be any that are.
use Rattle.std.proofs.Common.{◌≡◌, ℕ, ◌≤◌, ◌⊎◌, inl, inr, List, length, Option, Some, None, Result, Ok, Err, IfOk, refl, sym, ap, ◌∙◌, arith}
use Rattle.std.specs.Prelude.{IfSome}
use Rattle.std.proofs.Common.{subst}
use Rattle.std.specs.List.{slice_get}
use Rattle.std.specs.Option.{option_map}
use Rattle.std.proofs.lemmas.Bool.{cases_lt}
use Rattle.std.proofs.lemmas.Option.{slice_get_past}
use Rattle.mp_match.specs.Board.{Board}
use Rattle.mp_match.proofs.Places.{get_within}
use Rattle.mp_hub.specs.Hub.{HubView}
use Rattle.mp_alike_laws.specs.Renaming.{Renaming}
use Rattle.mp_source_laws.specs.Alike.{IsAlikeAt, is_same, over_sends, over_receives}
use Rattle.mp_alike.specs.Names.{AreLiveAlikeBy, renamed}
use Rattle.mp_alike.specs.InnerAlike.{HasLine, IsAlikeBeside, line_to}
use Rattle.mp_alike.specs.InnerLive.{AreBothOver, AreLiveAlikeBoards, AreTurned, IsLiveBoardBy, origin, origin_in}
use Rattle.mp_alike.proofs.Places.{past_end}

-- ---- to a renaming

module _ (many : ℕ) (to : List ℕ) (back : List (Option ℕ)) (turned : AreTurned many to back) where
  -- behind the ends of the lists
  stays : (place : ℕ) → many ≤ place → renamed to place ≡ place
  stays place past = past_end to place place (let e = turned.many_to in omega (arith, e, past))

  pub origin_stays : (place : ℕ) → many ≤ place → origin back place ≡ place
  origin_stays place past =
      ap (origin_in place) (slice_get_past back place (let e = turned.many_back in omega (arith, e, past)))

  pub there : (place : ℕ) → origin back (renamed to place) ≡ place
  there place = elim (cases_lt place many) [
    | inl below ↦ turned.there place (let e = turned.many_to in omega (arith, e, below))
    | inr past ↦ ap (origin back) (stays place past) ∙ origin_stays place past
  ]

  pub again : (place : ℕ) → renamed to (origin back place) ≡ place
  again place = elim (cases_lt place many) [
    | inl below ↦ turned.again place (let e = turned.many_back in omega (arith, e, below))
    | inr past ↦ ap (renamed to) (origin_stays place past) ∙ stays place past
  ]

  abbrev pub found : Renaming
  found = record { to = renamed to; back = origin back; there = there; again = again }

-- ---- boards

module _ (a b : Board) (many : length b.lines ≡ length a.lines) (to : List ℕ) (back : List (Option ℕ))
    (turned : AreTurned (length a.lines) to back) (even_a : length a.bodies ≡ length a.lines)
    (even_b : length b.bodies ≡ length b.lines) (h : AreLiveAlikeBoards to a b) where
  abbrev names : Renaming
  names = found (length a.lines) to back turned

  past_all : (place : ℕ) → length a.lines ≤ place → renamed to place ≡ place
  past_all = stays (length a.lines) to back turned

  alike_at : (place : ℕ) → HasLine to a.lines b.lines place ⊎ AreBothOver a b place (renamed to place)
      → IsAlikeAt names a b place
  alike_at place (inl line) = is_same line
  alike_at place (inr (inl sends)) = over_sends sends.0 sends.1
  alike_at place (inr (inr receives)) = over_receives receives.0 receives.1

  lines : (place : ℕ) → IsAlikeAt names a b place
  lines place = elim (cases_lt place (length a.lines)) [
    | inl below ↦ alike_at place (h.each place below).post
    | inr past ↦
        is_same
        (ap (slice_get b.lines) (past_all place past)
        ∙ slice_get_past b.lines place (let m = many in omega (arith, m, past))
        ∙ ap (option_map (line_to to)) (sym (slice_get_past a.lines place past)))
  ]

  bodies : (place : ℕ) → slice_get b.bodies (renamed to place) ≡ slice_get a.bodies place
  bodies place = elim (cases_lt place (length a.lines)) [
    | inl below ↦ (h.each place below).body
    | inr past ↦
        ap (slice_get b.bodies) (past_all place past)
        ∙ slice_get_past b.bodies place (let m = many in let e = even_b in omega (arith, m, e, past))
        ∙ sym (slice_get_past a.bodies place (let e = even_a in omega (arith, e, past)))
  ]

  pub live_alike_by : IsLiveBoardBy to a b
  live_alike_by = record {
    names = names;
    listed = λ place. refl;
    alike = λ wild. record {
      many = many;
      next = past_all;
      lines = lines;
      bodies = bodies;
      claims = λ place line what here is.
          (h.each place (get_within a.lines place line here)).claim line what here is;
      ranks = λ i j m n before here then made one other.
          (h.order).ranks i m (record { there = here; live = one }) j n before (record { there = then; live = other }) made;
      sends = λ i j s t before here then dest comm allowed. (h.order).sends i s here j t before then dest comm;
    };
  }

-- ---- and hubs

module _ (a b : HubView) (x y : Board) (one : x ≡ a.board) (other : y ≡ b.board) where
  pub live_told : {E : Type 0} → IsAlikeBeside a b → (r : Result (Option (List ℕ)) E)
      → IfOk r (λ found. IfSome found (λ names. IsLiveBoardBy names x y))
      → IfOk r (λ found. IfSome found (λ names. AreLiveAlikeBy names a b))
  live_told beside (Ok None) h = tt
  live_told beside (Ok (Some to)) h =
      let by : IsLiveBoardBy to a.board b.board =
      subst (λ z. IsLiveBoardBy to z b.board) one (subst (λ z. IsLiveBoardBy to x z) other h) in
      record {
        names = by.names;
        listed = by.listed;
        alike = λ wild. record {
          links = beside.links;
          board = by.alike wild;
          claims = beside.claims;
          sides = (beside.sides).sides;
          reserved = (beside.sides).reserved;
          senders = (beside.sides).senders;
        };
      }
  live_told beside (Err e) h = tt
