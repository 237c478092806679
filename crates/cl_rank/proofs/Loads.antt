-- The sides of a rank as it is loaded.
use Rattle.std.proofs.Common.{◌≡◌, ℕ, zero, suc, ◌<◌, ◌≤◌, ◌^◌, List, [], ◌∷◌, length, map, replicate, get_or, Option, Some, None, refl, sym, ap, subst, ◌∙◌, arith}
use Rattle.std.specs.Prelude.{All}
use Rattle.rv_image_types.specs.declared.images.ImageParts.{ImageParts}
use Rattle.mp_request.specs.declared.entries.OpenRequest.{OpenRequest}
use Rattle.mp_request.specs.declared.entries.Partitions.{Partitions}
use Rattle.mp_request.specs.Table.{no_requests, request_at}
use Rattle.part_box.specs.Keys.{BoxId, Sender, new_sender}
use Rattle.part_channel.specs.Receiving.{RecvView}
use Rattle.part_channel.specs.Sending.{IsPast, SendView}
use Rattle.part_phase.specs.declared.phases.Phase.{Phase}
use Rattle.cl_calls.specs.Checks.{sending_side}
use Rattle.cl_state.specs.Rank.{Rank, loaded}
use Rattle.cl_rank.specs.Fitting.{RequestsFit}
use Rattle.cl_sides.specs.Sides.{AreNewSides, AreSides, sides_in}

-- a key that knows nothing is past at any clock
new_past : (clock : ℕ) (boxes : List BoxId) → All (λ (key : Sender). key.view.front ≤ clock) (map new_sender boxes)
new_past clock [] = λ i d low. absurd (omega (arith, low))
new_past clock (b ∷ bs) = at (new_past clock bs)
  where
    at : All (λ (key : Sender). key.view.front ≤ clock) (map new_sender bs) → (i : ℕ) (d : Sender) → i < length (map new_sender (b ∷ bs))
        → (get_or (map new_sender (b ∷ bs)) i d).view.front ≤ clock
    at rest zero d low = omega arith
    at rest (suc i) d low = rest i d (omega (arith, low))

abbrev nothing : Option OpenRequest
nothing = None

none_at : (n place : ℕ) → get_or (replicate n nothing) place nothing ≡ nothing
none_at zero zero = refl
none_at zero (suc place) = refl
none_at (suc n) zero = refl
none_at (suc n) (suc place) = none_at n place

none_open : (handle : ℕ) → request_at no_requests handle ≡ None
none_open zero = refl
none_open (suc place) = none_at 255 place

none_some : (side : Partitions) → None ≡ Some side → ⊥
none_some side h = cc

-- no request is open
no_fit : (phases : List Phase) → RequestsFit no_requests phases
no_fit phases = record {
  size = λ handle side is. absurd (none_some side (sym (ap sending_side (none_open handle)) ∙ is));
}

module _ (new : Rank) (image : ImageParts) (rank : ℕ) (is : new ≡ loaded image rank) where
  pub clock_low : new.clock < 2 ^ 62
  clock_low = let start : new.clock ≡ 0 = ap (λ (r : Rank). r.clock) is in omega (arith, start)

  pub new_fit : RequestsFit new.requests new.phases
  new_fit = subst (λ (r : Rank). RequestsFit r.requests r.phases) (sym is) (no_fit (loaded image rank).phases)

  pub new_sides : (sends : List (ℕ × SendView)) (recvs : List (ℕ × RecvView))
      → AreNewSides image.links rank (sides_in sends recvs)
      → AreSides new.site.version new.phases new.clock (sides_in sends recvs)
  new_sides sends recvs fresh =
      subst (λ (r : Rank). AreSides r.site.version r.phases r.clock (sides_in sends recvs)) (sym is) (record {
        fit = fresh.fit;
        sizes = λ link s there.
            let size : s.size ≡ 0 = ap (λ (x : SendView). x.size) (fresh.sends link s there).1 in omega (arith, size);
        past = λ link s there.
            subst (λ x. IsPast x 0) (sym (fresh.sends link s there).1) (new_past 0 (fresh.sends link s there).0);
        uncut = λ link r there none. ap (λ (x : RecvView). x.boxes) (fresh.recvs link r there).1;
      })
