-- Positions in communicators, of rank 0 of 2 whose communicator 1 has the ranks in the other order.
use Rattle.std.specs.Prelude.{◌≡◌, ◌-◌, ◌^◌, [], ◌∷◌, map, Some, None, Bool, true, false}
use Rattle.rv_image_types.specs.declared.images.ImageVersion.TheVariants.{One}
use Rattle.cl_calls.specs.declared.needs.Peer.{Peer}
use Rattle.cl_calls.specs.declared.sites.Site.{Site}
use Rattle.cl_calls.specs.Checks.{is_comm, is_peer}
use Rattle.cl_calls.specs.Needs.{destination, other_side, source}
use Rattle.cl_calls.specs.Calls.{any, no_rank}
use Rattle.cl_calls.specs.Site.{member, members, position_of}

-- communicator 2 has rank 1 alone
abbrev pub of_two : Site
of_two = record {
  number = 0;
  ranks = 2;
  comms = (0 ∷ 1 ∷ []) ∷ (1 ∷ 0 ∷ []) ∷ (1 ∷ []) ∷ [];
  links = [];
  version = One;
}

abbrev pub MemberRows : Type 0
MemberRows =
    (map (members of_two) (0 ∷ 1 ∷ 2 ∷ 3 ∷ []) ≡ (0 ∷ 1 ∷ []) ∷ (1 ∷ 0 ∷ []) ∷ (1 ∷ []) ∷ [] ∷ [])
    × (map (member of_two 1) (0 ∷ 1 ∷ []) ≡ 1 ∷ 0 ∷ [])
    × (map (λ rank. position_of rank (4 ∷ 2 ∷ 7 ∷ [])) (4 ∷ 2 ∷ 7 ∷ 0 ∷ []) ≡ Some 0 ∷ Some 1 ∷ Some 2 ∷ None ∷ [])

-- a member of 0 and of 1, and of no other; where no communicator is asked for there is none to be a member of
abbrev pub CommRows : Type 0
CommRows =
    map (is_comm of_two) (None ∷ Some 0 ∷ Some 1 ∷ Some 2 ∷ Some 3 ∷ Some (2 ^ 64 - 1) ∷ [])
    ≡ true ∷ true ∷ true ∷ false ∷ false ∷ false ∷ []

abbrev pub is_peer_of_1 : Peer → Bool
is_peer_of_1 peer = is_peer of_two (Some 1) (Some peer)

-- positions 0 and 1; the null process for a destination and a source, and any rank for a source alone
abbrev pub PeerRows : Type 0
PeerRows =
    (map (λ rank. is_peer_of_1 (destination rank)) (0 ∷ 1 ∷ 2 ∷ any ∷ no_rank ∷ [])
    ≡ true ∷ true ∷ false ∷ false ∷ true ∷ [])
    ×
    (map (λ rank. is_peer_of_1 (source rank)) (0 ∷ 1 ∷ 2 ∷ any ∷ no_rank ∷ []) ≡ true ∷ true ∷ false ∷ true ∷ true ∷ [])
    ×
    (map (λ rank. is_peer_of_1 (other_side rank)) (0 ∷ 1 ∷ 2 ∷ any ∷ no_rank ∷ [])
    ≡ true ∷ true ∷ false ∷ false ∷ false ∷ [])
    × (map (is_peer of_two None) (Some (source 9) ∷ None ∷ []) ≡ true ∷ true ∷ [])
