-- The worked rows.
use Rattle.std.proofs.Common.{◌≡◌, ℕ, zero, suc, ◌<◌, ◌≤◌, List, [], ◌∷◌, true, false, Some, None, refl, sym, ap, ◌∙◌, arith}
use Rattle.std.specs.List.{slice_get}
use Rattle.std.specs.Option.{option_map}
use Rattle.std.proofs.lemmas.Option.{same_Some}
use Rattle.mp_types.specs.declared.replies.Reply.{Reply}
use Rattle.mp_types.specs.declared.replies.Reply.TheVariants as reply
use Rattle.mp_types.specs.declared.requests.Request.TheVariants as request
use Rattle.mp_match.specs.declared.posts.Line.{Line}
use Rattle.mp_match.specs.declared.posts.Post.{Post}
use Rattle.mp_match.specs.declared.posts.Post.TheVariants.{Send, Receive, Claim}
use Rattle.mp_match.specs.declared.posts.Selection.{Selection}
use Rattle.mp_match.specs.declared.posts.Sent.{Sent}
use Rattle.mp_match.specs.Board.{Board}
use Rattle.mp_hub.specs.Hub.{Call, reply_of}
use Rattle.mp_hub.specs.RankRows.{sends_in}
use Rattle.mp_alike_laws.specs.Renaming.{Renaming, line_by}
use Rattle.mp_alike_laws.specs.Alike.{IsUnpaired, maker}
use Rattle.mp_alike_laws.specs.Rows.{ByTwoClaims, Collected, OfOneRank, SynchronousPartner, ToOneRank, ToTwoRanks, WorkedHubs, after, claims_any, sends_sync}
use Rattle.mp_alike_laws.proofs.Answers.{answers_law}
use Rattle.mp_alike_laws.proofs.Held.{held_same}

-- ---- what tells replies apart

-- the source of a message that was got, or another number
source : Reply → ℕ
source (reply.Got m) = m.envelope.source
source _ = 9

first_of : List ℕ → ℕ
first_of [] = 0
first_of (byte ∷ bytes) = byte

byte : Reply → ℕ
byte (reply.Got m) = first_of m.bytes
byte _ = 0

is_done : Reply → ℕ
is_done reply.Done = 1
is_done _ = 0

-- ---- alike

swap : ℕ → ℕ
swap zero = 1
swap (suc zero) = 0
swap (suc (suc n)) = suc (suc n)

swap_twice : (n : ℕ) → swap (swap n) ≡ n
unfolding swap
swap_twice zero = refl
swap_twice (suc zero) = refl
swap_twice (suc (suc n)) = refl

swapped : Renaming
swapped = record { to = swap; back = swap; there = swap_twice; again = swap_twice }

two_ranks : ToTwoRanks
unfolding swap swapped
two_ranks = (
  swapped,
  record {
    links = refl;
    board = record {
      many = refl;
      next = next;
      lines = lines;
      bodies = bodies;
      claims = claims;
      ranks = ranks;
      sends = sends;
    };
    claims = refl;
    sides = λ s. refl;
    reserved = λ link. refl;
    senders = λ link. refl;
  },
)
  where
    a : Board
    a = (after (sends_in 0 0 2 7 97 ∷ sends_in 0 1 3 7 98 ∷ [])).board

    b : Board
    b = (after (sends_in 0 1 3 7 98 ∷ sends_in 0 0 2 7 97 ∷ [])).board

    next : (n : ℕ) → 2 ≤ n → swap n ≡ n
    next zero h = absurd (omega (arith, h))
    next (suc zero) h = absurd (omega (arith, h))
    next (suc (suc n)) h = refl

    lines : (n : ℕ) → slice_get b.lines (swap n) ≡ option_map (line_by swapped) (slice_get a.lines n)
    lines zero = refl
    lines (suc zero) = refl
    lines (suc (suc n)) = refl

    bodies : (n : ℕ) → slice_get b.bodies (swap n) ≡ slice_get a.bodies n
    bodies zero = refl
    bodies (suc zero) = refl
    bodies (suc (suc n)) = refl

    claims : (n : ℕ) (line : Line) (what : Selection) → slice_get a.lines n ≡ Some line → line.post ≡ Claim what
        → swap n ≡ n
    claims zero line what here is = absurd (cc)
    claims (suc zero) line what here is = absurd (cc)
    claims (suc (suc n)) line what here is = absurd (cc)

    ranks : (i j : ℕ) (m n : Line) → i < j → slice_get a.lines i ≡ Some m → slice_get a.lines j ≡ Some n
        → maker m.post ≡ maker n.post → swap i < swap j
    ranks zero zero m n below here there same = absurd (omega (arith, below))
    ranks zero (suc zero) m n below here there same =
        let e = ap (λ (x : Line). maker x.post) (same_Some _ m here) in
        let f = ap (λ (x : Line). maker x.post) (same_Some _ n there) in
        let g : 0 ≡ 1 = e ∙ same ∙ sym f in absurd (omega (arith, g))
    ranks zero (suc (suc j)) m n below here there same = absurd (cc)
    ranks (suc zero) zero m n below here there same = absurd (omega (arith, below))
    ranks (suc zero) (suc zero) m n below here there same = absurd (omega (arith, below))
    ranks (suc zero) (suc (suc j)) m n below here there same = absurd (cc)
    ranks (suc (suc i)) j m n below here there same = absurd (cc)

    sends : (i j : ℕ) (s t : Sent) → i < j → IsUnpaired a.lines i s → IsUnpaired a.lines j t → s.dest ≡ t.dest
        → s.envelope.comm ≡ t.envelope.comm → swap i < swap j
    sends zero zero s t below here there dest comm = absurd (omega (arith, below))
    sends zero (suc zero) s t below here there dest comm =
        let e = ap (λ (x : Line). maker x.post) (same_Some _ _ here) in
        let to : Post → ℕ = λ p. elim p [ Send u ↦ u.dest | Receive c ↦ 0 | Claim c ↦ 0 ] in
        let f = ap (λ (x : Line). to x.post) (same_Some _ _ here) in
        let g = ap (λ (x : Line). to x.post) (same_Some _ _ there) in
        let h : 2 ≡ 3 = f ∙ dest ∙ sym g in absurd (omega (arith, h))
    sends zero (suc (suc j)) s t below here there dest comm = absurd (cc)
    sends (suc zero) zero s t below here there dest comm = absurd (omega (arith, below))
    sends (suc zero) (suc zero) s t below here there dest comm = absurd (omega (arith, below))
    sends (suc zero) (suc (suc j)) s t below here there dest comm = absurd (cc)
    sends (suc (suc i)) j s t below here there dest comm = absurd (cc)

-- ---- not alike

one_rank : ToOneRank
unfolding source
one_rank alike =
    let a = sends_in 0 0 2 7 97 ∷ sends_in 0 1 2 7 98 ∷ [] in
    let b = sends_in 0 1 2 7 98 ∷ sends_in 0 0 2 7 97 ∷ [] in
    let e : 1 ≡ 0 = ap source (answers_law.reply alike.0 [] [] a b 2 (request.Recv true 0 None None) alike.1) in
    absurd (omega (arith, e))

one_source : OfOneRank
unfolding byte first_of
one_source alike =
    let a = sends_in 0 0 2 7 97 ∷ sends_in 0 0 2 7 98 ∷ [] in
    let b = sends_in 0 0 2 7 98 ∷ sends_in 0 0 2 7 97 ∷ [] in
    let e : 98 ≡ 97 = ap byte (answers_law.reply alike.0 [] [] a b 2 (request.Recv true 0 None None) alike.1) in
    absurd (omega (arith, e))

claims : ByTwoClaims
unfolding byte first_of
claims alike =
    let a = sends_in 0 0 2 7 97 ∷ sends_in 0 1 3 7 98 ∷ claims_any 2 ∷ claims_any 3 ∷ [] in
    let b = sends_in 0 0 2 7 97 ∷ sends_in 0 1 3 7 98 ∷ claims_any 3 ∷ claims_any 2 ∷ [] in
    let e : 0 ≡ 97 = ap byte (answers_law.reply alike.0 [] [] a b 2 (request.Claimed true 3) alike.1) in
    absurd (omega (arith, e))

collected : Collected
collected alike = (let e : 0 ≡ 1 = held_same alike.0 _ _ (alike.1).board in absurd (omega (arith, e)))

partner : SynchronousPartner
unfolding is_done
partner alike = go ((alike.0).to 1) told
  where
    a : List Call
    a = (1, request.Recv false 0 None None) ∷ sends_sync 0 97 ∷ sends_sync 2 98 ∷ []

    b : List Call
    b = (1, request.Recv false 0 None None) ∷ sends_sync 2 98 ∷ sends_sync 0 97 ∷ []

    told : is_done (reply_of [] b 0 (request.Finished (suc ((alike.0).to 1)))) ≡ 1
    told = ap is_done (answers_law.reply alike.0 [] [] a b 0 (request.Finished 2) alike.1)

    go : (n : ℕ) → is_done (reply_of [] b 0 (request.Finished (suc n))) ≡ 1 → ⊥
    go zero e = absurd (omega (arith, e))
    go (suc zero) e = absurd (omega (arith, e))
    go (suc (suc zero)) e = absurd (omega (arith, e))
    go (suc (suc (suc n))) e = absurd (omega (arith, e))

pub worked_hubs : WorkedHubs
worked_hubs = record {
  two_ranks = two_ranks;
  one_rank = one_rank;
  one_source = one_source;
  claims = claims;
  collected = collected;
  partner = partner;
}
