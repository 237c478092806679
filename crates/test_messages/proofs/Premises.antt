-- At these calls the premises of the hub's laws hold.
use Rattle.std.proofs.Common.{◌≡◌, ◌⊎◌, ℕ, zero, suc, inl, inr, Bool, true, false, List, [], ◌∷◌, Option, Some, None, refl, sym, ap, ◌∙◌, subst, arith}
use Rattle.std.specs.Prelude.{◌||◌, nat_eq}
use Rattle.std.specs.List.{slice_get, list_any, Contains}
use Rattle.std.proofs.lemmas.Bool.{eq-eqb}
use Rattle.std.proofs.lemmas.Option.{same_Some}
use Rattle.mp_match.specs.declared.posts.Sent.{Sent}
use Rattle.mp_match.specs.declared.posts.Selection.{Selection}
use Rattle.mp_match.specs.declared.posts.Post.{Post}
use Rattle.mp_match.specs.declared.posts.Post.TheVariants as post
use Rattle.mp_match.specs.Order.{ReceivesAt}
use Rattle.mp_hub.specs.Hub.{Call}
use Rattle.mp_hub.specs.Histories.{posts_after, got_after, received_after}
use Rattle.mp_hub.specs.Losses.{ClaimsOf, CollectsOf}
use Rattle.mp_hub.specs.Finished.{IsReceived, IsReadyFor}
use Rattle.mp_hub.specs.Replies.{SendsOf, IsNumberOf}
use Rattle.test_messages.specs.Premises.{some_calls, LossPremises, FinishedPremises, TogetherPremises, OwnersPremises, LinksPremises, HubPremises}

-- ---- numbers that a list doesn't have

at_head : (x : ℕ) (xs : List ℕ) (n : ℕ) → Contains (x ∷ xs) n → (x ≡ n) ⊎ Contains xs n
at_head x xs n (zero, lt, e) = inl e
at_head x xs n (suc k, lt, e) = inr (k, omega (arith, lt), e)

or_false : (a b : Bool) → (a || b) ≡ false → (a ≡ false) × (b ≡ false)
or_false true b e = absurd (cc)
or_false false b e = (refl, e)

none_in : (xs : List ℕ) (n : ℕ) → list_any (λ x. nat_eq x n) xs ≡ false → ¬ Contains xs n
none_in [] n e c = absurd (omega (arith, c.1))
none_in (x ∷ xs) n e c =
    let parts = or_false (nat_eq x n) (list_any (λ y. nat_eq y n) xs) e in
    elim (at_head x xs n c) [
      | inl same ↦ (let found = eq-eqb x n same in absurd (cc))
      | inr later ↦ none_in xs n parts.1 later
    ]

-- ---- whose a post is, one more than the rank; 0 of a post of another kind

abbrev receiver : Option Post → ℕ
receiver (Some (post.Receive a)) = suc a.rank
receiver o = 0

abbrev claimer : Option Post → ℕ
claimer (Some (post.Claim a)) = suc a.rank
claimer o = 0

abbrev sender : Option Post → ℕ
sender (Some (post.Send s)) = suc s.envelope.source
sender o = 0

at_place : (P : ℕ → Type 0) (k : ℕ) → IsNumberOf P (suc k) → P k
at_place P k (place, e, p) = subst P (omega (arith, e)) p

module _ (calls : List Call) (rank place : ℕ) where
  abbrev at : Option Post
  at = slice_get (posts_after [] calls) place

  claims_by : ClaimsOf [] calls rank place → claimer at ≡ suc rank
  claims_by (a, e, r) = ap claimer e ∙ ap suc r

  collects_by : CollectsOf [] calls rank place
      → (receiver at ≡ suc rank) ⊎ ((claimer at ≡ suc rank) × Contains (received_after [] calls) (suc place))
  collects_by (inl (a, e, r)) = inl (ap receiver e ∙ ap suc r)
  collects_by (inr (c, t)) = inr (claims_by c, t)

  sends_by : SendsOf [] calls rank place → sender at ≡ suc rank
  sends_by (s, e, r) = ap sender e ∙ ap suc r

-- rank 1 asks for the tag, and a rank sent a message with it
abbrev asks : ℕ → Selection
asks tag = record { rank = 1; comm = 0; source = None; tag = Some tag }

abbrev sent : Bool → ℕ → Sent
sent sync tag = record { sync = sync; dest = 1; envelope = record { comm = 0; source = 0; tag = tag; count = 1 } }

abbrev sent_back : Sent
sent_back = record { sync = false; dest = 0; envelope = record { comm = 0; source = 1; tag = 1; count = 1 } }

first_waits : ¬ Contains (got_after [] some_calls) 1
first_waits = none_in (got_after [] some_calls) 1 refl

seventh_waits : ¬ Contains (got_after [] some_calls) 7
seventh_waits = none_in (got_after [] some_calls) 7 refl

fifth_waits : ¬ Contains (received_after [] some_calls) 5
fifth_waits = none_in (received_after [] some_calls) 5 refl

seventh_received : Contains (received_after [] some_calls) 7
seventh_received = (0, omega arith, refl)

receives : CollectsOf [] some_calls 1 0
receives = inl (asks 1, refl, refl)

collects_claim : CollectsOf [] some_calls 1 6
collects_claim = inr ((asks 4, refl, refl), seventh_received)

loss : LossPremises
loss = record {
  collected = (receives, refl, first_waits);
  claim_collected = (collects_claim, refl, seventh_waits);
  waited = (inl (asks 2, refl, refl), refl);
  claimed = ((asks 3, refl, refl), fifth_waits);
  there = (7, sent false 5, refl, refl, record { rank = refl; comm = refl; source = inl refl; tag = inr refl });
  all = refl;
}

abbrev IsTakenAt : Selection → ℕ → Type 0
IsTakenAt a k =
    ReceivesAt (posts_after [] some_calls) k a
    ⊎ ((slice_get (posts_after [] some_calls) k ≡ Some (post.Claim a))
    × Contains (received_after [] some_calls) (suc k))

not_taken : (a : Selection) → IsTakenAt a 4 → ⊥
not_taken a (inl receive) = (let h : 0 ≡ suc a.rank = ap receiver receive in absurd (omega (arith, h)))
not_taken a (inr claim) = fifth_waits claim.1

-- the fourth post's partner is the claim that wasn't received
not_received : IsReceived [] some_calls 3 → ⊥
not_received (j, a, pair, taken) = not_taken a (subst (IsTakenAt a) (sym (same_Some 4 j pair)) taken)

finished : FinishedPremises
finished = record {
  standard = (sent false 5, refl, inl refl);
  received = (sent true 1, refl, inr (0, asks 1, refl, inl refl));
  claimed = (sent true 4, refl, inr (6, asks 4, refl, inr (refl, seventh_received)));
  not_yet = (sent true 3, refl, λ complete. elim complete [ inl standard ↦ absurd (cc) | inr e ↦ not_received e ]);
}

together : TogetherPremises
together = record {
  once = (none_in (7 ∷ 11 ∷ []) 1 refl, (none_in (11 ∷ []) 7 refl, (none_in [] 11 refl, tt)));
  ready = λ number c. ready number c;
}
  where
    none : (n : ℕ) → ¬ Contains [] n
    none n c = absurd (omega (arith, c.1))

    ready : (number : ℕ) → Contains (1 ∷ 7 ∷ 11 ∷ []) number
        → (place : ℕ) × (number ≡ suc place) × IsReadyFor [] some_calls 1 place
    ready number c = elim (at_head 1 (7 ∷ 11 ∷ []) number c) [
      | inl e ↦ (0, sym e, inl (receives, (2, refl), first_waits))
      | inr c ↦ elim (at_head 7 (11 ∷ []) number c) [
        | inl e ↦ (6, sym e, inl (collects_claim, (5, refl), seventh_waits))
        | inr c ↦ elim (at_head 11 [] number c) [
          | inl e ↦ (10, sym e, inr (sent_back, refl, refl, inl refl))
          | inr c ↦ absurd (none number c)
        ]
      ]
    ]

not_collected : ¬ IsNumberOf (CollectsOf [] some_calls 0) 1
not_collected n = elim (collects_by some_calls 0 0 (at_place _ 0 n)) [
  | inl e ↦ (let h : 2 ≡ 1 = e in absurd (omega (arith, h)))
  | inr e ↦ (let h : 0 ≡ 1 = e.0 in absurd (omega (arith, h)))
]

not_sent : ¬ IsNumberOf (SendsOf [] some_calls 0) 1
not_sent n = let h : 0 ≡ 1 = sends_by some_calls 0 0 (at_place _ 0 n) in absurd (omega (arith, h))

not_sent_either : ¬ IsNumberOf (SendsOf [] some_calls 1) 10
not_sent_either n = let h : 0 ≡ 2 = sends_by some_calls 1 9 (at_place _ 9 n) in absurd (omega (arith, h))

owners : OwnersPremises
owners = record {
  collects = not_collected;
  not_received = λ n. elim (collects_by some_calls 1 4 (at_place _ 4 n)) [
    | inl e ↦ (let h : 0 ≡ 2 = e in absurd (omega (arith, h)))
    | inr e ↦ fifth_waits e.1
  ];
  collects_once = (0, omega arith, refl);
  finishes = λ n. (let h : 1 ≡ 2 = sends_by some_calls 1 2 (at_place _ 2 n) in absurd (omega (arith, h)));
  claims = λ n. (let h : 2 ≡ 1 = claims_by some_calls 0 4 (at_place _ 4 n) in absurd (omega (arith, h)));
  claims_once = seventh_received;
  all = ((1, omega arith, refl), not_sent, not_collected);
  all_once = ((1, omega arith, refl), not_sent_either, (9, refl, inl (asks 6, refl, refl)), (0, omega arith, refl));
  all_refused = refl;
  unchanged = refl;
}

links : LinksPremises
links = record {
  sending = refl;
  receiving = refl;
  one_each = refl;
  first_sender = (_, refl, refl, refl);
  second_sender = (_, refl, refl, refl);
  first_receiver = (_, refl, refl, refl);
  second_receiver = (_, refl, refl, refl);
  first_pair = (_, _, refl, refl, refl, refl);
  second_pair = (_, _, refl, refl, refl, refl);
  one_transfer = (_, _, refl, refl, refl, refl, refl);
  no_sending = (refl, (record { from = 0; to = 1 }, refl, refl, refl));
  no_receiving = (refl, (record { from = 0; to = 1 }, refl, refl, refl));
}

pub hub_premises : HubPremises
hub_premises = record { loss = loss; finished = finished; together = together; owners = owners; links = links }
