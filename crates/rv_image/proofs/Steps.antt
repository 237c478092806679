-- What steps one after the other take from the bytes, and that they read it again.
use Rattle.std.proofs.Common.{◌≡◌, ◌≢◌, ℕ, zero, suc, ◌+◌, ◌≤◌, Bool, true, false, cond, not, ◌&&◌, ltb, leb, eqb, List, [], ◌∷◌, ◌++◌, length, Result, Ok, Err, refl, sym, ap, subst, ◌∙◌, append_assoc}
use Rattle.std.specs.List.{flat_map}
use Rattle.std.proofs.lemmas.Bool.{and_parts, and_from, ltb-true, lt-ltb, leb-true, le-leb, eqb-true, eqb-false}
use Rattle.std.proofs.lemmas.List.{append-nil}
use Rattle.std.proofs.lemmas.List.Concat.{flat_map-cons}
use Rattle.rv_image.specs.declared.faults.ImageFault.{ImageFault}
use Rattle.rv_image.specs.declared.faults.ImageFault.TheVariants as faults
use Rattle.rv_image_types.specs.declared.images.Link.{Link}
use Rattle.rv_image_types.specs.Image.{IsCommunicator, IsLink}
use Rattle.rv_image.specs.Text.{comm_text, link_text}
use Rattle.rv_image.specs.Reading.{◌>>=◌, is_within, is_new_rank, next_byte, repeated, next_member, comm_at, next_comm, link_at, next_link}
use Rattle.rv_image.proofs.Takes.{IsBytes, bind_ok, want_ok, ok_is, Takes, Takes-then, byte_takes}
use Rattle.rv_image.proofs.Distinct.{nothing_distinct, AllAfter, IsNewRank, not_true, AllAfter-there, AllAfter-distinct, distinct-AllAfter}

pub record StepTakes {A : Type 0} (text : A → List ℕ) (Right : List A → A → Type 0) (done : List A) (bytes : List ℕ) (x : List A × List ℕ) : Type 0 where
  pub item : A
  pub is : x.0 ≡ done ++ item ∷ []
  pub takes : Takes bytes (text item) x.1
  pub right : Right done item

pub record AllTakes {A : Type 0} (text : A → List ℕ) (Right : List A → A → Type 0) (k : ℕ) (done : List A) (bytes : List ℕ) (x : List A × List ℕ) : Type 0 where
  pub items : List A
  pub is : x.0 ≡ done ++ items
  pub takes : Takes bytes (flat_map text items) x.1
  pub right : AllAfter Right done items
  pub len : length items ≡ k

pub repeated_takes : {A : Type 0} (step : List A → List ℕ → Result (List A × List ℕ) ImageFault) (text : A → List ℕ) (Right : List A → A → Type 0)
    → ((done : List A) (bytes : List ℕ) (x : List A × List ℕ) → IsBytes bytes → step done bytes ≡ Ok x → StepTakes text Right done bytes x)
    → (k : ℕ) (done : List A) (bytes : List ℕ) (x : List A × List ℕ) → IsBytes bytes → repeated step k done bytes ≡ Ok x → AllTakes text Right k done bytes x
unfolding repeated
repeated_takes {A = A} step text Right law zero done bytes x fits e =
    subst (AllTakes text Right 0 done bytes) (ok_is (done, bytes) x e) (record { items = []; is = sym (append-nil done); takes = record { parts = refl; rest_fits = fits }; right = tt; len = refl })
repeated_takes {A = A} step text Right law (suc k) done bytes x fits e =
    let a = bind_ok (step done bytes) (λ next. repeated step k next.0 next.1) x e in
    let first = law done bytes a.0 fits a.1 in
    let others = repeated_takes step text Right law k a.0.0 a.0.1 x first.takes.rest_fits a.2 in
    let regrouped : (done ++ first.item ∷ []) ++ others.items ≡ done ++ (first.item ∷ others.items) = append_assoc done (first.item ∷ []) others.items in
    record {
      items = first.item ∷ others.items;
      is = others.is ∙ ap (λ (d : List A). d ++ others.items) first.is ∙ regrouped;
      takes = subst (λ (t : List ℕ). Takes bytes t x.1) (sym (flat_map-cons text first.item others.items)) (Takes-then bytes (text first.item) a.0.1 (flat_map text others.items) x.1 first.takes others.takes);
      right = (first.right, subst (λ (d : List A). AllAfter Right d others.items) first.is others.right);
      len = ap suc others.len;
    }

pub repeated_again : {A : Type 0} (step : List A → List ℕ → Result (List A × List ℕ) ImageFault) (text : A → List ℕ) (Right : List A → A → Type 0)
    → ((done : List A) (a : A) (rest : List ℕ) → Right done a → step done (text a ++ rest) ≡ Ok (done ++ a ∷ [], rest))
    → (items done : List A) (rest : List ℕ) → AllAfter Right done items → repeated step (length items) done (flat_map text items ++ rest) ≡ Ok (done ++ items, rest)
unfolding repeated
repeated_again {A = A} step text Right law [] done rest right = ap (λ (d : List A). Ok (d, rest)) (sym (append-nil done))
repeated_again {A = A} step text Right law (a ∷ items) done rest right =
    let regrouped : flat_map text (a ∷ items) ++ rest ≡ text a ++ (flat_map text items ++ rest) = ap (λ (x : List ℕ). x ++ rest) (flat_map-cons text a items) ∙ append_assoc (text a) (flat_map text items) rest in
    ap (repeated step (suc (length items)) done) regrouped
    ∙ rw (law done a (flat_map text items ++ rest) right.0) (repeated_again step text Right law items (done ++ a ∷ []) rest right.1 ∙ ap (λ (d : List A). Ok (d, rest)) (append_assoc done (a ∷ []) items))

pub is_within-true : (least most n : ℕ) → is_within least most n ≡ true → (least ≤ n) × (n ≤ most)
is_within-true least most n e = let p = and_parts (leb least n) (leb n most) e in (leb-true least n p.0, leb-true n most p.1)

pub true-is_within : (least most n : ℕ) → least ≤ n → n ≤ most → is_within least most n ≡ true
true-is_within least most n low high = and_from (leb least n) (leb n most) (le-leb least n low) (le-leb n most high)

-- ---- members

member_takes : (total ranks n : ℕ) (named bytes : List ℕ) (x : List ℕ × List ℕ) → IsBytes bytes → next_member total ranks n named bytes ≡ Ok x → StepTakes (λ r. r ∷ []) (IsNewRank ranks) named bytes x
member_takes total ranks n named bytes x fits e =
    let a = bind_ok (next_byte total bytes) (λ r. cond (is_new_rank ranks named r.0) (Ok (named ++ r.0 ∷ [], r.1)) (Err (faults.Comm n))) x e in
    let g = want_ok (is_new_rank ranks named a.0.0) (faults.Comm n) (Ok (named ++ a.0.0 ∷ [], a.0.1)) x a.2 in
    subst (StepTakes (λ r. r ∷ []) (IsNewRank ranks) named bytes) (ok_is (named ++ a.0.0 ∷ [], a.0.1) x g.1) (record { item = a.0.0; is = refl; takes = byte_takes total bytes a.0.0 a.0.1 fits a.1; right = g.0 })

member_again : (total ranks n : ℕ) (named : List ℕ) (r : ℕ) (rest : List ℕ) → IsNewRank ranks named r → next_member total ranks n named ((r ∷ []) ++ rest) ≡ Ok (named ++ r ∷ [], rest)
member_again total ranks n named r rest new = rw new refl

themselves : (xs : List ℕ) → flat_map (λ r. r ∷ []) xs ≡ xs
themselves [] = refl
themselves (x ∷ xs) = flat_map-cons (λ r. r ∷ []) x xs ∙ ap (λ (ys : List ℕ). x ∷ ys) (themselves xs)

-- ---- communicators

comm_at_takes : (total ranks n : ℕ) (bytes : List ℕ) (x : List ℕ × List ℕ) → IsBytes bytes → comm_at total ranks n bytes ≡ Ok x → Takes bytes (comm_text x.0) x.1 × IsCommunicator ranks x.0
unfolding comm_at
comm_at_takes total ranks n bytes x fits e =
    let a = bind_ok (next_byte total bytes) (λ count. cond (is_within 1 8 count.0) (repeated (next_member total ranks n) count.0 [] count.1) (Err (faults.Comm n))) x e in
    let g = want_ok (is_within 1 8 a.0.0) (faults.Comm n) (repeated (next_member total ranks n) a.0.0 [] a.0.1) x a.2 in
    let first = byte_takes total bytes a.0.0 a.0.1 fits a.1 in
    let all = repeated_takes (next_member total ranks n) (λ r. r ∷ []) (IsNewRank ranks) (member_takes total ranks n) a.0.0 [] a.0.1 x first.rest_fits g.1 in
    let both = Takes-then bytes (a.0.0 ∷ []) a.0.1 (flat_map (λ r. r ∷ []) all.items) x.1 first all.takes in
    let members : flat_map (λ r. r ∷ []) all.items ≡ x.0 = themselves all.items ∙ sym all.is in
    let len : a.0.0 ≡ length x.0 = sym all.len ∙ ap length (sym all.is) in
    let size = is_within-true 1 8 (length x.0) (subst (λ (k : ℕ). is_within 1 8 k ≡ true) len g.0) in
    let new = subst (λ (t : List ℕ). AllAfter (IsNewRank ranks) [] t) (sym all.is) all.right in (
      subst (λ (t : List ℕ). Takes bytes t x.1) (ap (λ (t : List ℕ). a.0.0 ∷ t) members ∙ ap (λ (k : ℕ). k ∷ x.0) len) both,
      record { has_members = size.0; few_members = size.1; ranks_there = AllAfter-there ranks [] x.0 new; distinct = AllAfter-distinct ranks [] x.0 (nothing_distinct) new },
    )

pub comm_takes : (total ranks : ℕ) (done : List (List ℕ)) (bytes : List ℕ) (x : List (List ℕ) × List ℕ) → IsBytes bytes → next_comm total ranks done bytes ≡ Ok x → StepTakes comm_text (λ _ c. IsCommunicator ranks c) done bytes x
comm_takes total ranks done bytes x fits e =
    let a = bind_ok (comm_at total ranks (length done + 1) bytes) (λ comm. Ok (done ++ comm.0 ∷ [], comm.1)) x e in
    let t = comm_at_takes total ranks (length done + 1) bytes a.0 fits a.1 in
    subst (StepTakes comm_text (λ _ c. IsCommunicator ranks c) done bytes) (ok_is (done ++ a.0.0 ∷ [], a.0.1) x a.2) (record { item = a.0.0; is = refl; takes = t.0; right = t.1 })

comm_at_again : (total ranks n : ℕ) (comm rest : List ℕ) → IsCommunicator ranks comm → comm_at total ranks n (comm_text comm ++ rest) ≡ Ok (comm, rest)
unfolding comm_at
comm_at_again total ranks n comm rest is =
    let size = true-is_within 1 8 (length comm) is.has_members is.few_members in
    let new = distinct-AllAfter ranks [] comm is.ranks_there is.distinct in
    let read : repeated (next_member total ranks n) (length comm) [] (comm ++ rest) ≡ Ok (comm, rest) = ap (λ (t : List ℕ). repeated (next_member total ranks n) (length comm) [] (t ++ rest)) (sym (themselves comm)) ∙ repeated_again (next_member total ranks n) (λ r. r ∷ []) (IsNewRank ranks) (member_again total ranks n) comm [] rest new in
    rw size read

pub comm_again : (total ranks : ℕ) (done : List (List ℕ)) (comm rest : List ℕ) → IsCommunicator ranks comm → next_comm total ranks done (comm_text comm ++ rest) ≡ Ok (done ++ comm ∷ [], rest)
comm_again total ranks done comm rest is = rw (comm_at_again total ranks (length done + 1) comm rest is) refl

-- ---- links

eqb_not : (a b : ℕ) → a ≢ b → not (eqb a b) ≡ true
eqb_not a b differ = decided (eqb a b) (λ same. differ (eqb-true a b same))
  where
    decided : (same : Bool) → (same ≡ true → ⊥) → not same ≡ true
    decided true differs = absurd (differs refl)
    decided false differs = refl

link_at_takes : (total ranks n : ℕ) (bytes : List ℕ) (x : Link × List ℕ) → IsBytes bytes → link_at total ranks n bytes ≡ Ok x → Takes bytes (link_text x.0) x.1 × IsLink ranks x.0
unfolding link_at
link_at_takes total ranks n bytes x fits e =
    let made : ℕ → ℕ → Link = λ from to. record { from = from; to = to } in
    let second : ℕ × List ℕ → Result (Link × List ℕ) ImageFault = λ from. next_byte total from.1 >>= λ to. cond (ltb to.0 ranks && not (eqb to.0 from.0)) (Ok (made from.0 to.0, to.1)) (Err (faults.Link n)) in
    let a = bind_ok (next_byte total bytes) (λ from. cond (ltb from.0 ranks) (second from) (Err (faults.Link n))) x e in
    let g = want_ok (ltb a.0.0 ranks) (faults.Link n) (second a.0) x a.2 in
    let b = bind_ok (next_byte total a.0.1) (λ to. cond (ltb to.0 ranks && not (eqb to.0 a.0.0)) (Ok (made a.0.0 to.0, to.1)) (Err (faults.Link n))) x g.1 in
    let f = want_ok (ltb b.0.0 ranks && not (eqb b.0.0 a.0.0)) (faults.Link n) (Ok (made a.0.0 b.0.0, b.0.1)) x b.2 in
    let h = and_parts (ltb b.0.0 ranks) (not (eqb b.0.0 a.0.0)) f.0 in
    let first = byte_takes total bytes a.0.0 a.0.1 fits a.1 in
    let other = byte_takes total a.0.1 b.0.0 b.0.1 first.rest_fits b.1 in
    let both = Takes-then bytes (a.0.0 ∷ []) a.0.1 (b.0.0 ∷ []) b.0.1 first other in
    subst (λ (y : Link × List ℕ). Takes bytes (link_text y.0) y.1 × IsLink ranks y.0) (ok_is (made a.0.0 b.0.0, b.0.1) x f.1) (both, record { from_there = ltb-true a.0.0 ranks g.0; to_there = ltb-true b.0.0 ranks h.0; differ = eqb-false b.0.0 a.0.0 (not_true (eqb b.0.0 a.0.0) h.1) })

pub link_takes : (total ranks : ℕ) (done : List Link) (bytes : List ℕ) (x : List Link × List ℕ) → IsBytes bytes → next_link total ranks done bytes ≡ Ok x → StepTakes link_text (λ _ l. IsLink ranks l) done bytes x
link_takes total ranks done bytes x fits e =
    let a = bind_ok (link_at total ranks (length done) bytes) (λ link. Ok (done ++ link.0 ∷ [], link.1)) x e in
    let t = link_at_takes total ranks (length done) bytes a.0 fits a.1 in
    subst (StepTakes link_text (λ _ l. IsLink ranks l) done bytes) (ok_is (done ++ a.0.0 ∷ [], a.0.1) x a.2) (record { item = a.0.0; is = refl; takes = t.0; right = t.1 })

link_at_again : (total ranks n : ℕ) (link : Link) (rest : List ℕ) → IsLink ranks link → link_at total ranks n (link_text link ++ rest) ≡ Ok (link, rest)
unfolding link_at
link_at_again total ranks n link rest is = rw (lt-ltb link.from ranks is.from_there, lt-ltb link.to ranks is.to_there, eqb_not link.to link.from is.differ) refl

pub link_again : (total ranks : ℕ) (done : List Link) (link : Link) (rest : List ℕ) → IsLink ranks link → next_link total ranks done (link_text link ++ rest) ≡ Ok (done ++ link ∷ [], rest)
link_again total ranks done link rest is = rw (link_at_again total ranks (length done) link rest is) refl
