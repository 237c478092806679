-- What becomes of claimed messages.
use Rattle.std.proofs.Common.{◌≡◌, inl, inr, ℕ, suc, List, [], ◌∷◌, ◌++◌, Bool, true, false, cond, not, ◌&&◌, Some, refl, sym, ap, ◌∙◌}
use Rattle.std.specs.Prelude.{◌==◌, ◌||◌, slice_get}
use Rattle.std.specs.List.{list_any}
use Rattle.std.proofs.lemmas.Bool.{and_parts, eqb-true, eq-eqb}
use Rattle.mp_probe.specs.declared.handles.Waiting.{Waiting}
use Rattle.mp_probe.specs.Claims.{is_claim, is_waiting, may_receive, without_claim}
use Rattle.mp_probe.specs.Laws.{ClaimsLaw, IsOther}

or_false : (b : Bool) → (b || false) ≡ b
or_false true = refl
or_false false = refl

any_last : (p : Waiting → Bool) (ws : List Waiting) (x : Waiting)
    → list_any p (ws ++ x ∷ []) ≡ (list_any p ws || p x)
any_last p [] x = or_false (p x)
any_last p (w ∷ ws) x = go (p w) (any_last p ws x)
  where
    go : (b : Bool) → list_any p (ws ++ x ∷ []) ≡ (list_any p ws || p x)
        → (b || list_any p (ws ++ x ∷ [])) ≡ ((b || list_any p ws) || p x)
    go true e = refl
    go false e = e

or_true : (b : Bool) → (b || true) ≡ true
or_true true = refl
or_true false = refl

no : (b : Bool) → (b ≡ true → ⊥) → b ≡ false
no true never = absurd (never refl)
no false never = refl

-- a claim is that of its own rank and message, and of no other
own : (w : Waiting) → is_claim w.rank w.message w ≡ true
own w = ap (λ b. b && (w.message == w.message)) (eq-eqb w.rank w.rank refl) ∙ eq-eqb w.message w.message refl

is_own : (rank message : ℕ) (w : Waiting) → is_claim rank message w ≡ true → (w.rank ≡ rank) × (w.message ≡ message)
is_own rank message w e =
    let both = and_parts (w.rank == rank) (w.message == message) e in
    (eqb-true w.rank rank both.0, eqb-true w.message message both.1)

not_both : (rank message other n : ℕ) (w : Waiting) → IsOther rank message other n → is_claim rank message w ≡ true
    → is_claim other n w ≡ false
not_both rank message other n w apart mine =
    let a = is_own rank message w mine in
    no (is_claim other n w) (λ theirs.
    elim apart [
      | inl differs ↦ differs (sym (is_own other n w theirs).0 ∙ a.0)
      | inr differs ↦ differs (sym (is_own other n w theirs).1 ∙ a.1)
    ])

at : (ws : List Waiting) (rank message : ℕ) → may_receive ws rank message ≡ true
    → (i : ℕ) × (w : Waiting) × (slice_get ws i ≡ Some w) × (w.rank ≡ rank) × (w.message ≡ message)
at [] rank message e = cc
at (w ∷ ws) rank message e = go (is_claim rank message w) refl (λ g. at ws rank message g)
  where
    go : (b : Bool) → is_claim rank message w ≡ b
        → (may_receive ws rank message ≡ true
        → (i : ℕ) × (v : Waiting) × (slice_get ws i ≡ Some v) × (v.rank ≡ rank) × (v.message ≡ message))
        → (i : ℕ) × (v : Waiting) × (slice_get (w ∷ ws) i ≡ Some v) × (v.rank ≡ rank) × (v.message ≡ message)
    go true is rest = let a = is_own rank message w is in (0, w, refl, a.0, a.1)
    go false is rest =
        let r = rest (sym (ap (λ b. b || may_receive ws rank message) is) ∙ e) in (suc r.0, r.1, r.2, r.3, r.4)

gone : (ws : List Waiting) (rank message : ℕ) → may_receive (without_claim ws rank message) rank message ≡ false
gone [] rank message = refl
gone (w ∷ ws) rank message = go (is_claim rank message w) refl (gone ws rank message)
  where
    go : (b : Bool) → is_claim rank message w ≡ b → may_receive (without_claim ws rank message) rank message ≡ false
        → may_receive (cond (not b) (w ∷ without_claim ws rank message) (without_claim ws rank message)) rank message
        ≡ false
    go true is rest = rest
    go false is rest = ap (λ b. b || may_receive (without_claim ws rank message) rank message) is ∙ rest

others : (ws : List Waiting) (rank message other n : ℕ) → IsOther rank message other n
    → may_receive (without_claim ws rank message) other n ≡ may_receive ws other n
others [] rank message other n apart = refl
others (w ∷ ws) rank message other n apart =
    go (is_claim rank message w) refl (others ws rank message other n apart)
  where
    go : (b : Bool) → is_claim rank message w ≡ b
        → may_receive (without_claim ws rank message) other n ≡ may_receive ws other n
        → may_receive (cond (not b) (w ∷ without_claim ws rank message) (without_claim ws rank message)) other n
        ≡ (is_claim other n w || may_receive ws other n)
    go true is rest =
        rest ∙ sym (ap (λ b. b || may_receive ws other n) (not_both rank message other n w apart is))
    go false is rest = ap (λ b. is_claim other n w || b) rest

waiting_for : (ws : List Waiting) (message : ℕ) → is_waiting ws message ≡ true
    → (rank : ℕ) × (may_receive ws rank message ≡ true)
waiting_for [] message e = cc
waiting_for (w ∷ ws) message e = go (w.message == message) refl (λ g. waiting_for ws message g)
  where
    go : (b : Bool) → (w.message == message) ≡ b
        → (is_waiting ws message ≡ true → (rank : ℕ) × (may_receive ws rank message ≡ true))
        → (rank : ℕ) × (may_receive (w ∷ ws) rank message ≡ true)
    go true is rest = (
      w.rank,
      ap (λ b. b || may_receive ws w.rank message)
          (ap (λ b. b && (w.message == message)) (eq-eqb w.rank w.rank refl) ∙ is),
    )
    go false is rest =
        let r = rest (sym (ap (λ b. b || is_waiting ws message) is) ∙ e) in
        (r.0, ap (λ b. is_claim r.0 message w || b) r.1 ∙ or_true (is_claim r.0 message w))

for_waits : (ws : List Waiting) (message rank : ℕ) → may_receive ws rank message ≡ true → is_waiting ws message ≡ true
for_waits [] message rank e = cc
for_waits (w ∷ ws) message rank e = go (is_claim rank message w) refl (λ g. for_waits ws message rank g)
  where
    go : (b : Bool) → is_claim rank message w ≡ b → (may_receive ws rank message ≡ true → is_waiting ws message ≡ true)
        → is_waiting (w ∷ ws) message ≡ true
    go true is rest =
        ap (λ b. b || is_waiting ws message) (eq-eqb w.message message (is_own rank message w is).1)
    go false is rest =
        ap (λ b. (w.message == message) || b) (rest (sym (ap (λ b. b || may_receive ws rank message) is) ∙ e))
        ∙ or_true (w.message == message)

pub law : ClaimsLaw
law = record {
  claimed = λ ws rank number e.
      let new : Waiting = record { message = number; rank = rank } in
      any_last (is_claim rank number) ws new
      ∙ (ap (λ b. list_any (is_claim rank number) ws || b) (own new) ∙ or_true (list_any (is_claim rank number) ws));
  claims_one = λ ws rank number other n e apart.
      let new : Waiting = record { message = number; rank = rank } in
      any_last (is_claim other n) ws new
      ∙ (ap (λ b. list_any (is_claim other n) ws || b) (not_both rank number other n new apart (own new))
      ∙ or_false (list_any (is_claim other n) ws));
  told = λ number e. refl;
  nothing = λ ws rank number. refl;
  nothing_told = λ number. refl;
  whose = at;
  once = gone;
  receives_one = others;
  waits = λ ws message. (waiting_for ws message, λ r. for_waits ws message r.0 r.1);
}
