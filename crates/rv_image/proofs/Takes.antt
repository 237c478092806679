-- What a reading takes from the front of the bytes.
use Rattle.std.proofs.Common.{◌≡◌, ℕ, suc, ◌+◌, ◌<◌, ◌≤◌, Bool, true, false, cond, ltb, List, [], ◌∷◌, ◌++◌, length, get_or, take, drop, Option, Some, None, Result, Ok, Err, refl, sym, ap, subst, ◌∙◌, append_assoc, arith}
use Rattle.std.proofs.lemmas.Bool.{ltb-false, le-ltb}
use Rattle.std.proofs.lemmas.List.{take_at, drop_at, take-append-drop, length-append, length-take, get_or-drop}
use Rattle.rv_image.specs.declared.faults.ImageFault.{ImageFault}
use Rattle.rv_image.specs.declared.faults.ImageFault.TheVariants as faults
use Rattle.rv_image.specs.Reading.{◌>>=◌, next_byte, next_bytes, unless}

abbrev pub IsBytes : List ℕ → Type 0
IsBytes bytes = (i : ℕ) → get_or bytes i 0 < 256

pub IsBytes-drop : (n : ℕ) (bytes : List ℕ) → IsBytes bytes → IsBytes (drop n bytes)
IsBytes-drop n bytes fits i = rw get_or-drop (fits (n + i))

-- ---- the value of a step that did not fail

pub bind_ok : {A B : Type 0} (r : Result A ImageFault) (f : A → Result B ImageFault) (y : B) → (r >>= f) ≡ Ok y → (x : A) × (r ≡ Ok x) × (f x ≡ Ok y)
bind_ok (Ok x) f y e = (x, refl, e)
bind_ok (Err d) f y e = absurd cc

pub want_ok : {A : Type 0} (b : Bool) (d : ImageFault) (r : Result A ImageFault) (y : A) → cond b r (Err d) ≡ Ok y → (b ≡ true) × (r ≡ Ok y)
want_ok true d r y e = (refl, e)
want_ok false d r y e = absurd cc

-- a test that refuses where it holds
not_ok : {A : Type 0} (b : Bool) (d : ImageFault) (x y : A) → cond b (Err d) (Ok x) ≡ Ok y → (b ≡ false) × (x ≡ y)
not_ok true d x y e = absurd cc
not_ok false d x y e = (refl, cc)

pub unless_ok : {A : Type 0} (fault : Option ImageFault) (r : Result A ImageFault) (y : A) → unless fault r ≡ Ok y → (fault ≡ None) × (r ≡ Ok y)
unless_ok None r y e = (refl, e)
unless_ok (Some d) r y e = absurd cc

abbrev done : {A : Type 0} → A → Result A ImageFault
done x = Ok x

pub ok_is : {A : Type 0} (x y : A) → done x ≡ done y → x ≡ y
ok_is x y e = cc

-- ---- what stands in front

-- the bytes are this text and the rest
pub record Takes (bytes text rest : List ℕ) : Type 0 where
  pub parts : bytes ≡ text ++ rest
  pub rest_fits : IsBytes rest

pub Takes-then : (a x b y c : List ℕ) → Takes a x b → Takes b y c → Takes a (x ++ y) c
Takes-then a x b y c p q = record { parts = p.parts ∙ ap (λ (t : List ℕ). x ++ t) q.parts ∙ sym (append_assoc x y c); rest_fits = q.rest_fits }

pub byte_takes : (total : ℕ) (bytes : List ℕ) (b : ℕ) (rest : List ℕ) → IsBytes bytes → next_byte total bytes ≡ Ok (b, rest) → Takes bytes (b ∷ []) rest
byte_takes total [] b rest fits e = absurd cc
byte_takes total (c ∷ cs) b rest fits e =
    subst (λ (p : ℕ × List ℕ). Takes (c ∷ cs) (p.0 ∷ []) p.1) (ok_is (c, cs) (b, rest) e) (record { parts = refl; rest_fits = λ i. fits (suc i) })

pub bytes_take : (n total : ℕ) (bytes text rest : List ℕ) → IsBytes bytes → next_bytes n total bytes ≡ Ok (text, rest) → Takes bytes text rest × (length text ≡ n)
bytes_take n total bytes text rest fits e =
    let g = not_ok (ltb (length bytes) n) (faults.Short total) (take n bytes, drop n bytes) (text, rest) e in
    let long : n ≤ length bytes = ltb-false _ _ g.0 in
    let len : length (take n bytes) ≡ n = omega (arith, length-take n bytes) in
    subst (λ (p : List ℕ × List ℕ). Takes bytes p.0 p.1 × (length p.0 ≡ n)) g.1 (record { parts = sym (take-append-drop n bytes); rest_fits = IsBytes-drop n bytes fits }, len)

-- what is taken is the front of the bytes
pub bytes_front : (n total : ℕ) (bytes text rest : List ℕ) → next_bytes n total bytes ≡ Ok (text, rest) → text ≡ take n bytes
bytes_front n total bytes text rest e =
    let g = not_ok (ltb (length bytes) n) (faults.Short total) (take n bytes, drop n bytes) (text, rest) e in
    sym (ap (λ (p : List ℕ × List ℕ). p.0) g.1)

pub bytes_again : (text rest : List ℕ) (total : ℕ) → next_bytes (length text) total (text ++ rest) ≡ Ok (text, rest)
bytes_again text rest total =
    let long : ltb (length (text ++ rest)) (length text) ≡ false = le-ltb _ _ (omega (arith, length-append text rest)) in
    rw (long, take_at text rest (length text) refl, drop_at text rest (length text) refl) refl
