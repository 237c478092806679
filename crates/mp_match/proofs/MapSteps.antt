-- A map of queues after one more place and after one less, and its copy.
use Rattle.std.proofs.Common.{◌≡◌, ℕ, List, [], ◌∷◌, ◌++◌, refl, sym, ap, ◌∙◌, Bool, true, false, cond}
use Rattle.std.proofs.Common.{Some, None, Option}
use Rattle.std.specs.List.{AllZip}
use Rattle.std.specs.Map.{lookup}
use Rattle.std.specs.Ordering.{is_eq}
use Rattle.std.specs.BTreeMap as tree
use Rattle.std.specs.declared.collections.VecDeque.{VecDeque}
use Rattle.std.specs.declared.alloc.Global.{Global}
use Rattle.mp_match.specs.declared.posts.Selection.{Selection}
use Rattle.mp_match.specs.Queued.{Keyed, selection_cmp, queue, places_in}
use Rattle.mp_match.specs.InnerQueued.{Entry}
use Rattle.mp_match.specs.Waiting.{same_key}
use Rattle.mp_match.specs.InnerQueues.{pushed}
use Rattle.mp_match.proofs.Keys.{cmp_is, key_same}

abbrev Queue : Type 0
Queue = VecDeque ℕ Global

abbrev get : Keyed → Selection → Option Queue
get m k = tree.get selection_cmp m k

-- n has v at the key, and all else as m has it
abbrev Sets : Keyed → Keyed → Selection → Option Queue → Type 0
Sets m n key v = (k : Selection) → get n k ≡ cond (is_eq (selection_cmp key k)) v (get m k)

set_queue : (m n : Keyed) (key : Selection) (v : Option Queue) → Sets m n key v → (k : Selection)
    → queue n k ≡ cond (same_key k key) (places_in v) (queue m k)
set_queue m n key v sets k = ap places_in (sets k) ∙ go (is_eq (selection_cmp key k)) (cmp_is key k)
  where
    go : (b : Bool) → b ≡ same_key k key
        → places_in (cond b v (get m k)) ≡ cond (same_key k key) (places_in v) (queue m k)
    go true e = ap (λ b. cond b (places_in v) (queue m k)) e
    go false e = ap (λ b. cond b (places_in v) (queue m k)) e

-- a key that had no queue
pub pushed_new : (m n : Keyed) (key : Selection) (place : ℕ) (v : Queue) → get m key ≡ None → Sets m n key (Some v)
    → v.items ≡ place ∷ [] → (k : Selection) → queue n k ≡ pushed (queue m) (Some key) place k
pushed_new m n key place v none sets items k =
    set_queue m n key (Some v) sets k
    ∙ ap (λ l. cond (same_key k key) l (queue m k)) (items ∙ ap (λ l. l ++ place ∷ []) (sym (ap places_in none)))

-- a key whose queue has one place more
pub pushed_behind : (m n : Keyed) (key : Selection) (place : ℕ) (v w : Queue) → get m key ≡ Some v
    → Sets m n key (Some w) → w.items ≡ v.items ++ place ∷ []
    → (k : Selection) → queue n k ≡ pushed (queue m) (Some key) place k
pushed_behind m n key place v w had sets items k =
    set_queue m n key (Some w) sets k
    ∙ ap (λ l. cond (same_key k key) l (queue m k)) (items ∙ ap (λ l. l ++ place ∷ []) (sym (ap places_in had)))

-- a key whose queue has the same places
pub pushed_nothing : (m n : Keyed) (key : Selection) (v w : Queue) → get m key ≡ Some v
    → Sets m n key (Some w) → w.items ≡ v.items → (k : Selection) → queue n k ≡ queue m k
pushed_nothing m n key v w had sets items k =
    set_queue m n key (Some w) sets k
    ∙ ap (λ l. cond (same_key k key) l (queue m k)) (items ∙ sym (ap places_in had))
    ∙ go (same_key k key) refl
  where
    go : (b : Bool) → same_key k key ≡ b → cond b (queue m key) (queue m k) ≡ queue m k
    go true e = ap (queue m) (sym (key_same k key e))
    go false e = refl

-- ---- copies

-- entries with the same keys, and queues of the same places
pub queues_copied : (C : Selection → Selection → Type 0) (D : Queue → Queue → Type 0)
    → ((x y : Selection) → C x y → y ≡ x) → ((v w : Queue) → D v w → w.items ≡ v.items)
    → (t : Selection → Bool) (ds es : List Entry) → AllZip (λ p q. C p.0 q.0 × D p.1 q.1) ds es
    → places_in (lookup t es) ≡ places_in (lookup t ds)
queues_copied C D same items t [] [] all = refl
queues_copied C D same items t [] (e ∷ es) all = absurd all
queues_copied C D same items t (d ∷ ds) [] all = absurd all
queues_copied C D same items t (d ∷ ds) (e ∷ es) all =
    ap (λ k. places_in (cond (t k) (Some e.1) (lookup t es))) (same d.0 e.0 all.0.0)
    ∙ go (t d.0) (queues_copied C D same items t ds es all.1)
  where
    go : (b : Bool) → places_in (lookup t es) ≡ places_in (lookup t ds)
        → places_in (cond b (Some e.1) (lookup t es)) ≡ places_in (cond b (Some d.1) (lookup t ds))
    go true rec = items d.1 e.1 all.0.1
    go false rec = rec
