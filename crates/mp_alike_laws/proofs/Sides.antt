-- Initialisations of partitioned transfers, where two hubs have the same of each transfer.
use Rattle.std.proofs.Common.{◌≡◌, ℕ, List, [], ◌∷◌, ◌++◌, length, Bool, true, false, cond, not, refl, sym, ap, ◌∙◌}
use Rattle.std.specs.Prelude.{◌&&◌, ◌||◌, ◌==◌, filter, find}
use Rattle.std.specs.List.{enumerate_from, list_any, slice_get}
use Rattle.std.specs.Option.{option_map, option_or}
use Rattle.std.proofs.lemmas.List.Elements.{filter-append}
use Rattle.std.proofs.lemmas.List.Folds.{find-append, list_any-append}
use Rattle.rv_image_types.specs.declared.images.Link.{Link}
use Rattle.mp_transfers.specs.declared.sides.Setup.{Setup}
use Rattle.mp_transfers.specs.declared.sides.Side.{Side}
use Rattle.mp_transfers.specs.Inits.{is_for, is_other_side, is_reserved, is_same_side, is_sender_over, lowest_link, peer_of, same_transfer, sender_over}

-- the same of each side of each transfer
pub record SameSides (ss ts : List Side) : Type 0 where
  pub sides : (s : Setup) → filter (is_same_side s) ts ≡ filter (is_same_side s) ss
  pub reserved : (link : ℕ) → is_reserved ts link ≡ is_reserved ss link
  pub senders : (link : ℕ) → sender_over ts link ≡ sender_over ss link

-- the other side of the same transfer
abbrev other : Setup → Setup
other s = record s { sending = not s.sending }

is_other : (s : Setup) → is_other_side s ≡ is_same_side (other s)
is_other s = λ k t. at t k
  where
    flip : (b x : Bool) → cond b (not x) x ≡ cond (not b) x (not x)
    flip true x = refl
    flip false x = refl

    at : (t : Side) → is_other_side s t ≡ is_same_side (other s) t
    at t = ap (λ x. same_transfer s t.setup && x) (flip s.sending (t.setup).sending)

pub peer_same : (ss ts : List Side) → SameSides ss ts → (s : Setup) → peer_of ts s ≡ peer_of ss s
peer_same ss ts same s =
    ap (λ (f : Side → Bool). slice_get (filter f ts) (length (filter (is_same_side s) ts))) (is_other s)
    ∙ ap (λ xs. slice_get xs (length (filter (is_same_side s) ts))) (same.sides (other s))
    ∙ ap (λ xs. slice_get (filter (is_same_side (other s)) ss) (length xs)) (same.sides s)
    ∙ ap (λ (f : Side → Bool). slice_get (filter f ss) (length (filter (is_same_side s) ss))) (sym (is_other s))

pub lowest_same : (links : List Link) (ss ts : List Side) → SameSides ss ts → (s : Setup)
    → lowest_link links ts s ≡ lowest_link links ss s
lowest_same links ss ts same s =
    ap (λ (f : ℕ × Link → Bool). option_map (λ (l : ℕ × Link). l.0) (find f (enumerate_from 0 links))) (λ k l. at l k)
  where
    at : (l : ℕ × Link) → is_for ts s l ≡ is_for ss s l
    at l = ap (λ x. ((l.1).from == s.from) && ((l.1).to == s.to) && not x) (same.reserved l.0)

pub more_same : (ss ts : List Side) (t : Side) → SameSides ss ts → SameSides (ss ++ t ∷ []) (ts ++ t ∷ [])
more_same ss ts t same = record {
  sides = λ s.
      filter-append (is_same_side s) ts (t ∷ []) ∙ ap (λ xs. xs ++ filter (is_same_side s) (t ∷ [])) (same.sides s)
      ∙ sym (filter-append (is_same_side s) ss (t ∷ []));
  reserved = λ link.
      list_any-append (λ (t : Side). t.link == link) ts (t ∷ [])
      ∙ ap (λ x. x || list_any (λ (t : Side). t.link == link) (t ∷ [])) (same.reserved link)
      ∙ sym (list_any-append (λ (t : Side). t.link == link) ss (t ∷ []));
  senders = λ link.
      find-append (is_sender_over link) ts (t ∷ [])
      ∙ ap (λ x. option_or x (find (is_sender_over link) (t ∷ []))) (same.senders link)
      ∙ sym (find-append (is_sender_over link) ss (t ∷ []));
}
