-- What the deeds of one rank make of the key of one box, and on which side of its links they are.
use Rattle.std.specs.Prelude.{ℕ, ◌≡◌, ◌<◌, List, [], ◌∷◌, slice_get, Bool, true, false, Option, Some, None}
use Rattle.std.specs.List.{AllByRecursion}
use Rattle.std.proofs.Common.{refl, ap, ◌∙◌, subst}
use Rattle.std.proofs.lemmas.Option.{same_Some}
use Rattle.rv_image_types.specs.declared.images.ImageVersion.{ImageVersion}
use Rattle.rv_image_types.specs.declared.images.Link.{Link}
use Rattle.part_box.specs.declared.view.Receiving.{Receiving}
use Rattle.part_box.specs.declared.view.Sending.{Sending}
use Rattle.cl_deeds.specs.Deeds.{Act, Deed, PartRun}
use Rattle.cl_rank.specs.Sides.{ReceiverActs, SenderActs, is_place, box_id_of}
use Rattle.cl_rank.specs.RankSides.{HasKey, KeyMoves, KeysMove, Sides, receiver_of, sender_of}
use Rattle.cl_machine.specs.Joined.{OnItsSide}
use Rattle.cl_threads.specs.OnThreads.{KeysGo}
use Rattle.cl_threads.specs.Runs.{OnBox}

-- what a deed makes of one key, where the rank has it
key_goes : {K : Type 0} (Acts : ℕ → Act → K → K → Type 0) (here : Bool) (d : Deed) (old new : Option K) (k : K)
    → KeyMoves here (Acts d.stamp d.act) old new → old ≡ Some k → (l : K) × (new ≡ Some l) × OnBox Acts here k d l
key_goes Acts true d (Some x) (Some y) k h e =
    (y, refl, subst (λ z. Acts d.stamp d.act z y) (same_Some x k e) h)
key_goes Acts false d (Some x) (Some y) k h e = (y, refl, h ∙ same_Some x k e)
key_goes Acts true d (Some x) None k h e = absurd h
key_goes Acts false d (Some x) None k h e = absurd h
key_goes Acts here d None new k h e = absurd (cc)

-- a rank that has a key had it before
key_before : {K : Type 0} (here : Bool) (Acts : K → K → Type 0) (old new : Option K) (l : K)
    → KeyMoves here Acts old new → new ≡ Some l → (k : K) × (old ≡ Some k)
key_before true Acts (Some x) (Some y) l h e = (x, refl)
key_before false Acts (Some x) (Some y) l h e = (x, refl)
key_before true Acts None (Some y) l h e = absurd h
key_before false Acts None (Some y) l h e = absurd h
key_before here Acts old None l h e = absurd (cc)

-- a key of a box goes from one view to another by a rank's deeds: the sender's, and the receiver's
abbrev pub SenderGoes : ImageVersion → ℕ → ℕ → Sending → List Deed → Sending → Type 0
SenderGoes version link part was ds is =
    PartRun (λ (a : Sending) (d : Deed) (b : Sending).
    OnBox (SenderActs version) (is_place link part (box_id_of d.act)) a d b) was ds is

abbrev pub ReceiverGoes : ImageVersion → ℕ → ℕ → Receiving → List Deed → Receiving → Type 0
ReceiverGoes version link part was ds is =
    PartRun (λ (a : Receiving) (d : Deed) (b : Receiving).
    OnBox (ReceiverActs version) (is_place link part (box_id_of d.act)) a d b) was ds is

module _ (version : ImageVersion) (link part : ℕ) where
  -- so does each that the rank has
  pub sender_goes : (ds : List Deed) (old new : Sides) (k : Sending) → KeysGo version old ds new
      → sender_of old link part ≡ Some k
      → (l : Sending) × (sender_of new link part ≡ Some l) × SenderGoes version link part k ds l
  sender_goes [] old new k go at = (k, ap (λ s. sender_of s link part) go ∙ at, refl)
  sender_goes (d ∷ ds) old new k go at =
      let now =
      key_goes (SenderActs version) (is_place link part (box_id_of d.act)) d (sender_of old link part)
      (sender_of go.0 link part) k (go.1.sends link part) at in
      let rest = sender_goes ds go.0 new now.0 go.2 now.1 in
      (rest.0, rest.1, (now.0, now.2, rest.2))

  pub receiver_goes : (ds : List Deed) (old new : Sides) (k : Receiving) → KeysGo version old ds new
      → receiver_of old link part ≡ Some k
      → (l : Receiving) × (receiver_of new link part ≡ Some l) × ReceiverGoes version link part k ds l
  receiver_goes [] old new k go at = (k, ap (λ s. receiver_of s link part) go ∙ at, refl)
  receiver_goes (d ∷ ds) old new k go at =
      let now =
      key_goes (ReceiverActs version) (is_place link part (box_id_of d.act)) d (receiver_of old link part)
      (receiver_of go.0 link part) k (go.1.recvs link part) at in
      let rest = receiver_goes ds go.0 new now.0 go.2 now.1 in
      (rest.0, rest.1, (now.0, now.2, rest.2))

-- a rank has keys of its own sides only
pub record HasOwnKeys (links : List Link) (rank : ℕ) (sides : Sides) : Type 0 where
  pub sends : (link part : ℕ) (s : Sending) → sender_of sides link part ≡ Some s
      → (l : Link) × (slice_get links link ≡ Some l) × (part < 16) × (l.from ≡ rank)
  pub receives : (link part : ℕ) (r : Receiving) → receiver_of sides link part ≡ Some r
      → (l : Link) × (slice_get links link ≡ Some l) × (part < 16) × (l.to ≡ rank)

module _ (links : List Link) (rank : ℕ) (version : ImageVersion) where
  own_still : (stamp : ℕ) (act : Act) (old new : Sides) → KeysMove version stamp act old new
      → HasOwnKeys links rank old → HasOwnKeys links rank new
  own_still stamp act old new moves own = record {
    sends = λ link part s at.
        let k = key_before _ _ _ _ s (moves.sends link part) at in own.sends link part k.0 k.1;
    receives = λ link part r at.
        let k = key_before _ _ _ _ r (moves.recvs link part) at in own.receives link part k.0 k.1;
  }

  on_side : (sides : Sides) → HasOwnKeys links rank sides → (a : Act) → HasKey sides a → OnItsSide links rank a
  on_side sides own Act.Plain has = tt
  on_side sides own Act.Local has = tt
  on_side sides own (Act.Hub clock request reply) has = tt
  on_side sides own (Act.Ready link part bytes) has = own.sends link part has.0 has.1
  on_side sides own (Act.Take link part gate bytes) has = own.receives link part has.0 has.1
  on_side sides own (Act.Miss link part) has = tt
  on_side sides own (Act.Freed link part gate) has = own.sends link part has.0 has.1
  on_side sides own Act.Held has = tt
  on_side sides own Act.Idle has = tt

  -- so each of its deeds is on its own side of a link
  pub all_on_side : (ds : List Deed) (old new : Sides) → KeysGo version old ds new → HasOwnKeys links rank old
      → AllByRecursion (λ (d : Deed). OnItsSide links rank d.act) ds
  all_on_side [] old new go own = tt
  all_on_side (d ∷ ds) old new go own = (
    on_side old own d.act go.1.there,
    all_on_side ds go.0 new go.2 (own_still d.stamp d.act old go.0 go.1 own),
  )
