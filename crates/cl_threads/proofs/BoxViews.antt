-- What the two keys of a box tell of their ranks' deeds at it: what was made there, what was got, what each look met.
use Rattle.std.specs.Prelude.{ℕ, ◌≡◌, ◌<◌, ◌==◌, ◌&&◌, List, [], ◌∷◌, ◌++◌, length, map, slice_get, cond, eqb}
use Rattle.std.specs.Prelude.{Bool, true, false, Some, unwrap_or}
use Rattle.std.specs.List.{AllByRecursion, filter_map}
use Rattle.std.proofs.Common.{refl, sym, ap, ◌∙◌, subst, arith, inl, inr, append_assoc}
use Rattle.std.proofs.lemmas.Bool.{eq-eqb, ne_eqb}
use Rattle.std.proofs.lemmas.Bool.Decides.{eqb_tells}
use Rattle.std.proofs.lemmas.List.{append-nil, length-append, map-append}
use Rattle.rv_image_types.specs.declared.images.ImageVersion.{ImageVersion}
use Rattle.rv_image_types.specs.declared.images.Link.{Link}
use Rattle.part_box.specs.declared.view.Got.{Got as KeyGot}
use Rattle.part_box.specs.declared.view.Loaded.{Loaded}
use Rattle.part_box.specs.declared.view.Made.{Made}
use Rattle.part_box.specs.declared.view.Receiving.{Receiving}
use Rattle.part_box.specs.declared.view.Sending.{Sending}
use Rattle.part_box.specs.Gate.{ready_stamp, taken_stamp}
use Rattle.part_box.specs.Steps.{with_freed, with_got, with_look, with_made}
use Rattle.cl_deeds.specs.Deeds.{Act, Deed}
use Rattle.cl_rank.specs.Sides.{ReceiverActs, SenderActs, is_place, box_id_of}
use Rattle.cl_machine.specs.Boxes.{box_number}
use Rattle.cl_machine.specs.Joined.{Got, OnItsSide, got_of, made_of, takes_shown}
use Rattle.cl_machine.specs.Parts.{is_index, own}
use Rattle.cl_machine.specs.Product.{box_at, box_for}
use Rattle.cl_machine.specs.Keys.{bytes_in}
use Rattle.cl_record.specs.BoxKeys.{thing_of}
use Rattle.cl_threads.specs.Runs.{OnBox}
use Rattle.cl_threads.proofs.KeyRuns.{ReceiverGoes, SenderGoes}
use Rattle.cl_threads.proofs.Numbers.{at_front, at_seam}

-- a thing that a key took, as the law of the order has it
abbrev pub taken_as : ImageVersion → KeyGot → Got
taken_as version g = record { stamp = g.stamp; bytes = bytes_in version g.words; take = g.taken }

-- one of these gate words was loaded with so many things made, and showed this take
pub record IsLoaded (loads : List Loaded) (p : ℕ × ℕ) : Type 0 where
  pub place : ℕ
  pub load : Loaded
  pub there : slice_get loads place ≡ Some load
  pub some : 0 < p.0
  pub count : load.count ≡ p.0
  pub shows : taken_stamp load.word ≡ Some p.1

-- a box has its number from its link and its partition
same_box : (link part other place : ℕ) → part < 16 → place < 16
    → eqb (box_number other place) (box_number link part) ≡ ((other == link) && (place == part))
same_box link part other place low low' = elim (eqb_tells other link) [
  | inr far ↦
      ne_eqb (box_number other place) (box_number link part) (λ e. far.1 (omega (arith, e, low, low')))
      ∙ sym (ap (λ (b : Bool). b && (place == part)) far.0)
  | inl same ↦ elim (eqb_tells place part) [
    | inl here ↦
        eq-eqb (box_number other place) (box_number link part) (let e = same.1 in let f = here.1 in omega (arith, e, f))
        ∙ sym (ap (λ (b : Bool). b && (place == part)) same.0 ∙ here.0)
    | inr away ↦
        ne_eqb (box_number other place) (box_number link part) (λ e. away.1 (omega (arith, e, low, low')))
        ∙ sym (ap (λ (b : Bool). b && (place == part)) same.0 ∙ away.0)
  ]
]

module _ (version : ImageVersion) where
  -- ---- the sender's key

  -- what a key that went on from one view to another tells of its rank's deeds at its box between them
  pub record SenderTells (was is : Sending) (K : List Deed) : Type 0 where
    pub made : map (thing_of version) is.made ≡ map (thing_of version) was.made ++ filter_map made_of K
    pub kept : (n : ℕ) (load : Loaded) → slice_get was.loads n ≡ Some load → slice_get is.loads n ≡ Some load
    pub loaded : AllByRecursion (IsLoaded is.loads) (takes_shown (length was.made) K)

  tells_nothing : (s : Sending) → SenderTells s s []
  tells_nothing s = record {
    made = sym (append-nil (map (thing_of version) s.made));
    kept = λ n load at. at;
    loaded = tt;
  }

  -- the deed at this place
  abbrev deed : ℕ → ℕ → ℕ → Act → Deed
  deed r h s act = record { rank = r; hart = h; stamp = s; act = act }

  -- one thing more was made
  tells_ready : (was is : Sending) (r h s : ℕ) (K : List Deed) (link part : ℕ) (bytes words : List ℕ)
      → bytes ≡ bytes_in version words → SenderTells (with_made (record was { filled = words }) s) is K
      → SenderTells was is (deed r h s (Act.Ready link part bytes) ∷ K)
  tells_ready was is r h s K link part bytes words spell tells =
      let m : Made = record { stamp = s; words = words } in
      let same : thing_of version m ≡ record { stamp = s; bytes = bytes } =
      λ i. record { stamp = s; bytes = sym spell i } in
      record {
        made = tells.made
            ∙ ap (λ xs. xs ++ filter_map made_of K) (map-append (thing_of version) was.made (m ∷ []))
            ∙ append_assoc (map (thing_of version) was.made) (thing_of version m ∷ []) (filter_map made_of K)
            ∙ ap (λ x. map (thing_of version) was.made ++ (x ∷ filter_map made_of K)) same;
        kept = tells.kept;
        loaded = subst (λ n. AllByRecursion (IsLoaded is.loads) (takes_shown n K)) (length-append was.made (m ∷ []))
            tells.loaded;
      }

  -- a look showed a take
  tells_freed : (was is : Sending) (r h s : ℕ) (K : List Deed) (link part gate word : ℕ)
      → taken_stamp word ≡ Some gate → 0 < length was.made → SenderTells (with_freed was word) is K
      → SenderTells was is (deed r h s (Act.Freed link part gate) ∷ K)
  tells_freed was is r h s K link part gate word shows some tells =
      let load : Loaded = record { word = word; count = length was.made } in
      record {
        made = tells.made;
        kept = λ n other at. tells.kept n other (at_front was.loads (load ∷ []) n other at);
        loaded = (
          record {
            place = length was.loads;
            load = load;
            there = tells.kept (length was.loads) load (at_seam was.loads load);
            some = some;
            count = refl;
            shows = shows;
          },
          tells.loaded,
        );
      }

  -- a look that showed none
  tells_miss : (was is : Sending) (K : List Deed) (word : ℕ) → SenderTells (with_freed was word) is K
      → SenderTells was is K
  tells_miss was is K word tells = record {
    made = tells.made;
    kept = λ n load at.
        tells.kept n load (at_front was.loads (record { word = word; count = length was.made } ∷ []) n load at);
    loaded = tells.loaded;
  }

  tells_same : (was mid is : Sending) (K : List Deed) → mid ≡ was → SenderTells mid is K → SenderTells was is K
  tells_same was mid is K e tells = subst (λ x. SenderTells x is K) e tells

  module _ (links : List Link) (rank link part : ℕ) (low : part < 16) where
    sender_step : (r h s : ℕ) (act : Act) (was mid is : Sending) (K : List Deed) → OnItsSide links rank act
        → OnBox (SenderActs version) (is_place link part (box_id_of act)) was (deed r h s act) mid → SenderTells mid is K
        → SenderTells was is (cond (is_index (box_number link part) (box_for act)) (deed r h s act ∷ K) K)
    sender_step r h s Act.Plain was mid is K side on tells = tells_same was mid is K on tells
    sender_step r h s Act.Local was mid is K side on tells = tells_same was mid is K on tells
    sender_step r h s (Act.Hub clock request reply) was mid is K side on tells = tells_same was mid is K on tells
    sender_step r h s Act.Held was mid is K side on tells = tells_same was mid is K on tells
    sender_step r h s Act.Idle was mid is K side on tells = tells_same was mid is K on tells
    sender_step r h s (Act.Ready other place bytes) was mid is K side on tells =
        subst (λ b. SenderTells was is (cond b (deed r h s (Act.Ready other place bytes) ∷ K) K))
        (sym (same_box link part other place low side.2))
        (by_place (is_place link part (Some (other, place))) on)
      where
        by_place : (b : Bool) → OnBox (SenderActs version) b was (deed r h s (Act.Ready other place bytes)) mid
            → SenderTells was is (cond b (deed r h s (Act.Ready other place bytes) ∷ K) K)
        by_place false on = tells_same was mid is K on tells
        by_place true on =
            tells_ready was is r h s K other place bytes on.0 on.2 (subst (λ x. SenderTells x is K) on.5 tells)
    sender_step r h s (Act.Take other place gate bytes) was mid is K side on tells =
        subst (λ b. SenderTells was is (cond b (deed r h s (Act.Take other place gate bytes) ∷ K) K))
        (sym (same_box link part other place low side.2))
        (by_place (is_place link part (Some (other, place))) on)
      where
        by_place : (b : Bool) → OnBox (SenderActs version) b was (deed r h s (Act.Take other place gate bytes)) mid
            → SenderTells was is (cond b (deed r h s (Act.Take other place gate bytes) ∷ K) K)
        by_place false on = tells_same was mid is K on tells
        by_place true on = absurd on
    sender_step r h s (Act.Freed other place gate) was mid is K side on tells =
        subst (λ b. SenderTells was is (cond b (deed r h s (Act.Freed other place gate) ∷ K) K))
        (sym (same_box link part other place low side.2))
        (by_place (is_place link part (Some (other, place))) on)
      where
        by_place : (b : Bool) → OnBox (SenderActs version) b was (deed r h s (Act.Freed other place gate)) mid
            → SenderTells was is (cond b (deed r h s (Act.Freed other place gate) ∷ K) K)
        by_place false on = tells_same was mid is K on tells
        by_place true on =
            tells_freed was is r h s K other place gate on.0 on.1 on.2 (subst (λ x. SenderTells x is K) on.3 tells)
    sender_step r h s (Act.Miss other place) was mid is K side on tells =
        by_place (is_place link part (Some (other, place))) on
      where
        by_place : (b : Bool) → OnBox (SenderActs version) b was (deed r h s (Act.Miss other place)) mid
            → SenderTells was is K
        by_place false on = tells_same was mid is K on tells
        by_place true on = tells_miss was is K on.0 (subst (λ x. SenderTells x is K) on.2 tells)

    -- a sender's key tells what its rank made at its box, and what each look there met
    pub sender_tells : (ds : List Deed) (was is : Sending)
        → AllByRecursion (λ (d : Deed). OnItsSide links rank d.act) ds → SenderGoes version link part was ds is
        → SenderTells was is (own box_at (box_number link part) ds)
    sender_tells [] was is sides went = subst (λ x. SenderTells was x []) (sym went) (tells_nothing was)
    sender_tells (d ∷ ds) was is sides went =
        sender_step d.rank d.hart d.stamp d.act was went.0 is (own box_at (box_number link part) ds) sides.0 went.1
        (sender_tells ds went.0 is sides.1 went.2)

  -- ---- the receiver's key

  -- what a key that went on from one view to another tells of its rank's deeds at its box between them
  abbrev pub ReceiverTells : Receiving → Receiving → List Deed → Type 0
  ReceiverTells was is K = map (taken_as version) is.got ≡ map (taken_as version) was.got ++ filter_map got_of K

  -- one thing more was got
  tells_take : (was is : Receiving) (r h s : ℕ) (K : List Deed) (link part gate word : ℕ) (bytes words : List ℕ)
      → ready_stamp word ≡ Some gate → bytes ≡ bytes_in version words
      → ReceiverTells (with_got (record (with_look was word) { copied = words }) s) is K
      → ReceiverTells was is (deed r h s (Act.Take link part gate bytes) ∷ K)
  tells_take was is r h s K link part gate word bytes words shows spell tells =
      let g : KeyGot = record { stamp = unwrap_or (ready_stamp word) 0; words = words; taken = s } in
      let same : taken_as version g ≡ record { stamp = gate; bytes = bytes; take = s } =
      λ i. record { stamp = unwrap_or (shows i) 0; bytes = sym spell i; take = s } in
      tells
      ∙ ap (λ xs. xs ++ filter_map got_of K) (map-append (taken_as version) was.got (g ∷ []))
      ∙ append_assoc (map (taken_as version) was.got) (taken_as version g ∷ []) (filter_map got_of K)
      ∙ ap (λ x. map (taken_as version) was.got ++ (x ∷ filter_map got_of K)) same

  took_same : (was mid is : Receiving) (K : List Deed) → mid ≡ was → ReceiverTells mid is K → ReceiverTells was is K
  took_same was mid is K e tells = subst (λ x. ReceiverTells x is K) e tells

  module _ (links : List Link) (rank link part : ℕ) (low : part < 16) where
    receiver_step : (r h s : ℕ) (act : Act) (was mid is : Receiving) (K : List Deed) → OnItsSide links rank act
        → OnBox (ReceiverActs version) (is_place link part (box_id_of act)) was (deed r h s act) mid
        → ReceiverTells mid is K
        → ReceiverTells was is (cond (is_index (box_number link part) (box_for act)) (deed r h s act ∷ K) K)
    receiver_step r h s Act.Plain was mid is K side on tells = took_same was mid is K on tells
    receiver_step r h s Act.Local was mid is K side on tells = took_same was mid is K on tells
    receiver_step r h s (Act.Hub clock request reply) was mid is K side on tells = took_same was mid is K on tells
    receiver_step r h s Act.Held was mid is K side on tells = took_same was mid is K on tells
    receiver_step r h s Act.Idle was mid is K side on tells = took_same was mid is K on tells
    receiver_step r h s (Act.Ready other place bytes) was mid is K side on tells =
        subst (λ b. ReceiverTells was is (cond b (deed r h s (Act.Ready other place bytes) ∷ K) K))
        (sym (same_box link part other place low side.2))
        (by_place (is_place link part (Some (other, place))) on)
      where
        by_place : (b : Bool) → OnBox (ReceiverActs version) b was (deed r h s (Act.Ready other place bytes)) mid
            → ReceiverTells was is (cond b (deed r h s (Act.Ready other place bytes) ∷ K) K)
        by_place false on = took_same was mid is K on tells
        by_place true on = absurd on
    receiver_step r h s (Act.Take other place gate bytes) was mid is K side on tells =
        subst (λ b. ReceiverTells was is (cond b (deed r h s (Act.Take other place gate bytes) ∷ K) K))
        (sym (same_box link part other place low side.2))
        (by_place (is_place link part (Some (other, place))) on)
      where
        by_place : (b : Bool) → OnBox (ReceiverActs version) b was (deed r h s (Act.Take other place gate bytes)) mid
            → ReceiverTells was is (cond b (deed r h s (Act.Take other place gate bytes) ∷ K) K)
        by_place false on = took_same was mid is K on tells
        by_place true on =
            tells_take was is r h s K other place gate on.0 bytes on.1 on.2 on.4
            (subst (λ x. ReceiverTells x is K) on.5 tells)
    receiver_step r h s (Act.Freed other place gate) was mid is K side on tells =
        subst (λ b. ReceiverTells was is (cond b (deed r h s (Act.Freed other place gate) ∷ K) K))
        (sym (same_box link part other place low side.2))
        (by_place (is_place link part (Some (other, place))) on)
      where
        by_place : (b : Bool) → OnBox (ReceiverActs version) b was (deed r h s (Act.Freed other place gate)) mid
            → ReceiverTells was is (cond b (deed r h s (Act.Freed other place gate) ∷ K) K)
        by_place false on = took_same was mid is K on tells
        by_place true on = absurd on
    receiver_step r h s (Act.Miss other place) was mid is K side on tells =
        by_place (is_place link part (Some (other, place))) on
      where
        by_place : (b : Bool) → OnBox (ReceiverActs version) b was (deed r h s (Act.Miss other place)) mid
            → ReceiverTells was is K
        by_place false on = took_same was mid is K on tells
        by_place true on = subst (λ x. ReceiverTells x is K) on.2 tells

    -- a receiver's key tells what its rank took from its box
    pub receiver_tells : (ds : List Deed) (was is : Receiving)
        → AllByRecursion (λ (d : Deed). OnItsSide links rank d.act) ds → ReceiverGoes version link part was ds is
        → ReceiverTells was is (own box_at (box_number link part) ds)
    receiver_tells [] was is sides went =
        subst (λ x. ReceiverTells was x []) (sym went) (sym (append-nil (map (taken_as version) was.got)))
    receiver_tells (d ∷ ds) was is sides went =
        receiver_step d.rank d.hart d.stamp d.act was went.0 is (own box_at (box_number link part) ds) sides.0 went.1
        (receiver_tells ds went.0 is sides.1 went.2)
