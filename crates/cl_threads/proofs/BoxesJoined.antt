-- What is left in a box, with what its two keys know, joins their ranks' deeds at it.
use Rattle.std.specs.Prelude.{ℕ, zero, suc, ◌≡◌, ◌<◌, ◌+◌, ◌/◌, ◌⊎◌, List, [], ◌∷◌, ◌++◌, length, map, slice_get}
use Rattle.std.specs.Prelude.{Bool, true, false, Some, if◌then◌else◌, take}
use Rattle.std.specs.List.{AllByRecursion}
use Rattle.std.proofs.Common.{refl, sym, ap, ◌∙◌, subst, arith, inl, inr}
use Rattle.std.proofs.lemmas.List.{append-nil, length-append, length-map}
use Rattle.std.proofs.lemmas.Option.{get_or_from_slice_get, slice_get_within}
use Rattle.rv_image_types.specs.declared.images.ImageVersion.{ImageVersion}
use Rattle.rv_image_types.specs.declared.images.Link.{Link}
use Rattle.part_box.specs.declared.settled.Settled.{Settled}
use Rattle.part_box.specs.declared.view.Got.{Got as KeyGot}
use Rattle.part_box.specs.declared.view.Made.{Made}
use Rattle.part_box.specs.declared.view.Receiving.{Receiving}
use Rattle.part_box.specs.declared.view.Sending.{Sending}
use Rattle.part_box.specs.Gate.{last_take, things_of}
use Rattle.part_box.specs.Gate as gate
use Rattle.part_box.specs.Settling.{IsSettled}
use Rattle.part_box.specs.Steps.{nothing_received, nothing_sent}
use Rattle.part_box.proofs.GateKept.{taken_shown}
use Rattle.part_phase.specs.Limits.{box_words}
use Rattle.cl_deeds.specs.Deeds.{Deed}
use Rattle.cl_machine.specs.Boxes.{Thing, box_number}
use Rattle.cl_machine.specs.Joined.{BoxJoined, Got, OnItsSide, ShowsTake, gate_stamp, link_of_box, takes_shown}
use Rattle.cl_machine.specs.Joined as law
use Rattle.cl_machine.specs.Parts.{own}
use Rattle.cl_machine.specs.Product.{box_at}
use Rattle.cl_record.specs.BoxKeys.{box_of, thing_of}
use Rattle.cl_record.proofs.Leaves.{shows}
use Rattle.cl_threads.specs.Runs.{ReceiverWent, SenderWent}
use Rattle.cl_threads.proofs.BoxViews.{IsLoaded, receiver_tells, sender_tells, taken_as}
use Rattle.cl_record.proofs.Elements.{from_map, to_map}
use Rattle.cl_threads.proofs.Numbers.{at_front}

module _ (version : ImageVersion) where
  -- the gate's stamp of a box with one thing more made than got, and of one with all got
  gate_full : (p : ℕ) (got : List KeyGot) (m : Made)
      → gate_stamp p (map (thing_of version) (things_of got ++ m ∷ [])) (map (taken_as version) got) ≡ m.stamp
  gate_full p [] m = refl
  gate_full p (g ∷ got) m = gate_full g.taken got m

  gate_behind : (g : KeyGot) (got : List KeyGot)
      → gate_stamp g.taken (map (thing_of version) (things_of got)) (map (taken_as version) got) ≡ last_take (g ∷ got)
  gate_behind g [] = refl
  gate_behind g (h ∷ got) = gate_behind h got

  gate_empty : (got : List KeyGot)
      → gate_stamp 0 (map (thing_of version) (things_of got)) (map (taken_as version) got) ≡ last_take got
  gate_empty [] = refl
  gate_empty (g ∷ got) = gate_behind g got

  module _ (s : Sending) (r : Receiving) (left : Settled) (is : IsSettled (box_words version) s r left) where
    made : List Thing
    made = map (thing_of version) s.made

    got : List Got
    got = map (taken_as version) r.got

    m : Made
    m = record { stamp = left.stamp; words = take (box_words version) left.words }

    made_full : left.full ≡ true → s.made ≡ things_of r.got ++ m ∷ []
    unfolding m
    made_full full = is.made ∙ ap (λ (f : Bool). things_of r.got ++ (if f then m ∷ [] else [])) full

    made_empty : left.full ≡ false → s.made ≡ things_of r.got
    unfolding m
    made_empty empty =
        is.made ∙ ap (λ (f : Bool). things_of r.got ++ (if f then m ∷ [] else [])) empty ∙ append-nil (things_of r.got)

    counts : (f : Bool) → left.full ≡ f → (length s.made ≡ length r.got) ⊎ (length s.made ≡ length r.got + 1)
    counts true e =
        inr (ap length (made_full e) ∙ length-append (things_of r.got) (m ∷ [])
        ∙ ap (λ n. n + 1) (length-map r.got gate.thing_of))
    counts false e = inl (ap length (made_empty e) ∙ length-map r.got gate.thing_of)

    one_more : (length made ≡ length got) ⊎ (length made ≡ length got + 1)
    unfolding made got
    one_more =
        let a = length-map s.made (thing_of version) in
        let b = length-map r.got (taken_as version) in
        elim (counts left.full refl) [ inl e ↦ inl (a ∙ e ∙ sym b) | inr e ↦ inr (a ∙ e ∙ ap (λ n. n + 1) (sym b)) ]

    front : (k : ℕ) (g : Got) → slice_get got k ≡ Some g → slice_get made k ≡ Some (law.thing_of g)
    unfolding made got
    front k g at =
        let x = from_map (taken_as version) r.got k g at in
        let there = at_front (things_of r.got) _ k (gate.thing_of x.0) (to_map gate.thing_of r.got k x.0 x.1) in
        to_map (thing_of version) s.made k (gate.thing_of x.0) (ap (λ xs. slice_get xs k) is.made ∙ there)
        ∙ ap (λ (y : Got). Some (law.thing_of y)) x.2

    taken_after : (k : ℕ) (g : Got) → slice_get got k ≡ Some g → g.stamp < g.take
    unfolding got
    taken_after k g at =
        let x = from_map (taken_as version) r.got k g at in
        subst (λ (y : Got). y.stamp < y.take) x.2 (is.in_turn.taken_later k x.0 x.1)

    made_after : (k : ℕ) (g : Got) (t : Thing) → slice_get got k ≡ Some g → slice_get made (suc k) ≡ Some t
        → g.take < t.stamp
    unfolding made got
    made_after k g t at next =
        let x = from_map (taken_as version) r.got k g at in
        let y = from_map (thing_of version) s.made (suc k) t next in
        let same : k + 1 ≡ suc k = omega arith in
        let up = is.in_turn.made_later k x.0 y.0 x.1 (ap (slice_get s.made) same ∙ y.1) in
        subst (λ (z : Thing). g.take < z.stamp) y.2 (subst (λ (z : Got). z.take < y.0.stamp) x.2 up)

    shows_take : (n seen : ℕ) → IsLoaded s.loads (n, seen) → ShowsTake got (n, seen)
    unfolding got
    shows_take zero seen load = absurd (let low = load.some in omega (arith, low))
    shows_take (suc k) seen load =
        let own_load = subst (gate.ShowsTake r.got)
        (get_or_from_slice_get s.loads load.place load.load load.load load.there)
        (is.freed load.place load.load (slice_get_within s.loads load.place load.load load.there)) in
        let empty = taken_shown load.load.word seen load.shows in
        let count : load.load.count ≡ k + 1 = (let e = load.count in omega (arith, e)) in
        let g = own_load k count empty.0 in (
          k,
          taken_as version g.0,
          omega arith,
          to_map (taken_as version) r.got k g.0 g.1,
          (let e = empty.1 in let f = g.2 in omega (arith, e, f)),
        )

    all_show : (ps : List (ℕ × ℕ)) → AllByRecursion (IsLoaded s.loads) ps → AllByRecursion (ShowsTake got) ps
    all_show [] h = tt
    all_show (p ∷ ps) h = (shows_take p.0 p.1 h.0, all_show ps h.1)

    stamps : (f : Bool) → left.full ≡ f → gate_stamp 0 made got ≡ left.stamp
    unfolding made got m
    stamps true e =
        ap (λ xs. gate_stamp 0 (map (thing_of version) xs) (map (taken_as version) r.got)) (made_full e)
        ∙ gate_full 0 r.got m
    stamps false e =
        ap (λ xs. gate_stamp 0 (map (thing_of version) xs) (map (taken_as version) r.got)) (made_empty e)
        ∙ gate_empty r.got ∙ sym (is.empty e).0

    end : box_of version s r ≡ record { made = made; taken = length got; stamp = gate_stamp 0 made got }
    unfolding made got
    end =
        let stamp = sym (shows version s r left is).stamp ∙ sym (stamps left.full refl) in
        λ i. record {
          made = map (thing_of version) s.made;
          taken = sym (length-map r.got (taken_as version)) i;
          stamp = stamp i;
        }

    -- the box of a link's two ranks
    pub box_joined : (links : List Link) (deeds : ℕ → List Deed) (link part : ℕ) (l : Link)
        → slice_get links link ≡ Some l → part < 16
        → ((rank : ℕ) → AllByRecursion (λ (d : Deed). OnItsSide links rank d.act) (deeds rank))
        → SenderWent version link part (deeds l.from) s → ReceiverWent version link part (deeds l.to) r
        → BoxJoined links (box_number link part) deeds (box_of version s r)
    unfolding made got
    box_joined links deeds link part l at low sides sent received =
        let sender =
        sender_tells version links l.from link part low (deeds l.from) nothing_sent s (sides l.from) sent in
        let receiver =
        receiver_tells version links l.to link part low (deeds l.to) nothing_received r (sides l.to) received in
        let link_is : box_number link part / 16 ≡ link = omega arith in
        record {
          link = l;
          link_is = ap (slice_get links) link_is ∙ at;
          made = made;
          got = got;
          made_is = sym sender.made;
          got_is = sym receiver;
          loaded = takes_shown 0 (own box_at (box_number link part) (deeds l.from));
          loaded_is = refl;
          one_more = one_more;
          front = front;
          taken_after = taken_after;
          made_after = made_after;
          freed = all_show (takes_shown 0 (own box_at (box_number link part) (deeds l.from))) sender.loaded;
          end = end;
        }
