-- What a side keeps through its phases.
use Rattle.std.proofs.Common.{◌≡◌, ℕ, ◌<◌, ◌==◌, set, get_or, Bool, true, false, Option, Some, None, refl, sym, ap, ◌∙◌, arith, get_or-set_other, List}
use Rattle.std.specs.Prelude.{not, if◌then◌else◌, option_map, slice_get}
use Rattle.part_phase.specs.declared.phases.Phase.{Phase}
use Rattle.part_phase.specs.declared.phases.Phase.TheVariants.{Apart, Sending, Receiving}
use Rattle.part_phase.specs.declared.receiving.RecvPhase.{RecvPhase}
use Rattle.part_phase.specs.Phases.{changed_at, is_unshaped_receiving, is_unshaped_sending, on_receiving, on_sending}
use Rattle.part_phase.specs.Receiving.{are_left, begun_receiving, is_left, lowest_from, shaped_receiving}
use Rattle.part_phase.specs.Sending.{none_marked, shaped_sending}
use Rattle.part_phase.specs.SideLaws.{BoundsLaw, ChangedLaw, FreeSideLaw, ReceivingLaw}
use Rattle.part_phase.proofs.Arrivals.{next}
use Rattle.part_phase.proofs.Ends.{next_free}
use Rattle.part_phase.proofs.Lowest.{none_pass, some_of}
use Rattle.part_phase.proofs.Sides.{first_sides, one_side}

-- ---- a phase

not_false : (b : Bool) → not b ≡ false → b ≡ true
not_false true e = refl
not_false false e = cc

pub receiving : ReceivingLaw
receiving = record {
  begun = λ p. begins p p.active refl;
  goes_on = λ p active. ap (λ (b : Bool). if b then p else record p { active = true; taken = none_marked }) active;
  none_left = λ p box active none low.
      let lowest = sym (ap (λ (b : Bool). if b then lowest_from (is_left p.taken) 0 p.boxes else None) active) ∙ none in
      not_false (get_or p.taken box false)
      (none_pass (is_left p.taken) 0 p.boxes lowest box (omega arith) (omega (arith, low)));
  idle = λ p part idle. (
    ap (λ (b : Bool). if b then lowest_from (is_left p.taken) 0 p.boxes else None) idle,
    rw idle,
  );
  others = λ p box left other low apart there differs.
      let stays : is_left (set p.taken box true) left ≡ true =
      ap not (get_or-set_other p.taken box left true false apart ∙ there) in
      let goes : are_left (set p.taken box true) p.boxes ≡ true =
      some_of (is_left (set p.taken box true)) p.boxes left low stays in
      ap (λ (b : Bool). get_or (if b then set p.taken box true else none_marked) other false) goes
      ∙ get_or-set_other p.taken box other true false differs;
}
  where
    begins : (p : RecvPhase) (b : Bool) → p.active ≡ b → (begun_receiving p).active ≡ true
    begins p true is =
        ap (λ (b : Bool). (if b then p else record p { active = true; taken = none_marked }).active) is ∙ is
    begins p false is =
        ap (λ (b : Bool). (if b then p else record p { active = true; taken = none_marked }).active) is

pub bounds : BoundsLaw
bounds = record {
  sending = λ p part kept is.
      let low = next_free p part is in let most = kept.most in (omega (arith, low, most), kept.largest);
  receiving = λ p box kept is.
      let low = (next p box is).0 in let most = kept.boxes in (omega (arith, low, most), kept.bytes);
}

-- ---- the sides of a rank

changes : (phases : List Phase) (link : ℕ) (change : Phase → Phase) (was : Phase) → slice_get phases link ≡ Some was
    → slice_get (changed_at link change phases) link ≡ Some (change was)
changes phases link change was there = (one_side phases link change).0 ∙ ap (option_map change) there

pub changed : ChangedLaw
changed = record {
  begun_sending = λ phases link p there. changes phases link _ (Sending p) there;
  begun_receiving = λ phases link p there. changes phases link _ (Receiving p) there;
  sending = λ phases link p change there. changes phases link (on_sending change) (Sending p) there;
  receiving = λ phases link p change there. changes phases link (on_receiving change) (Receiving p) there;
  not_sending = λ phases link p change there. changes phases link (on_sending change) (Receiving p) there;
  not_receiving = λ phases link p change there. changes phases link (on_receiving change) (Sending p) there;
}

not_zero : (n : ℕ) → 0 < n → (n == 0) ≡ false
not_zero n some = grind arith

pub free : FreeSideLaw
free = record {
  sending = λ links rank n link there from.
      ap is_unshaped_sending ((first_sides links rank n link there).0 from);
  receiving = λ links rank n link there from to.
      ap is_unshaped_receiving ((first_sides links rank n link there).1 from to);
  sending_once = λ phases link parts size some.
      ap is_unshaped_sending (one_side phases link (on_sending (shaped_sending parts size))).0
      ∙ sends parts size some (slice_get phases link);
  receiving_once = λ phases link parts size some.
      ap is_unshaped_receiving (one_side phases link (on_receiving (shaped_receiving parts size))).0
      ∙ receives parts size some (slice_get phases link);
}
  where
    sends : (parts size : ℕ) → 0 < parts → (side : Option Phase)
        → is_unshaped_sending (option_map (on_sending (shaped_sending parts size)) side) ≡ false
    sends parts size some None = refl
    sends parts size some (Some Apart) = refl
    sends parts size some (Some (Sending p)) = not_zero parts some
    sends parts size some (Some (Receiving p)) = refl

    receives : (parts size : ℕ) → 0 < parts → (side : Option Phase)
        → is_unshaped_receiving (option_map (on_receiving (shaped_receiving parts size)) side) ≡ false
    receives parts size some None = refl
    receives parts size some (Some Apart) = refl
    receives parts size some (Some (Sending p)) = refl
    receives parts size some (Some (Receiving p)) = not_zero parts some
