-- Each rank alone keeps the gate rule.
use Rattle.std.specs.Prelude.{ℕ, ◌+◌, ◌*◌, ◌/◌, ◌%◌, ◌<◌, ◌≡◌, ◌≢◌, List, [], ◌∷◌, Bool, true, false, cond, eqb}
use Rattle.std.specs.List.{AllByRecursion}
use Rattle.std.proofs.Common.{refl, sym, subst, arith}
use Rattle.std.proofs.Math.Nat.{div-add-mod}
use Rattle.std.proofs.lemmas.Nat.{mod_below}
use Rattle.std.proofs.lemmas.Bool.{eqb-true}
use Rattle.std.proofs.lemmas.Bool.Decides.{eqb_tells}
use mathlib.Core.Logic.{inl, inr}
use Rattle.rv_image_types.specs.declared.images.ImageVersion.{ImageVersion}
use Rattle.rv_image_types.specs.declared.images.Link.{Link}
use Rattle.part_phase.specs.declared.phases.Phase.{Phase}
use Rattle.part_phase.specs.Phases.{sending_at}
use Rattle.part_phase.specs.Receiving.{one_taken}
use Rattle.cl_state.specs.Asked.{asked}
use Rattle.cl_state.specs.Moves.{Known}
use Rattle.cl_state.proofs.Known.{known as known_of}
use Rattle.cl_state.specs.declared.asking.Ask.{Ask}
use Rattle.cl_state.specs.declared.asking.Ask.TheVariants as ask
use Rattle.rv_image_types.specs.declared.images.ImageParts.{ImageParts}
use Rattle.cl_state.specs.Rank.{Rank, loaded}
use Rattle.cl_deeds.specs.Deeds.{Act, Deed, RankMoves}
use Rattle.cl_deeds.specs.Alone.{IsAlone}
use Rattle.cl_machine.specs.Boxes.{box_number}
use Rattle.cl_machine.specs.Joined.{OnItsSide}
use Rattle.cl_machine.specs.Parts.{is_index, own}
use Rattle.cl_machine.specs.Product.{box_at, box_for}
use Rattle.cl_box_laws.specs.Gates.{Gate, GatesKeptLaw, KeepsGate, MayAct, MayAsk, QuestionsLaw, gate_after, gate_along}
use Rattle.cl_box_laws.specs.Gates.{gate_of}
use Rattle.cl_box_laws.proofs.Acts.{freed_here, freed_there, hub_stands, local_stands, on_its_side}
use Rattle.cl_box_laws.proofs.Acts.{ready_here, ready_there, receiving_stands, same_stands, sides_kept}
use Rattle.cl_box_laws.proofs.Moves.{ActMoves, is_part as is_own_part, moves}
use Rattle.cl_box_laws.proofs.Sides.{AreSides, first_sides, none_sends, receives_on, sends_on}
use Rattle.cl_box_laws.proofs.Stands.{Stands, stands_first}

-- a box's number tells its link and its place there
same_link : (link part k i b : ℕ) → part < 16 → i < 16 → 16 * k + i ≡ b → box_number link part ≡ b → link ≡ k
same_link link part k i b low lower is e = omega (arith, low, lower, is, e)

same_part : (link part k i b : ℕ) → part < 16 → i < 16 → 16 * k + i ≡ b → box_number link part ≡ b → part ≡ i
same_part link part k i b low lower is e =
    let same = same_link link part k i b low lower is e in omega (arith, is, e, same)

-- one act, and the gate of box b
module _ (links : List Link) (rank : ℕ) (version : ImageVersion) (old new : List Phase)
    (sides : AreSides links rank old)
    (k i b : ℕ) (low : i < 16) (is : 16 * k + i ≡ b) (gate : Gate) (h : Stands i (sending_at old k) gate) where
  -- it moves the box
  here : (a : Act) → ActMoves version a old new → is_index b (box_for a) ≡ true
      → MayAct gate a × Stands i (sending_at new k) (gate_after gate a)
  here Act.Plain m e = absurd (cc)
  here Act.Local m e = absurd (cc)
  here (Act.Hub clock request reply) m e = absurd (cc)
  here (Act.Ready link part bytes) m e =
      let few = (sends_on links rank old link part sides m.0.0).2 in
      let at_it = eqb-true (box_number link part) b e in
      ready_here i k gate old new h link part (same_link link part k i b few low is at_it)
      (same_part link part k i b few low is at_it) m.0 m.1
  here (Act.Take link part stamp bytes) m e = (tt, receiving_stands i k gate old new h link (one_taken part) m.1)
  here (Act.Miss link part) m e = absurd (cc)
  here (Act.Freed link part stamp) m e =
      let few = (sends_on links rank old link part sides m.0.0).2 in
      let at_it = eqb-true (box_number link part) b e in
      freed_here i k gate old new h link part (same_link link part k i b few low is at_it)
      (same_part link part k i b few low is at_it) m.0 m.1
  here Act.Held m e = absurd (cc)
  here Act.Idle m e = absurd (cc)

  another : (link part : ℕ) → eqb (box_number link part) b ≡ false → link ≡ k → part ≢ i
  another link part e same its =
      elim (eqb_tells (box_number link part) b)
      [ inl t ↦ absurd (let yes = t.0 in (cc)) | inr f ↦ absurd (f.1 (omega (arith, is, same, its))) ]

  -- it doesn't
  there : (a : Act) → ActMoves version a old new → is_index b (box_for a) ≡ false → Stands i (sending_at new k) gate
  there Act.Plain m e = same_stands i k gate old new h m
  there Act.Local m e = local_stands i k gate old new h m
  there (Act.Hub clock request reply) m e = hub_stands i k gate old new h version m
  there (Act.Ready link part bytes) m e = ready_there i k gate old new h link part (another link part e) m.0 m.1
  there (Act.Take link part stamp bytes) m e = receiving_stands i k gate old new h link (one_taken part) m.1
  there (Act.Miss link part) m e = same_stands i k gate old new h m
  there (Act.Freed link part stamp) m e = freed_there i k gate old new h link part (another link part e) m.0 m.1
  there Act.Held m e = same_stands i k gate old new h m
  there Act.Idle m e = same_stands i k gate old new h m

-- ---- along a run

module _ (links : List Link) (rank : ℕ) where
  sides_next : (d : Deed) (old new : Rank) → RankMoves old d new → AreSides links rank old.phases
      → AreSides links rank new.phases
  sides_next d old new move h =
      sides_kept links rank old.site.version old.phases new.phases h d.act (moves old new d move)

  all_sides : (ds : List Deed) (old new : Rank) → AreSides links rank old.phases → IsAlone old ds new
      → AllByRecursion (λ (d : Deed). OnItsSide links rank d.act) ds
  all_sides [] old new h run = tt
  all_sides (d ∷ ds) old new h run = (
    on_its_side links rank old.site.version old.phases (run.0).phases h d.act (moves old run.0 d run.1),
    all_sides ds run.0 new (sides_next d old run.0 run.1 h) run.2,
  )

  sides_then : (ds : List Deed) (old new : Rank) → AreSides links rank old.phases → IsAlone old ds new
      → AreSides links rank new.phases
  sides_then [] old new h run = subst (λ (r : Rank). AreSides links rank r.phases) (sym run) h
  sides_then (d ∷ ds) old new h run = sides_then ds run.0 new (sides_next d old run.0 run.1 h) run.2

  -- of box b, which is box i of link k
  module _ (k i b : ℕ) (low : i < 16) (is : 16 * k + i ≡ b) where
    stands_here : (gate : Gate) (d : Deed) (old new : Rank) → RankMoves old d new → AreSides links rank old.phases
        → Stands i (sending_at old.phases k) gate → is_index b (box_at d) ≡ true
        → MayAct gate d.act × Stands i (sending_at new.phases k) (gate_after gate d.act)
    stands_here gate d old new move sides h =
        here links rank old.site.version old.phases new.phases sides k i b low is gate h d.act (moves old new d move)

    stands_there : (gate : Gate) (d : Deed) (old new : Rank) → RankMoves old d new → AreSides links rank old.phases
        → Stands i (sending_at old.phases k) gate → is_index b (box_at d) ≡ false
        → Stands i (sending_at new.phases k) gate
    stands_there gate d old new move sides h =
        there links rank old.site.version old.phases new.phases sides k i b low is gate h d.act (moves old new d move)

    keeps : (gate : Gate) (ds : List Deed) (old new : Rank) → AreSides links rank old.phases
        → Stands i (sending_at old.phases k) gate → IsAlone old ds new → KeepsGate gate (own box_at b ds)
    keeps gate [] old new sides h run = tt
    keeps gate (d ∷ ds) old new sides h run =
        go (is_index b (box_at d)) refl (λ g s. keeps g ds run.0 new (sides_next d old run.0 run.1 sides) s run.2)
      where
        go : (c : Bool) → is_index b (box_at d) ≡ c
            → ((g : Gate) → Stands i (sending_at (run.0).phases k) g → KeepsGate g (own box_at b ds))
            → KeepsGate gate (cond c (d ∷ own box_at b ds) (own box_at b ds))
        go true e rest =
            let s = stands_here gate d old run.0 run.1 sides h e in (s.0, rest (gate_after gate d.act) s.1)
        go false e rest = rest gate (stands_there gate d old run.0 run.1 sides h e)

    stands_then : (gate : Gate) (ds : List Deed) (old new : Rank) → AreSides links rank old.phases
        → Stands i (sending_at old.phases k) gate → IsAlone old ds new
        → Stands i (sending_at new.phases k) (gate_along gate (own box_at b ds))
    stands_then gate [] old new sides h run = subst (λ (r : Rank). Stands i (sending_at r.phases k) gate) (sym run) h
    stands_then gate (d ∷ ds) old new sides h run =
        go (is_index b (box_at d)) refl
        (λ g s. stands_then g ds run.0 new (sides_next d old run.0 run.1 sides) s run.2)
      where
        go : (c : Bool) → is_index b (box_at d) ≡ c
            → ((g : Gate) → Stands i (sending_at (run.0).phases k) g
            → Stands i (sending_at new.phases k) (gate_along g (own box_at b ds)))
            → Stands i (sending_at new.phases k) (gate_along gate (cond c (d ∷ own box_at b ds) (own box_at b ds)))
        go true e rest = rest (gate_after gate d.act) (stands_here gate d old run.0 run.1 sides h e).1
        go false e rest = rest gate (stands_there gate d old run.0 run.1 sides h e)

-- ---- from the loaded rank on

module _ (image : ImageParts) (r : ℕ) where
  sides_at_first : AreSides image.links r (loaded image r).phases
  sides_at_first = first_sides image.links r

  stands_at_first : (k i : ℕ) → Stands i (sending_at (loaded image r).phases k) Gate.Unused
  stands_at_first k i = subst (λ p. Stands i p Gate.Unused) (sym (none_sends image.links r k)) (stands_first i)

  module _ (ds : List Deed) (new : Rank) (run : IsAlone (loaded image r) ds new) where
    sides : AreSides image.links r new.phases
    sides = sides_then image.links r ds (loaded image r) new sides_at_first run

    -- the sender's side of a box stands to its gate
    stands : (link part : ℕ) → part < 16 → Stands part (sending_at new.phases link) (gate_of ds link part)
    stands link part low =
        stands_then image.links r link part (box_number link part) low refl Gate.Unused ds (loaded image r) new
        sides_at_first (stands_at_first link part) run

    may_ask : (q : Ask) → Known new.site new.memory new.phases q → MayAsk image.links r ds q
    may_ask (ask.Ready link part bytes) known =
        let on = sends_on image.links r new.phases link part sides known.there in
        ((on.0, on.1, on.3), on.2, (stands link part on.2).unready known.unready)
    may_ask (ask.Freed link part) known =
        let own_part = is_own_part (sending_at new.phases link) part known in
        let on = sends_on image.links r new.phases link part sides own_part in
        ((on.0, on.1, on.3), on.2, (stands link part on.2).used known.ready)
    may_ask (ask.Look link part) known =
        let on = receives_on image.links r new.phases link part sides known.there in ((on.0, on.1, on.3), on.2)
    may_ask ask.Plain known = tt
    may_ask ask.Local known = tt
    may_ask (ask.Hub request) known = tt
    may_ask ask.Held known = tt
    may_ask ask.Idle known = tt

pub gates_kept : GatesKeptLaw
gates_kept image r ds new run = (
  all_sides image.links r ds (loaded image r) new (sides_at_first image r) run,
  λ b.
      keeps image.links r (b / 16) (b % 16) b (mod_below b 16 (omega arith)) (div-add-mod b 16) Gate.Unused ds
      (loaded image r) new (sides_at_first image r) (stands_at_first image r (b / 16) (b % 16)) run,
)

pub questions : QuestionsLaw
questions image r ds new hart run = may_ask image r ds new run (asked new hart) (known_of new hart)
