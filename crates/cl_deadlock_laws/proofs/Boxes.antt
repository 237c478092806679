-- A box stays empty while its sender makes nothing, and full while its receiver takes nothing.
use Rattle.std.specs.Prelude.{ℕ, ◌≡◌, ◌≢◌, ◌<◌, Bool, true, false, List, Option, Some, None}
use Rattle.std.specs.Prelude.{slice_get, slice_set}
use Rattle.std.proofs.Common.{sym, ap, ◌∙◌, subst, arith, inl, inr}
use Rattle.std.proofs.lemmas.Bool.{cases_eq, eq-eqb}
use Rattle.std.proofs.lemmas.Option.{slice_get_within}
use Rattle.rv_image_types.specs.declared.images.ImageParts.{ImageParts}
use Rattle.rv_image_types.specs.declared.images.Link.{Link}
use Rattle.mp_transfers.specs.Inits.{is_receiver, is_to}
use Rattle.mp_wait_laws.specs.Waits.{OnlyOf, is_from, sends_over}
use Rattle.cl_state.specs.declared.asking.Ask.{Ask}
use Rattle.cl_state.specs.declared.asking.Ask.TheVariants as ask
use Rattle.cl_state.specs.Asked.{asked}
use Rattle.cl_state.specs.Rank.{Rank, loaded}
use Rattle.cl_deeds.specs.Deeds.{Act, Suits, Deed}
use Rattle.cl_deeds.specs.Alone.{IsAlone}
use Rattle.cl_box_laws.specs.Gates.{MayAsk}
use Rattle.cl_box_laws.proofs.Kept.{questions}
use Rattle.cl_machine.specs.Boxes.{Box, Holds, IsEmpty, box_number}
use Rattle.cl_machine.specs.PartRuns.{PartsMove, PartsMoveAt}
use Rattle.cl_machine.specs.Product.{box_at, box_for}
use Rattle.cl_machine.specs.ProductSteps.{BoxActs, BoxMoves}
use Rattle.cl_machine.proofs.Lists.{get-set_other, get-set_same}
use Rattle.cl_deadlock_laws.specs.Stuck.{IsEmptyAt, IsFullAt}

-- what a deed that acts so does to the boxes
abbrev pub BoxesMove : List Box → Deed → Act → List Box → Type 0
BoxesMove old d act new =
    PartsMoveAt (λ (b : Box) (x : Deed) (c : Box). BoxActs b x.stamp act c) (box_for act) old d new

pub boxes_move : (old : List Box) (d : Deed) (new : List Box) → PartsMove BoxMoves box_at old d new
    → BoxesMove old d d.act new
boxes_move old d new moves = go (box_for d.act) moves
  where
    go : (o : Option ℕ) → PartsMoveAt BoxMoves o old d new
        → PartsMoveAt (λ (b : Box) (x : Deed) (c : Box). BoxActs b x.stamp d.act c) o old d new
    go None moves = moves
    go (Some k) moves = moves

-- an empty box holds nothing
pub not_held : (box : Box) (bytes : List ℕ) → IsEmpty box → Holds box bytes → ⊥
not_held box bytes empty holds =
    let low = slice_get_within box.made box.taken _ holds in absurd (omega (arith, low, empty))

same_link : (link part link2 part2 : ℕ) → part < 16 → part2 < 16 → box_number link2 part2 ≡ box_number link part
    → link2 ≡ link
same_link link part link2 part2 low low2 same = omega (arith, low, low2, same)

-- ---- who asks at a box

pub asks_from : (links : List Link) (rank link : ℕ) (l : Link) → slice_get links link ≡ Some l → l.from ≡ rank
    → sends_over links link rank ≡ true
asks_from links rank link l there from = ap (is_from rank) there ∙ eq-eqb l.from rank from

pub asks_to : (links : List Link) (rank link : ℕ) (l : Link) → slice_get links link ≡ Some l → l.to ≡ rank
    → is_receiver links rank link ≡ true
asks_to links rank link l there to = ap (is_to rank) there ∙ eq-eqb l.to rank to

-- of a rank that came alone: it makes things where it is the sender, takes them where it is the receiver, and each link
-- has 16 boxes
module _ (image : ImageParts) (r : ℕ) (ds : List Deed) (rank : Rank) (hart : ℕ)
    (run : IsAlone (loaded image r) ds rank) where
  may : (a : Ask) → asked rank hart ≡ a → MayAsk image.links r ds a
  may a asks = subst (λ (x : Ask). MayAsk image.links r ds x) asks (questions image r ds rank hart run)

  pub ready_sends : (link part : ℕ) (bytes : List ℕ) → asked rank hart ≡ ask.Ready link part bytes
      → sends_over image.links link r ≡ true
  ready_sends link part bytes asks =
      (let m = may (ask.Ready link part bytes) asks in asks_from image.links r link (m.0).0 (m.0).1 (m.0).2)

  pub ready_low : (link part : ℕ) (bytes : List ℕ) → asked rank hart ≡ ask.Ready link part bytes → part < 16
  ready_low link part bytes asks = (let m = may (ask.Ready link part bytes) asks in m.1)

  pub freed_low : (link part : ℕ) → asked rank hart ≡ ask.Freed link part → part < 16
  freed_low link part asks = (let m = may (ask.Freed link part) asks in m.1)

  pub look_receives : (link part : ℕ) → asked rank hart ≡ ask.Look link part → is_receiver image.links r link ≡ true
  look_receives link part asks =
      (let m = may (ask.Look link part) asks in asks_to image.links r link (m.0).0 (m.0).1 (m.0).2)

  pub look_low : (link part : ℕ) → asked rank hart ≡ ask.Look link part → part < 16
  look_low link part asks = (let m = may (ask.Look link part) asks in m.1)

-- ---- another rank's deed

module _ (image : ImageParts) (r : ℕ) (ds : List Deed) (rank : Rank) (run : IsAlone (loaded image r) ds rank)
    (among : ℕ → Bool) (out : among r ≡ false) (d : Deed) (old new : List Box) (link part : ℕ) (low : part < 16) where
  -- no thing is made in a box whose sender is among these
  not_made : (link2 part2 : ℕ) (bytes : List ℕ) → OnlyOf among (sends_over image.links link)
      → asked rank d.hart ≡ ask.Ready link2 part2 bytes → box_number link2 part2 ≢ box_number link part
  not_made link2 part2 bytes only asks same =
      let one =
      same_link link part link2 part2 low (ready_low image r ds rank d.hart run link2 part2 bytes asks) same in
      let sends = ready_sends image r ds rank d.hart run link2 part2 bytes asks in
      let inside = only r (subst (λ n. sends_over image.links n r ≡ true) one sends) in
      absurd (cc)

  -- and none is taken from one whose receiver is
  not_taken : (link2 part2 : ℕ) → OnlyOf among (λ k. is_receiver image.links k link)
      → asked rank d.hart ≡ ask.Look link2 part2 → box_number link2 part2 ≢ box_number link part
  not_taken link2 part2 only asks same =
      let one = same_link link part link2 part2 low (look_low image r ds rank d.hart run link2 part2 asks) same in
      let receives = look_receives image r ds rank d.hart run link2 part2 asks in
      let inside = only r (subst (λ n. is_receiver image.links r n ≡ true) one receives) in
      absurd (cc)

  -- a box that isn't the one that was moved
  elsewhere : (number : ℕ) (box : Box) → new ≡ slice_set old number box → number ≢ box_number link part
      → slice_get new (box_number link part) ≡ slice_get old (box_number link part)
  elsewhere number box is other =
      ap (λ bs. slice_get bs (box_number link part)) is ∙ get-set_other old number (box_number link part) box other

  -- a box that was moved to where it was
  unmoved : (number : ℕ) (b c : Box) → slice_get old number ≡ Some b → c ≡ b → new ≡ slice_set old number c
      → slice_get new (box_number link part) ≡ slice_get old (box_number link part)
  unmoved number b c there same is = elim (cases_eq number (box_number link part)) [
    | inl here ↦
        ap (λ bs. slice_get bs (box_number link part)) is
        ∙ subst (λ n. slice_get (slice_set old number c) n ≡ slice_get old n) here
        (get-set_same old number b c there ∙ ap (λ (x : Box). Some x) same ∙ sym there)
    | inr other ↦ elsewhere number c is other
  ]

  pub stays_empty : (act : Act) → Suits (asked rank d.hart) act → BoxesMove old d act new
      → OnlyOf among (sends_over image.links link) → IsEmptyAt old (box_number link part)
      → slice_get new (box_number link part) ≡ slice_get old (box_number link part)
  stays_empty (Act.Ready link2 part2 bytes) asks moves only empty =
      elsewhere (box_number link2 part2) moves.1 moves.4 (not_made link2 part2 bytes only asks)
  stays_empty (Act.Take link2 part2 gate bytes) asks moves only empty =
      elsewhere (box_number link2 part2) moves.1 moves.4
      (λ same. not_held moves.0 bytes
      (empty moves.0 (subst (λ n. slice_get old n ≡ Some moves.0) same moves.2)) (moves.3).0)
  stays_empty (Act.Freed link2 part2 gate) asks moves only empty =
      unmoved (box_number link2 part2) moves.0 moves.1 moves.2 ((moves.3).2) moves.4
  stays_empty Act.Plain asks moves only empty = ap (λ bs. slice_get bs (box_number link part)) moves
  stays_empty Act.Local asks moves only empty = ap (λ bs. slice_get bs (box_number link part)) moves
  stays_empty (Act.Hub clock request reply) asks moves only empty =
      ap (λ bs. slice_get bs (box_number link part)) moves
  stays_empty (Act.Miss link2 part2) asks moves only empty = ap (λ bs. slice_get bs (box_number link part)) moves
  stays_empty Act.Held asks moves only empty = ap (λ bs. slice_get bs (box_number link part)) moves
  stays_empty Act.Idle asks moves only empty = ap (λ bs. slice_get bs (box_number link part)) moves

  pub stays_full : (act : Act) → Suits (asked rank d.hart) act → BoxesMove old d act new
      → OnlyOf among (λ k. is_receiver image.links k link) → IsFullAt old (box_number link part)
      → slice_get new (box_number link part) ≡ slice_get old (box_number link part)
  stays_full (Act.Ready link2 part2 bytes) asks moves only full =
      elsewhere (box_number link2 part2) moves.1 moves.4
      (λ same. full moves.0 (subst (λ n. slice_get old n ≡ Some moves.0) same moves.2) (moves.3).0)
  stays_full (Act.Take link2 part2 gate bytes) asks moves only full =
      elsewhere (box_number link2 part2) moves.1 moves.4 (not_taken link2 part2 only asks)
  stays_full (Act.Freed link2 part2 gate) asks moves only full =
      unmoved (box_number link2 part2) moves.0 moves.1 moves.2 ((moves.3).2) moves.4
  stays_full Act.Plain asks moves only full = ap (λ bs. slice_get bs (box_number link part)) moves
  stays_full Act.Local asks moves only full = ap (λ bs. slice_get bs (box_number link part)) moves
  stays_full (Act.Hub clock request reply) asks moves only full = ap (λ bs. slice_get bs (box_number link part)) moves
  stays_full (Act.Miss link2 part2) asks moves only full = ap (λ bs. slice_get bs (box_number link part)) moves
  stays_full Act.Held asks moves only full = ap (λ bs. slice_get bs (box_number link part)) moves
  stays_full Act.Idle asks moves only full = ap (λ bs. slice_get bs (box_number link part)) moves
