-- What ranks that ran apart hand over.
use Rattle.std.specs.Prelude.{ℕ, suc, ◌+◌, ◌<◌, ◌/◌, List, [], ◌∷◌, ◌≡◌, ◌⊎◌, length, slice_get, Option, None, Some, ⊤}
use Rattle.std.specs.List.{filter_map, cons_option, AllByRecursion}
use Rattle.rv_image_types.specs.declared.images.Link.{Link}
use Rattle.cl_journal.specs.declared.entries.Entry.{Entry}
use Rattle.cl_machine.specs.Journal.{Enters}
use Rattle.cl_deeds.specs.Deeds.{Act, Deed, RankMoves, PartRun}
use Rattle.cl_machine.specs.Boxes.{Thing, Box, empty_box}
use Rattle.cl_machine.specs.Cluster.{Cluster}
use Rattle.cl_machine.specs.Order.{of_rank}
use Rattle.cl_machine.specs.Parts.{own, PartRunAt}
use Rattle.cl_machine.specs.Product.{entry_of, box_at}

-- a thing that was taken: its ready stamp, its bytes, and the stamp of its Take
pub record Got : Type 0 where
  pub stamp : ℕ
  pub bytes : List ℕ
  pub take : ℕ

abbrev pub thing_of : Got → Thing
thing_of g = record { stamp = g.stamp; bytes = g.bytes }

abbrev pub made_for : ℕ → Act → Option Thing
made_for stamp (Act.Ready link part bytes) = Some (record { stamp = stamp; bytes = bytes })
made_for stamp _ = None

abbrev pub made_of : Deed → Option Thing
made_of d = made_for d.stamp d.act

abbrev pub got_for : ℕ → Act → Option Got
got_for stamp (Act.Take link part gate bytes) = Some (record { stamp = gate; bytes = bytes; take = stamp })
got_for stamp _ = None

abbrev pub got_of : Deed → Option Got
got_of d = got_for d.stamp d.act

-- the link of a box by its number
abbrev pub link_of_box : List Link → ℕ → Option Link
link_of_box links box = slice_get links (box / 16)

-- a rank makes and sees freed only where it is the sender, and takes only where it is the receiver
abbrev pub OnItsSide : List Link → ℕ → Act → Type 0
OnItsSide links rank (Act.Ready link part bytes) = (l : Link) × (slice_get links link ≡ Some l) × (part < 16)
    × (l.from ≡ rank)
OnItsSide links rank (Act.Freed link part gate) = (l : Link) × (slice_get links link ≡ Some l) × (part < 16)
    × (l.from ≡ rank)
OnItsSide links rank (Act.Take link part gate bytes) = (l : Link) × (slice_get links link ≡ Some l) × (part < 16)
    × (l.to ≡ rank)
OnItsSide links rank _ = ⊤

-- the number of things made once this act is done
abbrev pub made_more : ℕ → Act → ℕ
made_more n (Act.Ready link part bytes) = n + 1
made_more n _ = n

abbrev pub shown_for : ℕ → Act → Option (ℕ × ℕ)
shown_for n (Act.Freed link part gate) = Some (n, gate)
shown_for n _ = None

-- what the gate showed at each Freed, with the number of things made by then; n are made already
abbrev pub takes_shown : ℕ → List Deed → List (ℕ × ℕ)
takes_shown n [] = []
takes_shown n (d ∷ ds) = cons_option (shown_for n d.act) (takes_shown (made_more n d.act) ds)

-- with k + 1 made by then the gate shows take stamp k
abbrev pub ShowsTake : List Got → ℕ × ℕ → Type 0
ShowsTake got p = (k : ℕ) × (g : Got) × (p.0 ≡ k + 1) × (slice_get got k ≡ Some g) × (p.1 ≡ g.take)

-- the gate's stamp at the end: of the last thing made where it wasn't taken, else of the last Take, else s
abbrev pub gate_stamp : ℕ → List Thing → List Got → ℕ
gate_stamp s [] got = s
gate_stamp s (m ∷ made) [] = m.stamp
gate_stamp s (m ∷ made) (g ∷ got) = gate_stamp g.take made got

-- one box: what its two views hold after the join, and how they hang together
pub record BoxJoined (links : List Link) (b : ℕ) (deeds : ℕ → List Deed) (final : Box) : Type 0 where
  pub link : Link
  pub link_is : link_of_box links b ≡ Some link
  -- the views are the two ranks' events
  pub made : List Thing
  pub got : List Got
  pub made_is : filter_map made_of (own box_at b (deeds link.from)) ≡ made
  pub got_is : filter_map got_of (own box_at b (deeds link.to)) ≡ got
  pub loaded : List (ℕ × ℕ)
  pub loaded_is : takes_shown 0 (own box_at b (deeds link.from)) ≡ loaded
  -- the gate rule over the views
  pub one_more : (length made ≡ length got) ⊎ (length made ≡ length got + 1)
  pub front : (k : ℕ) (g : Got) → slice_get got k ≡ Some g → slice_get made k ≡ Some (thing_of g)
  pub taken_after : (k : ℕ) (g : Got) → slice_get got k ≡ Some g → g.stamp < g.take
  pub made_after : (k : ℕ) (g : Got) (m : Thing) → slice_get got k ≡ Some g → slice_get made (suc k) ≡ Some m
      → g.take < m.stamp
  pub freed : AllByRecursion (ShowsTake got) loaded
  -- what is left in the box
  pub end : final ≡ record { made = made; taken = length got; stamp = gate_stamp 0 made got }

abbrev pub BoxJoinedAt : List Link → ℕ → (ℕ → List Deed) → Option Box → Option Box → Type 0
BoxJoinedAt links b deeds None None = link_of_box links b ≡ None
BoxJoinedAt links b deeds (Some old) (Some new) = (old ≡ empty_box) × BoxJoined links b deeds new
BoxJoinedAt links b deeds None (Some new) = ⊥
BoxJoinedAt links b deeds (Some old) None = ⊥

-- each rank alone, the journal, and each box. The deeds of rank r are deeds r
pub record Joined (links : List Link) (start final : Cluster) (deeds : ℕ
    → List Deed) (entries : List Entry) : Type 0 where
  -- each rank's deeds lead it, alone, from its start to its end, and touch boxes on its own side only
  pub ranks : (r : ℕ) → PartRunAt RankMoves (slice_get start.ranks r) (deeds r) (slice_get final.ranks r)
  pub sides : (r : ℕ) → AllByRecursion (λ (d : Deed). OnItsSide links r d.act) (deeds r)
  -- the entries replay, and a rank's entries are its hub deeds in order
  pub journal : PartRun Enters start.journal entries final.journal
  pub calls : (r : ℕ) → of_rank (λ (e : Entry). e.rank) r entries ≡ filter_map entry_of (deeds r)
  -- the gate rule's facts of each box
  pub boxes : (b : ℕ) → BoxJoinedAt links b deeds (slice_get start.boxes b) (slice_get final.boxes b)
