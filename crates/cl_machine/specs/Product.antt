-- What a deed moves beside its rank: the hub, by an entry of its journal, or a box.
use Rattle.std.specs.Prelude.{ℕ, Option, None, Some}
use Rattle.cl_journal.specs.declared.entries.Entry.{Entry}
use Rattle.cl_deeds.specs.Deeds.{Act, Deed}
use Rattle.cl_machine.specs.Boxes.{box_number}

-- the journal's entry of a hub call
abbrev pub entry_for : Deed → Act → Option Entry
entry_for d (Act.Hub clock request reply) =
    Some (record { rank = d.rank; hart = d.hart; clock = clock; stamp = d.stamp; request = request; reply = reply })
entry_for d _ = None

abbrev pub entry_of : Deed → Option Entry
entry_of d = entry_for d d.act

-- the box that a deed moves. A Miss changes nothing and is always allowed
abbrev pub box_for : Act → Option ℕ
box_for (Act.Ready link part bytes) = Some (box_number link part)
box_for (Act.Take link part gate bytes) = Some (box_number link part)
box_for (Act.Freed link part gate) = Some (box_number link part)
box_for _ = None

abbrev pub box_at : Deed → Option ℕ
box_at d = box_for d.act
