-- What each call needs to be right.
use Rattle.std.specs.Prelude.{ℕ, Some, None, true, false}
use Rattle.cl_calls.specs.declared.calls.Call.{Call}
use Rattle.cl_calls.specs.declared.calls.Call.TheVariants.{Exit, Put, Rank, Size, Hart, Send, Ssend, Recv, Isend}
use Rattle.cl_calls.specs.declared.calls.Call.TheVariants.{Issend, Irecv, Test, Wait, Iprobe, Probe, Improbe, Mprobe}
use Rattle.cl_calls.specs.declared.calls.Call.TheVariants.{Imrecv, Mrecv, SendInit, RecvInit, Start, RequestFree}
use Rattle.cl_calls.specs.declared.calls.Call.TheVariants.{Testall, Waitall, PsendInit, PrecvInit, Pready, Parrived}
use Rattle.cl_calls.specs.declared.calls.Call.TheVariants.{Unknown}
use Rattle.cl_calls.specs.declared.calls.Claimed.{Claimed}
use Rattle.cl_calls.specs.declared.calls.Completing.{Completing}
use Rattle.cl_calls.specs.declared.calls.Partitioning.{Partitioning}
use Rattle.cl_calls.specs.declared.calls.Probing.{Probing}
use Rattle.cl_calls.specs.declared.calls.Receiving.{Receiving}
use Rattle.cl_calls.specs.declared.calls.Sending.{Sending}
use Rattle.cl_calls.specs.declared.calls.Several.{Several}
use Rattle.cl_calls.specs.declared.needs.Array.{Array}
use Rattle.cl_calls.specs.declared.needs.Named.TheVariants.{Nothing, NullOrOpen, Persistent, Open, SendPart}
use Rattle.cl_calls.specs.declared.needs.Named.TheVariants.{ReceivePart}
use Rattle.cl_calls.specs.declared.needs.Needs.{Needs}
use Rattle.cl_calls.specs.declared.needs.Region.{Region}
use Rattle.cl_calls.specs.declared.needs.Peer.{Peer}
use Rattle.cl_calls.specs.declared.needs.Range.{Range}
use Rattle.cl_calls.specs.declared.needs.Statuses.{Statuses}
use Rattle.cl_calls.specs.declared.needs.Tag.{Tag}

abbrev pub reads : ℕ → ℕ → Range
reads address count = record { address = address; count = count; writing = false }

abbrev pub writes : ℕ → ℕ → Range
writes address count = record { address = address; count = count; writing = true }

-- a destination: a member or the null process
abbrev pub destination : ℕ → Peer
destination rank = record { rank = rank; any = false; null = true }

-- a source: a member, any of them, or the null process
abbrev pub source : ℕ → Peer
source rank = record { rank = rank; any = true; null = true }

-- the other side of a partitioned transfer: a member
abbrev pub other_side : ℕ → Peer
other_side rank = record { rank = rank; any = false; null = false }

abbrev pub one_tag : ℕ → Tag
one_tag tag = record { tag = tag; any = false }

abbrev pub tag_or_any : ℕ → Tag
tag_or_any tag = record { tag = tag; any = true }

-- statuses from an address on, or none where it is 0
abbrev pub statuses_at : ℕ → ℕ → Statuses
statuses_at address count = record { address = address; count = count }

abbrev pub one_status : ℕ → Statuses
one_status address = statuses_at address 1

abbrev pub array_at : ℕ → ℕ → Array
array_at address count = record { address = address; count = count }

abbrev pub nothing : Needs
nothing = record {
  known = true;
  handles = array_at 0 0;
  request = Nothing;
  comm = None;
  peer = None;
  tag = one_tag 0;
  region = None;
  buffer = reads 0 0;
  statuses = statuses_at 0 0;
  growth = 0;
  slot = false;
}

-- a call that opens a request needs a free handle too
abbrev pub opening : Needs → Needs
opening needs = record needs { slot = true }

-- the calls that send
abbrev pub needs_of_sending : Sending → Needs
needs_of_sending s = record nothing {
  comm = Some s.comm;
  peer = Some (destination s.dest);
  tag = one_tag s.tag;
  buffer = reads s.buffer s.count;
}

-- the calls that receive, with the address of a status or 0
abbrev pub needs_of_receiving : ℕ → Receiving → Needs
needs_of_receiving status r = record nothing {
  comm = Some r.comm;
  peer = Some (source r.source);
  tag = tag_or_any r.tag;
  buffer = writes r.buffer r.capacity;
  statuses = one_status status;
}

abbrev pub needs_of_claimed : ℕ → Claimed → Needs
needs_of_claimed status m =
    record nothing { buffer = writes m.buffer m.capacity; statuses = one_status status }

abbrev pub needs_of_probing : Probing → Needs
needs_of_probing p = record nothing {
  comm = Some p.comm;
  peer = Some (source p.source);
  tag = tag_or_any p.tag;
  statuses = one_status p.status;
}

abbrev pub needs_of_completing : Completing → Needs
needs_of_completing c = record nothing { request = NullOrOpen c.handle; statuses = one_status c.status }

-- as many statuses as handles
abbrev pub needs_of_several : Several → Needs
needs_of_several s = record nothing { handles = array_at s.array s.count; statuses = statuses_at s.statuses s.count }

-- the partitions of a transfer, which its sender reads and its receiver writes
abbrev pub region_read : Partitioning → Region
region_read t = record { address = t.buffer; parts = t.parts; size = t.size; writing = false }

abbrev pub region_written : Partitioning → Region
region_written t = record { address = t.buffer; parts = t.parts; size = t.size; writing = true }

-- one side of a partitioned transfer
abbrev pub needs_of_partitioning : Region → Partitioning → Needs
needs_of_partitioning region t =
    record nothing { comm = Some t.comm; peer = Some (other_side t.peer); tag = one_tag t.tag; region = Some region }

abbrev pub needs_of : Call → Needs
needs_of (Exit code) = nothing
needs_of (Put buffer count) = record nothing { buffer = reads buffer count; growth = count }
needs_of (Rank comm) = record nothing { comm = Some comm }
needs_of (Size comm) = record nothing { comm = Some comm }
needs_of Hart = nothing
needs_of (Send s) = needs_of_sending s
needs_of (Ssend s) = needs_of_sending s
needs_of (Recv r status) = needs_of_receiving status r
needs_of (Isend s) = opening (needs_of_sending s)
needs_of (Issend s) = opening (needs_of_sending s)
needs_of (Irecv r) = opening (needs_of_receiving 0 r)
needs_of (Test c) = needs_of_completing c
needs_of (Wait c) = needs_of_completing c
needs_of (Iprobe p) = needs_of_probing p
needs_of (Probe p) = needs_of_probing p
needs_of (Improbe p) = needs_of_probing p
needs_of (Mprobe p) = needs_of_probing p
needs_of (Imrecv m) = opening (needs_of_claimed 0 m)
needs_of (Mrecv m status) = needs_of_claimed status m
needs_of (SendInit s) = opening (needs_of_sending s)
needs_of (RecvInit r) = opening (needs_of_receiving 0 r)
needs_of (Start handle) = record nothing { request = Persistent handle }
needs_of (RequestFree handle) = record nothing { request = Open handle }
needs_of (Testall s) = needs_of_several s
needs_of (Waitall s) = needs_of_several s
needs_of (PsendInit t) = opening (needs_of_partitioning (region_read t) t)
needs_of (PrecvInit t) = opening (needs_of_partitioning (region_written t) t)
needs_of (Pready handle part) = record nothing { request = SendPart handle part }
needs_of (Parrived handle part) = record nothing { request = ReceivePart handle part }
needs_of Unknown = record nothing { known = false }
