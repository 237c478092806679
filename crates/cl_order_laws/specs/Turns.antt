-- Where a turn of a hart leads, by what it asks: what a list of nodes is checked by.
use Rattle.std.specs.Prelude.{ℕ, ◌≡◌, ◌⊎◌, List, slice_get, Some}
use Rattle.mp_types.specs.declared.requests.Request.{Request}
use Rattle.cl_state.specs.declared.asking.Answer.{Answer}
use Rattle.cl_state.specs.declared.asking.Ask.{Ask}
use Rattle.cl_state.specs.Asked.{asked}
use Rattle.cl_state.specs.Rank.{Rank}
use Rattle.cl_trace.specs.declared.events.Kind.{Kind}
use Rattle.cl_machine.specs.declared.steps.Step.{Step}
use Rattle.cl_machine.specs.Boxes.{Box, Holds, IsEmpty, box_number, with_made, with_taken}
use Rattle.cl_machine.specs.Cluster.{Cluster, only_told, ranks_told, with_box}
use Rattle.cl_machine.specs.Journal.{reply_in, with_entry}
use Rattle.cl_order_laws.specs.Alike.{Leads}

-- the rank was told the hub's reply to its request, and the call stands in the journal
abbrev pub called : Cluster → Step → Rank → Request → Cluster
called old e rank request = record {
  ranks = ranks_told old e rank (Answer.Reply (reply_in old.journal e.rank request));
  journal = with_entry old.journal (record {
    rank = e.rank;
    hart = e.hart;
    clock = rank.clock;
    stamp = e.stamp;
    request = request;
    reply = reply_in old.journal e.rank request;
  });
  boxes = old.boxes;
}

-- a turn of this kind that tells the rank this alone
abbrev pub IsOnly : Cluster → Step → Rank → Kind → Answer → Cluster → Type 0
IsOnly old e rank kind answer new = (e.kind ≡ kind) × (new ≡ only_told old e rank answer)

-- a box that is there
abbrev pub IsBox : Cluster → ℕ → ℕ → Box → Type 0
IsBox cluster link part box = slice_get cluster.boxes (box_number link part) ≡ Some box

-- what the turn is, and where it leads, of a hart that asks this. A look that could see may miss too
abbrev pub IsTurn : Cluster → Step → Rank → Ask → Cluster → Type 0
IsTurn old e rank Ask.Plain new = IsOnly old e rank Kind.Plain Answer.Alone new
IsTurn old e rank Ask.Local new = IsOnly old e rank Kind.Local Answer.Alone new
IsTurn old e rank Ask.Held new = IsOnly old e rank Kind.Held Answer.Alone new
IsTurn old e rank Ask.Idle new = IsOnly old e rank Kind.Idle Answer.Alone new
IsTurn old e rank (Ask.Hub request) new =
    (e.kind ≡ Kind.Hub (reply_in old.journal e.rank request)) × (new ≡ called old e rank request)
IsTurn old e rank (Ask.Ready link part bytes) new =
    (e.kind ≡ Kind.Ready)
    × ((box : Box) × IsBox old link part box × IsEmpty box
    × (new ≡ with_box old e rank Answer.Alone (box_number link part) (with_made box e.stamp bytes)))
IsTurn old e rank (Ask.Look link part) new =
    IsOnly old e rank Kind.Miss Answer.Missed new
    ⊎ ((e.kind ≡ Kind.Take)
    × ((bytes : List ℕ) × (box : Box) × IsBox old link part box × Holds box bytes
    × (new ≡ with_box old e rank (Answer.Taken bytes) (box_number link part) (with_taken box e.stamp))))
IsTurn old e rank (Ask.Freed link part) new =
    IsOnly old e rank Kind.Miss Answer.Missed new
    ⊎ (IsOnly old e rank Kind.Freed Answer.Freed new × ((box : Box) × IsBox old link part box × IsEmpty box))

-- so of a cluster, a rank and a hart there is one cluster behind, or two where a look may see; but for the stamp
abbrev pub TurnsLaw : Type 0
TurnsLaw =
    (old new : Cluster) (e : Step) (rank : Rank) → slice_get old.ranks e.rank ≡ Some rank → Leads old e new
    → IsTurn old e rank (asked rank e.hart) new
