-- The written cluster machine, as a table: one case for each kind of event.
use Rattle.std.specs.Prelude.{ℕ, ◌+◌, ◌*◌, ◌<◌, ◌^◌, max, List, [], ◌∷◌, ◌≡◌, ◌⊎◌, length, map, replicate, slice_get}
use Rattle.std.specs.Prelude.{slice_set, Some}
use Rattle.rv_image_types.specs.declared.images.ImageParts.{ImageParts}
use Rattle.mp_types.specs.declared.requests.Request.{Request}
use Rattle.cl_machine.specs.Journal.{Journal, empty_journal, reply_in, with_entry}
use Rattle.cl_state.specs.declared.asking.Answer.{Answer}
use Rattle.cl_state.specs.declared.asking.Ask.{Ask}
use Rattle.cl_trace.specs.declared.events.Kind.{Kind}
use Rattle.cl_state.specs.Rank.{Rank, below, loaded}
use Rattle.cl_state.specs.Asked.{asked}
use Rattle.cl_state.specs.Told.{told}
use Rattle.cl_machine.specs.declared.steps.Step.{Step}
use Rattle.cl_machine.specs.Boxes.{Box, empty_box, box_number, IsEmpty, Holds, with_made, with_taken}

pub record Cluster : Type 0 where
  pub ranks : List Rank
  pub journal : Journal
  pub boxes : List Box

-- all ranks loaded, no call made, all boxes empty
abbrev pub loaded_cluster : ImageParts → Cluster
loaded_cluster image = record {
  ranks = map (loaded image) (below image.ranks);
  journal = empty_journal image.links;
  boxes = replicate (16 * length image.links) empty_box;
}

-- this rank was told the answer to what the step's hart asked
abbrev pub ranks_told : Cluster → Step → Rank → Answer → List Rank
ranks_told old e rank answer = slice_set old.ranks e.rank (told rank e.hart answer e.stamp)

-- and nothing else changed
abbrev pub only_told : Cluster → Step → Rank → Answer → Cluster
only_told old e rank answer = record { ranks = ranks_told old e rank answer; journal = old.journal; boxes = old.boxes }

-- one box changed
abbrev pub with_box : Cluster → Step → Rank → Answer → ℕ → Box → Cluster
with_box old e rank answer number box = record {
  ranks = ranks_told old e rank answer;
  journal = old.journal;
  boxes = slice_set old.boxes number box;
}

-- what leads from one cluster to another by a step of this kind, of a hart of this rank
abbrev pub CaseOf : Cluster → Step → Rank → Kind → Cluster → Type 0
CaseOf old e rank Kind.Plain new =
    (asked rank e.hart ≡ Ask.Plain)
    × (e.stamp ≡ rank.clock + 1)
    × (new ≡ only_told old e rank Answer.Alone)
CaseOf old e rank Kind.Local new =
    (asked rank e.hart ≡ Ask.Local)
    × (e.stamp ≡ rank.clock + 1)
    × (new ≡ only_told old e rank Answer.Alone)
CaseOf old e rank (Kind.Hub reply) new =
    (request : Request)
    × (asked rank e.hart ≡ Ask.Hub request)
    × (reply ≡ reply_in old.journal e.rank request)
    × (e.stamp ≡ max rank.clock old.journal.clock + 1)
    × (new ≡ record {
      ranks = ranks_told old e rank (Answer.Reply reply);
      journal = with_entry old.journal
          (record {
            rank = e.rank;
            hart = e.hart;
            clock = rank.clock;
            stamp = e.stamp;
            request = request;
            reply = reply;
          });
      boxes = old.boxes;
    })
CaseOf old e rank Kind.Ready new =
    (link : ℕ) × (part : ℕ) × (bytes : List ℕ) × (box : Box)
    × (asked rank e.hart ≡ Ask.Ready link part bytes)
    × (slice_get old.boxes (box_number link part) ≡ Some box)
    × IsEmpty box
    × (e.stamp ≡ rank.clock + 1)
    × (new ≡ with_box old e rank Answer.Alone (box_number link part) (with_made box e.stamp bytes))
CaseOf old e rank Kind.Take new =
    (link : ℕ) × (part : ℕ) × (bytes : List ℕ) × (box : Box)
    × (asked rank e.hart ≡ Ask.Look link part)
    × (slice_get old.boxes (box_number link part) ≡ Some box)
    × Holds box bytes
    × (e.stamp ≡ max rank.clock box.stamp + 1)
    × (new ≡ with_box old e rank (Answer.Taken bytes) (box_number link part) (with_taken box e.stamp))
CaseOf old e rank Kind.Miss new =
    (link : ℕ) × (part : ℕ)
    × ((asked rank e.hart ≡ Ask.Look link part) ⊎ (asked rank e.hart ≡ Ask.Freed link part))
    × (e.stamp ≡ rank.clock + 1)
    × (new ≡ only_told old e rank Answer.Missed)
CaseOf old e rank Kind.Freed new =
    (link : ℕ) × (part : ℕ) × (box : Box)
    × (asked rank e.hart ≡ Ask.Freed link part)
    × (slice_get old.boxes (box_number link part) ≡ Some box)
    × IsEmpty box
    × (e.stamp ≡ max rank.clock box.stamp + 1)
    × (new ≡ only_told old e rank Answer.Freed)
CaseOf old e rank Kind.Held new =
    (asked rank e.hart ≡ Ask.Held)
    × (e.stamp ≡ rank.clock + 1)
    × (new ≡ only_told old e rank Answer.Alone)
CaseOf old e rank Kind.Idle new =
    (asked rank e.hart ≡ Ask.Idle)
    × (e.stamp ≡ rank.clock + 1)
    × (new ≡ only_told old e rank Answer.Alone)

-- one step: the rank and its hart are there, the stamp is below 2^62, and the kind's case holds
abbrev pub IsStep : Cluster → Step → Cluster → Type 0
IsStep old e new =
    (rank : Rank)
    × (slice_get old.ranks e.rank ≡ Some rank)
    × (e.hart < length rank.harts)
    × (e.stamp < 2 ^ 62)
    × CaseOf old e rank e.kind new

-- a run: each step from where the one before led
abbrev pub IsRun : Cluster → List Step → Cluster → Type 0
IsRun old [] new = new ≡ old
IsRun old (e ∷ es) new = (mid : Cluster) × IsStep old e mid × IsRun mid es new
