-- Steps that are counted one after another.
use Rattle.std.specs.Prelude.{ℕ, ◌+◌, ◌-◌, ◌≤◌, ◌≡◌, true, false, cond, List, [], ◌∷◌, ◌++◌}
use Rattle.std.specs.Prelude.{length, map, slice_get, Option, Some, None}
use Rattle.std.specs.List.{filter}
use Rattle.std.proofs.Common.{sym, ap, ◌∙◌, subst, append_assoc, append-nil, arith}
use Rattle.std.proofs.lemmas.List.{map-append}
use Rattle.std.proofs.lemmas.List.Elements.{filter-append}
use Rattle.rv_image_types.specs.declared.images.ImageParts.{ImageParts}
use Rattle.cl_machine.specs.declared.steps.Step.{Step}
use Rattle.cl_replay.proofs.Runs.{reached_more}
use Rattle.cl_replay.specs.Replaying.{IsReached}
use Rattle.cl_replay.specs.Steps.{Leads}
use Rattle.cl_replay.specs.declared.states.ClusterState.{ClusterState}
use Rattle.cl_state.specs.Room.{rank_of}
use Rattle.rvmc_stats.specs.Counted.{taken_seen}
use Rattle.rvmc_stats.specs.Tables.{AreOf}
use Rattle.rvmc_stats.specs.Adding.{Adds}
use Rattle.rvmc_stats.specs.declared.tables.Tables.{Tables}
use Rattle.rvmc_sights.specs.Lines.{Sight, sight_of}
use Rattle.rvmc_sights.proofs.Sights.{IsSeen, seen_at}
use Rattle.rvmc_list.specs.Folding.{is_of_rank}
use Rattle.rvmc_list.specs.List.{AreSights, last_place}
use Rattle.rvmc_list.specs.Putting.{IsDone}
use Rattle.rvmc_list.specs.Stats.{IsStats, IsTablesText, counted, taken_in, text_words}
use Rattle.rvmc_list.specs.Counting.{AreAllCounted, AreCounted, Counts, CountsStep}
use Rattle.rvmc_list.specs.declared.folding.Wanted.{Wanted}
use Rattle.rvmc_list.specs.declared.walk.Done.{Done}
use Rattle.rvmc_list.proofs.Told.{sights_more}

-- ---- one step

-- of a rank that isn't wanted
pub not_counted : (rank : Option ℕ) (old : ClusterState) (place : ℕ) (e : Step) (new : ClusterState) (tables : Tables)
    → is_of_rank rank e.rank ≡ false → CountsStep rank old place e new tables tables
not_counted rank old place e new tables no_rank s t s_there t_there s_hart t_hart =
    let sight : Sight = sight_of place e (rank_of s) (rank_of t) in
    let none : counted rank (sight ∷ []) ≡ [] = ap (λ b. map taken_in (cond b (sight ∷ []) [])) no_rank in
    record {
      counts = λ ranks words all is. subst (λ more. AreOf ranks words (all ++ more) tables) (sym none)
          (subst (λ ts. AreOf ranks words ts tables) (sym (append-nil all)) is);
    }

-- that isn't there
pub not_done : (rank : Option ℕ) (old : ClusterState) (place : ℕ) (e : Step) (new : ClusterState) (tables : Tables)
    → IsDone old e new None → CountsStep rank old place e new tables tables
not_done rank old place e new tables done s t s_there t_there s_hart t_hart =
    absurd (done s t s_there t_there s_hart t_hart)

-- of a rank that is
pub is_counted : (rank : Option ℕ) (old : ClusterState) (place : ℕ) (e : Step) (new : ClusterState) (tables : Tables)
    (after : Tables) (done : Done) → is_of_rank rank e.rank ≡ true → IsDone old e new (Some done)
    → Adds tables (taken_seen e done.before.hart done.after.hart) after → CountsStep rank old place e new tables after
is_counted rank old place e new tables after done of_rank is_done adds s t s_there t_there s_hart t_hart =
    let sight : Sight = sight_of place e (rank_of s) (rank_of t) in
    let same = is_done s t s_there t_there s_hart t_hart place in
    let one : counted rank (sight ∷ []) ≡ taken_seen e done.before.hart done.after.hart ∷ [] =
    ap (λ b. map taken_in (cond b (sight ∷ []) [])) of_rank ∙ ap (λ x. taken_in x ∷ []) (sym same)
    in
    record {
      counts = λ ranks words all is. subst (λ more. AreOf ranks words (all ++ more) after) (sym one)
          (adds.adds ranks words all is);
    }

-- ---- steps

counted_append : (rank : Option ℕ) (xs ys : List Sight) → counted rank (xs ++ ys) ≡ counted rank xs ++ counted rank ys
counted_append rank xs ys =
    ap (λ sights. map taken_in sights) (filter-append (λ (sight : Sight). is_of_rank rank sight.step.rank) xs ys)
    ∙ map-append taken_in (filter (λ (sight : Sight). is_of_rank rank sight.step.rank) xs)
    (filter (λ (sight : Sight). is_of_rank rank sight.step.rank) ys)

pub counted_more : (image : ImageParts) (steps : List Step) (rank : Option ℕ) (from n : ℕ) → from ≤ n
    → (state : ClusterState) (old tables : Tables) → AreCounted image steps rank from n state old tables
    → (e : Step) → slice_get steps n ≡ Some e → (new : ClusterState) → Leads state e new → (after : Tables)
    → CountsStep rank state n e new tables after → AreCounted image steps rank from (n + 1) new old after
counted_more image steps rank from n forwards state old tables put e there new leads after counts = record {
  reached = reached_more image steps n state put.reached e there new leads;
  sights = put.sights ++ sight ∷ [];
  are = sights_more image steps from n forwards put.sights put.are sight seen.sight;
  counts = record {
    counts = λ ranks words all is. subst (λ ts. AreOf ranks words ts after)
        (append_assoc all (counted rank put.sights) (counted rank (sight ∷ []))
        ∙ ap (λ more. all ++ more) (sym (counted_append rank put.sights (sight ∷ []))))
        (one.counts ranks words (all ++ counted rank put.sights) (put.counts.counts ranks words all is));
  };
}
  where
    seen : IsSeen image steps n state e new
    seen = seen_at image steps n state put.reached e there new leads

    sight : Sight
    sight = sight_of n e (rank_of seen.s) (rank_of seen.t)

    one : Counts rank (sight ∷ []) tables after
    one = counts seen.s seen.t seen.s_there seen.t_there seen.s_hart seen.t_hart

pub counted_none : (image : ImageParts) (steps : List Step) (rank : Option ℕ) (from : ℕ) (state : ClusterState)
    (tables : Tables) → IsReached image steps from state → AreCounted image steps rank from from state tables tables
counted_none image steps rank from state tables reached = record {
  reached = reached;
  sights = [];
  are = record { count = omega arith; each = λ k x at. absurd (cc) };
  counts = record {
    counts = λ ranks words all is. subst (λ ts. AreOf ranks words ts tables) (sym (append-nil all)) is;
  };
}

pub counted_all : (image : ImageParts) (steps : List Step) (wanted : Wanted) (n to : ℕ) (state : ClusterState)
    (old tables : Tables) → AreCounted image steps wanted.rank wanted.from n state old tables
    → n - wanted.from ≡ to - wanted.from → AreAllCounted image steps wanted to old tables
counted_all image steps wanted n to state old tables put same = record {
  sights = put.sights;
  are = record { count = put.are.count ∙ same; each = put.are.each };
  counts = put.counts;
}

-- ---- all of them

pub is_stats : (image : ImageParts) (steps : List Step) (wanted : Wanted) (to : ℕ) (old tables : Tables) (text : List ℕ)
    → to ≡ last_place wanted steps → AreOf image.ranks (text_words image) [] old
    → AreAllCounted image steps wanted to old tables → IsTablesText image.symbols tables text
    → IsStats image steps wanted text
is_stats image steps wanted to old tables text to_is none all told = record {
  sights = all.sights;
  are = subst (λ end. AreSights image steps wanted.from end all.sights) to_is all.are;
  tables = tables;
  tables_are = all.counts.counts image.ranks (text_words image) [] none;
  is = told;
}

-- as many words are counted as the text has
pub words_are : (image : ImageParts) (steps : List Step) (wanted : Wanted) (to : ℕ) (old tables : Tables)
    → AreOf image.ranks (text_words image) [] old → AreAllCounted image steps wanted to old tables
    → length tables.places ≡ text_words image
words_are image steps wanted to old tables none all = (all.counts.counts image.ranks (text_words image) [] none).places.len_is
