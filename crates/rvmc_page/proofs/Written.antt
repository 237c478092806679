-- A page that is written piece by piece: what stands at the writer is a beginning of its text.
use Rattle.std.specs.Prelude.{ℕ, ◌≤◌, ◌≡◌, max, List, [], ◌++◌, length, map, take, Option, Some, None}
use Rattle.std.specs.Prelude.{IfErr, OnErr, Result, Ok, Err}
use Rattle.std.specs.Io.KnownBytes.{Appends}
use Rattle.std.proofs.Common.{refl, sym, ap, ◌∙◌, subst, append_assoc, append-nil, arith, inl, inr}
use Rattle.std.proofs.lemmas.Grind.{flat_map-append}
use Rattle.std.proofs.KnownBytes.{Appends-nil, Appends-trans, Keeps-refl}
use lib.Seq.{take-append_seam}
use Rattle.rv_image_types.specs.declared.images.ImageParts.{ImageParts}
use Rattle.cl_machine.specs.declared.steps.Step.{Step}
use Rattle.rvmc_changes.proofs.Below.{holds_further, run_law}
use Rattle.rvmc_changes.proofs.Walked.{has_ended, rest_there}
use Rattle.rvmc_changes.specs.Below.{ClusterState, IsReached, IsRunUpTo, ReplayFault, ReplayFaultHolds}
use Rattle.rvmc_changes.specs.Below.replay
use Rattle.rvmc_changes.specs.Changes.{Difference}
use Rattle.rvmc_changes.specs.WalkFaults.{StepsBreak}
use Rattle.rvmc_changes.specs.Walking.{GoesOn, HasCome}
use Rattle.rvmc_changes.specs.Walks.{IsWalk, seen_at_start}
use Rattle.rvmc_draw.specs.declared.views.View.{View}
use Rattle.rvmc_picture.proofs.Runs.{deeds_run}
use Rattle.rvmc_picture.specs.Below.{IsMoved}
use Rattle.rvmc_picture.specs.Pictures.{DrawFaultHolds, furthest}
use Rattle.rvmc_picture.specs.declared.pictures.DrawFault.{DrawFault}
use Rattle.rvmc_picture.specs.declared.pictures.DrawFault.TheVariants as draw
use Rattle.rvmc_page.specs.Pages.{before_steps, behind_steps, page_of}
use Rattle.rvmc_page.specs.Records.{IsShownOf}
use Rattle.rvmc_page.specs.Steps.{change_text, changes_text}
use Rattle.rvmc_page.specs.Texts.{Source, source_of}
use Rattle.rvmc_page.specs.Written.{AreWritten, IsPageBegun, IsPageTo, IsPageWritten, LeavesPage}
use Rattle.rvmc_page.specs.declared.pages.Page.{Page}
use Rattle.rvmc_page.specs.declared.pages.Shown.{Shown}

-- ---- the steps

-- those of a drawing are a run, and so are those of which too many have a mark
pub shown_run : (image : ImageParts) (steps : List Step) (view : View) (shown : Option Shown)
    → IsShownOf image steps view shown → IsRunUpTo image steps (length steps)
shown_run image steps view None many = deeds_run image steps many.1.deeds many.1.are
shown_run image steps view (Some shown) is = deeds_run image steps is.0.deeds is.0.are

pub too_many_run : (image : ImageParts) (steps : List Step) (view : View) (count : ℕ) (f : DrawFault)
    → f ≡ draw.TooMany count → DrawFaultHolds image steps view f → IsRunUpTo image steps (length steps)
too_many_run image steps view count f is holds =
    let many = (subst (λ (d : DrawFault). DrawFaultHolds image steps view d) is holds).1 in
    deeds_run image steps many.deeds many.are

-- why the steps before the first place aren't done is why there is no page
pub page_fault : (image : ImageParts) (steps : List Step) (view : View) → furthest view steps ≤ length steps
    → (why : ReplayFault) → ReplayFaultHolds image steps view.from why
    → ReplayFaultHolds image steps (furthest view steps) why
page_fault image steps view within why h =
    holds_further image steps view.from (furthest view steps) (omega arith) within why h

-- the steps of a run are refused for memory alone
pub only_memory : (image : ImageParts) (steps : List Step) (from to : ℕ) (old : ClusterState)
    → IsRunUpTo image steps (length steps) → IsReached image steps from old → to ≤ length steps
    → (why : ReplayFault) → StepsBreak steps from old to why → why ≡ replay.Memory
only_memory image steps from to old run reached within (replay.Step k) h = absurd
    (let below = h.0 in run_law image steps (length steps) k run (omega (arith, below, within)) (h.1 image reached))
only_memory image steps from to old run reached within replay.Memory h = refl
only_memory image steps from to old run reached within (replay.PastEnd len) h = absurd h

-- ---- what is put behind what was written

texts_both : (changes more : List Difference) → changes_text (changes ++ more) ≡ changes_text changes ++ changes_text more
texts_both changes more = flat_map-append change_text changes more

-- before the first step
pub written_none : (image : ImageParts) (steps : List Step) (view : View) (page : Page) (n : ℕ) (state : ClusterState)
    (held : List ℕ) (known : Option (List ℕ)) → IsPageTo image steps view page n [] state → held ≡ before_steps image page
    → AreWritten image steps view page n state held known known
written_none image steps view page n state held known is there = record {
  front = [];
  there = Appends-nil known;
  changes = [];
  are = is;
  text = there ∙ sym (append-nil (before_steps image page));
}

module _ (image : ImageParts) (steps : List Step) (view : View) (page : Page) (n : ℕ) (state : ClusterState)
    (held : List ℕ) (before after : Option (List ℕ))
    (are : AreWritten image steps view page n state held before after) where
  -- some steps more, and the front of what is held moved to the writer
  pub written_more : (m : ℕ) (new : ClusterState) (more : List Difference) → GoesOn steps n state m new more
      → (told : List ℕ) → told ≡ held ++ changes_text more → (left : List ℕ) (later : Option (List ℕ))
      → IsMoved told left after later → AreWritten image steps view page m new left before later
  written_more m new more on told told_is left later moved = record {
    front = are.front ++ moved.front;
    there = Appends-trans before after later are.front moved.front are.there moved.there;
    changes = are.changes ++ more;
    are = record {
      from = are.are.from;
      shown = are.are.shown;
      run = are.are.run;
      come = on image view.from (seen_at_start page.start.items) are.changes are.are.come;
    };
    text =
        append_assoc are.front moved.front left
        ∙ ap (λ (l : List ℕ). are.front ++ l) (sym moved.all ∙ told_is)
        ∙ sym (append_assoc are.front held (changes_text more))
        ∙ ap (λ (l : List ℕ). l ++ changes_text more) are.text
        ∙ append_assoc (before_steps image page) (changes_text are.changes) (changes_text more)
        ∙ ap (λ (l : List ℕ). before_steps image page ++ l) (sym (texts_both are.changes more));
  }

  -- the text of these changes and of others behind them
  whole : (more : List Difference)
      → are.front ++ (held ++ (changes_text more ++ behind_steps image page)) ≡ page_of image page (are.changes ++ more)
  whole more =
      let first = before_steps image page in
      let last = behind_steps image page in
      sym (append_assoc are.front held (changes_text more ++ last))
      ∙ ap (λ (l : List ℕ). l ++ (changes_text more ++ last)) are.text
      ∙ append_assoc first (changes_text are.changes) (changes_text more ++ last)
      ∙ ap (λ (l : List ℕ). first ++ l)
      (sym (append_assoc (changes_text are.changes) (changes_text more) last)
      ∙ ap (λ (l : List ℕ). l ++ last) (sym (texts_both are.changes more)))

  module _ (within : view.to ≤ length steps) where
    -- behind the last step, where what was held is written too
    pub written_all : n ≡ max view.from view.to → (closed : List ℕ) → closed ≡ held ++ behind_steps image page
        → (later : Option (List ℕ)) → Appends after later closed
        → IsPageWritten image steps view (map source_of page.texts.now) before later
    written_all end closed closed_is later last = record {
      text = are.front ++ closed;
      page = record {
        page = page;
        changes = are.changes ++ [];
        is = record {
          from = are.are.from;
          walk = subst (λ ds. IsWalk image steps view.from view.to (seen_at_start page.start.items) ds)
              (sym (append-nil are.changes))
              (has_ended image steps view.from view.to (seen_at_start page.start.items) are.changes state
              (subst (λ k. HasCome image steps view.from k (seen_at_start page.start.items) are.changes state) end
              are.are.come) within);
          texts = refl;
          shown = are.are.shown;
        };
        text_is = ap (λ (l : List ℕ). are.front ++ l) closed_is ∙ whole [];
      };
      there = Appends-trans before after later are.front closed are.there last;
    }

    -- before that, what stands at the writer is a beginning of the text
    pub begun_so_far : n ≤ max view.from view.to → IsPageBegun image steps view (map source_of page.texts.now) before after
    begun_so_far most =
        let rest = rest_there image steps view.from n view.to (seen_at_start page.start.items) are.changes state
        are.are.come are.are.run most within in
        let tail = held ++ (changes_text rest.0 ++ behind_steps image page) in
        record {
          text = page_of image page (are.changes ++ rest.0);
          page = record {
            page = page;
            changes = are.changes ++ rest.0;
            is = record { from = are.are.from; walk = rest.1; texts = refl; shown = are.are.shown };
            text_is = refl;
          };
          front = are.front;
          begins = ap (take (length are.front)) (sym (whole rest.0)) ∙ take-append_seam are.front tail;
          there = are.there;
        }

-- ---- what is left at the writer

-- what holds whatever the fault is
pub anyway : {A E : Type 0} (r : Result A E) (P : Type 0) → P → OnErr r P
anyway (Ok x) P is = tt
anyway (Err e) P is = is

pub left_for_memory : {A : Type 0} (image : ImageParts) (steps : List Step) (view : View) (sources : List Source)
    (before after : Option (List ℕ)) (r : Result A ReplayFault) → IfErr r (λ f. f ≡ replay.Memory)
    → IsPageBegun image steps view sources before after → IfErr r (λ f. LeavesPage image steps view sources f before after)
left_for_memory image steps view sources before after (Ok x) is begun = tt
left_for_memory image steps view sources before after (Err e) is begun =
    subst (λ (f : ReplayFault). LeavesPage image steps view sources f before after) (sym is) (inr begun)

pub nothing_left : (image : ImageParts) (steps : List Step) (view : View) (sources : List Source) (why : ReplayFault)
    (known : Option (List ℕ)) → LeavesPage image steps view sources why known known
nothing_left image steps view sources replay.Memory known = inl (Keeps-refl known)
nothing_left image steps view sources (replay.PastEnd len) known = Keeps-refl known
nothing_left image steps view sources (replay.Step n) known = Keeps-refl known
