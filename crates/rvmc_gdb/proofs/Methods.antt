-- What methods of a session come to: what is printed, also where something isn't there, and which points are set.
use Rattle.std.specs.Prelude.{ℕ, ◌≡◌, ◌≢◌, ◌↔◌, ◌<◌, ◌≤◌, true, false, List, [], ◌∷◌, ◌++◌, Result, Err, Option, Some, None, Vec, option_map}
use Rattle.std.specs.Option.{unwrap_or}
use Rattle.std.specs.declared.alloc.Global.{Global}
use Rattle.std.proofs.Common.{refl, sym, ap, subst, ◌∙◌}
use Rattle.hex.specs.Hex.{encode_lower}
use Rattle.rv_image_types.specs.declared.images.ImageParts.{ImageParts}
use Rattle.rv_image_types.specs.declared.images.Symbol.{Symbol}
use Rattle.cl_state.specs.Rank.{Rank}
use Rattle.cl_replay.specs.Replaying.{IsReached}
use Rattle.cl_replay.specs.declared.states.ClusterState.{ClusterState}
use Rattle.cl_debug.specs.Debugging.{Debugging}
use Rattle.cl_debug.specs.Faults.{GoFaultHolds, IsNameFault}
use Rattle.cl_debug.specs.declared.faults.DebugFault.{DebugFault}
use Rattle.cl_debug.specs.declared.faults.DebugFault.TheVariants as faults
use Rattle.rvmc_words.specs.declared.debug.DebugWord.{DebugWord}
use Rattle.rvmc_words.specs.declared.debug.DebugWord.TheVariants as word
use Rattle.rvmc_picture.specs.Below.{Does, IsWhy, Refuses}
use Rattle.rvmc_motions.specs.declared.marks.Mark.{Mark}
use Rattle.rvmc_gdb.specs.Points.{Inserts, IsOwner, Sets, can_add, has_mark, marks_with, with_marks}
use Rattle.rvmc_gdb.specs.Serving.{Serving, done, refused}
use Rattle.rvmc_gdb.specs.declared.ends.Found.{Found}
use Rattle.rvmc_gdb.specs.declared.ends.Side.{Side}
use Rattle.rvmc_gdb.specs.declared.session.Who.{Who}
use Rattle.rvmc_gdb.specs.declared.session.Goal.{Goal}
use Rattle.rvmc_gdb.specs.Finding.{IsEnd, IsLineAt, TellsGoal}
use Rattle.rvmc_gdb.specs.Goals.{with_goal}
use Rattle.rvmc_gdb.specs.Moving.{own_who}
use Rattle.rvmc_gdb.specs.Shown.{IsLine, Names, TellsHart, names_in}
use Rattle.rvmc_gdb.specs.Typing.{PrintsEnd, PrintsFound, PrintsGoal}
use Rattle.rvmc_gdb.specs.Typing.{PrintsGo, PrintsWhy, PrintsWord, fault_text, with_debugging}

-- ---- words of `debug`

pub go_refused : (old : Debugging) (n : ℕ) (fault : DebugFault) → GoFaultHolds old.steps n fault → fault ≢ faults.Memory
    → Refuses old fault (word.Go n)
go_refused old n (faults.PastEnd len) holds other = holds
go_refused old n faults.NoRank holds other = absurd holds
go_refused old n faults.NoHart holds other = absurd holds
go_refused old n faults.Range holds other = absurd holds
go_refused old n faults.Memory holds other = absurd (other refl)
go_refused old n (faults.NotARun k) holds other = absurd holds
go_refused old n faults.NoSymbol holds other = absurd holds

pub regs_refused : {A : Type 0} (old : Debugging) (rank hart : ℕ) (result : Result A DebugFault) (fault : DebugFault)
    → result ≡ Err fault → ((result ≡ Err faults.NoRank) ↔ (old.image.ranks ≤ rank))
    → ((result ≡ Err faults.NoHart) ↔ ((rank < old.image.ranks) × (old.image.harts ≤ hart))) → IsNameFault fault
    → Refuses old fault (word.Regs rank hart)
regs_refused old rank hart result faults.NoRank is no_rank missing named = no_rank.0 is
regs_refused old rank hart result faults.NoHart is no_rank missing named = missing.0 is
regs_refused old rank hart result (faults.PastEnd n) is no_rank missing named = absurd named
regs_refused old rank hart result faults.Range is no_rank missing named = absurd named
regs_refused old rank hart result faults.Memory is no_rank missing named = absurd named
regs_refused old rank hart result (faults.NotARun n) is no_rank missing named = absurd named
regs_refused old rank hart result faults.NoSymbol is no_rank missing named = absurd named

-- ---- what is printed

-- for a word that was done, or refused
pub word_done : (old seen : Serving) (asked : DebugWord) (text : List ℕ) → seen ≡ old
    → Does seen.debugging asked seen.debugging text → PrintsWord old asked old text
word_done old seen asked text is does =
    subst (λ (s : Serving). PrintsWord s asked s text) is (record { fault = None; debugs = does; stands = refl })

pub word_refused : (old seen : Serving) (asked : DebugWord) (fault : DebugFault) (text : List ℕ) → seen ≡ old
    → Refuses seen.debugging fault asked → fault ≢ faults.Memory → text ≡ fault_text fault → PrintsWord old asked old text
word_refused old seen asked fault text is refuses other told =
    subst (λ (s : Serving). PrintsWord s asked s text) is
    (record { fault = Some fault; debugs = (refuses, other, refl, told); stands = refl })

-- for a place that isn't there
pub go_stays : (old seen new : Serving) (n : ℕ) (fault : DebugFault) (text : List ℕ) → seen ≡ old
    → new ≡ with_debugging seen new.debugging → new.debugging ≡ seen.debugging → GoFaultHolds seen.debugging.steps n fault
    → fault ≢ faults.Memory → text ≡ fault_text fault → PrintsGo old n new text
go_stays old seen new n fault text is stands same holds other told =
    subst (λ (s : Serving). PrintsGo s n new text) is (record {
      fault = Some fault;
      printed = text;
      debugs = (go_refused seen.debugging n fault holds other, other, same, told);
      stands = stands;
      is = refl;
    })

-- ---- the state at the place

pub why_printed : (old seen : Serving) (image : ImageParts) (state : ClusterState) (text : List ℕ) → seen ≡ old
    → IsReached seen.debugging.image seen.debugging.steps seen.debugging.place state → image ≡ seen.debugging.image
    → IsWhy false image state text → PrintsWhy old text
why_printed old seen image state text is reached same why =
    subst (λ (s : Serving). PrintsWhy s text) is
    (state, reached, subst (λ (i : ImageParts). IsWhy false i state text) same why)

pub hart_told : (old seen : Serving) (who : Who) (line : Option (List ℕ)) (text : List ℕ) → seen ≡ old
    → IsLine seen.debugging who line → text ≡ unwrap_or (option_map encode_lower line) refused → TellsHart old (Some who) text
hart_told old seen who line text is found told =
    subst (λ (s : Serving). TellsHart s (Some who) text) is (line, found, told)

pub names_told : (old seen : Serving) (symbols : List Symbol) (state : ClusterState) (text : List ℕ) → seen ≡ old
    → IsReached seen.debugging.image seen.debugging.steps seen.debugging.place state → symbols ≡ seen.debugging.image.symbols
    → text ≡ names_in symbols state old → Names old text
names_told old seen symbols state text is reached same told = (
  state,
  subst (λ (s : Serving). IsReached s.debugging.image s.debugging.steps s.debugging.place state) is reached,
  told
      ∙ ap (λ ns. names_in ns state old) (subst (λ (s : Serving). symbols ≡ s.debugging.image.symbols) is same),
)

-- ---- places that are asked for

pub goal_told : (old seen : Serving) (goal : Goal) (text : List ℕ) → seen ≡ old → TellsGoal seen.debugging goal text
    → TellsGoal old.debugging goal text
goal_told old seen goal text is told = subst (λ (s : Serving). TellsGoal s.debugging goal text) is told

pub aim_some : (none : List ℕ) (old seen new : Serving) (asked : Option Goal) (goal : Goal) (text : List ℕ) → seen ≡ old
    → asked ≡ Some goal → new ≡ with_goal seen asked → TellsGoal seen.debugging goal text
    → PrintsGoal none old asked new text
aim_some none old seen new asked goal text is some kept told =
    subst (λ o. PrintsGoal none old o new text) (sym some) (
      subst (λ (s : Serving). new ≡ with_goal s (Some goal)) is (kept ∙ ap (with_goal seen) some),
      goal_told old seen goal text is told,
    )

pub line_some : (there debugging : Debugging) (who : Who) (found : Option (Vec ℕ Global)) (line : Vec ℕ Global)
    → debugging ≡ there → found ≡ Some line → IsLine debugging who (option_map (λ t. t.items) found) → IsLineAt there who line.items
line_some there debugging who found line at is told =
    subst (λ (d : Debugging). IsLineAt d who line.items) at
    (Some line.items, subst (λ o. IsLine debugging who (option_map (λ t. t.items) o)) is told, refl)

pub line_none : (there debugging : Debugging) (who : Who) (found : Option (Vec ℕ Global)) (text : List ℕ)
    → debugging ≡ there → found ≡ None → IsLine debugging who (option_map (λ t. t.items) found) → text ≡ [] → IsLineAt there who text
line_none there debugging who found text at is told empty =
    subst (λ (d : Debugging). IsLineAt d who text) at
    (None, subst (λ o. IsLine debugging who (option_map (λ t. t.items) o)) is told, empty)

pub end_printed : (old seen new : Serving) (side : Side) (found : Option Found) (text : List ℕ) → seen ≡ old
    → IsEnd seen.debugging side (own_who old) found → PrintsFound side found old new text → PrintsEnd side old new text
end_printed old seen new side found text is end prints =
    (found, subst (λ (s : Serving). IsEnd s.debugging side (own_who old) found) is end, prints)

-- ---- points

module _ (old new : Serving) (mark : Mark) (owner : Option Rank) (text : List ℕ) (shown : IsOwner old owner) where
  sets_as : (marks : Option (List Mark)) → marks_with owner old.marks mark ≡ marks → Sets old marks new text
      → Inserts old mark new text
  sets_as marks is sets =
      record { owner = owner; shown = shown; sets = subst (λ m. Sets old m new text) (sym is) sets }

  pub set_already : has_mark old.marks mark ≡ true → new ≡ old → text ≡ done → Inserts old mark new text
  set_already there same told = sets_as (Some old.marks) (rw there refl) (same, told)

  pub set_none : has_mark old.marks mark ≡ false → can_add owner old.marks mark ≡ false → new ≡ old → text ≡ refused
      → Inserts old mark new text
  set_none there can same told = sets_as None (rw (there, can) refl) (same, told)

  pub set_more : has_mark old.marks mark ≡ false → can_add owner old.marks mark ≡ true
      → new ≡ with_marks old (old.marks ++ mark ∷ []) → text ≡ done → Inserts old mark new text
  set_more there can same told = sets_as (Some (old.marks ++ mark ∷ [])) (rw (there, can) refl) (same, told)
