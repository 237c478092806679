-- What a search knows of ranks that need buffers, from one function to the next.
use Rattle.std.specs.Prelude.{◌≡◌, Bool, true, false, Option, None, Some, IfSome}
use Rattle.std.proofs.Common.{refl, sym, ◌∙◌, inl, inr, subst}
use Rattle.rv_image_types.specs.declared.images.ImageParts.{ImageParts}
use Rattle.cl_explore.specs.Ends.{Findings}
use Rattle.cl_explore.specs.How.{How, IsHaltOf}
use Rattle.cl_explore.specs.Knowing.{IsBegunWith, IsSearchHalt, NotesNeed, needs_of}
use Rattle.cl_explore.specs.Needing.{AreSought, SaysNeeds}
use Rattle.cl_explore.specs.declared.course.Way.{Way}
use Rattle.cl_explore.specs.declared.exploring.Exploration.{Exploration}
use Rattle.cl_explore.specs.declared.halt.Halt.{Halt}
use Rattle.cl_explore.specs.declared.halt.Halt.TheVariants as halt
use Rattle.cl_explore.specs.declared.needs.Needs.{Needs}
use Rattle.cl_explore.specs.declared.needs.Needs.TheVariants as needs

-- ---- why a search is halted

-- for what moves are halted for
pub halt_of : (goes : Way) (how : How) (told : Type 0) (why : Halt) → IsHaltOf goes why → IsSearchHalt goes how told why
halt_of goes how told (halt.Fault fault) is = tt
halt_of goes how told halt.Outside is = is
halt_of goes how told halt.Needed is = absurd is

-- ---- from one search to the next

-- of what was told, something follows
pub note_on : (one other : Type 0) (old new : Needs) → (one → other) → NotesNeed one old new → NotesNeed other old new
note_on one other old new on (inl same) = inl same
note_on one other old new on (inr noted) = inr (noted.0, on noted.1)

-- one after the other
pub note_more : (one other : Type 0) (old mid new : Needs) → (one → other) → NotesNeed one old mid → NotesNeed other mid new
    → NotesNeed other old new
note_more one other old mid new on was (inr noted) = inr noted
note_more one other old mid new on (inl same) (inl still) = inl (still ∙ same)
note_more one other old mid new on (inr noted) (inl still) = inr (still ∙ noted.0, on noted.1)

-- ---- in the end

-- where standard sends mightn't wait in what is answered
says : (buffered : Bool) (image : ImageParts) (found : Findings) (told : Type 0) (first known : Needs)
    → IsBegunWith buffered image first → NotesNeed (AreSought buffered image × told) first known
    → SaysNeeds buffered image found told known
says buffered image found told first known begun (inr noted) =
    subst (SaysNeeds buffered image found told) (sym noted.0) noted.1
says buffered image found told first known (inl none) (inl same) =
    subst (SaysNeeds buffered image found told) (sym (same ∙ none.1)) none.0
says buffered image found told first known (inr sought) (inl same) =
    subst (SaysNeeds buffered image found told) (sym (same ∙ sought.1)) sought.0

pub says_known : (buffered : Bool) (image : ImageParts) (found : Findings) (before told : Type 0) (first known : Needs)
    → IsBegunWith buffered image first → NotesNeed (AreSought buffered image × before) first known → (before → told)
    → SaysNeeds buffered image found told known
says_known buffered image found before told first known begun notes on =
    says buffered image found told first known begun
    (note_on (AreSought buffered image × before) (AreSought buffered image × told) first known (λ v. (v.0, on v.1)) notes)

-- or might, and no state was left
pub says_whole : (buffered : Bool) (image : ImageParts) (found : Findings) (told : Type 0) (first known now : Needs)
    → IsBegunWith buffered image first → NotesNeed (AreSought buffered image × told) first known
    → (found.may_wait ≡ true → AreSought buffered image × (found.left ≡ 0)) → now ≡ needs_of found.may_wait known
    → SaysNeeds buffered image found told now
says_whole buffered image found told first known now begun notes whole is = of found.may_wait refl
  where
    of : (b : Bool) → found.may_wait ≡ b → SaysNeeds buffered image found told now
    of true waits =
        let v = whole waits in
        let same : now ≡ needs.Nobody = is ∙ (λ i. needs_of (waits i) known) in
        subst (SaysNeeds buffered image found told) (sym same) (v.0, v.1, waits)
    of false buffers =
        let same : now ≡ known = is ∙ (λ i. needs_of (buffers i) known) in
        subst (SaysNeeds buffered image found told) (sym same)
        (says buffered image found told first known begun notes)

-- ---- in a pass by patterns

not_copied : (buffered may_wait : Bool) → (buffered ≡ true → may_wait ≡ false) → may_wait ≡ true → buffered ≡ false
not_copied false may_wait copied waits = refl
not_copied true may_wait copied waits = let no : true ≡ false = sym waits ∙ copied refl in absurd (cc)

-- where each rank has one hart
pub noted_then : (buffered may_wait : Bool) (image : ImageParts) (before told : Type 0) (first old new : Needs)
    → image.harts ≡ 1 → (buffered ≡ true → may_wait ≡ false) → (before → told)
    → NotesNeed (AreSought buffered image × before) first old → NotesNeed ((may_wait ≡ true) × told) old new
    → NotesNeed (AreSought buffered image × told) first new
noted_then buffered may_wait image before told first old new one copied on was noted =
    note_more (AreSought buffered image × before) (AreSought buffered image × told) first old new (λ v. (v.0, on v.1)) was
    (note_on ((may_wait ≡ true) × told) (AreSought buffered image × told) old new
    (λ v. ((not_copied buffered may_wait copied v.0, one), v.1)) noted)

pub whole_then : (buffered may_wait : Bool) (image : ImageParts) (found : Option Exploration) → image.harts ≡ 1
    → (buffered ≡ true → may_wait ≡ false) → (may_wait ≡ true → IfSome found (λ e. e.left ≡ 0))
    → IfSome found (λ e. e.may_wait ≡ may_wait)
    → IfSome found (λ e. e.may_wait ≡ true → AreSought buffered image × (e.left ≡ 0))
whole_then buffered may_wait image None one copied whole same = tt
whole_then buffered may_wait image (Some e) one copied whole same = λ waits.
    let is : may_wait ≡ true = sym same ∙ waits in ((not_copied buffered may_wait copied is, one), whole is)
