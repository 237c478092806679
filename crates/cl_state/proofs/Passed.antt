-- A call that goes on has passed its checks.
use Rattle.std.proofs.Common.{◌≡◌, refl, Bool, true, false, List, [], ◌∷◌, length, Option, Some, None, IsTrue}
use Rattle.std.specs.Prelude.{if◌then◌else◌, ◌&&◌}
use Rattle.rv_memory.specs.Access.{word_at}
use Rattle.rv_hart.specs.declared.state.Mode.{Mode}
use Rattle.rv_hart.specs.declared.state.Mode.TheVariants.{Running, Waiting, Ended, Trapped}
use Rattle.rv_hart.specs.declared.state.Wait.TheVariants.{Post, Again}
use Rattle.mp_types.specs.declared.codes.Code.{Code}
use Rattle.cl_calls.specs.declared.calls.Call.{Call}
use Rattle.cl_calls.specs.declared.sites.Site.{Site}
use Rattle.cl_calls.specs.Calls.{call_named}
use Rattle.cl_calls.specs.Checks.{checks, first_fault}
use Rattle.cl_calls.specs.Needs.{needs_of}
use Rattle.cl_state.specs.declared.asking.Doing.{Doing}
use Rattle.cl_state.specs.declared.asking.Doing.TheVariants.{Step, Go}
use Rattle.cl_state.specs.Asked.{Part, checked, doing, doing_in, go_or_refuse, is_ecall}

-- each check of the list holds
abbrev pub AllHold : List (Bool × Code) → Type 0
AllHold [] = Unit {0}
AllHold (check ∷ checks) = IsTrue check.0 × AllHold checks

abbrev pub HasPassed : Site → Part → Doing → Type 0
HasPassed site part (Go c) =
    AllHold (checks site part.memory part.requests part.phases (length part.out) (needs_of c))
HasPassed site part _ = Unit {0}

one_holds : (b : Bool) (o : Option Code) (c : Code) → (if b then o else Some c) ≡ None → IsTrue b × (o ≡ None)
one_holds true o c none = (refl, none)
one_holds false o c none = absurd (cc)

all_hold : (cs : List (Bool × Code)) → first_fault cs ≡ None → AllHold cs
all_hold [] none = tt
all_hold (check ∷ checks) none =
    let held = one_holds check.0 (first_fault checks) check.1 none in
    (held.0, all_hold checks held.1)

passed_if_none : (site : Site) (part : Part) (o : Option Code) (c : Call)
    → (o ≡ None → AllHold (checks site part.memory part.requests part.phases (length part.out) (needs_of c)))
    → HasPassed site part (go_or_refuse o c)
passed_if_none site part None c held = held refl
passed_if_none site part (Some code) c held = tt

passed_checked : (site : Site) (part : Part) → HasPassed site part (checked site part)
passed_checked site part =
    let cs = checks site part.memory part.requests part.phases (length part.out) (needs_of (call_named part.hart)) in
    passed_if_none site part (first_fault cs) (call_named part.hart) (all_hold cs)

passed_if : (site : Site) (part : Part) (b : Bool) (d : Doing) → HasPassed site part d
    → HasPassed site part (if b then d else Step)
passed_if site part true d passed = passed
passed_if site part false d passed = tt

passed_in : (mode : Mode) (site : Site) (part : Part) → HasPassed site part (doing_in mode site part)
passed_in Running site part =
    passed_if site part (is_ecall (word_at part.memory part.hart.pc)) (checked site part) (passed_checked site part)
passed_in (Waiting (Post post)) site part = tt
passed_in (Waiting Again) site part = passed_checked site part
passed_in (Ended code) site part = tt
passed_in (Trapped cause pc) site part = tt

pub passed : (site : Site) (part : Part) → HasPassed site part (doing site part)
unfolding doing
passed site part = passed_in part.hart.mode site part

pub left_holds : (a b : Bool) → IsTrue (a && b) → IsTrue a
left_holds true b both = refl
left_holds false b both = both

pub right_holds : (a b : Bool) → IsTrue (a && b) → IsTrue b
right_holds true b both = both
right_holds false b both = absurd (cc)
