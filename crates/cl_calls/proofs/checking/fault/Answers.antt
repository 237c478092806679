-- What the call names is checked first.
use Rattle.std.proofs.Common.{sym, ◌∙◌, ap, is_some, Bool, IsNone, List}
use Rattle.std.proofs.lemmas.Bool.{and_parts}
use Rattle.mp_types.specs.declared.codes.Code.{Code}
use Rattle.cl_calls.specs.Checks.{name_checks, state_checks}
use Rattle.cl_calls.proofs.Faults.{all_hold, first_found, none_fails, none_found}
use Rattle.cl_calls.proofs.checking.fault.Goals as goal
use Rattle.cl_calls.proofs.checking.fault.Goals.{After-state_fault}

pub returns-in-Some-clause-fault : goal.returns-in-Some-clause-fault
returns-in-Some-clause-fault c =
    let s = c.args.standing.now in
    let needs = c.args.needs.now in
    first_found (name_checks s.site.now s.memory.now s.requests.now needs)
    (state_checks s.site.now s.memory.now s.requests.now s.phases.now s.written needs)
    c.in-Some.code (sym c.in-Some.is ∙ c.name_fault.ensures.fault)

pub returns-in-None-clause-fault : goal.returns-in-None-clause-fault
returns-in-None-clause-fault c =
    let s = c.args.standing.now in
    let needs = c.args.needs.now in
    none_found (name_checks s.site.now s.memory.now s.requests.now needs)
    (state_checks s.site.now s.memory.now s.requests.now s.phases.now s.written needs)
    c.state_fault.result (sym c.in-None.is ∙ c.name_fault.ensures.fault) c.state_fault.ensures.fault

-- the checks of the names of this call, and then those of how its rank stands
abbrev its_names : After-state_fault → List (Bool × Code)
its_names c =
    let s = c.args.standing.now in
    name_checks s.site.now s.memory.now s.requests.now c.args.needs.now

abbrev its_state : After-state_fault → List (Bool × Code)
its_state c =
    let s = c.args.standing.now in
    state_checks s.site.now s.memory.now s.requests.now s.phases.now s.written c.args.needs.now

names_hold : (c : After-state_fault) → all_hold (its_names c)
names_hold c = none_fails (its_names c) c.name_fault.result (ap is_some c.in-None.is) c.name_fault.ensures.fault

state_holds : (c : After-state_fault) → IsNone c.state_fault.result → all_hold (its_state c)
state_holds c none = none_fails (its_state c) c.state_fault.result none c.state_fault.ensures.fault

pub returns-in-None-clause-array : goal.returns-in-None-clause-array
returns-in-None-clause-array c = λ none. (names_hold c).1.1.0

pub returns-in-None-clause-named : goal.returns-in-None-clause-named
returns-in-None-clause-named c = λ none. (and_parts _ _ (names_hold c).1.1.1.0).0

pub returns-in-None-clause-comm : goal.returns-in-None-clause-comm
returns-in-None-clause-comm c = λ none. (names_hold c).1.1.1.1.0

pub returns-in-None-clause-peer : goal.returns-in-None-clause-peer
returns-in-None-clause-peer c = λ none. (names_hold c).1.1.1.1.1.0

pub returns-in-None-clause-tag : goal.returns-in-None-clause-tag
returns-in-None-clause-tag c = λ none. (names_hold c).1.1.1.1.1.1.0

pub returns-in-None-clause-parts : goal.returns-in-None-clause-parts
returns-in-None-clause-parts c = λ none. (and_parts _ _ (state_holds c none).0).0

pub returns-in-None-clause-part : goal.returns-in-None-clause-part
returns-in-None-clause-part c = λ none. (and_parts _ _ (state_holds c none).0).1

pub returns-in-None-clause-size : goal.returns-in-None-clause-size
returns-in-None-clause-size c = λ none. (and_parts _ _ (state_holds c none).1.0).0

pub returns-in-None-clause-count : goal.returns-in-None-clause-count
returns-in-None-clause-count c = λ none. (and_parts _ _ (state_holds c none).1.0).1

pub returns-in-None-clause-region : goal.returns-in-None-clause-region
returns-in-None-clause-region c = λ none. (and_parts _ _ (and_parts _ _ (state_holds c none).1.1.0).0).0

pub returns-in-None-clause-buffer : goal.returns-in-None-clause-buffer
returns-in-None-clause-buffer c = λ none. (and_parts _ _ (and_parts _ _ (state_holds c none).1.1.0).0).1

pub returns-in-None-clause-idle : goal.returns-in-None-clause-idle
returns-in-None-clause-idle c = λ none. (state_holds c none).1.1.1.0

pub returns-in-None-clause-going : goal.returns-in-None-clause-going
returns-in-None-clause-going c = λ none. (state_holds c none).1.1.1.1.0

pub returns-in-None-clause-unready : goal.returns-in-None-clause-unready
returns-in-None-clause-unready c = λ none. (state_holds c none).1.1.1.1.1.0
