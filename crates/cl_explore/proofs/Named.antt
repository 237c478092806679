-- What a search found, with whether ranks only wait for named ranks in it.
use Rattle.std.specs.Prelude.{ℕ, ◌≡◌, Bool, true, List}
use Rattle.std.proofs.Common.{subst, sym}
use Rattle.cl_moves.specs.declared.standing.Standing.{Standing}
use Rattle.cl_explore.specs.Ends.{ExploresFrom, Findings}
use Rattle.cl_explore.specs.How.{How, OnlyWaitIn}

abbrev pub with_named : Bool → Findings → Findings
with_named named found = record {
  kept = found.kept;
  ends = found.ends;
  companies = found.companies;
  leads = found.leads;
  left = found.left;
  may_wait = found.may_wait;
  only_waits = named;
  resting = found.resting;
}

-- it is told beside the rest
pub named_too : (how : How) (order : List ℕ) (standing : Standing) (found : Findings) (named : Bool)
    → (named ≡ true → OnlyWaitIn how) → ExploresFrom how order standing found
    → ExploresFrom how order standing (with_named named found)
named_too how order standing found named is explores = λ image here stands way may.
    let v = explores image here stands way may in
    let e = v.0 in (
      record {
        nodes = e.nodes;
        are = e.are;
        how = e.how;
        start_is = e.start_is;
        begins = e.begins;
        room = e.room;
        leads = e.leads;
        follows = e.follows;
        closed = e.closed;
        few = e.few;
        fit = e.fit;
        sound = e.sound;
        told = e.told;
        stuck = e.stuck;
        visited = e.visited;
        judged = e.judged;
        all = e.all;
        waits = e.waits;
        named = λ yes. subst OnlyWaitIn (sym v.1) (is yes);
        unneeded = e.unneeded;
        counted = e.counted;
        rested = e.rested;
      },
      v.1,
    )
