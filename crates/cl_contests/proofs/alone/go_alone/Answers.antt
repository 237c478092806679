use Rattle.std.proofs.Common.{subst}
use Rattle.cl_moves.specs.Cycles.{kept_in}
use Rattle.cl_moves.specs.Standing.{Takes}
use Rattle.cl_contests.specs.Kept.{search_of}
use Rattle.cl_contests.specs.Lone.{IsTurnIfSome}
use Rattle.cl_contests.specs.Turns.{IsBusyNext}
use Rattle.cl_contests.proofs.Leading.{alone_more, alone_stays, alone_taken}
use Rattle.cl_contests.proofs.Rounds.{trails_back, trails_shown, trails_start, trails_taken}
use Rattle.cl_contests.proofs.alone.go_alone.Goals as goal

pub loop-turn-init : goal.loop-turn-init
loop-turn-init c = record {
  alone = alone_stays (search_of c.args.patterns.now.may_wait c.args.patterns.now.kept.items) c.args.standing.now;
  trails = trails_start c.args.rank c.args.standing.now (kept_in c.new-watch.result) c.new-watch.ensures;
}

pub returns-then-not-branch-clause-alone : goal.returns-then-not-branch-clause-alone
returns-then-not-branch-clause-alone c =
    let may_wait = c.args.patterns.now.may_wait in
    let kept = c.args.patterns.now.kept.items in
    let turn = subst (λ o. IsBusyNext (search_of may_wait kept) c.loop-turn.standing o) c.in-Some.is c.in_ok-turn.ensures.busy in
    alone_more (search_of may_wait kept) c.args.standing.now c.loop-turn.standing c.take.new.self c.loop-turn.invariant.alone
    (alone_taken may_wait kept c.loop-turn.standing c.take.new.self c.in-Some.turn turn c.in_ok-take.field-0
    c.in_ok-take.ensures.takes)

pub returns-then-branch : goal.returns-then-branch
returns-then-branch c =
    let may_wait = c.args.patterns.now.may_wait in
    let kept = c.args.patterns.now.kept.items in
    let old = c.args.standing.now in
    let mid = c.loop-turn.standing in
    let new = c.take.new.self in
    let e = c.in-Some.turn in
    let turn = subst (λ o. IsBusyNext (search_of may_wait kept) mid o) c.in-Some.is c.in_ok-turn.ensures.busy in
    let whose = subst (λ o. IsTurnIfSome c.args.rank o) c.in-Some.is c.in_ok-turn.ensures.whose in
    let took = subst (Takes mid e new) c.if-not-branch.false c.in_ok-take.ensures.takes in
    record {
      alone = alone_more (search_of may_wait kept) old mid new c.loop-turn.invariant.alone
          (alone_taken may_wait kept mid new e turn c.in_ok-take.field-0 c.in_ok-take.ensures.takes);
      round = λ is.
          trails_back c.args.rank old new c.loop-turn.watch
          (trails_taken (search_of may_wait kept) c.args.rank old mid new (kept_in c.loop-turn.watch) e whose.0 turn took
          c.loop-turn.invariant.trails)
          (c.in_ok-is_back.ensures.back c.if-branch.true);
    }

pub loop-turn-preserved : goal.loop-turn-preserved
loop-turn-preserved c =
    let may_wait = c.args.patterns.now.may_wait in
    let kept = c.args.patterns.now.kept.items in
    let old = c.args.standing.now in
    let mid = c.loop-turn.standing in
    let new = c.take.new.self in
    let e = c.in-Some.turn in
    let turn = subst (λ o. IsBusyNext (search_of may_wait kept) mid o) c.in-Some.is c.in_ok-turn.ensures.busy in
    let whose = subst (λ o. IsTurnIfSome c.args.rank o) c.in-Some.is c.in_ok-turn.ensures.whose in
    let took = subst (Takes mid e new) c.if-not-branch.false c.in_ok-take.ensures.takes in
    record {
      alone = alone_more (search_of may_wait kept) old mid new c.loop-turn.invariant.alone
          (alone_taken may_wait kept mid new e turn c.in_ok-take.field-0 c.in_ok-take.ensures.takes);
      trails = trails_shown c.args.rank old new c.loop-turn.watch c.is_back.new.watch
          (trails_taken (search_of may_wait kept) c.args.rank old mid new (kept_in c.loop-turn.watch) e whose.0 turn took
          c.loop-turn.invariant.trails)
          c.in_ok-is_back.ensures.kept;
    }
