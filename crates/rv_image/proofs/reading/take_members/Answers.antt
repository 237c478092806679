-- The members are read as `repeated` says: none is left, one that isn't a new rank, one more, the last one.
use Rattle.std.proofs.Common.{rules, ◌≡◌, ◌+◌, [], Ok, take, drop, arith}
use Rattle.rv_image.specs.declared.faults.ImageFault.TheVariants as faults
use Rattle.rv_image.specs.Reading.{repeated, next_member}
use Rattle.rv_image.proofs.Loop.{step_stops, step_goes, steps_done}
use Rattle.rv_image.proofs.Named.{member_missing, member_refused, member_taken}
use Rattle.rv_image.proofs.reading.take_members.Goals as goal

pub returns-then-k-bytes : goal.returns-then-k-bytes
returns-then-k-bytes c =
    let a = c.args in
    let k = c.loop-k.k in
    let bytes = a.bytes.now in
    let step = next_member a.total a.ranks a.n in
    let count = c.from-count.result in
    rw (← c.from-count.ensures) (step_stops (faults.Short a.total) step count k (take k bytes) (drop k bytes) (repeated step count [] bytes) c.loop-k-test.true (member_missing a.total a.ranks a.n k bytes c.if-k-bytes.true) c.loop-k.invariant.same)

pub returns-then-not-may_be_named : goal.returns-then-not-may_be_named
returns-then-not-may_be_named c =
    let a = c.args in
    let k = c.loop-k.k in
    let bytes = a.bytes.now in
    let step = next_member a.total a.ranks a.n in
    let count = c.from-count.result in
    let h = c.may_be_named.ensures in
    rw (← c.from-count.ensures) (step_stops (faults.Comm a.n) step count k (take k bytes) (drop k bytes) (repeated step count [] bytes) c.loop-k-test.true (member_refused a.total a.ranks a.n k bytes c.if-k-bytes.false (search rules)) c.loop-k.invariant.same)

pub loop-k-preserved : goal.loop-k-preserved
loop-k-preserved c =
    let a = c.args in
    let k = c.loop-k.k in
    let bytes = a.bytes.now in
    let step = next_member a.total a.ranks a.n in
    let count = c.from-count.result in
    record {
      there = omega (arith, c.if-k-bytes.false);
      same = step_goes step count k (take k bytes) (drop k bytes) (take (k + 1) bytes) (drop (k + 1) bytes) (repeated step count [] bytes) c.loop-k-test.true (member_taken a.total a.ranks a.n k bytes c.if-k-bytes.false (search rules)) c.loop-k.invariant.same;
    }

pub returns : goal.returns
returns c =
    let a = c.args in
    let step = next_member a.total a.ranks a.n in
    let count = c.from-count.result in
    let all : repeated step count [] a.bytes.now ≡ Ok (take c.loop-k.k a.bytes.now, drop c.loop-k.k a.bytes.now) = steps_done step count c.loop-k.k (take c.loop-k.k a.bytes.now) (drop c.loop-k.k a.bytes.now) (repeated step count [] a.bytes.now) c.loop-k-test.false c.loop-k.invariant.same in
    let last : c.loop-k.k ≡ count = omega (arith, c.loop-k-test.false, c.loop-k.auto.k-end) in
    let front = c.split_at.ensures.front in
    let back = c.split_at.ensures.back in
    rw (front, back, ← c.from-count.ensures) (rw last at all)
