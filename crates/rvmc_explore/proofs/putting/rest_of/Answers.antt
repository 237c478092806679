use Rattle.std.proofs.Common.{Bool, List, [], ℕ, refl, ◌≡◌, ◌+◌, ◌∙◌, ◌++◌, ap, drop, length, rules, subst, sym}
use Rattle.std.proofs.lemmas.List.{append_assoc}
use Rattle.cl_explore.specs.Ends.{findings}
use Rattle.cl_moves.specs.Standing.{first_node}
use Rattle.cl_explore.specs.declared.kept.KeptNode.{KeptNode}
use Rattle.rvmc_explore.specs.Endless.{SaysGoing, SaysUnending}
use Rattle.rvmc_explore.specs.InnerGoing.{AddsGoings, IsInside}
use Rattle.rvmc_explore.specs.Telling.{AddsOutcomes, ends_lines, last_line, needs_line, unending_line}
use Rattle.rvmc_explore.proofs.Endless.{each_goes, says_ends_anyway, says_none_need, says_none_stuck, says_unending}
use Rattle.rvmc_explore.proofs.RunsOn.{is_inside, says_going}
use Rattle.rvmc_explore.proofs.Heard.{all_behind}
use Rattle.rvmc_explore.proofs.Hung.{hung, hung_begins, hung_needs, says_hanging, whole_by}
use Rattle.rvmc_explore.proofs.Patience.{lead_inside}
use Rattle.rvmc_explore.proofs.Listed.{within}
use Rattle.rvmc_explore.proofs.Needed.{begun_listed, says_on}
use Rattle.rvmc_explore.specs.Outcomes.{ListsNeed}
use Rattle.rvmc_explore.proofs.putting.rest_of.Goals as goal

pub tell-requires-clause-explored : goal.tell-requires-clause-explored
tell-requires-clause-explored c = (first_node c.args.image.now, (c.requires.searched).explored)

pub tell-requires-clause-within : goal.tell-requires-clause-within
tell-requires-clause-within c =
    within c.args.image.now c.args.asked.now.order.now (first_node c.args.image.now) (findings c.args.found.now)
    c.parts-parts.ensures.limits (c.requires.searched).explored

pub tell_hang-requires : goal.tell_hang-requires
tell_hang-requires c =
    lead_inside c.args.image.now c.args.asked.now.order.now (first_node c.args.image.now) (findings c.args.found.now)
    (c.requires.searched).explored

pub put_goings-requires : goal.put_goings-requires
put_goings-requires c =
    subst (λ (kept : List KeptNode). IsInside kept c.in_ok-endless.endless) (sym c.as_slice-nodes.ensures.value)
    (is_inside (findings c.args.found.now) c.in_ok-endless.endless c.in_ok-endless.ensures.says)

pub returns : goal.returns
returns c = λ before lines.
    let image = c.args.image.now in
    let order = c.args.asked.now.order.now in
    let found = c.args.found.now in
    let heard = c.args.heard in
    let first_told = c.in_ok-told.told.items in
    let told = c.tell_hang.new.told.items in
    let explored = (c.requires.searched).explored in
    let known = whole_by c.args.asked.now.buffered image (findings found) (ListsNeed image order heard.items) found.needs
    c.requires.needs in
    let node = c.in_ok-endless.endless in
    let ended = c.is_some-unending.result in
    let ended_is = c.is_some-unending.ensures in
    let endless = c.in_ok-endless.ensures.says in
    let hangs = c.in_ok-hanging.hanging in
    let tells = c.in_ok-hanging.ensures in
    let begins = hung_begins order image (findings found) found.needs ended known heard.items first_told told hangs
    c.in_ok-told.ensures.begins tells in
    let body = c.put_told.new.text.items in
    let counts = ends_lines 1 told in
    let line = unending_line ended in
    let unknown = needs_line c.args.asked.now.buffered found.needs in
    let last = last_line (length told) (length found.nodes.items) found.left found.may_wait found.only_waits found.long c.args.asked.now.turns in
    let many : c.len-before.result ≡ length heard.items = c.len-before.ensures ∙ heard.ok.0 in
    let counted : c.put_counts.new.text.items ≡ body ++ counts =
    c.in_ok-put_counts.ensures ∙ ap (λ os. body ++ ends_lines 1 os) c.as_slice-2.ensures.value in
    let adds =
    subst (λ (kept : List KeptNode). AddsGoings image order kept node c.put_counts.new.text.items c.put_goings.new.text.items)
    c.as_slice-nodes.ensures.value c.in_ok-put_goings.ensures in
    let goes = says_going image order (findings found) node c.put_counts.new.text.items c.put_goings.new.text.items explored endless adds in
    let going = goes.0 in
    let first : c.extend_from_slice.new.self.items ≡ c.put_goings.new.text.items ++ line = search rules in
    let second : c.extend_from_slice-2.new.self.items ≡ c.extend_from_slice.new.self.items ++ unknown = search rules in
    let closed : c.extend_from_slice-3.new.self.items ≡ c.extend_from_slice-2.new.self.items ++ last = search rules in
    let gone : c.put_goings.new.text.items ≡ body ++ counts ++ going =
    goes.2 ∙ ap (λ (text : List ℕ). text ++ going) counted in
    let whole : c.extend_from_slice-3.new.self.items ≡ body ++ (counts ++ (going ++ (line ++ (unknown ++ last)))) =
    closed
    ∙ (ap (λ text. text ++ last)
    (second ∙ ap (λ (text : List ℕ). text ++ unknown) (first ∙ ap (λ (text : List ℕ). text ++ line) gone))
    ∙ (append_assoc (body ++ counts ++ going ++ line) unknown last
    ∙ (append_assoc (body ++ counts ++ going) line (unknown ++ last)
    ∙ (append_assoc (body ++ counts) going (line ++ (unknown ++ last))
    ∙ append_assoc body counts (going ++ (line ++ (unknown ++ last))))))) in
    let those : AddsOutcomes (length heard.items + 1) (drop (length heard.items) told) [] body =
    subst (λ n. AddsOutcomes (n + 1) (drop n told) [] body) many
    (subst (λ (old : List ℕ). AddsOutcomes (c.len-before.result + 1) (drop c.len-before.result told) old body)
    c.new-text.ensures.items
    (subst (λ os. AddsOutcomes (c.len-before.result + 1) (drop c.len-before.result os) c.new-text.result.items body)
    c.as_slice.ensures.value c.in_ok-put_told.ensures)) in
    record {
      told = told;
      listed = record {
        found = findings found;
        searched = c.requires.searched;
        are = hung order image (findings found) found.needs ended known first_told told hangs c.parts-parts.ensures.limits
            explored c.in_ok-told.ensures.told tells;
        no_need = λ copied. hung_needs order image (findings found) found.needs ended known first_told told hangs tells
            ∙ c.in_ok-told.ensures.needs ∙ c.requires.no_need copied;
        needs = found.needs;
        needs_are = says_on c.args.asked.now.buffered image (findings found) (ListsNeed image order heard.items)
            (ListsNeed image order told) found.needs
            (λ sought listed. begun_listed image order heard.items told begins listed)
            c.requires.needs;
      };
      long = found.long;
      unending = ended;
      unending_is = subst (SaysUnending image order (first_node image) found.left) (sym ended_is)
          (says_unending (findings found) node endless image order (first_node image) ([], refl) explored);
      none_stuck = says_none_stuck image order (first_node image) (findings found) c.parts-parts.ensures.limits explored;
      none_need = says_none_need image order (first_node image) (findings found) c.parts-parts.ensures.limits explored;
      ends_anyway = says_ends_anyway image order (findings found) c.parts-parts.ensures.limits explored;
      body = before ++ body;
      lines = all_behind heard.items told begins before body lines those;
      going = going;
      going_is = subst (λ (is : Bool). SaysGoing image order is going) (sym ended_is) goes.1;
      spelled = ap (λ (text : List ℕ). before ++ text) whole
          ∙ sym (append_assoc before body (counts ++ (going ++ (line ++ (unknown ++ last)))));
      hanging = hangs;
      hanging_is = says_hanging order image (findings found) found.needs ended known first_told told hangs
          c.parts-parts.ensures.limits explored
          (λ ends. each_goes (findings found) node c.in_ok-endless.ensures.each (sym ended_is ∙ ends)) tells;
      status_is = search rules;
    }
