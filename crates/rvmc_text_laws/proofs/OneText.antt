-- A list of ends is one to the letter.
use Rattle.std.specs.Prelude.{ℕ, zero, suc, ◌<◌, ◌≡◌, ◌≤◌, Bool, List, [], ◌∷◌, length, map, slice_get, Some}
use Rattle.std.proofs.Common.{ap, arith, inl, inr, refl, sym, subst, ◌∙◌}
use Rattle.std.proofs.lemmas.List.{length-map}
use Rattle.std.proofs.lemmas.Option.{slice_get_within}
use Rattle.cl_explore.proofs.Lists.{at_inside}
use Rattle.rv_image_types.specs.Image.{IsImage}
use Rattle.rv_image_types.specs.declared.images.ImageParts.{ImageParts}
use Rattle.cl_machine.specs.Cluster.{Cluster}
use Rattle.cl_explore.specs.Ends.{AreAlikeEnds, Explored, Findings}
use Rattle.cl_moves.specs.Standing.{first_node}
use Rattle.cl_order_laws.specs.Closed.{Node}
use Rattle.cl_replay.specs.declared.states.ClusterState.{ClusterState}
use Rattle.rvmc_explore.specs.Ends.{IsEndText}
use Rattle.rvmc_explore.specs.OneList.{TellsEnd}
use Rattle.rvmc_explore.specs.Outcomes.{AreApart, AreCounted, HasBody, IsEndBody, IsEndOutcome, IsListOf, ends_with}
use Rattle.rvmc_explore.specs.declared.outcomes.Outcome.{Outcome}
use Rattle.rvmc_explore.proofs.EndTexts.{found_way, stands_kept}
use Rattle.rvmc_explore.proofs.OneList.{one_list_law}
use Rattle.rvmc_text_laws.specs.Laws.{IsReachedState}
use Rattle.rvmc_text_laws.specs.OneText.{AreEndsAlone, HasEndBody, IsEndAt, OneTextLaw}
use Rattle.rvmc_text_laws.proofs.Counted.{one_has, some_have}
use Rattle.rvmc_text_laws.proofs.Counts.{AreDistinct, Has, no_longer}
use Rattle.rvmc_text_laws.proofs.EndTexts.{end_text_law}
use Rattle.rvmc_text_laws.proofs.Sets.{same_texts}

-- the text of an end with this cluster
record ToldAt (order : List ℕ) (image : ImageParts) (cluster : Cluster) (body : List ℕ) : Type 0 where
  state : ClusterState
  is : IsReachedState image state cluster
  told : IsEndText order image state [] body

-- alike ends are told by one text
same_text : (order : List ℕ) (image : ImageParts) (a b : Cluster) (x y : List ℕ) → IsImage image → AreAlikeEnds a b
    → ToldAt order image a x → ToldAt order image b y
    → x ≡ y
same_text order image a b x y right alike one other =
    end_text_law order image one.state other.state x y right
    (record { one = a; other = b; wild = alike.0; first = one.is; second = other.is; alike = alike.1 }) one.told other.told

-- an outcome of an end is told where its turns lead
told_there : (image : ImageParts) (order : List ℕ) (outcome : Outcome) → (is : IsEndOutcome order image outcome)
    → ToldAt order image (is.node).cluster outcome.body.items
told_there image order outcome is = record {
  state = is.state;
  is = record { reached = (outcome.way, (is.led).run); stands = is.stands };
  told = is.told;
}

at_number : (image : ImageParts) (order : List ℕ) (told : List Outcome) (k : ℕ) (end : Cluster)
    → (is : IsEndAt image order told k end) → ToldAt order image end (is.outcome).body.items
at_number image order told k end is =
    subst (λ c. ToldAt order image c (is.outcome).body.items) is.cluster_is (told_there image order is.outcome is.is)

-- ---- the texts of a list

abbrev bodies : List Outcome → List (List ℕ)
bodies told = map (λ (o : Outcome). o.body.items) told

has_at : (told : List Outcome) (body : List ℕ) (k : ℕ) (outcome : Outcome) → slice_get told k ≡ Some outcome
    → outcome.body.items ≡ body → Has body (bodies told)
has_at [] body zero outcome there is = absurd (cc)
has_at [] body (suc k) outcome there is = absurd (cc)
has_at (o ∷ told) body zero outcome there is =
    let same : o ≡ outcome = (cc) in inl (sym is ∙ ap (λ (x : Outcome). x.body.items) (sym same))
has_at (o ∷ told) body (suc k) outcome there is = inr (has_at told body k outcome there is)

has_of_body : (told : List Outcome) (body : List ℕ) → HasBody told body → Has body (bodies told)
has_of_body told body has = has_at told body has.0 has.1 has.2 has.3

body_of_has : (told : List Outcome) (body : List ℕ) → Has body (bodies told) → HasBody told body
body_of_has [] body has = absurd has
body_of_has (o ∷ told) body (inl is) = (zero, o, refl, sym is)
body_of_has (o ∷ told) body (inr has) =
    (let rest = body_of_has told body has in (suc rest.0, rest.1, rest.2, rest.3))

distinct : (told : List Outcome) → AreApart told → AreDistinct (bodies told)
distinct [] apart = tt
distinct (o ∷ told) apart = (
  (λ has. let there = body_of_has told o.body.items has in
      not_first there.0 (apart zero (suc there.0) o there.1 refl there.2 (sym there.3))),
  distinct told (λ i j one other here there same. one_less_each i j (apart (suc i) (suc j) one other here there same)),
)
  where
    not_first : (k : ℕ) → zero ≡ suc k → ⊥
    not_first k is = cc

    one_less_each : (i j : ℕ) → suc i ≡ suc j → i ≡ j
    one_less_each i j is = cc

-- ---- the texts of ends

module _ (image : ImageParts) (order : List ℕ) (found : Findings) (explored : Explored image order found) where
  told_at : (i : ℕ) (node : Node) (body : List ℕ) → slice_get explored.nodes i ≡ Some node
      → IsEndBody order image found.kept i body
      → ToldAt order image node.cluster body
  told_at i node body there end =
      let kept = end.is in
      let way = found_way image order (first_node image) found explored i node there in
      record {
        state = end.state;
        is = record {
          reached = (way.0, (way.1).run);
          stands = stands_kept image order (first_node image) found explored i kept.what node end.state kept.there there
              kept.same;
        };
        told = end.told;
      }

module _ (image : ImageParts) (order : List ℕ) (buffered : Bool) (states turns : ℕ) (told : List Outcome)
    (listed : IsListOf image order buffered states turns told) (right : IsImage image) where
  abbrev explored : Explored image order listed.found
  explored = (listed.searched).explored

  -- the text by which an end is told, at its node
  tells_at : (end : Cluster) (tells : TellsEnd image order buffered states turns told listed end)
      → ToldAt order image (tells.node).cluster tells.body
  tells_at end tells = told_at image order listed.found explored tells.number tells.node tells.body tells.there tells.is

  -- the text of an end of whatever list is in this one, where no state is left
  pub text_there : (listed.found).left ≡ 0 → (outcome : Outcome) → IsEndOutcome order image outcome
      → HasBody told outcome.body.items
  text_there whole outcome is =
      let end = (is.node).cluster in
      let tells = (one_list_law.every) image order buffered states turns told listed whole outcome.way end (is.led).run
      (is.led).follow
      is.end in
      subst (HasBody told)
      (sym (same_text order image end (tells.node).cluster outcome.body.items tells.body right tells.alike
      (told_there image order outcome is) (tells_at end tells))) tells.told_is

  -- so this one has each text of a list that tells of ends alone
  texts_there : (listed.found).left ≡ 0 → (other : List Outcome) → AreEndsAlone order image other → (body : List ℕ)
      → HasBody other body → HasBody told body
  texts_there whole other ends body has =
      subst (HasBody told) has.3 (text_there whole has.1 (ends has.0 has.1 has.2))

  -- and no fewer outcomes
  no_fewer : (listed.found).left ≡ 0 → (other : List Outcome) → AreApart other → AreEndsAlone order image other
      → length other ≤ length told
  no_fewer whole other apart ends =
      let few = no_longer (bodies other) (bodies told) (distinct other apart)
      (λ body has. has_of_body told body (texts_there whole other ends body (body_of_has other body has))) in
      let mine = length-map told (λ (o : Outcome). o.body.items) in
      let its = length-map other (λ (o : Outcome). o.body.items) in
      omega (arith, few, mine, its)

-- ---- the ends of two lists

module _ (image : ImageParts) (order : List ℕ) (found other : Findings) (one : Explored image order found)
    (two : Explored image order other) (whole : other.left ≡ 0) (told its : List Outcome) (right : IsImage image)
    (counted : AreCounted order image found told) (all : AreCounted order image other its) where
  -- the text of an end that one search found is that of one that the other found
  found_there : (k : ℕ) (body : List ℕ) → slice_get counted.bodies k ≡ Some body
      → (j : ℕ) × (slice_get all.bodies j ≡ Some body)
  found_there k body at =
      let inside = slice_get_within counted.bodies k body at in
      let number = at_inside found.ends k (let e = counted.many in omega (arith, inside, e)) in
      let end = one.sound k number.0 number.1 in
      let way = found_way image order (first_node image) found one number.0 end.0 end.1 in
      let v = two.all whole way.0 end.0.cluster (way.1).run (way.1).follow end.2 in
      let low = slice_get_within other.ends v.0 v.1 v.3 in
      let text = at_inside all.bodies v.0 (let e = all.many in omega (arith, low, e)) in
      let same = same_text order image end.0.cluster v.2.cluster body text.0 right v.5
      (told_at image order found one number.0 end.0 body end.1 (counted.of k number.0 body number.1 at))
      (told_at image order other two v.1 v.2 text.0 v.4 (all.of v.0 v.1 text.0 v.3 text.1)) in
      (v.0, text.1 ∙ ap Some (sym same))

  ends_there : (body : List ℕ) → HasEndBody told body → HasEndBody its body
  ends_there body has =
      let some = let e = counted.each has.0 has.1 has.2 in let low = has.3 in
      subst (λ n. 0 < n) (e ∙ ap (ends_with counted.bodies) has.4) low in
      let mine = one_has counted.bodies body some in
      let there = found_there mine.0 body mine.1 in
      let listed = all.there there.0 body there.1 in
      let number = all.each listed.0 listed.1 listed.2 ∙ ap (ends_with all.bodies) listed.3 in
      (listed.0, listed.1, listed.2, subst (λ n. 0 < n) (sym number) (some_have all.bodies body there.0 there.1), listed.3)

pub one_text_law : OneTextLaw
one_text_law = record {
  exactly = λ image order buffered states turns told listed right end reached tells state text stands is.
      sym (same_text order image end (tells.node).cluster text tells.body right tells.alike
      (record { state = state; is = record { reached = reached; stands = stands }; told = is })
      (tells_at image order buffered states turns told listed right end tells));
  apart = λ image order buffered states turns told listed right k j one other first second alike.
      ((listed.are).apart) k j first.outcome second.outcome first.there second.there
      (same_text order image one other (first.outcome).body.items (second.outcome).body.items right alike
      (at_number image order told k one first) (at_number image order told j other second));
  texts = λ image order buffered copied states turns more longer told other one two whole right k outcome at is.
      text_there image order copied more longer other two right whole outcome is;
  same_ends = λ image order buffered copied states turns more longer told other one two whole complete right body.
      let first = (one.searched).explored in
      let second = (two.searched).explored in (
        ends_there image order one.found two.found first second complete told other right ((one.are).counted)
            ((two.are).counted) body,
        ends_there image order two.found one.found second first whole other told right ((two.are).counted)
            ((one.are).counted) body,
      );
  one_set = λ image order buffered copied states turns more longer texts other right one two.
      let first = ((one.listed).searched).explored in
      let second = ((two.listed).searched).explored in
      let mine = ((one.listed).are).counted in
      let its = ((two.listed).are).counted in
      one.are
      ∙ same_texts one.told two.told
      (ends_there image order (one.listed).found (two.listed).found first second two.whole one.told two.told right mine its)
      (ends_there image order (two.listed).found (one.listed).found second first one.whole two.told one.told right its mine)
      ∙ sym two.are;
  same = λ image order buffered copied states turns more longer told other one two whole complete right ends its.
      let here = texts_there image order buffered states turns told one right whole other its in
      let there = texts_there image order copied more longer other two right complete told ends in
      let at_least = no_fewer image order copied more longer other two right complete told ((one.are).apart) ends in
      let at_most = no_fewer image order buffered states turns told one right whole other ((two.are).apart) its in
      ((λ body. (there body, here body)), omega (arith, at_least, at_most));
}
