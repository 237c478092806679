use Rattle.std.specs.Prelude.{ℕ, List, codes}
use Rattle.std.specs.Fmt.{decimal}
use Rattle.std.proofs.Common.{◌≡◌, ◌∙◌, ◌++◌, ap, append_assoc, refl}
use Rattle.std.proofs.lemmas.Result.{on_ok_weaker}
use Rattle.rvmc_svg.specs.Titles.{cargo_text}
use Rattle.rvmc_svg.proofs.arrows.put_title.Goals as goal
use Rattle.rvmc_svg.proofs.arrows.put_title.Goals.{in-Some+in_ok-write-in-Some, in-None+in_ok-write-in-None}

-- the step that it leaves, where it goes to, and its cargo
to_step : (old s place o rank to there r colon cargo one two new : List ℕ)
    → one ≡ old ++ (s ++ (place ++ (o ++ (rank ++ to)))) → two ≡ one ++ (s ++ (there ++ (o ++ (r ++ colon))))
    → new ≡ two ++ cargo
    → new ≡ old ++ ((s ++ (place ++ (o ++ rank))) ++ (to ++ ((s ++ (there ++ (o ++ r))) ++ (colon ++ cargo))))
to_step old s place o rank to there r colon cargo one two new first second third =
    rw (third, second, first) (simp append_assoc refl)

to_rank : (old s place o rank to r dest nobody colon cargo one two new : List ℕ)
    → one ≡ old ++ (s ++ (place ++ (o ++ (rank ++ to)))) → two ≡ one ++ (r ++ (dest ++ (nobody ++ colon)))
    → new ≡ two ++ cargo
    → new ≡ old ++ ((s ++ (place ++ (o ++ rank))) ++ (to ++ ((r ++ (dest ++ nobody)) ++ (colon ++ cargo))))
to_rank old s place o rank to r dest nobody colon cargo one two new first second third =
    rw (third, second, first) (simp append_assoc refl)

pub returns : goal.returns
returns c =
    let arrow = c.args.arrow.now in
    on_ok_weaker c.put_carried.result
    (λ e. elim c.match-arrow.branch [
      | in-Some+in_ok-write-in-Some w ↦ rw w.in-Some.is
          (to_step c.args.text.now.items (codes "step ") (decimal arrow.from.place) (codes " of rank ")
          (decimal arrow.from.rank) (codes " to ") (decimal w.in-Some.to.place) (decimal w.in-Some.to.rank)
          (codes ": ") (cargo_text arrow.carried) c.write.new.self.items c.match-arrow.text.items
          c.put_carried.new.text.items c.in_ok-write.ensures.bytes
          (ap (λ t. t.items) w.text-is ∙ w.in_ok-write-in-Some.ensures.bytes) e)
      | in-None+in_ok-write-in-None w ↦ rw w.in-None.is
          (to_rank c.args.text.now.items (codes "step ") (decimal arrow.from.place) (codes " of rank ")
          (decimal arrow.from.rank) (codes " to ") (codes "rank ") (decimal arrow.dest)
          (codes ", where nobody got it") (codes ": ") (cargo_text arrow.carried) c.write.new.self.items
          c.match-arrow.text.items c.put_carried.new.text.items c.in_ok-write.ensures.bytes
          (ap (λ t. t.items) w.text-is ∙ w.in_ok-write-in-None.ensures.bytes) e)
    ])
    c.put_carried.ensures
