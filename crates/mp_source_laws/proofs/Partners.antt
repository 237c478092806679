-- A new post finds the partner that corresponds.
use Rattle.std.proofs.Common.{◌≡◌, ℕ, ◌<◌, inl, inr, true, Option, Some, None, refl, sym, ap, ◌∙◌, subst}
use Rattle.std.specs.Prelude.{◌&&◌, ◌==◌}
use Rattle.std.specs.List.{slice_get}
use Rattle.std.specs.Option.{option_map}
use Rattle.std.proofs.lemmas.Bool.{and_parts, cases_order, eqb-true}
use Rattle.mp_match.specs.declared.posts.Line.{Line}
use Rattle.mp_match.specs.declared.posts.Post.{Post}
use Rattle.mp_match.specs.declared.posts.Post.TheVariants.{Send, Receive, Claim}
use Rattle.mp_match.specs.declared.posts.Selection.{Selection}
use Rattle.mp_match.specs.declared.posts.Sent.{Sent}
use Rattle.mp_match.specs.Board.{Board}
use Rattle.mp_match.specs.Pairs.{accepts, admits, fits, is_free, may_pair, partner_for}
use Rattle.mp_match.proofs.Places.{found_first, found_none}
use Rattle.mp_match.proofs.OrderKept.{free_none}
use Rattle.mp_alike_laws.specs.Renaming.{Renaming, line_by}
use Rattle.mp_alike_laws.specs.Alike.{maker}
use Rattle.mp_source_laws.specs.Alike.{AlikeBoards, IsOver, Wild}
use Rattle.mp_source_laws.specs.Laws.{AsksFrom}
use Rattle.mp_source_laws.proofs.Likeness.{origin}
use Rattle.mp_source_laws.proofs.Over.{free_is_live, same_or_over}

-- the line is a send without a partner, to this rank in this communicator
record IsFor (line : Line) (what : Selection) : Type 0 where
  sent : Sent
  source : admits what.source (sent.envelope).source ≡ true
  is : line ≡ record { post = Send sent; partner = None }
  dest : sent.dest ≡ what.rank
  comm : (sent.envelope).comm ≡ what.comm

line_is : (m : Line) {p : Post} {q : Option ℕ} → m.post ≡ p → m.partner ≡ q → m ≡ record { post = p; partner = q }
line_is m e f = λ k. record { post = e k; partner = f k }

accepted : (a : Selection) (s : Sent) → accepts a s ≡ true
    → (s.dest ≡ a.rank) × ((s.envelope).comm ≡ a.comm) × (admits a.source (s.envelope).source ≡ true)
accepted a s h =
    let d = (s.dest == a.rank) in
    let c = ((s.envelope).comm == a.comm) in
    let q = and_parts (d && c) (admits a.source (s.envelope).source)
    (and_parts (d && c && admits a.source (s.envelope).source) (admits a.tag (s.envelope).tag) h).0 in
    let p = and_parts d c q.0 in
    (eqb-true s.dest a.rank p.0, eqb-true (s.envelope).comm a.comm p.1, q.1)

for_receive : (line : Line) (a : Selection) → fits (Receive a) line ≡ true → IsFor line a
for_receive line a h =
    let p = and_parts (is_free line.partner) (may_pair (Receive a) line.post) h in
    go line.post refl p.1 (free_none line.partner p.0)
  where
    go : (q : Post) → line.post ≡ q → may_pair (Receive a) q ≡ true → line.partner ≡ None → IsFor line a
    go (Send s) e pair free =
        let r = accepted a s pair in record { sent = s; source = r.2; is = line_is line e free; dest = r.0; comm = r.1 }
    go (Receive c) e pair free = absurd (cc)
    go (Claim c) e pair free = absurd (cc)

for_claim : (line : Line) (a : Selection) → fits (Claim a) line ≡ true → IsFor line a
for_claim line a h =
    let p = and_parts (is_free line.partner) (may_pair (Claim a) line.post) h in
    go line.post refl p.1 (free_none line.partner p.0)
  where
    go : (q : Post) → line.post ≡ q → may_pair (Claim a) q ≡ true → line.partner ≡ None → IsFor line a
    go (Send s) e pair free =
        let r = accepted a s pair in record { sent = s; source = r.2; is = line_is line e free; dest = r.0; comm = r.1 }
    go (Receive c) e pair free = absurd (cc)
    go (Claim c) e pair free = absurd (cc)

-- receives that accept one send are one rank's
by_dest : (line : Line) (s : Sent) → fits (Send s) line ≡ true → maker line.post ≡ s.dest
by_dest line s h =
    let p = and_parts (is_free line.partner) (may_pair (Send s) line.post) h in go line.post p.1
  where
    go : (q : Post) → may_pair (Send s) q ≡ true → maker q ≡ s.dest
    go (Send t) pair = absurd (cc)
    go (Receive c) pair = sym (accepted c s pair).0
    go (Claim c) pair = absurd (cc)

-- a post of a request that may be made
abbrev pub May : Wild → Post → Type 0
May wild (Send s) = Unit {0}
May wild (Receive a) = AsksFrom wild a.rank a.comm a.source
May wild (Claim a) = AsksFrom wild a.rank a.comm a.source

-- a post that a new one could have isn't over
pub live : (c : Board) (p : Post) (i : ℕ) (m : Line) → slice_get c.lines i ≡ Some m → fits p m ≡ true → IsOver c i → ⊥
live c p i m here f =
    free_is_live c i m here (free_none m.partner (and_parts (is_free m.partner) (may_pair p m.post) f).0)

module _ {wild : Wild} (names : Renaming) (a b : Board) (alike : AlikeBoards wild names a b) where
  fits_by : (p : Post) (line : Line) → fits p (line_by names line) ≡ fits p line
  fits_by p line = ap (λ x. x && may_pair p line.post) (free_by line.partner)
    where
      free_by : (o : Option ℕ) → is_free (option_map names.to o) ≡ is_free o
      free_by None = refl
      free_by (Some q) = refl

  for_both : (i j : ℕ) (m n : Line) (what : Selection) → AsksFrom wild what.rank what.comm what.source → i < j
      → slice_get a.lines i ≡ Some m → slice_get a.lines j ≡ Some n → IsFor m what → IsFor n what
      → names.to i < names.to j
  for_both i j m n what may below here there f g = go what.source refl may
    where
      go : (o : Option ℕ) → what.source ≡ o → AsksFrom wild what.rank what.comm o → names.to i < names.to j
      go None e any =
          alike.sends i j f.sent g.sent below (here ∙ ap (λ (z : Line). Some z) f.is)
          (there ∙ ap (λ (z : Line). Some z) g.is) (f.dest ∙ sym g.dest) (f.comm ∙ sym g.comm)
          (ap (λ d. wild d ((f.sent).envelope).comm) f.dest ∙ ap (wild what.rank) f.comm ∙ any)
      go (Some x) e named =
          let one : ((f.sent).envelope).source ≡ x =
          eqb-true ((f.sent).envelope).source x (sym (ap (λ o. admits o ((f.sent).envelope).source) e) ∙ f.source) in
          let other : ((g.sent).envelope).source ≡ x =
          eqb-true ((g.sent).envelope).source x (sym (ap (λ o. admits o ((g.sent).envelope).source) e) ∙ g.source) in
          alike.ranks i j m n below here there
          (ap (λ (z : Line). maker z.post) f.is ∙ one ∙ sym other ∙ sym (ap (λ (z : Line). maker z.post) g.is))
          (free_is_live a i m here (ap (λ (z : Line). z.partner) f.is))
          (free_is_live a j n there (ap (λ (z : Line). z.partner) g.is))

  -- two posts that a new one could have keep their order
  keeps : (p : Post) → May wild p → (i j : ℕ) (m n : Line) → i < j → slice_get a.lines i ≡ Some m → slice_get a.lines j ≡ Some n
      → fits p m ≡ true → fits p n ≡ true → names.to i < names.to j
  keeps (Send s) may i j m n below here there f g =
      alike.ranks i j m n below here there (by_dest m s f ∙ sym (by_dest n s g)) (live a (Send s) i m here f)
      (live a (Send s) j n there g)
  keeps (Receive c) may i j m n below here there f g =
      for_both i j m n c may below here there (for_receive m c f) (for_receive n c g)
  keeps (Claim c) may i j m n below here there f g =
      for_both i j m n c may below here there (for_claim m c f) (for_claim n c g)

  there_is : (p : Post) (i : ℕ) (m : Line) → slice_get a.lines i ≡ Some m → fits p m ≡ true
      → slice_get b.lines (names.to i) ≡ Some (line_by names m)
  there_is p i m here f =
      same_or_over names a b i (alike.lines i) (live a p i m here f) ∙ ap (option_map (line_by names)) here

  pub found_named : (p : Post) → May wild p → partner_for b.lines p ≡ option_map names.to (partner_for a.lines p)
  found_named p may = go (partner_for a.lines p) refl (partner_for b.lines p) refl
    where
      fits_there : (m : Line) → fits p m ≡ true → fits p (line_by names m) ≡ true
      fits_there m f = fits_by p m ∙ f

      go : (o : Option ℕ) → partner_for a.lines p ≡ o → (q : Option ℕ) → partner_for b.lines p ≡ q
          → q ≡ option_map names.to o
      go None e None f = refl
      go None e (Some j) f =
          let t = found_first (fits p) b.lines j f in
          let o = origin names a b alike j t.0 t.1 (live b p j t.0 t.1 t.2) in
          let no = found_none (fits p) 0 a.lines e (names.back j) o.from o.here in
          let yes : fits p o.from ≡ true =
          sym (fits_by p o.from) ∙ sym (ap (fits p) o.is) ∙ t.2 in
          absurd (cc)
      go (Some i) e None f =
          let t = found_first (fits p) a.lines i e in
          let no = found_none (fits p) 0 b.lines f (names.to i) (line_by names t.0) (there_is p i t.0 t.1 t.2) in
          let yes = fits_there t.0 t.2 in
          absurd (cc)
      go (Some i) e (Some j) f =
          let t = found_first (fits p) a.lines i e in
          let u = found_first (fits p) b.lines j f in
          let o = origin names a b alike j u.0 u.1 (live b p j u.0 u.1 u.2) in
          let yes : fits p o.from ≡ true = sym (fits_by p o.from) ∙ sym (ap (fits p) o.is) ∙ u.2 in
          elim (cases_order i (names.back j)) [
            | inl same ↦ ap (λ z. Some z) (sym (names.again j) ∙ ap names.to (sym same))
            | inr other ↦ elim other [
              | inl first ↦
                  let below : names.to i < j =
                  subst (λ z. names.to i < z) (names.again j)
                  (keeps p may i (names.back j) t.0 o.from first t.1 o.here t.2 yes) in
                  let no = u.3 (names.to i) (line_by names t.0) below (there_is p i t.0 t.1 t.2) in
                  let is = fits_there t.0 t.2 in
                  absurd (cc)
              | inr later ↦
                  let no = t.3 (names.back j) o.from later o.here in
                  absurd (cc)
            ]
          ]
