-- Lines and sends of two hubs, one by one.
use Rattle.std.proofs.Common.{◌≡◌, ℕ, ◌<◌, Bool, List, Option, Some, None, sym, ap, ◌∙◌, subst}
use Rattle.std.specs.Prelude.{◌↔◌, IfNone, IfSome, IsTrue}
use Rattle.std.specs.List.{slice_get}
use Rattle.std.specs.Option.{option_map}
use Rattle.std.proofs.lemmas.Option.{same_Some}
use Rattle.mp_match.specs.declared.posts.Line.{Line}
use Rattle.mp_match.specs.declared.posts.Post.TheVariants.{Claim, Send}
use Rattle.mp_match.specs.declared.posts.Selection.{Selection}
use Rattle.mp_match.specs.declared.posts.Sent.{Sent}
use Rattle.mp_alike_laws.specs.Alike.{IsUnpaired}
use Rattle.mp_alike.specs.Names.{renamed}
use Rattle.mp_alike.specs.InnerAlike.{KeepsClaim, KeepsSend, line_to}

-- two that are there
pub some_lines : (to : List ℕ) (a b : Option Line) (line other : Line) (r : Bool) → a ≡ Some line → b ≡ Some other
    → (IsTrue r ↔ (other ≡ line_to to line)) → IsTrue r ↔ (b ≡ option_map (line_to to) a)
some_lines to a b line other r e g same = (
  λ t. g ∙ ap (λ (l : Line). Some l) (same.0 t) ∙ sym (ap (option_map (line_to to)) e),
  λ h. same.1 (same_Some other (line_to to line) (sym g ∙ h ∙ ap (option_map (line_to to)) e)),
)

same_sent : (s t : Sent) → Send s ≡ Send t → s ≡ t
same_sent s t h = cc

-- the send at a place is one
one_sent : (lines : List Line) (place : ℕ) (s t : Sent) → IsUnpaired lines place s → IsUnpaired lines place t → s ≡ t
one_sent lines place s t here there =
    same_sent s t (ap (λ (l : Line). l.post) (same_Some _ _ (sym here ∙ there)))

pub keeps_one : (to : List ℕ) (lines : List Line) (place behind : ℕ) (s t : Sent) (r : Bool) → place < behind
    → IsUnpaired lines behind t
    → (IsTrue r ↔ (s.dest ≡ t.dest → s.envelope.comm ≡ t.envelope.comm → renamed to place < renamed to behind))
    → IsTrue r ↔ KeepsSend to lines place s behind
keeps_one to lines place behind s t r below here same = (
  λ is u b there. subst (λ (v : Sent). s.dest ≡ v.dest → s.envelope.comm ≡ v.envelope.comm
      → renamed to place < renamed to behind) (one_sent lines behind t u here there) (same.0 is),
  λ keeps. same.1 (keeps t below here),
)

-- a claim at the place keeps it where the line there does
pub keeps_there : (to : List ℕ) (lines : List Line) (place : ℕ) (line : Line) (r : Bool) → slice_get lines place ≡ Some line
    → (IsTrue r ↔ ((what : Selection) → line.post ≡ Claim what → renamed to place ≡ place))
    → IsTrue r ↔ KeepsClaim to lines place
keeps_there to lines place line r here same = (
  λ is other what there claims.
      same.0 is what (ap (λ (l : Line). l.post) (same_Some line other (sym here ∙ there)) ∙ claims),
  λ keeps. same.1 (λ what claims. keeps line what here claims),
)

module _ (lines : List Line) (place : ℕ) (line : Line) (here : slice_get lines place ≡ Some line) where
  pub unpaired_there : (r : Option Sent) → IfSome r (λ s. line ≡ record { post = Send s; partner = None })
      → IfSome r (λ s. IsUnpaired lines place s)
  unpaired_there None is = is
  unpaired_there (Some s) is = here ∙ ap (λ (l : Line). Some l) is

  pub paired_there : (r : Option Sent)
      → IfNone r ((s : Sent) → ¬ (line ≡ record { post = Send s; partner = None }))
      → IfNone r ((s : Sent) → ¬ IsUnpaired lines place s)
  paired_there None is = λ s there. is s (same_Some _ _ (sym here ∙ there))
  paired_there (Some s) is = is

-- a message at the place
pub body_there : (bodies : List (Option (List ℕ))) (place : ℕ) (other body : Option (List ℕ)) (r : Bool)
    → slice_get bodies place ≡ Some other → (IsTrue r ↔ (other ≡ body))
    → IsTrue r ↔ (slice_get bodies place ≡ Some body)
body_there bodies place other body r here same = (
  λ is. here ∙ ap (λ (b : Option (List ℕ)). Some b) (same.0 is),
  λ there. same.1 (same_Some other body (sym here ∙ there)),
)

pub same_there : (xs ys : List (Option (List ℕ))) (place i n : ℕ) (body : Option (List ℕ)) (r : Bool) → n ≡ i
    → slice_get xs place ≡ Some body → (IsTrue r ↔ (slice_get ys n ≡ Some body))
    → IsTrue r ↔ (slice_get ys i ≡ slice_get xs place)
same_there xs ys place i n body r same here told = (
  λ is. sym (ap (slice_get ys) same) ∙ told.0 is ∙ sym here,
  λ there. told.1 (ap (slice_get ys) same ∙ there ∙ here),
)
