-- A WAITALL that has to wait once all has arrived, with and without synchronous sends that are complete.
use Rattle.std.proofs.Common.{◌≡◌, ◌∙◌, ℕ, Bool, refl, sym, ap, List, [], ◌∷◌}
use Rattle.mp_types.specs.declared.replies.Reply.{Reply}
use Rattle.mp_types.specs.declared.replies.Reply.TheVariants as reply
use Rattle.mp_types.specs.declared.requests.Request.TheVariants as request
use Rattle.mp_hub.specs.Hub.{HubView, all_outcome, outcome}
use Rattle.cl_calls.specs.Handles.{handles_in}
use Rattle.cl_calls.specs.Needs.{array_at}
use Rattle.cl_state.specs.declared.asking.Ask.{Ask}
use Rattle.cl_state.specs.declared.pending.Pending.{Pending}
use Rattle.cl_state.specs.Asked.{asked, asked_in, doing, part_of}
use Rattle.cl_state.specs.Rank.{Rank}
use Rattle.cl_state.specs.Several.{asked_all, pendings, posts_pending}
use Rattle.cl_way_laws.specs.Met.{is_met, met, met_table}
use Rattle.cl_way_laws.proofs.Distinct.{apart_met, waitall_distinct}
use Rattle.cl_way_laws.proofs.MetAsks.{doing_met, met_part}
use Rattle.cl_way_laws.proofs.MetGot.{GetsAs, gets_all, gets_as, has_to_wait, is_refused}
use Rattle.cl_way_laws.proofs.MetNeeds.{Gathers, less}
use Rattle.cl_way_laws.proofs.Named.{NamesApart}

module _ (full : HubView) (x : Rank) (hart : ℕ) where
  abbrev d : ℕ → Bool
  d = is_met full.board.lines x.site.number

  module _ (g : Gathers d x.memory x.requests (doing x.site (part_of x hart))) (apart : NamesApart x.requests) where
    abbrev ps : List Pending
    ps = pendings x.requests (handles_in x.memory (array_at (g.s).array (g.s).count))

    abbrev qs : List Pending
    qs = pendings (met_table d x.requests) (handles_in x.memory (array_at (g.s).array (g.s).count))

    gets : GetsAs full x.site.number x.site ps qs
    gets =
        gets_as full x.site.number x.site ps qs (less d x.requests (handles_in x.memory (array_at (g.s).array (g.s).count)))
        (waitall_distinct x.site (part_of x hart) g.s g.is apart)
        (waitall_distinct x.site (met_part d (part_of x hart)) g.s (doing_met d x.site (part_of x hart) ∙ g.is)
        (apart_met d x.requests apart))

    asks_then : asked (met full.board.lines x) hart ≡ asked_all (posts_pending qs)
    unfolding asked
    asks_then =
        ap (asked_in x.site x.memory (met_table d x.requests) x.phases) (doing_met d x.site (part_of x hart) ∙ g.is)

    -- the posts that it asks for once sends are complete, which aren't all there
    pub gathers_then : (r : ℕ) → x.site.number ≡ r
        → (outcome full r (request.All (g.post ∷ g.posts))).0 ≡ reply.NotYet
        → (ns : List ℕ) × (asked (met full.board.lines x) hart ≡ Ask.Hub (request.All ns))
        × ((outcome full r (request.All ns)).0 ≡ reply.NotYet)
    gathers_then r number none = go gets
      where
        first : (all_outcome full x.site.number (posts_pending ps)).0 ≡ reply.NotYet
        first =
            ap (λ ns. (all_outcome full x.site.number ns).0) g.names
            ∙ ap (λ n. (all_outcome full n (g.post ∷ g.posts)).0) number ∙ none

        go : GetsAs full x.site.number x.site ps qs
            → (ns : List ℕ) × (asked (met full.board.lines x) hart ≡ Ask.Hub (request.All ns))
            × ((outcome full r (request.All ns)).0 ≡ reply.NotYet)
        go (is_refused one two) = (let e = sym (ap (λ (o : Reply × HubView). o.0) one) ∙ first in absurd (cc))
        go (gets_all one two) = (let e = sym (ap (λ (o : Reply × HubView). o.0) one) ∙ first in absurd (cc))
        go (has_to_wait one two) = by (posts_pending qs) refl
          where
            waits : (all_outcome full r (posts_pending qs)).0 ≡ reply.NotYet
            waits =
                ap (λ n. (all_outcome full n (posts_pending qs)).0) (sym number)
                ∙ ap (λ (o : Reply × HubView). o.0) two

            by : (l : List ℕ) → posts_pending qs ≡ l
                → (ns : List ℕ) × (asked (met full.board.lines x) hart ≡ Ask.Hub (request.All ns))
                × ((outcome full r (request.All ns)).0 ≡ reply.NotYet)
            by [] e = (let f = ap (λ l. (all_outcome full r l).0) (sym e) ∙ waits in absurd (cc))
            by (n ∷ ns) e =
                (n ∷ ns, asks_then ∙ ap asked_all e, ap (λ l. (all_outcome full r l).0) (sym e) ∙ waits)
