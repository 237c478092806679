-- What the first of several requests is given, and what those behind it are.
use Rattle.std.proofs.Common.{◌≡◌, ◌∷◌, ◌∙◌, ℕ, List, Option, ap, sym}
use Rattle.mp_types.specs.declared.messages.Message.{Message}
use Rattle.mp_request.specs.Table.{Table, request_at}
use Rattle.cl_calls.specs.declared.sites.Site.{Site}
use Rattle.cl_state.specs.declared.pending.Pending.{Pending}
use Rattle.cl_state.specs.Pending.{pending_of}
use Rattle.cl_state.specs.Several.{given, given_one, got_for_post, left_of, pendings, post_of}

pub given_next : (site : Site) (table : Table) (handles : List ℕ) (handle : ℕ) (rest : List ℕ) (p : Pending)
    (gots behind : List (Option Message)) → handles ≡ handle ∷ rest → p ≡ pending_of (request_at table handle)
    → behind ≡ left_of (post_of p) gots
    → given site (pendings table handles) gots
    ≡ given_one site p (got_for_post (post_of p) gots) ∷ given site (pendings table rest) behind
given_next site table handles handle rest p gots behind is of left =
    ap (λ hs. given site (pendings table hs) gots) is
    ∙ ap (λ x. given site (x ∷ pendings table rest) gots) (sym of)
    ∙ ap (λ gs. given_one site p (got_for_post (post_of p) gots) ∷ given site (pendings table rest) gs) (sym left)
