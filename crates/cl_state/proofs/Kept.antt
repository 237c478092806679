-- What a turn does that keeps all phases.
use Rattle.std.proofs.Common.{◌≡◌, ℕ, refl, Bool, true, false, List, Option, Some, None}
use Rattle.mp_types.specs.declared.messages.Envelope.{Envelope}
use Rattle.mp_types.specs.declared.messages.Message.{Message}
use Rattle.mp_types.specs.declared.replies.Reply.{Reply}
use Rattle.mp_types.specs.declared.replies.Reply.TheVariants as reply
use Rattle.mp_request.specs.declared.entries.OpenRequest.{OpenRequest}
use Rattle.mp_request.specs.declared.entries.Partitions.{Partitions}
use Rattle.mp_request.specs.declared.entries.Progress.{Progress}
use Rattle.mp_request.specs.declared.entries.Progress.TheVariants.{Finished, Sent, OnPost, InPhase}
use Rattle.mp_request.specs.declared.entries.Transfer.{Transfer}
use Rattle.mp_request.specs.Table.{lowest_free}
use Rattle.cl_calls.specs.declared.calls.Several.{Several}
use Rattle.cl_calls.specs.declared.sites.Site.{Site}
use Rattle.cl_state.specs.declared.asking.Answer.{Answer}
use Rattle.cl_state.specs.declared.asking.Answer.TheVariants as answer
use Rattle.cl_state.specs.declared.pending.Manner.{Manner}
use Rattle.cl_state.specs.declared.pending.Manner.TheVariants.{Immediate, Blocking, Polling, Posting}
use Rattle.cl_state.specs.declared.pending.Target.{Target}
use Rattle.cl_state.specs.declared.row.Purpose.{Purpose}
use Rattle.cl_state.specs.declared.row.Purpose.TheVariants as purpose
use Rattle.cl_state.specs.declared.row.Row.TheVariants.{OnReply}
use Rattle.cl_state.specs.declared.row.Wanted.{Wanted}
use Rattle.cl_state.specs.declared.row.Wanted.TheVariants as wanted
use Rattle.cl_state.specs.Asked.{Part}
use Rattle.cl_state.specs.Table.{begun_outcome}
use Rattle.cl_state.specs.Told.{arrived, arrived_from, completed_all, done, found, found_at, found_nothing, freed}
use Rattle.cl_state.specs.Told.{gathered_if, not_yet}
use Rattle.cl_state.specs.Told.{opened, opened_at, received, received_from, received_message, replied, told_row}

pub kept_not_yet : (m : Manner) (part : Part) → (not_yet m part).phases ≡ part.phases
kept_not_yet Immediate part = refl
kept_not_yet Blocking part = refl
kept_not_yet Polling part = refl
kept_not_yet Posting part = refl

pub kept_received : (target : Target) (source tag : ℕ) (bytes : List ℕ) (part : Part)
    → (received target source tag bytes part).phases ≡ part.phases
unfolding received
kept_received target source tag bytes part = refl

kept_from : (o : Option ℕ) (target : Target) (message : Message) (part : Part)
    → (received_from o target message part).phases ≡ part.phases
kept_from None target message part = refl
kept_from (Some place) target message part = kept_received target place message.envelope.tag message.bytes part

kept_message : (site : Site) (target : Target) (message : Message) (part : Part)
    → (received_message site target message part).phases ≡ part.phases
unfolding received_message
kept_message site target message part = kept_from _ target message part

kept_opened_at : (o : Option ℕ) (request : OpenRequest) (part : Part)
    → (opened_at o request part).phases ≡ part.phases
kept_opened_at None request part = refl
kept_opened_at (Some handle) request part = refl

pub kept_opened : (request : OpenRequest) (part : Part) → (opened request part).phases ≡ part.phases
kept_opened request part = kept_opened_at (lowest_free part.requests) request part

pub kept_all : (site : Site) (value statuses : ℕ) (handles : List ℕ) (gots : List (Option Message)) (part : Part)
    → (completed_all site value statuses handles gots part).phases ≡ part.phases
unfolding completed_all
kept_all site value statuses handles gots part = refl

pub kept_freed : (handle : ℕ) (part : Part) → (freed handle part).phases ≡ part.phases
unfolding freed
kept_freed handle part = refl

kept_if : (b : Bool) (site : Site) (value statuses : ℕ) (handles : List ℕ) (gots : List (Option Message)) (part : Part)
    → (gathered_if b site value statuses handles gots part).phases ≡ part.phases
kept_if true site value statuses handles gots part = kept_all site value statuses handles gots part
kept_if false site value statuses handles gots part = refl

kept_found_at : (o : Option ℕ) (value status : ℕ) (envelope : Envelope) (part : Part)
    → (found_at o value status envelope part).phases ≡ part.phases
kept_found_at None value status envelope part = refl
kept_found_at (Some place) value status envelope part = refl

kept_found : (site : Site) (value status : ℕ) (envelope : Envelope) (part : Part)
    → (found site value status envelope part).phases ≡ part.phases
unfolding found
kept_found site value status envelope part = kept_found_at _ value status envelope part

pub kept_nothing : (value status : ℕ) (part : Part) → (found_nothing value status part).phases ≡ part.phases
unfolding found_nothing
kept_nothing value status part = refl

kept_arrived_from : (o : Option ℕ) (side : Partitions) (target : Target) (part : Part)
    → (arrived_from o side target part).phases ≡ part.phases
kept_arrived_from None side target part = refl
kept_arrived_from (Some place) side target part = refl

pub kept_arrived : (site : Site) (side : Partitions) (target : Target) (part : Part)
    → (arrived site side target part).phases ≡ part.phases
unfolding arrived
kept_arrived site side target part = kept_arrived_from _ side target part

pub kept_begun : (site : Site) (why : Purpose) (t : Transfer) (p : Progress) (part : Part)
    → (done site (begun_outcome why t p) part).phases ≡ part.phases
kept_begun site purpose.Send t Finished part = refl
kept_begun site purpose.Send t (Sent post) part = refl
kept_begun site purpose.Send t (OnPost post) part = refl
kept_begun site purpose.Send t InPhase part = refl
kept_begun site purpose.Open t p part = kept_opened _ part
kept_begun site (purpose.Start handle) t p part = refl

-- ---- what is wanted of the hub, but a link and a cut

abbrev pub IsPlain : Wanted → Type 0
IsPlain (wanted.SendingLink t) = ⊥
IsPlain (wanted.ReceivingLink t) = ⊥
IsPlain (wanted.Cut m link) = ⊥
IsPlain _ = Unit {0}

kept_posted : (site : Site) (why : Purpose) (t : Transfer) (r : Reply) (part : Part)
    → (replied site (wanted.Post why t) r part).phases ≡ part.phases
kept_posted site why t (reply.Posted post paired) part = kept_begun site why t _ part
kept_posted site why t _ part = refl

kept_comes : (site : Site) (target : Target) (r : Reply) (part : Part)
    → (replied site (wanted.MessageOrPost target) r part).phases ≡ part.phases
kept_comes site target (reply.Got message) part = kept_message site target message part
kept_comes site target _ part = refl

kept_got : (site : Site) (target : Target) (r : Reply) (part : Part)
    → (replied site (wanted.Message target) r part).phases ≡ part.phases
kept_got site target (reply.Got message) part = kept_message site target message part
kept_got site target _ part = refl

kept_word : (site : Site) (target : Target) (r : Reply) (part : Part)
    → (replied site (wanted.Word target) r part).phases ≡ part.phases
kept_word site target reply.Done part = kept_received target _ _ _ part
kept_word site target _ part = refl

kept_sent : (site : Site) (r : Reply) (part : Part) → (replied site wanted.Sent r part).phases ≡ part.phases
kept_sent site reply.Done part = refl
kept_sent site _ part = refl

kept_each : (site : Site) (value : ℕ) (s : Several) (r : Reply) (part : Part)
    → (replied site (wanted.All value s) r part).phases ≡ part.phases
kept_each site value s (reply.AllGot gots) part = kept_if _ site value s.statuses _ gots part
kept_each site value s _ part = refl

kept_seen : (site : Site) (value status : ℕ) (r : Reply) (part : Part)
    → (replied site (wanted.Sight value status) r part).phases ≡ part.phases
kept_seen site value status (reply.Seen envelope) part = kept_found site value status envelope part
kept_seen site value status _ part = refl

kept_held : (site : Site) (status : ℕ) (r : Reply) (part : Part)
    → (replied site (wanted.Claim status) r part).phases ≡ part.phases
kept_held site status (reply.Held message envelope) part = kept_found site message status envelope part
kept_held site status _ part = refl

kept_other : (site : Site) (r : Reply) (part : Part) → (replied site wanted.Nothing r part).phases ≡ part.phases
kept_other site _ part = refl

kept_replied : (site : Site) (w : Wanted) (r : Reply) (part : Part) → IsPlain w
    → (replied site w r part).phases ≡ part.phases
kept_replied site (wanted.Post why t) r part plain = kept_posted site why t r part
kept_replied site (wanted.MessageOrPost target) r part plain = kept_comes site target r part
kept_replied site (wanted.Message target) r part plain = kept_got site target r part
kept_replied site (wanted.Word target) r part plain = kept_word site target r part
kept_replied site wanted.Sent r part plain = kept_sent site r part
kept_replied site (wanted.All value s) r part plain = kept_each site value s r part
kept_replied site (wanted.Sight value status) r part plain = kept_seen site value status r part
kept_replied site (wanted.Claim status) r part plain = kept_held site status r part
kept_replied site (wanted.SendingLink t) r part plain = absurd plain
kept_replied site (wanted.ReceivingLink t) r part plain = absurd plain
kept_replied site (wanted.Cut m link) r part plain = absurd plain
kept_replied site wanted.Nothing r part plain = kept_other site r part

pub kept_told : (site : Site) (m : Manner) (w : Wanted) (a : Answer) (part : Part) → IsPlain w
    → (told_row site (OnReply m w) a part).phases ≡ part.phases
kept_told site m w (answer.Reply reply.NotYet) part plain = kept_not_yet m part
kept_told site m w (answer.Reply (reply.Code c)) part plain = refl
kept_told site m w (answer.Reply (reply.Posted post paired)) part plain = kept_replied site w _ part plain
kept_told site m w (answer.Reply (reply.Got message)) part plain = kept_replied site w _ part plain
kept_told site m w (answer.Reply reply.Done) part plain = kept_replied site w _ part plain
kept_told site m w (answer.Reply (reply.Seen envelope)) part plain = kept_replied site w _ part plain
kept_told site m w (answer.Reply (reply.Held message envelope)) part plain = kept_replied site w _ part plain
kept_told site m w (answer.Reply (reply.AllGot gots)) part plain = kept_replied site w _ part plain
kept_told site m w (answer.Reply (reply.Link link)) part plain = kept_replied site w _ part plain
kept_told site m w (answer.Reply (reply.Cut boxes bytes)) part plain = kept_replied site w _ part plain
kept_told site m w answer.Alone part plain = refl
kept_told site m w (answer.Taken bytes) part plain = refl
kept_told site m w answer.Missed part plain = refl
kept_told site m w answer.Freed part plain = refl
