-- The line of a step that does an instruction is put.
use Rattle.std.specs.Prelude.{ℕ, ◌≡◌, ◌&&◌, Bool, true, false, cond, List, [], ◌∷◌, ◌++◌, slice_get, Option, Some, None}
use Rattle.std.proofs.Common.{refl, sym, ap, ◌∙◌, append_assoc}
use Rattle.std.proofs.lemmas.Option.{same_Some}
use Rattle.rv_hart.specs.State.{State}
use Rattle.rv_image_types.specs.declared.images.Symbol.{Symbol}
use Rattle.cl_machine.specs.declared.steps.Step.{Step}
use Rattle.cl_replay.specs.declared.states.ClusterState.{ClusterState}
use Rattle.cl_state.specs.Room.{rank_of}
use Rattle.cl_state.specs.declared.state.RankState.{RankState}
use Rattle.cl_trace.specs.declared.events.Kind.{Kind}
use Rattle.rvmc_sights.specs.Ahead.{rest_text}
use Rattle.rvmc_sights.specs.Lines.{hart_of, sight_of}
use Rattle.rvmc_sights.specs.declared.ahead.Ahead.{Ahead}
use Rattle.rvmc_list.specs.Fronts.{PutsPlain, ahead_in, front_of}
use Rattle.rvmc_list.specs.Folding.{is_plain, is_vain, is_wanted}
use Rattle.rvmc_list.specs.Phases.{Scene, scene_text}
use Rattle.rvmc_list.specs.Pieces.{closing, is_folded, opened, piece}
use Rattle.rvmc_list.specs.Putting.{IsHartAfter, IsOverflowAfter, Puts, PutsPlainLine}
use Rattle.rvmc_list.specs.declared.folding.Wanted.{Wanted}
use Rattle.rvmc_list.proofs.LineParts.{plain_is}

-- what was put before a step and behind it is its sight
pub plain_put : (symbols : List Symbol) (old new : ClusterState) (place : ℕ) (e : Step) (own : RankState)
    (ahead : Option Ahead) (after : State) (overflow : Bool) (text front whole : List ℕ) → is_plain e.kind ≡ true
    → slice_get old.ranks.items e.rank ≡ Some own → front ≡ text ++ front_of symbols place e (rank_of own)
    → ahead ≡ ahead_in e (rank_of own) → IsHartAfter new e (Some after) → IsOverflowAfter new e overflow
    → whole ≡ front ++ rest_text ahead after overflow after.mode → PutsPlain symbols old place e new text whole
plain_put symbols old new place e own ahead after overflow text front whole plain there front_is ahead_is after_is over_is whole_is s t s_there t_there s_hart t_hart =
    let own_is = same_Some own s (sym there ∙ s_there) in
    let hart_is = same_Some after (hart_of e (rank_of t)) (after_is t t_there t_hart) in
    let sight = sight_of place e (rank_of s) (rank_of t) in
    let rest = rest_text (ahead_in e (rank_of s)) sight.after sight.overflow sight.after.mode in
    whole_is
    ∙ ap (λ (h : State). front ++ rest_text ahead h overflow h.mode) hart_is
    ∙ ap (λ (b : Bool). front ++ rest_text ahead sight.after b sight.after.mode) (over_is t t_there t_hart)
    ∙ ap (λ (a : Option Ahead). front ++ rest_text a sight.after sight.overflow sight.after.mode)
    (ahead_is ∙ ap (λ (r : RankState). ahead_in e (rank_of r)) own_is)
    ∙ ap (λ (f : List ℕ). f ++ rest) (front_is ∙ ap (λ (r : RankState). text ++ front_of symbols place e (rank_of r)) own_is)
    ∙ append_assoc text (front_of symbols place e (rank_of s)) rest
    ∙ ap (λ (x : List ℕ). text ++ x) (plain_is symbols sight plain)

-- its line is that, its phase and an end
pub line_is : (text begun sight phase end : List ℕ)
    → ((text ++ begun) ++ sight) ++ (phase ++ end) ≡ text ++ (begun ++ ((sight ++ phase) ++ end))
line_is text begun sight phase end = simp append_assoc

-- such a step isn't folded
not_vain : (kind : Kind) → is_plain kind ≡ true → is_vain kind ≡ false
not_vain Kind.Plain plain = refl
not_vain Kind.Local plain = absurd (cc)
not_vain (Kind.Hub r) plain = absurd (cc)
not_vain Kind.Ready plain = absurd (cc)
not_vain Kind.Take plain = absurd (cc)
not_vain Kind.Miss plain = absurd (cc)
not_vain Kind.Freed plain = absurd (cc)
not_vain Kind.Held plain = absurd (cc)
not_vain Kind.Idle plain = absurd (cc)

and_false : (b : Bool) → b && false ≡ false
and_false true = refl
and_false false = refl

not_folded : (wanted : Wanted) (e : Step) → is_plain e.kind ≡ true → is_folded wanted e ≡ false
not_folded wanted e plain = ap (λ (v : Bool). wanted.calls && v) (not_vain e.kind plain) ∙ and_false wanted.calls

whole_piece : (begun : Option ℕ) (text : List ℕ) → piece begun false text ≡ closing begun ++ (text ++ 10 ∷ [])
whole_piece None text = refl
whole_piece (Some more) text = refl

none_open : (begun : Option ℕ) → opened begun false ≡ None
none_open None = refl
none_open (Some more) = refl

pub plain_line_put : (symbols : List Symbol) (wanted : Wanted) (old : ClusterState) (place : ℕ) (phase : Option ℕ) (e : Step)
    (new : ClusterState) (text : List ℕ) (begun : Option ℕ) (after : List ℕ)
    → PutsPlainLine symbols old place phase e new begun text after → is_wanted wanted e ≡ true → is_plain e.kind ≡ true
    → Puts symbols wanted old place phase e new text begun after None
plain_line_put symbols wanted old place phase e new text begun after puts told plain s t s_there t_there s_hart t_hart =
    let scene : Scene = record { sight = sight_of place e (rank_of s) (rank_of t); phase = phase } in
    let whole = scene_text symbols scene in
    record {
      text = puts s t s_there t_there s_hart t_hart
          ∙ ap (λ (x : List ℕ). text ++ x)
          (sym (whole_piece begun whole)
          ∙ ap (λ (folded : Bool). piece begun folded whole) (sym (not_folded wanted e plain))
          ∙ ap (λ (b : Bool). cond b (piece begun (is_folded wanted e) whole) []) (sym told));
      open_is = sym (none_open begun) ∙ ap (λ (folded : Bool). opened begun folded) (sym (not_folded wanted e plain))
          ∙ ap (λ (b : Bool). cond b (opened begun (is_folded wanted e)) begun) (sym told);
    }
