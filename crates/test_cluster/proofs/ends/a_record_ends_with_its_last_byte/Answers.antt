use Rattle.std.specs.Prelude.{◌≡◌, Result, Ok, Err, IfOk, Some, length}
use Rattle.std.proofs.Common.{sym, ap, ◌∙◌}
use Rattle.cl_text.specs.Front.End.{record_end}
use Rattle.test_cluster.proofs.ends.a_record_ends_with_its_last_byte.Goals as goal

of_ok : {T E : Type 0} (r : Result T E) (P Q : T → Type 0) → ((x : T) → P x → Q x) → IfOk r P → IfOk r Q
of_ok (Ok x) P Q f h = f x h
of_ok (Err e) P Q f h = tt

pub returns : goal.returns
returns c = λ spelled more read is reads.
    let bytes = c.args.bytes.now in
    of_ok c.look.result (λ end. record_end bytes ≡ end) (λ end. end ≡ Some (length spelled))
    (λ end found. sym found ∙ ap record_end is ∙ c.end_law.ensures.whole spelled more read reads) c.look.ensures.end
