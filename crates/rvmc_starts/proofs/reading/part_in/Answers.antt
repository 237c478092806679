use Rattle.std.proofs.Common.{rules, ◌≡◌, ◌++◌, ◌∙◌, sym, ap, length, drop, true≢false}
use Rattle.std.proofs.lemmas.Bool.Decides.{Decides-eqb}
use Rattle.std.proofs.lemmas.Slice.Eq.{starts_is}
use Rattle.rvmc_starts.specs.Parts.{part_text}
use Rattle.rvmc_starts.proofs.ReadBack.{none_is, none_text, none_told}
use Rattle.rvmc_starts.proofs.reading.part_in.Goals as goal

pub returns-in_default : goal.returns-in_default
returns-in_default c = none_told c.args.bytes.now (sym c.in_ok-part.ensures ∙ c.in_default.is)

pub returns-then-not-is_part : goal.returns-then-not-is_part
returns-then-not-is_part c =
    none_is c.args.bytes.now c.in-Some.part (sym c.in_ok-part.ensures ∙ c.in-Some.is) (search rules)

pub returns-then-not-starts_with : goal.returns-then-not-starts_with
returns-then-not-starts_with c =
    let bytes = c.args.bytes.now in
    let text : c.deref.result.now ≡ part_text c.in-Some.part = c.deref.ensures.value ∙ (c.in_ok-put_part.ensures ∙ ap (λ old. old ++ part_text c.in-Some.part) c.new-text.ensures.items) in
    none_text bytes c.in-Some.part (sym c.in_ok-part.ensures ∙ c.in-Some.is)
    (λ more e. true≢false (sym ((starts_is Decides-eqb bytes c.deref.result.now c.starts_with.result c.starts_with.ensures.value).1 more (e ∙ ap (λ t. t ++ more) (sym text)))
    ∙ c.if-not-starts_with.true))

pub returns : goal.returns
returns c =
    let bytes = c.args.bytes.now in
    let text : c.deref.result.now ≡ part_text c.in-Some.part = c.deref.ensures.value ∙ (c.in_ok-put_part.ensures ∙ ap (λ old. old ++ part_text c.in-Some.part) c.new-text.ensures.items) in
    let is : bytes ≡ c.deref.result.now ++ drop (length c.deref.result.now) bytes =
    (starts_is Decides-eqb bytes c.deref.result.now c.starts_with.result c.starts_with.ensures.value).0 (search rules) in
    let long : c.len-length.result ≡ length c.deref.result.now = search rules in
    record {
      is = search rules;
      text = is ∙ (ap (λ t. t ++ drop (length c.deref.result.now) bytes) text ∙ ap (λ n. part_text c.in-Some.part ++ drop n bytes) (sym long));
      length_is = long ∙ ap length text;
    }
