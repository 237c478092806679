-- Messages that are counted one after another.
use Rattle.std.specs.Prelude.{ℕ, ◌+◌, ◌≡◌, ◌==◌, Bool, true, false, cond, List, [], ◌∷◌, ◌++◌, ◌<◌, get_or, length, replicate, take}
use Rattle.std.specs.Prelude.{map, Option, Some, None, option_to_list}
use Rattle.std.specs.List.{filter_map}
use Rattle.std.proofs.Common.{refl, sym, ap, ◌∙◌, subst, append_assoc, append-nil}
use Rattle.std.proofs.lemmas.List.{map-append, take_more}
use Rattle.std.proofs.lemmas.List.Elements.{filter_map-append}
use Rattle.mp_types.specs.declared.messages.Message.{Message}
use Rattle.rvmc_stats.proofs.Tallying.{grid_more, grid_none}
use Rattle.rvmc_stats.specs.Counts.{IsGrid}
use Rattle.rvmc_stats.specs.MoreAt.{added_in}
use Rattle.rvmc_stats.proofs.Counters.{both, count_more, sum_more}
use Rattle.rvmc_stats.specs.Counted.{Received, bytes_between, is_from_to, messages_of, received_by, size_in_bytes}
use Rattle.rvmc_stats.specs.Tables.{AreOfMail}
use Rattle.rvmc_stats.specs.Adding.{AddsMail}
use Rattle.rvmc_stats.specs.declared.mail.Mail.{Mail}

-- none
pub no_mail : (ranks : ℕ) (mail : Mail) → mail.messages ≡ replicate ranks (replicate ranks 0)
    → mail.bytes ≡ replicate ranks (replicate ranks 0) → AreOfMail ranks [] mail
no_mail ranks mail messages bytes = record {
  messages = subst (λ cells. IsGrid ranks ranks (λ a b. 0) cells) (sym messages) (grid_none ranks ranks);
  bytes = subst (λ cells. IsGrid ranks ranks (λ a b. 0) cells) (sym bytes) (grid_none ranks ranks);
}

-- one more
pub one_more : (old new : Mail) (to : ℕ) (m : Message)
    → new.messages ≡ added_in old.messages m.envelope.source to 1
    → new.bytes ≡ added_in old.bytes m.envelope.source to (length m.bytes)
    → AddsMail old (received_by to (m ∷ [])) new
one_more old new to m messages bytes = record {
  adds = λ ranks all is. record {
    messages = subst (λ cells. IsGrid ranks ranks (messages_of (all ++ r ∷ [])) cells) (sym messages)
        (grid_more ranks ranks (messages_of all) (messages_of (all ++ r ∷ [])) old.messages from to 1 is.messages
        (λ a b within below. count_more (is_from_to a b) all r
        ∙ ap (λ n. messages_of all a b + n) (both (a == from) (b == to) 1)));
    bytes = subst (λ cells. IsGrid ranks ranks (bytes_between (all ++ r ∷ [])) cells) (sym bytes)
        (grid_more ranks ranks (bytes_between all) (bytes_between (all ++ r ∷ [])) old.bytes from to (length m.bytes) is.bytes
        (λ a b within below. sum_more size_in_bytes (is_from_to a b) all r
        ∙ ap (λ n. bytes_between all a b + n) (both (a == from) (b == to) (length m.bytes))));
  };
}
  where
    r : Received
    r = record { to = to; message = m }

    from : ℕ
    from = m.envelope.source

-- no more
pub none_more : (mail : Mail) → AddsMail mail [] mail
none_more mail = record { adds = λ ranks all is. subst (λ ms. AreOfMail ranks ms mail) (sym (append-nil all)) is }

-- some, and then others
pub then_more : (old between new : Mail) (first more : List Received) → AddsMail old first between
    → AddsMail between more new → AddsMail old (first ++ more) new
then_more old between new first more a b = record {
  adds = λ ranks all is. subst (λ ms. AreOfMail ranks ms new) (append_assoc all first more)
      (b.adds ranks (all ++ first) (a.adds ranks all is));
}

-- one of several
got_more : (gots : List (Option Message)) (i : ℕ) (got : Option Message) → i < length gots → got ≡ get_or gots i got
    → filter_map (λ g. g) (take (i + 1) gots) ≡ filter_map (λ g. g) (take i gots) ++ option_to_list got
got_more gots i got below is =
    ap (λ gs. filter_map (λ g. g) gs) (take_more gots i got below)
    ∙ filter_map-append (λ g. g) (take i gots) (get_or gots i got ∷ [])
    ∙ ap (λ g. filter_map (λ g. g) (take i gots) ++ filter_map (λ g. g) (g ∷ [])) (sym is)
    ∙ ap (λ gs. filter_map (λ g. g) (take i gots) ++ gs) (one got)
  where
    one : (g : Option Message) → filter_map (λ g. g) (g ∷ []) ≡ option_to_list g
    one None = refl
    one (Some m) = refl

pub more_got : (old between new : Mail) (to : ℕ) (gots : List (Option Message)) (i : ℕ) (got : Option Message)
    → i < length gots → got ≡ get_or gots i got
    → AddsMail old (received_by to (filter_map (λ g. g) (take i gots))) between
    → AddsMail between (received_by to (option_to_list got)) new
    → AddsMail old (received_by to (filter_map (λ g. g) (take (i + 1) gots))) new
more_got old between new to gots i got below is first more =
    let so_far : List Message = filter_map (λ g. g) (take i gots) in
    let same : received_by to (filter_map (λ g. g) (take (i + 1) gots))
    ≡ received_by to so_far ++ received_by to (option_to_list got) =
    ap (λ ms. received_by to ms) (got_more gots i got below is)
    ∙ map-append (λ (m : Message). record { to = to; message = m }) so_far (option_to_list got)
    in
    subst (λ ms. AddsMail old ms new) (sym same)
    (then_more old between new (received_by to so_far) (received_by to (option_to_list got)) first more)
