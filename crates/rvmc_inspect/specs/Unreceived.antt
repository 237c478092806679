-- Messages that were sent, and that no receive and no claim has.
use Rattle.std.specs.Prelude.{ℕ, zero, suc, ◌==◌, ◌&&◌, if◌then◌else◌, Bool, List, [], ◌∷◌, ◌++◌, codes, length, Option}
use Rattle.std.specs.Prelude.{Some, None}
use Rattle.std.specs.Fmt.{decimal}
use Rattle.std.specs.List.{count_by, filter, flat_map, range_with_len}
use Rattle.mp_match.specs.declared.posts.Line.{Line}
use Rattle.mp_match.specs.declared.posts.Post.{Post}
use Rattle.mp_match.specs.declared.posts.Post.TheVariants.{Send, Receive, Claim}
use Rattle.mp_match.specs.declared.posts.Sent.{Sent}
use Rattle.mp_match.specs.Free.{free_in}
use Rattle.rvmc_report.specs.Report.{newline}

-- ---- which they are

abbrev pub sent_in : Option Post → List Sent
sent_in None = []
sent_in (Some (Send s)) = s ∷ []
sent_in (Some (Receive a)) = []
sent_in (Some (Claim a)) = []

-- the sends without a partner, in their order
abbrev pub unreceived : List Line → List Sent
unreceived lines = flat_map (λ line. sent_in (free_in (Some line))) lines

-- those to a rank
abbrev pub sent_to : ℕ → List Sent → List Sent
sent_to rank sends = filter (λ (s : Sent). s.dest == rank) sends

-- and of these how many are from a rank and with a tag
abbrev pub is_of : ℕ → ℕ → Sent → Bool
is_of source tag s = (s.envelope.source == source) && (s.envelope.tag == tag)

abbrev pub count_of_sends : ℕ → ℕ → List Sent → ℕ
count_of_sends source tag sends = count_by (is_of source tag) sends

-- ---- their text

-- behind a count: `1 message`, `2 messages`
abbrev pub message_word : ℕ → List ℕ
message_word count = if count == 1 then codes "message" else codes "messages"

-- `rank R unreceived: N messages`
abbrev pub unreceived_head : ℕ → ℕ → List ℕ
unreceived_head rank count =
    codes "rank "
    ++ (decimal rank
    ++ (codes " unreceived: " ++ (decimal count ++ (codes " " ++ (message_word count ++ newline)))))

-- `  from rank S tag T: N`, where there are any
abbrev pub number_line : ℕ → ℕ → ℕ → List ℕ
number_line source tag zero = []
number_line source tag (suc n) =
    codes "  from rank "
    ++ (decimal source ++ (codes " tag " ++ (decimal tag ++ (codes ": " ++ (decimal (suc n) ++ newline)))))

-- a tag has two bytes
unfoldable pub tag_count : ℕ
tag_count = 65536

-- the lines of a sender, in the order of the tags
abbrev pub sender_lines : ℕ → List Sent → ℕ → List ℕ
sender_lines tags sends source =
    flat_map (λ tag. number_line source tag (count_of_sends source tag sends)) (range_with_len 0 tags)

-- how many messages there are to a rank, if any, and their numbers by so many senders in order
unfoldable pub messages_text : ℕ → ℕ → ℕ → List Sent → List ℕ
messages_text tags senders rank sends =
    if length sends == 0 then [] else
    (unreceived_head rank (length sends) ++ flat_map (sender_lines tags sends) (range_with_len 0 senders))

-- of these many ranks in order
abbrev pub unreceived_text : ℕ → List Line → List ℕ
unreceived_text ranks lines =
    flat_map (λ rank. messages_text tag_count ranks rank (sent_to rank (unreceived lines))) (range_with_len 0 ranks)
