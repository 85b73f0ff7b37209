-- The samples of document 01 that are marked P, its night sheet, the longest listing, a dialogue of the end, the longest reply and sheet, and
-- components in words, as one table. `Each samples` is the one statement about them.
use Rattle.std.specs.Prelude.{ℕ, ◌+◌, ◌/◌, ◌%◌, ◌≡◌, true, List, [], ◌∷◌, ◌++◌, ℤ, pos, negsuc, length, replicate, Option, Some}
use Rattle.laws.specs.Got.{Got, got, wrong}
use Rattle.laws.specs.Places.{gathered}
use Rattle.laws.specs.Mark.{known, doubt, mark_no}
use Rattle.refusals.specs.Refusal.{Told, refuses, tells, output_least}
use Rattle.values.specs.Ident.{ident_at, ident_octets}
use Rattle.groups.specs.Groups.{groups_at, groups}
use Rattle.codes.specs.Codes.{activation, interrogation}
use Rattle.numbers.specs.Number.{unknown, number_of}
use Rattle.numbers.specs.Address.{sub_of, forwarded_of}
use Rattle.profile.specs.Access.{access_read}
use Rattle.lists.specs.Entries.{instances_most, entries_from}
use Rattle.lists.specs.declared.entry.Entry.{Entry}
use Rattle.answers.specs.Answer.{answer_octets}
use Rattle.answers.specs.Reply.{reply}
use Rattle.answers.specs.declared.reply.Reply.{Reply}
use Rattle.answers.specs.declared.reply.Reply.TheVariants as reply
use Rattle.instances.specs.Instance.{instance_of}
use Rattle.instances.specs.declared.instance.Instance.{Instance}
use Rattle.instances.specs.Run.{packed}
use Rattle.exchange.specs.Table.{table_of, fresh_table, table_good}
use Rattle.exchange.specs.Arrive.{done}
use Rattle.exchange.specs.declared.table.Table.{Table}
use Rattle.forms.specs.Form.{form1}
use Rattle.forms.specs.Size.{sheet_most}
use Rattle.listings.specs.Listing.{listing_most, listed_sheet, printed_sheet}
use Rattle.explanations.specs.Text.{chars}
use Rattle.explanations.specs.Explained.{explained}
use Rattle.sheets.specs.Sheets.{wrote_sheet}
use Rattle.calls.specs.Divert.{Course, passes, diverts, comes}
use Rattle.requests.specs.Heard.{local, heard}
use Rattle.requests.specs.Request.{all_numbers, no_forwarded, no_request, request_of, argument_at}
use Rattle.requests.specs.Sent.{request_octets}
use Rattle.answers.specs.declared.answer.Answer.{Answer}
use Rattle.answers.specs.declared.answer.Answer.TheVariants as answer
use Rattle.answers.specs.declared.answer.Problem.TheVariants as problem
use Rattle.answers.specs.declared.answer.Whose.TheVariants as whose
use Rattle.requests.specs.declared.heard.Heard.{Heard}
use Rattle.requests.specs.declared.heard.Heard.TheVariants as heard
use Rattle.requests.specs.declared.request.Request.{Request}
use Rattle.end.specs.End.{fresh_end}
use Rattle.end.specs.Sending as sending
use Rattle.end.specs.Taking.{takes}
use Rattle.end.specs.Shown.{Seen, seen_known, shown}
use Rattle.end.specs.declared.end.End.{End}
use Rattle.promise.specs.Longest.{wide_access, full_table, last_interrogation}

pub data Sample : Type 0 where
  reads_identifier : List ℕ → Got ℤ → Sample
  writes_identifier : ℤ → List ℕ → Sample
  reads_groups : List ℕ → Got (Option ℕ) → Sample
  writes_groups : ℕ → List ℕ → Sample
  hears_component : List ℕ → Heard → Sample
  reads_request : (operation : ℕ) → List ℕ → (at : ℕ) → Request → Sample
  writes_request : (identifier : ℤ) (operation : ℕ) → Request → List ℕ → Sample
  answers : Answer → List Entry → List ℕ → Sample
  told : (identifier : ℤ) (operation : ℕ) → List ℕ → Reply → Sample
  lists_entries : List ℕ → (at end : ℕ) → List Entry → Sample
  arrives : (access : List ℕ) → Table → List ℕ → (reply : List ℕ) → (next : Table) → Sample
  diverts_to : (access : List ℕ) → Table → (call : List ℕ) → Told Course → (counter option : ℕ) → Sample
  writes_sheet : (access : List ℕ) → Table → (sheet : List ℕ) → Sample
  prints_sheet : (sheet text : List ℕ) → Sample
  fills_listing : (sheet : List ℕ) → Sample
  fills_reply : (access : List ℕ) → Table → List ℕ → Sample
  fills_sheet : (access : List ℕ) → Table → Sample
  end_sends : (access : List ℕ) (operation : ℕ) → Request → End → List ℕ → (next : End) → Sample
  end_takes : (access : List ℕ) → End → List ℕ → (next : End) → Sample
  end_shows : (access : List ℕ) → End → (procedure : ℕ) → Told Seen → Sample
  explains : (component text : List ℕ) → Sample

-- what a sample says: octets are read from the first to the end, and output that is lent is the least there may be
abbrev pub Says : Sample → Type 0
Says (reads_identifier s r) = ident_at 1 s 0 (length s) ≡ r
Says (writes_identifier z s) = ident_octets z ≡ s
Says (reads_groups s r) = groups_at s 0 (length s) ≡ r
Says (writes_groups n s) = groups n ≡ s
Says (hears_component s r) = heard s ≡ r
Says (reads_request operation s at r) = argument_at (local (pos operation)) s at (length s) ≡ got r (length s)
Says (writes_request identifier operation r s) = request_octets identifier operation r ≡ s
Says (answers a es s) = answer_octets a es ≡ s
Says (told identifier operation s r) = reply identifier operation s ≡ r
Says (lists_entries s at end es) = entries_from instances_most s at end ≡ got es end
Says (arrives access t s reply next) =
    ((done access t s output_least).octets ≡ reply) × ((done access t s output_least).table ≡ next)
Says (diverts_to access t s is counter option) =
    ((comes access t s).told ≡ is) × ((comes access t s).call.counter ≡ counter) × ((comes access t s).call.option ≡ option)
Says (writes_sheet access t s) = (wrote_sheet access t (sheet_most form1)).octets ≡ s
Says (prints_sheet s text) = printed_sheet s (listing_most form1) ≡ text
Says (fills_listing s) = length (listed_sheet s (listing_most form1)).octets ≡ listing_most form1
Says (fills_reply access t s) =
    (table_good instances_most (access_read access).profile t ≡ true) × (length (done access t s output_least).octets ≡ output_least)
Says (fills_sheet access t) = length (wrote_sheet access t (sheet_most form1)).octets ≡ sheet_most form1
Says (end_sends access operation r e s next) =
    ((sending.sends access operation r e output_least).octets ≡ s) × ((sending.sends access operation r e output_least).end ≡ next)
Says (end_takes access e s next) = (takes access e s).end ≡ next
Says (end_shows access e procedure is) = shown access e procedure ≡ is
Says (explains s text) = explained s ≡ text

abbrev pub Each : List Sample → Type 0
Each [] = Unit {0}
Each (x ∷ xs) = Says x × Each xs

-- "interrogation of cfb", and "cfb, speech, 24680, all numbers"
abbrev pub interrogation_octets : List ℕ
interrogation_octets =
    0xA1 ∷ 0x10 ∷ 0x02 ∷ 0x01 ∷ 0x01 ∷ 0x02 ∷ 0x01 ∷ 0x0B ∷ 0x30 ∷ 0x08 ∷ 0x0A ∷ 0x01 ∷ 0x01 ∷ 0x0A ∷ 0x01 ∷ 0x00 ∷ 0x05 ∷ 0x00 ∷ []

abbrev pub activation_octets : List ℕ
activation_octets =
    0xA1 ∷ 0x19 ∷ 0x02 ∷ 0x01 ∷ 0x02 ∷ 0x02 ∷ 0x01 ∷ 0x07 ∷ 0x30 ∷ 0x11 ∷ 0x0A ∷ 0x01 ∷ 0x01 ∷ 0x0A ∷ 0x01 ∷ 0x01 ∷ 0x30 ∷ 0x07 ∷ 0x80 ∷ 0x05 ∷ 0x32 ∷ 0x34 ∷ 0x36 ∷ 0x38 ∷ 0x30 ∷ 0x05 ∷ 0x00 ∷ []

-- "fresh reply"
abbrev pub fresh_octets : List ℕ
fresh_octets =
    0xA2 ∷ 0x0A ∷ 0x02 ∷ 0x01 ∷ 0x01 ∷ 0x30 ∷ 0x05 ∷ 0x02 ∷ 0x01 ∷ 0x0B ∷ 0x31 ∷ 0x00 ∷ []

-- "reply `A2 03 02 01 02`", and "the latter again"
abbrev pub activated_octets : List ℕ
activated_octets = 0xA2 ∷ 0x03 ∷ 0x02 ∷ 0x01 ∷ 0x02 ∷ []

abbrev pub duplicate_octets : List ℕ
duplicate_octets = 0xA4 ∷ 0x06 ∷ 0x02 ∷ 0x01 ∷ 0x02 ∷ 0x81 ∷ 0x01 ∷ 0x00 ∷ []

abbrev pub interrogation_of_cfb : Request
interrogation_of_cfb = request_of 1 0 no_forwarded all_numbers

abbrev pub activation_of_cfb : Request
activation_of_cfb =
    request_of 1 1 (forwarded_of (number_of unknown 0 (0x32 ∷ 0x34 ∷ 0x36 ∷ 0x38 ∷ 0x30 ∷ [])) (sub_of [])) all_numbers

-- "Profile: unknown 13579 alone, no MSN, speech, cfb, in use, counted, no prefix": the record as docs/RECORDS.md lays it out
-- over its notification option
abbrev pub access_with : ℕ → List ℕ
access_with option =
    1 ∷ 0 ∷ 0 ∷ 5 ∷ 0x31 ∷ 0x33 ∷ 0x35 ∷ 0x37 ∷ 0x39 ∷ replicate 84 0
    ++ (1 ∷ 1 ∷ replicate 5 0)
    ++ (0 ∷ 1 ∷ 0 ∷ 0 ∷ 0 ∷ 1 ∷ 1 ∷ option ∷ 0 ∷ 5 ∷ 0 ∷ replicate 336 0)

abbrev pub sample_access : List ℕ
sample_access = access_with 0

-- "not subscribed, identifier 1": an interrogation of cfu
abbrev pub other_octets : List ℕ
other_octets =
    0xA1 ∷ 0x10 ∷ 0x02 ∷ 0x01 ∷ 0x01 ∷ 0x02 ∷ 0x01 ∷ 0x0B ∷ 0x30 ∷ 0x08 ∷ 0x0A ∷ 0x01 ∷ 0x00 ∷ 0x0A ∷ 0x01 ∷ 0x00 ∷ 0x05 ∷ 0x00 ∷ []

-- the one instance, speech for 13579, and the table that holds it
abbrev pub activated_instances : List Instance
activated_instances = instance_of 1 0 1 activation_of_cfb.to.address ∷ []

abbrev pub activated_table : Table
activated_table = table_of 2 (packed activated_instances)

-- a call of speech for 13579 that met busy, over its counter and the chain's notification option
abbrev pub call_with : ℕ → ℕ → List ℕ
call_with counter option = 0 ∷ 1 ∷ 1 ∷ counter ∷ option ∷ 0 ∷ 0 ∷ 0 ∷ replicate 20 0

-- "Sheet `01 02 01 01 00 01 00 00 05 02 04 06 08 00 00`"
abbrev pub night_sheet : List ℕ
night_sheet =
    0x01 ∷ 0x02 ∷ 0x01 ∷ 0x01 ∷ 0x00 ∷ 0x01 ∷ 0x00 ∷ 0x00 ∷ 0x05 ∷ 0x02 ∷ 0x04 ∷ 0x06 ∷ 0x08 ∷ 0x00 ∷ 0x00 ∷ []

-- "`form 1 last 2 count 1` then `cfb 0 1 u 24680 -`", and "`refused 9`"
abbrev pub night_listing : List ℕ
night_listing =
    0x66 ∷ 0x6F ∷ 0x72 ∷ 0x6D ∷ 0x20 ∷ 0x31 ∷ 0x20 ∷ 0x6C ∷ 0x61 ∷ 0x73 ∷ 0x74 ∷ 0x20 ∷ 0x32 ∷ 0x20 ∷ 0x63 ∷ 0x6F ∷ 0x75 ∷ 0x6E ∷ 0x74 ∷ 0x20 ∷ 0x31 ∷ 0x0A
    ∷ 0x63 ∷ 0x66 ∷ 0x62 ∷ 0x20 ∷ 0x30 ∷ 0x20 ∷ 0x31 ∷ 0x20 ∷ 0x75 ∷ 0x20 ∷ 0x32 ∷ 0x34 ∷ 0x36 ∷ 0x38 ∷ 0x30 ∷ 0x20 ∷ 0x2D ∷ 0x0A ∷ []

-- the activation in words
abbrev pub activation_text : List ℕ
activation_text =
    chars "tag a1 length 19\n"
    ++ chars "  tag 02 length 01 contents 02\n"
    ++ chars "  tag 02 length 01 contents 07\n"
    ++ chars "  tag 30 length 11\n"
    ++ chars "    tag 0a length 01 contents 01\n"
    ++ chars "    tag 0a length 01 contents 01\n"
    ++ chars "    tag 30 length 07\n"
    ++ chars "      tag 80 length 05 contents 3234363830\n"
    ++ chars "    tag 05 length 00\n"
    ++ chars "invoke 2: activation of cfb service 1 for all numbers to u 24680 -\n"

abbrev pub refused_listing : List ℕ
refused_listing = 0x72 ∷ 0x65 ∷ 0x66 ∷ 0x75 ∷ 0x73 ∷ 0x65 ∷ 0x64 ∷ 0x20 ∷ 0x39 ∷ 0x0A ∷ []

-- a sheet with the longest listing: the identifier 32,767, and 8 instances of each procedure, two services of two digits for each number,
-- with 20 digits of public type 1 and 20 octets of subaddress
abbrev pub longest_instance : ℕ → List ℕ
longest_instance j =
    (j / 8) ∷ (j % 8 / 2) ∷ (41 + j % 2) ∷ 1 ∷ 1 ∷ 20 ∷ replicate 20 9 ++ (20 ∷ replicate 20 0x7F)

abbrev pub longest_sheet : List ℕ
longest_sheet = 0x01 ∷ 0xFF ∷ 0xFF ∷ 0x01 ∷ 24 ∷ gathered longest_instance 24

-- an end that has used so many identifiers and waits for no answer, over its picture; and that end with a request outstanding, all known
-- before it, over the mark of cfb
abbrev pub end_at : ℕ → List Instance → End
end_at used is = record {
  used = used;
  outstanding = 0;
  operation = 0;
  before = mark_no doubt;
  request = no_request;
  marks = mark_no known ∷ mark_no known ∷ mark_no known ∷ [];
  picture = packed is;
}

abbrev pub waiting_at : ℕ → ℕ → Request → ℕ → End
waiting_at used operation r mark = record {
  used = used;
  outstanding = 1;
  operation = operation;
  before = mark_no known;
  request = r;
  marks = mark_no known ∷ mark ∷ mark_no known ∷ [];
  picture = packed [];
}

abbrev pub interrogating_end : End
interrogating_end = waiting_at 1 interrogation interrogation_of_cfb (mark_no known)

abbrev pub activating_end : End
activating_end = waiting_at 2 activation activation_of_cfb (mark_no doubt)

abbrev pub samples : List Sample
samples =
    -- "identifier 128 is `02 02 00 80`, −128 is `02 01 80`"; "`02 02 00 7F` is unreadable"
    reads_identifier (0x02 ∷ 0x02 ∷ 0x00 ∷ 0x80 ∷ []) (got (pos 128) 4)
    ∷ writes_identifier (pos 128) (0x02 ∷ 0x02 ∷ 0x00 ∷ 0x80 ∷ [])
    ∷ reads_identifier (0x02 ∷ 0x01 ∷ 0x80 ∷ []) (got (negsuc 127) 3)
    ∷ writes_identifier (negsuc 127) (0x02 ∷ 0x01 ∷ 0x80 ∷ [])
    ∷ reads_identifier (0x02 ∷ 0x02 ∷ 0x00 ∷ 0x7F ∷ []) wrong
    -- "300 in groups: `AC 02`"; "`80 00` refused"
    ∷ reads_groups (0xAC ∷ 0x02 ∷ []) (got (Some 300) 2)
    ∷ writes_groups 300 (0xAC ∷ 0x02 ∷ [])
    ∷ reads_groups (0x80 ∷ 0x00 ∷ []) wrong
    -- the two requests, heard, read and written
    ∷ hears_component interrogation_octets (heard.Asks (pos 1) (local (pos interrogation)) 8 18)
    ∷ reads_request interrogation interrogation_octets 8 interrogation_of_cfb
    ∷ writes_request (pos 1) interrogation interrogation_of_cfb interrogation_octets
    ∷ hears_component activation_octets (heard.Asks (pos 2) (local (pos activation)) 8 27)
    ∷ reads_request activation activation_octets 8 activation_of_cfb
    ∷ writes_request (pos 2) activation activation_of_cfb activation_octets
    -- "empty input" is not one element
    ∷ hears_component [] heard.NotOne
    -- the replies: "`A2 03 02 01 02`", the duplicate, "not subscribed, identifier 1", and that to the empty input
    ∷ answers (answer.Result (pos 2)) [] activated_octets
    ∷ answers (answer.Reject (whose.Own (pos 2)) (problem.Invoke 0)) [] duplicate_octets
    ∷ answers (answer.Error (pos 1) 0) [] (0xA3 ∷ 0x06 ∷ 0x02 ∷ 0x01 ∷ 0x01 ∷ 0x02 ∷ 0x01 ∷ 0x00 ∷ [])
    ∷ answers (answer.Reject whose.Null (problem.General 2)) [] (0xA4 ∷ 0x05 ∷ 0x05 ∷ 0x00 ∷ 0x80 ∷ 0x01 ∷ 0x02 ∷ [])
    -- "fresh reply", written, and read by the end
    ∷ answers (answer.Listing (pos 1)) [] fresh_octets
    ∷ told (pos 1) interrogation fresh_octets (reply.Listed 12 12)
    ∷ lists_entries fresh_octets 12 12 []
    -- the other replies, read by the end
    ∷ told (pos 2) activation activated_octets reply.Done
    ∷ told (pos 2) activation duplicate_octets reply.Rejected
    ∷ told (pos 1) interrogation (0xA3 ∷ 0x06 ∷ 0x02 ∷ 0x01 ∷ 0x01 ∷ 0x02 ∷ 0x01 ∷ 0x00 ∷ []) (reply.Failed (pos 0))
    ∷ told (pos 1) interrogation (0xA4 ∷ 0x05 ∷ 0x05 ∷ 0x00 ∷ 0x80 ∷ 0x01 ∷ 0x02 ∷ []) reply.Dropped
    -- the exchange: the interrogation of a fresh table, the activation, the latter again, what is not subscribed, and no octet
    ∷ arrives sample_access fresh_table interrogation_octets fresh_octets (table_of 1 (packed []))
    ∷ arrives sample_access fresh_table activation_octets activated_octets activated_table
    ∷ arrives sample_access activated_table activation_octets duplicate_octets activated_table
    ∷ arrives sample_access fresh_table other_octets
    (0xA3 ∷ 0x06 ∷ 0x02 ∷ 0x01 ∷ 0x01 ∷ 0x02 ∷ 0x01 ∷ 0x00 ∷ []) (table_of 1 (packed []))
    ∷ arrives sample_access fresh_table [] (0xA4 ∷ 0x05 ∷ 0x05 ∷ 0x00 ∷ 0x80 ∷ 0x01 ∷ 0x02 ∷ []) fresh_table
    -- "counter 4, limit 5: diverted, counter 5"; "counter 5: refusal 6; no instance: not diverted"
    ∷ diverts_to sample_access activated_table (call_with 4 0) (tells (diverts 2 0)) 5 0
    ∷ diverts_to sample_access activated_table (call_with 5 0) (refuses 6) 0 0
    ∷ diverts_to sample_access fresh_table (call_with 5 0) (tells passes) 0 0
    -- "option 2 received, profile 1, counter 1: 1"
    ∷ diverts_to (access_with 1) activated_table (call_with 1 2) (tells (diverts 2 1)) 2 1
    -- the table that the activation left as a night sheet, its listing, and that of no sheet
    ∷ writes_sheet sample_access activated_table night_sheet
    ∷ prints_sheet night_sheet night_listing
    ∷ prints_sheet [] refused_listing
    -- the least output for a listing is no larger than there is need for
    ∷ fills_listing longest_sheet
    -- the end: the interrogation and its fresh reply, the activation, that first reply once more, and the activation's own
    ∷ end_sends sample_access interrogation interrogation_of_cfb fresh_end interrogation_octets interrogating_end
    ∷ end_takes sample_access interrogating_end fresh_octets (end_at 1 [])
    ∷ end_shows sample_access (end_at 1 []) 1 (tells (seen_known 0))
    ∷ end_sends sample_access activation activation_of_cfb (end_at 1 []) activation_octets activating_end
    ∷ end_takes sample_access activating_end fresh_octets activating_end
    ∷ end_takes sample_access activating_end activated_octets (end_at 2 activated_instances)
    ∷ end_shows sample_access (end_at 2 activated_instances) 1 (tells (seen_known 1))
    -- the least output for a component and for a sheet is no larger than there is need for
    ∷ fills_reply wide_access full_table last_interrogation
    ∷ fills_sheet wide_access full_table
    -- in words: the activation, and the reply to it
    ∷ explains activation_octets activation_text
    ∷ explains activated_octets
    (chars "tag a2 length 03\n  tag 02 length 01 contents 02\nrow 2: result, identifier 2: answered by silence\n")
    ∷ []
