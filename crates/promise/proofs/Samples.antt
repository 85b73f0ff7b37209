-- Every sample of the table holds of the definitions, by computing. Assumes nothing.
use Prim.Native.Nat.{ℕ, zero, suc}
use mathlib.Core.Path.{◌≡◌, refl, subst}
use mathlib.Core.List.{List, [], ◌∷◌}
use mathlib.Core.Logic.{inl}
use native.Mathlib.Omega.{arith}
use lib.ListN.{length, drop}
use Rattle.laws.specs.Fewest.{fewest_from}
use Rattle.octets.specs.Word.{word_at, word_octets}
use Rattle.octets.specs.Head.{span_of, length_at, head_at}
use Rattle.octets.specs.Element.{length_holds, length_with, length_fewest}
use Rattle.values.specs.Enumerated.{enumerated_at}
use Rattle.values.specs.Ident.{half, twos, bits, ident_holds, ident_in, ident_at, ident_fewest}
use Rattle.skip.specs.Skip.{fills}
use Rattle.groups.specs.Groups.{groups_in, groups_at, groups_with, groups}
use Rattle.codes.specs.Codes.{place_of, service_code, procedure_code, activation, interrogation}
use Rattle.numbers.specs.Number.{fair, digits_good, digits_in, number_at, number_octets, number_good}
use Rattle.codes.specs.Digits.{all_digits, type_good}
use Rattle.numbers.specs.Address.{sub_at, address_at, sub_octets, address_octets, address_good}
use Rattle.lists.specs.Entry.{entry_octets, kept, last_field, codes_in, fields_in, entry_at}
use Rattle.lists.specs.Entries.{entries_octets, entries_from}
use Rattle.lists.specs.Listed.{list_octets}
use Rattle.answers.specs.Answer.{answer_octets}
use Rattle.answers.specs.Reply.{failed_at, set_at, sequence_at, list_at, result_at, own_at, reply, said_at, same_ident}
use Rattle.requests.specs.Heard.{reply_tag, operation_at, identifier_at, heard}
use Rattle.requests.specs.Request.{no_request, code_at, service_at, served_at, privates, last_in, activation_in, interrogation_in, contents_in, argument_at}
use Rattle.requests.specs.Sent.{served_good, to_good, parts_good, sendable, served_octets, to_octets, request_octets}
use Rattle.laws.specs.Places.{every_to, each_from, gathered}
use Rattle.profile.specs.Access.{number_from, prefix_from, prefixes_from, profile_from, access_read}
use Rattle.profile.specs.Profile.{same_digits, same_number, same, place_in, numbers_good, rising, services_good, prefix_good, prefixes_good}
use Rattle.profile.specs.Profile.{subscriptions_good, uses_good, diversion_good, profile_good}
use Rattle.laws.specs.Those.{those}
use Rattle.instances.specs.Instance.{key, named, selected, concerns, chosen, is_at, among, instance_fits}
use Rattle.instances.specs.Places.{places_from, places_of}
use Rattle.instances.specs.Run.{served_number, forwarded_to, merged, ascending, each_good, few_of_each, run_good}
use Rattle.rules.specs.Prefix.{begins, begins_any}
use Rattle.rules.specs.Judge.{is_subscribed, has_all_numbers, served_invalid, not_provided, other_kind, selected_same, fits, afterwards, judge}
use Rattle.rules.specs.Judge.{changed, applied}
use Rattle.rules.specs.Selection.{number_asked, selection_of}
use Rattle.exchange.specs.Table.{table_good}
use Rattle.exchange.specs.Question.{not_above, duplicate, known_operation, invoked, question}
use Rattle.exchange.specs.Step.{last_after, result_of, handled, step}
use Rattle.exchange.specs.Arrive.{done}
use Rattle.calls.specs.Onward.{reason_of, options_of, option_after, preference_after, original_shown}
use Rattle.calls.specs.Call.{call_from, names_good, values_good, original_good, call_good}
use Rattle.calls.specs.Divert.{procedure_of, applying, served_of, noticed, onward, comes}
use Rattle.forms.specs.Instance.{all_groups, instance_octets, field_at, fields_at, address_from, instance_from}
use Rattle.forms.specs.Sheet.{instances_octets, sheet_octets, instances_from, in_order, sheet_in}
use Rattle.texts.specs.Word.{decimal_in, decimal, procedure_name, kind_text, hex_of, hex_text, sub_text}
use Rattle.listings.specs.Listing.{line_of, header_line, instance_line, instance_lines, listing, listed_sheet, refused_line, printed_sheet}
use Rattle.explanations.specs.Text.{signed_text, number_text, served_text, octets_word, sub_word, to_text, operation_text, argument_text, request_line}
use Rattle.explanations.specs.Elements.{blanks, contents_text, element_line, siblings, element_lines, lines_in}
use Rattle.explanations.specs.Explained.{reply_word, value_text, reply_text, reply_of, operation_no, is_operation, asked_text, said, explained}
use Rattle.sheets.specs.Sheets.{wrote_sheet}
use Rattle.refusals.specs.Refusal.{tells, output_least}
use Rattle.exchange.specs.Table.{table_of, fresh_table}
use Rattle.exchange.specs.declared.table.Table.{Table}
use Rattle.end.specs.declared.end.End.{End}
use Rattle.instances.specs.Run.{packed}
use Rattle.instances.specs.declared.run.Run.{Run}
use Rattle.end.specs.End.{mark_at, marked, closed, marks_good, waiting_good, end_good}
use Rattle.end.specs.Listed.{sorted, instances_listed, list_good}
use Rattle.end.specs.Sending.{marks_sent, sent, sends}
use Rattle.end.specs.Taking.{learned, took, gave_up, takes, gives_up}
use Rattle.end.specs.Shown.{seen_known, shown, entries_out}
use Rattle.demand.specs.Machine as machine
use Rattle.demand.specs.Machine.{Machine, World, Trace, still, further}
use Rattle.promise.specs.Samples.{Sample, Each, samples, sample_access, activation_octets, activated_octets, activation_of_cfb, interrogation_of_cfb, activated_table}
use Rattle.promise.specs.Demand.{Asking, sized, machine, begin, entries_held, Handled}
use Rattle.promise.specs.DemandRun.{sample_procedure, SampleRun, SampleHandled}

pub each_sample : Each samples
unfolding fewest_from word_at word_octets span_of length_at head_at length_holds length_with length_fewest enumerated_at half twos bits ident_holds
    ident_in ident_at ident_fewest fills groups_in groups_at groups_with groups place_of service_code procedure_code all_digits fair type_good
    digits_good digits_in number_at number_octets sub_at address_at sub_octets address_octets reply_tag operation_at identifier_at heard code_at
    service_at served_at privates last_in activation_in interrogation_in contents_in argument_at served_octets to_octets request_octets
    answer_octets entries_octets entries_from list_octets same_ident failed_at set_at sequence_at list_at result_at own_at reply every_to
    each_from gathered number_good address_good number_from prefix_from prefixes_from profile_from access_read same_digits
    same_number same place_in numbers_good rising services_good prefix_good prefixes_good subscriptions_good uses_good diversion_good
    profile_good those key named selected concerns chosen is_at among instance_fits places_from places_of served_number forwarded_to merged
    ascending each_good few_of_each run_good is_subscribed has_all_numbers served_invalid not_provided other_kind begins begins_any selected_same
    fits afterwards judge changed applied number_asked selection_of table_good not_above duplicate known_operation invoked question last_after
    result_of handled step done reason_of options_of option_after preference_after original_shown call_from names_good values_good original_good
    call_good procedure_of applying served_of noticed onward comes all_groups instance_octets field_at fields_at address_from instance_from
    instances_octets sheet_octets instances_from in_order sheet_in decimal_in decimal procedure_name kind_text hex_of hex_text sub_text line_of
    header_line instance_line instance_lines listing listed_sheet refused_line printed_sheet wrote_sheet said_at mark_at marked closed
    marks_good waiting_good end_good served_good to_good parts_good sendable marks_sent sent sends learned took takes shown
    sorted instances_listed list_good entry_octets blanks contents_text element_line siblings element_lines lines_in signed_text number_text
    served_text
    octets_word sub_word to_text operation_text argument_text request_line reply_word value_text reply_text reply_of operation_no is_operation
    asked_text said explained
each_sample =
    let words : Each (drop 48 samples) = (refl, (refl, tt)) in
    let longest : Each (drop 46 samples) = ((refl, refl), (refl, words)) in
    let dialogue : Each (drop 39 samples) = ((refl, refl), (refl, (refl, ((refl, refl), (refl, (refl, (refl, longest))))))) in
    let sheets : Each (drop 35 samples) = (refl, (refl, (refl, (refl, dialogue)))) in
    let calls : Each (drop 31 samples) = ((refl, refl, refl), ((refl, refl, refl), ((refl, refl, refl), ((refl, refl, refl), sheets)))) in
    let arrivals : Each (drop 26 samples) = ((refl, refl), ((refl, refl), ((refl, refl), ((refl, refl), ((refl, refl), calls))))) in
    let replies : Each (drop 13 samples) =
    (refl, (refl, (refl, (refl, (refl, (refl, (refl, (refl, (refl, (refl, (refl, (refl, (refl, arrivals))))))))))))) in
    (refl, (refl, (refl, (refl, (refl, (refl, (refl, (refl, (refl, (refl, (refl, (refl, (refl, replies)))))))))))))

-- the samples from a row on
from : (k : ℕ) (xs : List Sample) → Each xs → Each (drop k xs)
from zero xs each = each
from (suc k) [] each = tt
from (suc k) (x ∷ xs) each = from k xs each.1

pub row : (k : ℕ) → Each (drop k samples)
row k = from k samples each_sample

-- ---- demand 3

abbrev activates : Asking
activates = record { operation = activation; request = activation_of_cfb }

abbrev interrogates : Asking
interrogates = record { operation = interrogation; request = interrogation_of_cfb }

-- an end that waits for a request with the identifier n, and one that waits for none, cfb being in doubt or known
abbrev waits_for : ℕ → ℕ → Asking → End
waits_for n before a = record {
  used = n;
  outstanding = 1;
  operation = a.operation;
  before = before;
  request = a.request;
  marks = 1 ∷ 0 ∷ 1 ∷ [];
  picture = packed [];
}

abbrev waits_not : ℕ → ℕ → Run → End
waits_not n mark picture = record {
  used = n;
  outstanding = 0;
  operation = 0;
  before = 0;
  request = no_request;
  marks = 1 ∷ mark ∷ 1 ∷ [];
  picture = picture;
}

-- the first activation, and the interrogation, which is the third request
abbrev first_octets : List ℕ
first_octets =
    0xA1 ∷ 0x19 ∷ 0x02 ∷ 0x01 ∷ 0x01 ∷ 0x02 ∷ 0x01 ∷ 0x07 ∷ 0x30 ∷ 0x11 ∷ 0x0A ∷ 0x01 ∷ 0x01 ∷ 0x0A ∷ 0x01 ∷ 0x01
    ∷ 0x30 ∷ 0x07 ∷ 0x80 ∷ 0x05 ∷ 0x32 ∷ 0x34 ∷ 0x36 ∷ 0x38 ∷ 0x30 ∷ 0x05 ∷ 0x00 ∷ []

abbrev third_octets : List ℕ
third_octets =
    0xA1 ∷ 0x10 ∷ 0x02 ∷ 0x01 ∷ 0x03 ∷ 0x02 ∷ 0x01 ∷ 0x0B ∷ 0x30 ∷ 0x08 ∷ 0x0A ∷ 0x01 ∷ 0x01 ∷ 0x0A ∷ 0x01 ∷ 0x00 ∷ 0x05 ∷ 0x00 ∷ []

-- the list
abbrev listing_octets : List ℕ
listing_octets =
    0xA2 ∷ 0x22 ∷ 0x02 ∷ 0x01 ∷ 0x03 ∷ 0x30 ∷ 0x1D ∷ 0x02 ∷ 0x01 ∷ 0x0B ∷ 0x31 ∷ 0x18 ∷ 0x30 ∷ 0x16 ∷ 0x80 ∷ 0x05 ∷ 0x31 ∷ 0x33 ∷ 0x35 ∷
    0x37 ∷ 0x39
    ∷ 0x0A ∷ 0x01 ∷ 0x01 ∷ 0x0A ∷ 0x01 ∷ 0x01 ∷ 0x30 ∷ 0x07 ∷ 0x80 ∷ 0x05 ∷ 0x32 ∷ 0x34 ∷ 0x36 ∷ 0x38 ∷ 0x30 ∷ []

abbrev M : Machine
M = machine sample_access

abbrev moment : Table → End → List (List ℕ) → List (List ℕ) → World M
moment t e up down = record { table = t; end = e; up = up; down = down }

abbrev interrogated_table : Table
interrogated_table = table_of 3 activated_table.run

abbrev w1 : World M
w1 = moment fresh_table (waits_for 1 1 activates) (first_octets ∷ []) []

abbrev w2 : World M
w2 = moment fresh_table (waits_not 1 0 (packed [])) (first_octets ∷ []) []

abbrev w3 : World M
w3 = moment fresh_table (waits_for 2 0 activates) (activation_octets ∷ first_octets ∷ []) []

abbrev w4 : World M
w4 = moment activated_table (waits_for 2 0 activates) (activation_octets ∷ first_octets ∷ []) (activated_octets ∷ [])

abbrev w5 : World M
w5 = moment activated_table (waits_not 2 0 (packed [])) (activation_octets ∷ first_octets ∷ []) (activated_octets ∷ [])

abbrev w6 : World M
w6 = moment activated_table (waits_for 3 0 interrogates) (third_octets ∷ activation_octets ∷ first_octets ∷ []) (activated_octets ∷ [])

abbrev w7 : World M
w7 =
    moment interrogated_table (waits_for 3 0 interrogates) (third_octets ∷ activation_octets ∷ first_octets ∷ [])
    (listing_octets ∷ activated_octets ∷ [])

abbrev w8 : World M
w8 =
    moment interrogated_table (waits_not 3 1 activated_table.run) (third_octets ∷ activation_octets ∷ first_octets ∷ [])
    (listing_octets ∷ activated_octets ∷ [])

-- each moment follows on the one before
abbrev Follows : Type 0
Follows =
    (machine.after M (begin sample_access) (machine.sends_up output_least activates) ≡ w1)
    × (machine.after M w1 machine.end_gives_up ≡ w2)
    × (machine.after M w2 (machine.sends_up output_least activates) ≡ w3)
    × (machine.after M w3 (machine.handles output_least activation_octets (inl refl)) ≡ w4)
    × (machine.after M w4 machine.end_gives_up ≡ w5)
    × (machine.after M w5 (machine.sends_up output_least interrogates) ≡ w6)
    × (machine.after M w6 (machine.handles output_least third_octets (inl refl)) ≡ w7)
    × (machine.after M w7 (machine.comes_down listing_octets (inl refl)) ≡ w8)
    × (shown sample_access w8.end sample_procedure ≡ tells (seen_known 1))
    × (length (entries_out sample_access w8.end sample_procedure) ≡ 1)
    × (length (entries_held sample_access w8.table sample_procedure) ≡ 1)
    × Handled sample_access w6 output_least listing_octets

follows : Follows
unfolding fewest_from word_at word_octets span_of length_at head_at length_holds length_with length_fewest enumerated_at half twos bits ident_holds
    ident_in ident_at ident_fewest fills place_of service_code procedure_code all_digits fair type_good digits_good digits_in number_at
    number_octets sub_at address_at sub_octets address_octets reply_tag operation_at identifier_at heard code_at service_at served_at privates
    last_in activation_in interrogation_in contents_in argument_at served_octets to_octets request_octets answer_octets entries_octets entries_from
    list_octets same_ident failed_at set_at sequence_at list_at result_at own_at reply every_to each_from gathered number_good address_good
    number_from prefix_from prefixes_from profile_from access_read same_digits same_number same place_in numbers_good rising services_good
    prefix_good prefixes_good subscriptions_good uses_good diversion_good profile_good those key named selected concerns chosen is_at among
    instance_fits places_from places_of served_number forwarded_to merged ascending each_good few_of_each run_good is_subscribed has_all_numbers
    served_invalid not_provided other_kind begins begins_any selected_same fits afterwards judge changed applied number_asked selection_of
    table_good not_above duplicate known_operation invoked question last_after result_of handled step done said_at sendable parts_good to_good
    served_good
    sized mark_at marked closed marks_good waiting_good end_good sorted instances_listed list_good marks_sent sent sends learned took gave_up
    takes gives_up shown entry_octets entry_at fields_in codes_in last_field kept
    machine.sending machine.replying machine.ending machine.after machine.start
follows =
    let handled : Handled sample_access w6 output_least listing_octets = record {
      outstanding = refl;
      interrogates = refl;
      allowed = record { used = refl; subscribed = refl; whole = inl refl };
      arrives = inl refl;
      new = omega arith;
      replies = refl;
    } in
    (refl, refl, refl, refl, refl, refl, refl, refl, refl, refl, refl, handled)

to : {u v : World M} (x : machine.Happening M u) → machine.after M u x ≡ v → Trace M (begin sample_access) u → Trace M (begin sample_access) v
to x is run = subst (Trace M (begin sample_access)) is (further run x)

-- an activation is sent and lost, another is handled and its result lost, and an interrogation is sent
asks : Trace M (begin sample_access) w6
asks =
    to (machine.sends_up output_least interrogates) follows.5
    (to machine.end_gives_up follows.4
    (to (machine.handles output_least activation_octets (inl refl)) follows.3
    (to (machine.sends_up output_least activates) follows.2
    (to machine.end_gives_up follows.1
    (to (machine.sends_up output_least activates) follows.0 still)))))

-- and handled
pub sample_handled : SampleHandled
sample_handled = record { asks = w6; run = asks; result = listing_octets; handled = follows.11 }

-- demand 3 speaks of runs in which something is known: its result is heard
pub sample_run : SampleRun
sample_run =
    let run : Trace M (begin sample_access) w8 =
    to (machine.comes_down listing_octets (inl refl)) follows.7
    (to (machine.handles output_least third_octets (inl refl)) follows.6 asks) in
    record { ends = w8; run = run; sent = refl; answered = refl; known = follows.8; out = follows.9; held = follows.10 }
